-- One turn of a run: what the quick run takes, and behind it one entry by the table.
use Prim.Native.Nat.{ℕ, ◌-◌, ◌/◌, ◌≤◌, ◌<◌, ◌^◌}
use mathlib.Core.Path.{◌≡◌, refl, sym, ◌∙◌}
use mathlib.Core.List.{List}
use native.Mathlib.Omega.{arith}
use lib.ListN.{length, take, drop}
use Rattle.std.specs.Prelude.{Some, None}
use Rattle.card.specs.declared.Delays.{Delays}
use Rattle.bank.specs.declared.Share.{Share}
use Rattle.bank.proofs.Sizes.{ShareWhole}
use Rattle.step.specs.declared.Ran.{Ran}
use Rattle.step.specs.declared.single.Single.{Single}
use Rattle.step.specs.Runs.{ran, run_of}
use Rattle.step.specs.Single.{whole, ran_with, Ready, RunsTo, TakesOne, SoFar}
use Rattle.step.specs.Parts.{Fitting, onwards}
use Rattle.step.specs.Quick.{quick_of}
use Rattle.step.proofs.Onward.{rest_of, run_part}
use Rattle.step.proofs.Ahead.{quick_part}
use Rattle.step.proofs.Joining.{join, left, Behind, Joined, fitting, joined_so, full, refused, begins, begins_so_far}

module _ (d : Delays) (bs : List ℕ) (most : ℕ) (p : Ran Single) (s : SoFar d bs most p) (arrays : ShareWhole p.rec.share) (small : length bs < 2 ^ 64) where
  -- what the quick run takes
  module _ (q : Ran Single) (quick : q ≡ quick_of (left most p) d p.rec (take (length bs - p.used) (drop p.used bs))) where
    part : Behind bs (left most p) p q
    part x = rw quick (rw (rest_of bs p.used) (quick_part (left most p) d p.rec (drop p.used bs) s.sound arrays x))

    pub quick_fits : Fitting p q
    quick_fits = fitting d bs most p s arrays q part small

    pub quick_then : Joined d bs most p (join p q)
    quick_then = joined_so d bs most p s arrays q part

  -- one entry by the table
  module _ (less : p.used / 10 < most) (o : Ran Single) (one : TakesOne p.rec (drop p.used bs) (Some o)) where
    one_part : Behind bs 1 p o
    one_part x = rw (one.is x) (run_part 1 (whole x p.rec) (drop p.used bs))

    table_part : Behind bs (left most p) p o
    table_part x =
        let h = one_part x in
        record { count = h.count; few = omega (arith, h.few, less); used = h.used; is = h.is }

    pub table_fits : Fitting p o
    table_fits = fitting d bs most p s arrays o table_part small

    pub table_then : Joined d bs most p (join p o)
    table_then = joined_so d bs most p s arrays o table_part

-- where as many as may be were taken the run ends
pub whole_ends : (bs : List ℕ) (most : ℕ) (p : Ran Single) → most ≤ p.used / 10 → (x : Share) → onwards bs most (ran_with x p) ≡ ran_with x p
unfolding ran_with
whole_ends bs most p h x = full bs most (ran_with x p) h

-- and where the table takes none
pub table_ends : (bs : List ℕ) (most : ℕ) (p : Ran Single) → TakesOne p.rec (drop p.used bs) None → (x : Share) → onwards bs most (ran_with x p) ≡ ran_with x p
unfolding ran_with
table_ends bs most p one x = refused bs most (ran_with x p) (rw (← one.is x) refl)

-- ---- turn by turn
-- the whole run stays what it is
pub record Turned (d : Delays) (bs : List ℕ) (most : ℕ) (rec : Single) (p : Ran Single) : Type 0 where
  pub so_far : SoFar d bs most p
  pub arrays : ShareWhole p.rec.share
  pub same : (x : Share) → onwards bs most (ran_with x p) ≡ run_of most (whole x rec) bs

module _ {d : Delays} {bs : List ℕ} {most : ℕ} {rec : Single} where
  pub turned : {p r : Ran Single} → Turned d bs most rec p → Joined d bs most p r → Turned d bs most rec r
  turned t j = record { so_far = j.so_far; arrays = j.arrays; same = λ x. j.same x ∙ t.same x }

  pub turns_end : {p : Ran Single} → Turned d bs most rec p → ((x : Share) → onwards bs most (ran_with x p) ≡ ran_with x p) → RunsTo most rec bs p
  turns_end t e x = sym (e x) ∙ t.same x

pub turns_begin : (d : Delays) (bs : List ℕ) (most : ℕ) (rec : Single) → Ready rec d → ShareWhole rec.share → Turned d bs most rec (ran rec 0 0 0)
turns_begin d bs most rec ready arrays = record { so_far = begins_so_far rec bs most d ready; arrays = arrays; same = begins rec bs most }
