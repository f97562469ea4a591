-- One turn of a run of bytes, by what the field at its start does.
use Rattle.std.proofs.Common.{◌≡◌, ℕ, suc, ◌-◌, Bool, true, false, cond, ◌||◌, leb, List, [], length, drop, refl, ap, ◌∙◌}
use Rattle.chunks.specs.declared.State.{State}
use Rattle.chunks.specs.declared.Verdict.{Verdict}
use Rattle.chunks.specs.declared.What.TheVariants.{More, Full, Over}
use Rattle.chunks.specs.Took.{Move, On, Wait, End, Took, took_as, took_of}
use Rattle.chunks.specs.Heard.{line_of, Heard, heard, behind, heard_from}

-- one more line may be written
abbrev pub has_room : (quiet : Bool) → ℕ → Bool
has_room q room = q || leb 64 room

abbrev pub line_if : (quiet : Bool) → State → List ℕ → List ℕ
line_if q st bs = cond q [] (line_of st bs)

abbrev pub turn : Bool → State → (line : List ℕ) → (ℕ → Heard) → Move → Heard
turn r st line next m = cond r (elim m [ On n ↦ behind n line (next n) | Wait ↦ heard More st | End v ↦ heard (Over v) st ]) (heard Full st)

module _ (k : ℕ) (q : Bool) (room : ℕ) (st : State) (bs : List ℕ) where
  abbrev pub after : ℕ → Heard
  after n = heard_from k q (room - length (line_if q st bs)) (took_of st bs).state (drop n bs)

  pub by_turn : (r : Bool) (m : Move) → has_room q room ≡ r → (took_of st bs).how ≡ m → heard_from (suc k) q room st bs ≡ turn r st (line_if q st bs) after m
  unfolding heard_from
  by_turn r m p e = rw (p, e)

  pub heard_full : has_room q room ≡ false → heard_from (suc k) q room st bs ≡ heard Full st
  heard_full r = by_turn false (took_of st bs).how r refl

  module _ (r : has_room q room ≡ true) where
    pub heard_on : {n : ℕ} {next : State} → took_of st bs ≡ took_as (On n) next →
        heard_from (suc k) q room st bs ≡ behind n (line_if q st bs) (heard_from k q (room - length (line_if q st bs)) next (drop n bs))
    heard_on {n} e =
        by_turn true (On n) r (ap (λ (t : Took). t.how) e)
        ∙ ap (λ (t : Took). behind n (line_if q st bs) (heard_from k q (room - length (line_if q st bs)) t.state (drop n bs))) e

    pub heard_waits : {next : State} → took_of st bs ≡ took_as Wait next → heard_from (suc k) q room st bs ≡ heard More st
    heard_waits e = by_turn true Wait r (ap (λ (t : Took). t.how) e)

    pub heard_ends : {v : Verdict} {next : State} → took_of st bs ≡ took_as (End v) next → heard_from (suc k) q room st bs ≡ heard (Over v) st
    heard_ends {v} e = by_turn true (End v) r (ap (λ (t : Took). t.how) e)

pub what_behind : (n : ℕ) (line : List ℕ) (h : Heard) → (behind n line h).what ≡ h.what
unfolding behind
what_behind n line h = refl
