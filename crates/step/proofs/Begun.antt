-- A quick run begins with its record, and ends with the record put together; what its loop keeps.
use Prim.Native.Nat.{ℕ, zero, suc, ◌-◌, ◌*◌, ◌/◌, ◌≤◌, min}
use mathlib.Core.Path.{◌≡◌, refl, ap, sym, ◌∙◌}
use mathlib.Core.Bool.{Bool, true, false, ◌&&◌}
use mathlib.Core.List.{List}
use native.Mathlib.Nat.{lt_trans, sub-zero}
use native.Mathlib.Omega.{arith}
use lib.Dec.{ltb}
use lib.ListN.{length, drop}
use borrow.Author.Tests.{lt-ltb, ltb-true}
use Rattle.std.specs.Prelude.{Option, Some, None}
use Rattle.rules.specs.Lent.{ledger_to, move_refusal, moved_on}
use Rattle.rules.proofs.Tests.{both_true}
use Rattle.rules.proofs.Ledgers.{as_it_was}
use Rattle.card.specs.Values.{card_of}
use Rattle.card.specs.declared.Delays.{Delays}
use Rattle.pins.specs.declared.Front.{Front}
use Rattle.pins.specs.Fronts.{front_of}
use Rattle.ledger.specs.Values.{ledger_of, code_of, pace_of, unless_refused, Left, deadline_of}
use Rattle.ledger.specs.declared.After.{After}
use Rattle.ledger.proofs.Promises.{code_is}
use Rattle.bank.specs.After.{once_at}
use Rattle.step.specs.declared.single.Single.{Single}
use Rattle.step.specs.Ready.{stands_of}
use Rattle.step.specs.Single.{dues_by}
use Rattle.step.specs.Runs.{ran, behind}
use Rattle.step.specs.declared.quick.Quick.{Quick}
use Rattle.step.specs.Quick.{goes_on, quick_of, quick_in, now_of, EndArgs}
use Rattle.step.proofs.Farther.{from_start}
use Rattle.step.proofs.Cleared.{ready_parts}
use Rattle.step.proofs.Standing.{not_so, stands_so, unrefused}

-- ---- the end of a run
pub end_ledger : (rec : Single) (t : ℕ) → EndArgs rec t → (r : After)
    → Left (move_refusal (card_of rec.card) (pace_of rec.pace) (ledger_of rec.share.ledger) t) (ledger_of rec.share.ledger) (moved_on (card_of rec.card) (pace_of rec.pace) (ledger_of rec.share.ledger) t) r
    → r.ledger ≡ code_of (ledger_to (dues_by rec) (ledger_of rec.share.ledger) t)
end_ledger rec t a r l = sym (code_is r.ledger) ∙ ap code_of (l.ledger ∙ moves)
  where
    moves : unless_refused (move_refusal (card_of rec.card) (pace_of rec.pace) (ledger_of rec.share.ledger) t) (ledger_of rec.share.ledger) (moved_on (card_of rec.card) (pace_of rec.pace) (ledger_of rec.share.ledger) t)
        ≡ ledger_to (dues_by rec) (ledger_of rec.share.ledger) t
    moves = rw (unrefused rec t a) (unfold unless_refused moved_on in refl)

-- what a loop keeps: the run from the start is the run from here
pub record Going (d : Delays) (rec : Single) (v : List ℕ) (most : ℕ) (q : Quick) : Type 0 where
  pub same : quick_of most d rec v ≡ behind q.used (q.used / 10 - q.nops) 0 (quick_of (most - q.used / 10) d (now_of rec q.banks q.bus q.four q.last) (drop q.used v))
  pub kept : q.banks.refpb ≡ rec.share.banks.refpb
  pub stood : stands_of rec ≡ true
  pub ends : EndArgs rec q.last
  pub whole : q.used ≡ 10 * (q.used / 10)
  pub within : q.used ≤ min (10 * most) (length v)
  pub few : q.nops ≤ q.used / 10

-- ---- its beginning
module _ (d : Delays) (rec : Single) (bs : List ℕ) where
  may_begin : (o : Option Front) → goes_on d rec o ≡ true → (stands_of rec && ltb rec.last.at (deadline_of rec.card rec.pace rec.share.ledger)) ≡ true
  unfolding goes_on
  may_begin None e = not_so e
  may_begin (Some f) e =
      let r = ready_parts d rec f.stamp f.pins e in
      rw (r.0, lt-ltb rec.last.at (deadline_of rec.card rec.pace rec.share.ledger) (lt_trans r.1.above r.1.early))

  -- none is taken where the ledger does not stand at the last entry
  not_begun : (stands_of rec && ltb rec.last.at (deadline_of rec.card rec.pace rec.share.ledger)) ≡ false → (most : ℕ) → ran rec 0 0 0 ≡ quick_of most d rec bs
  unfolding quick_of
  not_begun n zero = refl
  not_begun n (suc most) = go (goes_on d rec (front_of bs)) refl
    where
      go : (x : Bool) → goes_on d rec (front_of bs) ≡ x → ran rec 0 0 0 ≡ quick_of (suc most) d rec bs
      go false e = unfold quick_of in rw e
      go true e = not_so (sym n ∙ may_begin (front_of bs) e)

  begins_there : stands_of rec ≡ true → now_of rec rec.share.banks rec.share.bus rec.share.four rec.last.at ≡ rec
  begins_there e =
      let p = stands_so rec e in
      let at = rec.last.at in
      let b = dues_by rec in
      let l : once_at at ≡ rec.last = λ i. record { seen = sym p.seen i; at = at } in
      let s : at ≡ (ledger_of rec.share.ledger).at = unfold ledger_of in sym p.there in
      let g : code_of (ledger_to b (ledger_of rec.share.ledger) at) ≡ rec.share.ledger =
      ap (λ (k : ℕ). code_of (ledger_to b (ledger_of rec.share.ledger) k)) s
      ∙ ap code_of (as_it_was b (ledger_of rec.share.ledger) (unfold ledger_of in p.skips)) ∙ code_is rec.share.ledger in
      λ i. record {
        card = rec.card;
        last = l i;
        pace = rec.pace;
        share = record {
          modes = rec.share.modes;
          counter = rec.share.counter;
          latest = rec.share.latest;
          moves = rec.share.moves;
          bus = rec.share.bus;
          four = rec.share.four;
          banks = rec.share.banks;
          ledger = g i;
        };
      }

  begins : stands_of rec ≡ true → (most : ℕ) → quick_of most d rec bs ≡ behind 0 0 0 (quick_of most d (now_of rec rec.share.banks rec.share.bus rec.share.four rec.last.at) (drop 0 bs))
  begins e most = rw (begins_there e) (sym (from_start (quick_of most d rec bs)))

  module _ (end : ℕ) (es : end ≡ deadline_of rec.card rec.pace rec.share.ledger) (ok : Bool) (os : ok ≡ (stands_of rec && ltb rec.last.at end)) (most : ℕ) where
    pub unbegun : ok ≡ false → ran rec 0 0 0 ≡ quick_of most d rec bs
    unbegun n = not_begun (sym (rw es at os) ∙ n) most

    pub begun : ok ≡ true → Going d rec bs most (quick_in rec)
    begun n =
        let p = both_true (stands_of rec) _ (sym os ∙ n) in
        record {
          same = rw (sub-zero most) (begins p.0 most);
          kept = refl;
          stood = p.0;
          ends = record { later = omega (arith, (stands_so rec p.0).there); early = rw (← es) (ltb-true rec.last.at end p.1) };
          whole = refl;
          within = omega arith;
          few = omega arith;
        }
