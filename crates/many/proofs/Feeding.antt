-- A call of the judge without lines: what it used was there, and what it leaves waiting is short.
use Prim.Native.Nat.{ℕ, ◌-◌, ◌≤◌, ◌<◌}
use native.Mathlib.Omega.{arith}
use mathlib.Core.Path.{◌≡◌, sym, ◌∙◌}
use mathlib.Core.Bool.{true}
use mathlib.Core.List.{List}
use mathlib.Core.Logic.{◌⊎◌, inl, inr}
use lib.ListN.{length, length-drop}
use Rattle.chunks.specs.declared.State.{State}
use Rattle.chunks.specs.declared.Fed.{Fed}
use Rattle.chunks.specs.declared.What.TheVariants.{More, Full}
use Rattle.chunks.specs.Heard.{Heard, behind, heard_of, FedAs}
use Rattle.chunks.proofs.Walks.{Walk, stops_full, stops_more, stops_over, takes, walk}
use Rattle.judge.proofs.Progress.{used_fits, left_short}

-- it never asks for room
never_full : {room : ℕ} {st : State} {bs : List ℕ} {h : Heard} → Walk true room st bs h → h.what ≡ Full → ⊥
unfolding behind
never_full (stops_full r) e = let z : ◌≡◌ {A = ℕ} 0 1 = cc in omega arith
never_full (stops_more r g) e = let z : ◌≡◌ {A = ℕ} 0 1 = cc in omega arith
never_full (stops_over r g) e = let z : ◌≡◌ {A = ℕ} 0 1 = cc in omega arith
never_full (takes r g w) e = never_full w e

module _ (room : ℕ) (st : State) (bs : List ℕ) {old new : List ℕ} {r : Fed} (p : FedAs (heard_of true room st bs) old new r) where
  pub used_there : r.used ≤ length bs
  used_there = omega (arith, p.used, used_fits true room st bs)

  pub more_short : r.what ≡ More → length bs - r.used < 11
  more_short e =
      let l = left_short true room st bs (sym p.what ∙ e) in
      omega (arith, p.used, l, length-drop (heard_of true room st bs).used bs)

  pub not_full : r.what ≡ Full → ⊥
  not_full e = never_full (walk true room st bs) (sym p.what ∙ e)

  pub short : (r.what ≡ More) ⊎ (r.what ≡ Full) → length bs - r.used < 11
  short (inl e) = more_short e
  short (inr e) = absurd (not_full e)
