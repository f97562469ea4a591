-- Over four periods, and a quarter of the duration over one: 250 fs are a quarter of 1000.
use Prim.Native.Nat.{ℕ, ◌*◌, ◌/◌, max}
use mathlib.Core.Path.{◌≡◌, ap, ◌∙◌}
use native.Mathlib.Nat.{mul-div-mul_right}
use native.Mathlib.Omega.{arith}
use Rattle.rules.specs.Units.{femto}
use Rattle.rules.specs.Heat.{interval_at}
use Rattle.card.specs.Values.{card_of}
use Rattle.card.proofs.timings.interval_at.Goals as goal

max-comm : (a b : ℕ) → max a b ≡ max b a
max-comm a b = omega arith

by_quarters : (d k p : ℕ) → 250 * (d * k) / p ≡ femto d * k / (p * 4)
unfolding femto
by_quarters d k p =
    let e : 1000 * d * k ≡ 250 * (d * k) * 4 = omega arith in
    let q : 250 * (d * k) * 4 / (p * 4) ≡ 250 * (d * k) / p = mul-div-mul_right (250 * (d * k)) p (omega arith) in
    rw (e, q)

pub returns : goal.returns
unfolding interval_at card_of
returns c =
    let card = c.args.card in
    c.max.ensures
    ∙ max-comm c.whole_periods.result.0 1
    ∙ ap (max 1) (c.whole_periods.ensures ∙ rw (c.from.ensures, c.quarters.ensures.0) (by_quarters card.trefi _ card.period.0))
