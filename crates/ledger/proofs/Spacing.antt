-- The dues of a card at a pace, and the pace from a temperature on.
use Prim.Native.Nat.{ℕ, ◌+◌, ◌*◌, ◌^◌, ◌≤◌, ◌<◌, min}
use mathlib.Core.Path.{◌≡◌}
use mathlib.Core.Bool.{Bool, true, false, cond, ◌||◌}
use mathlib.Core.Option.{some}
use native.Mathlib.Nat.{div-le_self, mul-le-mul_left}
use native.Mathlib.Omega.{arith}
use lib.Dec.{eqb}
use Rattle.rules.specs.Card as paper
use Rattle.rules.specs.Units.{femto}
use Rattle.rules.specs.Heat.{heat, quarters, interval_at}
use Rattle.rules.specs.Account.{next_after}
use Rattle.rules.specs.Account as account
use Rattle.rules.specs.Lent.{beat_of, pace_by}
use Rattle.rules.proofs.Beats.{interval_least}
use Rattle.card.specs.Values.{card_of}
use Rattle.card.specs.declared.Card.{Card}
use Rattle.ledger.specs.declared.Pace.{Pace}
use Rattle.ledger.specs.Values.{pace_of}

-- an interval is in fewer bits than it is stored in, whatever the period
quarters_le : (c : ℕ) → quarters c ≤ 16
unfolding quarters
quarters_le c = go (eqb c 0b001) (eqb c 0b010) (eqb c 0b100) (eqb c 0b101 || eqb c 0b110)
  where
    go : (a b d e : Bool) → cond a 16 (cond b 8 (cond d 2 (cond e 1 4))) ≤ 16
    go true b d e = omega arith
    go false true d e = omega arith
    go false false true e = omega arith
    go false false false true = omega arith
    go false false false false = omega arith

interval_small : (card : paper.Card) (v : ℕ) → card.trefi < 2 ^ 32 → interval_at card v < 2 ^ 46
unfolding interval_at femto
interval_small card v h =
    let q : 1000 * card.trefi * quarters (heat v) ≤ 1000 * card.trefi * 16 = mul-le-mul_left (1000 * card.trefi) (quarters_le (heat v)) in
    omega (arith, div-le_self (1000 * card.trefi * quarters (heat v)) (card.period * 4))

module _ (card : Card) (v i : ℕ) (e : i ≡ interval_at (card_of card) v) where
  pub span_positive : 0 < i
  span_positive = rw e (interval_least (card_of card) v)

  pub span_small : card.trefi < 2 ^ 32 → i < 2 ^ 46
  span_small h = rw e (interval_small (card_of card) v (unfold card_of in h))

-- as the code finds the dues
pub beat_so : (card : paper.Card) (p : Pace) (i : ℕ) → i ≡ interval_at card p.mr4 →
    ◌≡◌ {A = account.Beat} (record { next = p.next; span = i }) (beat_of card (pace_of p))
unfolding beat_of pace_of
beat_so card p i e = rw e

-- and the pace
pub respaced_so : (card : paper.Card) (p : Pace) (n v x i : ℕ) → x ≡ next_after (beat_of card (pace_of p)) n → i ≡ interval_at card v →
    pace_of (record { next = min x (n + i); mr4 = v }) ≡ pace_by card n (some v) (pace_of p)
unfolding pace_by account.respaced
respaced_so card p n v x i ex ei = unfold pace_of in rw (ex, ei)
