-- The ledgers of both parts go on where neither is refused; what that makes of each.
use Prim.Native.Nat.{ℕ}
use mathlib.Core.Path.{◌≡◌, refl, ap, sym, ◌∙◌}
use mathlib.Core.Bool.{Bool, true, false, cond}
use mathlib.Core.Option.{Option, none, some}
use native.Mathlib.Omega.{arith}
use lib.Dec.{ltb}
use Rattle.rules.specs.Checks.{Refusal}
use Rattle.rules.specs.Lent as lent
use Rattle.rules.proofs.Tests.{some_none}
use Rattle.ledger.specs.Values.{ledger_of, refusal_of, unless_refused, after_as, Left}
use Rattle.ledger.specs.declared.After.{After}
use Rattle.ledger.proofs.Promises.{one_left}
use Rattle.bank.specs.declared.Ledgers.{Ledgers}
use Rattle.bank.specs.declared.Paid.{Paid}
use Rattle.bank.specs.Both.{ledgers_as, place_of, comes_before, sooner_of, told_of, second_of, LeftBoth, PaidBy, alone_as, JoinedAs}

-- none is told, where neither is
sooner_none : (x y : Option Refusal) → sooner_of x y ≡ none → (x ≡ none) × (y ≡ none)
unfolding sooner_of comes_before
sooner_none none none e = (refl, refl)
sooner_none none (some y) e = absurd (some_none (sym e))
sooner_none (some x) none e = absurd (some_none (sym e))
sooner_none (some x) (some y) e = go (ltb (place_of y) (place_of x)) e
  where
    go : (b : Bool) → cond b (some y) (some x) ≡ none → (some x ≡ none) × (some y ≡ none)
    go true h = absurd (some_none (sym h))
    go false h = absurd (some_none (sym h))

-- ---- the ledgers then
module _ (x y : Option Refusal) (old : Ledgers) (g h : lent.Ledger) (a : After) (la : Left x (ledger_of old.first) g a) where
  pub paid_alone : (paired : Bool) → paired ≡ false → (r : Paid) → r ≡ alone_as old a → PaidBy paired x y old g h r
  unfolding told_of second_of
  paid_alone true n r e = let z : ◌≡◌ {A = ℕ} 0 1 = cc in absurd (omega arith)
  paid_alone false n r e = record {
    told = ap (λ (s : Paid). refusal_of s.answer) e ∙ la.told;
    first = ap (λ (s : Paid). ledger_of s.ledgers.first) e ∙ la.ledger;
    second = ap (λ (s : Paid). ledger_of s.ledgers.second) e ∙ stays x;
  }
    where
      stays : (o : Option Refusal) → ledger_of old.second ≡ unless_refused o (ledger_of old.second) (ledger_of old.second)
      stays none = unfold unless_refused in refl
      stays (some z) = unfold unless_refused in refl

  pub paid_both : (paired : Bool) → paired ≡ true → (b : After) → Left y (ledger_of old.second) h b → (r : Paid) → JoinedAs old a b r → PaidBy paired x y old g h r
  unfolding told_of second_of
  paid_both false n b lb r j = let z : ◌≡◌ {A = ℕ} 0 1 = cc in absurd (omega arith)
  paid_both true n b lb r j = record {
    told = j.told ∙ same;
    first = ap (λ (s : Ledgers). ledger_of s.first) there ∙ first_there (sooner_of x y) refl;
    second = ap (λ (s : Ledgers). ledger_of s.second) there ∙ second_there (sooner_of x y) refl;
  }
    where
      same : sooner_of (refusal_of a.answer) (refusal_of b.answer) ≡ sooner_of x y
      same = rw (la.told, lb.told)

      there : r.ledgers ≡ unless_refused (sooner_of x y) old (ledgers_as a.ledger b.ledger)
      there = j.ledgers ∙ ap (λ (o : Option Refusal). unless_refused o old (ledgers_as a.ledger b.ledger)) same

      first_there : (o : Option Refusal) → sooner_of x y ≡ o →
          ledger_of (unless_refused o old (ledgers_as a.ledger b.ledger)).first ≡ unless_refused o (ledger_of old.first) g
      first_there none e = unfold unless_refused in (la.ledger ∙ ap (λ (o : Option Refusal). unless_refused o (ledger_of old.first) g) (sooner_none x y e).0)
      first_there (some z) e = unfold unless_refused in refl

      second_there : (o : Option Refusal) → sooner_of x y ≡ o →
          ledger_of (unless_refused o old (ledgers_as a.ledger b.ledger)).second ≡ unless_refused o (ledger_of old.second) h
      second_there none e = unfold unless_refused in (lb.ledger ∙ ap (λ (o : Option Refusal). unless_refused o (ledger_of old.second) h) (sooner_none x y e).1)
      second_there (some z) e = unfold unless_refused in refl

-- two that are told and left so are one
pub one_paid : (o : Option Refusal) (old : Ledgers) (g h : lent.Ledger) (r s : Paid) → LeftBoth o old g h r → LeftBoth o old g h s → r ≡ s
one_paid o old g h r s p q =
    let e = one_left o (ledger_of old.first) g (after_as r.ledgers.first r.answer) (after_as s.ledgers.first s.answer)
    (record { told = p.told; ledger = p.first }) (record { told = q.told; ledger = q.first }) in
    let f = one_left o (ledger_of old.second) h (after_as r.ledgers.second r.answer) (after_as s.ledgers.second s.answer)
    (record { told = p.told; ledger = p.second }) (record { told = q.told; ledger = q.second }) in
    λ i. record { ledgers = record { first = (e i).ledger; second = (f i).ledger }; answer = (e i).answer }
