-- The parts of a record: their shares, and what the other part's bus tells.
use Prim.Native.Nat.{ℕ, zero, suc, ◌-◌, ◌≤◌, ◌<◌}
use mathlib.Core.Path.{◌≡◌, refl, ap, sym, ◌∙◌}
use mathlib.Core.Bool.{Bool, true, false, cond}
use mathlib.Core.List.{[], ◌∷◌}
use mathlib.Core.Option.{none}
use native.Mathlib.Omega.{arith}
use lib.Dec.{eqb}
use borrow.Author.Tests.{lt-ltb, eqb-true, eqb-false}
use Rattle.rules.specs.Lists.{Every, is_one_of}
use Rattle.rules.specs.Card.{Card}
use Rattle.rules.specs.Whose.{part_of, other, parts}
use Rattle.rules.specs.Delays.{Ask, last_rd, last_wr, last_rd_or_mrr, Question, means, latest_of, lagging_of}
use Rattle.rules.specs.Lent as lent
use Rattle.rules.specs.Lent.{Lent, has_part, look_in, answers_in}
use Rattle.rules.proofs.Filtered.{IsPart, every_at}
use Rattle.rules.proofs.Bus.{SameBus}
use Rattle.card.specs.Values.{card_of}
use Rattle.pins.specs.Values.{whose_of}
use Rattle.pins.specs.declared.Whose.{Whose}
use Rattle.pins.specs.declared.Whose.TheVariants.{Sole, First, Second, Neither, Both}
use Rattle.bank.specs.Values.{kept, once, noted, asked, share_of, share_at, share_in, lent_of, heard, bus_look, never, never_noted, idle_bus, theirs_of}
use Rattle.bank.specs.declared.Share.{Share}
use Rattle.bank.specs.declared.Record.{Record}

pub part_low : (w : Whose) → part_of (whose_of w) < 2
unfolding part_of whose_of
part_low Sole = omega arith
part_low First = omega arith
part_low Second = omega arith
part_low Neither = omega arith
part_low Both = omega arith

pub share_in_lem : (r : Record) (p : ℕ) → p < 2 → (lent_of r).share p ≡ share_of (share_at r p)
unfolding lent_of share_in
share_in_lem r p h = rw (lt-ltb p 2 h)

first_part : (w : Whose) → eqb (part_of (whose_of w)) 1 ≡ false → part_of (whose_of w) ≡ 0
first_part w e = omega (arith, part_low w, eqb-false (part_of (whose_of w)) 1 e)

module _ (r : Record) (w : Whose) where
  pub own_second : eqb (part_of (whose_of w)) 1 ≡ true → r.second ≡ share_at r (part_of (whose_of w))
  own_second e = rw (eqb-true (part_of (whose_of w)) 1 e)

  pub own_first : eqb (part_of (whose_of w)) 1 ≡ false → r.first ≡ share_at r (part_of (whose_of w))
  own_first e = rw (first_part w e)

  pub theirs_none : r.card.paired ≡ false → idle_bus ≡ theirs_of r (part_of (whose_of w))
  unfolding theirs_of
  theirs_none n = rw n

  pub theirs_first : r.card.paired ≡ true → eqb (part_of (whose_of w)) 1 ≡ true → r.first.bus ≡ theirs_of r (part_of (whose_of w))
  unfolding theirs_of other
  theirs_first n e = rw (n, eqb-true (part_of (whose_of w)) 1 e)

  pub theirs_second : r.card.paired ≡ true → eqb (part_of (whose_of w)) 1 ≡ false → r.second.bus ≡ theirs_of r (part_of (whose_of w))
  unfolding theirs_of other
  theirs_second n e = rw (n, first_part w e)

-- ---- which parts there are
module _ (card : Card) where
  pub is_low : (p : ℕ) → IsPart card p → p < 2
  unfolding has_part parts
  is_low p = go card.paired
    where
      go : (x : Bool) → is_one_of (cond x (0 ∷ 1 ∷ []) (0 ∷ [])) p ≡ true → p < 2
      go true e = every_at (λ (q : ℕ). q < 2) (λ q. q) (0 ∷ 1 ∷ []) (unfold Every in (omega arith, (omega arith, tt))) p e
      go false e = every_at (λ (q : ℕ). q < 2) (λ q. q) (0 ∷ []) (unfold Every in (omega arith, tt)) p e

  pub high_none : (p : ℕ) → 2 ≤ p → has_part card p ≡ false
  high_none p h = go (has_part card p) refl
    where
      go : (x : Bool) → has_part card p ≡ x → x ≡ false
      go true e = let l = is_low p e in absurd (omega arith)
      go false e = refl

  pub first_is : IsPart card 0
  unfolding has_part parts
  first_is = go card.paired
    where
      go : (x : Bool) → is_one_of (cond x (0 ∷ 1 ∷ []) (0 ∷ [])) 0 ≡ true
      go true = unfold is_one_of in refl
      go false = unfold is_one_of in refl

  -- there is a second part where the card has tag 25
  pub second_is : has_part card 1 ≡ card.paired
  unfolding has_part parts
  second_is = go card.paired
    where
      go : (x : Bool) → is_one_of (cond x (0 ∷ 1 ∷ []) (0 ∷ [])) 1 ≡ x
      go true = unfold is_one_of in refl
      go false = unfold is_one_of in refl

  other_is : (p : ℕ) → card.paired ≡ true → IsPart card (other p)
  unfolding other
  other_is zero e = second_is ∙ e
  other_is (suc p) e = let z : 1 - suc p ≡ 0 = omega arith in rw z first_is

  other_not : (p : ℕ) → card.paired ≡ false → IsPart card p → has_part card (other p) ≡ false
  unfolding other
  other_not zero e i = second_is ∙ e
  other_not (suc zero) e i = let z : true ≡ false = sym i ∙ second_is ∙ e in let y : ◌≡◌ {A = ℕ} 0 1 = cc in absurd (omega arith)
  other_not (suc (suc p)) e i = let l = is_low (suc (suc p)) i in absurd (omega arith)

-- ---- the other part's bus
heard_there : (s : Share) → SameBus (bus_look s.bus) (look_in (share_of s).history)
unfolding bus_look look_in heard share_of asked
heard_there s = record { rd = λ b. refl; rd_or_mrr = λ b. refl; wr = λ b. refl }

answers_there : (l : Lent) (p : ℕ) → IsPart l.card p → (q : Question) → answers_in l p q ≡ look_in (l.share p).history q
unfolding answers_in
answers_there l p i q = rw i

answers_none : (l : Lent) (p : ℕ) → has_part l.card p ≡ false → (q : Question) → answers_in l p q ≡ none
unfolding answers_in
answers_none l p i q = rw i

abbrev silent : Ask → Type 0
silent a = (b : ℕ) → bus_look idle_bus (record { ask = a; bank = b }) ≡ none

nothing_heard : silent last_rd × silent last_rd_or_mrr × silent last_wr
unfolding bus_look look_in heard once noted kept never never_noted idle_bus means latest_of lagging_of
nothing_heard = (λ b. refl, λ b. refl, λ b. refl)

-- it tells all that is asked of the other part
pub theirs_heard : (r : Record) (p : ℕ) → IsPart (card_of r.card) p → SameBus (bus_look (theirs_of r p)) (answers_in (lent_of r) (other p))
unfolding theirs_of
theirs_heard r p i = go r.card.paired refl
  where
    low : other p < 2
    low = unfold other in omega arith

    told : r.card.paired ≡ true → (q : Question) → look_in (share_of (share_at r (other p))).history q ≡ answers_in (lent_of r) (other p) q
    told e q =
        let there : IsPart (lent_of r).card (other p) = unfold lent_of in other_is (card_of r.card) p (unfold card_of in e) in
        sym (answers_there (lent_of r) (other p) there q ∙ ap (λ (s : lent.Share). look_in s.history q) (share_in_lem r (other p) low))

    not_told : r.card.paired ≡ false → (q : Question) → none ≡ answers_in (lent_of r) (other p) q
    not_told e q = sym (answers_none (lent_of r) (other p) (unfold lent_of in other_not (card_of r.card) p (unfold card_of in e) i) q)

    go : (x : Bool) → r.card.paired ≡ x → SameBus (bus_look (cond x (share_at r (other p)).bus idle_bus)) (answers_in (lent_of r) (other p))
    go true e =
        let s = heard_there (share_at r (other p)) in
        record { rd = λ b. s.rd b ∙ told e _; rd_or_mrr = λ b. s.rd_or_mrr b ∙ told e _; wr = λ b. s.wr b ∙ told e _ }
    go false e =
        record { rd = λ b. nothing_heard.0 b ∙ not_told e _; rd_or_mrr = λ b. nothing_heard.1 b ∙ not_told e _; wr = λ b. nothing_heard.2 b ∙ not_told e _ }
