-- What the histories of a part's entries in an accepted past hold passes refusal 13's tests: no stamp is above the last entry's, and the MR2 values noted are good.
use Prim.Native.Nat.{ℕ, zero, suc}
use mathlib.Core.Path.{◌≡◌, refl}
use mathlib.Core.Bool.{Bool, true, false, cond}
use mathlib.Core.List.{List, [], ◌∷◌}
use mathlib.Core.Option.{some}
use native.Mathlib.Omega.{arith}
use lib.Dec.{leb}
use lib.ListN.{take, get_elem?}
use borrow.Author.Tests.{le-leb}
use Rattle.rules.specs.Lists.{all}
use Rattle.rules.specs.Card.{Card}
use Rattle.rules.specs.Commands.{Command, banks}
use Rattle.rules.specs.Levels.{Move}
use Rattle.rules.specs.Registers.{mr2_good, Modes}
use Rattle.rules.specs.Ranges.{card_good}
use Rattle.rules.specs.Whose.{is_of}
use Rattle.rules.specs.Past.{Past, of_part, last_cycle, modes_at}
use Rattle.rules.specs.Folds.{Found}
use Rattle.rules.specs.Delays.{
  Ask,
  last_mrw,
  last_mrr,
  last_refab,
  last_refpb,
  last_refpb_to,
  last_pre_to,
  last_prea_to,
  last_act_to,
  fourth_last,
  last_rd,
  last_wr,
  last_rd_or_mrr,
  last_rd_to,
  last_rda_to,
  last_wr_to,
  last_wra_to,
  last_fall,
  last_power_exit,
  last_self_exit,
  Question,
  Meaning,
  means,
  unnoted,
  noted_of,
}
use Rattle.rules.specs.Lent.{History, asks, all_stored, not_above, remembered, history_after, last_of, history_of, AllTaken}
use Rattle.rules.proofs.Tests.{both_true}
use Rattle.rules.proofs.Rounds.{AllBelow, Rising}
use Rattle.rules.proofs.Filtered.{below_part}
use Rattle.rules.proofs.Taken.{below_last, mr2_good_lem}

module _ {A : Type 0} (p : A → Bool) where
  all_of : ((x : A) → p x ≡ true) → (l : List A) → all p l ≡ true
  unfolding all
  all_of h [] = refl
  all_of h (x ∷ l) = rw (h x, all_of h l)

  all_cons : (x : A) (l : List A) → p x ≡ true → all p l ≡ true → all p (x ∷ l) ≡ true
  unfolding all
  all_cons x l h g = rw (h, g)

  all_take : (n : ℕ) (l : List A) → all p l ≡ true → all p (take n l) ≡ true
  unfolding all
  all_take zero l h = refl
  all_take (suc n) [] h = refl
  all_take (suc n) (x ∷ l) h = let b = both_true (p x) (all p l) h in all_cons x (take n l) b.0 (all_take n l b.1)

-- where one test passes, so does another
pub all_on : {A : Type 0} (p q : A → Bool) → ((x : A) → p x ≡ true → q x ≡ true) → (l : List A) → all p l ≡ true → all q l ≡ true
unfolding all
all_on p q h [] e = refl
all_on p q h (x ∷ l) e = let b = both_true (p x) (all p l) e in all_cons q x l (h x b.0) (all_on p q h l b.1)

-- the list of questions has every one of them
pub asks_all : (a : Ask) → (k : ℕ) × (get_elem? asks k ≡ some a)
unfolding asks
asks_all last_mrw = (0, refl)
asks_all last_mrr = (1, refl)
asks_all last_refab = (2, refl)
asks_all last_refpb = (3, refl)
asks_all last_refpb_to = (4, refl)
asks_all last_pre_to = (5, refl)
asks_all last_prea_to = (6, refl)
asks_all last_act_to = (7, refl)
asks_all fourth_last = (8, refl)
asks_all last_rd = (9, refl)
asks_all last_wr = (10, refl)
asks_all last_rd_or_mrr = (11, refl)
asks_all last_rd_to = (12, refl)
asks_all last_rda_to = (13, refl)
asks_all last_wr_to = (14, refl)
asks_all last_wra_to = (15, refl)
asks_all last_fall = (16, refl)
asks_all last_power_exit = (17, refl)
asks_all last_self_exit = (18, refl)

pub stored_of : (p : Ask → Found Modes → Bool) (h : History) → ((q : Question) → all (p q.ask) (h q) ≡ true) → all_stored p h ≡ true
unfolding all_stored
stored_of p h g = all_of _ (λ a. all_of _ (λ b. g (record { ask = a; bank = b })) banks) asks

pub stored_on : (p p' : Ask → Found Modes → Bool) (h h' : History) → ((q : Question) → all (p q.ask) (h q) ≡ true → all (p' q.ask) (h' q) ≡ true) →
    all_stored p h ≡ true → all_stored p' h' ≡ true
unfolding all_stored
stored_on p p' h h' g = all_on _ _ (λ a. all_on _ _ (λ b. g (record { ask = a; bank = b })) banks) asks

-- an entry more
module _ (p : Found Modes → Bool) where
  all_remembered : (m : Meaning) (c : Command) (f : Found Modes) (h : List (Found Modes)) → p f ≡ true → all p h ≡ true → all p (remembered m c f h) ≡ true
  unfolding remembered
  all_remembered m c f h pf ph = go (m.only c)
    where
      go : (x : Bool) → all p (cond x (f ∷ take m.passed h) []) ≡ true
      go true = all_cons p f (take m.passed h) pf (all_take p m.passed h ph)
      go false = unfold all in refl

  pub all_after : (c : Command) (v : Move) (n t : ℕ) (m : Modes) (h : History) (q : Question) → p (record { stamp = t; noted = noted_of (means q.ask) m }) ≡ true →
      all p (h q) ≡ true → all p (history_after c v n t m h q) ≡ true
  unfolding history_after
  all_after c v n t m h q pf ph = go ((means q.ask).among q.bank c v n)
    where
      go : (x : Bool) →
          all p (cond x (remembered (means q.ask) c (record { stamp = t; noted = noted_of (means q.ask) m }) (h q)) (h q)) ≡ true
      go true = all_remembered (means q.ask) c _ (h q) pf ph
      go false = ph

module _ (card : Card) where
  pub not_above_lem : (s : ℕ) (past : Past) → AllBelow (suc s) past → (q : Question) → all (λ f. leb f.stamp s) (history_of card past q) ≡ true
  unfolding history_of AllBelow
  not_above_lem s [] b q = unfold all in refl
  not_above_lem s (e ∷ t) b q = all_after (λ f. leb f.stamp s) e.cmd e.move _ _ _ (history_of card t) q (le-leb e.stamp s (omega arith)) (not_above_lem s t b.1 q)

  pub stamps_stored : (p : ℕ) (past : Past) → Rising past → all_stored (λ a f. not_above (last_of past) f.stamp) (history_of card (of_part p past)) ≡ true
  unfolding last_of not_above
  stamps_stored p [] r = stored_of _ (history_of card (of_part p [])) (λ q. unfold of_part history_of all in refl)
  stamps_stored p (e ∷ t) r = stored_of _ (history_of card (of_part p (e ∷ t)))
      (not_above_lem e.stamp (of_part p (e ∷ t)) (below_part p _ (e ∷ t) (unfold last_cycle in below_last (e ∷ t) r)))

  abbrev Noted : Past → Question → Type 0
  Noted own q = all (λ f. cond (means q.ask).lags (mr2_good card.period f.noted.mr2) true) (history_of card own q) ≡ true

  pub noted_good : card_good card ≡ true → (p : ℕ) (past : Past) → AllTaken card past → (q : Question) → Noted (of_part p past) q
  unfolding history_of AllTaken of_part noted_of modes_at
  noted_good good p [] t q = unfold all in refl
  noted_good good p (e ∷ past) t q = next (is_of p e.whose) (noted_good good p past t.1 q)
    where
      go : (x : Bool) → cond x (mr2_good card.period (cond x (modes_at card (of_part p past)) unnoted).mr2) true ≡ true
      go true = mr2_good_lem card good p past t.1
      go false = refl

      next : (y : Bool) → Noted (of_part p past) q → Noted (cond y (e ∷ of_part p past) (of_part p past)) q
      next true h = all_after _ e.cmd e.move _ _ _ (history_of card (of_part p past)) q (go (means q.ask).lags) h
      next false h = h

  pub mr2s_stored : card_good card ≡ true → (p : ℕ) (past : Past) → AllTaken card past →
      all_stored (λ a f. cond (means a).lags (mr2_good card.period f.noted.mr2) true) (history_of card (of_part p past)) ≡ true
  mr2s_stored good p past t = stored_of _ (history_of card (of_part p past)) (noted_good good p past t)
