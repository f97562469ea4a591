-- One part's banks, registers, counter, stamps and ledger depend only on its own entries and the cycle reached: whatever the other part did between.
use Prim.Native.Nat.{ℕ}
use mathlib.Core.Path.{◌≡◌, refl, ap, sym, ◌∙◌}
use mathlib.Core.Bool.{Bool, true, false, cond}
use mathlib.Core.List.{List, [], ◌∷◌, map}
use lib.IntN.{ℤ}
use Rattle.rules.specs.Card.{Card}
use Rattle.rules.specs.Whose.{is_of, parts}
use Rattle.rules.specs.Past.{Past, of_part}
use Rattle.rules.specs.Account.{lpddr3, ledger_on}
use Rattle.rules.specs.Clock.{book_of}
use Rattle.rules.specs.Entries.{Entry, whose_of, taken, past_with, past_over, past_of}
use Rattle.rules.specs.Verdict.{accepted, judge}
use Rattle.rules.specs.Lent.{share_of}
use Rattle.rules.proofs.Filtered.{map_each, of_next}
use Rattle.rules.proofs.Exactly.{accepted_iff}
use Rattle.rules.proofs.Earliest.{ledgers_parts}

-- part p's own entries of a list, and a past of such entries, each taken behind those before it
unfoldable pub entries_of : Card → ℕ → List Entry → List Entry
entries_of card p [] = []
entries_of card p (e ∷ es) = cond (is_of p (whose_of card e)) (e ∷ entries_of card p es) (entries_of card p es)

unfoldable pub own_over : Card → Past → List Entry → Past
own_over card own [] = own
own_over card own (e ∷ es) = own_over card (taken card own e ∷ own) es

module _ (card : Card) (p : ℕ) where
  own_over_lem : (past : Past) (es : List Entry) → of_part p (past_over card past es) ≡ own_over card (of_part p past) (entries_of card p es)
  unfolding past_over entries_of own_over
  own_over_lem past [] = refl
  own_over_lem past (e ∷ es) = own_over_lem (past_with card past e) es ∙ rw (of_next card p past e) (go (is_of p (whose_of card e)))
    where
      go : (x : Bool) → own_over card (cond x (taken card (of_part p past) e ∷ of_part p past) (of_part p past)) (entries_of card p es)
          ≡ own_over card (of_part p past) (cond x (e ∷ entries_of card p es) (entries_of card p es))
      go true = refl
      go false = refl

  -- a part's past is one of its own entries alone
  pub own_past_lem : (es : List Entry) → of_part p (past_of card es) ≡ own_over card [] (entries_of card p es)
  unfolding past_of of_part
  own_past_lem es = own_over_lem [] es

  pub own_only : (es es' : List Entry) → entries_of card p es ≡ entries_of card p es' → of_part p (past_of card es) ≡ of_part p (past_of card es')
  own_only es es' h = own_past_lem es ∙ ap (own_over card []) h ∙ sym (own_past_lem es')

  -- after any two runs, accepted or not, with the same entries of part p: all that is kept of the part as after cycle t
  pub independent : (es es' : List Entry) → entries_of card p es ≡ entries_of card p es' → (t : ℕ) →
      share_of card (of_part p (past_of card es)) t ≡ share_of card (of_part p (past_of card es')) t
  independent es es' h t = ap (λ (own : Past). share_of card own t) (own_only es es' h)

-- each ledger of an accepted verdict is by the part's own entries and E
pub ledgers_own : (card : Card) (es : List Entry) (end m n : ℕ) (l : List ℤ) → judge card es end ≡ accepted m n l →
    l ≡ map (λ p. ledger_on lpddr3.credit (book_of card (own_over card [] (entries_of card p es))) end) (parts card)
unfolding past_of
ledgers_own card es end m n l a =
    ((accepted_iff card es end m n l).0 a).ledgers
    ∙ ledgers_parts card (past_over card [] es) end
    ∙ map_each (λ p. ledger_on lpddr3.credit (book_of card (of_part p (past_over card [] es))) end) _ (parts card)
    (λ p i. ap (λ (own : Past). ledger_on lpddr3.credit (book_of card own) end) (own_past_lem card p es))
