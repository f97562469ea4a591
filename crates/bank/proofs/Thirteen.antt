-- 13 of a record: the card and the first part, and the second where it is there.
use mathlib.Core.Path.{◌≡◌, refl}
use mathlib.Core.Bool.{Bool, true, false, cond, not, ◌&&◌, ◌||◌}
use mathlib.Core.List.{[], ◌∷◌}
use Rattle.rules.specs.Lists.{all}
use Rattle.rules.specs.Whose.{parts}
use Rattle.rules.specs.Ranges.{card_good}
use Rattle.rules.specs.Lent.{share_good, lent_good}
use Rattle.card.specs.Values.{card_of}
use Rattle.bank.specs.Values.{last_of, share_of, share_in, lent_of}
use Rattle.bank.specs.declared.Share.{Share}
use Rattle.bank.specs.declared.Record.{Record}

and_three : (a s x : Bool) → (a && (s && x)) ≡ ((a && s) && x)
and_three true s x = refl
and_three false s x = refl

and_last : (a s x : Bool) → (a && (s && (x && true))) ≡ ((a && s) && x)
and_last a s true = and_three a s true
and_last a s false = and_three a s false

module _ (r : Record) where
  abbrev good : Share → Bool
  good s = share_good (card_of r.card) (last_of r.last) (share_of s)

  abbrev firsts : Bool
  firsts = card_good (card_of r.card) && good r.first

  pub by_parts : lent_good (lent_of r) ≡ (firsts && (not r.card.paired || good r.second))
  unfolding lent_good lent_of share_in parts
  by_parts = unfold card_of in go r.card.paired
    where
      go : (x : Bool) →
          (card_good (card_of r.card) && all (λ p. share_good (card_of r.card) (last_of r.last) (share_in r p)) (cond x (0 ∷ 1 ∷ []) (0 ∷ []))) ≡ (firsts && (not x || good r.second))
      go true = unfold all share_in in and_last (card_good (card_of r.card)) (good r.first) (good r.second)
      go false = unfold all share_in in and_three (card_good (card_of r.card)) (good r.first) true
