-- Of the entries that are taken, those of pins are printed and no other.
use Prim.Native.Nat.{ℕ}
use mathlib.Core.Path.{◌≡◌, refl}
use mathlib.Core.Bool.{Bool, true, false, cond, not}
use mathlib.Core.List.{List, []}
use mathlib.Core.Option.{none}
use lib.Dec.{eqb}
use lib.ListN.{drop}
use borrow.Author.Tests.{eqb-true}
use Rattle.rules.specs.Card.{Card}
use Rattle.rules.specs.Folds.{first_of}
use Rattle.rules.specs.Past.{Past, level_at}
use Rattle.rules.specs.Levels.{Level, awake, power_down, self_refresh, deep, sense_at, read_mr4}
use Rattle.rules.specs.Entries.{pins, mr4, read_body, read, read_after, mr4_of, own_for, read_for}
use Rattle.rules.specs.Checks.{is_barred, checks, entry_checks, entry_refusal}
use Rattle.rules.specs.Form.{Field, of_entry, body_of, number, entry_of}
use Rattle.rules.specs.Lines.{unless_sensed}
use Rattle.rules.proofs.Decided.{or_else_none, unless_none}
use Rattle.rules.proofs.Paces.{pins_senseless}

-- 16 lets it pass
permitted : (card : Card) (past : Past) (f : Field) → entry_refusal card past (entry_of f) ≡ none → not (is_barred (read_for card past (entry_of f))) ≡ true
unfolding entry_refusal entry_checks checks first_of
permitted card past f n =
    let (rises, n₁) = or_else_none _ _ n in
    let (before, n₂) = or_else_none _ _ n₁ in
    let (wrong, n₃) = or_else_none _ _ n₂ in
    let (selects, n₄) = or_else_none _ _ n₃ in
    let (reserved, n₅) = or_else_none _ _ n₄ in
    let (state, n₆) = or_else_none _ _ n₅ in
    let (permitted, n₇) = or_else_none _ _ n₆ in
    unless_none _ 16 permitted

-- a temperature that 16 lets pass
sensed_then : (s d : Bool) (l : Level) (v : ℕ) → not (is_barred (read_mr4 s d l v)) ≡ true → (line : List ℕ) → unless_sensed (mr4_of (read_mr4 s d l v)) line ≡ []
unfolding read_mr4 sense_at is_barred mr4_of unless_sensed
sensed_then s true l v h line = refl
sensed_then false false l v h line = refl
sensed_then true false awake v h line = refl
sensed_then true false power_down v h line = refl
sensed_then true false self_refresh v h line = refl
sensed_then true false deep v h line = absurd cc

body_is : (t x : ℕ) (b : Bool) → eqb t 32 ≡ b → of_entry t ≡ true → body_of t x ≡ cond b (pins x) (mr4 x)
unfolding of_entry body_of
body_is t x true e o = rw (eqb-true t 32 e)
body_is t x false e o = rw (rw e at o)

module _ (card : Card) (past : Past) (f : Field) (o : of_entry f.tag ≡ true) (n : entry_refusal card past (entry_of f) ≡ none) (line : List ℕ) where
  by_body : (l : Level) (x : ℕ) (b : Bool) → not (is_barred (read_body card l (cond b (pins x) (mr4 x)))) ≡ true →
      unless_sensed (mr4_of (read_body card l (cond b (pins x) (mr4 x)))) line ≡ cond b line []
  unfolding read_body
  by_body l x true h = rw (pins_senseless card.sleeps card.paired l x) (unfold unless_sensed in refl)
  by_body l x false h = sensed_then card.sleeps card.paired l x h line

  by_tag : (l : Level) (x : ℕ) → not (is_barred (read_body card l (body_of f.tag x))) ≡ true →
      unless_sensed (mr4_of (read_body card l (body_of f.tag x))) line ≡ cond (eqb f.tag 32) line []
  by_tag l x h =
      let e = body_is f.tag x (eqb f.tag 32) refl o in
      rw e (by_body l x (eqb f.tag 32) (rw e at h))

  pub printed : unless_sensed (mr4_of (read_after card (own_for card past (entry_of f)) (entry_of f))) line ≡ cond (eqb f.tag 32) line []
  unfolding read_after read entry_of
  printed =
      by_tag (level_at (own_for card past (entry_of f))) (number (drop 4 f.value))
      (unfold read_for read_after read entry_of in permitted card past f n)
