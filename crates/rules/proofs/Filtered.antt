-- A part's own entries: what holds of all entries holds of them, and an entry of the part is taken behind them.
use Prim.Native.Nat.{ℕ, ◌<◌}
use mathlib.Core.Path.{◌≡◌, refl, sym, subst}
use mathlib.Core.Logic.{⊎_elim}
use mathlib.Core.Bool.{Bool, true, false, cond, ◌||◌}
use mathlib.Core.List.{List, [], ◌∷◌, map}
use native.Mathlib.Omega.{arith}
use lib.Dec.{eqb}
use borrow.Author.Tests.{ltb-true, eqb-true, eq-eqb}
use Rattle.rules.specs.Lists.{Every, all, is_one_of}
use Rattle.rules.specs.Bits.{on}
use Rattle.rules.specs.Card.{Card}
use Rattle.rules.specs.Commands.{nop, is, code, bare, carries, kind_of}
use Rattle.rules.specs.Whose.{is_of, part_of, by_selects, whose, parts}
use Rattle.rules.specs.Levels.{Level, awake, power_down, self_refresh, deep, sense_at, read_mr4}
use Rattle.rules.specs.Past.{Past, of_part, level_at, counter_at, is_counted}
use Rattle.rules.specs.Entries.{Body, pins, mr4, Entry, read_body, read, read_after, read_for, whose_body, whose_of, part_in, own_for, recorded_as, taken, taken_for, past_with, past_over}
use Rattle.rules.specs.Lent.{has_part}
use Rattle.rules.proofs.Tests.{eq_cases, both_true}
use Rattle.rules.proofs.Rounds.{AllBelow, Rising}

-- the part that judges pins which are among part p's own is p
pub pins_part : (p : ℕ) (paired : Bool) (x : ℕ) → is_of p (whose paired x) ≡ true → part_of (whose paired x) ≡ p
unfolding is_of part_of whose by_selects
pins_part p false x h = sym (eqb-true p 0 h)
pins_part p true x h = go (on x 20) (on x 22) h
  where
    go : (a b : Bool) → is_of p (by_selects a b) ≡ true → part_of (by_selects a b) ≡ p
    go true true h = let z : ◌≡◌ {A = ℕ} 0 1 = cc in absurd (omega arith)
    go true false h = sym (eqb-true p 1 h)
    go false true h = sym (eqb-true p 0 h)
    go false false h = let z : ◌≡◌ {A = ℕ} 0 1 = cc in absurd (omega arith)

-- a temperature is recorded as NOP, whatever the level
pub mr4_nop : (sleeps paired : Bool) (l : Level) (v : ℕ) → recorded_as (read_mr4 sleeps paired l v) ≡ nop
unfolding read_mr4 sense_at recorded_as
mr4_nop sleeps true l v = refl
mr4_nop false false l v = refl
mr4_nop true false awake v = refl
mr4_nop true false power_down v = refl
mr4_nop true false self_refresh v = refl
mr4_nop true false deep v = refl

-- an entry among part p's own is read, and counted, as that part's entries say: one of both parts by none of them
module _ (card : Card) (past : Past) (p : ℕ) where
  body_read : (b : Body) → is_of p (whose_body card.paired b) ≡ true →
      read_body card (level_at (of_part (part_of (whose_body card.paired b)) past)) b ≡ read_body card (level_at (of_part p past)) b
  unfolding whose_body read_body
  body_read (pins x) h = rw (pins_part p card.paired x h)
  body_read (mr4 v) h = go card.paired h
    where
      go : (d : Bool) → is_of p (whose_body d (mr4 v)) ≡ true →
          read_mr4 card.sleeps d (level_at (of_part (part_of (whose_body d (mr4 v))) past)) v ≡ read_mr4 card.sleeps d (level_at (of_part p past)) v
      go true h = unfold read_mr4 in refl
      go false h = unfold is_of part_of in rw (eqb-true p 0 h)

  body_counted : (b : Body) → is_of p (whose_body card.paired b) ≡ true → (l : Level) →
      is_counted (recorded_as (read_body card l b)) (counter_at (of_part (part_of (whose_body card.paired b)) past)) ≡ is_counted (recorded_as (read_body card l b)) (counter_at (of_part p past))
  unfolding whose_body read_body
  body_counted (pins x) h l = rw (pins_part p card.paired x h)
  body_counted (mr4 v) h l = rw (mr4_nop card.sleeps card.paired l v) (unfold is_counted is code kind_of carries bare in refl)

  pub own_read : (e : Entry) → is_of p (whose_of card e) ≡ true → read_for card past e ≡ read_after card (of_part p past) e
  unfolding read_for read_after read own_for part_in whose_of
  own_read e h = body_read e.body h

  pub own_counted : (e : Entry) → is_of p (whose_of card e) ≡ true → (l : Level) →
      is_counted (recorded_as (read card l e)) (counter_at (own_for card past e)) ≡ is_counted (recorded_as (read card l e)) (counter_at (of_part p past))
  unfolding read own_for part_in whose_of
  own_counted e h l = body_counted e.body h l

  own_for_lem : (e : Entry) → is_of p (taken_for card past e).whose ≡ true → taken_for card past e ≡ taken card (of_part p past) e
  unfolding taken_for taken
  own_for_lem e h = unfold read_for in rw (own_read e h)

-- a part of the trace
abbrev pub IsPart : Card → ℕ → Type 0
IsPart card p = has_part card p ≡ true

pub every_at : {A : Type 0} (P : A → Type 0) (f : ℕ → A) (ps : List ℕ) → Every P (map f ps) → (p : ℕ) → is_one_of ps p ≡ true → P (f p)
unfolding Every is_one_of
every_at P f [] h p m = let z : ◌≡◌ {A = ℕ} 0 1 = cc in absurd (omega arith)
every_at P f (x ∷ ps) h p m = ⊎_elim
    (λ (q : (x ≡ p) × (eqb x p ≡ true)). subst (λ (y : ℕ). P (f y)) q.0 h.0)
    (λ (q : (x ≡ p → ⊥) × (eqb x p ≡ false)). every_at P f ps h.1 p (rw q.1 at m))
    (eq_cases x p)

-- over all parts
pub all_parts : (f : ℕ → Bool) (ps : List ℕ) → ((p : ℕ) → is_one_of ps p ≡ true → f p ≡ true) → all f ps ≡ true
unfolding all is_one_of
all_parts f [] h = refl
all_parts f (x ∷ ps) h = rw (h x (rw (eq-eqb x x refl)), all_parts f ps (λ p i. h p (later (eqb x p) i)))
  where
    later : {y : Bool} (x : Bool) → y ≡ true → (x || y) ≡ true
    later true i = refl
    later false i = i

pub all_each : (f : ℕ → Bool) (ps : List ℕ) → all f ps ≡ true → (p : ℕ) → is_one_of ps p ≡ true → f p ≡ true
unfolding all is_one_of
all_each f [] h p i = let z : ◌≡◌ {A = ℕ} 0 1 = cc in absurd (omega arith)
all_each f (x ∷ ps) h p i = ⊎_elim
    (λ (q : (x ≡ p) × (eqb x p ≡ true)). subst (λ (y : ℕ). f y ≡ true) q.0 (both_true (f x) (all f ps) h).0)
    (λ (q : (x ≡ p → ⊥) × (eqb x p ≡ false)). all_each f ps (both_true (f x) (all f ps) h).1 p (rw q.1 at i))
    (eq_cases x p)

pub map_each : {A : Type 0} (g h : ℕ → A) (ps : List ℕ) → ((p : ℕ) → is_one_of ps p ≡ true → g p ≡ h p) → map g ps ≡ map h ps
unfolding is_one_of
map_each g h [] e = refl
map_each g h (x ∷ ps) e = rw (e x (rw (eq-eqb x x refl)), map_each g h ps (λ p i. e p (later (eqb x p) i)))
  where
    later : {y : Bool} (x : Bool) → y ≡ true → (x || y) ≡ true
    later true i = refl
    later false i = i

-- the part that judges an entry is one of the trace, and so is one whose own the entry is
select_part : (a b : Bool) → is_one_of (0 ∷ 1 ∷ []) (part_of (by_selects a b)) ≡ true
unfolding is_one_of part_of by_selects
select_part true true = refl
select_part true false = refl
select_part false true = refl
select_part false false = refl

pub judging_part : (card : Card) (e : Entry) → IsPart card (part_in card e)
unfolding has_part parts part_in whose_of
judging_part card e = go card.paired
  where
    go : (x : Bool) → is_one_of (cond x (0 ∷ 1 ∷ []) (0 ∷ [])) (part_of (whose_body x e.body)) ≡ true
    go x = by x e.body
      where
        by : (x : Bool) (b : Body) → is_one_of (cond x (0 ∷ 1 ∷ []) (0 ∷ [])) (part_of (whose_body x b)) ≡ true
        by true (pins p) = unfold whose_body whose in select_part (on p 20) (on p 22)
        by false (pins p) = unfold whose_body whose part_of is_one_of in refl
        by true (mr4 v) = unfold whose_body part_of is_one_of in refl
        by false (mr4 v) = unfold whose_body part_of is_one_of in refl

one_of_two : (p : ℕ) → p < 2 → is_one_of (0 ∷ 1 ∷ []) p ≡ true
unfolding is_one_of
one_of_two p l = ⊎_elim
    (λ (q : (0 ≡ p) × (eqb 0 p ≡ true)). rw q.1)
    (λ (q : (0 ≡ p → ⊥) × (eqb 0 p ≡ false)). rw (q.1, eq-eqb 1 p (omega (arith, l, q.0))))
    (eq_cases 0 p)

pub own_is_part : (card : Card) (e : Entry) (p : ℕ) → is_of p (whose_of card e) ≡ true → IsPart card p
unfolding has_part parts whose_of
own_is_part card e p h = go card.paired e.body h
  where
    go : (x : Bool) (b : Body) → is_of p (whose_body x b) ≡ true → is_one_of (cond x (0 ∷ 1 ∷ []) (0 ∷ [])) p ≡ true
    go true (pins q) h = subst (λ (y : ℕ). is_one_of (0 ∷ 1 ∷ []) y ≡ true) (pins_part p true q (unfold whose_body in h)) (unfold whose in select_part (on q 20) (on q 22))
    go false (pins q) h = unfold whose_body whose is_of is_one_of in rw (eqb-true p 0 h)
    go true (mr4 v) h = one_of_two p (ltb-true p 2 (unfold whose_body is_of in h))
    go false (mr4 v) h = unfold whose_body is_of is_one_of in rw (eqb-true p 0 h)

-- ---- after an entry
module _ (card : Card) (p : ℕ) where
  pub of_next : (past : Past) (e : Entry) → of_part p (past_with card past e) ≡ cond (is_of p (whose_of card e)) (taken card (of_part p past) e ∷ of_part p past) (of_part p past)
  unfolding of_part past_with
  of_next past e = go (is_of p (whose_of card e)) (unfold taken_for taken in refl)
    where
      go : (x : Bool) → is_of p (taken_for card past e).whose ≡ x →
          cond (is_of p (taken_for card past e).whose) (taken_for card past e ∷ of_part p past) (of_part p past) ≡ cond x (taken card (of_part p past) e ∷ of_part p past) (of_part p past)
      go true h = rw (h, own_for_lem card past p e h)
      go false h = rw h

  -- what an entry of the part's own keeps of them, any run of entries keeps
  module _ (P : Past → Type 0) (next : (own : Past) (e : Entry) → P own → P (taken card own e ∷ own)) where
    kept_next : (past : Past) (e : Entry) → P (of_part p past) → P (of_part p (past_with card past e))
    kept_next past e h = rw (of_next past e) (go (is_of p (whose_of card e)))
      where
        go : (x : Bool) → P (cond x (taken card (of_part p past) e ∷ of_part p past) (of_part p past))
        go true = next (of_part p past) e h
        go false = h

    pub kept_over_lem : (past : Past) (es : List Entry) → P (of_part p past) → P (of_part p (past_over card past es))
    unfolding past_over
    kept_over_lem past [] h = h
    kept_over_lem past (e ∷ es) h = kept_over_lem (past_with card past e) es (kept_next past e h)

-- ---- stamps
module _ (p : ℕ) where
  pub below_part : (t : ℕ) (past : Past) → AllBelow t past → AllBelow t (of_part p past)
  unfolding AllBelow of_part
  below_part t [] b = tt
  below_part t (e ∷ past) b = go (is_of p e.whose) (below_part t past b.1)
    where
      go : (x : Bool) → AllBelow t (of_part p past) → AllBelow t (cond x (e ∷ of_part p past) (of_part p past))
      go true h = (b.0, h)
      go false h = h

  pub rising_part : (past : Past) → Rising past → Rising (of_part p past)
  unfolding Rising of_part
  rising_part [] r = tt
  rising_part (e ∷ past) r = go (is_of p e.whose) (rising_part past r.1)
    where
      go : (x : Bool) → Rising (of_part p past) → Rising (cond x (e ∷ of_part p past) (of_part p past))
      go true h = (below_part e.stamp past r.0, h)
      go false h = h
