-- The numbers of cycles: a later entry changes none up to its stamp; how they grow; and every counted refresh stands at a counted cycle, since it was
-- taken awake.
use Prim.Native.Nat.{ℕ, zero, suc, ◌+◌, ◌-◌, ◌/◌, ◌^◌, ◌≤◌, ◌<◌}
use mathlib.Core.Path.{◌≡◌, refl, ◌∙◌}
use mathlib.Core.Logic.{◌⊎◌, inl, inr, ⊎_elim}
use mathlib.Core.Bool.{Bool, true, false, cond, not, ◌&&◌}
use mathlib.Core.List.{List, [], ◌∷◌, map}
use mathlib.Core.Option.{some}
use native.Mathlib.Nat.{zero-add, add-zero, add-suc}
use native.Mathlib.Omega.{arith}
use lib.Dec.{leb, ltb, eqb}
use borrow.Author.Tests.{lt-ltb, le-ltb, lt-leb}
use Rattle.rules.specs.Lists.{Every}
use Rattle.rules.specs.Bits.{on}
use Rattle.rules.specs.Card.{Card}
use Rattle.rules.specs.Commands.{nop, is, code, bare, carries, kind_of}
use Rattle.rules.specs.Pins.{wrong_bits}
use Rattle.rules.specs.Levels.{Level, awake, power_down, self_refresh, deep, stopped, stays, level_after, Read, plain, moved, rises, asleep, barred, clash, sensed, rise, read_at, read_pins, read_pair, read_as, sense_at, read_mr4}
use Rattle.rules.specs.Past.{Taken, Past, of_part, level_at, counter_at, is_counted, stamps_where, counted_stamps}
use Rattle.rules.specs.Entries.{Body, pins, mr4, Entry, read_body, read, read_after, command_of, recorded_as, move_of, mr4_of, taken, past_over}
use Rattle.rules.specs.Stretch.{count_in}
use Rattle.rules.specs.Clock.{past_below, counts, counted_from, clock}
use Rattle.rules.proofs.Tests.{lt_cases, le_cases, bit_le, some_none}
use Rattle.rules.proofs.PinReads.{pair_is}
use Rattle.rules.proofs.Filtered.{mr4_nop, kept_over_lem}
use Rattle.rules.proofs.Rounds.{AllBelow, Rising, Less, less_where, below_more}

-- ---- a later entry
module _ (e : Taken) (p : Past) where
  counts_other : (t : ℕ) → t ≤ e.stamp → counts (e ∷ p) t ≡ counts p t
  unfolding counts past_below
  counts_other t h = rw (le-ltb e.stamp t h)

  counted_other : (a n : ℕ) → a + n ≤ suc e.stamp → counted_from (e ∷ p) a n ≡ counted_from p a n
  unfolding counted_from
  counted_other a zero h = refl
  counted_other a (suc n) h = rw (counted_other a n (omega arith), counts_other (a + n) (omega arith))

  pub clock_other : (t : ℕ) → t ≤ e.stamp → clock (e ∷ p) t ≡ clock p t
  unfolding clock
  clock_other t h = counted_other 1 t (omega arith)

  pub below_other : (t : ℕ) → t ≤ suc e.stamp → counted_from (e ∷ p) 0 t ≡ counted_from p 0 t
  below_other t h = counted_other 0 t (omega arith)

  pub clocks_other : (ss : List ℕ) → Less (suc e.stamp) ss → map (clock (e ∷ p)) ss ≡ map (clock p) ss
  unfolding Less
  clocks_other [] l = refl
  clocks_other (s ∷ ss) l = rw (clock_other s (omega (arith, l.0)), clocks_other ss l.1)

-- ---- how they grow
module _ (past : Past) where
  abbrev pub N : ℕ → ℕ
  N t = counted_from past 0 t

  start_counts : (p : Past) → counts p 0 ≡ true
  unfolding counts past_below stopped level_at
  start_counts [] = refl
  start_counts (e ∷ t) = rw (le-ltb e.stamp 0 (omega arith)) (start_counts t)

  one_more : (a n : ℕ) → counted_from past a (suc n) ≡ counted_from past a n + cond (counts past (a + n)) 1 0
  unfolding counted_from
  one_more a n = refl

  pub one_at_most : (a n : ℕ) → counted_from past a (suc n) ≤ suc (counted_from past a n)
  one_at_most a n = omega (arith, one_more a n, bit_le (counts past (a + n)))

  pub N_suc : (t : ℕ) → N (suc t) ≡ N t + cond (counts past t) 1 0
  N_suc t = rw (one_more 0 t, zero-add t)

  pub N_clock : (t : ℕ) → N (suc t) ≡ suc (clock past t)
  unfolding clock counted_from
  N_clock zero = rw (add-zero, start_counts past)
  N_clock (suc t) =
      let e : 0 + suc t ≡ 1 + t = omega arith in
      rw e (omega (arith, N_clock t))

  pub stretch : (a n : ℕ) → counted_from past a n + N a ≡ N (a + n)
  unfolding counted_from
  stretch a zero = rw add-zero (omega arith)
  stretch a (suc n) = rw (add-suc, N_suc (a + n)) (omega (arith, stretch a n))

  N_more : (t j : ℕ) → N t ≤ N (t + j)
  N_more t j = omega (arith, stretch t j)

  pub N_up : (t u : ℕ) → t ≤ u → N t ≤ N u
  N_up t u h = let z : t + (u - t) ≡ u = omega arith in rw z at (N_more t (u - t))

  -- a counted cycle
  counted_suc : (t : ℕ) → counts past t ≡ true → N (suc t) ≡ suc (N t)
  counted_suc t c = let e = N_suc t in let e' : N (suc t) ≡ N t + 1 = rw c at e in omega arith

  pub counted_number : (t : ℕ) → counts past t ≡ true → clock past t ≡ N t
  counted_number t c = omega (arith, N_clock t, counted_suc t c)

  abbrev pub Counted : List ℕ → Type 0
  Counted ss = Every (λ s. counts past s ≡ true) ss

  -- the stamps of a stretch and their numbers
  one_in : (a b s : ℕ) → counts past s ≡ true →
      cond (leb (N a) (clock past s) && ltb (clock past s) (N b)) 1 0 ≤ cond (leb a s && ltb s b) 1 0
  one_in a b s c = rw (counted_number s c) (⊎_elim
      (λ (p : (a ≤ s) × (leb a s ≡ true)). ⊎_elim
      (λ (q : (s < b) × (ltb s b ≡ true)). rw (p.1, q.1) (bit_le (leb (N a) (N s) && ltb (N s) (N b))))
      (λ (q : (b ≤ s) × (ltb s b ≡ false)). rw (le-ltb (N s) (N b) (N_up b s q.0)) (no_and (leb (N a) (N s)) _))
      (lt_cases s b))
      (λ (p : (s < a) × (leb a s ≡ false)). rw (lt-leb (N a) (N s) (omega (arith, N_up (suc s) a p.0, counted_suc s c))) (omega arith))
      (le_cases a s))
    where
      no_and : (x : Bool) (n : ℕ) → cond (x && false) 1 0 ≤ n
      no_and true n = omega arith
      no_and false n = omega arith

  pub all_in : (a b : ℕ) (ss : List ℕ) → Counted ss → count_in (N a) (N b) (map (clock past) ss) ≤ count_in a b ss
  unfolding count_in Every
  all_in a b [] c = omega arith
  all_in a b (s ∷ ss) c = omega (arith, one_in a b s c.0, all_in a b ss c.1)

  -- numbers fall as the stamps do
  pub less_numbers : (m : ℕ) (ss : List ℕ) → counts past m ≡ true → Counted ss → Less m ss → Less (clock past m) (map (clock past) ss)
  unfolding Every Less
  less_numbers m [] cm c l = tt
  less_numbers m (s ∷ ss) cm c l =
      (omega (arith, counted_number m cm, counted_number s c.0, counted_suc s c.0, N_up (suc s) m l.0), less_numbers m ss cm c.1 l.1)

-- ---- refreshes are taken awake
unfoldable pub Awake : Past → Type 0
Awake [] = Unit {0}
Awake (e ∷ t) = (is_counted e.cmd (counter_at t) ≡ true → level_at t ≡ awake) × Awake t

pub record Orderly (card : Card) (past : Past) : Type 0 where
  pub quiet : card.sleeps ≡ false → level_at past ≡ awake
  pub awakes : Awake past

-- below awake no command is read
asleep_nop : (l : Level) (p : ℕ) → (l ≡ awake) ⊎ (recorded_as (read_pins true l p) ≡ nop)
unfolding read_pins read_at recorded_as rise command_of
asleep_nop awake p = inl refl
asleep_nop power_down p = inr (go (eqb (p / 2 ^ 22) 0) (on p 21) (on p 20))
  where
    go : (x y z : Bool) → recorded_as (cond x (cond y (cond z (moved (rises power_down)) barred) asleep) (plain wrong_bits)) ≡ nop
    go true true true = refl
    go true true false = refl
    go true false z = refl
    go false y z = refl
asleep_nop self_refresh p = inr (go (eqb (p / 2 ^ 22) 0) (on p 21) (on p 20))
  where
    go : (x y z : Bool) → recorded_as (cond x (cond y (cond z (moved (rises self_refresh)) barred) asleep) (plain wrong_bits)) ≡ nop
    go true true true = refl
    go true true false = refl
    go true false z = refl
    go false y z = refl
asleep_nop deep p = inr (go (eqb (p / 2 ^ 22) 0))
  where
    go : (x : Bool) → recorded_as (cond x barred (plain wrong_bits)) ≡ nop
    go true = refl
    go false = refl

nop_uncounted : (n : ℕ) → is_counted nop n ≡ true → ⊥
unfolding is_counted is code kind_of carries bare
nop_uncounted n h = let z : ◌≡◌ {A = ℕ} 0 1 = cc in omega arith

-- nor is a temperature counted
pub sensed_uncounted : (r : Read) (v n : ℕ) → mr4_of r ≡ some v → is_counted (recorded_as r) n ≡ false
unfolding mr4_of recorded_as
sensed_uncounted (plain d) v n h = absurd (some_none h)
sensed_uncounted (moved m) v n h = absurd (some_none h)
sensed_uncounted asleep v n h = absurd (some_none h)
sensed_uncounted barred v n h = absurd (some_none h)
sensed_uncounted clash v n h = absurd (some_none h)
sensed_uncounted (sensed w) v n h = unfold is_counted is code kind_of carries bare in refl

-- two parts have no move of clock-enable
pub pair_stays : (p : ℕ) → move_of (read_pair p) ≡ stays
unfolding move_of
pair_stays = pair_is (λ r. move_of r ≡ stays) (λ d. refl) refl

module _ (card : Card) where
  pub start_orderly : Orderly card []
  unfolding Awake level_at
  start_orderly = record { quiet = λ h. refl; awakes = tt }

  pub mr4_stays : (x d : Bool) (l : Level) (v : ℕ) → move_of (read_mr4 x d l v) ≡ stays
  unfolding read_mr4 sense_at move_of
  mr4_stays x true l v = refl
  mr4_stays false false l v = refl
  mr4_stays true false awake v = refl
  mr4_stays true false power_down v = refl
  mr4_stays true false self_refresh v = refl
  mr4_stays true false deep v = refl

  stays_quiet : (d : Bool) (l : Level) (p : ℕ) → move_of (read_as false d l p) ≡ stays
  unfolding read_as read_pins move_of
  stays_quiet false l p = refl
  stays_quiet true l p = pair_stays p

  awake_read : (l : Level) (p n : ℕ) (x d : Bool) → (x ≡ false → l ≡ awake) → is_counted (recorded_as (read_as x d l p)) n ≡ true → l ≡ awake
  unfolding read_as
  awake_read l p n false d q h = q refl
  awake_read l p n true d q h = ⊎_elim (λ (e : l ≡ awake). e) (λ (e : recorded_as (read_pins true l p) ≡ nop). absurd (nop_uncounted n (rw e at h))) (asleep_nop l p)

  body_quiet : (b : Body) (l : Level) → card.sleeps ≡ false → move_of (read_body card l b) ≡ stays
  unfolding read_body
  body_quiet (pins p) l h = rw h (stays_quiet card.paired l p)
  body_quiet (mr4 v) l h = mr4_stays card.sleeps card.paired l v

  body_awake : (b : Body) (l : Level) (n : ℕ) → (card.sleeps ≡ false → l ≡ awake) → is_counted (recorded_as (read_body card l b)) n ≡ true → l ≡ awake
  unfolding read_body
  body_awake (pins p) l n q h = awake_read l p n card.sleeps card.paired q h
  body_awake (mr4 v) l n q h = absurd (nop_uncounted n (rw (mr4_nop card.sleeps card.paired l v) at h))

  -- behind a part's own entries
  pub taken_orderly : (past : Past) (e : Entry) → Orderly card past → Orderly card (taken card past e ∷ past)
  unfolding Awake level_at taken read read_after
  taken_orderly past e o = record {
    quiet = λ h. rw (body_quiet e.body (level_at past) h) (unfold level_after in o.quiet h);
    awakes = (body_awake e.body (level_at past) (counter_at past) o.quiet, o.awakes);
  }

  -- each part's own
  pub orderly_over : (p : ℕ) (past : Past) (es : List Entry) → Orderly card (of_part p past) → Orderly card (of_part p (past_over card past es))
  orderly_over p = kept_over_lem card p (Orderly card) taken_orderly

-- before a cycle after all entries
pub all_below : (past : Past) (t : ℕ) → AllBelow t past → past_below t past ≡ past
unfolding past_below AllBelow
all_below [] t b = refl
all_below (e ∷ p) t b = rw (lt-ltb e.stamp t b.0)

counted_more : (e : Taken) (p : Past) (ss : List ℕ) → Less (suc e.stamp) ss → Counted p ss → Counted (e ∷ p) ss
unfolding Every Less
counted_more e p [] l c = tt
counted_more e p (s ∷ ss) l c = (counts_other e p s (omega (arith, l.0)) ∙ c.0, counted_more e p ss l.1 c.1)

-- so every counted refresh stands at a counted cycle
pub refreshes_counted : (past : Past) → Rising past → Awake past → Counted past (counted_stamps past)
unfolding Every Rising Awake counted_stamps stamps_where
refreshes_counted [] r a = tt
refreshes_counted (e ∷ t) r a = go (is_counted e.cmd (counter_at t)) a.0 (refreshes_counted t r.1 a.1)
  where
    older : Counted t (counted_stamps t) → Counted (e ∷ t) (counted_stamps t)
    older c = counted_more e t (counted_stamps t) (unfold counted_stamps in less_where is_counted (suc e.stamp) t (below_more e.stamp (suc e.stamp) t (omega arith) r.0)) c

    go : (x : Bool) → (x ≡ true → level_at t ≡ awake) → Counted t (counted_stamps t) →
        Every (λ s. counts (e ∷ t) s ≡ true) (cond x (e.stamp ∷ stamps_where is_counted t) (stamps_where is_counted t))
    go true w c = (counts_other e t e.stamp (omega arith) ∙ here, older c)
      where
        here : counts t e.stamp ≡ true
        here = unfold counts stopped in rw (all_below t e.stamp r.0, w refl)
    go false w c = older c

-- ---- a past in which every cycle counts: no entry of it leaves the part in self-refresh or in deep power-down
unfoldable pub Counting : Past → Type 0
Counting [] = Unit {0}
Counting (e ∷ p) = (stopped (level_at (e ∷ p)) ≡ false) × Counting p

all_count : (past : Past) → Counting past → (t : ℕ) → counts past t ≡ true
unfolding Counting counts past_below
all_count [] c t = unfold stopped level_at in refl
all_count (e ∷ p) c t = go (ltb e.stamp t) (all_count p c.1 t)
  where
    go : (x : Bool) → not (stopped (level_at (past_below t p))) ≡ true → not (stopped (level_at (cond x (e ∷ p) (past_below t p)))) ≡ true
    go true h = rw c.0
    go false h = h

pub counted_all : (past : Past) → Counting past → (a n : ℕ) → counted_from past a n ≡ n
unfolding counted_from
counted_all past c a zero = refl
counted_all past c a (suc n) = rw (counted_all past c a n, all_count past c (a + n)) (omega arith)

-- so it is under a card without low clock-enable
module _ (card : Card) (h : card.sleeps ≡ false) where
  abbrev pub Quiet : Past → Type 0
  Quiet own = Orderly card own × Counting own

  pub quiet_next : (own : Past) (e : Entry) → Quiet own → Quiet (taken card own e ∷ own)
  unfolding Counting stopped
  quiet_next own e q = let o = taken_orderly card own e q.0 in (o, (rw (o.quiet h), q.1))

  pub counting_over : (p : ℕ) (past : Past) (es : List Entry) → Orderly card (of_part p past) → Counting (of_part p past) → Counting (of_part p (past_over card past es))
  counting_over p past es o c = (kept_over_lem card p Quiet quiet_next past es (o, c)).1
