-- The checks of a step, part by part.
use Prim.Native.Nat.{ℕ}
use mathlib.Core.Path.{◌≡◌, refl, ap, sym, ◌∙◌}
use mathlib.Core.Bool.{Bool, true}
use mathlib.Core.List.{List, [], ◌∷◌, ◌++◌}
use mathlib.Core.Option.{Option, none, some}
use Rattle.std.specs.Prelude.{Err}
use Rattle.rules.specs.Lists.{all}
use Rattle.rules.specs.Card.{Card}
use Rattle.rules.specs.Units.{Delays}
use Rattle.rules.specs.Heat.{mr4_good, delays_at}
use Rattle.rules.specs.Commands.{Command, code, is, kind_of, carries, bare}
use Rattle.rules.specs.Pins.{good}
use Rattle.rules.specs.Whose.{Whose, is_of, part_of, other, parts}
use Rattle.rules.specs.Levels.{Move, Read, plain, moved, asleep, barred, clash, sensed}
use Rattle.rules.specs.States.{goes, state_good}
use Rattle.rules.specs.Folds.{or_else, first_of}
use Rattle.rules.specs.Delays.{Question, Answers}
use Rattle.rules.specs.Entries.{Entry, command_of, judged_as, move_of, whose_of, part_in}
use Rattle.rules.specs.Checks.{Refusal, refusal, unless, is_wrong, is_clash, is_reserved, is_barred, code_good, value_good, checks}
use Rattle.rules.specs.Lent.{Share, Lent, has_part, look_in, answers_in, view_in, own_in, read_in, Effect, effect_of, effect_in, effect_on, ledger_with, failings_with, ledger_good, lent_good, step_refusal}
use Rattle.rules.proofs.Bus.{SameBus, bus_broken}
use Rattle.rules.proofs.Decided.{or_none}
use Rattle.rules.proofs.Filtered.{IsPart, all_parts, judging_part}
use Rattle.rules.proofs.Sound.{ledger_good_lem}
use Rattle.pins.specs.declared.Undecoded.{Undecoded}
use Rattle.pins.specs.declared.Undecoded.TheVariants.{WrongBits, Reserved}
use Rattle.pins.specs.Values.{decoded_of}
use Rattle.bank.specs.Both.{effect_for}
use Rattle.step.specs.Values.{refused_as}
use Rattle.step.specs.Parts.{undecoded_as, opening_refusal, command_refusal, reading_refusal, judged_refusal, ruled_refusal, effect_as, ledger_as, ruling_refusal}
use Rattle.step.proofs.Elevens.{told_by, opening_is, here_is}

module _ {A : Type 0} where
  or_assoc : (x y z : Option A) → or_else x (or_else y z) ≡ or_else (or_else x y) z
  unfolding or_else
  or_assoc none y z = refl
  or_assoc (some a) y z = refl

  first_append : (xs ys : List (Option A)) → first_of (xs ++ ys) ≡ or_else (first_of xs) (first_of ys)
  unfolding first_of or_else
  first_append [] ys = refl
  first_append (x ∷ xs) ys = ap (or_else x) (first_append xs ys) ∙ or_assoc x (first_of xs) (first_of ys)

  -- three parts, the last of two
  parted : (xs ys : List (Option A)) (h i : Option A) → first_of (xs ++ (ys ++ (h ∷ i ∷ []))) ≡ or_else (first_of xs) (or_else (or_else (first_of ys) h) i)
  parted xs ys h i =
      let last : first_of (h ∷ i ∷ []) ≡ or_else h i = unfold first_of in ap (or_else h) (or_none i) in
      let behind : first_of (ys ++ (h ∷ i ∷ [])) ≡ or_else (or_else (first_of ys) h) i =
      first_append ys (h ∷ i ∷ []) ∙ ap (or_else (first_of ys)) last ∙ or_assoc (first_of ys) h i in
      first_append xs (ys ++ (h ∷ i ∷ [])) ∙ ap (or_else (first_of xs)) behind

or_else_if : {A : Type 0} (x y z w : Option A) → (x ≡ none → z ≡ w) → or_else x (or_else y z) ≡ or_else x (or_else y w)
unfolding or_else
or_else_if none y z w e = ap (or_else y) (e refl)
or_else_if (some a) y z w e = refl

-- ---- 6 to 9, 16, 24 and 26, by what an entry is read as
module _ (card : Card) (is_open : ℕ → Bool) (n : ℕ) where
  pub command_reads : (c : Command) → command_refusal card is_open n c ≡ reading_refusal card is_open n (plain (good c))
  unfolding command_refusal reading_refusal first_of or_else unless is_wrong is_clash is_reserved is_barred code_good judged_as command_of
  command_reads c = refl

  pub undecoded_reads : (u : Undecoded) → some (refused_as (undecoded_as u)) ≡ reading_refusal card is_open n (plain (decoded_of (Err u)))
  unfolding undecoded_as decoded_of reading_refusal first_of or_else unless is_wrong is_clash is_reserved
  undecoded_reads WrongBits = refl
  undecoded_reads Reserved = refl

  pub move_reads : (m : Move) → command_refusal card is_open n (judged_as (moved m)) ≡ reading_refusal card is_open n (moved m)
  unfolding command_refusal reading_refusal first_of or_else unless is_wrong is_clash is_reserved is_barred code_good
  move_reads m = refl

  pub asleep_reads : none ≡ reading_refusal card is_open n asleep
  unfolding reading_refusal first_of or_else unless is_wrong is_clash is_reserved is_barred code_good judged_as state_good goes value_good is code kind_of carries bare
  asleep_reads = refl

  pub barred_reads : some (refusal 16 0 0) ≡ reading_refusal card is_open n barred
  unfolding reading_refusal first_of or_else unless is_wrong is_clash is_reserved is_barred judged_as state_good goes is code kind_of carries bare
  barred_reads = refl

  pub clash_reads : some (refusal 24 0 0) ≡ reading_refusal card is_open n clash
  unfolding reading_refusal first_of or_else unless is_wrong is_clash
  clash_reads = refl

  pub sensed_reads : (v : ℕ) → unless (mr4_good v) 26 ≡ reading_refusal card is_open n (sensed v)
  unfolding reading_refusal first_of or_else unless is_wrong is_clash is_reserved is_barred code_good judged_as state_good goes value_good is code kind_of carries bare
  sensed_reads v = sym (or_none (unless (mr4_good v) 26))

-- ---- a step by its parts, which ask 13 of the ledgers alone
ledgers_good : (l : Lent) → lent_good l ≡ true → all (λ p. ledger_good l.card (l.share p).ledger) (parts l.card) ≡ true
unfolding has_part
ledgers_good l sound = all_parts (λ p. ledger_good l.card (l.share p).ledger) (parts l.card) (λ p i. ledger_good_lem l sound p i)

-- what a part of the trace is asked, its share answers
own_answers : (l : Lent) (p : ℕ) → IsPart l.card p → answers_in l p ≡ look_in (l.share p).history
own_answers l p i = λ j q. each q j
  where
    each : (q : Question) → answers_in l p q ≡ look_in (l.share p).history q
    each q = unfold answers_in in rw i

pub step_is : (l : Lent) (e : Entry) → lent_good l ≡ true → step_refusal l e ≡ ruling_refusal (delays_at l.card l.pace.mr4) l (whose_of l.card e) (read_in l e) e.stamp
unfolding step_refusal checks ruling_refusal opening_refusal judged_refusal reading_refusal ledger_as ledger_with effect_as effect_for effect_on effect_in own_in part_in view_in failings_with
step_is l e sound =
    rw (sound ∙ sym (ledgers_good l sound), own_answers l (part_of (whose_of l.card e)) (unfold part_in in judging_part l.card e))
    (parted (_ ∷ _ ∷ _ ∷ []) (_ ∷ _ ∷ _ ∷ _ ∷ _ ∷ _ ∷ _ ∷ []) _ _)

-- ---- with what the accounts are refused with
module _ (d : Delays) (l : Lent) (w : Whose) (x : Read) (t : ℕ) where
  -- by the share of the part that judges it
  abbrev pub effects_by : Share → ℕ → Effect
  effects_by o p = effect_for (is_of p w) (effect_of x o.counter)

  abbrev pub ruled_by : Answers → Share → Option Refusal
  ruled_by theirs o = ruled_refusal l.card l.last d o theirs x t (told_by l t (effects_by o))

  -- 11 at the stamp counts where the accounts give nothing before it
  pub ruling_is : (theirs : Answers) → SameBus theirs (answers_in l (other (part_of w))) → ruled_by theirs (l.share (part_of w)) ≡ ruling_refusal d l w x t
  unfolding ruled_refusal ruling_refusal judged_refusal ledger_as effect_as
  ruling_is theirs same =
      let own = l.share (part_of w) in
      rw (bus_broken (look_in own.history) theirs (answers_in l (other (part_of w))) same d (judged_as x) (move_of x) own.counter t, opening_is l t (effects_by own))
      (or_else_if _ _ _ _ (here_is l t (effects_by own)))
