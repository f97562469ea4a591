-- A file that does not use low clock-enable has the verdict and the lines that document 01's judge gave it: every file had, just before request Nine, unless
-- tag 19 stands behind its card, where that judge refused it by 2. By `Untagged` every file had just before request Three, unless tag 19, 23, 25, 26 or 34 stands
-- so or an entry that was taken writes MA 1; and by `Unrefined` and `Retold` it has still, without an 8-byte period and where that judge's verdict was no 2.
use Prim.Native.Nat.{ℕ, zero, suc, ◌+◌, ◌-◌, ◌≤◌, ◌<◌}
use mathlib.Core.Path.{◌≡◌, refl, ap, sym, ◌∙◌, subst, fun_ext}
use mathlib.Core.Logic.{◌⊎◌, ⊎_elim}
use mathlib.Core.Bool.{Bool, true, false, cond, not, ◌&&◌, ◌||◌, and-false, or-false}
use mathlib.Core.List.{List, [], ◌∷◌, ◌++◌, append-nil, map}
use mathlib.Core.Option.{none}
use native.Mathlib.Omega.{arith}
use lib.Dec.{ltb, eqb}
use lib.IntN.{ℤ}
use lib.ListN.{take, drop, take-append-drop}
use borrow.Author.Tests.{eqb-true, ne_eqb}
use Rattle.rules.specs.Lists.{all, when, Every}
use Rattle.rules.specs.Card.{Card}
use Rattle.rules.specs.Units.{Delays}
use Rattle.rules.specs.Commands.{NOP, REFPB, REFAB, Command, is}
use Rattle.rules.specs.Registers.{Modes}
use Rattle.rules.specs.Pins.{decode}
use Rattle.rules.specs.Levels.{awake, power_down, self_refresh, stopped, stays, Move, is_fall, is_rise, rises_from, level_after, plain, read_pins}
use Rattle.rules.specs.Past.{Taken, Past, bank_at, level_at, counter_after, counter_at, counted_stamps}
use Rattle.rules.specs.Folds.{or_else, first_of, Rule, latest, back, permitted, permitted_by, bound, first_broken}
use Rattle.rules.specs.Delays.{Ask, last_power_exit, last_self_exit, Asked, latest_move, means, found, look_both, find, from, rule, delay_rules}
use Rattle.rules.specs.Account.{Terms, lpddr3, is_due, every, on_beat, steady, cycle, ledger_before, ledger_after, failing, Book, ledger_on, last_on, failing_on, first_on}
use Rattle.rules.specs.Clock.{clock}
use Rattle.rules.specs.Entries.{Entry, command_of, recorded_as, move_of, judged_as}
use Rattle.rules.specs.Checks.{unless, is_barred}
use Rattle.rules.specs.Form.{Field, ◌up_to◌, groups, last_tag, ends_group, begins_group, card_whole, of_trace, has, card_of, entry_of}
use Rattle.rules.specs.File.{accepted, refused, begun, Judged, judged, judge_file}
use Rattle.rules.specs.FileReading.{CardRight}
use Rattle.rules.specs.Lines.{decimal, signed, ledger_parts, entry_lines, verdict_line, lines_of}
use Rattle.rules.proofs.Tests.{eq_cases, ◌&◌}
use Rattle.rules.proofs.Biased.{numbered}
use Rattle.rules.proofs.Clocks.{Counting, counted_all}
use Rattle.rules.proofs.Decided.{failing_one, first_one}
use Rattle.rules.proofs.Walks.{judged_by, AllSized, Met, TagTests, tests_as, still_comes, Alike, agree, behind_it}
use Rattle.rules.proofs.Retold.{same_by}
use Rattle.rules.proofs.Coarse.{coarse_interval, coarse_delays_of, coarse_curt}
use Rattle.rules.proofs.Unrefined.{Unrefined, same_curt}
use Rattle.rules.proofs.Timed.{timed_rules, come_in}
use Rattle.rules.proofs.Unprogrammed.{Written, come_more, Tag23, Programmed}
use Rattle.rules.proofs.Mild.{pins_of, mild_book, mild_trace}
use Rattle.rules.proofs.Unheated.{card_low, Heated}
use Rattle.rules.proofs.Alone.{alone_read, alone_taken, alone_look, alone_rules, alone_entry, alone_end, alone_verdict, alone_groups, alone, alone_lines}
use Rattle.rules.proofs.Untagged.{alone_listed, alone_ranged, quiet_tail, alone_comes, Paired, alone_ever, alone_lines_lem}
use Rattle.rules.proofs.Base.{base_cycle, base_before, base_ledger, base_failing, base_first, base_taken, base_rules, base_entry, base_end, base_verdict, base_come, base, judge_base, lines_base}

-- ---- the account
due_is : (I n : ℕ) → on_beat (every I) n ≡ is_due I n
unfolding on_beat every
due_is I n = let z : n + I - I ≡ n = omega arith in rw z

ledger_is : (credit I : ℕ) (cs : List ℕ) (t : ℕ) → ledger_before credit (steady (every I)) cs t ≡ base_before credit I cs t
unfolding ledger_before base_before cycle base_cycle
ledger_is credit I cs zero = refl
ledger_is credit I cs (suc t) = rw (ledger_is credit I cs t, due_is I t)

-- each cycle has its own number
abbrev straight : (I : ℕ) → List ℕ → Book
straight I cs = numbered (steady (every I)) cs

failing_is : (k : Terms) (I : ℕ) (cs : List ℕ) (t : ℕ) → failing_on k (straight I cs) t ≡ base_failing k I cs t
unfolding failing_on failing ledger_on last_on ledger_after every base_failing base_ledger
failing_is k I cs t = rw (ledger_is k.credit I cs (suc t))

first_is : (k : Terms) (I : ℕ) (cs : List ℕ) (t : ℕ) → first_on k (straight I cs) t ≡ base_first k I cs t
unfolding first_on base_first
first_is k I cs zero = refl
first_is k I cs (suc t) = rw (first_is k I cs t, failing_is k I cs t)

-- ---- a past without moves
unfoldable Still : Past → Type 0
Still [] = Unit {0}
Still (e ∷ t) = (e.move ≡ stays) × Still t

still_level : (past : Past) → Still past → level_at past ≡ awake
unfolding Still level_at level_after
still_level [] s = refl
still_level (e ∷ t) s = rw s.0 (still_level t s.1)

still_counting : (past : Past) → Still past → Counting past
unfolding Still Counting
still_counting [] s = tt
still_counting (e ∷ t) s = (rw (still_level (e ∷ t) (unfold Still in s)) (unfold stopped in refl), still_counting t s.1)

still_clock : (past : Past) → Still past → (t : ℕ) → clock past t ≡ t
unfolding clock
still_clock past s t = counted_all past (still_counting past s) 1 t

map_id : (f : ℕ → ℕ) → ((n : ℕ) → f n ≡ n) → (l : List ℕ) → map f l ≡ l
map_id f h [] = refl
map_id f h (x ∷ l) = rw (h x, map_id f h l)

still_book : (card : Card) (past : Past) → Still past → mild_book card past ≡ straight (coarse_interval card) (counted_stamps past)
unfolding mild_book
still_book card past s = λ i. record {
  schedule = steady (every (coarse_interval card));
  clock = fun_ext {f = clock past} {g = λ t. t} (still_clock past s) i;
  refreshes = map_id (clock past) (still_clock past s) (counted_stamps past) i;
}

-- no exit is found
still_latest : (p : Move → Bool) → p stays ≡ false → (past : Past) → Still past → latest (λ (e : Taken) (t : Past). p e.move) past ≡ []
unfolding Still latest
still_latest p h [] s = refl
still_latest p h (e ∷ t) s = rw (s.0, h) (still_latest p h t s.1)

module _ (card : Card) (past : Past) (s : Still past) where
  no_power_exit : (b : ℕ) → find card past (record { ask = last_power_exit; bank = b }) ≡ none
  unfolding find means latest_move back found rises_from
  no_power_exit b = rw (still_latest (rises_from power_down) refl past s)

  no_self_exit : (b : ℕ) → find card past (record { ask = last_self_exit; bank = b }) ≡ none
  unfolding find means latest_move back found rises_from
  no_self_exit b = rw (still_latest (rises_from self_refresh) refl past s)

  -- so rules 21 to 24 are silent
  none_from : (x : Bool) (b d : ℕ) (a : Ask) → find card past (record { ask = a; bank = b }) ≡ none → permitted_by (alone_look card past) (from (when x (b ∷ [])) d a) ≡ 0
  unfolding from when permitted_by alone_look look_both
  none_from true b d a h = rw h (unfold permitted in refl)
  none_from false b d a h = refl

  silent : (d : Delays) (c : Command) (n : ℕ) → Every (λ q. bound (alone_look card past) q ≡ 0) (drop 18 (alone_rules d c stays n))
  unfolding Every alone_rules timed_rules delay_rules bound rule is_rise is_fall rises_from
  silent d c n = unfold when from permitted_by in refl
      & none_from (not (is NOP c)) (bank_at c n) d.txp last_power_exit (no_power_exit (bank_at c n))
      & unfold when from permitted_by in refl
      & none_from (not (is NOP c)) (bank_at c n) d.txsr last_self_exit (no_self_exit (bank_at c n))
      & tt

-- ---- an entry and the end
module _ (card : Card) (still : card.sleeps ≡ false) (past : Past) (s : Still past) where
  same_rules : (d : Delays) (c : Command) (n t : ℕ) →
      first_broken (alone_look card past) (alone_rules d c stays n) t ≡ first_broken (alone_look card past) (base_rules d c n) t
  unfolding base_rules
  same_rules d c n t =
      sym (ap (λ (l : List (Rule Asked Modes)). first_broken (alone_look card past) l t) (take-append-drop 18 (alone_rules d c stays n)))
      ∙ quiet_tail (alone_look card past) t (take 18 (alone_rules d c stays n)) (drop 18 (alone_rules d c stays n)) (silent card past s d c n)

  read_plain : (e : Entry) → alone_read card past e ≡ plain (decode (pins_of e))
  unfolding alone_read read_pins
  read_plain e = rw still

  same_taken : (e : Entry) → alone_taken card past e ≡ base_taken e
  unfolding alone_taken base_taken
  same_taken e = rw (read_plain e) (unfold recorded_as move_of in refl)

  still_next : (e : Entry) → Still (base_taken e ∷ past)
  unfolding Still base_taken
  still_next e = (refl, s)

  same_entry : (e : Entry) → alone_entry card past e ≡ base_entry card past e
  unfolding alone_entry base_entry
  same_entry e =
      rw (
        same_taken e,
        still_book card past s,
        still_book card (base_taken e ∷ past) (still_next e),
        first_one lpddr3 (straight (coarse_interval card) (counted_stamps past)) e.stamp,
        failing_one lpddr3 (straight (coarse_interval card) (counted_stamps (base_taken e ∷ past))) e.stamp,
        first_is lpddr3 (coarse_interval card) (counted_stamps past) e.stamp,
        failing_is lpddr3 (coarse_interval card) (counted_stamps (base_taken e ∷ past)) e.stamp,
        read_plain e,
      )
      (unfold judged_as move_of is_barred unless first_of or_else in
      rw (same_rules (coarse_delays_of card) (command_of (decode (pins_of e))) (counter_at past) e.stamp))

  same_end : (end : ℕ) → alone_end card past end ≡ base_end card past end
  unfolding alone_end base_end
  same_end end = rw (still_book card past s, first_one lpddr3 (straight (coarse_interval card) (counted_stamps past)) (suc end), first_is lpddr3 (coarse_interval card) (counted_stamps past) (suc end))

  same_verdict : (end : ℕ) → alone_verdict card past end ≡ base_verdict card past end
  unfolding alone_verdict base_verdict base_ledger
  same_verdict end = rw (still_book card past s) (unfold ledger_on ledger_after in rw (ledger_is lpddr3.credit (coarse_interval card) (counted_stamps past) (suc end)))

-- ---- a file
-- tag 19 behind tag 18, before the first entry
abbrev pub Tag19 : (entries : Bool) → List Field → ℕ → Type 0
Tag19 entries fs t = (entries ≡ false) × (last_tag fs ≡ 18) × (t ≡ 19)

-- the card is one group
base_come_lem : (b : Bool) (fs : List Field) (t : ℕ) → come_in mild_trace (1 up_to 18 ∷ []) b fs t ≡ base_come fs t
unfolding come_in mild_trace base_come ends_group begins_group ◌up_to◌
base_come_lem b fs t = ⊎_elim
    (λ (q : (last_tag fs ≡ 18) × (eqb (last_tag fs) 18 ≡ true)). rw (q.0, none_begins) (or-false (eqb t 32 || eqb t 33)))
    (λ (q : (last_tag fs ≡ 18 → ⊥) × (eqb (last_tag fs) 18 ≡ false)). rw (q.1, ne_eqb 18 (last_tag fs) (λ e. q.0 (sym e))))
    (eq_cases (last_tag fs) 18)
  where
    none_begins : (not b && (ltb 18 t && (eqb 1 t || false))) ≡ false
    none_begins = ⊎_elim
        (λ (q : (1 ≡ t) × (eqb 1 t ≡ true)). rw (← q.0) (and-false (not b)))
        (λ (q : (1 ≡ t → ⊥) × (eqb 1 t ≡ false)). rw (q.1, and-false (ltb 18 t), and-false (not b)))
        (eq_cases 1 t)

module _ (b : Bool) (fs : List Field) (low : last_tag fs ≤ 18) where
  tag_as_before : (t : ℕ) → TagTests (come_in mild_trace alone_groups b fs t) (base_come fs t) (card_whole fs) (Tag19 b fs t)
  tag_as_before t = rw (← base_come_lem b fs t) (tests_as (λ w n. let l = last w in (whole l, (n.0, l, n.2))) group_19)
    where
      last : ends_group (1 up_to 18 ∷ []) (last_tag fs) ≡ true → last_tag fs ≡ 18
      last e = unfold ends_group ◌up_to◌ in sym (eqb-true 18 (last_tag fs) (sym (or-false (eqb 18 (last_tag fs))) ∙ e))

      whole : last_tag fs ≡ 18 → card_whole fs ≡ true
      whole l = unfold card_whole ends_group groups ◌up_to◌ in rw l

      group_19 : TagTests (come_in mild_trace alone_groups b fs t) (come_in mild_trace (1 up_to 18 ∷ []) b fs t) (ends_group (1 up_to 18 ∷ []) (last_tag fs))
          ((b ≡ false) × (last_tag fs < 19) × (t ≡ 19))
      group_19 = unfold alone_groups mild_trace begins_group ◌up_to◌ in come_more mild_trace (1 up_to 18 ∷ []) [] (19 up_to 22) refl refl b fs (λ e. omega (arith, e, low)) t

-- tag 19 stands so, and what was said of the file is a wrong tag there
abbrev pub Tagged : List ℕ → Judged → Type 0
Tagged = Met Tag19

record Also (fs : List Field) (past : Past) : Type 0 where
  low : last_tag fs ≤ 18
  without : has 19 fs ≡ false
  still : Still past

alike : (fs : List Field) (past : Past) → CardRight fs → AllSized base.size fs → Also fs past → Alike alone base Tag19 Also fs past
unfolding alone base
alike fs past r z q = record {
  tag = tag_as_before (begun past) fs q.low;
  known = λ t m. alone_comes (begun past) fs (omega (arith, q.low)) t (known_then t m);
  wrong = λ t. refl;
  size = λ t l m. refl;
  listed = λ t l m. alone_listed (begun past) fs (omega (arith, q.low)) t l (known_then t m);
  good = λ f m o. refl;
  ranged = λ f m o. alone_ranged (begun past) fs (omega (arith, q.low)) z f (known_then f.tag m);
  card = λ f b m o. let l = small f m o in record { low = unfold last_tag in l; without = unfold has in rw (ne_eqb f.tag 19 (λ e. omega (arith, e, l))) q.without; still = q.still };
  entry = λ f n. same_entry (card_of fs) awake_card past q.still (entry_of f);
  taken = λ f n. same_taken (card_of fs) awake_card past q.still (entry_of f);
  also = λ f n e. record { low = q.low; without = q.without; still = still_next (card_of fs) awake_card past q.still (entry_of f) };
  end = λ w. same_end (card_of fs) awake_card past q.still;
  verdict = λ w t n. same_verdict (card_of fs) awake_card past q.still t;
}
  where
    known_then : (t : ℕ) → base_come fs t ≡ true → come_in mild_trace alone_groups (begun past) fs t ≡ true
    known_then t = still_comes (tag_as_before (begun past) fs q.low t)

    awake_card : (card_of fs).sleeps ≡ false
    awake_card = unfold card_of in q.without

    small : (f : Field) → base_come fs f.tag ≡ true → of_trace f.tag ≡ false → f.tag ≤ 18
    small f m = unfold all ends_group ◌up_to◌ in card_low 18 (1 up_to 18 ∷ []) refl refl (begun past) fs f.tag q.low (base_come_lem (begun past) fs f.tag ∙ m)

module _ (bytes : List ℕ) where
  -- just before request Nine the entries taken and the verdict were those of document 01's judge, or tag 19 stands where it saw a wrong tag
  pub as_before : (judged_by alone bytes ≡ judged_by base bytes) ⊎ Tagged bytes (judged_by base bytes)
  unfolding base
  as_before = agree alone base Tag19 Also alike bytes (record { low = unfold last_tag in omega arith; without = unfold has in refl; still = unfold Still in tt })

  -- and just before request Three they were still, or tag 19, 23, 25, 26 or 34 stands so, or an entry that was taken writes MA 1
  pub as_ever : (judged_by coarse_curt bytes ≡ judged_by base bytes)
      ⊎ (Tagged bytes (judged_by base bytes) ⊎ (Paired bytes (judged_by base bytes) ⊎ (Heated bytes (judged_by base bytes) ⊎ Programmed bytes (judged_by base bytes))))
  as_ever = behind_it (λ j. Paired bytes j ⊎ (Heated bytes j ⊎ Programmed bytes j)) as_before (alone_ever bytes)

  -- so where that judge's verdict is no wrong tag, and no entry that it took writes MA 1, verdict and lines are as they were
  module _ (unrefined : Unrefined bytes) (right : (at : ℕ) → judge_base bytes ≡ refused 2 0 at 0 → ⊥) (unwritten : Written (judged_by base bytes).past → ⊥) where
    wrong : {A : Type 0} (j : Judged) → judged_by base bytes ≡ j → (at : ℕ) → j.verdict ≡ refused 2 0 at 0 → A
    wrong j e at v = absurd (right at (unfold judge_base in ap (λ (j : Judged). j.verdict) e ∙ v))

    then : judged_by alone bytes ≡ judged_by base bytes
    then = ⊎_elim (λ (e : judged_by alone bytes ≡ judged_by base bytes). e) (λ (t : Tagged bytes (judged_by base bytes)). wrong _ refl _ t.verdict) as_before

    later : judged_by coarse_curt bytes ≡ judged_by alone bytes
    later = ⊎_elim (λ (e : judged_by coarse_curt bytes ≡ judged_by alone bytes). e)
        (⊎_elim
        (λ (p : Paired bytes (judged_by alone bytes)). wrong _ (sym then) _ p.verdict)
        (⊎_elim
        (λ (h : Heated bytes (judged_by alone bytes)). wrong _ (sym then) _ h.verdict)
        (⊎_elim
        (λ (m : Met Tag23 bytes (judged_by alone bytes)). wrong _ (sym then) _ m.verdict)
        (λ (w : Written (judged_by alone bytes).past). absurd (unwritten (rw then at w))))))
        (alone_ever bytes)

    now : judged bytes ≡ judged_by base bytes
    unfolding judge_base
    now = same_by bytes (judged_by base bytes) (same_curt bytes unrefined ∙ later ∙ then) (unfold judge_base in right)

    pub verdict_as_before : judge_file bytes ≡ judge_base bytes
    unfolding judge_file judge_base
    verdict_as_before = ap (λ (j : Judged). j.verdict) now

    pub lines_as_before : lines_of bytes ≡ lines_base bytes
    unfolding lines_of lines_base
    lines_as_before =
        ap (λ (j : Judged). entry_lines j.past ++ verdict_line j.verdict) now
        ∙ ap (λ (l : List ℕ). l ++ verdict_line (judged_by base bytes).verdict) (subst (λ (j : Judged). entry_lines j.past ≡ alone_lines j.past) then (alone_lines_lem bytes))

-- ---- what document 01's judge shares with the definitions is as it was for it: the round counter where clock-enable stays, and the line of a verdict with
-- one ledger
pub counter_as_before : (c : Command) (n : ℕ) → counter_after c stays n ≡ cond (is REFAB c) 0 (cond (is REFPB c) (cond (eqb n 7) 0 (suc n)) n)
unfolding counter_after rises_from
counter_as_before c n = refl

pub accepted_line : (m n : ℕ) (l : ℤ) →
    verdict_line (accepted m n (l ∷ [])) ≡ 97 ∷ 99 ∷ 99 ∷ 101 ∷ 112 ∷ 116 ∷ 101 ∷ 100 ∷ 32 ∷ (decimal m ++ (32 ∷ decimal n) ++ (32 ∷ signed l) ++ (10 ∷ []))
unfolding verdict_line ledger_parts
accepted_line m n l = rw (append-nil (signed l))
