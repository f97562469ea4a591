-- Each rule's bound, by the questions that it asks.
use Prim.Native.Nat.{ℕ, ◌+◌, ◌-◌, max}
use mathlib.Core.Path.{◌≡◌, refl, ap, sym, ◌∙◌}
use mathlib.Core.Bool.{Bool, not, ◌||◌}
use mathlib.Core.List.{List, [], ◌∷◌, ◌++◌}
use native.Mathlib.Omega.{arith}
use mathlib.Core.Option.{Option}
use lib.ListN.{get_or, get_elem?}
use Rattle.rules.specs.Lists.{when}
use Rattle.rules.specs.Commands as rules
use Rattle.rules.specs.Commands.{code, NOP, MRW, MRR, REFPB, REFAB, ACT, RD, WR, PRE, PREA, is, banks}
use Rattle.rules.specs.Levels.{self_refresh, Move, stays, is_fall, is_rise, rises_from}
use Rattle.rules.specs.Registers.{rl_of, wl_of, Modes, nwr_of}
use Rattle.rules.specs.Past.{bank_at}
use Rattle.rules.specs.Folds.{permitted_by, bound}
use Rattle.rules.specs.Folds as folds
use Rattle.rules.specs.Delays.{Answers, look_both, last_rd, last_wr, last_rd_or_mrr, last_fall, last_power_exit, last_self_exit, idle_use, precharged, without, from, lagging, recovering, across, rule, delay_rules}
use Rattle.rules.specs.Lent.{look_in}
use Rattle.card.specs.Values.{clocks_of}
use Rattle.card.specs.declared.Delays.{Delays}
use Rattle.pins.specs.Values.{command_of, level_of}
use Rattle.pins.specs.declared.Command.{Command}
use Rattle.bank.specs.Values.{once, noted, no_modes, share_of, bus_look, idle_bus, fresh_share}
use Rattle.bank.specs.declared.Bus.{Bus}
use Rattle.bank.specs.declared.Share.{Share}
use Rattle.bounds.specs.Values.{look_with}
use Rattle.bounds.specs.Parts.{bounds_of, rule_at, place_of, bound_of, across_of, ask_of, asked_for, delay_in, sources_of, broken_from, greatest_of}
use Rattle.bounds.specs.declared.answers.Ask.{Ask}
use Rattle.bounds.specs.declared.answers.Ask.TheVariants.{Mrw, Mrr, Refab, Refpb, RefpbTo, PreTo, PreaTo, ActTo, FourthLast, Rd, Wr, RdOrMrr, RdTo, RdaTo, WrTo, WraTo, Fall, PowerExit, SelfExit}
use Rattle.bounds.specs.declared.delays.Lag.{Lag}
use Rattle.bounds.specs.declared.delays.Lag.TheVariants.{Plain, Written, Turned, Recovered}
use Rattle.bounds.proofs.Spanned.{joined, others_if}
use Rattle.bounds.proofs.Sourced.{own_asked, far, far_asked, across_both, rd_heard, wr_heard, turn_heard}

-- ---- by whatever bus of the other part and whatever move
module _ (s : Share) (d : Delays) (c : Command) (x : Bus) (v : Move) where
  abbrev k : rules.Command
  k = command_of c

  abbrev n : ℕ
  n = s.counter

  abbrev look : Answers
  look = look_in (share_of s).history

  abbrev asked : List ℕ → Ask → Lag → ℕ → ℕ
  asked bs a g t = permitted_by look (sources_of bs a g t)

  abbrev own : Bool → List ℕ
  own b = when b (bank_at k n ∷ [])

  abbrev others : Bool → List ℕ
  others b = when b (without (bank_at k n) banks)

  -- rule r's bound
  abbrev by : ℕ → ℕ
  by r = get_or (bounds_of s x d c v) (place_of r) 0

  -- a fixed delay, and two or three together
  one : (a : Ask) (t : ℕ) (bs : List ℕ) → permitted_by (look_with s x) (from bs t (ask_of a)) ≡ asked bs a Plain t
  unfolding look_with from asked_for delay_in
  one a t bs = own_asked look (bus_look x) a Plain t (λ m. t) (λ m. refl) bs

  two : (a b : Ask) (t u : ℕ) (bs cs : List ℕ)
      → permitted_by (look_with s x) (from bs t (ask_of a) ++ from cs u (ask_of b)) ≡ max (asked bs a Plain t) (asked cs b Plain u)
  two a b t u bs cs = joined (look_with s x) (from bs t (ask_of a)) (from cs u (ask_of b)) ∙ rw (one a t bs, one b u cs)

  -- one by RL and WL
  lag : (a : Ask) (g : Lag) (t : ℕ) (e : ℕ → ℕ → ℕ) (bs : List ℕ) → ((m : Modes) → e (rl_of m.mr2) (wl_of m.mr2) ≡ delay_in g t m)
      → permitted_by (look_with s x) (lagging bs e (ask_of a)) ≡ asked bs a g t
  unfolding look_with lagging asked_for
  lag a g t e bs h = own_asked look (bus_look x) a g t (λ m. e (rl_of m.mr2) (wl_of m.mr2)) h bs

  -- and by WL and nWR
  recovers : (a : Ask) (w t : ℕ) (e : ℕ → ℕ → ℕ) (bs : List ℕ) → ((m : Modes) → e (wl_of m.mr2) (nwr_of w m) ≡ delay_in (Recovered w) t m)
      → permitted_by (look_with s x) (recovering bs w e (ask_of a)) ≡ asked bs a (Recovered w) t
  unfolding look_with recovering asked_for
  recovers a w t e bs h = own_asked look (bus_look x) a (Recovered w) t (λ m. e (wl_of m.mr2) (nwr_of w m)) h bs

  pub all_banks_are : by 1 ∷ by 2 ∷ by 3 ∷ [] ≡
      asked (own (not (is NOP k))) Mrw Plain d.tmrw ∷ asked (own (not (is NOP k))) Mrr Plain d.tmrr ∷ asked (own (not (is NOP k))) Refab Plain d.trfcab ∷ []
  unfolding place_of bounds_of delay_rules rule bound ask_of clocks_of
  all_banks_are = λ i. one Mrw d.tmrw (own (not (is NOP k))) i ∷ one Mrr d.tmrr (own (not (is NOP k))) i ∷ one Refab d.trfcab (own (not (is NOP k))) i ∷ []

  pub after_refpb_is : by 4 ≡
      max (asked (own (is REFPB k || is REFAB k || is MRW k || is PREA k)) Refpb Plain d.trfcpb) (asked (own (is ACT k || is PRE k)) RefpbTo Plain d.trfcpb)
  unfolding place_of bounds_of delay_rules rule bound ask_of clocks_of
  after_refpb_is = two Refpb RefpbTo d.trfcpb d.trfcpb (own (is REFPB k || is REFAB k || is MRW k || is PREA k)) (own (is ACT k || is PRE k))

  pub after_precharge_are : by 5 ∷ by 6 ∷ [] ≡
      asked (idle_use k n) PreTo Plain d.trppb ∷ asked (idle_use k n) PreaTo Plain d.trpab ∷ []
  unfolding place_of bounds_of delay_rules rule bound ask_of clocks_of
  after_precharge_are = λ i. one PreTo d.trppb (idle_use k n) i ∷ one PreaTo d.trpab (idle_use k n) i ∷ []

  pub after_act_are : by 7 ∷ by 8 ∷ by 9 ∷ [] ≡
      asked (own (is RD k || is WR k)) ActTo Plain d.trcd ∷ asked (precharged k) ActTo Plain d.tras ∷ asked (idle_use k n) ActTo Plain d.trc ∷ []
  unfolding place_of bounds_of delay_rules rule bound ask_of clocks_of
  after_act_are = λ i. one ActTo d.trcd (own (is RD k || is WR k)) i ∷ one ActTo d.tras (precharged k) i ∷ one ActTo d.trc (idle_use k n) i ∷ []

  pub other_banks_is : by 10 ≡
      max (asked (others (is ACT k || is REFPB k)) ActTo Plain d.trrd) (asked (others (is ACT k)) RefpbTo Plain d.trrd)
  unfolding place_of bounds_of delay_rules rule bound ask_of clocks_of
  other_banks_is = two ActTo RefpbTo d.trrd d.trrd (others (is ACT k || is REFPB k)) (others (is ACT k))

  pub four_before_is : by 11 ≡ asked (own (is ACT k || is REFPB k)) FourthLast Plain d.tfaw
  unfolding place_of bounds_of delay_rules rule bound ask_of clocks_of
  four_before_is = one FourthLast d.tfaw (own (is ACT k || is REFPB k))

  pub bursts_is : by 12 ≡ max (asked (own (is RD k || is MRR k)) Rd Plain 4) (asked (own (is WR k)) Wr Plain 4)
  unfolding place_of bounds_of delay_rules rule bound ask_of clocks_of
  bursts_is = two Rd Wr 4 4 (own (is RD k || is MRR k)) (own (is WR k))

  -- the sums of 13 and 14 as the code makes them
  up : (m : Modes) → rl_of m.mr2 + d.tdqsck + 5 - wl_of m.mr2 ≡ delay_in Turned (d.tdqsck + 5) m
  unfolding delay_in
  up m = omega arith

  down : (m : Modes) → wl_of m.mr2 + 5 + d.twtr ≡ delay_in Written (5 + d.twtr) m
  unfolding delay_in
  down m = omega arith

  pub turns_are : by 13 ∷ by 14 ∷ [] ≡
      asked (own (is WR k)) RdOrMrr Turned (d.tdqsck + 5) ∷ asked (own (is RD k || is MRR k)) Wr Written (5 + d.twtr) ∷ []
  unfolding place_of bounds_of delay_rules rule bound ask_of clocks_of
  turns_are = λ i.
      lag RdOrMrr Turned (d.tdqsck + 5) (λ rl wl. rl + d.tdqsck + 5 - wl) (own (is WR k)) up i ∷
      lag Wr Written (5 + d.twtr) (λ rl wl. wl + 5 + d.twtr) (own (is RD k || is MRR k)) down i ∷ []

  pub after_rd_are : by 15 ∷ by 16 ∷ [] ≡
      asked (precharged k) RdTo Plain (max 4 d.trtp) ∷ asked (idle_use k n) RdaTo Plain (max 4 d.trtp + d.trppb) ∷ []
  unfolding place_of bounds_of delay_rules rule bound ask_of clocks_of
  after_rd_are = λ i. one RdTo (max 4 d.trtp) (precharged k) i ∷ one RdaTo (max 4 d.trtp + d.trppb) (idle_use k n) i ∷ []

  pub after_wr_are : by 17 ∷ by 18 ∷ [] ≡
      asked (precharged k) WrTo Written (5 + d.twr) ∷ asked (idle_use k n) WraTo (Recovered d.twr) (5 + d.trppb) ∷ []
  unfolding place_of bounds_of delay_rules rule bound ask_of clocks_of
  after_wr_are =
      let near : (m : Modes) → wl_of m.mr2 + 5 + d.twr ≡ delay_in Written (5 + d.twr) m = λ m. unfold delay_in in omega arith in
      let late : (m : Modes) → wl_of m.mr2 + 5 + nwr_of d.twr m + d.trppb ≡ delay_in (Recovered d.twr) (5 + d.trppb) m = λ m. unfold delay_in in omega arith in
      λ i.
      lag WrTo Written (5 + d.twr) (λ rl wl. wl + 5 + d.twr) (precharged k) near i ∷
      recovers WraTo d.twr (5 + d.trppb) (λ wl nwr. wl + 5 + nwr + d.trppb) (idle_use k n) late i ∷ []

  pub between_moves_is : by 21 ≡
      max (asked (own (is_rise v)) Fall Plain d.tcke) (max (asked (own (is_fall v)) PowerExit Plain d.tcke) (asked (own (is_fall v)) SelfExit Plain d.tcke))
  unfolding place_of bounds_of delay_rules rule bound ask_of clocks_of
  between_moves_is =
      joined (look_with s x) (from (own (is_rise v)) d.tcke last_fall) (from (own (is_fall v)) d.tcke last_power_exit ++ from (own (is_fall v)) d.tcke last_self_exit)
      ∙ rw (one Fall d.tcke (own (is_rise v)), two PowerExit SelfExit d.tcke d.tcke (own (is_fall v)) (own (is_fall v)))

  pub after_exit_are : by 22 ∷ by 24 ∷ [] ≡
      asked (own (not (is NOP k))) PowerExit Plain d.txp ∷ asked (own (not (is NOP k))) SelfExit Plain d.txsr ∷ []
  unfolding place_of bounds_of delay_rules rule bound ask_of clocks_of
  after_exit_are = λ i. one PowerExit d.txp (own (not (is NOP k))) i ∷ one SelfExit d.txsr (own (not (is NOP k))) i ∷ []

  pub in_self_refresh_is : by 23 ≡ asked (own (rises_from self_refresh v)) Fall Plain d.tckesr
  unfolding place_of bounds_of delay_rules rule bound ask_of clocks_of
  in_self_refresh_is = one Fall d.tckesr (own (rises_from self_refresh v))

  -- those that ask the other part
  abbrev rd : Option (folds.Found Modes)
  rd = get_elem? (once x.rd) 0

  abbrev wr : Option (folds.Found Modes)
  wr = get_elem? (noted x.wr) 0

  abbrev turn : Option (folds.Found Modes)
  turn = get_elem? (noted x.turn) 0

  pub across_are : by 25 ∷ by 26 ∷ by 27 ∷ [] ≡
      max (far (is RD k || is MRR k) rd Plain 4 d.gap) (far (is WR k) wr Plain 4 d.gap) ∷
      far (is WR k) turn Turned (d.tdqsck + 5) d.gap ∷ far (is RD k || is MRR k) wr Written (5 + d.twtr) d.gap ∷ []
  unfolding place_of bounds_of delay_rules rule bound clocks_of look_with from lagging
  across_are =
      let b = bank_at k n in
      let other = bus_look x in
      let first : permitted_by (look_both look other) (across d.gap (from (own (is RD k || is MRR k)) 4 last_rd ++ from (own (is WR k)) 4 last_wr))
      ≡ max (far (is RD k || is MRR k) rd Plain 4 d.gap) (far (is WR k) wr Plain 4 d.gap) =
      rw (
        across_both d.gap (from (own (is RD k || is MRR k)) 4 last_rd) (from (own (is WR k)) 4 last_wr),
        joined (look_both look other) (across d.gap (from (own (is RD k || is MRR k)) 4 last_rd)) (across d.gap (from (own (is WR k)) 4 last_wr)),
        far_asked look other (is RD k || is MRR k) b rd last_rd Plain 4 d.gap (λ m. 4) (λ m. unfold delay_in in refl) (rd_heard x b),
        far_asked look other (is WR k) b wr last_wr Plain 4 d.gap (λ m. 4) (λ m. unfold delay_in in refl) (wr_heard x b),
      ) in
      λ i.
      first i ∷
      far_asked look other (is WR k) b turn last_rd_or_mrr Turned (d.tdqsck + 5) d.gap (λ m. rl_of m.mr2 + d.tdqsck + 5 - wl_of m.mr2) up (turn_heard x b) i ∷
      far_asked look other (is RD k || is MRR k) b wr last_wr Written (5 + d.twtr) d.gap (λ m. wl_of m.mr2 + 5 + d.twtr) down (wr_heard x b) i ∷ []

  pub broken_is : (t : ℕ) → folds.first_broken (look_with s x) (delay_rules (clocks_of d) k v n) t ≡ broken_from 0 (bounds_of s x d c v) t
  unfolding bounds_of delay_rules rule folds.first_broken broken_from rule_at
  broken_is t = refl

  pub greatest_is : folds.greatest (look_with s x) (delay_rules (clocks_of d) k v n) ≡ greatest_of (bounds_of s x d c v)
  unfolding bounds_of delay_rules rule folds.greatest greatest_of
  greatest_is = refl

-- ---- the table whole
module _ (s : Share) (d : Delays) (c : Command) (x : Bus) (v : Move) where
  -- rule r's bound; that of a rule that does not ask about moves; that of one that asks the other part
  abbrev with : ℕ → ℕ
  with r = bound_of s d c v r

  abbrev still : ℕ → ℕ
  still r = bound_of s d c stays r

  abbrev over : ℕ → ℕ
  over r = across_of x d c r

  -- the same bound, whatever is not asked
  nth : (i : ℕ) {l m : List ℕ} → l ≡ m → get_or l i 0 ≡ get_or m i 0
  nth i e = ap (λ l. get_or l i 0) e

  pub by_number : bounds_of s x d c v ≡
      still 1 ∷ still 2 ∷ still 3 ∷ still 4 ∷ still 5 ∷ still 6 ∷ still 7 ∷ still 8 ∷ still 9 ∷ still 10 ∷ still 11 ∷ still 12 ∷ still 13 ∷ still 14 ∷
      still 15 ∷ still 16 ∷ still 17 ∷ still 18 ∷ with 21 ∷ still 22 ∷ with 23 ∷ still 24 ∷ over 25 ∷ over 26 ∷ over 27 ∷ []
  unfolding bound_of across_of place_of bounds_of delay_rules
  by_number =
      let a = all_banks_are s d c x v ∙ sym (all_banks_are s d c idle_bus stays) in
      let four = after_refpb_is s d c x v ∙ sym (after_refpb_is s d c idle_bus stays) in
      let p = after_precharge_are s d c x v ∙ sym (after_precharge_are s d c idle_bus stays) in
      let y = after_act_are s d c x v ∙ sym (after_act_are s d c idle_bus stays) in
      let ten = other_banks_is s d c x v ∙ sym (other_banks_is s d c idle_bus stays) in
      let eleven = four_before_is s d c x v ∙ sym (four_before_is s d c idle_bus stays) in
      let twelve = bursts_is s d c x v ∙ sym (bursts_is s d c idle_bus stays) in
      let t = turns_are s d c x v ∙ sym (turns_are s d c idle_bus stays) in
      let r = after_rd_are s d c x v ∙ sym (after_rd_are s d c idle_bus stays) in
      let w = after_wr_are s d c x v ∙ sym (after_wr_are s d c idle_bus stays) in
      let moves = between_moves_is s d c x v ∙ sym (between_moves_is s d c idle_bus v) in
      let z = after_exit_are s d c x v ∙ sym (after_exit_are s d c idle_bus stays) in
      let rest = in_self_refresh_is s d c x v ∙ sym (in_self_refresh_is s d c idle_bus v) in
      let o = across_are s d c x v ∙ sym (across_are (fresh_share no_modes) d c x stays) in
      λ i.
      nth 0 a i ∷ nth 1 a i ∷ nth 2 a i ∷ four i ∷ nth 0 p i ∷ nth 1 p i ∷ nth 0 y i ∷ nth 1 y i ∷ nth 2 y i ∷ ten i ∷ eleven i ∷ twelve i ∷
      nth 0 t i ∷ nth 1 t i ∷ nth 0 r i ∷ nth 1 r i ∷ nth 0 w i ∷ nth 1 w i ∷ moves i ∷ nth 0 z i ∷ rest i ∷ nth 1 z i ∷
      nth 0 o i ∷ nth 1 o i ∷ nth 2 o i ∷ []

-- named by the file of the table: what unfolds this unfolds all these, and the laws
unfoldable pub opened : ℕ
unfolding is code bound_of across_of level_of
opened = 0

pub ruleset by_rule = (all_banks_are, after_refpb_is, after_precharge_are, after_act_are, other_banks_is, four_before_is, bursts_is, turns_are, after_rd_are, after_wr_are, between_moves_is, after_exit_are, in_self_refresh_is, others_if)
