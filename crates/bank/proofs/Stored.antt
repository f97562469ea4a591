-- Refusal 13 of what a record remembers, from the rules' tests over questions and banks to a test of each field.
use Prim.Native.Nat.{ℕ, ◌≤◌, ◌<◌}
use mathlib.Core.Path.{◌≡◌, refl, ap, sym, ◌∙◌}
use mathlib.Core.Logic.{⊎_elim}
use mathlib.Core.Bool.{Bool, true, false, cond, ◌&&◌, and-true, and-false, and_assoc, and_comm}
use mathlib.Core.List.{List, [], ◌∷◌}
use mathlib.Core.Option.{none, some}
use native.Mathlib.Omega.{arith}
use lib.Dec.{leb, ltb}
use lib.ListN.{get_or}
use borrow.Author.Tests.{le-ltb, le-leb}
use Rattle.rules.specs.Lists.{all}
use Rattle.rules.specs.Commands.{banks}
use Rattle.rules.specs.Registers.{mr2_good, Modes}
use Rattle.rules.specs.Folds.{Found}
use Rattle.rules.specs.Delays.{
  Ask,
  last_mrw,
  last_mrr,
  last_refab,
  last_refpb,
  last_refpb_to,
  last_pre_to,
  last_prea_to,
  last_act_to,
  fourth_last,
  last_rd,
  last_wr,
  last_rd_or_mrr,
  last_rd_to,
  last_rda_to,
  last_wr_to,
  last_wra_to,
  last_fall,
  last_power_exit,
  last_self_exit,
  latest_of,
  lagging_of,
  fourth_of,
  latest_if,
  latest_move,
  means,
  unnoted,
}
use Rattle.rules.specs.Lent.{asks, all_stored, mr2s_good, not_above, stamps_good}
use Rattle.rules.proofs.Onward.{onward}
use Rattle.rules.proofs.Tests.{lt_cases, le_cases}
use Rattle.card.specs.Values.{modes_of, card_of}
use Rattle.card.specs.declared.Card.{Card}
use Rattle.bank.specs.declared.Once.{Once}
use Rattle.bank.specs.declared.Noted.{Noted}
use Rattle.bank.specs.declared.Each.{Each}
use Rattle.bank.specs.declared.NotedEach.{NotedEach}
use Rattle.bank.specs.declared.Share.{Share}
use Rattle.bank.specs.Values.{entry, kept, once, noted, each, no_modes, noted_each, outweighed, pre_of, prea_of, asked, last_of, share_of}
use Rattle.bank.specs.Clauses.{kept_by, each_by, four_by, latest_by, moves_by, rows_by, bus_by, data_by, note_good, notes_good}

-- ---- conjunctions
and_swap : (a b c d : Bool) → ((a && b) && (c && d)) ≡ ((a && c) && (b && d))
and_swap true b true d = refl
and_swap true true false d = refl
and_swap true false false d = refl
and_swap false b c d = refl

-- ---- a test at each bank
pub all_onward : (p : ℕ → Bool) → all p banks ≡ onward p 0 8
unfolding onward all banks
all_onward p = refl

pub all_const : (a : Bool) → all (λ b. a) banks ≡ a
unfolding all banks
all_const true = refl
all_const false = refl

module _ {A : Type 0} where
  all_same : (p q : A → Bool) → ((x : A) → p x ≡ q x) → (l : List A) → all p l ≡ all q l
  unfolding all
  all_same p q e [] = refl
  all_same p q e (x ∷ l) = rw (e x, all_same p q e l)

  all_both : (p q : A → Bool) (l : List A) → (all p l && all q l) ≡ all (λ x. p x && q x) l
  unfolding all
  all_both p q [] = refl
  all_both p q (x ∷ l) = and_swap (p x) (all p l) (q x) (all q l) ∙ ap (λ z. (p x && q x) && z) (all_both p q l)

-- ---- what is kept
all_kept : (q : Found Modes → Bool) (s : Bool) (t : ℕ) (n : Modes) → all q (kept s t n) ≡ cond s (q (entry t n)) true
unfolding all kept
all_kept q true t n = and-true _
all_kept q false t n = refl

kept_once : (q : Found Modes → Bool) (s : Bool) (t : ℕ) (n : Modes) → all (λ b. all q (kept s t n)) banks ≡ cond s (q (entry t n)) true
kept_once q s t n = all_const _ ∙ all_kept q s t n

kept_each : (q : Found Modes → Bool) (s : ℕ → Bool) (t : ℕ → ℕ) (n : ℕ → Modes) →
    all (λ b. all q (kept (s b) (t b) (n b))) banks ≡ all (λ b. cond (s b) (q (entry (t b) (n b))) true) banks
kept_each q s t n = all_same _ _ (λ b. all_kept q (s b) (t b) (n b)) banks

-- a test that passes all
passes : (l : List (Found Modes)) → all (λ f. true) l ≡ true
unfolding all
passes [] = refl
passes (x ∷ l) = passes l

none_tested : (h : ℕ → List (Found Modes)) → all (λ b. all (λ f. true) (h b)) banks ≡ true
none_tested h = all_same _ (λ b. true) (λ b. passes (h b)) banks ∙ all_const true

all_asks : (p : Ask → Bool) → all p asks ≡ (
    (p last_mrw && p last_mrr && p last_refab && p last_refpb) &&
    (p last_refpb_to && (p last_pre_to && p last_prea_to) && p last_act_to) &&
    p fourth_last &&
    (p last_rd && p last_wr && p last_rd_or_mrr) &&
    (p last_rd_to && p last_rda_to && p last_wr_to && p last_wra_to) &&
    (p last_fall && p last_power_exit && p last_self_exit)
    )
unfolding all asks
all_asks p = simp (and_assoc, and-true) refl

-- ---- stamps
module _ (last : Once) where
  abbrev below : Found Modes → Bool
  below f = not_above (last_of last) f.stamp

  once_by : (s : Bool) (t : ℕ) (n : Modes) → all (λ b. all below (kept s t n)) banks ≡ kept_by last s t
  unfolding kept_by
  once_by s t n = kept_once below s t n

  each_by_lem : (s : List Bool) (t : List ℕ) (n : ℕ → Modes) →
      all (λ b. all below (kept (get_or s b false) (get_or t b 0) (n b))) banks ≡ each_by last s t
  unfolding kept_by each_by
  each_by_lem s t n = kept_each below (λ b. get_or s b false) (λ b. get_or t b 0) n

  -- of two stamps, the later one tells
  later_tells : (t u : ℕ) → t ≤ u → (not_above (last_of last) t && not_above (last_of last) u) ≡ not_above (last_of last) u
  unfolding last_of not_above
  later_tells t u h = go last.seen
    where
      go : (s : Bool) →
          (not_above (cond s (some last.at) none) t && not_above (cond s (some last.at) none) u) ≡ not_above (cond s (some last.at) none) u
      go false = refl
      go true = ⊎_elim
          (λ (q : (u ≤ last.at) × (leb u last.at ≡ true)). rw (le-leb t last.at (omega (arith, q.0))))
          (λ (q : (last.at < u) × (leb u last.at ≡ false)). rw q.1 (and-false (leb t last.at)))
          (le_cases u last.at)

  earlier_tells : (t u : ℕ) → u ≤ t → (not_above (last_of last) t && not_above (last_of last) u) ≡ not_above (last_of last) t
  earlier_tells t u h = and_comm (not_above (last_of last) t) (not_above (last_of last) u) ∙ later_tells u t h

  -- two that may outweigh each other: what is outweighed is below the other
  either_way : (s r : Bool) (t u : ℕ) →
      (all below (cond (outweighed s r t u) [] (kept s t unnoted)) && all below (cond (outweighed r s u t) [] (kept r u unnoted))) ≡ (kept_by last s t && kept_by last r u)
  unfolding outweighed all kept kept_by
  either_way false false t u = refl
  either_way false true t u = and-true _
  either_way true false t u = and-true (not_above (last_of last) t && true)
  either_way true true t u = ⊎_elim
      (λ (q : (t < u) × (ltb t u ≡ true)).
      rw (q.1, le-ltb u t (omega (arith, q.0))) (and-true _ ∙ sym (later_tells t u (omega (arith, q.0)))))
      (λ (q : (u ≤ t) × (ltb t u ≡ false)). rw q.1 (other q.0))
      (lt_cases t u)
    where
      other : u ≤ t →
          ((not_above (last_of last) t && true) && all below (cond (ltb u t) [] (kept true u unnoted))) ≡ (not_above (last_of last) t && not_above (last_of last) u)
      other h = ⊎_elim
          (λ (q : (u < t) × (ltb u t ≡ true)). rw q.1 (and-true _ ∙ and-true _ ∙ sym (earlier_tells t u h)))
          (λ (q : (t ≤ u) × (ltb u t ≡ false)). rw (q.1, and-true (not_above (last_of last) t), and-true (not_above (last_of last) u)))
          (lt_cases u t)

  pre_and_prea : (p : Each) (a : Once) →
      (all (λ b. all below (cond (outweighed (get_or p.seen b false) a.seen (get_or p.at b 0) a.at) [] (each p b))) banks &&
      all (λ b. all below (cond (outweighed a.seen (get_or p.seen b false) a.at (get_or p.at b 0)) [] (once a))) banks) ≡
      (each_by last p.seen p.at && kept_by last a.seen a.at)
  unfolding each once each_by
  pre_and_prea p a =
      all_both _ _ banks ∙
      all_same _ _ (λ b. either_way (get_or p.seen b false) a.seen (get_or p.at b 0) a.at) banks ∙
      sym (all_both _ _ banks) ∙
      ap (λ z. each_by last p.seen p.at && z) (all_const _)

module _ (z : Once) (s : Share) where
  pub stamps_are : stamps_good (last_of z) (share_of s) ≡ (
      latest_by z s.latest &&
      rows_by z s.banks s.latest.prea &&
      four_by z s.four &&
      bus_by z s.bus &&
      data_by z s.banks &&
      moves_by z s.moves
      )
  unfolding stamps_good all_stored share_of asked once noted each noted_each pre_of prea_of latest_by moves_by rows_by bus_by data_by four_by
  stamps_are =
      let l = s.latest in
      let u = s.bus in
      let k = s.banks in
      let v = s.moves in
      all_asks (λ a. all (λ b. all (below z) (asked s a b)) banks) ∙
      (λ i.
      (once_by z l.mrw.seen l.mrw.at unnoted i &&
      once_by z l.mrr.seen l.mrr.at unnoted i &&
      once_by z l.refab.seen l.refab.at unnoted i &&
      once_by z l.refpb.seen l.refpb.at unnoted i) &&
      (each_by_lem z k.refpb.seen k.refpb.at (λ b. unnoted) i && pre_and_prea z k.pre l.prea i && each_by_lem z k.act.seen k.act.at (λ b. unnoted) i) &&
      all_const (four_by z s.four) i &&
      (once_by z u.rd.seen u.rd.at unnoted i &&
      once_by z u.wr.seen u.wr.at (modes_of u.wr.modes) i &&
      once_by z u.turn.seen u.turn.at (modes_of u.turn.modes) i) &&
      (each_by_lem z k.rd.seen k.rd.at (λ b. unnoted) i &&
      each_by_lem z k.rda.seen k.rda.at (λ b. unnoted) i &&
      each_by_lem z k.wr.seen k.wr.at (λ b. modes_of (get_or k.wr.modes b no_modes)) i &&
      each_by_lem z k.wra.seen k.wra.at (λ b. modes_of (get_or k.wra.modes b no_modes)) i) &&
      (once_by z v.fall.seen v.fall.at unnoted i &&
      once_by z v.power_exit.seen v.power_exit.at unnoted i &&
      once_by z v.self_exit.seen v.self_exit.at unnoted i))

-- ---- MR2 values
module _ (card : Card) (s : Share) where
  abbrev period : ℕ
  period = card.period.0

  abbrev fits : Found Modes → Bool
  fits f = mr2_good period f.noted.mr2

  abbrev lagging : Ask → Bool
  lagging a = all (λ b. all (λ f. cond (means a).lags (fits f) true) (asked s a b)) banks

  noted_fits : (x : Noted) → all (λ b. all fits (noted x)) banks ≡ note_good period x.seen x.modes.mr2
  unfolding noted note_good modes_of
  noted_fits x = kept_once fits x.seen x.at (modes_of x.modes)

  each_fits : (x : NotedEach) → all (λ b. all fits (noted_each x b)) banks ≡ notes_good period x.seen x.modes
  unfolding noted_each note_good notes_good modes_of
  each_fits x = kept_each fits (λ b. get_or x.seen b false) (λ b. get_or x.at b 0) (λ b. modes_of (get_or x.modes b no_modes))

  pub mr2s_are : mr2s_good (card_of card) (share_of s) ≡ (
      mr2_good period s.modes.mr2 &&
      (note_good period s.bus.wr.seen s.bus.wr.modes.mr2 && note_good period s.bus.turn.seen s.bus.turn.modes.mr2) &&
      (notes_good period s.banks.wr.seen s.banks.wr.modes && notes_good period s.banks.wra.seen s.banks.wra.modes)
      )
  unfolding mr2s_good all_stored share_of card_of modes_of means latest_of lagging_of fourth_of latest_if latest_move asked
  mr2s_are =
      ap (λ z. mr2_good period s.modes.mr2 && z)
      (all_asks lagging ∙
      (λ i.
      (none_tested (asked s last_mrw) i &&
      none_tested (asked s last_mrr) i &&
      none_tested (asked s last_refab) i &&
      none_tested (asked s last_refpb) i) &&
      (none_tested (asked s last_refpb_to) i &&
      (none_tested (asked s last_pre_to) i && none_tested (asked s last_prea_to) i) &&
      none_tested (asked s last_act_to) i) &&
      none_tested (asked s fourth_last) i &&
      (none_tested (asked s last_rd) i && noted_fits s.bus.wr i && noted_fits s.bus.turn i) &&
      (none_tested (asked s last_rd_to) i &&
      none_tested (asked s last_rda_to) i &&
      each_fits s.banks.wr i &&
      each_fits s.banks.wra i) &&
      (none_tested (asked s last_fall) i && none_tested (asked s last_power_exit) i && none_tested (asked s last_self_exit) i)) ∙
      and-true _) ∙
      sym (and_assoc (mr2_good period s.modes.mr2) _ _)
