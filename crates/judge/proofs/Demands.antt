-- Demands 2 and 3 of any verdict that keeps the promise of `judge`, and what its numbers count. The promise is read off its generated contract.
use Prim.Native.Nat.{ℕ, suc, ◌+◌, ◌*◌, ◌-◌, ◌/◌, ◌≤◌, ◌<◌}
use mathlib.Core.Path.{◌≡◌, ap, sym, ◌∙◌}
use mathlib.Core.Logic.{◌⊎◌, ◌↔◌}
use mathlib.Core.Bool.{false}
use mathlib.Core.List.{List, [], map}
use lib.ListN.{length}
use contract.Lifetimes.{Lfts}
use denote.Triple.Clauses.{AtExit}
use denote.Triple.Entry.{Args}
use Rattle.rules.specs.Whose.{parts}
use Rattle.rules.specs.Past.{refresh_stamps, counted_stamps, command_count}
use Rattle.rules.specs.Entries.{past_of}
use Rattle.rules.specs.Account.{lpddr3, ledger_on}
use Rattle.rules.specs.Clock.{counted_from, interval_below, book_of}
use Rattle.rules.specs.Stretch.{count_in, Free, Took}
use Rattle.rules.specs.Verdict.{sum, refresh_count}
use Rattle.rules.specs.Reading.{Accepts}
use Rattle.rules.specs.Form.{entry_of, end_of}
use Rattle.rules.specs.FileReading.{Says, AcceptedFile}
use Rattle.rules.proofs.Filtered.{IsPart}
use Rattle.rules.proofs.Exactly.{accepted_iff}
use Rattle.rules.proofs.Earliest.{ledgers_parts}
use Rattle.rules.proofs.Summed.{commands_sum}
use Rattle.rules.proofs.CardGood.{pair_awake}
use Rattle.rules.proofs.CardRead.{card_good_lem}
use Rattle.rules.proofs.FileExactly.{file_iff}
use Rattle.rules.proofs.FileAccepted.{accepted_file_iff, card_in, own_past, refreshed_file, counted_file, every_group_file, in_a_row_file}
use Rattle.lines.specs.declared.Owed.{Owed}
use Rattle.lines.specs.Values.{ledgers_of}
use Rattle.chunks.specs.declared.Verdict.{Verdict}
use Rattle.chunks.specs.declared.Verdict.TheVariants.{Accepted}
use Rattle.chunks.specs.Values.{verdict_of}
use Rattle.judge.specs.contracts.judge as judge
use Rattle.judge.proofs.Promises.{one_reading, judge_claims}

module _ (κs : Lfts (judge.signature).lifetimes) (a : Args judge.signature κs) (r : Verdict) (x : AtExit judge.ended κs) (e : (judge_claims κs a r x).claim) where
  abbrev pub bytes : List ℕ
  bytes = a.0.now

  -- ---- demand 2: the verdict is this one exactly where the file says so
  pub verdict_exactly : (s : Verdict) → (r ≡ s) ↔ Says bytes (verdict_of s)
  verdict_exactly s =
      let i = file_iff bytes (verdict_of s) in
      (λ p. i.0 (sym e ∙ ap verdict_of p), λ h. one_reading r s (e ∙ i.1 h))

  pub accepted_exactly : (m n : ℕ) (o : Owed) → (r ≡ Accepted m n o) ↔ AcceptedFile bytes m n (ledgers_of o)
  unfolding verdict_of
  accepted_exactly m n o =
      let i = accepted_file_iff bytes m n (ledgers_of o) in
      (λ p. i.0 (sym e ∙ ap verdict_of p), λ h. one_reading r (Accepted m n o) (e ∙ i.1 h))

  -- ---- an accepted file
  module _ (m n : ℕ) (o : Owed) (accepted : r ≡ Accepted m n o) where
    abbrev pub file : AcceptedFile bytes m n (ledgers_of o)
    file = (accepted_exactly m n o).0 accepted

    -- ---- its numbers: the counts of all parts together, and each part's ledger
    accepts : Accepts (card_in file) [] (map entry_of file.es) (end_of file.z) m n (ledgers_of o)
    accepts = (accepted_iff (card_in file) (map entry_of file.es) (end_of file.z) m n (ledgers_of o)).0 file.list

    pub commands_of_all : m ≡ sum (map (λ q. command_count (own_past file q)) (parts (card_in file)))
    unfolding past_of
    commands_of_all =
        accepts.commands
        ∙ sym (unfold past_of in commands_sum (card_in file) (pair_awake (card_in file) (card_good_lem file.fs file.card file.whole)) (map entry_of file.es))

    pub refreshes_of_all : n ≡ sum (map (λ q. length (counted_stamps (own_past file q))) (parts (card_in file)))
    unfolding past_of refresh_count
    refreshes_of_all = accepts.refreshes

    pub ledger_of_each : ledgers_of o ≡ map (λ q. ledger_on lpddr3.credit (book_of (card_in file) (own_past file q)) (end_of file.z)) (parts (card_in file))
    unfolding past_of
    ledger_of_each = accepts.ledgers ∙ ledgers_parts (card_in file) _ (end_of file.z)

    -- ---- demand 3
    -- each bank of each part is refreshed at least L / I - 17 times in any stretch of cycles up to E, of which L are counted, and in which no temperature field
    -- lies; I is the interval in force there
    pub bank_refreshed : (p : ℕ) → IsPart (card_in file) p → (b c k : ℕ) → b < 8 → c + k ≤ end_of file.z + 1 → Free (own_past file p) c k →
        counted_from (own_past file p) c k / interval_below (card_in file) c (own_past file p) - 17 ≤ count_in c (c + k) (refresh_stamps b (own_past file p))
    bank_refreshed = refreshed_file file

    -- of a card without tags 19 to 22 every cycle is counted, and L is the length of the stretch
    pub all_cycles : (card_in file).sleeps ≡ false → (p c k : ℕ) → counted_from (own_past file p) c k ≡ k
    all_cycles = counted_file file

    module _ (p : ℕ) (i : IsPart (card_in file) p) (first b g : ℕ) (hb : b < 8) (hg : g < (card_in file).groups) where
      abbrev pub GroupAt : ℕ → Type 0
      GroupAt s = Took (card_in file).groups first g (refresh_stamps b (own_past file p)) s

      -- with the interval in force at cycle c
      abbrev pub span : ℕ → ℕ
      span c = ((card_in file).groups + 17) * interval_below (card_in file) c (own_past file p)

      -- each row group of each bank is refreshed in every such stretch with (R + 17) I counted cycles, and no more of them pass from one time to the next, where no
      -- field lies between
      pub group_refreshed : (c k : ℕ) → c + k ≤ end_of file.z + 1 → Free (own_past file p) c k → span c ≤ counted_from (own_past file p) c k → (s : ℕ) × (c ≤ s) × (s < c + k) × GroupAt s
      group_refreshed = every_group_file file p i first b g hb hg

      pub group_in_time : (s t : ℕ) → GroupAt s → GroupAt t → s < t → ((u : ℕ) → GroupAt u → (u ≤ s) ⊎ (t ≤ u)) → Free (own_past file p) (suc s) (t - suc s) →
          counted_from (own_past file p) (suc s) (t - s) ≤ span (suc s)
      group_in_time = in_a_row_file file p i first b g hb hg
