-- Demand 2 over the list: the verdict and its reading in propositions.
use Prim.Native.Nat.{ℕ, zero, suc, ◌+◌, ◌<◌}
use mathlib.Core.Path.{◌≡◌, refl, ap, sym, ◌∙◌, subst}
use mathlib.Core.Logic.{◌⊎◌, inl, inr, ⊎_elim, ◌↔◌}
use mathlib.Core.List.{List, [], ◌∷◌}
use mathlib.Core.Option.{Option, none, some}
use native.Mathlib.Omega.{arith}
use lib.IntN.{ℤ}
use lib.ListN.{length}
use Rattle.rules.specs.Card.{Card}
use Rattle.rules.specs.Heat.{delays_at}
use Rattle.rules.specs.Past.{Past, mr4_at, counter_at}
use Rattle.rules.specs.Entries.{Entry, view_of, view_for, own_for, others_for, read_for, move_of, judged_as, past_with, past_over}
use Rattle.rules.specs.Delays.{look_both, find, delay_rules}
use Rattle.rules.specs.Account.{lpddr3}
use Rattle.rules.specs.Clock.{books_of}
use Rattle.rules.specs.Checks.{Refusal, checks, entry_checks, end_checks, entry_refusal, end_refusal}
use Rattle.rules.specs.Verdict.{accepted, refused, at_end, judge_from, judge}
use Rattle.rules.specs.Reading.{AllPass, FirstFails, entry_reads, end_reads, reads_at, Accepts, Refuses}
use Rattle.rules.proofs.Tests.{nowhere, ◌&◌}
use Rattle.rules.proofs.Decided.{
  decides_plain,
  above_iff,
  not_below_iff,
  not_wrong,
  not_reserved,
  not_barred,
  not_clash,
  code_good_lem,
  decides_delays,
  decides_at,
  decides_below,
  Decides,
  Each,
  all_of,
  decides_all,
}

accepted_refused : {m n : ℕ} {l : List ℤ} {x : Refusal} {k : ℕ} → accepted m n l ≡ refused x k → ⊥
accepted_refused e = let z : ◌≡◌ {A = ℕ} 0 1 = cc in omega arith

module _ (card : Card) where
  -- ---- one entry, and the end
  entry_each : (past : Past) (e : Entry) → Each (entry_checks card past e) (entry_reads card past e)
  unfolding Each entry_checks checks view_for view_of entry_reads
  entry_each past e =
      let r = read_for card past e in
      let own = own_for card past e in
      decides_plain 5 _ _ (above_iff past e.stamp)
      & decides_below lpddr3 (books_of card past) e.stamp
      & decides_plain 6 _ _ (not_wrong r)
      & decides_plain 24 _ _ (not_clash r)
      & decides_plain 7 _ _ (not_reserved r)
      & decides_plain 8 _ _ (λ h. h, λ h. h)
      & decides_plain 16 _ _ (not_barred r)
      & decides_plain 9 _ _ (λ h. h, λ h. h)
      & decides_plain 26 _ _ (code_good_lem r)
      & decides_delays (look_both (find card own) (find card (others_for card past e))) (delay_rules (delays_at card (mr4_at own)) (judged_as r) (move_of r) (counter_at own)) e.stamp
      & decides_at lpddr3 (books_of card (past_with card past e)) e.stamp
      & tt

  end_each : (past : Past) (end : ℕ) → Each (end_checks card past end) (end_reads card past end)
  unfolding Each end_checks end_reads
  end_each past end = (decides_plain 5 _ _ (not_below_iff past end), (decides_below lpddr3 (books_of card past) (suc end), tt))

  pub entry_decides : (past : Past) (e : Entry) → Decides (entry_refusal card past e) (all_of (entry_reads card past e))
  unfolding entry_refusal
  entry_decides past e = decides_all _ _ (entry_each past e)

  pub end_decides : (past : Past) (end : ℕ) → Decides (end_refusal card past end) (all_of (end_reads card past end))
  unfolding end_refusal
  end_decides past end = decides_all _ _ (end_each past end)

  -- ---- an entry in front
  pub step_passed : (past : Past) (k : ℕ) (e : Entry) (es : List Entry) (end : ℕ) → entry_refusal card past e ≡ none →
      judge_from card past k (e ∷ es) end ≡ judge_from card (past_with card past e) (suc k) es end
  unfolding judge_from
  step_passed past k e es end h = rw (h, judge_from)

  pub step_refused : (past : Past) (k : ℕ) (e : Entry) (es : List Entry) (end : ℕ) (x : Refusal) → entry_refusal card past e ≡ some x →
      judge_from card past k (e ∷ es) end ≡ refused x k
  unfolding judge_from
  step_refused past k e es end x h = rw (h, judge_from)

  reads_zero : (past : Past) (e : Entry) (es : List Entry) → reads_at card past (e ∷ es) 0 ≡ entry_reads card past e
  unfolding reads_at past_over
  reads_zero past e es = refl

  reads_suc : (past : Past) (e : Entry) (es : List Entry) (i : ℕ) → reads_at card past (e ∷ es) (suc i) ≡ reads_at card (past_with card past e) es i
  unfolding reads_at past_over
  reads_suc past e es i = refl

  -- ---- accepted
  accepts_forth : (past : Past) (k : ℕ) (es : List Entry) (end m n : ℕ) (l : List ℤ) →
      judge_from card past k es end ≡ accepted m n l → Accepts card past es end m n l
  unfolding judge_from past_over at_end
  accepts_forth past k [] end m n l a = go (end_refusal card past end) refl a
    where
      go : (o : Option Refusal) → end_refusal card past end ≡ o → at_end card past k end o ≡ accepted m n l → Accepts card past [] end m n l
      go none h q = record {
        entries = λ i h. absurd (nowhere h);
        ended = (end_decides past end).passing.0 h;
        commands = cc;
        refreshes = cc;
        ledgers = cc;
      }
      go (some x) h q = absurd (accepted_refused (sym q))
  accepts_forth past k (e ∷ es) end m n l a = go (entry_refusal card past e) refl (λ b. accepts_forth (past_with card past e) (suc k) es end m n l b)
    where
      go : (o : Option Refusal) → entry_refusal card past e ≡ o →
          (judge_from card (past_with card past e) (suc k) es end ≡ accepted m n l → Accepts card (past_with card past e) es end m n l) →
          Accepts card past (e ∷ es) end m n l
      go none h ih =
          let t = ih (sym (step_passed past k e es end h) ∙ a) in
          record {
            entries = at ((entry_decides past e).passing.0 h) t.entries;
            ended = t.ended;
            commands = t.commands;
            refreshes = t.refreshes;
            ledgers = t.ledgers;
          }
        where
          at : AllPass (entry_reads card past e) → ((i : ℕ) → i < length es → AllPass (reads_at card (past_with card past e) es i)) →
              (i : ℕ) → i < length (e ∷ es) → AllPass (reads_at card past (e ∷ es) i)
          at p q zero h = rw (reads_zero past e es) p
          at p q (suc i) h = rw (reads_suc past e es i) (q i (omega arith))
      go (some x) h ih = absurd (accepted_refused (sym a ∙ step_refused past k e es end x h))

  accepts_back : (past : Past) (k : ℕ) (es : List Entry) (end m n : ℕ) (l : List ℤ) →
      Accepts card past es end m n l → judge_from card past k es end ≡ accepted m n l
  unfolding judge_from past_over at_end
  accepts_back past k [] end m n l p =
      let h : end_refusal card past end ≡ none = (end_decides past end).passing.1 p.ended in
      rw (h, ← p.commands, ← p.refreshes, ← p.ledgers)
  accepts_back past k (e ∷ es) end m n l p =
      step_passed past k e es end ((entry_decides past e).passing.1 (rw (reads_zero past e es) at (p.entries 0 (omega arith))))
      ∙ accepts_back (past_with card past e) (suc k) es end m n l (record {
        entries = λ i h. rw (reads_suc past e es i) at (p.entries (suc i) (omega arith));
        ended = p.ended;
        commands = p.commands;
        refreshes = p.refreshes;
        ledgers = p.ledgers;
      })

  -- demand 2: accepted exactly when
  pub accepted_iff : (es : List Entry) (end m n : ℕ) (l : List ℤ) → (judge card es end ≡ accepted m n l) ↔ Accepts card [] es end m n l
  unfolding judge
  accepted_iff es end m n l = (accepts_forth [] 0 es end m n l, accepts_back [] 0 es end m n l)

  -- ---- refused
  refuses_forth : (past : Past) (k : ℕ) (es : List Entry) (end : ℕ) (x : Refusal) (j : ℕ) →
      judge_from card past k es end ≡ refused x j → (i : ℕ) × (j ≡ k + i) × Refuses card past es end x i
  unfolding judge_from past_over at_end
  refuses_forth past k [] end x j a = go (end_refusal card past end) refl a
    where
      go : (o : Option Refusal) → end_refusal card past end ≡ o → at_end card past k end o ≡ refused x j →
          (i : ℕ) × (j ≡ k + i) × Refuses card past [] end x i
      go none h q = absurd (accepted_refused q)
      go (some y) h q =
          let p : k ≡ j = cc in
          let s : y ≡ x = cc in
          (0, omega arith, record { before = λ i h. absurd (nowhere h); here = inr (refl, ((end_decides past end).failing_so x).0 (h ∙ ap some s)) })
  refuses_forth past k (e ∷ es) end x j a = go (entry_refusal card past e) refl (λ b. refuses_forth (past_with card past e) (suc k) es end x j b)
    where
      go : (o : Option Refusal) → entry_refusal card past e ≡ o →
          (judge_from card (past_with card past e) (suc k) es end ≡ refused x j → (i : ℕ) × (j ≡ suc k + i) × Refuses card (past_with card past e) es end x i) →
          (i : ℕ) × (j ≡ k + i) × Refuses card past (e ∷ es) end x i
      go none h ih =
          let t = ih (sym (step_passed past k e es end h) ∙ a) in (
            suc t.0,
            omega (arith, t.1),
            record {
              before = at t.2.before;
              here = ⊎_elim
                  (λ (h : (t.0 < length es) × FirstFails (reads_at card (past_with card past e) es t.0) x). inl (omega arith, rw (reads_suc past e es t.0) h.1))
                  (λ (h : (t.0 ≡ length es) × FirstFails (end_reads card (past_over card (past_with card past e) es) end) x). inr (ap suc h.0, h.1))
                  t.2.here;
            },
          )
        where
          at : {n : ℕ} → ((i : ℕ) → i < n → AllPass (reads_at card (past_with card past e) es i)) → (i : ℕ) → i < suc n → AllPass (reads_at card past (e ∷ es) i)
          at q zero l = rw (reads_zero past e es) ((entry_decides past e).passing.0 h)
          at q (suc i) l = rw (reads_suc past e es i) (q i (omega arith))
      go (some y) h ih =
          let q : refused y k ≡ refused x j = sym (step_refused past k e es end y h) ∙ a in
          let p : k ≡ j = cc in
          let s : y ≡ x = cc in (
            0,
            omega arith,
            record {
              before = λ i h. absurd (nowhere h);
              here = inl (omega arith, rw (reads_zero past e es) (((entry_decides past e).failing_so x).0 (h ∙ ap some s)));
            },
          )

  refuses_back : (past : Past) (k : ℕ) (es : List Entry) (end : ℕ) (x : Refusal) (i : ℕ) →
      Refuses card past es end x i → judge_from card past k es end ≡ refused x (k + i)
  unfolding judge_from past_over at_end
  refuses_back past k [] end x i p = go p.here
    where
      go : ((i < 0) × FirstFails (reads_at card past [] i) x) ⊎ ((i ≡ 0) × FirstFails (end_reads card past end) x) →
          judge_from card past k [] end ≡ refused x (k + i)
      go (inl h) = absurd (nowhere h.0)
      go (inr h) =
          let q : end_refusal card past end ≡ some x = ((end_decides past end).failing_so x).1 h.1 in
          let z : k ≡ k + i = omega (arith, h.0) in
          rw q (ap (refused x) z)
  refuses_back past k (e ∷ es) end x zero p = go p.here
    where
      go : ((0 < suc (length es)) × FirstFails (reads_at card past (e ∷ es) 0) x) ⊎ ((0 ≡ suc (length es)) × FirstFails (end_reads card (past_over card (past_with card past e) es) end) x) →
          judge_from card past k (e ∷ es) end ≡ refused x (k + 0)
      go (inl h) =
          let z : k ≡ k + 0 = omega arith in
          step_refused past k e es end x (((entry_decides past e).failing_so x).1 (rw (reads_zero past e es) at h.1)) ∙ ap (refused x) z
      go (inr h) = absurd (never h.0)
        where
          never : 0 ≡ suc (length es) → ⊥
          never h = omega arith
  refuses_back past k (e ∷ es) end x (suc i) p =
      let z : suc k + i ≡ k + suc i = omega arith in
      step_passed past k e es end ((entry_decides past e).passing.1 (rw (reads_zero past e es) at (p.before 0 (omega arith))))
      ∙ refuses_back (past_with card past e) (suc k) es end x i (record {
        before = λ j h. rw (reads_suc past e es j) at (p.before (suc j) (omega arith));
        here = there p.here;
      })
      ∙ ap (refused x) z
    where
      there : ((suc i < suc (length es)) × FirstFails (reads_at card past (e ∷ es) (suc i)) x) ⊎ ((suc i ≡ suc (length es)) × FirstFails (end_reads card (past_over card (past_with card past e) es) end) x) →
          ((i < length es) × FirstFails (reads_at card (past_with card past e) es i) x) ⊎ ((i ≡ length es) × FirstFails (end_reads card (past_over card (past_with card past e) es) end) x)
      there (inl h) = inl (omega arith, rw (reads_suc past e es i) at h.1)
      there (inr h) = inr (omega arith, h.1)

  -- demand 2: refused so exactly when
  pub refused_iff : (es : List Entry) (end : ℕ) (x : Refusal) (i : ℕ) → (judge card es end ≡ refused x i) ↔ Refuses card [] es end x i
  unfolding judge
  refused_iff es end x i = (forth, back)
    where
      forth : judge_from card [] 0 es end ≡ refused x i → Refuses card [] es end x i
      forth a =
          let t = refuses_forth [] 0 es end x i a in
          let z : t.0 ≡ i = omega (arith, t.1) in
          subst (λ (j : ℕ). Refuses card [] es end x j) z t.2

      back : Refuses card [] es end x i → judge_from card [] 0 es end ≡ refused x i
      back p = let z : 0 + i ≡ i = omega arith in refuses_back [] 0 es end x i p ∙ ap (refused x) z
