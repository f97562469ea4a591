-- Each computed check decides the check that is read: it gives no refusal exactly where that passes, and this refusal exactly where that fails so.
use Prim.Native.Nat.{ℕ, zero, suc, ◌*◌, ◌-◌, ◌≤◌, ◌<◌}
use mathlib.Core.Path.{◌≡◌, refl, ap, sym, ◌∙◌, subst}
use mathlib.Core.Logic.{◌⊎◌, inl, inr, ⊎_elim, ◌↔◌}
use mathlib.Core.Bool.{Bool, true, false, not}
use mathlib.Core.List.{List, [], ◌∷◌, map}
use mathlib.Core.Option.{Option, none, some}
use native.Mathlib.Omega.{arith}
use lib.Dec.{T, leb, ltb}
use lib.IntN.{ℤ, pos}
use lib.Signed.{le_z, ◌≤ℤ◌}
use borrow.Author.Tests.{ltb-true, lt-ltb, leb-true, le-leb}
use Rattle.rules.specs.Lists.{Every}
use Rattle.rules.specs.Heat.{mr4_good}
use Rattle.rules.specs.Pins.{good, wrong_bits, reserved}
use Rattle.rules.specs.Levels.{Read, plain, moved, asleep, barred, clash, sensed}
use Rattle.rules.specs.Past.{Past}
use Rattle.rules.specs.Folds.{Found, Rule, or_else, first_of, bound, first_broken}
use Rattle.rules.specs.Account.{Terms, failing, Book, ledger_on, since_on, failing_on, first_on, failing_in, first_in}
use Rattle.rules.specs.Checks.{Refusal, refusal, unless, named, is_wrong, is_reserved, is_barred, is_clash, code_good, above, not_below}
use Rattle.rules.specs.Reading.{
  Check,
  AllPass,
  FirstFails,
  plainly,
  Above,
  NotBelow,
  Holds,
  FirstBroken,
  in_time,
  WithinLimit,
  WithinGap,
  Paid,
  Unpaid,
  EachPaid,
  FirstUnpaid,
  paid_at,
  paid_below,
}
use Rattle.rules.proofs.Tests.{lt_cases, le_cases, some_none}
use Rattle.rules.proofs.Bounds.{first_permitted, holds_iff, only_bound}

pub record Decides (o : Option Refusal) (c : Check) : Type 0 where
  pub passing : (o ≡ none) ↔ c.ok
  pub failing_so : (x : Refusal) → (o ≡ some x) ↔ c.fails x

-- ---- options
pub or_else_none {ℓ} : {A : Type ℓ} (x y : Option A) → or_else x y ≡ none → (x ≡ none) × (y ≡ none)
unfolding or_else
or_else_none none y e = (refl, e)
or_else_none (some a) y e = absurd (some_none (sym e))

pub none_or_else {ℓ} : {A : Type ℓ} {x y : Option A} → x ≡ none → y ≡ none → or_else x y ≡ none
unfolding or_else
none_or_else {x = none} p q = q
none_or_else {x = some a} p q = p

pub or_none {ℓ} : {A : Type ℓ} (x : Option A) → or_else x none ≡ x
unfolding or_else
or_none none = refl
or_none (some a) = refl

pub unless_none : (b : Bool) (k : ℕ) → unless b k ≡ none → b ≡ true
unfolding unless
unless_none true k e = refl
unless_none false k e = absurd (some_none (sym e))

pub or_assoc {ℓ} : {A : Type ℓ} (x y z : Option A) → or_else (or_else x y) z ≡ or_else x (or_else y z)
unfolding or_else
or_assoc none y z = refl
or_assoc (some a) y z = refl

pub named_none : (k : ℕ) (o : Option (ℕ × ℕ)) → named k o ≡ none → o ≡ none
unfolding named
named_none k none e = refl
named_none k (some x) e = absurd (some_none (sym e))

none_named : (k : ℕ) (o : Option (ℕ × ℕ)) → o ≡ none → named k o ≡ none
unfolding named
none_named k o e = rw e

-- ---- a check that is a test
pub decides_plain : (k : ℕ) (b : Bool) (P : Type 0) → (b ≡ true) ↔ P → Decides (unless b k) (plainly k P)
unfolding unless plainly
decides_plain k true P i = record {
  passing = (λ e. i.0 refl, λ p. refl);
  failing_so = λ x. (λ e. absurd (some_none e), λ h. absurd (h.0 (i.0 refl)));
}
decides_plain k false P i = record {
  passing = (λ e. absurd (some_none (sym e)), λ p. let q : false ≡ true = i.1 p in cc);
  failing_so = λ x. (λ e. (λ p. let q : false ≡ true = i.1 p in let z : ◌≡◌ {A = ℕ} 0 1 = cc in omega arith, cc), λ h. ap some (sym h.1));
}

pub above_iff : (past : Past) (t : ℕ) → (above past t ≡ true) ↔ Above past t
unfolding above Above
above_iff [] t = (λ e. tt, λ h. refl)
above_iff (e ∷ p) t = (ltb-true e.stamp t, lt-ltb e.stamp t)

pub not_below_iff : (past : Past) (t : ℕ) → (not_below past t ≡ true) ↔ NotBelow past t
unfolding not_below NotBelow
not_below_iff [] t = (λ e. tt, λ h. refl)
not_below_iff (e ∷ p) t = (leb-true e.stamp t, le-leb e.stamp t)

pub not_wrong : (r : Read) → (not (is_wrong r) ≡ true) ↔ (¬ (r ≡ plain wrong_bits))
unfolding is_wrong
not_wrong (plain (good c)) = (λ e q. let z : ◌≡◌ {A = ℕ} 0 1 = cc in omega arith, λ f. refl)
not_wrong (plain wrong_bits) = (λ e q. let z : ◌≡◌ {A = ℕ} 0 1 = cc in omega arith, λ f. absurd (f refl))
not_wrong (plain reserved) = (λ e q. let z : ◌≡◌ {A = ℕ} 0 1 = cc in omega arith, λ f. refl)
not_wrong (moved m) = (λ e q. let z : ◌≡◌ {A = ℕ} 0 1 = cc in omega arith, λ f. refl)
not_wrong asleep = (λ e q. let z : ◌≡◌ {A = ℕ} 0 1 = cc in omega arith, λ f. refl)
not_wrong barred = (λ e q. let z : ◌≡◌ {A = ℕ} 0 1 = cc in omega arith, λ f. refl)
not_wrong clash = (λ e q. let z : ◌≡◌ {A = ℕ} 0 1 = cc in omega arith, λ f. refl)
not_wrong (sensed v) = (λ e q. let z : ◌≡◌ {A = ℕ} 0 1 = cc in omega arith, λ f. refl)

pub not_reserved : (r : Read) → (not (is_reserved r) ≡ true) ↔ (¬ (r ≡ plain reserved))
unfolding is_reserved
not_reserved (plain (good c)) = (λ e q. let z : ◌≡◌ {A = ℕ} 0 1 = cc in omega arith, λ f. refl)
not_reserved (plain wrong_bits) = (λ e q. let z : ◌≡◌ {A = ℕ} 0 1 = cc in omega arith, λ f. refl)
not_reserved (plain reserved) = (λ e q. let z : ◌≡◌ {A = ℕ} 0 1 = cc in omega arith, λ f. absurd (f refl))
not_reserved (moved m) = (λ e q. let z : ◌≡◌ {A = ℕ} 0 1 = cc in omega arith, λ f. refl)
not_reserved asleep = (λ e q. let z : ◌≡◌ {A = ℕ} 0 1 = cc in omega arith, λ f. refl)
not_reserved barred = (λ e q. let z : ◌≡◌ {A = ℕ} 0 1 = cc in omega arith, λ f. refl)
not_reserved clash = (λ e q. let z : ◌≡◌ {A = ℕ} 0 1 = cc in omega arith, λ f. refl)
not_reserved (sensed v) = (λ e q. let z : ◌≡◌ {A = ℕ} 0 1 = cc in omega arith, λ f. refl)

pub not_barred : (r : Read) → (not (is_barred r) ≡ true) ↔ (¬ (r ≡ barred))
unfolding is_barred
not_barred (plain d) = (λ e q. let z : ◌≡◌ {A = ℕ} 0 1 = cc in omega arith, λ f. refl)
not_barred (moved m) = (λ e q. let z : ◌≡◌ {A = ℕ} 0 1 = cc in omega arith, λ f. refl)
not_barred asleep = (λ e q. let z : ◌≡◌ {A = ℕ} 0 1 = cc in omega arith, λ f. refl)
not_barred barred = (λ e q. let z : ◌≡◌ {A = ℕ} 0 1 = cc in omega arith, λ f. absurd (f refl))
not_barred clash = (λ e q. let z : ◌≡◌ {A = ℕ} 0 1 = cc in omega arith, λ f. refl)
not_barred (sensed v) = (λ e q. let z : ◌≡◌ {A = ℕ} 0 1 = cc in omega arith, λ f. refl)

pub not_clash : (r : Read) → (not (is_clash r) ≡ true) ↔ (¬ (r ≡ clash))
unfolding is_clash
not_clash (plain d) = (λ e q. let z : ◌≡◌ {A = ℕ} 0 1 = cc in omega arith, λ f. refl)
not_clash (moved m) = (λ e q. let z : ◌≡◌ {A = ℕ} 0 1 = cc in omega arith, λ f. refl)
not_clash asleep = (λ e q. let z : ◌≡◌ {A = ℕ} 0 1 = cc in omega arith, λ f. refl)
not_clash barred = (λ e q. let z : ◌≡◌ {A = ℕ} 0 1 = cc in omega arith, λ f. refl)
not_clash clash = (λ e q. let z : ◌≡◌ {A = ℕ} 0 1 = cc in omega arith, λ f. absurd (f refl))
not_clash (sensed v) = (λ e q. let z : ◌≡◌ {A = ℕ} 0 1 = cc in omega arith, λ f. refl)

pub code_good_lem : (r : Read) → (code_good r ≡ true) ↔ ((v : ℕ) → r ≡ sensed v → mr4_good v ≡ true)
unfolding code_good
code_good_lem (plain d) = (λ e v q. let z : ◌≡◌ {A = ℕ} 0 1 = cc in absurd (omega arith), λ f. refl)
code_good_lem (moved m) = (λ e v q. let z : ◌≡◌ {A = ℕ} 0 1 = cc in absurd (omega arith), λ f. refl)
code_good_lem asleep = (λ e v q. let z : ◌≡◌ {A = ℕ} 0 1 = cc in absurd (omega arith), λ f. refl)
code_good_lem barred = (λ e v q. let z : ◌≡◌ {A = ℕ} 0 1 = cc in absurd (omega arith), λ f. refl)
code_good_lem clash = (λ e v q. let z : ◌≡◌ {A = ℕ} 0 1 = cc in absurd (omega arith), λ f. refl)
code_good_lem (sensed w) = (λ e v q. let z : w ≡ v = cc in ap mr4_good (sym z) ∙ e, λ f. f w refl)

-- ---- the delay rules
module _ {Q X : Type 0} (look : Q → Option (Found X)) where
  rule_cases : (q : Rule Q X) (t : ℕ) → (Holds look q t × (leb (bound look q) t ≡ true)) ⊎ ((¬ Holds look q t) × (leb (bound look q) t ≡ false))
  rule_cases q t = ⊎_elim
      (λ (p : (bound look q ≤ t) × (leb (bound look q) t ≡ true)). inl ((holds_iff look q t).1 p.0, p.1))
      (λ (p : (t < bound look q) × (leb (bound look q) t ≡ false)). inr (λ h. clash ((holds_iff look q t).0 h) p.0, p.1))
      (le_cases (bound look q) t)
    where
      clash : bound look q ≤ t → t < bound look q → ⊥
      clash h k = omega arith

  none_broken : (qs : List (Rule Q X)) (t : ℕ) → (first_broken look qs t ≡ none) ↔ Every (λ q. Holds look q t) qs
  unfolding first_broken Every
  none_broken [] t = (λ e. tt, λ h. refl)
  none_broken (q ∷ qs) t = go (rule_cases q t) (none_broken qs t)
    where
      go : (Holds look q t × (leb (bound look q) t ≡ true)) ⊎ ((¬ Holds look q t) × (leb (bound look q) t ≡ false)) →
          (first_broken look qs t ≡ none) ↔ Every (λ q. Holds look q t) qs →
          (first_broken look (q ∷ qs) t ≡ none) ↔ (Holds look q t × Every (λ q. Holds look q t) qs)
      go (inl p) ih = (λ e. (p.0, ih.0 (rw p.1 at e)), λ h. rw p.1 (ih.1 h.1))
      go (inr p) ih = (
        λ e. let e' : Path (Option (ℕ × ℕ)) (some (q.number, bound look q)) none = rw p.1 at e in absurd (some_none (sym e')),
        λ h. absurd (p.0 h.0),
      )

  some_broken : (qs : List (Rule Q X)) (t : ℕ) (x : Refusal) → (named 10 (first_broken look qs t) ≡ some x) ↔ FirstBroken look qs t x
  unfolding first_broken FirstBroken named
  some_broken [] t x = (λ e. absurd (some_none e), λ h. absurd h)
  some_broken (q ∷ qs) t x = go (rule_cases q t) (some_broken qs t x)
    where
      go : (Holds look q t × (leb (bound look q) t ≡ true)) ⊎ ((¬ Holds look q t) × (leb (bound look q) t ≡ false)) →
          (named 10 (first_broken look qs t) ≡ some x) ↔ FirstBroken look qs t x →
          (named 10 (first_broken look (q ∷ qs) t) ≡ some x) ↔ FirstBroken look (q ∷ qs) t x
      go (inl p) ih = (λ e. inr (p.0, ih.0 (rw p.1 at e)), back)
        where
          back : FirstBroken look (q ∷ qs) t x → named 10 (first_broken look (q ∷ qs) t) ≡ some x
          back (inl h) = absurd (h.0 p.0)
          back (inr h) = rw p.1 (ih.1 h.1)
      go (inr p) ih = (λ e. inl (p.0, (bound look q, first_permitted look q, sym (same e))), back)
        where
          same : named 10 (first_broken look (q ∷ qs) t) ≡ some x → refusal 10 q.number (bound look q) ≡ x
          same e = let e' : some (refusal 10 q.number (bound look q)) ≡ some x = rw p.1 at e in cc

          back : FirstBroken look (q ∷ qs) t x → named 10 (first_broken look (q ∷ qs) t) ≡ some x
          back (inl h) = rw p.1 (ap some (ap (refusal 10 q.number) (sym (only_bound look q h.1.0 h.1.1)) ∙ sym h.1.2))
          back (inr h) = absurd (p.0 h.0)

  pub decides_delays : (qs : List (Rule Q X)) (t : ℕ) → Decides (named 10 (first_broken look qs t)) (in_time look qs t)
  unfolding in_time
  decides_delays qs t = record {
    passing = (λ e. (none_broken qs t).0 (named_none 10 _ e), λ h. none_named 10 _ ((none_broken qs t).1 h));
    failing_so = some_broken qs t;
  }

-- ---- 19 and 20
le_z_cases : (a b : ℤ) → ((a ≤ℤ b) × (le_z a b ≡ true)) ⊎ ((¬ (a ≤ℤ b)) × (le_z a b ≡ false))
le_z_cases a b = go (le_z a b) refl
  where
    go : (x : Bool) → le_z a b ≡ x → ((a ≤ℤ b) × (le_z a b ≡ true)) ⊎ ((¬ (a ≤ℤ b)) × (le_z a b ≡ false))
    go true e = inl (record { le = subst T (sym e) tt }, e)
    go false e = inr (λ h. subst T e h.le, e)

module _ (k : Terms) (b : Book) where
  abbrev Gap : ℕ → ℕ
  Gap t = b.clock t - since_on b t

  abbrev Most : ℕ → ℕ
  Most t = k.gap * b.schedule.span (b.clock t)

  -- at one cycle
  data Outcome (t : ℕ) : Type 0 where
    over : ¬ WithinLimit k b t → failing_on k b t ≡ some (k.limit_rule, t) → Outcome t
    long : WithinLimit k b t → ¬ WithinGap k b t → failing_on k b t ≡ some (k.gap_rule, t) → Outcome t
    fine : Paid k b t → failing_on k b t ≡ none → Outcome t

  outcome : (t : ℕ) → Outcome t
  unfolding failing_on failing since_on WithinLimit WithinGap
  outcome t = ⊎_elim
      (λ (p : (ledger_on k.credit b t ≤ℤ pos k.limit) × (le_z (ledger_on k.credit b t) (pos k.limit) ≡ true)). ⊎_elim
      (λ (q : (Gap t ≤ Most t) × (leb (Gap t) (Most t) ≡ true)).
      fine (record { limit = p.0; gap = q.0 }) (rw (p.1, q.1)))
      (λ (q : (Most t < Gap t) × (leb (Gap t) (Most t) ≡ false)).
      long p.0 (λ h. clash h q.0) (rw (p.1, q.1)))
      (le_cases (Gap t) (Most t)))
      (λ (p : (¬ (ledger_on k.credit b t ≤ℤ pos k.limit)) × (le_z (ledger_on k.credit b t) (pos k.limit) ≡ false)).
      over p.0 (rw p.1))
      (le_z_cases (ledger_on k.credit b t) (pos k.limit))
    where
      clash : Gap t ≤ Most t → Most t < Gap t → ⊥
      clash h l = omega arith

  pub paid_iff : (t : ℕ) → (failing_on k b t ≡ none) ↔ Paid k b t
  paid_iff t = go (outcome t)
    where
      go : Outcome t → (failing_on k b t ≡ none) ↔ Paid k b t
      go (over n e) = (λ q. absurd (some_none (sym q ∙ e)), λ p. absurd (n p.limit))
      go (long l n e) = (λ q. absurd (some_none (sym q ∙ e)), λ p. absurd (n p.gap))
      go (fine p e) = (λ q. p, λ q. e)

  unpaid_iff : (t : ℕ) (x : Refusal) → (named 11 (failing_on k b t) ≡ some x) ↔ Unpaid k b t x
  unfolding Unpaid named
  unpaid_iff t x = go (outcome t)
    where
      Unpaid_so : Type 0
      Unpaid_so = ((¬ WithinLimit k b t) × (x ≡ refusal 11 k.limit_rule t)) ⊎
          (WithinLimit k b t × (¬ WithinGap k b t) × (x ≡ refusal 11 k.gap_rule t))

      go : Outcome t → (named 11 (failing_on k b t) ≡ some x) ↔ Unpaid_so
      go (over n e) = (λ q. let q' : some (refusal 11 k.limit_rule t) ≡ some x = rw e at q in inl (n, cc), back)
        where
          back : Unpaid_so → named 11 (failing_on k b t) ≡ some x
          back (inl u) = rw e (ap some (sym u.1))
          back (inr u) = absurd (n u.0)
      go (long l n e) = (λ q. let q' : some (refusal 11 k.gap_rule t) ≡ some x = rw e at q in inr (l, n, cc), back)
        where
          back : Unpaid_so → named 11 (failing_on k b t) ≡ some x
          back (inl u) = absurd (u.0 l)
          back (inr u) = rw e (ap some (sym u.2))
      go (fine p e) = (λ q. let q' : none ≡ some x = rw e at q in absurd (some_none q'), back)
        where
          back : Unpaid_so → named 11 (failing_on k b t) ≡ some x
          back (inl u) = absurd (u.0 p.limit)
          back (inr u) = absurd (u.1 p.gap)

-- ---- several books
module _ (k : Terms) where
  each_paid : (bs : List Book) (t : ℕ) → (failing_in k bs t ≡ none) ↔ EachPaid k bs t
  unfolding failing_in first_of EachPaid Every
  each_paid [] t = (λ e. tt, λ h. refl)
  each_paid (b ∷ bs) t = (
    λ e. let q = or_else_none (failing_on k b t) (first_of (map (λ b. failing_on k b t) bs)) e in ((paid_iff k b t).0 q.0, (each_paid bs t).0 q.1),
    λ h. none_or_else ((paid_iff k b t).1 h.0) ((each_paid bs t).1 h.1),
  )

  first_unpaid : (bs : List Book) (t : ℕ) (x : Refusal) → (named 11 (failing_in k bs t) ≡ some x) ↔ FirstUnpaid k bs t x
  unfolding failing_in first_of FirstUnpaid or_else named
  first_unpaid [] t x = (λ e. absurd (some_none e), λ h. absurd h)
  first_unpaid (b ∷ bs) t x = go (failing_on k b t) refl (first_unpaid bs t x)
    where
      later : Option (ℕ × ℕ)
      later = first_of (map (λ b. failing_on k b t) bs)

      go : (o : Option (ℕ × ℕ)) → failing_on k b t ≡ o → (named 11 later ≡ some x) ↔ FirstUnpaid k bs t x →
          (named 11 (or_else (failing_on k b t) later) ≡ some x) ↔ (Unpaid k b t x ⊎ (Paid k b t × FirstUnpaid k bs t x))
      go none e ih = (λ q. inr ((paid_iff k b t).0 e, ih.0 (rw e at q)), back)
        where
          back : Unpaid k b t x ⊎ (Paid k b t × FirstUnpaid k bs t x) → named 11 (or_else (failing_on k b t) later) ≡ some x
          back (inl u) = let z : named 11 none ≡ some x = rw e at ((unpaid_iff k b t x).1 u) in absurd (some_none z)
          back (inr u) = rw e (ih.1 u.1)
      go (some g) e ih = (λ q. inl ((unpaid_iff k b t x).0 (rw e (rw e at q))), back)
        where
          back : Unpaid k b t x ⊎ (Paid k b t × FirstUnpaid k bs t x) → named 11 (or_else (failing_on k b t) later) ≡ some x
          back (inl u) = let z : named 11 (some g) ≡ some x = rw e at ((unpaid_iff k b t x).1 u) in rw e z
          back (inr u) = absurd (some_none (sym ((paid_iff k b t).1 u.0) ∙ e))

module _ (k : Terms) (bs : List Book) where
  each_iff : (t : ℕ) → (failing_in k bs t ≡ none) ↔ EachPaid k bs t
  each_iff = each_paid k bs

  first_iff : (t : ℕ) (x : Refusal) → (named 11 (failing_in k bs t) ≡ some x) ↔ FirstUnpaid k bs t x
  first_iff = first_unpaid k bs

  pub decides_at : (t : ℕ) → Decides (named 11 (failing_in k bs t)) (paid_at k bs t)
  unfolding paid_at
  decides_at t = record {
    passing = (λ e. (each_iff t).0 (named_none 11 _ e), λ h. none_named 11 _ ((each_iff t).1 h));
    failing_so = first_iff t;
  }

  -- below a cycle
  all_paid : (n : ℕ) → (first_in k bs n ≡ none) ↔ ((t : ℕ) → t < n → EachPaid k bs t)
  unfolding first_in
  all_paid zero = (λ e t h. absurd (nowhere h), λ h. refl)
    where
      nowhere : {t : ℕ} → t < 0 → ⊥
      nowhere h = omega arith
  all_paid (suc n) = (forth (all_paid n).0, λ p. none_or_else ((all_paid n).1 (λ t h. p t (omega arith))) ((each_iff n).1 (p n (omega arith))))
    where
      last : {t : ℕ} → t < suc n → n ≤ t → n ≡ t
      last h l = omega arith

      forth : (first_in k bs n ≡ none → (t : ℕ) → t < n → EachPaid k bs t) →
          or_else (first_in k bs n) (failing_in k bs n) ≡ none → (t : ℕ) → t < suc n → EachPaid k bs t
      forth ih e t h = ⊎_elim
          (λ (q : (t < n) × (ltb t n ≡ true)). ih (or_else_none _ _ e).0 t q.0)
          (λ (q : (n ≤ t) × (ltb t n ≡ false)). subst (EachPaid k bs) (last h q.0) ((each_iff n).0 (or_else_none _ _ e).1))
          (lt_cases t n)

  some_below : (n : ℕ) (x : Refusal) → (named 11 (first_in k bs n) ≡ some x) ↔ ((paid_below k bs n).fails x)
  unfolding first_in paid_below named or_else
  some_below zero x = (λ e. absurd (some_none e), λ h. absurd (nowhere h.1))
    where
      nowhere : {u : ℕ} → u < 0 → ⊥
      nowhere h = omega arith
  some_below (suc n) x = go (first_in k bs n) refl (some_below n x)
    where
      Below : ℕ → Type 0
      Below m = (u : ℕ) × (u < m) × ((v : ℕ) → v < u → EachPaid k bs v) × FirstUnpaid k bs u x

      last : {u : ℕ} → u < suc n → n ≤ u → u ≡ n
      last h l = omega arith

      go : (o : Option (ℕ × ℕ)) → first_in k bs n ≡ o → (named 11 (first_in k bs n) ≡ some x) ↔ Below n →
          (named 11 (or_else (first_in k bs n) (failing_in k bs n)) ≡ some x) ↔ Below (suc n)
      go none e ih = (forth, back)
        where
          forth : named 11 (or_else (first_in k bs n) (failing_in k bs n)) ≡ some x → Below (suc n)
          forth q =
              let q' : named 11 (failing_in k bs n) ≡ some x = rw e at q in
              (n, omega arith, (all_paid n).0 e, (first_iff n x).0 q')

          back : Below (suc n) → named 11 (or_else (first_in k bs n) (failing_in k bs n)) ≡ some x
          back h = ⊎_elim
              (λ (l : (h.0 < n) × (ltb h.0 n ≡ true)).
              let q : none ≡ some x = rw e at (ih.1 (h.0, l.0, h.2, h.3)) in absurd (some_none q))
              (λ (l : (n ≤ h.0) × (ltb h.0 n ≡ false)).
              rw e ((first_iff n x).1 (subst (λ (u : ℕ). FirstUnpaid k bs u x) (last h.1 l.0) h.3)))
              (lt_cases h.0 n)
      go (some g) e ih = (forth, back)
        where
          forth : named 11 (or_else (first_in k bs n) (failing_in k bs n)) ≡ some x → Below (suc n)
          forth q =
              let q' : named 11 (some g) ≡ some x = rw e at q in
              let y = ih.0 (rw e q') in
              (y.0, omega (arith, y.1), y.2, y.3)

          back : Below (suc n) → named 11 (or_else (first_in k bs n) (failing_in k bs n)) ≡ some x
          back h = ⊎_elim
              (λ (l : (h.0 < n) × (ltb h.0 n ≡ true)).
              let q : named 11 (some g) ≡ some x = rw e at (ih.1 (h.0, l.0, h.2, h.3)) in rw e q)
              (λ (l : (n ≤ h.0) × (ltb h.0 n ≡ false)).
              let q : first_in k bs n ≡ none = (all_paid n).1 (λ t m. h.2 t (omega arith)) in
              absurd (some_none (sym q ∙ e)))
              (lt_cases h.0 n)

  pub decides_below : (n : ℕ) → Decides (named 11 (first_in k bs n)) (paid_below k bs n)
  unfolding paid_below
  decides_below n = record {
    passing = (λ e. (all_paid n).0 (named_none 11 _ e), λ h. none_named 11 _ ((all_paid n).1 h));
    failing_so = some_below n;
  }

-- where all are paid no book fails, there and below
pub none_at : (k : Terms) (bs : List Book) (t : ℕ) → EachPaid k bs t → Every (λ b. failing_on k b t ≡ none) bs
unfolding EachPaid Every
none_at k [] t h = tt
none_at k (b ∷ bs) t h = ((paid_iff k b t).1 h.0, none_at k bs t h.1)

first_none : (k : Terms) (b : Book) (t : ℕ) → ((u : ℕ) → u < t → Paid k b u) → first_on k b t ≡ none
unfolding first_on
first_none k b zero h = refl
first_none k b (suc t) h = none_or_else (first_none k b t (λ u l. h u (omega arith))) ((paid_iff k b t).1 (h t (omega arith)))

pub none_in : (k : Terms) (bs : List Book) (t : ℕ) → ((u : ℕ) → u < t → EachPaid k bs u) → Every (λ b. first_on k b t ≡ none) bs
unfolding EachPaid Every
none_in k [] t h = tt
none_in k (b ∷ bs) t h = (first_none k b t (λ u l. (h u l).0), none_in k bs t (λ u l. (h u l).1))

-- one book alone
pub failing_one : (k : Terms) (b : Book) (t : ℕ) → failing_in k (b ∷ []) t ≡ failing_on k b t
unfolding failing_in first_of
failing_one k b t = or_none (failing_on k b t)

pub first_one : (k : Terms) (b : Book) (t : ℕ) → first_in k (b ∷ []) t ≡ first_on k b t
unfolding first_in first_on
first_one k b zero = refl
first_one k b (suc t) = rw (first_one k b t, failing_one k b t)

-- ---- lists of checks
unfoldable pub Each : List (Option Refusal) → List Check → Type 0
Each [] [] = Unit {0}
Each [] (c ∷ cs) = ⊥
Each (o ∷ os) [] = ⊥
Each (o ∷ os) (c ∷ cs) = Decides o c × Each os cs

all_pass : (os : List (Option Refusal)) (cs : List Check) → Each os cs → (first_of os ≡ none) ↔ AllPass cs
unfolding Each first_of AllPass
all_pass [] [] d = (λ e. tt, λ h. refl)
all_pass [] (c ∷ cs) d = absurd d
all_pass (o ∷ os) [] d = absurd d
all_pass (o ∷ os) (c ∷ cs) d = (
  λ e. (d.0.passing.0 (or_else_none o (first_of os) e).0, (all_pass os cs d.1).0 (or_else_none o (first_of os) e).1),
  λ h. none_or_else (d.0.passing.1 h.0) ((all_pass os cs d.1).1 h.1),
)

first_fails : (os : List (Option Refusal)) (cs : List Check) → Each os cs → (x : Refusal) → (first_of os ≡ some x) ↔ FirstFails cs x
unfolding Each first_of FirstFails or_else
first_fails [] [] d x = (λ e. absurd (some_none e), λ h. absurd h)
first_fails [] (c ∷ cs) d x = absurd d
first_fails (o ∷ os) [] d x = absurd d
first_fails (none ∷ os) (c ∷ cs) d x = (λ e. inr (d.0.passing.0 refl, (first_fails os cs d.1 x).0 e), back (first_fails os cs d.1 x).1)
  where
    back : (FirstFails cs x → first_of os ≡ some x) → c.fails x ⊎ (c.ok × FirstFails cs x) → first_of os ≡ some x
    back ih (inl h) = absurd (some_none ((d.0.failing_so x).1 h))
    back ih (inr h) = ih h.1
first_fails (some g ∷ os) (c ∷ cs) d x = (λ e. inl ((d.0.failing_so x).0 e), back)
  where
    back : c.fails x ⊎ (c.ok × FirstFails cs x) → some g ≡ some x
    back (inl h) = (d.0.failing_so x).1 h
    back (inr h) = absurd (some_none (sym (d.0.passing.1 h.0)))

-- a list of checks as one
abbrev pub all_of : List Check → Check
all_of cs = record { ok = AllPass cs; fails = FirstFails cs }

pub decides_all : (os : List (Option Refusal)) (cs : List Check) → Each os cs → Decides (first_of os) (all_of cs)
decides_all os cs d = record { passing = all_pass os cs d; failing_so = first_fails os cs d }
