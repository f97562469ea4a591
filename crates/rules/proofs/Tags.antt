-- The table of the card's groups of tags. What the proofs ask of it is computed tests; a row more needs no other proof.
use Prim.Native.Nat.{ℕ, suc, ◌≤◌, ◌<◌}
use mathlib.Core.Path.{◌≡◌, refl, sym, ◌∙◌}
use mathlib.Core.Logic.{◌⊎◌, inl, inr, ⊎_elim}
use mathlib.Core.Bool.{Bool, true, false, ◌&&◌, ◌||◌, or-true}
use mathlib.Core.List.{List, [], ◌∷◌}
use native.Mathlib.Omega.{arith}
use lib.Dec.{leb, ltb, eqb}
use borrow.Author.Tests.{leb-true, le-leb, ltb-true, eqb-false}
use Rattle.rules.specs.Lists.{all}
use Rattle.rules.specs.Form.{Group, ◌up_to◌, groups, ends_group, begins_group, of_entry, of_trace, in_group, in_groups, of_card, known, Listed, ◌of◌, ◌of◌or◌, lengths}
use Rattle.rules.proofs.Tests.{le_cases, eq_cases, both_true}
use Rattle.rules.proofs.Onward.{onward, alike, by_bytes}

all_both : (p : Group → Bool) (g : Group) (gs : List Group) → all p (g ∷ gs) ≡ true → (p g ≡ true) × (all p gs ≡ true)
unfolding all
all_both p g gs h = both_true (p g) (all p gs) h

pub neither : (x y : Bool) → (x || y) ≡ false → (x ≡ false) × (y ≡ false)
neither false y e = (refl, e)
neither true y e = let z : ◌≡◌ {A = ℕ} 0 1 = cc in absurd (omega arith)

-- a group has a tag, and neither 0 nor one of an entry or the end
unfoldable proper : Group → Bool
proper g = (leb 1 g.first && leb g.first g.last) && ltb g.last 32

table_proper : all proper groups ≡ true
unfolding all proper groups ◌up_to◌
table_proper = refl

-- none ends before 18, or between 18 and 22; none begins between 19 and 23; and one of several tags is of these
table_high : all (λ g. leb 18 g.last) groups ≡ true
unfolding all groups ◌up_to◌
table_high = refl

table_ends : all (λ g. leb g.last 18 || leb 22 g.last) groups ≡ true
unfolding all groups ◌up_to◌
table_ends = refl

table_begins : all (λ g. leb g.first 19 || leb 23 g.first) groups ≡ true
unfolding all groups ◌up_to◌
table_begins = refl

unfoldable joint : Group → Bool
joint g = eqb g.first g.last || (leb g.last 18 || (leb 19 g.first && leb g.last 22))

table_joint : all joint groups ≡ true
unfolding all joint groups ◌up_to◌
table_joint = refl

-- a tag of one of these groups
unfoldable pub Within : List Group → ℕ → Type 0
Within [] t = ⊥
Within (g ∷ gs) t = ((g.first ≤ t) × (t ≤ g.last)) ⊎ Within gs t

proper_both : (g : Group) → proper g ≡ true → (1 ≤ g.first) × (g.first ≤ g.last) × (g.last < 32)
unfolding proper
proper_both g h =
    let b = both_true _ _ h in
    let a = both_true _ _ b.0 in
    (leb-true 1 g.first a.0, leb-true g.first g.last a.1, ltb-true g.last 32 b.1)

begins_in : (gs : List Group) → all proper gs ≡ true → (t : ℕ) → begins_group gs t ≡ true → Within gs t
unfolding begins_group Within
begins_in [] h t b = let z : ◌≡◌ {A = ℕ} 0 1 = cc in absurd (omega arith)
begins_in (g ∷ gs) h t b = ⊎_elim
    (λ (q : (g.first ≡ t) × (eqb g.first t ≡ true)). let p = proper_both g (all_both proper g gs h).0 in inl (omega (arith, q.0), omega (arith, q.0, p.1)))
    (λ (q : (g.first ≡ t → ⊥) × (eqb g.first t ≡ false)). inr (begins_in gs (all_both proper g gs h).1 t (rw q.1 at b)))
    (eq_cases g.first t)

next_in : (gs : List Group) (t : ℕ) → Within gs t → ends_group gs t ≡ false → Within gs (suc t)
unfolding ends_group Within
next_in [] t w e = w
next_in (g ∷ gs) t (inl w) e = ⊎_elim
    (λ (q : (g.last ≡ t) × (eqb g.last t ≡ true)). let z : true ≡ false = rw q.1 at e in let y : ◌≡◌ {A = ℕ} 0 1 = cc in absurd (omega arith))
    (λ (q : (g.last ≡ t → ⊥) × (eqb g.last t ≡ false)). inl (omega (arith, w.0), omega (arith, w.1, q.0)))
    (eq_cases g.last t)
next_in (g ∷ gs) t (inr w) e = inr (next_in gs t w (neither (eqb g.last t) (ends_group gs t) e).1)

between_in : (gs : List Group) → all proper gs ≡ true → (t : ℕ) → Within gs t → (1 ≤ t) × (t < 32)
unfolding Within
between_in [] h t w = absurd w
between_in (g ∷ gs) h t (inl w) = let p = proper_both g (all_both proper g gs h).0 in (omega (arith, p.0, w.0), omega (arith, p.2, w.1))
between_in (g ∷ gs) h t (inr w) = between_in gs (all_both proper g gs h).1 t w

-- ---- the first tags of groups, or the last ones
unfoldable at_edge : (Group → ℕ) → List Group → ℕ → Bool
at_edge edge [] t = false
at_edge edge (g ∷ gs) t = eqb (edge g) t || at_edge edge gs t

ends_edge : (gs : List Group) (t : ℕ) → ends_group gs t ≡ at_edge (λ g. g.last) gs t
unfolding ends_group at_edge
ends_edge [] t = refl
ends_edge (g ∷ gs) t = rw (ends_edge gs t)

begins_edge : (gs : List Group) (t : ℕ) → begins_group gs t ≡ at_edge (λ g. g.first) gs t
unfolding begins_group at_edge
begins_edge [] t = refl
begins_edge (g ∷ gs) t = rw (begins_edge gs t)

-- what holds of each of them holds of a tag that is one
edge_has : (edge : Group → ℕ) (p : ℕ → Bool) (gs : List Group) → all (λ g. p (edge g)) gs ≡ true → (t : ℕ) → at_edge edge gs t ≡ true → p t ≡ true
unfolding at_edge
edge_has edge p [] h t e = let z : ◌≡◌ {A = ℕ} 0 1 = cc in absurd (omega arith)
edge_has edge p (g ∷ gs) h t e = ⊎_elim
    (λ (q : (edge g ≡ t) × (eqb (edge g) t ≡ true)). rw (← q.0) (all_both (λ g. p (edge g)) g gs h).0)
    (λ (q : (edge g ≡ t → ⊥) × (eqb (edge g) t ≡ false)). edge_has edge p gs (all_both (λ g. p (edge g)) g gs h).1 t (rw q.1 at e))
    (eq_cases (edge g) t)

pub begins_has : (p : ℕ → Bool) (gs : List Group) → all (λ g. p g.first) gs ≡ true → (t : ℕ) → begins_group gs t ≡ true → p t ≡ true
begins_has p gs h t e = edge_has (λ g. g.first) p gs h t (sym (begins_edge gs t) ∙ e)

either_le : (a b c d : ℕ) → (leb a b || leb c d) ≡ true → (a ≤ b) ⊎ (c ≤ d)
either_le a b c d e = ⊎_elim
    (λ (q : (a ≤ b) × (leb a b ≡ true)). inl q.0)
    (λ (q : (b < a) × (leb a b ≡ false)). inr (leb-true c d (rw q.1 at e)))
    (le_cases a b)

joint_is : (g : Group) → joint g ≡ true → (g.first ≡ g.last) ⊎ ((g.last ≤ 18) ⊎ ((19 ≤ g.first) × (g.last ≤ 22)))
unfolding joint
joint_is g h = ⊎_elim
    (λ (q : (g.first ≡ g.last) × (eqb g.first g.last ≡ true)). inl q.0)
    (λ (q : (g.first ≡ g.last → ⊥) × (eqb g.first g.last ≡ false)). inr (several (rw q.1 at h)))
    (eq_cases g.first g.last)
  where
    several : (leb g.last 18 || (leb 19 g.first && leb g.last 22)) ≡ true → (g.last ≤ 18) ⊎ ((19 ≤ g.first) × (g.last ≤ 22))
    several e = ⊎_elim
        (λ (q : (g.last ≤ 18) × (leb g.last 18 ≡ true)). inl q.0)
        (λ (q : (18 < g.last) × (leb g.last 18 ≡ false)). let b = both_true _ _ (rw q.1 at e) in inr (leb-true 19 g.first b.0, leb-true g.last 22 b.1))
        (le_cases g.last 18)

-- a tag of a group whose edge it is not has another beside it
record Off (edge : Group → ℕ) (t : ℕ) : Type 0 where
  group : Group
  from : group.first ≤ t
  to : t ≤ group.last
  off : edge group ≡ t → ⊥
  joined : (group.last ≤ 18) ⊎ ((19 ≤ group.first) × (group.last ≤ 22))

off_edge : (edge : Group → ℕ) → ((g : Group) → g.first ≡ g.last → edge g ≡ g.first) → (gs : List Group) → all joint gs ≡ true →
    (t : ℕ) → Within gs t → at_edge edge gs t ≡ false → Off edge t
unfolding Within at_edge
off_edge edge alone [] h t w e = absurd w
off_edge edge alone (g ∷ gs) h t (inr w) e = off_edge edge alone gs (all_both joint g gs h).1 t w (neither (eqb (edge g) t) (at_edge edge gs t) e).1
off_edge edge alone (g ∷ gs) h t (inl w) e =
    go (eqb-false (edge g) t (neither (eqb (edge g) t) (at_edge edge gs t) e).0) (joint_is g (all_both joint g gs h).0)
  where
    go : (edge g ≡ t → ⊥) → (g.first ≡ g.last) ⊎ ((g.last ≤ 18) ⊎ ((19 ≤ g.first) × (g.last ≤ 22))) → Off edge t
    go n (inl q) = absurd (n (omega (arith, alone g q, q, w.0, w.1)))
    go n (inr q) = record { group = g; from = w.0; to = w.1; off = n; joined = q }

of_within_in : (gs : List Group) (t : ℕ) → Within gs t → in_groups gs t ≡ true
unfolding Within in_groups in_group
of_within_in [] t w = absurd w
of_within_in (g ∷ gs) t (inl w) = rw (le-leb g.first t w.0, le-leb t g.last w.1)
of_within_in (g ∷ gs) t (inr w) = rw (of_within_in gs t w, or-true (in_group g t))

within_of_in : (gs : List Group) (t : ℕ) → in_groups gs t ≡ true → Within gs t
unfolding Within in_groups in_group
within_of_in [] t e = let z : ◌≡◌ {A = ℕ} 0 1 = cc in absurd (omega arith)
within_of_in (g ∷ gs) t e = go (leb g.first t && leb t g.last) refl e (within_of_in gs t)
  where
    go : (x : Bool) → (leb g.first t && leb t g.last) ≡ x → (x || in_groups gs t) ≡ true → (in_groups gs t ≡ true → Within gs t) →
        ((g.first ≤ t) × (t ≤ g.last)) ⊎ Within gs t
    go true q e later = let b = both_true (leb g.first t) (leb t g.last) q in inl (leb-true g.first t b.0, leb-true t g.last b.1)
    go false q e later = inr (later e)

-- ---- of the table
pub begins_within : (t : ℕ) → begins_group groups t ≡ true → Within groups t
begins_within = begins_in groups table_proper

pub next_within : (t : ℕ) → Within groups t → ends_group groups t ≡ false → Within groups (suc t)
next_within = next_in groups

pub within_between : (t : ℕ) → Within groups t → (1 ≤ t) × (t < 32)
within_between = between_in groups table_proper

pub first_within : Within groups 1
unfolding Within groups ◌up_to◌
first_within = inl (omega arith, omega arith)

pub ends_high : (t : ℕ) → ends_group groups t ≡ true → 18 ≤ t
ends_high t e = leb-true 18 t (edge_has (λ g. g.last) (leb 18) groups table_high t (sym (ends_edge groups t) ∙ e))

pub ends_apart : (t : ℕ) → ends_group groups t ≡ true → (t ≤ 18) ⊎ (22 ≤ t)
ends_apart t e = either_le t 18 22 t (edge_has (λ g. g.last) (λ n. leb n 18 || leb 22 n) groups table_ends t (sym (ends_edge groups t) ∙ e))

pub begins_apart : (t : ℕ) → begins_group groups t ≡ true → (t ≤ 19) ⊎ (23 ≤ t)
begins_apart t e = either_le t 19 23 t (begins_has (λ n. leb n 19 || leb 23 n) groups table_begins t e)

pub inner : (t : ℕ) → Within groups t → ends_group groups t ≡ false → (t < 18) ⊎ ((19 ≤ t) × (t < 22))
inner t w e = go (off_edge (λ g. g.last) (λ g q. sym q) groups table_joint t w (sym (ends_edge groups t) ∙ e))
  where
    go : Off (λ g. g.last) t → (t < 18) ⊎ ((19 ≤ t) × (t < 22))
    go o = ⊎_elim
        (λ (q : o.group.last ≤ 18). inl (omega (arith, o.to, o.off, q)))
        (λ (q : (19 ≤ o.group.first) × (o.group.last ≤ 22)). inr (omega (arith, o.from, q.0), omega (arith, o.to, o.off, q.1)))
        o.joined

pub behind_first : (t : ℕ) → Within groups t → begins_group groups t ≡ false → (t ≤ 18) ⊎ ((19 < t) × (t ≤ 22))
behind_first t w e = go (off_edge (λ g. g.first) (λ g q. refl) groups table_joint t w (sym (begins_edge groups t) ∙ e))
  where
    go : Off (λ g. g.first) t → (t ≤ 18) ⊎ ((19 < t) × (t ≤ 22))
    go o = ⊎_elim
        (λ (q : o.group.last ≤ 18). inl (omega (arith, o.to, q)))
        (λ (q : (19 ≤ o.group.first) × (o.group.last ≤ 22)). inr (omega (arith, o.from, o.off, q.0), omega (arith, o.to, q.1)))
        o.joined

pub of_within : (t : ℕ) → Within groups t → of_card t ≡ true
unfolding of_card
of_within = of_within_in groups

pub within_of : (t : ℕ) → of_card t ≡ true → Within groups t
unfolding of_card
within_of = within_of_in groups

-- ---- the table of lengths has the same tags
unfoldable pub has_row : List Listed → ℕ → Bool
has_row [] t = false
has_row (x ∷ xs) t = eqb x.tag t || has_row xs t

pub known_listed : (t : ℕ) → t < 256 → known t ≡ has_row lengths t
unfolding onward alike known of_card in_groups in_group groups ◌up_to◌ of_trace of_entry has_row lengths ◌of◌ ◌of◌or◌
known_listed = by_bytes known (has_row lengths) refl
