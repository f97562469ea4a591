-- The kinds that a quick run takes, from the pins.
use Prim.Native.Nat.{ℕ, ◌/◌, ◌%◌}
use mathlib.Core.Path.{◌≡◌, refl, ap, sym, ◌∙◌, subst}
use mathlib.Core.Bool.{Bool, true, false, cond}
use native.Mathlib.Nat.{div-one}
use lib.Dec.{eqb}
use borrow.Author.Tests.{eq-eqb, ne_eqb}
use Rattle.rules.specs.Bits.{bits, on}
use Rattle.rules.specs.Commands.{Kind, NOP, MRW, MRR, REFPB, REFAB, ACT, RD, WR, PRE, PREA, RESERVED, code}
use Rattle.rules.specs.Pins.{listed_ma, gathered, ma_runs, op_runs, kind_at, of_kind, decode, Decoded, good, wrong_bits, reserved}
use Rattle.rules.specs.Commands as rules
use Rattle.rules.specs.Levels.{awake, plain, read_pins}
use Rattle.rules.proofs.Waking.{awake_reads}
use Rattle.pins.specs.Places.{bank_on, ap_on}
use Rattle.pins.proofs.Places.{gathers}
use Rattle.step.specs.declared.kinds.Hot.{Hot}
use Rattle.step.specs.declared.kinds.Hot.TheVariants.{Nop, Act, Rd, Wr, Pre, Cold}
use Rattle.step.specs.Ready.{hot_of}

pub wrong_bits_lem : (p : ℕ) → (p / 2097152 ≡ 1 → ⊥) → Cold ≡ hot_of (decode p)
unfolding decode hot_of
wrong_bits_lem p n = rw (ne_eqb _ _ n)

pub not_selected : (p : ℕ) → p / 2097152 ≡ 1 → p / 1048576 % 2 ≡ 1 → Nop ≡ hot_of (decode p)
unfolding decode on bits hot_of
not_selected p e n = rw (eq-eqb _ _ e, eq-eqb _ _ n)

-- by the number of a kind
unfoldable pub hot_with : ℕ → Hot
hot_with k = cond (eqb k 0) Nop (cond (eqb k 5) Act (cond (eqb k 6) Rd (cond (eqb k 7) Wr (cond (eqb k 8) Pre Cold))))

-- where none of the arms has named it
pub cold_with : (k : ℕ) → (k ≡ 0 → ⊥) → (k ≡ 5 → ⊥) → (k ≡ 6 → ⊥) → (k ≡ 7 → ⊥) → (k ≡ 8 → ⊥) → Cold ≡ hot_with k
unfolding hot_with
cold_with k a b c d e = rw (ne_eqb k 0 a, ne_eqb k 5 b, ne_eqb k 6 c, ne_eqb k 7 d, ne_eqb k 8 e)

of_kind_lem : (k : Kind) (p : ℕ) → hot_of (of_kind k p) ≡ hot_with (code k)
unfolding hot_of of_kind code hot_with
of_kind_lem NOP p = refl
of_kind_lem MRW p = go (listed_ma (gathered ma_runs p))
  where
    go : (b : Bool) → hot_of (cond b (good (rules.mrw (gathered ma_runs p) (gathered op_runs p))) reserved) ≡ Cold
    go true = refl
    go false = refl
of_kind_lem MRR p = refl
of_kind_lem REFPB p = refl
of_kind_lem REFAB p = refl
of_kind_lem ACT p = refl
of_kind_lem RD p = refl
of_kind_lem WR p = refl
of_kind_lem PRE p = refl
of_kind_lem PREA p = refl
of_kind_lem RESERVED p = refl

pub by_kind : (p : ℕ) → p / 2097152 ≡ 1 → (p / 1048576 % 2 ≡ 1 → ⊥) → hot_with (code (kind_at (p % 1024))) ≡ hot_of (decode p)
unfolding decode on
by_kind p e n =
    let cs : eqb (bits p 20 1) 1 ≡ false = unfold bits in ne_eqb _ _ n in
    let edge : bits p 0 10 ≡ p % 1024 = unfold bits in rw (div-one p) in
    let h : hot_of (decode p) ≡ hot_of (of_kind (kind_at (bits p 0 10)) p) = rw (eq-eqb _ _ e, cs) in
    sym (h ∙ of_kind_lem _ p ∙ ap (λ (x : ℕ). hot_with (code (kind_at x))) edge)

-- awake, what a quick run takes is read by the pins alone, whether or not the card has low clock-enable
pub awake_hot : (sleeps : Bool) (p : ℕ) → (hot_of (decode p) ≡ Cold → ⊥) → read_pins sleeps awake p ≡ plain (decode p)
awake_hot sleeps p h = go (decode p) refl h
  where
    go : (x : Decoded) → decode p ≡ x → (hot_of x ≡ Cold → ⊥) → read_pins sleeps awake p ≡ plain x
    go (good c) e h = awake_reads sleeps p c e
    go wrong_bits e h = absurd (h (unfold hot_of in refl))
    go reserved e h = absurd (h (unfold hot_of in refl))

-- ---- what the pins name
-- the bank, and auto precharge
unfoldable pub Names : ℕ → Decoded → Type 0
Names p (good rules.nop) = Unit {0}
Names p (good (rules.mrw ma op)) = Unit {0}
Names p (good (rules.mrr ma)) = Unit {0}
Names p (good rules.refpb) = Unit {0}
Names p (good rules.refab) = Unit {0}
Names p (good (rules.act b r)) = b ≡ bank_on p
Names p (good (rules.rd b k a)) = (b ≡ bank_on p) × (a ≡ ap_on p)
Names p (good (rules.wr b k a)) = (b ≡ bank_on p) × (a ≡ ap_on p)
Names p (good (rules.pre b)) = b ≡ bank_on p
Names p (good rules.prea) = Unit {0}
Names p wrong_bits = Unit {0}
Names p reserved = Unit {0}

of_kind_names : (k : Kind) (p : ℕ) → Names p (of_kind k p)
unfolding of_kind Names
of_kind_names NOP p = tt
of_kind_names MRW p = go (listed_ma (gathered ma_runs p))
  where
    go : (b : Bool) → Names p (cond b (good (rules.mrw (gathered ma_runs p) (gathered op_runs p))) reserved)
    go true = tt
    go false = tt
of_kind_names MRR p = tt
of_kind_names REFPB p = tt
of_kind_names REFAB p = tt
of_kind_names ACT p = sym (gathers p).2
of_kind_names RD p = (sym (gathers p).2, sym (gathers p).5)
of_kind_names WR p = (sym (gathers p).2, sym (gathers p).5)
of_kind_names PRE p = sym (gathers p).2
of_kind_names PREA p = tt
of_kind_names RESERVED p = tt

names : (p : ℕ) → Names p (decode p)
unfolding decode
names p = go (eqb (p / 2097152) 1) (on p 20)
  where
    go : (a b : Bool) → Names p (cond a (cond b (good rules.nop) (of_kind (kind_at (bits p 0 10)) p)) wrong_bits)
    go false b = unfold Names in tt
    go true true = unfold Names in tt
    go true false = of_kind_names (kind_at (bits p 0 10)) p

pub named_so : (p : ℕ) (x : Decoded) → decode p ≡ x → Names p x
named_so p x e = subst (Names p) e (names p)
