-- The kinds that no arm of a match has named.
use Prim.Native.Nat.{ℕ}
use mathlib.Core.Path.{◌≡◌, refl}
use mathlib.Core.Bool.{Bool, false}
use Rattle.rules.specs.Commands.{Kind, NOP, MRW, MRR, REFPB, REFAB, ACT, RD, WR, PRE, PREA, RESERVED, code, is, kind_of, carries, bare}
use Rattle.pins.specs.Values.{command_of}
use Rattle.pins.specs.declared.Command.{Command}
use Rattle.pins.specs.declared.Command.TheVariants.{Nop, Mrw, Mrr, Refpb, Refab, Act, Rd, Wr, Pre, Prea}

-- x is no command of the kind, as an arm behind that command's says it
abbrev pub NoneOf : Kind → Command → Type 0
NoneOf NOP x = x ≡ Nop → ⊥
NoneOf MRW x = (ma op : ℕ) → x ≡ Mrw ma op → ⊥
NoneOf MRR x = (ma : ℕ) → x ≡ Mrr ma → ⊥
NoneOf REFPB x = x ≡ Refpb → ⊥
NoneOf REFAB x = x ≡ Refab → ⊥
NoneOf ACT x = (bank row : ℕ) → x ≡ Act bank row → ⊥
NoneOf RD x = (bank column : ℕ) (ap : Bool) → x ≡ Rd bank column ap → ⊥
NoneOf WR x = (bank column : ℕ) (ap : Bool) → x ≡ Wr bank column ap → ⊥
NoneOf PRE x = (bank : ℕ) → x ≡ Pre bank → ⊥
NoneOf PREA x = x ≡ Prea → ⊥
NoneOf RESERVED x = Unit {0}

pub unlisted : (k : Kind) (x : Command) → NoneOf k x → is k (command_of x) ≡ false
unfolding is code kind_of carries bare command_of
unlisted NOP Nop h = absurd (h refl)
unlisted MRW (Mrw ma op) h = absurd (h ma op refl)
unlisted MRR (Mrr ma) h = absurd (h ma refl)
unlisted REFPB Refpb h = absurd (h refl)
unlisted REFAB Refab h = absurd (h refl)
unlisted ACT (Act bank row) h = absurd (h bank row refl)
unlisted RD (Rd bank column ap) h = absurd (h bank column ap refl)
unlisted WR (Wr bank column ap) h = absurd (h bank column ap refl)
unlisted PRE (Pre bank) h = absurd (h bank refl)
unlisted PREA Prea h = absurd (h refl)
unlisted RESERVED Nop h = refl
unlisted k x h = refl
