-- What a default is of each type, in the words of the fresh record.
use Prim.Native.Nat.{ℕ}
use mathlib.Core.Path.{◌≡◌, sym, ◌∙◌}
use mathlib.Core.Bool.{Bool, false}
use mathlib.Core.List.{List}
use lib.ListN.{replicate}
use Rattle.std.specs.Array.{AllOfLen}
use Rattle.std.proofs.lemmas.List.{length-replicate, get_or-replicate, ext_get_or}
use Rattle.card.specs.declared.Modes.{Modes}
use Rattle.bank.specs.Values.{no_modes, never, never_noted, never_each, never_noted_each, never_four, idle_bus}
use Rattle.bank.specs.declared.Once.{Once}
use Rattle.bank.specs.declared.Noted.{Noted}
use Rattle.bank.specs.declared.Each.{Each}
use Rattle.bank.specs.declared.NotedEach.{NotedEach}
use Rattle.bank.specs.declared.Four.{Four}
use Rattle.bank.specs.declared.Latest.{Latest}
use Rattle.bank.specs.declared.Moves.{Moves}
use Rattle.bank.specs.declared.Bus.{Bus}
use Rattle.bank.specs.declared.Banks.{Banks}

module _ {A : Type 0} {P : A → Type 0} (d : A) (same : (x : A) → P x → x ≡ d) (xs : List A) (n : ℕ) (e : AllOfLen P xs n) where
  all_default : xs ≡ replicate n d
  all_default =
      ext_get_or d xs (replicate n d) (e.long ∙ sym (length-replicate n d))
      (λ i h. same _ (e.at i d (rw e.long at h)) ∙ sym (get_or-replicate n i d d (rw e.long at h)))

abbrev Unset : Modes → Type 0
Unset m = (m.mr2 ≡ 0) × ((m.programmed ≡ false) × (m.mr1 ≡ 0))

unset : (m : Modes) → Unset m → m ≡ no_modes
unset m e = λ i. record { mr2 = e.0 i; programmed = e.1.0 i; mr1 = e.1.1 i }

-- ---- one stamp
abbrev Unseen : Once → Type 0
Unseen x = (x.seen ≡ false) × (x.at ≡ 0)

abbrev Unnoted : Noted → Type 0
Unnoted x = (x.seen ≡ false) × ((x.at ≡ 0) × Unset x.modes)

pub once_never : (x : Once) → Unseen x → x ≡ never
unfolding never
once_never x e = λ i. record { seen = e.0 i; at = e.1 i }

pub noted_never : (x : Noted) → Unnoted x → x ≡ never_noted
unfolding never_noted
noted_never x e = λ i. record { seen = e.0 i; at = e.1.0 i; modes = unset x.modes e.1.1 i }

-- ---- one of each bank, and the last four
abbrev NoneOpen : (n : ℕ) → List Bool → Type 0
NoneOpen n xs = AllOfLen (λ b. b ≡ false) xs n

abbrev NoStamp : (n : ℕ) → List ℕ → Type 0
NoStamp n xs = AllOfLen (λ t. t ≡ 0) xs n

abbrev UnseenEach : Each → Type 0
UnseenEach x = NoneOpen 8 x.seen × NoStamp 8 x.at

abbrev UnnotedEach : NotedEach → Type 0
UnnotedEach x = NoneOpen 8 x.seen × (NoStamp 8 x.at × AllOfLen Unset x.modes 8)

flags : (xs : List Bool) → NoneOpen 8 xs → xs ≡ replicate 8 false
flags xs e = all_default false (λ b p. p) xs 8 e

stamps : (n : ℕ) (xs : List ℕ) → NoStamp n xs → xs ≡ replicate n 0
stamps n xs e = all_default 0 (λ t p. p) xs n e

pub each_never : (x : Each) → UnseenEach x → x ≡ never_each
unfolding never_each
each_never x e = λ i. record { seen = flags x.seen e.0 i; at = stamps 8 x.at e.1 i }

pub noted_each_never : (x : NotedEach) → UnnotedEach x → x ≡ never_noted_each
unfolding never_noted_each
noted_each_never x e = λ i. record { seen = flags x.seen e.0 i; at = stamps 8 x.at e.1.0 i; modes = all_default no_modes unset x.modes 8 e.1.1 i }

pub four_never : (x : Four) → (x.count ≡ 0) × NoStamp 4 x.at → x ≡ never_four
unfolding never_four
four_never x e = λ i. record { count = e.0 i; at = stamps 4 x.at e.1 i }

-- ---- the parts of a share
pub latest_never : (x : Latest) → Unseen x.mrw × (Unseen x.mrr × (Unseen x.refab × (Unseen x.refpb × Unseen x.prea)))
    → x ≡ record { mrw = never; mrr = never; refab = never; refpb = never; prea = never }
latest_never x e = λ i. record {
  mrw = once_never x.mrw e.0 i;
  mrr = once_never x.mrr e.1.0 i;
  refab = once_never x.refab e.1.1.0 i;
  refpb = once_never x.refpb e.1.1.1.0 i;
  prea = once_never x.prea e.1.1.1.1 i;
}

pub moves_never : (x : Moves) → Unseen x.fall × (Unseen x.power_exit × Unseen x.self_exit) → x ≡ record { fall = never; power_exit = never; self_exit = never }
moves_never x e = λ i. record { fall = once_never x.fall e.0 i; power_exit = once_never x.power_exit e.1.0 i; self_exit = once_never x.self_exit e.1.1 i }

pub bus_never : (x : Bus) → Unseen x.rd × (Unnoted x.wr × Unnoted x.turn) → x ≡ idle_bus
unfolding idle_bus
bus_never x e = λ i. record { rd = once_never x.rd e.0 i; wr = noted_never x.wr e.1.0 i; turn = noted_never x.turn e.1.1 i }

pub banks_never : (x : Banks)
    → NoneOpen 8 x.opened × (UnseenEach x.refpb × (UnseenEach x.pre × (UnseenEach x.act × (UnseenEach x.rd × (UnseenEach x.rda × (UnnotedEach x.wr × UnnotedEach x.wra))))))
    → x ≡ record {
      opened = replicate 8 false;
      refpb = never_each;
      pre = never_each;
      act = never_each;
      rd = never_each;
      rda = never_each;
      wr = never_noted_each;
      wra = never_noted_each;
    }
banks_never x e = λ i. record {
  opened = flags x.opened e.0 i;
  refpb = each_never x.refpb e.1.0 i;
  pre = each_never x.pre e.1.1.0 i;
  act = each_never x.act e.1.1.1.0 i;
  rd = each_never x.rd e.1.1.1.1.0 i;
  rda = each_never x.rda e.1.1.1.1.1.0 i;
  wr = noted_each_never x.wr e.1.1.1.1.1.1.0 i;
  wra = noted_each_never x.wra e.1.1.1.1.1.1.1 i;
}
