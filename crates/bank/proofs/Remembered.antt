-- What the record remembers after an entry is what the rules remember: a law for each shape.
use Prim.Native.Nat.{ℕ, ◌≤◌}
use mathlib.Core.Path.{◌≡◌, refl}
use mathlib.Core.Bool.{Bool, true, false, cond, ◌&&◌}
use mathlib.Core.List.{[], ◌∷◌}
use mathlib.Core.Logic.{⊎_elim}
use native.Mathlib.Omega.{arith}
use borrow.Author.Tests.{ne_eqb}
use lib.Dec.{eqb}
use lib.ListN.{get_or}
use Rattle.rules.specs.Commands.{Command, code, kind_of, REFPB, PRE, PREA, is, bank_of}
use Rattle.rules.specs.Past.{bank_at}
use Rattle.rules.specs.Delays.{unnoted}
use Rattle.rules.proofs.Tests.{eq_cases}
use Rattle.card.specs.Values.{modes_of}
use Rattle.card.specs.declared.Modes.{Modes}
use Rattle.bank.specs.Values.{entry, kept, once, noted, each, no_modes, noted_each}
use Rattle.bank.specs.After.{once_if, noted_if, each_if, noted_each_if}
use Rattle.bank.specs.declared.Once.{Once}
use Rattle.bank.specs.declared.Noted.{Noted}
use Rattle.bank.specs.declared.Each.{Each}
use Rattle.bank.specs.declared.NotedEach.{NotedEach}
use Rattle.bank.proofs.Sizes.{EachWhole, NotedWhole}
use Rattle.bank.proofs.Places.{set_read}

pub once_after : (now : Bool) (t : ℕ) (x : Once) → once (once_if now t x) ≡ cond now (entry t unnoted ∷ []) (once x)
unfolding once once_if kept
once_after true t x = refl
once_after false t x = refl

pub noted_after : (now : Bool) (t : ℕ) (m : Modes) (x : Noted) → noted (noted_if now t m x) ≡ cond now (entry t (modes_of m) ∷ []) (noted x)
unfolding noted noted_if kept
noted_after true t m x = refl
noted_after false t m x = refl

-- ---- of each bank: `now` is where an entry of the kind asked for comes
kept_if : (e s : Bool) (t a : ℕ) → kept (cond e true s) (cond e t a) unnoted ≡ cond e (entry t unnoted ∷ []) (kept s a unnoted)
unfolding kept
kept_if true s t a = refl
kept_if false s t a = refl

noted_if_lem : (e s : Bool) (t a : ℕ) (m n : Modes) → kept (cond e true s) (cond e t a) (modes_of (cond e m n)) ≡ cond e (entry t (modes_of m) ∷ []) (kept s a (modes_of n))
unfolding kept
noted_if_lem true s t a m n = refl
noted_if_lem false s t a m n = refl

pub each_seen : (now : Bool) (k t b : ℕ) (x : Each) → k ≤ 7 → EachWhole x
    → get_or (each_if now k t x).seen b false ≡ cond (now && eqb k b) true (get_or x.seen b false)
unfolding each_if
each_seen true k t b x h w = let e = w.seen in set_read x.seen k b true false (omega arith)
each_seen false k t b x h w = refl

pub each_at : (now : Bool) (k t b : ℕ) (x : Each) → k ≤ 7 → EachWhole x
    → get_or (each_if now k t x).at b 0 ≡ cond (now && eqb k b) t (get_or x.at b 0)
unfolding each_if
each_at true k t b x h w = let e = w.at in set_read x.at k b t 0 (omega arith)
each_at false k t b x h w = refl

pub each_after : (now : Bool) (k t b : ℕ) (x : Each) → k ≤ 7 → EachWhole x
    → each (each_if now k t x) b ≡ cond (now && eqb k b) (entry t unnoted ∷ []) (each x b)
unfolding each
each_after now k t b x h w =
    rw (each_seen now k t b x h w, each_at now k t b x h w) (kept_if (now && eqb k b) (get_or x.seen b false) t (get_or x.at b 0))

pub noted_each_after : (now : Bool) (k t : ℕ) (m : Modes) (b : ℕ) (x : NotedEach) → k ≤ 7 → NotedWhole x
    → noted_each (noted_each_if now k t m x) b ≡ cond (now && eqb k b) (entry t (modes_of m) ∷ []) (noted_each x b)
unfolding noted_each noted_each_if
noted_each_after false k t m b x h w = refl
noted_each_after true k t m b x h w =
    let e = w.seen in
    let f = w.at in
    let g = w.modes in
    rw (
      set_read x.seen k b true false (omega arith),
      set_read x.at k b t 0 (omega arith),
      set_read x.modes k b m no_modes (omega arith),
    )
    (noted_if_lem (eqb k b) (get_or x.seen b false) t (get_or x.at b 0) m (get_or x.modes b no_modes))

-- ---- tests of commands
pub one_precharge : (c : Command) → (is PREA c && is PRE c) ≡ false
unfolding is code
one_precharge c =
    ⊎_elim (λ (p : (9 ≡ code (kind_of c)) × (eqb 9 (code (kind_of c)) ≡ true)). rw p.1 (ne_eqb 8 (code (kind_of c)) (omega arith)))
    (λ (p : (9 ≡ code (kind_of c) → ⊥) × (eqb 9 (code (kind_of c)) ≡ false)). rw p.1)
    (eq_cases 9 (code (kind_of c)))

pub bank_low : (c : Command) (n : ℕ) → n ≤ 7 → bank_of c ≤ 7 → bank_at c n ≤ 7
unfolding bank_at
bank_low c n h g = go (is REFPB c)
  where
    go : (x : Bool) → cond x n (bank_of c) ≤ 7
    go true = h
    go false = g
