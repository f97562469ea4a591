-- What a temperature is at a level: barred after deep power-down of one part with low clock-enable, and else sensed.
use Prim.Native.Nat.{ℕ}
use mathlib.Core.Path.{◌≡◌, refl}
use mathlib.Core.Bool.{Bool, true, false}
use Rattle.rules.specs.Levels.{read_mr4, sense_at}
use Rattle.pins.specs.Values.{level_of, read_of, ReadAs}
use Rattle.pins.specs.declared.Level.{Level}
use Rattle.pins.specs.declared.Level.TheVariants.{Deep}
use Rattle.pins.specs.declared.Read.TheVariants.{Barred, Sensed}
use Rattle.pins.proofs.Values.{read_as}

pub barred_as : (s d : Bool) (l : Level) (v : ℕ) → s ≡ true → d ≡ false → l ≡ Deep → ReadAs (read_mr4 s d (level_of l) v) Barred
unfolding read_mr4 sense_at level_of read_of
barred_as s d l v a b e = read_as _ _ (rw (a, b, e))

pub sensed_as : (s d : Bool) (l : Level) (v : ℕ) → (s ≡ true → d ≡ false → l ≡ Deep → ⊥) → ReadAs (read_mr4 s d (level_of l) v) (Sensed v)
unfolding read_mr4 sense_at level_of read_of
sensed_as s true l v h = read_as _ _ refl
sensed_as false false l v h = read_as _ _ refl
sensed_as true false Deep v h = absurd (h refl refl refl)
sensed_as true false l v h = read_as _ _ refl
