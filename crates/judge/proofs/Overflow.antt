-- Why the counts and the offset of a run from a fresh state never wrap: stamps are below 2^32 and rise, so there are at most 2^32 entries, and a field has at
-- most eleven bytes (proofs/Stands, `far_below`).
use Prim.Native.Nat.{ℕ, suc, ◌+◌, ◌*◌, ◌^◌, ◌≤◌, ◌<◌}
use mathlib.Core.Path.{◌≡◌, refl}
use mathlib.Core.Bool.{Bool, true, false, cond}
use mathlib.Core.List.{List, [], ◌∷◌}
use native.Mathlib.Omega.{arith}
use lib.Dec.{leb}
use lib.ListN.{length}
use borrow.Author.Tests.{leb-true}
use Rattle.rules.specs.Lists.{all, Every}
use Rattle.rules.specs.Commands.{NOP, is}
use Rattle.rules.specs.Past.{Past, command_count}
use Rattle.rules.specs.Form.{Field, bytes_of, size_of, ◌of◌, ◌of◌or◌, lengths, length_good, entry_of}
use Rattle.rules.specs.FileReading.{RightForm}
use Rattle.rules.proofs.Rounds.{AllBelow, Rising}
use Rattle.card.proofs.Lengths.{listed_has}
use Rattle.chunks.proofs.Bytes.{Bytes, four_small}

pub stamp_small : (f : Field) → Bytes (bytes_of f) → (entry_of f).stamp < 2 ^ 32
unfolding Every bytes_of entry_of
stamp_small f h = four_small f.value h.1.1.1

-- ---- a field has at most eleven bytes
pub short_value_lem : (t l : ℕ) → length_good t l ≡ true → l ≤ 8
unfolding length_good lengths ◌of◌ ◌of◌or◌ all
short_value_lem t l e = leb-true l 8 (listed_has (λ k s. leb s 8) lengths t l refl e)

pub size_small : {b : Bool} (fs : List Field) (f : Field) → RightForm b fs f → size_of f ≤ 11
unfolding size_of
size_small fs f r = omega (arith, r.whole, short_value_lem f.tag (256 * f.high + f.low) r.size)

-- ---- rising stamps
pub few : (n : ℕ) (past : Past) → Rising past → AllBelow n past → length past ≤ n
unfolding Rising AllBelow
few n [] r b = omega arith
few n (e ∷ t) r b = omega (arith, few e.stamp t r.1 r.0)

pub commands_few : (past : Past) → command_count past ≤ length past
unfolding command_count
commands_few [] = omega arith
commands_few (e ∷ t) = go (is NOP e.cmd) (commands_few t)
  where
    go : (b : Bool) → command_count t ≤ length t → cond b (command_count t) (suc (command_count t)) ≤ suc (length t)
    go true h = omega arith
    go false h = omega arith
