-- Parts of a run, one behind the other.
use Prim.Native.Nat.{ℕ, ◌+◌}
use mathlib.Core.Path.{◌≡◌}
use native.Mathlib.Nat.{zero-add, add-zero}
use native.Mathlib.Omega.{arith}
use Rattle.step.specs.declared.Ran.{Ran}
use Rattle.step.specs.Runs.{ran, behind}

module _ {R : Type 0} where
  pub behind_twice : (a b c x y z : ℕ) (r : Ran R) → behind a b c (behind x y z r) ≡ behind (a + x) (b + y) (c + z) r
  behind_twice a b c x y z r =
      let u : a + (x + r.used) ≡ a + x + r.used = omega arith in
      let m : b + (y + r.commands) ≡ b + y + r.commands = omega arith in
      let f : c + (z + r.refreshes) ≡ c + z + r.refreshes = omega arith in
      λ i. ran r.rec (u i) (m i) (f i)

  pub from_start : (r : Ran R) → behind 0 0 0 r ≡ r
  from_start r = λ i. ran r.rec (zero-add r.used i) (zero-add r.commands i) (zero-add r.refreshes i)

  pub behind_none : (r : Ran R) → behind r.used r.commands r.refreshes (ran r.rec 0 0 0) ≡ r
  behind_none r = λ i. ran r.rec (add-zero r.used i) (add-zero r.commands i) (add-zero r.refreshes i)
