-- Each share by its own promise.
use mathlib.Core.Path.{refl}
use native.Mathlib.Omega.{arith}
use Rattle.bank.proofs.Changed.{changed, share_by}
use Rattle.bank.proofs.taking.after.Goals as goal

pub returns : goal.returns
returns c =
    changed _ _ _ _ _ _ _ c.share_taken.result c.share_taken-2.result
    (share_by _ _ _ _ _ _ _ _ c.share_taken.ensures (first_of (cc, grind arith))) (share_by _ _ _ _ _ _ _ _ c.share_taken-2.ensures (first_of (cc, grind arith))) _
    (rw c.once_at.ensures refl)
