use Prim.Native.Nat.{◌+◌}
use mathlib.Core.Path.{◌≡◌, refl, sym, ◌∙◌}
use native.Mathlib.Omega.{arith}
use lib.ListN.{length, drop_of_length-le}
use Rattle.rules.specs.Form.{number, number_from}
use Rattle.card.proofs.Numbers.{next_byte, one_more, bytes_fit}
use Rattle.card.proofs.values.number.Goals as goal

pub loop-byte-init : goal.loop-byte-init
unfolding number
loop-byte-init c = record { fits = omega arith; to_come = refl }

pub overflow_mul-x : goal.overflow_mul-x
overflow_mul-x c =
    let l = c.loop-byte in
    omega (arith, bytes_fit 8 (l.byte-index + 1) _ (omega arith) (one_more l.byte-index l.x 0 l.invariant.fits (omega arith)))

pub loop-byte-preserved : goal.loop-byte-preserved
loop-byte-preserved c =
    let l = c.loop-byte in
    record {
      fits = one_more l.byte-index l.x c.from.result l.invariant.fits (omega arith);
      to_come = l.invariant.to_come ∙ rw c.from.ensures (next_byte _ l.byte-index l.x (omega arith));
    }

pub returns : goal.returns
unfolding number_from
returns c =
    let l = c.loop-byte in
    let bytes = c.args.bytes.now in
    let e : l.byte-index ≡ length bytes = omega arith in
    (sym (l.invariant.to_come ∙ rw (drop_of_length-le bytes {i = l.byte-index} (omega arith))), rw (← e) l.invariant.fits)
