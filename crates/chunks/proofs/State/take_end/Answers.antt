-- Refused or taken as the account tells.
use Rattle.std.proofs.Common.{◌≡◌, ◌∙◌, arith}
use Rattle.rules.specs.Form.{size_of}
use Rattle.chunks.specs.Parts.{field_in}
use Rattle.chunks.proofs.Sizes.{size_in}
use Rattle.chunks.proofs.Taking.{whole_refused, end_left, end_refused, end_taken}
use Rattle.chunks.proofs.State.take_end.Goals as goal

pub returns-in_err-paid : goal.returns-in_err-paid
returns-in_err-paid c =
    let l = end_left _ _ _ _ c.requires c.stamp_at.ensures c.close-paid.ensures in
    whole_refused _ _ _ _ _ c.from_residual.ensures.1 (end_refused _ _ _ l _ c.in_err-paid.was)

pub returns : goal.returns
returns c =
    let n : size_of (field_in c.args.bytes.now) ≡ 7 = size_in _ (omega arith) ∙ c.requires in
    let l = end_left _ _ _ _ c.requires c.stamp_at.ensures c.close-paid.ensures in
    rw c.closed.ensures (end_taken _ _ _ l _ c.in_ok-paid.was n _ c.requires)
