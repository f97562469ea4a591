-- By the head: a whole field, one that is cut, or a refusal.
use Rattle.std.proofs.Common.{sym, ◌∙◌, length-take-le}
use Rattle.chunks.proofs.Entries.{not_taken}
use Rattle.chunks.proofs.Taking.{behind_none, behind_some, field_refused, head_refused, head_cut, head_whole, whole_asks, on_taken, on_refused}
use Rattle.chunks.proofs.State.take_field.Goals as goal

pub returns-then-is_empty : goal.returns-then-is_empty
returns-then-is_empty c = behind_none _ _ c.if-self-eq-END.true (sym c.is_empty.ensures ∙ c.if-is_empty.true)

pub returns-else-is_empty : goal.returns-else-is_empty
returns-else-is_empty c = behind_some _ _ c.if-self-eq-END.true _ (sym c.is_empty.ensures ∙ c.if-is_empty.false) c.only.ensures

pub returns-in_err-size : goal.returns-in_err-size
returns-in_err-size c = field_refused _ _ _ _ c.from_residual.ensures.1 (head_refused _ _ c.if-self-eq-END.false _ c.field_size.ensures _ c.in_err-size.was)

pub returns-in_default : goal.returns-in_default
returns-in_default c = head_cut _ _ c.if-self-eq-END.false _ c.field_size.ensures _ c.in_ok-size.was c.in_default.not-Some

pub slice_bounds-take_whole-end : goal.slice_bounds-take_whole-end
slice_bounds-take_whole-end c =
    let f = head_whole _ _ _ c.field_size.ensures _ c.in_ok-size.was _ c.in-Some.is in
    sym (length-take-le _ _ f.long)

pub take_whole-requires-clause-in_bounds : goal.take_whole-requires-clause-in_bounds
take_whole-requires-clause-in_bounds c = whole_asks _ _ _ _ (head_whole _ _ _ c.field_size.ensures _ c.in_ok-size.was _ c.in-Some.is)

pub take_whole-requires-clause-not_taken : goal.take_whole-requires-clause-not_taken
take_whole-requires-clause-not_taken c =
    λ t. not_taken c.args.self.now _ _ (head_whole _ _ _ c.field_size.ensures _ c.in_ok-size.was _ c.in-Some.is) t c.requires

pub returns-in_err-next : goal.returns-in_err-next
returns-in_err-next c =
    let f = head_whole _ _ _ c.field_size.ensures _ c.in_ok-size.was _ c.in-Some.is in
    on_refused _ _ c.if-self-eq-END.false _ f _ c.take_whole.ensures _ c.in_err-next.was _ c.from_residual-in_err-next.ensures.1

pub returns : goal.returns
returns c =
    let f = head_whole _ _ _ c.field_size.ensures _ c.in_ok-size.was _ c.in-Some.is in
    on_taken _ _ c.if-self-eq-END.false _ f _ c.take_whole.ensures _ c.in_ok-next.was
