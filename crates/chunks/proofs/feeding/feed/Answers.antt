-- What was heard so far, and what is heard from here, is kept from turn to turn.
use Rattle.std.proofs.Common.{sym, ◌∙◌, arith}
use Rattle.chunks.proofs.Hearing.{going, going_full, leap_size, going_leap, none_asked, stands, going_wait, going_over, size_here, going_on}
use Rattle.chunks.proofs.feeding.feed.Goals as goal

pub loop-state-init : goal.loop-state-init
loop-state-init c = going _ _ _ _

pub returns-then-not-has_room : goal.returns-then-not-has_room
returns-then-not-has_room c = going_full c.loop-state.invariant (sym c.has_room.ensures ∙ c.if-not-has_room.true)

pub overflow_add-used : goal.overflow_add-used
overflow_add-used c =
    let s = leap_size c.loop-state.invariant c.leap.ensures _ c.in-Some.is in
    omega arith

pub overflow_add-wrote : goal.overflow_add-wrote
overflow_add-wrote c =
    let g = going_leap c.loop-state.invariant c.leap.ensures _ c.in-Some.is in
    let i = g.put.fits in
    omega arith

pub loop-state-smaller-in-Some : goal.loop-state-smaller-in-Some
loop-state-smaller-in-Some c =
    let s = leap_size c.loop-state.invariant c.leap.ensures _ c.in-Some.is in
    omega arith

pub loop-state-preserved-in-Some : goal.loop-state-preserved-in-Some
loop-state-preserved-in-Some c = going_leap c.loop-state.invariant c.leap.ensures _ c.in-Some.is

pub take_field-requires : goal.take_field-requires
take_field-requires c = none_asked c.loop-state.invariant c.leap.ensures c.in_default.not-Some

pub overflow_add-used-in-Ok-Some : goal.overflow_add-used-in-Ok-Some
overflow_add-used-in-Ok-Some c =
    let h = stands c.loop-state.invariant c.leap.ensures c.in_default.not-Some (sym c.has_room.ensures ∙ c.if-not-has_room.false) in
    let s = size_here h _ c.take_field.ensures c.in-Ok-Some.is c.in-Ok-Some.field-0-is in
    omega arith

pub loop-state-smaller : goal.loop-state-smaller
loop-state-smaller c =
    let h = stands c.loop-state.invariant c.leap.ensures c.in_default.not-Some (sym c.has_room.ensures ∙ c.if-not-has_room.false) in
    let s = size_here h _ c.take_field.ensures c.in-Ok-Some.is c.in-Ok-Some.field-0-is in
    omega arith

pub loop-state-preserved : goal.loop-state-preserved
loop-state-preserved c =
    let h = stands c.loop-state.invariant c.leap.ensures c.in_default.not-Some (sym c.has_room.ensures ∙ c.if-not-has_room.false) in
    going_on h _ c.take_field.ensures c.in-Ok-Some.is c.in-Ok-Some.field-0-is

pub returns-in-Ok-None : goal.returns-in-Ok-None
returns-in-Ok-None c =
    let h = stands c.loop-state.invariant c.leap.ensures c.in_default.not-Some (sym c.has_room.ensures ∙ c.if-not-has_room.false) in
    going_wait h _ c.take_field.ensures c.in-Ok-None.is c.in-Ok-None.field-0-is

pub returns-in-Err : goal.returns-in-Err
returns-in-Err c =
    let h = stands c.loop-state.invariant c.leap.ensures c.in_default.not-Some (sym c.has_room.ensures ∙ c.if-not-has_room.false) in
    going_over h _ c.take_field.ensures c.in-Err.is _ (cc)
