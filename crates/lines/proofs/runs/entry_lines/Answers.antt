-- One line more with each turn.
use Rattle.std.proofs.Common.{◌≡◌, refl, sym, ◌/◌, ◌<◌, min, length, take, ap, ◌∙◌, arith, length-take}
use Rattle.std.specs.Prelude.{Option, unwrap_or}
use Rattle.pins.specs.Values.{level_of}
use Rattle.pins.specs.declared.Front.{Front}
use Rattle.pins.specs.Fronts.{front_as, front_of}
use Rattle.rules.proofs.Onward.{onward}
use Rattle.lines.proofs.Leading.{pairs_good}
use Rattle.lines.specs.Runs.{standing, line_count}
use Rattle.lines.proofs.LinesIn.{level_kept, lines_none, stands_none, lines_next, piece_at}
use Rattle.lines.proofs.runs.entry_lines.Goals as goal
use Rattle.lines.proofs.runs.entry_lines.Goals.{in-Some, in-None}

abbrev front_or_none : Option Front → Front
front_or_none o = unwrap_or o (front_as 0 0)

pub invariant_of-writer : goal.invariant_of-writer
unfolding onward
invariant_of-writer c = record { good = pairs_good _ refl }

pub loop-entry-init : goal.loop-entry-init
loop-entry-init c = record { lines = lines_none _ _ _ _ _; stands = stands_none _ _ _ _; high = (level_kept _ _ _ c.high_of.ensures).1; small = omega arith }

pub loop-entry-preserved : goal.loop-entry-preserved
loop-entry-preserved c =
    let l = c.loop-entry in
    let a = c.args in
    let all = c.as_chunks.result.0.now in
    let within : l.entry-index < min c.min-2.result (length all) = rw length-take at c.loop-entry-test.true in
    let piece = piece_at c.min-2.result (length a.bytes.now / 10) l.entry-index a.bytes.now c.as_chunks.ensures.front (omega arith) (omega (arith, c.as_chunks.ensures.front_len)) in
    let here = c.entry_at.ensures ∙ ap front_of piece in
    let start = standing _ a.counter a.second in
    elim c.match-entry_at.branch [
      | in-Some w ↦ let x = w.put_entry.ensures in
          let more = lines_next a.sleeps a.paired l.entry-index start a.bytes.now w.in-Some.front (ap front_or_none (sym w.in-Some.is ∙ here)) l.invariant.lines l.invariant.stands x in
          rw (w.out-is, w.next-is, w.at-is) (record { lines = more.0; stands = more.1; high = x.high; small = omega (arith, x.small, l.invariant.small) })
      | in-None w ↦ let x = w.put_plain.ensures in
          let more = lines_next a.sleeps a.paired l.entry-index start a.bytes.now (front_as 0 0) (ap front_or_none (sym w.in-None.is ∙ here)) l.invariant.lines l.invariant.stands x in
          rw (w.out-is, w.next-is, w.at-is) (record { lines = more.0; stands = more.1; high = x.high; small = omega (arith, x.small, l.invariant.small) })
    ]

pub returns : goal.returns
returns c =
    let a = c.args in
    let all = c.as_chunks.result.0.now in
    let least : length (take c.min-2.result all) ≡ min c.min-2.result (length all) = length-take c.min-2.result all in
    let e : c.loop-entry.entry-index ≡ line_count a.count (length a.bytes.now) (length a.out.now) =
    omega (arith, least, c.loop-entry-test.false, c.loop-entry.auto.entry-index-end, c.min-2.ensures, c.min.ensures, c.saturating_sub-room.ensures, c.as_chunks.ensures.front_len) in
    rw (e, (level_kept a.paired _ (level_of a.level) c.high_of.ensures).0) at c.loop-entry.invariant.lines
