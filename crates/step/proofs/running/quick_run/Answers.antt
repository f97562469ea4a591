-- Entry by entry, in place.
use mathlib.Core.Path.{sym, ◌∙◌}
use lib.ListN.{take}
use Rattle.step.proofs.Onward.{rest_of}
use Rattle.step.proofs.Begun.{unbegun, begun}
use Rattle.step.proofs.Went.{Saw, ended_so, stopped, went}
use Rattle.step.proofs.running.quick_run.Goals as goal
use Rattle.step.proofs.running.quick_run.Goals.{After-passes, in-Some+then-not-passes, in_default}

-- what is known of an entry where the tests are made
saw : (c : After-passes) →
    let l = c.loop-front in
    let a = c.args in
    Saw a.delays a.rec a.bytes.now a.most l.quick c.most_bytes.result c.in-Some.front c.kind_on-kind.result c.bank_on.result c.of-waits.result c.deadline-end.result
    c.clears-clear.result c.passes.result
saw c = record {
  going = c.loop-front.invariant;
  cut = c.most_bytes.ensures;
  front = sym (rw (rest_of (take c.most_bytes.result c.args.bytes.now) c.loop-front.quick.used) at c.in-Some.ensures);
  kind = c.kind_on-kind.ensures;
  bank = c.bank_on.ensures;
  waits = c.of-waits.ensures;
  deadline = c.deadline-end.ensures;
  ready = c.clears-clear.ensures ∙ rw (c.of-lane.ensures, c.of-waits.ensures);
  passes = c.passes.ensures;
}

pub returns-then-not-stands : goal.returns-then-not-stands
returns-then-not-stands c = rw c.start.ensures (unbegun _ _ _ _ c.deadline-end.ensures _ c.stands.ensures _ c.if-not-stands.true)

pub loop-front-init : goal.loop-front-init
loop-front-init c =
    rw c.of-quick.ensures (begun _ _ _ _ c.deadline-end.ensures _ c.stands.ensures _ c.if-not-stands.false)

pub loop-front-preserved : goal.loop-front-preserved
loop-front-preserved c = rw c.take.ensures (went (saw (goal.at.loop-front-preserved c).After-passes) c.if-not-passes.false)

pub returns : goal.returns
returns c =
    c.ended.ensures
    ∙ elim c.match-entry_at.branch [
      | in-Some+then-not-passes w ↦
          stopped (record {
            going = c.loop-front.invariant;
            cut = c.most_bytes.ensures;
            front = sym (rw (rest_of (take c.most_bytes.result c.args.bytes.now) c.loop-front.quick.used) at w.in-Some.ensures);
            kind = w.kind_on-kind.ensures;
            bank = w.bank_on.ensures;
            waits = c.of-waits.ensures;
            deadline = c.deadline-end.ensures;
            ready = w.clears-clear.ensures ∙ rw (w.of-lane.ensures, c.of-waits.ensures);
            passes = w.passes.ensures;
          }) w.if-not-passes.true
      | in_default w ↦ ended_so c.loop-front.invariant c.most_bytes.result c.most_bytes.ensures (sym (rw (rest_of (take c.most_bytes.result c.args.bytes.now) c.loop-front.quick.used) at w.in_default.ensures))
    ]
