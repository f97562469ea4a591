use Rattle.std.proofs.Common.{length, take, arith}
use Rattle.std.proofs.lemmas.Result.{IfOk-weaker}
use Rattle.chunks.specs.Heard.{heard_of}
use Rattle.trace.proofs.Calling.{behind_it}
use Rattle.trace.proofs.Turning.{read_goes, call_goes, told_goes}
use Rattle.trace.proofs.turns.one_turn.Goals as goal

pub returns-in-Read : goal.returns-in-Read
returns-in-Read g c =
    let a = c.args in
    let h = c.requires.fits_before.0 in
    record {
      fits = IfOk-weaker c.read_some.result _ _ (λ r p. (read_goes a.quiet a.at a.buf.now h a.out.now c.in-Read.is p).fits) c.read_some.ensures.came;
      wrote = IfOk-weaker c.read_some.result _ _ (λ r p. (read_goes a.quiet a.at a.buf.now h a.out.now c.in-Read.is p).wrote) c.read_some.ensures.came;
      stands = IfOk-weaker c.read_some.result _ _ (λ r p. (read_goes a.quiet a.at a.buf.now h a.out.now c.in-Read.is p).stands) c.read_some.ensures.came;
    }

pub returns-in-Judge : goal.returns-in-Judge
returns-in-Judge g c =
    let a = c.args in
    let there = behind_it (heard_of a.quiet (length a.out.now) a.at.state (take a.at.have a.buf.now)) c.judge_some.ensures _ (omega arith) in
    call_goes a.quiet a.at a.buf.now c.requires.fits_before.0 (length a.out.now) there c.in-Judge.is c.requires.in_bounds.0 (omega arith)

pub returns-in-Tell-clause-stands : goal.returns-in-Tell-clause-stands
returns-in-Tell-clause-stands g c =
    (told_goes c.args.quiet c.args.at c.args.buf.now c.requires.fits_before.0 _ _ c.in-Tell.is (c.tell.ensures.turn, c.tell.ensures.text)).stands
