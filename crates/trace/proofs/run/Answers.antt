use Rattle.std.proofs.Common.{◌≡◌, true, false, [], length, sym, ap, subst, ◌∙◌, arith}
use Rattle.std.specs.Prelude.{Result, Ok, Err, MatchResult, IfOk, is_ok}
use Rattle.trace.specs.declared.turns.Turn.{Turn}
use Rattle.trace.specs.Standing.{begins, turns, Turned, Fits}
use Rattle.trace.proofs.Turning.{first_fits}
use Rattle.trace.proofs.run.Goals as goal

-- what holds of the value holds of it behind a `map_err`
abbrev value : {X E : Type 0} → X → Result X E → X
value d (Ok x) = x
value d (Err e) = d

passed : {X E D : Type 0} (before : Result X E) (P : X → Type 0) (Q : E → Type 0) {after : Result X D} {x : X} → after ≡ Ok x → is_ok after ≡ is_ok before
    → MatchResult before (λ y. after ≡ Ok y) Q → IfOk before P → P x
passed (Ok y) P Q {x = x} e k m h = let same : y ≡ x = ap (value y) (sym m ∙ e) in subst P same h
passed (Err d) P Q e k m h = let no : true ≡ false = rw e at k in absurd cc

pub loop-init : goal.loop-init
loop-init g c =
    (omega arith, omega arith, first_fits c.first-at.ensures 65536 (omega arith), ([], [], rw c.first-at.ensures (begins _)))

pub loop-preserved : goal.loop-preserved
loop-preserved g c =
    let v = c.loop.invariant in
    let a = c.args in
    let k : length c.one_turn.new.buf ≡ 65536 = omega arith in
    let fits = passed c.one_turn.result (λ (r : Turn). Fits r (length c.one_turn.new.buf)) _ c.in_ok-at.was c.map_err.ensures.variant c.map_err.ensures.cases c.one_turn.ensures.fits in
    let stands = passed c.one_turn.result (λ (r : Turn). Turned a.quiet c.loop.at c.loop.buf r c.one_turn.new.buf c.one_turn.new.out) _ c.in_ok-at.was c.map_err.ensures.variant c.map_err.ensures.cases c.one_turn.ensures.stands in
    (k, omega arith, rw k at fits, (_, _, turns v.3.2 c.in_ok-at.at _ c.one_turn.new.out stands))
