-- The promise of each public function determines its answer and what it leaves in the slice.
use Rattle.std.proofs.Common.{◌≡◌, ℕ, List, sym, refl, ◌∙◌}
use Rattle.rules.proofs.Determined.{Promise, Determined, determined, fact_of}
use Rattle.lines.proofs.Puts.{one_written}
use Rattle.chunks.specs.declared.Fed.{Fed}
use Rattle.chunks.specs.Heard.{Heard, FedAs}
use Rattle.chunks.specs.contracts.feeding.start as start
use Rattle.chunks.specs.contracts.feeding.feed as feed
use Rattle.chunks.specs.contracts.feeding.finish as finish
use Rattle.chunks.specs.contracts.verdicts.verdict_line as verdict_line

abbrev start_says : Promise start.ended
start_says w = start.clauses w.𝓛 w.𝓜.mem w.𝓡.run

pub start_determined : Determined start.ended start_says
start_determined = determined start.ended start_says (λ κs a r e. fact_of _) (λ κs a r r' ws ws' p p'. (p ∙ sym p', refl))

-- two answers to what was heard are one
one_fed : {h : Heard} {old new new' : List ℕ} {r r' : Fed} → FedAs h old new r → FedAs h old new' r' → (r ≡ r') × (new ≡ new')
one_fed p p' = (
  λ i. record {
    what = (p.what ∙ sym p'.what) i;
    used = (p.used ∙ sym p'.used) i;
    wrote = (p.wrote ∙ sym p'.wrote) i;
    state = (p.state ∙ sym p'.state) i;
  },
  p.memory ∙ sym p'.memory,
)

abbrev feed_says : Promise feed.ended
feed_says w = feed.clauses w.𝓛 w.𝓜.mem w.𝓡.run

pub feed_determined : Determined feed.ended feed_says
feed_determined =
    determined feed.ended feed_says (λ κs a r e. fact_of _)
    (λ κs a r r' ws ws' p p'. let one = one_fed p p' in (one.0, λ i. (tt, (tt, (one.1 i, (tt, tt))))))

abbrev finish_says : Promise finish.ended
finish_says w = finish.clauses w.𝓛 w.𝓜.mem w.𝓡.run

pub finish_determined : Determined finish.ended finish_says
finish_determined = determined finish.ended finish_says (λ κs a r e. fact_of _) (λ κs a r r' ws ws' p p'. (p ∙ sym p', refl))

abbrev verdict_line_says : Promise verdict_line.ended
verdict_line_says w = verdict_line.clauses w.𝓛 w.𝓜.mem w.𝓡.run

pub verdict_line_determined : Determined verdict_line.ended verdict_line_says
verdict_line_determined =
    determined verdict_line.ended verdict_line_says (λ κs a r e. fact_of _)
    (λ κs a r r' ws ws' p p'. let one = one_written p p' in (one.0, λ i. (one.1 i, (tt, tt))))
