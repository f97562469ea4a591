use Rattle.std.proofs.Common.{◌≡◌, ◌∙◌, ⊎_elim}
use Rattle.chunks.specs.declared.What.TheVariants.{More, Full}
use Rattle.chunks.specs.Heard.{over_at}
use Rattle.chunks.proofs.Hearing.{over_says}
use Rattle.chunks.proofs.feeding.finish.Goals as goal

pub returns-in-Over : goal.returns-in-Over
unfolding over_at
returns-in-Over c = over_says _ _ _ _ _ _ c.feed-fed.ensures c.in-Over.is

pub returns-in-More : goal.returns-in-More
unfolding over_at
returns-in-More c =
    c.verdict.ensures
    ∙ ⊎_elim
    (λ (e : c.feed-fed.result.what ≡ More). over_says _ _ _ _ _ _ c.feed-fed.ensures e)
    (λ (e : c.feed-fed.result.what ≡ Full). over_says _ _ _ _ _ _ c.feed-fed.ensures e)
    c.in-More.is
