use Rattle.std.proofs.Common.{rules}
use Rattle.rules.specs.Form.{◌up_to◌, in_group, expected_after}
use Rattle.card.proofs.tags.expected.Goals as goal
use Rattle.card.proofs.tags.expected.Goals.{in-19-to-22, in_default, in_default-2}

pub returns-then-not-sleeps : goal.returns-then-not-sleeps
unfolding expected_after in_group ◌up_to◌
returns-then-not-sleeps c = search rules

pub returns-else-matches : goal.returns-else-matches
unfolding expected_after in_group ◌up_to◌
returns-else-matches c = search rules
