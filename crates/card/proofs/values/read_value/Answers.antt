use Rattle.std.proofs.Common.{◌≡◌, ◌≤◌, rules, sym, ◌∙◌, arith, true, ◌&&◌}
use Rattle.rules.specs.Form.{of_card, may_follow, timing_of}
use Rattle.card.specs.Values.{timing}
use Rattle.card.specs.Reading.{number_for}
use Rattle.card.proofs.Told.{taken, bad_tag_lem, in_fs, in_parts, bad_value_lem, taken_lem}
use Rattle.card.proofs.values.read_value.Goals as goal
use Rattle.card.proofs.values.read_value.Goals.{After-value_good, then-of_card, else-of_card, then-tag-eq1, else-tag-eq1}

pub returns-then-not-may_come : goal.returns-then-not-may_come
returns-then-not-may_come c =
    bad_tag_lem _ _ _ _ _ _ c.wrong_tag.ensures (elim c.if-of_card.branch [ then-of_card w ↦ search rules | else-of_card w ↦ search rules ])

-- what stands behind the tests of the tag and of the length
may_come : (c : After-value_good) → (of_card c.args.tag && may_follow c.args.begun c.args.last c.args.tag) ≡ true
may_come c = elim c.if-of_card.branch [ then-of_card w ↦ search rules | else-of_card w ↦ search rules ]

as_read : (c : After-value_good)
    → (taken c.args.card c.args.tag c.if-tag-eq1.x.0 (timing c.if-tag-eq1.x.0 c.if-tag-eq1.x.1)
    ≡ taken c.args.card c.args.tag (number_for c.args.tag c.args.value.now) (timing_of c.args.value.now))
    × (c.if-tag-eq1.x.1 ≤ 255)
as_read c = elim c.if-tag-eq1.branch [
  | then-tag-eq1 w ↦ (
    rw (w.x-is, w.period_of.ensures) (in_fs c.args.card c.args.begun c.args.last c.args.tag c.args.value.now (may_come c) (search rules) w.if-tag-eq1.true _),
    rw w.x-is (omega arith),
  )
  | else-tag-eq1 w ↦ (
    rw (w.x-is, w.first_four.ensures, w.fifth.ensures) (in_parts c.args.card c.args.begun c.args.last c.args.tag c.args.value.now (may_come c) (search rules) w.if-tag-eq1.false),
    rw w.x-is (omega arith),
  )
]

pub returns-then-not-value_good : goal.returns-then-not-value_good
returns-then-not-value_good c =
    let before = (goal.at.returns-then-not-value_good c).After-value_good in
    let (so, low) = as_read before in
    bad_value_lem _ _ _ _ _ (may_come before) (search rules) _ _ so (sym (c.value_good.ensures _ low) ∙ c.if-not-value_good.true)

pub returns : goal.returns
returns c =
    let before = (goal.at.returns c).After-value_good in
    let (so, low) = as_read before in
    rw c.put.ensures (taken_lem _ _ _ _ _ (may_come before) (search rules) _ _ so (sym (c.value_good.ensures _ low) ∙ c.if-not-value_good.false))
