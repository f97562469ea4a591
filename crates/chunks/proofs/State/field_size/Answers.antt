-- By how many bytes there are, the tag and the length.
use Rattle.std.proofs.Common.{◌≡◌, ◌+◌, ◌*◌, get_or, sym, ◌∙◌, arith, le-ltb, lt-ltb}
use Rattle.rules.specs.Checks.{refusal}
use Rattle.card.specs.Tags.{wrong_of}
use Rattle.chunks.specs.Took.{head_at}
use Rattle.chunks.specs.Parts.{head_in, unread_as}
use Rattle.chunks.proofs.Fronts.{come_as, wrong_as, head_is}
use Rattle.chunks.proofs.State.field_size.Goals as goal

pub returns-then-is_empty : goal.returns-then-is_empty
unfolding head_at head_in
returns-then-is_empty c = sym (head_is _ _ _ ∙ rw (sym c.is_empty.ensures ∙ c.if-is_empty.true))

pub returns-then-not-may_come : goal.returns-then-not-may_come
unfolding head_at head_in unread_as wrong_of refusal
returns-then-not-may_come c =
    sym (head_is _ _ _ ∙ rw (
      sym c.is_empty.ensures ∙ c.if-is_empty.false,
      come_as _ _ c.args.self.now.rec.card.sleeps _ ∙ sym c.may_come.ensures ∙ c.if-not-may_come.true,
      wrong_as _ _ c.args.self.now.rec.card.sleeps _,
      ← c.wrong_tag-wrong.ensures,
    ))

pub returns-then-bytes-lt3 : goal.returns-then-bytes-lt3
unfolding head_at head_in
returns-then-bytes-lt3 c =
    sym (head_is _ _ _ ∙ rw (
      sym c.is_empty.ensures ∙ c.if-is_empty.false,
      come_as _ _ c.args.self.now.rec.card.sleeps _ ∙ sym c.may_come.ensures ∙ c.if-not-may_come.false,
      lt-ltb _ _ c.if-bytes-lt3.true,
    ))

pub returns-then-not-length_good : goal.returns-then-not-length_good
unfolding head_at head_in unread_as
returns-then-not-length_good c =
    let n : 256 * get_or c.args.bytes.now 1 0 + get_or c.args.bytes.now 2 0 ≡ c.from-size.result = omega arith in
    sym (head_is _ _ _ ∙ rw (
      sym c.is_empty.ensures ∙ c.if-is_empty.false,
      come_as _ _ c.args.self.now.rec.card.sleeps _ ∙ sym c.may_come.ensures ∙ c.if-not-may_come.false,
      le-ltb _ _ c.if-bytes-lt3.false,
      n,
      sym c.length_good.ensures ∙ c.if-not-length_good.true,
    ))

pub returns-then-bytes-size : goal.returns-then-bytes-size
unfolding head_at head_in
returns-then-bytes-size c =
    let n : 256 * get_or c.args.bytes.now 1 0 + get_or c.args.bytes.now 2 0 ≡ c.from-size.result = omega arith in
    sym (head_is _ _ _ ∙ rw (
      sym c.is_empty.ensures ∙ c.if-is_empty.false,
      come_as _ _ c.args.self.now.rec.card.sleeps _ ∙ sym c.may_come.ensures ∙ c.if-not-may_come.false,
      le-ltb _ _ c.if-bytes-lt3.false,
      n,
      sym c.length_good.ensures ∙ c.if-not-length_good.false,
      lt-ltb _ _ c.if-bytes-size.true,
    ))

pub returns : goal.returns
unfolding head_at head_in
returns c =
    let n : 256 * get_or c.args.bytes.now 1 0 + get_or c.args.bytes.now 2 0 ≡ c.from-size.result = omega arith in
    sym (head_is _ _ _ ∙ rw (
      sym c.is_empty.ensures ∙ c.if-is_empty.false,
      come_as _ _ c.args.self.now.rec.card.sleeps _ ∙ sym c.may_come.ensures ∙ c.if-not-may_come.false,
      le-ltb _ _ c.if-bytes-lt3.false,
      n,
      sym c.length_good.ensures ∙ c.if-not-length_good.false,
      le-ltb _ _ c.if-bytes-size.false,
    ))
