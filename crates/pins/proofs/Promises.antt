-- The promise of each public function determines its answer, and the writer's what it leaves in the buffer. `claims` is what a promise says, as a plain claim.
use mathlib.Core.Path.{◌≡◌, refl, sym, ◌∙◌}
use Rattle.rules.proofs.Determined.{Promise, Plainly, Determined, determined, fact_of, both_of}
use Rattle.pins.proofs.Values.{one_command, one_decoded, one_level, one_moved, one_read, one_whose, one_wrote}
use Rattle.pins.specs.contracts.counter.counter_after as counter_after
use Rattle.pins.specs.contracts.fields.entry_at as entry_at
use Rattle.pins.specs.contracts.fields.stamp_at as stamp_at
use Rattle.pins.specs.contracts.heat.read_mr4 as read_mr4
use Rattle.pins.specs.contracts.heat.whose_mr4 as whose_mr4
use Rattle.pins.specs.contracts.levels.is_awake as is_awake
use Rattle.pins.specs.contracts.levels.judged as judged
use Rattle.pins.specs.contracts.levels.level_after as level_after
use Rattle.pins.specs.contracts.levels.move_of as move_of
use Rattle.pins.specs.contracts.levels.read_pins as read_pins
use Rattle.pins.specs.contracts.levels.recorded as recorded
use Rattle.pins.specs.contracts.levels.rises_from as rises_from
use Rattle.pins.specs.contracts.reader.decode as decode
use Rattle.pins.specs.contracts.selects.is_first as is_first
use Rattle.pins.specs.contracts.selects.is_second as is_second
use Rattle.pins.specs.contracts.selects.whose_pins as whose_pins
use Rattle.pins.specs.contracts.table.kind_of as kind_of
use Rattle.pins.specs.contracts.table.kinds as kinds
use Rattle.pins.specs.contracts.writer.write_entry as write_entry

abbrev decode_says : Promise decode.ended
decode_says w = decode.clauses w.𝓛 w.𝓜.mem w.𝓡.run

abbrev pub decode_claims : Plainly decode.ended decode_says
decode_claims κs a r e = fact_of _

pub decode_determined : Determined decode.ended decode_says
decode_determined = determined decode.ended decode_says decode_claims (λ κs a r r' ws ws' p p'. (one_decoded r r' p.is p'.is, refl))

abbrev read_pins_says : Promise read_pins.ended
read_pins_says w = read_pins.clauses w.𝓛 w.𝓜.mem w.𝓡.run

abbrev pub read_pins_claims : Plainly read_pins.ended read_pins_says
read_pins_claims κs a r e = fact_of _

pub read_pins_determined : Determined read_pins.ended read_pins_says
read_pins_determined = determined read_pins.ended read_pins_says read_pins_claims (λ κs a r r' ws ws' p p'. (one_read r r' p.is p'.is, refl))

abbrev read_mr4_says : Promise read_mr4.ended
read_mr4_says w = read_mr4.clauses w.𝓛 w.𝓜.mem w.𝓡.run

pub read_mr4_determined : Determined read_mr4.ended read_mr4_says
read_mr4_determined = determined read_mr4.ended read_mr4_says (λ κs a r e. fact_of _) (λ κs a r r' ws ws' p p'. (one_read r r' p.is p'.is, refl))

abbrev recorded_says : Promise recorded.ended
recorded_says w = recorded.clauses w.𝓛 w.𝓜.mem w.𝓡.run

pub recorded_determined : Determined recorded.ended recorded_says
recorded_determined = determined recorded.ended recorded_says (λ κs a r e. fact_of _) (λ κs a r r' ws ws' p p'. (one_command r r' p p', refl))

abbrev judged_says : Promise judged.ended
judged_says w = judged.clauses w.𝓛 w.𝓜.mem w.𝓡.run

pub judged_determined : Determined judged.ended judged_says
judged_determined = determined judged.ended judged_says (λ κs a r e. fact_of _) (λ κs a r r' ws ws' p p'. (one_command r r' p p', refl))

abbrev move_of_says : Promise move_of.ended
move_of_says w = move_of.clauses w.𝓛 w.𝓜.mem w.𝓡.run

pub move_of_determined : Determined move_of.ended move_of_says
move_of_determined = determined move_of.ended move_of_says (λ κs a r e. fact_of _) (λ κs a r r' ws ws' p p'. (one_moved r r' p p', refl))

abbrev level_after_says : Promise level_after.ended
level_after_says w = level_after.clauses w.𝓛 w.𝓜.mem w.𝓡.run

pub level_after_determined : Determined level_after.ended level_after_says
level_after_determined = determined level_after.ended level_after_says (λ κs a r e. fact_of _) (λ κs a r r' ws ws' p p'. (one_level r r' p p', refl))

abbrev rises_from_says : Promise rises_from.ended
rises_from_says w = rises_from.clauses w.𝓛 w.𝓜.mem w.𝓡.run

pub rises_from_determined : Determined rises_from.ended rises_from_says
rises_from_determined = determined rises_from.ended rises_from_says (λ κs a r e. fact_of _) (λ κs a r r' ws ws' p p'. (p ∙ sym p', refl))

abbrev is_awake_says : Promise is_awake.ended
is_awake_says w = is_awake.clauses w.𝓛 w.𝓜.mem w.𝓡.run

pub is_awake_determined : Determined is_awake.ended is_awake_says
is_awake_determined = determined is_awake.ended is_awake_says (λ κs a r e. fact_of _) (λ κs a r r' ws ws' p p'. (p ∙ sym p', refl))

abbrev whose_pins_says : Promise whose_pins.ended
whose_pins_says w = whose_pins.clauses w.𝓛 w.𝓜.mem w.𝓡.run

abbrev pub whose_pins_claims : Plainly whose_pins.ended whose_pins_says
whose_pins_claims κs a r e = fact_of _

pub whose_pins_determined : Determined whose_pins.ended whose_pins_says
whose_pins_determined = determined whose_pins.ended whose_pins_says whose_pins_claims (λ κs a r r' ws ws' p p'. (one_whose r r' p p', refl))

abbrev whose_mr4_says : Promise whose_mr4.ended
whose_mr4_says w = whose_mr4.clauses w.𝓛 w.𝓜.mem w.𝓡.run

pub whose_mr4_determined : Determined whose_mr4.ended whose_mr4_says
whose_mr4_determined = determined whose_mr4.ended whose_mr4_says (λ κs a r e. fact_of _) (λ κs a r r' ws ws' p p'. (one_whose r r' (p 0) (p' 0), refl))

abbrev is_first_says : Promise is_first.ended
is_first_says w = is_first.clauses w.𝓛 w.𝓜.mem w.𝓡.run

pub is_first_determined : Determined is_first.ended is_first_says
is_first_determined = determined is_first.ended is_first_says (λ κs a r e. fact_of _) (λ κs a r r' ws ws' p p'. (p ∙ sym p', refl))

abbrev is_second_says : Promise is_second.ended
is_second_says w = is_second.clauses w.𝓛 w.𝓜.mem w.𝓡.run

pub is_second_determined : Determined is_second.ended is_second_says
is_second_determined = determined is_second.ended is_second_says (λ κs a r e. fact_of _) (λ κs a r r' ws ws' p p'. (p ∙ sym p', refl))

abbrev kinds_says : Promise kinds.ended
kinds_says w = kinds.clauses w.𝓛 w.𝓜.mem w.𝓡.run

pub kinds_determined : Determined kinds.ended kinds_says
kinds_determined = determined kinds.ended kinds_says (λ κs a r e. fact_of _) (λ κs a r r' ws ws' p p'. (p ∙ sym p', refl))

abbrev kind_of_says : Promise kind_of.ended
kind_of_says w = kind_of.clauses w.𝓛 w.𝓜.mem w.𝓡.run

pub kind_of_determined : Determined kind_of.ended kind_of_says
kind_of_determined = determined kind_of.ended kind_of_says (λ κs a r e. fact_of _) (λ κs a r r' ws ws' p p'. (p ∙ sym p', refl))

abbrev counter_after_says : Promise counter_after.ended
counter_after_says w = counter_after.clauses w.𝓛 w.𝓜.mem w.𝓡.run

pub counter_after_determined : Determined counter_after.ended counter_after_says
counter_after_determined = determined counter_after.ended counter_after_says (λ κs a r e. fact_of _) (λ κs a r r' ws ws' p p'. (p ∙ sym p', refl))

abbrev stamp_at_says : Promise stamp_at.ended
stamp_at_says w = stamp_at.clauses w.𝓛 w.𝓜.mem w.𝓡.run

pub stamp_at_determined : Determined stamp_at.ended stamp_at_says
stamp_at_determined = determined stamp_at.ended stamp_at_says (λ κs a r e. fact_of _) (λ κs a r r' ws ws' p p'. (p ∙ sym p', refl))

abbrev entry_at_says : Promise entry_at.ended
entry_at_says w = entry_at.clauses w.𝓛 w.𝓜.mem w.𝓡.run

abbrev pub entry_at_claims : Plainly entry_at.ended entry_at_says
entry_at_claims κs a r e = fact_of _

pub entry_at_determined : Determined entry_at.ended entry_at_says
entry_at_determined = determined entry_at.ended entry_at_says entry_at_claims (λ κs a r r' ws ws' p p'. (p ∙ sym p', refl))

abbrev write_entry_says : Promise write_entry.ended
write_entry_says w = write_entry.clauses w.𝓛 w.𝓜.mem w.𝓡.run

abbrev pub write_entry_claims : Plainly write_entry.ended write_entry_says
write_entry_claims κs a r e = both_of (fact_of _) (fact_of _)

pub write_entry_determined : Determined write_entry.ended write_entry_says
write_entry_determined =
    determined write_entry.ended write_entry_says write_entry_claims
    (λ κs a r r' ws ws' p p'. let after : ws.1.1.1.1.0 ≡ ws'.1.1.1.1.0 = p.1 ∙ sym p'.1 in
    (one_wrote r r' p.0 p'.0, λ i. (tt, (tt, (tt, (tt, (after i, tt)))))))
