-- The promise of each public function determines its answer.
use mathlib.Core.Path.{refl, sym, ◌∙◌}
use Rattle.rules.proofs.Determined.{Promise, Determined, determined, fact_of}
use Rattle.bank.proofs.Joined.{one_paid}
use Rattle.bank.proofs.Defaults.{once_never, noted_never, each_never, noted_each_never, four_never, latest_never, moves_never, bus_never, banks_never}
use Rattle.bank.specs.contracts.fresh.fresh_record as fresh_record
use Rattle.bank.specs.contracts.fresh.idle_bus as idle_bus
use Rattle.bank.specs.contracts.sound.good as good
use Rattle.bank.specs.contracts.parts.own as own
use Rattle.bank.specs.contracts.parts.theirs as theirs
use Rattle.bank.specs.contracts.both.ledgers_of as ledgers_of
use Rattle.bank.specs.contracts.both.entered as entered
use Rattle.bank.specs.contracts.ending.close as close
use Rattle.bank.specs.contracts.taking.after as after
use Rattle.bank.specs.contracts.taking.share_after as share_after
use Rattle.bank.specs.contracts.taking.once_at as once_at
use Rattle.bank.specs.contracts.taking.pushed as pushed
use Rattle.bank.specs.contracts.OnceDefault.default as once_default
use Rattle.bank.specs.contracts.NotedDefault.default as noted_default
use Rattle.bank.specs.contracts.EachDefault.default as each_default
use Rattle.bank.specs.contracts.NotedEachDefault.default as noted_each_default
use Rattle.bank.specs.contracts.FourDefault.default as four_default
use Rattle.bank.specs.contracts.LatestDefault.default as latest_default
use Rattle.bank.specs.contracts.MovesDefault.default as moves_default
use Rattle.bank.specs.contracts.BusDefault.default as bus_default
use Rattle.bank.specs.contracts.BanksDefault.default as banks_default

abbrev fresh_record_says : Promise fresh_record.ended
fresh_record_says w = fresh_record.clauses w.𝓛 w.𝓜.mem w.𝓡.run

pub fresh_record_determined : Determined fresh_record.ended fresh_record_says
fresh_record_determined = determined fresh_record.ended fresh_record_says (λ κs a r e. fact_of _) (λ κs a r r' ws ws' p p'. (p ∙ sym p', refl))

abbrev idle_bus_says : Promise idle_bus.ended
idle_bus_says w = idle_bus.clauses w.𝓛 w.𝓜.mem w.𝓡.run

pub idle_bus_determined : Determined idle_bus.ended idle_bus_says
idle_bus_determined = determined idle_bus.ended idle_bus_says (λ κs a r e. fact_of _) (λ κs a r r' ws ws' p p'. (p ∙ sym p', refl))

abbrev good_says : Promise good.ended
good_says w = good.clauses w.𝓛 w.𝓜.mem w.𝓡.run

pub good_determined : Determined good.ended good_says
good_determined = determined good.ended good_says (λ κs a r e. fact_of _) (λ κs a r r' ws ws' p p'. (p ∙ sym p', refl))

abbrev own_says : Promise own.ended
own_says w = own.clauses w.𝓛 w.𝓜.mem w.𝓡.run

pub own_determined : Determined own.ended own_says
own_determined = determined own.ended own_says (λ κs a r e. fact_of _) (λ κs a r r' ws ws' p p'. (p ∙ sym p', refl))

abbrev theirs_says : Promise theirs.ended
theirs_says w = theirs.clauses w.𝓛 w.𝓜.mem w.𝓡.run

pub theirs_determined : Determined theirs.ended theirs_says
theirs_determined = determined theirs.ended theirs_says (λ κs a r e. fact_of _) (λ κs a r r' ws ws' p p'. (p ∙ sym p', refl))

abbrev ledgers_of_says : Promise ledgers_of.ended
ledgers_of_says w = ledgers_of.clauses w.𝓛 w.𝓜.mem w.𝓡.run

pub ledgers_of_determined : Determined ledgers_of.ended ledgers_of_says
ledgers_of_determined = determined ledgers_of.ended ledgers_of_says (λ κs a r e. fact_of _) (λ κs a r r' ws ws' p p'. (p ∙ sym p', refl))

abbrev entered_says : Promise entered.ended
entered_says w = entered.clauses w.𝓛 w.𝓜.mem w.𝓡.run

pub entered_determined : Determined entered.ended entered_says
entered_determined = determined entered.ended entered_says (λ κs a r e. fact_of _) (λ κs a r r' ws ws' p p'. (one_paid _ _ _ _ r r' p p', refl))

abbrev close_says : Promise close.ended
close_says w = close.clauses w.𝓛 w.𝓜.mem w.𝓡.run

pub close_determined : Determined close.ended close_says
close_determined = determined close.ended close_says (λ κs a r e. fact_of _) (λ κs a r r' ws ws' p p'. (one_paid _ _ _ _ r r' p p', refl))

abbrev after_says : Promise after.ended
after_says w = after.clauses w.𝓛 w.𝓜.mem w.𝓡.run

pub after_determined : Determined after.ended after_says
after_determined = determined after.ended after_says (λ κs a r e. fact_of _) (λ κs a r r' ws ws' p p'. (p.is ∙ sym p'.is, refl))

abbrev share_after_says : Promise share_after.ended
share_after_says w = share_after.clauses w.𝓛 w.𝓜.mem w.𝓡.run

pub share_after_determined : Determined share_after.ended share_after_says
share_after_determined = determined share_after.ended share_after_says (λ κs a r e. fact_of _) (λ κs a r r' ws ws' p p'. (p ∙ sym p', refl))

abbrev once_at_says : Promise once_at.ended
once_at_says w = once_at.clauses w.𝓛 w.𝓜.mem w.𝓡.run

pub once_at_determined : Determined once_at.ended once_at_says
once_at_determined = determined once_at.ended once_at_says (λ κs a r e. fact_of _) (λ κs a r r' ws ws' p p'. (p ∙ sym p', refl))

abbrev pushed_says : Promise pushed.ended
pushed_says w = pushed.clauses w.𝓛 w.𝓜.mem w.𝓡.run

pub pushed_determined : Determined pushed.ended pushed_says
pushed_determined = determined pushed.ended pushed_says (λ κs a r e. fact_of _) (λ κs a r r' ws ws' p p'. (p ∙ sym p', refl))

-- ---- what stands where there is no entry yet
abbrev once_default_says : Promise once_default.ended
once_default_says w = once_default.clauses w.𝓛 w.𝓜.mem w.𝓡.run

pub once_default_determined : Determined once_default.ended once_default_says
once_default_determined = determined once_default.ended once_default_says (λ κs a r e. fact_of _) (λ κs a r r' ws ws' p p'. (once_never r p ∙ sym (once_never r' p'), refl))

abbrev noted_default_says : Promise noted_default.ended
noted_default_says w = noted_default.clauses w.𝓛 w.𝓜.mem w.𝓡.run

pub noted_default_determined : Determined noted_default.ended noted_default_says
noted_default_determined = determined noted_default.ended noted_default_says (λ κs a r e. fact_of _) (λ κs a r r' ws ws' p p'. (noted_never r p ∙ sym (noted_never r' p'), refl))

abbrev each_default_says : Promise each_default.ended
each_default_says w = each_default.clauses w.𝓛 w.𝓜.mem w.𝓡.run

pub each_default_determined : Determined each_default.ended each_default_says
each_default_determined = determined each_default.ended each_default_says (λ κs a r e. fact_of _) (λ κs a r r' ws ws' p p'. (each_never r p ∙ sym (each_never r' p'), refl))

abbrev noted_each_default_says : Promise noted_each_default.ended
noted_each_default_says w = noted_each_default.clauses w.𝓛 w.𝓜.mem w.𝓡.run

pub noted_each_default_determined : Determined noted_each_default.ended noted_each_default_says
noted_each_default_determined = determined noted_each_default.ended noted_each_default_says (λ κs a r e. fact_of _) (λ κs a r r' ws ws' p p'. (noted_each_never r p ∙ sym (noted_each_never r' p'), refl))

abbrev four_default_says : Promise four_default.ended
four_default_says w = four_default.clauses w.𝓛 w.𝓜.mem w.𝓡.run

pub four_default_determined : Determined four_default.ended four_default_says
four_default_determined = determined four_default.ended four_default_says (λ κs a r e. fact_of _) (λ κs a r r' ws ws' p p'. (four_never r p ∙ sym (four_never r' p'), refl))

abbrev latest_default_says : Promise latest_default.ended
latest_default_says w = latest_default.clauses w.𝓛 w.𝓜.mem w.𝓡.run

pub latest_default_determined : Determined latest_default.ended latest_default_says
latest_default_determined = determined latest_default.ended latest_default_says (λ κs a r e. fact_of _) (λ κs a r r' ws ws' p p'. (latest_never r p ∙ sym (latest_never r' p'), refl))

abbrev moves_default_says : Promise moves_default.ended
moves_default_says w = moves_default.clauses w.𝓛 w.𝓜.mem w.𝓡.run

pub moves_default_determined : Determined moves_default.ended moves_default_says
moves_default_determined = determined moves_default.ended moves_default_says (λ κs a r e. fact_of _) (λ κs a r r' ws ws' p p'. (moves_never r p ∙ sym (moves_never r' p'), refl))

abbrev bus_default_says : Promise bus_default.ended
bus_default_says w = bus_default.clauses w.𝓛 w.𝓜.mem w.𝓡.run

pub bus_default_determined : Determined bus_default.ended bus_default_says
bus_default_determined = determined bus_default.ended bus_default_says (λ κs a r e. fact_of _) (λ κs a r r' ws ws' p p'. (bus_never r p ∙ sym (bus_never r' p'), refl))

abbrev banks_default_says : Promise banks_default.ended
banks_default_says w = banks_default.clauses w.𝓛 w.𝓜.mem w.𝓡.run

pub banks_default_determined : Determined banks_default.ended banks_default_says
banks_default_determined = determined banks_default.ended banks_default_says (λ κs a r e. fact_of _) (λ κs a r r' ws ws' p p'. (banks_never r p ∙ sym (banks_never r' p'), refl))
