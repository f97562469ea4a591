use Rattle.std.proofs.Common.{sym, ◌∙◌, eq-eqb, ne_eqb}
use Rattle.rules.specs.Bits.{bits, on}
use Rattle.card.proofs.Found.{rl_in, wl_in, latency_found}
use Rattle.card.proofs.registers.latency_of.Goals as goal

pub returns-then-mr2-eq1 : goal.returns-then-mr2-eq1
unfolding rl_in wl_in on bits
returns-then-mr2-eq1 c =
    let q = latency_found _ _ (sym c.row_at.ensures ∙ c.in-Some.is) in
    (q.0, rw (eq-eqb _ _ c.if-mr2-eq1.true) at q.1)

pub returns-else-mr2-eq1 : goal.returns-else-mr2-eq1
unfolding rl_in wl_in on bits
returns-else-mr2-eq1 c =
    let q = latency_found _ _ (sym c.row_at.ensures ∙ c.in-Some.is) in
    (q.0, rw (ne_eqb _ _ c.if-mr2-eq1.false) at q.1)

pub returns-in-None : goal.returns-in-None
unfolding rl_in wl_in
returns-in-None c = latency_found _ _ (sym c.row_at.ensures ∙ c.in-None.is)
