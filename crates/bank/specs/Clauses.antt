-- Refusal 13 of what a record remembers, field by field: its stamps, and the MR2 values beside them.
use Rattle.std.specs.Prelude.{ℕ, Bool, true, false, cond, ◌&&◌, List, get_or, Option, Some, None}
use Rattle.std.specs.Bool.{then_some}
use Rattle.rules.specs.Lists.{all}
use Rattle.rules.specs.Commands.{banks}
use Rattle.rules.specs.Registers.{mr2_good}
use Rattle.rules.specs.Lent.{not_above}
use Rattle.card.specs.declared.Modes.{Modes}
use Rattle.bank.specs.declared.Once.{Once}
use Rattle.bank.specs.declared.Each.{Each}
use Rattle.bank.specs.declared.NotedEach.{NotedEach}
use Rattle.bank.specs.declared.Four.{Four}
use Rattle.bank.specs.declared.Latest.{Latest}
use Rattle.bank.specs.declared.Moves.{Moves}
use Rattle.bank.specs.declared.Bus.{Bus}
use Rattle.bank.specs.declared.Banks.{Banks}
use Rattle.bank.specs.Values.{no_modes, last_of, four}

-- a stamp, if it is there, is not above the last entry's
unfoldable pub kept_by : Once → Bool → ℕ → Bool
kept_by last s t = cond s (not_above (last_of last) t) true

-- the same, where the stamp is there or None
unfoldable pub kept_at : Once → Option ℕ → Bool
kept_at last None = true
kept_at last (Some t) = not_above (last_of last) t

unfoldable pub stamp_at : Each → ℕ → Option ℕ
stamp_at x b = then_some (get_or x.seen b false) (get_or x.at b 0)

abbrev pub stamps_of : NotedEach → Each
stamps_of x = record { seen = x.seen; at = x.at }

unfoldable pub each_by : Once → List Bool → List ℕ → Bool
each_by last s t = all (λ b. kept_by last (get_or s b false) (get_or t b 0)) banks

unfoldable pub four_by : Once → Four → Bool
four_by last x = all (λ f. not_above (last_of last) f.stamp) (four x)

unfoldable pub latest_by : Once → Latest → Bool
latest_by last x =
    kept_by last x.mrw.seen x.mrw.at &&
    kept_by last x.mrr.seen x.mrr.at &&
    kept_by last x.refab.seen x.refab.at &&
    kept_by last x.refpb.seen x.refpb.at

unfoldable pub moves_by : Once → Moves → Bool
moves_by last x =
    kept_by last x.fall.seen x.fall.at &&
    kept_by last x.power_exit.seen x.power_exit.at &&
    kept_by last x.self_exit.seen x.self_exit.at

unfoldable pub rows_by : Once → Banks → Once → Bool
rows_by last x a =
    each_by last x.refpb.seen x.refpb.at &&
    (each_by last x.pre.seen x.pre.at && kept_by last a.seen a.at) &&
    each_by last x.act.seen x.act.at

unfoldable pub bus_by : Once → Bus → Bool
bus_by last x = kept_by last x.rd.seen x.rd.at && kept_by last x.wr.seen x.wr.at && kept_by last x.turn.seen x.turn.at

unfoldable pub data_by : Once → Banks → Bool
data_by last x =
    each_by last x.rd.seen x.rd.at &&
    each_by last x.rda.seen x.rda.at &&
    each_by last x.wr.seen x.wr.at &&
    each_by last x.wra.seen x.wra.at

-- an MR2 value, if it is there, is one that MRW may write
unfoldable pub note_good : (period : ℕ) → Bool → ℕ → Bool
note_good p s n = cond s (mr2_good p n) true

unfoldable pub note_at : (period : ℕ) → Option ℕ → Bool
note_at p None = true
note_at p (Some n) = mr2_good p n

unfoldable pub mr2_at : NotedEach → ℕ → Option ℕ
mr2_at x b = then_some (get_or x.seen b false) (get_or x.modes b no_modes).mr2

unfoldable pub notes_good : (period : ℕ) → List Bool → List Modes → Bool
notes_good p s m = all (λ b. note_good p (get_or s b false) (get_or m b no_modes).mr2) banks
