-- A run over the entries of pins at the start of some bytes.
use Rattle.std.specs.Prelude.{ℕ, zero, suc, ◌+◌, Bool, cond, ◌&&◌, List, drop, is_some, unwrap_or}
use Rattle.rules.specs.Commands.{NOP, is}
use Rattle.rules.specs.Entries.{Entry, entry}
use Rattle.rules.specs.Lent.{command_in, effect_in, step_refusal}
use Rattle.pins.specs.declared.Front.{Front}
use Rattle.pins.specs.Fronts.{front_as, front_of}
use Rattle.ledger.specs.Values.{is_none}
use Rattle.bank.specs.Values.{lent_of}
use Rattle.bank.specs.declared.Record.{Record}
use Rattle.step.specs.declared.Ran.{Ran}
use Rattle.step.specs.Values.{record_with}

-- the numbers of the entry field at the start of these bytes; 0 where there is none
abbrev pub front_at : List ℕ → Front
front_at bs = unwrap_or (front_of bs) (front_as 0 0)

abbrev pub entry_at : List ℕ → Entry
entry_at bs = entry (front_at bs).stamp (front_at bs).pins

-- an entry of pins stands at the start of these bytes, and is taken. A record that 13 refuses takes none
unfoldable pub takes : Record → List ℕ → Bool
takes rec bs = is_some (front_of bs) && is_none (step_refusal (lent_of rec) (entry_at bs))

-- what an entry adds to the counts: every command but NOP, and every counted refresh
unfoldable pub commands_by : Record → Entry → ℕ
commands_by rec e = cond (is NOP (command_in (lent_of rec) e)) 0 1

unfoldable pub refreshes_by : Record → Entry → ℕ
refreshes_by rec e = cond (effect_in (lent_of rec) e).counted 1 0

abbrev pub ran : {R : Type 0} → R → (used commands refreshes : ℕ) → Ran R
ran rec used commands refreshes = record { rec = rec; used = used; commands = commands; refreshes = refreshes }

-- so much before what was run
abbrev pub behind : {R : Type 0} → (used commands refreshes : ℕ) → Ran R → Ran R
behind used commands refreshes r = ran r.rec (used + r.used) (commands + r.commands) (refreshes + r.refreshes)

-- at most so many entries, up to the first that is not taken: the record then, the bytes of those that were, and their counts
unfoldable pub run_of : (most : ℕ) → Record → List ℕ → Ran Record
run_of zero rec bs = ran rec 0 0 0
run_of (suc n) rec bs =
    let e = entry_at bs in
    cond (takes rec bs) (behind 10 (commands_by rec e) (refreshes_by rec e) (run_of n (record_with rec e) (drop 10 bs))) (ran rec 0 0 0)
