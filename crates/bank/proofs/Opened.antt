-- Named by the files of the code: what unfolds one of these unfolds all that it names.
use Prim.Native.Nat.{ℕ}
use Rattle.rules.specs.Commands.{code, is, kind_of, carries, bare, bank_of, ap_of}
use Rattle.rules.specs.Levels.{depth, same_level, is_fall, rises_from}
use Rattle.rules.specs.Past.{writes_ma, register_after, mr2_after, bank_at}
use Rattle.pins.specs.Values.{command_of, level_of, moved_of}
use Rattle.bank.specs.Values.{never, never_noted, never_each, never_noted_each, never_four, idle_bus, fresh_share, fresh_of}
use Rattle.bank.specs.After.{once_if, noted_if, each_if, noted_each_if, pushed_on, modes_after, four_after, latest_after, moves_after, bus_after, shuts, opened_after, stamped_after, banks_after, share_after}

-- the record before the first entry
unfoldable pub fresh : ℕ
unfolding never never_noted never_each never_noted_each never_four idle_bus fresh_share fresh_of
fresh = 0

-- what an entry changes
unfoldable pub taking : ℕ
unfolding modes_after four_after latest_after moves_after bus_after opened_after stamped_after banks_after share_after pushed_on once_if noted_if each_if noted_each_if shuts writes_ma register_after mr2_after bank_at bank_of ap_of is code kind_of carries bare command_of is_fall rises_from same_level depth moved_of level_of
taking = 0
