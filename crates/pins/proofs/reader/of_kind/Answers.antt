use Rattle.rules.specs.Pins.{of_kind}
use Rattle.pins.specs.Table.{kind_with}
use Rattle.pins.specs.Values.{command_of, decoded_of}
use Rattle.pins.proofs.Places.{gathers}
use Rattle.pins.proofs.reader.of_kind.Goals as goal

pub returns-in-5 : goal.returns-in-5
unfolding decoded_of command_of of_kind kind_with
returns-in-5 c = let g = gathers c.args.pins in cc

pub returns-in-6 : goal.returns-in-6
unfolding decoded_of command_of of_kind kind_with
returns-in-6 c = let g = gathers c.args.pins in cc

pub returns-in-7 : goal.returns-in-7
unfolding decoded_of command_of of_kind kind_with
returns-in-7 c = let g = gathers c.args.pins in cc

pub returns-in-8 : goal.returns-in-8
unfolding decoded_of command_of of_kind kind_with
returns-in-8 c = let g = gathers c.args.pins in cc
