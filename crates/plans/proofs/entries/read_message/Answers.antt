-- One law for each number of parts. Assumes nothing.
use Rattle.plans.proofs.Sayings.{single_said, placed_said, pair_said, placed_pair_said, message_wrong}
use Rattle.std.proofs.Common.{arith, rules}
use Rattle.plans.proofs.entries.read_message.Goals as goal

pub returns-then-is_command : goal.returns-then-is_command
returns-then-is_command c =
    record { entry = search (pair_said, rules) }

pub returns-in-2 : goal.returns-in-2
returns-in-2 c =
    record {
      entry = single_said _ _ c.parts_behind.ensures.count _ _ c.part-first.ensures.bytes _ c.part-second.ensures.bytes _ c.part-third.ensures.bytes c.in-2.is
          c.single_of.ensures.entry;
    }

pub returns-else-is_command : goal.returns-else-is_command
returns-else-is_command c =
    record { entry = search (placed_said, rules) }

pub returns-in-4 : goal.returns-in-4
returns-in-4 c =
    record {
      entry = placed_pair_said _ _ c.parts_behind.ensures.count _ _ c.part-first.ensures.bytes _ c.part-second.ensures.bytes _ c.part-third.ensures.bytes _ c.part-in-4.ensures.bytes
          c.in-4.is c.pair_of-in-4.ensures.entry;
    }

pub returns-in_default : goal.returns-in_default
returns-in_default c = record { entry = message_wrong _ _ c.parts_behind.ensures.count (omega arith) (omega arith) (omega arith) }
