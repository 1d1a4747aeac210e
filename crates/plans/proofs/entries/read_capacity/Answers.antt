-- One law for each number of parts. Assumes nothing.
use Rattle.plans.proofs.Sayings.{capacities_said, capacity_said, capacity_wrong}
use Rattle.std.proofs.Common.{arith}
use Rattle.plans.proofs.entries.read_capacity.Goals as goal

pub returns-in-1 : goal.returns-in-1
returns-in-1 c = record { entry = capacities_said _ _ c.parts_behind.ensures.count _ _ c.part.ensures.bytes c.in-1.is c.capacities_of.ensures.entry }

pub returns-in-2 : goal.returns-in-2
returns-in-2 c = record { entry = capacity_said _ _ c.parts_behind.ensures.count _ _ c.part-in-2.ensures.bytes _ c.part-in-2-2.ensures.bytes c.in-2.is c.capacity_of.ensures.entry }

pub returns-in_default : goal.returns-in_default
returns-in_default c = record { entry = capacity_wrong _ _ c.parts_behind.ensures.count (omega arith) (omega arith) }
