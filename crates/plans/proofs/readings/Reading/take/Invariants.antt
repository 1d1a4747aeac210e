-- What is left of the chunk, fed to the reading so far, comes to what all of it does. Assumes nothing.
use Rattle.std.proofs.Common.{◌≡◌, true, drop}
use Rattle.plans.specs.Machine.{reading_with, fed_of}
use Rattle.plans.proofs.readings.Reading.take.Given as goal

abbrev pub invariant-loop-byte : goal.invariant-loop-byte
invariant-loop-byte l = fed_of (reading_with l.draft l.gathering true) (drop l.byte-index l.chunk) ≡ fed_of (reading_with l.initial.draft l.initial.gathering true) l.chunk
