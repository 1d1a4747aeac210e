-- What waits after the rest of the name is what waits after all of it. Assumes nothing.
use mathlib.Core.Path.{◌≡◌}
use lib.ListN.{drop}
use Rattle.lines.specs.Sinks.{Goes}
use Rattle.lines.specs.Names.{place_after_name, block_after_name}
use Rattle.lines.proofs.sinks.Sink.put_name.Given as goal

abbrev pub invariant-loop-byte : goal.invariant-loop-byte
invariant-loop-byte l = record {
  place : place_after_name l.after.at (drop l.byte-index l.name) ≡ place_after_name l.initial.after.at l.name;
  block : block_after_name l.block l.after.at (drop l.byte-index l.name) ≡ block_after_name l.initial.block l.initial.after.at l.name;
  goes : Goes l.initial.after l.after;
}
