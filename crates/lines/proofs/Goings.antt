-- A sink goes on from call to call. Assumes nothing.
use mathlib.Core.Path.{◌∙◌}
use Rattle.lines.specs.declared.sinks.Sink.{Sink}
use Rattle.lines.specs.Sinks.{Goes}

pub goes_then : {first second third : Sink} → Goes first second → Goes second third → Goes first third
goes_then p q = record { file = q.file ∙ p.file; stays = λ h. q.stays (p.stays h) }
