-- Line behind line, each in its place, up to the last message. Assumes nothing.
use mathlib.Core.Path.{◌≡◌}
use lib.ListN.{length}
use Rattle.texts.proofs.Lines.{Messages}
use Rattle.texts.proofs.writings.spell_messages.Given as goal

abbrev pub invariant-loop-i : goal.invariant-loop-i
invariant-loop-i l = Messages l.initial.block l.initial.place l.fn.schedule.messages l.fn.schedule.count l.firsts l.block l.place l.i × (length l.fn.schedule.messages ≡ 64) × (length l.firsts ≡ 64)
