-- The mark, the kind, and no message. Assumes nothing.
use Rattle.terminal.specs.Rules.{faulty_of}
use Rattle.terminal.proofs.states.Work.faulty.Goals as goal

pub returns : goal.returns
unfolding faulty_of
returns c = record { work = rw (c.build.ensures.work, c.none-message.ensures.message, c.kept-held.ensures.held, c.marked-marked.ensures.held) }
