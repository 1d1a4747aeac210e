-- By whether it is withheld; the due time fits. Assumes nothing.
use mathlib.Core.Path.{sym, ◌∙◌}
use Rattle.words.proofs.Sums.{plus_fits}
use Rattle.terminal.specs.Settling.{sending_of}
use Rattle.terminal.proofs.Wrapped.{moment_is}
use Rattle.terminal.proofs.states.Terminal.sending.Goals as goal

pub returns-then-is_withheld : goal.returns-then-is_withheld
unfolding sending_of
returns-then-is_withheld c = record { sending = rw (sym c.is_withheld.ensures.answer ∙ c.if-is_withheld.true) }

pub returns : goal.returns
unfolding sending_of
returns c =
    record {
      sending = let a = c in
          rw (sym c.is_withheld.ensures.answer ∙ c.if-is_withheld.false, moment_is _ _ (c.plus-from.ensures.later ∙ plus_fits a.args.self.message.last.0 260 a.requires.due_distance_bound));
    }
