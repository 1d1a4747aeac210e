-- By whether it is withheld; the due time fits. Assumes nothing.
use mathlib.Core.Path.{sym, ◌∙◌}
use Rattle.words.proofs.Sums.{plus_fits}
use Rattle.terminal.specs.Settling.{answer_of}
use Rattle.terminal.proofs.Wrapped.{moment_is}
use Rattle.terminal.proofs.states.Terminal.answer.Goals as goal

pub returns-then-is_withheld : goal.returns-then-is_withheld
unfolding answer_of
returns-then-is_withheld c = record { answer = rw (sym c.is_withheld.ensures.answer ∙ c.if-is_withheld.true) }

pub returns : goal.returns
unfolding answer_of
returns c =
    record {
      answer = let a = c in
          rw (sym c.is_withheld.ensures.answer ∙ c.if-is_withheld.false, moment_is _ _ (c.plus-due.ensures.later ∙ plus_fits a.args.self.message.last.0 260 a.requires));
    }
