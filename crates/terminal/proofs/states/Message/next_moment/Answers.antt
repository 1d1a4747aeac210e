-- By whether all words have come, or else by the phase. Assumes nothing.
use mathlib.Core.Path.{refl, sym, ◌∙◌}
use Rattle.terminal.specs.Messages.{next_moment_of}
use Rattle.terminal.specs.declared.states.Phase.TheVariants.{Idle, First, Pledged, Confirmed, Data}
use Rattle.terminal.proofs.Wrapped.{moment_is}
use Rattle.terminal.proofs.Moments.{at_phase_lem}
use Rattle.terminal.proofs.states.Message.next_moment.Goals as goal

pub returns-then-is_whole : goal.returns-then-is_whole
unfolding next_moment_of
returns-then-is_whole c = record { next = rw (sym c.is_whole.ensures.answer ∙ c.if-is_whole.true, moment_is _ _ c.plus.ensures.later) }

pub returns-in-Idle : goal.returns-in-Idle
returns-in-Idle c =
    record {
      next = at_phase_lem _ Idle _ (sym c.is_whole.ensures.answer ∙ c.if-is_whole.false) c.in-Idle.is
          refl;
    }

pub returns-in-First : goal.returns-in-First
returns-in-First c =
    record {
      next = at_phase_lem _ First _ (sym c.is_whole.ensures.answer ∙ c.if-is_whole.false) c.in-First.is
          (rw (moment_is _ _ c.plus-late.ensures.later) refl);
    }

pub returns-in-Pledged : goal.returns-in-Pledged
returns-in-Pledged c =
    record {
      next = at_phase_lem _ (Pledged _) _ (sym c.is_whole.ensures.answer ∙ c.if-is_whole.false) c.in-Pledged.is
          (rw (moment_is _ _ c.plus-overdue.ensures.later) refl);
    }

pub returns-in-Confirmed : goal.returns-in-Confirmed
returns-in-Confirmed c =
    record {
      next = let b = c in
          at_phase_lem _ Confirmed _ (sym b.is_whole.ensures.answer ∙ b.if-is_whole.false) b.in-Confirmed.is
          (rw (moment_is _ _ c.earlier.ensures.moment, b.plus-late.ensures.later, b.plus-overdue.ensures.later) refl);
    }

pub returns-in-Data : goal.returns-in-Data
returns-in-Data c =
    record {
      next = at_phase_lem _ Data _ (sym c.is_whole.ensures.answer ∙ c.if-is_whole.false) c.in-Data.is
          (rw (moment_is _ _ c.plus-late.ensures.later) refl);
    }
