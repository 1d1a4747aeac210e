-- By the phase, then by the test of that phase. Assumes nothing.
use mathlib.Core.Path.{refl, sym, ◌∙◌}
use Rattle.terminal.specs.Works.{word_meaning}
use Rattle.terminal.specs.declared.states.Phase.TheVariants.{Idle, First, Pledged, Confirmed, Data}
use Rattle.terminal.proofs.Meanings.{at_phase_lem}
use Rattle.terminal.proofs.states.Message.word_meaning.Goals as goal

pub returns-in-Idle : goal.returns-in-Idle
unfolding word_meaning
returns-in-Idle c = record { meaning = at_phase_lem _ _ _ Idle _ c.in-Idle.is refl }

pub returns-in-Data : goal.returns-in-Data
unfolding word_meaning
returns-in-Data c = record { meaning = at_phase_lem _ _ _ Data _ c.in-Data.is c.data_meaning.ensures.meaning }

pub returns-in-Confirmed : goal.returns-in-Confirmed
unfolding word_meaning
returns-in-Confirmed c = record { meaning = at_phase_lem _ _ _ Confirmed _ c.in-Confirmed.is c.data_meaning-in-Confirmed.ensures.meaning }

pub returns-then-is_second : goal.returns-then-is_second
unfolding word_meaning
returns-then-is_second c = record { meaning = at_phase_lem _ _ _ First _ c.in-First.is (rw (sym c.is_second.ensures.answer ∙ c.if-is_second.true) refl) }

pub returns-else-is_second : goal.returns-else-is_second
unfolding word_meaning
returns-else-is_second c = record { meaning = at_phase_lem _ _ _ First _ c.in-First.is (rw (sym c.is_second.ensures.answer ∙ c.if-is_second.false) c.data_meaning-else-is_second.ensures.meaning) }

pub returns-then-is_status_from : goal.returns-then-is_status_from
unfolding word_meaning
returns-then-is_status_from c = record { meaning = at_phase_lem _ _ _ (Pledged _) _ c.in-Pledged.is (rw (sym c.is_status_from.ensures.answer ∙ c.if-is_status_from.true) refl) }

pub returns-else-is_status_from : goal.returns-else-is_status_from
unfolding word_meaning
returns-else-is_status_from c = record { meaning = at_phase_lem _ _ _ (Pledged _) _ c.in-Pledged.is (rw (sym c.is_status_from.ensures.answer ∙ c.if-is_status_from.false) refl) }
