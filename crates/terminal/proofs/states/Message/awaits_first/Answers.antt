-- By the phase. Assumes nothing.
use mathlib.Core.Path.{refl}
use Rattle.terminal.specs.declared.states.Phase.TheVariants.{Idle, First, Pledged, Confirmed, Data}
use Rattle.terminal.proofs.Moments.{first_at_lem}
use Rattle.terminal.proofs.states.Message.awaits_first.Goals as goal

pub returns-in-Idle : goal.returns-in-Idle
returns-in-Idle c = record { answer = first_at_lem _ Idle _ c.in-Idle.is refl }

pub returns-in-First : goal.returns-in-First
returns-in-First c = record { answer = first_at_lem _ First _ c.in-First.is refl }

pub returns-in-Pledged : goal.returns-in-Pledged
returns-in-Pledged c = record { answer = first_at_lem _ (Pledged _) _ c.in-Pledged.is refl }

pub returns-in-Confirmed : goal.returns-in-Confirmed
returns-in-Confirmed c = record { answer = first_at_lem _ Confirmed _ c.in-Confirmed.is c.awaits_data.ensures.answer }

pub returns-in-Data : goal.returns-in-Data
returns-in-Data c = record { answer = first_at_lem _ Data _ c.in-Data.is refl }
