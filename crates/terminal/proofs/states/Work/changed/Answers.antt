-- By the meaning. Assumes nothing.
use mathlib.Core.Path.{refl, ap}
use native.Mathlib.Omega.{arith}
use Rattle.terminal.specs.Rules.{moved_of, staged_of}
use Rattle.terminal.specs.Works.{changed_of}
use Rattle.terminal.specs.declared.rules.Meaning.TheVariants.{Ignored, Begins, SecondCommand, Status, DataWord, Faulty, Nothing}
use Rattle.terminal.proofs.Meanings.{at_meaning}
use Rattle.terminal.specs.declared.states.Message.{Message}
use Rattle.terminal.proofs.states.Work.changed.Goals as goal

pub with_word-requires : goal.with_word-requires
with_word-requires c = omega (arith, c.requires c.in-DataWord.is, ap (λ (m : Message). m.got) c.at_phase-moved.ensures.message)

pub returns-in-Ignored : goal.returns-in-Ignored
unfolding changed_of
returns-in-Ignored c = record { work = at_meaning _ _ _ Ignored _ c.in-Ignored.is refl }

pub returns-in-Begins : goal.returns-in-Begins
unfolding changed_of
returns-in-Begins c = record { work = at_meaning _ _ _ Begins _ c.in-Begins.is c.begun.ensures.work }

pub returns-in-SecondCommand : goal.returns-in-SecondCommand
unfolding changed_of moved_of
returns-in-SecondCommand c = record { work = at_meaning _ _ _ SecondCommand _ c.in-SecondCommand.is (rw (c.with_message.ensures.work, c.at_phase.ensures.message, c.address-partner.ensures.field) refl) }

pub returns-in-Status : goal.returns-in-Status
unfolding changed_of moved_of
returns-in-Status c = record { work = at_meaning _ _ _ Status _ c.in-Status.is (rw (c.with_message-in-Status.ensures.work, c.at_phase-in-Status.ensures.message) refl) }

pub returns-in-DataWord : goal.returns-in-DataWord
unfolding changed_of staged_of
returns-in-DataWord c = record { work = at_meaning _ _ _ DataWord _ c.in-DataWord.is (rw (c.with_message-in-DataWord.ensures.work, c.with_word.ensures.message, c.at_phase-moved.ensures.message) refl) }

pub returns-in-Faulty : goal.returns-in-Faulty
unfolding changed_of
returns-in-Faulty c = record { work = at_meaning _ _ _ Faulty _ c.in-Faulty.is (rw (c.faulty.ensures.work, c.spacing_fault.ensures.fault) refl) }

pub returns-in-Nothing : goal.returns-in-Nothing
unfolding changed_of
returns-in-Nothing c = record { work = at_meaning _ _ _ Nothing _ c.in-Nothing.is refl }
