-- The kind of the last spacing fault, told call by call, each of the terminal that it meets (02 i). Assumes nothing.
use Rattle.std.specs.Prelude.{◌≡◌, ℕ, Bool, cond, ◌&&◌, List, [], ◌∷◌, eqb, Option, Some, None}
use Rattle.words.specs.Words.{code_of, is_mode}
use Rattle.terminal.specs.Commands.{is_legal}
use Rattle.terminal.specs.Messages.{is_due}
use Rattle.terminal.specs.Events.{time_of}
use Rattle.terminal.specs.declared.states.SpacingFault.{SpacingFault}
use Rattle.terminal.specs.declared.states.SpacingFault.TheVariants.{Overlapping, Separated}
use Rattle.terminal.specs.declared.states.Terminal.{Terminal as State}
use Rattle.terminal.specs.declared.events.Event.{Event}
use Rattle.history.specs.Calls.{Call, set_up, event, host, clear_selftest, restart, is_accepted, is_set_up, step}
use Rattle.history.specs.States.{EventFault, no_fault, a_fault, fault_of}

-- What a call does to the kind: nothing, or it sets it, to none where it makes the terminal fresh.
pub data Change : Type 0 where
  leaves : Change
  sets : Option SpacingFault → Change

-- "keeps the kind of its last spacing fault" (02 i): a fault of another cause leaves it (DECISIONS 74)
abbrev pub by_fault : EventFault → Change
by_fault no_fault = leaves
by_fault (a_fault None) = leaves
by_fault (a_fault (Some Overlapping)) = sets (Some Overlapping)
by_fault (a_fault (Some Separated)) = sets (Some Separated)

-- the message under way is of a legal code 8, which makes the terminal fresh once it is settled
abbrev pub is_reset : State → Bool
is_reset s = is_legal s.setup s.message.command.0 && is_mode s.message.command.0 && eqb (code_of s.message.command.0) 8

-- an accepted event settles such a message, or shows a fault, or does neither
abbrev pub by_event : State → Event → List ℕ → Change
by_event s e transmit = cond (is_due s.message (time_of e) && is_reset s) (sets None) (by_fault (fault_of s e transmit))

-- "(fresh: none)" (02 i): a set-up, a restart and a settled legal code 8 (DECISIONS 74)
abbrev pub change_by : State → Call → Change
change_by s (set_up address receive transmit) = cond (is_set_up address receive transmit) (sets None) leaves
change_by s (event e receive transmit) = cond (is_accepted s e receive transmit) (by_event s e transmit) leaves
change_by s (host setting) = leaves
change_by s clear_selftest = leaves
change_by s restart = sets None

-- the kind after a call, and after a list of calls
abbrev pub after_change : Option SpacingFault → Change → Option SpacingFault
after_change kind leaves = kind
after_change kind (sets other) = other

abbrev pub last_kind : State → Option SpacingFault → List Call → Option SpacingFault
last_kind s kind [] = kind
last_kind s kind (k ∷ ks) = last_kind (step s k) (after_change kind (change_by s k)) ks

-- calls that do nothing to it
abbrev pub AllLeaveKind : State → List Call → Type 0
AllLeaveKind s [] = Unit {0}
AllLeaveKind s (k ∷ ks) = (change_by s k ≡ leaves) × AllLeaveKind (step s k) ks
