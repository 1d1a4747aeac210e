-- Document 01, "The terminal": the state, and what fresh means. A set-up, what the host sets, what is held, a message and a state are written out
-- whole here and nowhere else; all others say what they change of one. Assumes nothing.
use Rattle.std.specs.Prelude.{ℕ, ◌+◌, Bool, false, cond, List, [], ◌∷◌, set, replicate, Option, Some, None}
use Rattle.words.specs.Words.{status_of}
use Rattle.words.specs.declared.commands.CommandWord.{CommandWord}
use Rattle.words.specs.declared.statuses.StatusWord.{StatusWord}
use Rattle.words.specs.declared.times.Moment.{Moment}
use Rattle.terminal.specs.Messages.{next_moment_of}
use Rattle.terminal.specs.declared.states.Own.{Own}
use Rattle.terminal.specs.declared.states.Setup.{Setup}
use Rattle.terminal.specs.declared.states.Host.{Host}
use Rattle.terminal.specs.declared.states.SpacingFault.{SpacingFault}
use Rattle.terminal.specs.declared.states.SpacingFault.TheVariants.{Overlapping, Separated}
use Rattle.terminal.specs.declared.states.Held.{Held}
use Rattle.terminal.specs.declared.states.Phase.{Phase}
use Rattle.terminal.specs.declared.states.Phase.TheVariants.{Idle}
use Rattle.terminal.specs.declared.states.Message.{Message}
use Rattle.terminal.specs.declared.states.Sending.{Sending}
use Rattle.terminal.specs.declared.states.Terminal.{Terminal}

-- ---- what set-up gives

-- "Set up with an own address .. and two tables of 32 masks"
abbrev pub own_of : ℕ → Own
own_of address = record { address = address }

abbrev pub setup_of : Own → List ℕ → List ℕ → Setup
setup_of own receive transmit = record { receive = receive; transmit = transmit; own = own }

-- ---- what the host sets

abbrev pub host_of : Bool → Bool → Bool → Bool → ℕ → ℕ → Host
host_of service busy subsystem defect vectorword bitword =
    record { vectorword = vectorword; bitword = bitword; service = service; busy = busy; subsystem = subsystem; defect = defect }

-- "host flags off, vector and BIT words 0"
abbrev pub fresh_host : Host
fresh_host = host_of false false false false 0 0

-- one of the flags, or the vector or BIT word
abbrev pub with_service : Host → Bool → Host
with_service h on = host_of on h.busy h.subsystem h.defect h.vectorword h.bitword

abbrev pub with_busy : Host → Bool → Host
with_busy h on = host_of h.service on h.subsystem h.defect h.vectorword h.bitword

abbrev pub with_subsystem : Host → Bool → Host
with_subsystem h on = host_of h.service h.busy on h.defect h.vectorword h.bitword

abbrev pub with_terminal_fault : Host → Bool → Host
with_terminal_fault h on = host_of h.service h.busy h.subsystem on h.vectorword h.bitword

abbrev pub with_vector_word : Host → ℕ → Host
with_vector_word h word = host_of h.service h.busy h.subsystem h.defect word h.bitword

abbrev pub with_bit_word : Host → ℕ → Host
with_bit_word h word = host_of h.service h.busy h.subsystem h.defect h.vectorword word

-- ---- what is held: stored status, last command, sync word, self-test request, terminal flag inhibited, transmitters shut down, and whether the last
-- spacing fault was overlapping or separated (02 i)

abbrev pub held_of : StatusWord → CommandWord → ℕ → Bool → Bool → List Bool → Bool → Bool → Held
held_of status command syncword selftest inhibit shut overlapping separated = record {
  status = status;
  command = command;
  syncword = syncword;
  selftest = selftest;
  inhibit = inhibit;
  shut = shut;
  overlapping = overlapping;
  separated = separated;
}

-- "Fresh: transmitters on, nothing inhibited, status the own address, last command 0, sync word 0, no self-test request, .."; "(fresh: none)" (02 i)
abbrev pub fresh_held : Own → Held
fresh_held own = held_of (record { 0 = status_of own.address 0 }) (record { 0 = 0 }) 0 false false (false ∷ false ∷ []) false false

abbrev pub with_status : Held → ℕ → Held
with_status h status = held_of (record { 0 = status }) h.command h.syncword h.selftest h.inhibit h.shut h.overlapping h.separated

abbrev pub with_command : Held → ℕ → Held
with_command h word = held_of h.status (record { 0 = word }) h.syncword h.selftest h.inhibit h.shut h.overlapping h.separated

abbrev pub with_sync_word : Held → ℕ → Held
with_sync_word h word = held_of h.status h.command word h.selftest h.inhibit h.shut h.overlapping h.separated

abbrev pub with_selftest : Held → Bool → Held
with_selftest h on = held_of h.status h.command h.syncword on h.inhibit h.shut h.overlapping h.separated

abbrev pub with_inhibit : Held → Bool → Held
with_inhibit h on = held_of h.status h.command h.syncword h.selftest on h.shut h.overlapping h.separated

abbrev pub with_shut : Held → ℕ → Bool → Held
with_shut h bus on = held_of h.status h.command h.syncword h.selftest h.inhibit (set h.shut bus on) h.overlapping h.separated

abbrev pub with_spacing : Held → Bool → Bool → Held
with_spacing h overlapping separated = held_of h.status h.command h.syncword h.selftest h.inhibit h.shut overlapping separated

-- "the kind of its last spacing fault .. for the host to read" (02 i)
unfoldable pub spacing_in : Held → Option SpacingFault
spacing_in h = cond h.overlapping (Some Overlapping) (cond h.separated (Some Separated) None)

-- ---- the message under way: what it awaits, its bus, its command and the time of that, the time of its last word, its data words so far and their
-- number

abbrev pub message_of : Phase → ℕ → CommandWord → Moment → Moment → ℕ → List ℕ → Message
message_of phase bus command start last got words =
    record { start = start; last = last; got = got; words = words; command = command; phase = phase; bus = bus }

-- "no message"
abbrev pub no_message : Message
no_message = message_of Idle 0 (record { 0 = 0 }) (record { 0 = 0 }) (record { 0 = 0 }) 0 (replicate 32 0)

-- in another phase, its last word then
abbrev pub at_phase : Message → Phase → Moment → Message
at_phase m phase last = message_of phase m.bus m.command m.start last m.got m.words

-- with one data word more, at its own place
abbrev pub with_word : Message → ℕ → Message
with_word m word = message_of m.phase m.bus m.command m.start m.last (m.got + 1) (set m.words m.got word)

-- ---- the answer that is being sent

-- "no sending"
abbrev pub no_sending : Option Sending
no_sending = None

-- ---- a state

abbrev pub state_of : Setup → Host → Held → Message → Option Sending → ℕ → Option Moment → Terminal
state_of setup host held message sending time next = record {
  message = message;
  sending = sending;
  time = record { 0 = time };
  next = next;
  setup = setup;
  host = host;
  held = held;
}

-- "Fresh: .., no message, no sending but that of code 8's own answer. Set-up gives it with host flags off, vector and BIT words 0, last time 0." With no
-- message there is no next moment (02 e).
abbrev pub fresh_of : Setup → Terminal
fresh_of setup = state_of setup fresh_host (fresh_held setup.own) no_message no_sending 0 None

-- "Host calls set the flags (service request, busy, subsystem, terminal fault), vector and BIT words, .."
abbrev pub with_host : Terminal → Host → Terminal
with_host s host = state_of s.setup host s.held s.message s.sending s.time.0 s.next

abbrev pub with_held : Terminal → Held → Terminal
with_held s held = state_of s.setup s.host held s.message s.sending s.time.0 s.next

-- With another next moment alone: only Works.antt, which follows the code's own fields, asks for it.
abbrev pub with_next : Terminal → Option Moment → Terminal
with_next s next = state_of s.setup s.host s.held s.message s.sending s.time.0 next

-- "Store it in the terminal's state and have every event, host call, restart and refusal leave it equal to what document 01 would work out." (02 e): the
-- rules and calls that change the message do it by this, and set it with the message; those that leave the message leave it.
abbrev pub with_message : Terminal → Message → Terminal
with_message s message = state_of s.setup s.host s.held message s.sending s.time.0 (next_moment_of message)

abbrev pub with_sending : Terminal → Option Sending → Terminal
with_sending s sending = state_of s.setup s.host s.held s.message sending s.time.0 s.next

-- The state at a time.
abbrev pub at_time : Terminal → ℕ → Terminal
at_time s t = state_of s.setup s.host s.held s.message s.sending t s.next

-- "The host may ask for the next moment": what is kept.
unfoldable pub moment_in : Terminal → Option Moment
moment_in s = s.next
