-- Document 01, "The terminal": "At an event of time t, in this order", rules 1 to 6. Assumes nothing.
use Rattle.std.specs.Prelude.{ℕ, ◌+◌, Bool, true, false, not, cond, ◌&&◌, List, eqb, replicate, Option, Some, None}
use Rattle.words.specs.Words.{spacing_most, spacing_of, address_of, code_of, is_transmit, is_mode, is_broadcast, status_of, with_flag}
use Rattle.words.specs.declared.times.Spacing.{Spacing}
use Rattle.words.specs.declared.times.Spacing.TheVariants as spacing
use Rattle.words.specs.declared.statuses.Flag.TheVariants.{MessageError, BroadcastReceived}
use Rattle.records.specs.declared.forms.WordRecord.{WordRecord}
use Rattle.terminal.specs.States.{with_status, with_command, with_spacing, message_of, no_message, at_phase, with_word, no_sending, with_held, with_message, with_sending}
use Rattle.terminal.specs.Commands.{is_own, is_exempt}
use Rattle.terminal.specs.Messages.{is_on, awaits_data, is_due, is_overdue, is_over, is_sending, is_next_data, is_second, is_status_from}
use Rattle.terminal.specs.Settling.{other_bus, settled_status, reply_of, no_answer, answer_of, sending_of, stored_of}
use Rattle.terminal.specs.Effects.{held_after}
use Rattle.terminal.specs.declared.states.Own.{Own}
use Rattle.terminal.specs.declared.states.SpacingFault.{SpacingFault}
use Rattle.terminal.specs.declared.states.SpacingFault.TheVariants.{Overlapping, Separated}
use Rattle.terminal.specs.declared.states.Held.{Held}
use Rattle.terminal.specs.declared.states.Phase.{Phase}
use Rattle.terminal.specs.declared.states.Phase.TheVariants.{Idle, First, Pledged, Confirmed, Data}
use Rattle.terminal.specs.declared.states.Message.{Message}
use Rattle.terminal.specs.declared.states.Terminal.{Terminal as State}
use Rattle.terminal.specs.declared.answers.Answer.{Answer}
use Rattle.terminal.specs.declared.answers.Reply.{Reply}

-- ---- "1. A message whose due time is at most t is settled."

-- the status and the data words of its answer
abbrev pub status_now : State → ℕ
status_now s = settled_status s s.message.command.0

abbrev pub reply_now : State → List ℕ → Reply
reply_now s transmit = reply_of s s.message.command.0 transmit

-- the answer that it carries, the receive table after it, the state after it
unfoldable pub rule1_answer : State → ℕ → List ℕ → Option Answer
rule1_answer s t transmit = cond (is_due s.message t) (answer_of s (status_now s) (reply_now s transmit)) no_answer

unfoldable pub rule1_receive : State → ℕ → List ℕ → List ℕ
rule1_receive s t receive = cond (is_due s.message t) (stored_of s receive) receive

-- "8 does not end the sending of its own answer."
unfoldable pub settled_of : State → List ℕ → State
settled_of s transmit =
    with_sending (with_message (with_held s (held_after s (status_now s))) no_message) (sending_of s (reply_now s transmit).count)

unfoldable pub rule1 : State → ℕ → List ℕ → State
rule1 s t transmit = cond (is_due s.message t) (settled_of s transmit) s

-- ---- "2. A message that still awaits a data word with t more than 205 past its last word is faulty." And "a first data word with a gap above 570, or
-- time passing the receive command by more than 750 without it, makes the message faulty." (02 b)

-- "A faulty message ends at once: message error goes into the stored status (not for the two exempt commands), no answer, no data stored."
abbrev pub marked_of : Own → Held → ℕ → Held
marked_of own h word = cond (is_exempt own word) h (with_status h (with_flag MessageError h.status.0))

-- "The terminal keeps the kind of its last spacing fault" (02 i): a fault of another cause leaves the kind.
abbrev pub kept_by : Held → Option SpacingFault → Held
kept_by h None = h
kept_by h (Some Overlapping) = with_spacing h true false
kept_by h (Some Separated) = with_spacing h false true

-- Its mark, its kind, and no message.
unfoldable pub faulty_of : State → Option SpacingFault → State
faulty_of s fault = with_message (with_held s (kept_by (marked_of s.setup.own s.held s.message.command.0) fault)) no_message

-- The fault of rule 2 is a spacing fault, whatever event shows it: "separated (above 205)" (02 i; DECISIONS 73). That of the other limit is none, and
-- counts where that limit was passed first: the message was overdue when it was not yet late (DECISIONS 78).
unfoldable pub time_fault : Message → Option SpacingFault
time_fault m = cond (awaits_data m && not (is_overdue m (m.last.0 + spacing_most))) (Some Separated) None

unfoldable pub rule2 : State → ℕ → State
rule2 s t = cond (is_over s.message t) (faulty_of s (time_fault s.message)) s

-- ---- "3. A record on a bus on which the terminal is sending (due time D up to, not including, D + 200 times the words sent) is ignored."

abbrev pub rule3 : State → WordRecord → Bool
rule3 s r = is_sending s.sending r.bus r.time.0

-- ---- "4. An own command replaces any message under way, and cuts a sending on the other bus; the result says so."

-- "It becomes the last command unless it is transmit last command to the own address. The stored status becomes the own address, plus
-- broadcast received if 31. Transmit status word and transmit last command (to the own address) leave the stored status as it is." And "the
-- valid command word sets the broadcast bit; 002 waits for the whole valid message." (01, Sources; 003 7.3.3.5.3.7).
-- Departs from 002 2.7.2 and 003 7.3.3.6.7.1, .2 and .4.
unfoldable pub noted_status : Own → Held → ℕ → Held
noted_status own h word =
    cond (is_exempt own word) h
    (with_status h (cond (is_broadcast word) (with_flag BroadcastReceived (status_of own.address 0)) (status_of own.address 0)))

unfoldable pub noted_command : Own → Held → ℕ → Held
noted_command own h word = cond (is_exempt own word && eqb (code_of word) 18) h (with_command h word)

-- A second command word may follow "a receive command that is no mode command".
unfoldable pub first_phase : ℕ → Phase
first_phase word = cond (is_transmit word) Data (cond (is_mode word) Data First)

unfoldable pub begun_of : WordRecord → Message
begun_of r = message_of (first_phase r.word) r.bus (record { 0 = r.word }) r.time r.time 0 (replicate 32 0)

-- "Replacement by itself marks no fault."
unfoldable pub rule4 : State → WordRecord → State
rule4 s r =
    with_sending
    (with_message (with_held s (noted_command s.setup.own (noted_status s.setup.own s.held r.word) r.word)) (begun_of r))
    no_sending

unfoldable pub cuts_sending : State → WordRecord → Bool
cuts_sending s r = is_own s.setup.own r && is_sending s.sending (other_bus r.bus) r.time.0

-- ---- "5. Any other record on the bus of a message under way must be its next word: .. Otherwise the message is faulty, also when all its words
-- had come."

-- the message with its next data word, at its own place
unfoldable pub staged_of : Message → WordRecord → Message
staged_of m r = with_word (at_phase m Data r.time) r.word

-- the message with another phase, its last word now
unfoldable pub moved_of : Message → Phase → WordRecord → Message
moved_of m phase r = at_phase m phase r.time

-- "overlapping (below 195), back to back, or separated (above 205)" (02 i): which of these is a spacing fault
abbrev pub fault_by : Spacing → Option SpacingFault
fault_by (spacing.Overlapping distance) = Some Overlapping
fault_by (spacing.BackToBack distance) = None
fault_by (spacing.Separated distance) = Some Separated

-- The spacing fault of a record that is not the next word. While a data word is awaited spacing is asked before validity and sync, also of what comes in
-- the place of a second command word; it is not asked when all words had come, nor while a status is awaited (DECISIONS 74).
unfoldable pub fault_in : Message → WordRecord → Option SpacingFault
fault_in m r = cond (awaits_data m) (fault_by (spacing_of m.last.0 r.time.0)) None

unfoldable pub next_data : State → WordRecord → State
next_data s r =
    cond (awaits_data s.message && is_next_data s.message r) (with_message s (staged_of s.message r)) (faulty_of s (fault_in s.message r))

-- "(between terminals also the words named below)": a second command word, "Then a valid status from that address .., then the data words.
-- Any other record there is a fault."
unfoldable pub next_word : Phase → State → WordRecord → State
next_word Idle s r = s
next_word Data s r = next_data s r
next_word Confirmed s r = next_data s r
next_word First s r =
    cond (is_second s.setup.own s.message r)
    (with_message s (moved_of s.message (Pledged (address_of r.word)) r))
    (next_data s r)
next_word (Pledged address) s r =
    cond (is_status_from address r) (with_message s (moved_of s.message Confirmed r)) (faulty_of s (fault_in s.message r))

unfoldable pub rule5 : State → WordRecord → State
rule5 s r = next_word s.message.phase s r

-- ---- "6. Other records do nothing."

abbrev pub rule6 : State → State
rule6 s = s

-- ---- the order of 3 to 6

unfoldable pub rules3to6 : State → WordRecord → State
rules3to6 s r =
    cond (rule3 s r) s (cond (is_own s.setup.own r) (rule4 s r) (cond (is_on s.message r.bus) (rule5 s r) (rule6 s)))
