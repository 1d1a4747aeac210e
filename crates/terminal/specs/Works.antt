-- How the code goes about rules 1 to 6: what they change of a state, what a record is before anything changes, and what is changed then. No sentence
-- of document 01, and nobody need believe anything of it: no public promise names it, and proofs/ (Works, Meanings, Awaited, Happenings) shows
-- that it comes to what Rules.antt and Events.antt say. Assumes nothing.
use Rattle.std.specs.Prelude.{ℕ, ◌-◌, Bool, true, false, cond, ◌&&◌, leb, get_or, replicate, Option}
use Rattle.words.specs.Words.{address_of, awaited_of}
use Rattle.records.specs.declared.forms.WordRecord.{WordRecord}
use Rattle.terminal.specs.States.{setup_of, fresh_of, with_held, with_next, with_message, with_sending}
use Rattle.terminal.specs.Commands.{is_own}
use Rattle.terminal.specs.Messages.{is_on, awaits_data, is_sending, is_next_data, is_second, is_status_from, next_moment_of}
use Rattle.terminal.specs.Settling.{other_bus}
use Rattle.terminal.specs.Rules.{faulty_of, rule4, staged_of, moved_of, fault_in}
use Rattle.terminal.specs.declared.states.Own.{Own}
use Rattle.terminal.specs.declared.states.Phase.{Phase}
use Rattle.terminal.specs.declared.states.Phase.TheVariants.{Idle, First, Pledged, Confirmed, Data}
use Rattle.terminal.specs.declared.states.Held.{Held}
use Rattle.terminal.specs.declared.states.Message.{Message}
use Rattle.terminal.specs.declared.states.Sending.{Sending}
use Rattle.terminal.specs.declared.states.Work.{Work}
use Rattle.terminal.specs.declared.states.Terminal.{Terminal as State}
use Rattle.terminal.specs.declared.rules.Meaning.{Meaning}
use Rattle.terminal.specs.declared.rules.Meaning.TheVariants.{Ignored, Begins, SecondCommand, Status, DataWord, Faulty, Nothing}
use Rattle.terminal.specs.declared.events.Event.{Event}
use Rattle.terminal.specs.declared.events.Event.TheVariants.{Mark, Word}
use Rattle.terminal.specs.declared.events.Told.{Told}

-- ---- what the rules change

-- The work of a state; the state with other work; the work of a message, with its next moment; the work with another message.
abbrev pub work_of : State → Work
work_of s = record { message = s.message; sending = s.sending; next = s.next; held = s.held }

abbrev pub with_work : State → Work → State
with_work s w = with_next (with_sending (with_message (with_held s w.held) w.message) w.sending) w.next

abbrev pub built_of : Message → Option Sending → Held → Work
built_of message sending held = record { message = message; sending = sending; next = next_moment_of message; held = held }

abbrev pub message_in : Work → Message → Work
message_in w message = built_of message w.sending w.held

-- A state with that `Own` and that work. Rules 2 to 6 read nothing else of it.
abbrev pub bare_of : Own → Work → State
bare_of own w = with_work (fresh_of (setup_of own (replicate 32 0) (replicate 32 0))) w

-- The last data word that the command of the message awaits, of a mode command its only one; 0 where it awaits none (DECISIONS 71).
unfoldable pub last_awaited : Message → ℕ
last_awaited m =
    cond (leb 1 (awaited_of m.command.0) && leb (awaited_of m.command.0) 32) (get_or m.words (awaited_of m.command.0 - 1) 0) 0

-- ---- an event in numbers

abbrev pub told_of : Event → Told
told_of (Mark t) = record { heard = record { time = t; bus = 0; sync = 0; faults = 0; word = 0; parity = 0 }; mark = true }
told_of (Word r) = record { heard = r; mark = false }

-- ---- what a record is

unfoldable pub data_meaning : Message → WordRecord → Meaning
data_meaning m r = cond (awaits_data m && is_next_data m r) DataWord Faulty

unfoldable pub word_meaning : Phase → Own → Message → WordRecord → Meaning
word_meaning Idle own m r = Nothing
word_meaning Data own m r = data_meaning m r
word_meaning Confirmed own m r = data_meaning m r
word_meaning First own m r = cond (is_second own m r) SecondCommand (data_meaning m r)
word_meaning (Pledged address) own m r = cond (is_status_from address r) Status Faulty

unfoldable pub meaning_of : Own → Work → WordRecord → Meaning
meaning_of own w r =
    cond (is_sending w.sending r.bus r.time.0) Ignored
    (cond (is_own own r) Begins
    (cond (is_on w.message r.bus) (word_meaning w.message.phase own w.message r) Nothing))

unfoldable pub heard_meaning : Own → Work → Told → Meaning
heard_meaning own w told = cond told.mark Nothing (meaning_of own w told.heard)

-- ---- what is changed then

abbrev pub is_beginning : Meaning → Bool
is_beginning Ignored = false
is_beginning Begins = true
is_beginning SecondCommand = false
is_beginning Status = false
is_beginning DataWord = false
is_beginning Faulty = false
is_beginning Nothing = false

unfoldable pub cut_by : Work → WordRecord → Meaning → Bool
cut_by w r meaning = is_beginning meaning && is_sending w.sending (other_bus r.bus) r.time.0

unfoldable pub changed_of : Own → Work → WordRecord → Meaning → Work
changed_of own w r Ignored = w
changed_of own w r Begins = work_of (rule4 (bare_of own w) r)
changed_of own w r SecondCommand = message_in w (moved_of w.message (Pledged (address_of r.word)) r)
changed_of own w r Status = message_in w (moved_of w.message Confirmed r)
changed_of own w r DataWord = message_in w (staged_of w.message r)
changed_of own w r Faulty = work_of (faulty_of (bare_of own w) (fault_in w.message r))
changed_of own w r Nothing = w
