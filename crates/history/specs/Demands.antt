-- THE FIRST FILE TO READ. Demand 3 of the user, clause by clause, and what stands beside it: the same of a message between terminals, and that none
-- waits longer than it may; time marks before an event do not matter, and when one does; the next moment and the kind of the last spacing fault, as they
-- are kept; no word on one bus wipes out a fault of the other, nor anything else of the stored status; refusals change nothing, and what a refused set-up
-- gives never answers; what an own command does to what is under way; what can be reached, and what every answer's status has; histories that meet every
-- premise. A statement is a type; its proof has the name above it and stands in proofs/. `Calls`, `Courses`, `Exchanges`, `States`, `Kinds`, `Witnesses`
-- and `Faults` say the words. Assumes nothing.
use Rattle.std.specs.Prelude.{◌≡◌, ℕ, ◌+◌, ◌≤◌, ◌<◌, Bool, true, false, cond, ◌&&◌, List, [], ◌∷◌, ◌++◌, ◌⊎◌, T, length, Option, Some, None, Result, Err}
use Rattle.std.proofs.Math.Seq.{paste}
use Rattle.words.specs.Words.{due_distance, gap_of, address_of, words_of, is_transmit, is_mode, has_flag, with_flag, has_no_other, awaited_of}
use Rattle.words.specs.declared.refusals.Refusal.{Refusal}
use Rattle.words.specs.declared.times.Moment.{Moment}
use Rattle.words.specs.declared.statuses.Flag.TheVariants.{MessageError}
use Rattle.records.specs.declared.forms.WordRecord.{WordRecord}
use Rattle.terminal.specs.States.{spacing_in, no_message, no_sending, fresh_of, with_host, at_time, moment_in}
use Rattle.terminal.specs.Commands.{is_own, is_exempt}
use Rattle.terminal.specs.Messages.{is_under_way, is_sending, next_moment_of}
use Rattle.terminal.specs.Settling.{other_bus, settled_status, first_place, reply_of, stores_data, no_answer}
use Rattle.terminal.specs.Rules.{begun_of, rule3}
use Rattle.terminal.specs.Events.{time_of, set_up_refusal, nothing_legal, set_up_of, terminal_of, event_refusal, passed_of, refused_of, event_of, event_receive}
use Rattle.terminal.specs.declared.states.SpacingFault.{SpacingFault}
use Rattle.terminal.specs.declared.states.Setup.{Setup}
use Rattle.terminal.specs.declared.states.Terminal.{Terminal as State}
use Rattle.terminal.specs.declared.answers.Answer.{Answer}
use Rattle.terminal.specs.declared.events.Event.{Event}
use Rattle.terminal.specs.declared.events.Event.TheVariants.{Mark, Word}
use Rattle.terminal.specs.declared.events.Happened.{Happened}
use Rattle.terminal.specs.declared.setups.RefusedSetUp.{RefusedSetUp}
use Rattle.history.specs.Calls.{Call, set_up, event, host, clear_selftest, restart, is_accepted, is_set_up, is_refused, step, run, Past, after_past, answer_in, brings_own}
use Rattle.history.specs.Courses.{Command, Course, Silent, NoOwn, NoSetUp, leaves_status, AllLeaveStatus}
use Rattle.history.specs.States.{is_under_way_on, marks_fault, ComesToFault, AtRest, Sound}
use Rattle.history.specs.Kinds.{sets, change_by, last_kind, AllLeaveKind}
use Rattle.history.specs.Witnesses.{Met, answers_at_1660, none, message, losses, event_lost}
use Rattle.history.specs.Exchanges.{asked, Exchange, Waits, NotPast, moment_while, ExchangeMet, answers_by_2420, heard_at_1600, heard_at_1750, not_heard, waits}
use Rattle.history.specs.Faults.{MarkMet, is_marked, each, marks, wipes, reports_at_3260, questioned, untold, event_untold}

-- ==== answered: "After any calls at all, take an accepted, valid command .. Then the first event accepted at or after the due time carries
-- exactly one answer"

-- the terminal as the command left it, with the flags and words that the host has set by the time of the event
abbrev pub composing : State → List Call → State
composing begun ks = with_host begun (run begun ks).host

-- "exactly one answer, its status word 8.0 microseconds after the last word, with the contents that demand 2 defines": on the command's bus, the
-- status and the data words by the settling definitions, from the flags, the words and the transmit table of the event
abbrev pub due_answer : State → WordRecord → ℕ → List ℕ → Answer
due_answer s r end transmit = record {
  bus = r.bus;
  due = record { 0 = end + due_distance };
  status = record { 0 = settled_status s r.word };
  count = (reply_of s r.word transmit).count;
  words = (reply_of s r.word transmit).words;
}

-- the receive table then: the data words from the first place of the subaddress, where the command stores them
abbrev pub due_table : State → WordRecord → List ℕ → List ℕ → List ℕ
due_table s r words receive =
    cond (stores_data s r.word) (paste receive (first_place r.word) words (words_of r.word)) receive

-- What follows, from the terminal `begun` by the command r on, with those data words, those calls between, the last word at `end`, and the event e
-- with its tables.
pub record Carried (begun : State) (r : WordRecord) (words : List ℕ) (ks : List Call) (end : ℕ) (e : Event) (receive transmit : List ℕ) : Type 0 where
  -- "Then the first event accepted at or after the due time carries exactly one answer, .. with the contents that demand 2 defines."
  pub answer : (event_of (run begun ks) e receive transmit).answer ≡ Some (due_answer (composing begun ks) r end transmit)
  -- "its status word 8.0 microseconds after the last word": 80 ticks from the middle of its parity bit
  pub gap : (a : Answer) → (event_of (run begun ks) e receive transmit).answer ≡ Some a → gap_of end a.due.0 ≡ 80
  -- and the data words are stored
  pub table : event_receive (run begun ks) e receive transmit ≡ due_table (composing begun ks) r words receive
  -- "exactly one": no call before it carries an answer
  pub before : Silent begun ks
  -- and none after it, until another valid command to it or to all terminals has come: whatever calls follow, and whatever call then
  pub after : brings_own (run begun ks) (event e receive transmit) ≡ false
      → (more : List Call)
      → NoOwn (step (run begun ks) (event e receive transmit)) more
      → (k : Call)
      → answer_in (run (step (run begun ks) (event e receive transmit)) more) k ≡ no_answer
  -- and no call ever after carries it again, also where e brings such a command: until a set-up, every later answer is due 260 after e or later
  pub later : (more : List Call)
      → NoSetUp (step (run begun ks) (event e receive transmit)) more
      → (k : Call) (a : Answer)
      → answer_in (run (step (run begun ks) (event e receive transmit)) more) k ≡ Some a
      → time_of e + due_distance ≤ a.due.0

-- of one terminal
abbrev pub AnsweredFrom : State → Type 0
AnsweredFrom s =
    -- "take an accepted, valid command to the terminal's own address, .. on a bus where, once anything already due is settled, it is not sending
    -- and its transmitter is on,"
    (r : WordRecord) (receive transmit : List ℕ) → Command s r receive transmit
    -- "without a second command word, .. with all its data words accepted, valid and spaced as document 01 says. Let nothing more come on that bus
    -- before the answer is due, no valid command to it or to all terminals on the other, and no restart by the host before the answer is carried."
    → (words : List ℕ) → length words ≡ awaited_of r.word
    → (ks : List Call) (end : ℕ) → Course r.bus (step s (event (Word r) receive transmit)) r.time.0 words ks end
    -- "Then the first event accepted at or after the due time"
    → (e : Event) (receive' transmit' : List ℕ)
    → is_accepted (run (step s (event (Word r) receive transmit)) ks) e receive' transmit' ≡ true
    → end + due_distance ≤ time_of e
    → Carried (step s (event (Word r) receive transmit)) r words ks end e receive' transmit'

-- answered: of every terminal with "an own address 0 to 30", whatever else it holds
abbrev pub Answered : Type 0
Answered = (s : State) → s.setup.own.address ≤ 30 → AnsweredFrom s

-- answered_after_any_past: "After any calls at all"
abbrev pub AnsweredAfterAnyPast : Type 0
AnsweredAfterAnyPast = (past : Past) → AnsweredFrom (after_past past)

-- ==== in_time_is_heard: the same of a message between terminals, with the second command word, the status and the data words of the other terminal
-- "within 57 .. microseconds" (02 b); demand 3 is "without a second command word"

-- of one terminal
abbrev pub HeardFrom : State → Type 0
HeardFrom s =
    -- an accepted, valid receive command to the own address that is no mode command, on a bus where it is not sending and its transmitter is on,
    (r : WordRecord) (receive transmit : List ℕ) → Command s r receive transmit
    → is_transmit r.word ≡ false
    → is_mode r.word ≡ false
    -- then the second command word, the status of the other terminal and all its data words, accepted, valid, and spaced as documents 01 and 02 say; between
    -- them, and until the answer is due, calls that may come
    → (words : List ℕ) → length words ≡ awaited_of r.word
    → (ks : List Call) (end : ℕ) → Exchange r asked (step s (event (Word r) receive transmit)) words ks end
    -- then the first event accepted at or after the due time
    → (e : Event) (receive' transmit' : List ℕ)
    → is_accepted (run (step s (event (Word r) receive transmit)) ks) e receive' transmit' ≡ true
    → end + due_distance ≤ time_of e
    -- carries the answer, as in `answered`
    → Carried (step s (event (Word r) receive transmit)) r words ks end e receive' transmit'

-- in_time_is_heard: of every terminal with "an own address 0 to 30", whatever else it holds
abbrev pub InTimeIsHeard : Type 0
InTimeIsHeard = (s : State) → s.setup.own.address ≤ 30 → HeardFrom s

-- in_time_is_heard_after_any_past
abbrev pub InTimeIsHeardAfterAnyPast : Type 0
InTimeIsHeardAfterAnyPast = (past : Past) → HeardFrom (after_past past)

-- ==== never_waits_longer: "a first data word with a gap above 570, or time passing the receive command by more than 750 without it, makes the message
-- faulty" (02 b)

-- An event makes the message faulty: message error goes into the stored status, where the event itself does not write that anew; no answer, no data stored;
-- and where it brings no own command no message is under way after it.
pub record EndsFaulty (s : State) (e : Event) (receive transmit : List ℕ) : Type 0 where
  pub marks : marks_fault s e transmit ≡ true
  pub status : leaves_status s.setup.own (event e receive transmit) ≡ true
      → (step s (event e receive transmit)).held.status.0 ≡ with_flag MessageError s.held.status.0
  pub silent : (event_of s e receive transmit).answer ≡ no_answer
  pub table : event_receive s e receive transmit ≡ receive
  pub over : brings_own s (event e receive transmit) ≡ false → (step s (event e receive transmit)).message ≡ no_message

-- never_waits_longer: of every terminal, and so after any past, whatever came between, on whichever bus; also where the controller sends the data words,
-- which rule 2 ends sooner
abbrev pub NeverWaitsLonger : Type 0
NeverWaitsLonger =
    (s : State) (r : WordRecord) (receive transmit : List ℕ) (ks : List Call) → Waits s r receive transmit ks
    → (e : Event) (receive' transmit' : List ℕ)
    → is_accepted (run (step s (event (Word r) receive transmit)) ks) e receive' transmit' ≡ true
    → r.time.0 + 750 < time_of e
    → EndsFaulty (run (step s (event (Word r) receive transmit)) ks) e receive' transmit'

-- wait_is_told: "Until that word comes the next moment is at most the receive command plus 751." (02 b)
abbrev pub WaitIsTold : Type 0
WaitIsTold =
    (s : State) (r : WordRecord) (receive transmit : List ℕ) (ks : List Call) → Waits s r receive transmit ks
    → NotPast (r.time.0 + 751) (moment_in (run (step s (event (Word r) receive transmit)) ks))

-- wait_exactly: and which it is, by how far the message has come
abbrev pub WaitExactly : Type 0
WaitExactly =
    (s : State) (r : WordRecord) (receive transmit : List ℕ) (ks : List Call) → Waits s r receive transmit ks
    → moment_in (run (step s (event (Word r) receive transmit)) ks)
    ≡ moment_while (run (step s (event (Word r) receive transmit)) ks).message.phase r.time.0
    (run (step s (event (Word r) receive transmit)) ks).message.last.0

-- ==== as_a_mark: "And an accepted record that is no valid command to it or to all terminals, on a bus where no message of its own is under way,
-- acts exactly as a time mark of that moment."

-- the same result whole: refusal, answer, cut, terminal; and the same receive table
abbrev pub SameAsMark : State → WordRecord → List ℕ → List ℕ → Type 0
SameAsMark s r receive transmit =
    (event_of s (Word r) receive transmit ≡ event_of s (Mark r.time) receive transmit)
    × (event_receive s (Word r) receive transmit ≡ event_receive s (Mark r.time) receive transmit)

-- as_a_mark: no message is under way there before the event
abbrev pub AsAMark : Type 0
AsAMark =
    (s : State) (r : WordRecord) (receive transmit : List ℕ) → is_accepted s (Word r) receive transmit ≡ true
    → is_own s.setup.own r ≡ false
    → is_under_way_on s.message r.bus ≡ false
    → SameAsMark s r receive transmit

-- as_a_mark_once_settled: none is, once what is due at that moment is settled and what is late is faulty
abbrev pub AsAMarkOnceSettled : Type 0
AsAMarkOnceSettled =
    (s : State) (r : WordRecord) (receive transmit : List ℕ) → is_accepted s (Word r) receive transmit ≡ true
    → is_own s.setup.own r ≡ false
    → is_under_way_on (passed_of s r.time.0 transmit).message r.bus ≡ false
    → SameAsMark s r receive transmit

-- ==== marks_do_not_matter: a time mark directly before an event is not seen after it, and so neither in the kind of the last spacing fault (02 i;
-- DECISIONS 73)

-- What a mark gave, and the event then, with the receive table after it, against the event alone with its table: the event is accepted, terminal,
-- receive table and what was cut are the same after it, and the answer, where there is one, is carried once, by one of the two.
pub record Unseen (mark then : Happened) (table : List ℕ) (alone : Happened) (table_alone : List ℕ) : Type 0 where
  pub accepted : then.refusal ≡ None
  pub terminal : then.terminal ≡ alone.terminal
  pub receive : table ≡ table_alone
  pub cut : then.cut ≡ alone.cut
  pub once : ((mark.answer ≡ no_answer) × (then.answer ≡ alone.answer)) ⊎ ((mark.answer ≡ alone.answer) × (then.answer ≡ no_answer))

-- of any time mark directly before an accepted event, not later than it and with the same tables; a mark that is earlier than the event before is
-- refused, and is not seen either
abbrev pub UnseenFrom : State → Type 0
UnseenFrom s =
    (t : Moment) (e : Event) (receive transmit : List ℕ) → is_accepted s e receive transmit ≡ true
    → t.0 ≤ time_of e
    → Unseen (event_of s (Mark t) receive transmit)
    (event_of (event_of s (Mark t) receive transmit).terminal e (event_receive s (Mark t) receive transmit) transmit)
    (event_receive (event_of s (Mark t) receive transmit).terminal e (event_receive s (Mark t) receive transmit) transmit)
    (event_of s e receive transmit)
    (event_receive s e receive transmit)

-- marks_do_not_matter: of every terminal whose message has its 32 places, as the code's has
abbrev pub MarksDoNotMatter : Type 0
MarksDoNotMatter = (s : State) → (is_under_way s.message.phase ≡ true → length s.message.words ≡ 32) → UnseenFrom s

-- marks_do_not_matter_after_any_past
abbrev pub MarksDoNotMatterAfterAnyPast : Type 0
MarksDoNotMatterAfterAnyPast = (past : Past) → UnseenFrom (after_past past)

-- ==== moment_exactly: "The host may ask for the next moment at which time alone matters"

-- A time mark does nothing but set the time of the last event.
abbrev pub Passes : State → Moment → List ℕ → List ℕ → Type 0
Passes s t receive transmit =
    (event_of s (Mark t) receive transmit
    ≡ record { refusal = None; answer = no_answer; cut = false; terminal = at_time s t.0 })
    × (event_receive s (Mark t) receive transmit ≡ receive)

-- It ends the message under way.
abbrev pub EndsMessage : State → Moment → List ℕ → List ℕ → Type 0
EndsMessage s t receive transmit =
    (is_under_way s.message.phase ≡ true) × ((step s (event (Mark t) receive transmit)).message ≡ no_message)

-- Where `moment` is none, or before it, an accepted time mark does nothing; at it or later it ends the message.
abbrev pub MattersExactly : State → Option Moment → Type 0
MattersExactly s moment =
    (t : Moment) (receive transmit : List ℕ) → is_accepted s (Mark t) receive transmit ≡ true
    → (moment ≡ None → Passes s t receive transmit)
    × ((next : Moment) → moment ≡ Some next → (t.0 < next.0 → Passes s t receive transmit) × (next.0 ≤ t.0 → EndsMessage s t receive transmit))

-- moment_exactly: of every terminal, and the next moment that is worked out of its message
abbrev pub MomentExactly : Type 0
MomentExactly = (s : State) → MattersExactly s (next_moment_of s.message)

-- moment_exactly_after_any_past: after any past, and the next moment that the host is told
abbrev pub MomentExactlyAfterAnyPast : Type 0
MomentExactlyAfterAnyPast = (past : Past) → MattersExactly (after_past past) (moment_in (after_past past))

-- told_ahead: and that one is still to come: it is later than the last accepted event
abbrev pub ToldAhead : Type 0
ToldAhead = (past : Past) (next : Moment) → moment_in (after_past past) ≡ Some next → (after_past past).time.0 < next.0

-- ==== kept_moment: "Store it in the terminal's state and have every event, host call, restart and refusal leave it equal to what document 01 would work
-- out." (02 e)

-- what is kept is what is worked out of the message
abbrev pub KeepsMoment : State → Type 0
KeepsMoment s = moment_in s ≡ next_moment_of s.message

-- kept_moment: "After any calls at all"
abbrev pub KeptMoment : Type 0
KeptMoment = (past : Past) → KeepsMoment (after_past past)

-- kept_from_fresh: also of what a refused set-up gives, and of `Terminal::fresh` with any set-up, after any calls
abbrev pub KeptFromFresh : Type 0
KeptFromFresh = (setup : Setup) (ks : List Call) → KeepsMoment (run (fresh_of setup) ks)

-- set_or_left: of every terminal, whatever it keeps: a call leaves what is kept, and the message with it, or sets it; one that is refused, and one of the
-- host that is no restart, leaves it
abbrev pub LeavesMoment : State → State → Type 0
LeavesMoment before after = (after.message ≡ before.message) × (moment_in after ≡ moment_in before)

abbrev pub is_leaving : State → Call → Bool
is_leaving s (set_up address receive transmit) = is_refused s (set_up address receive transmit)
is_leaving s (event e receive transmit) = is_refused s (event e receive transmit)
is_leaving s (host setting) = true
is_leaving s clear_selftest = true
is_leaving s restart = false

abbrev pub SetOrLeft : Type 0
SetOrLeft =
    (s : State) (k : Call)
    → (LeavesMoment s (step s k) ⊎ KeepsMoment (step s k)) × (is_leaving s k ≡ true → LeavesMoment s (step s k))

-- ==== spacing_kept: "The terminal keeps the kind of its last spacing fault (fresh: none) for the host to read" (02 i)

-- spacing_kept: of any terminal, after any calls
abbrev pub SpacingKept : Type 0
SpacingKept = (s : State) (ks : List Call) → spacing_in (run s ks).held ≡ last_kind s (spacing_in s.held) ks

-- spacing_kept_after_any_past: "(fresh: none)"
abbrev pub SpacingKeptAfterAnyPast : Type 0
SpacingKeptAfterAnyPast =
    (past : Past)
    → spacing_in (after_past past).held ≡ last_kind (terminal_of (set_up_of past.address past.receive past.transmit)) None past.calls

-- spacing_latest: once a call set it, it is that kind until another call sets it
abbrev pub SpacingLatest : Type 0
SpacingLatest =
    (s : State) (k : Call) (kind : Option SpacingFault) → change_by s k ≡ sets kind
    → (ks : List Call) → AllLeaveKind (step s k) ks
    → spacing_in (run (step s k) ks).held ≡ kind

-- kind_as_a_mark: so, by `as_a_mark`, a record that is no own command, on a bus where no message is under way, does to the kind what a time mark of its
-- moment does
abbrev pub KindAsAMark : Type 0
KindAsAMark =
    (s : State) (r : WordRecord) (receive transmit : List ℕ) → is_accepted s (Word r) receive transmit ≡ true
    → is_own s.setup.own r ≡ false
    → is_under_way_on s.message r.bus ≡ false
    → spacing_in (step s (event (Word r) receive transmit)).held ≡ spacing_in (step s (event (Mark r.time) receive transmit)).held

-- ==== no_wipe: "What I fear most: a word on bus B wipes out a fault marked a moment before on bus A."

-- an answer on that bus with that status
pub record Reports (o : Option Answer) (bus status : ℕ) : Type 0 where
  pub answer : Answer
  pub given : o ≡ Some answer
  pub on : answer.bus ≡ bus
  pub says : answer.status.0 ≡ status

-- the next transmit status word or transmit last command, on a bus whose transmitter is on and on which it is not sending, answers with that
-- status, with nothing more on its bus, no own command on the other, no restart and no set-up before the answer
abbrev pub AnswersWith : State → ℕ → Type 0
AnswersWith s status =
    (r : WordRecord) (receive transmit : List ℕ) → Command s r receive transmit
    → is_exempt s.setup.own r.word ≡ true
    → (ks : List Call) (end : ℕ) → Course r.bus (step s (event (Word r) receive transmit)) r.time.0 [] ks end
    → (e : Event) (receive' transmit' : List ℕ)
    → is_accepted (run (step s (event (Word r) receive transmit)) ks) e receive' transmit' ≡ true
    → end + due_distance ≤ time_of e
    → Reports (event_of (run (step s (event (Word r) receive transmit)) ks) e receive' transmit').answer r.bus status

-- a terminal that holds this status and answers with it
pub record Stands (s : State) (status : ℕ) : Type 0 where
  pub held : s.held.status.0 ≡ status
  -- no call carries an answer with another
  pub says : (k : Call) (a : Answer) → answer_in s k ≡ Some a → a.status.0 ≡ status
  -- and the two exempt commands are answered
  pub answers : AnswersWith s status

abbrev pub NoWipeFrom : State → Type 0
NoWipeFrom s =
    -- an accepted event marks a message faulty, by its time or by its word, on either bus,
    (e : Event) (receive transmit : List ℕ) → is_accepted s e receive transmit ≡ true
    → marks_fault s e transmit ≡ true
    -- and is itself no own command that is not exempt (that one would write the status anew, rule 4);
    → leaves_status s.setup.own (event e receive transmit) ≡ true
    -- then any calls, whatever words come on either bus, but an own command that is neither exempt nor ignored and a restart or set-up:
    → (ks : List Call) → AllLeaveStatus (step s (event e receive transmit)) ks
    -- the stored status is that before the fault, with message error
    → Stands (run (step s (event e receive transmit)) ks) (with_flag MessageError s.held.status.0)
    × (has_flag MessageError (run (step s (event e receive transmit)) ks).held.status.0 ≡ true)

-- no_wipe: of every terminal with "an own address 0 to 30"
abbrev pub NoWipe : Type 0
NoWipe = (s : State) → s.setup.own.address ≤ 30 → NoWipeFrom s

-- no_wipe_after_any_past
abbrev pub NoWipeAfterAnyPast : Type 0
NoWipeAfterAnyPast = (past : Past) → NoWipeFrom (after_past past)

-- fault_exactly: `marks_fault` says it of an event, accepted or not, exactly where its rules come to `faulty_of` of a command that is not exempt, and so
-- misses no fault
abbrev pub FaultExactly : Type 0
FaultExactly =
    (s : State) (e : Event) (transmit : List ℕ)
    → (marks_fault s e transmit ≡ true → ComesToFault s e transmit) × (ComesToFault s e transmit → marks_fault s e transmit ≡ true)

-- ==== status_stands: the same of all that the stored status holds: message error of a fault or of an illegal command, the host flags

abbrev pub StatusStandsFrom : State → Type 0
StatusStandsFrom s =
    -- once nothing is under way but an exempt command,
    AtRest s
    -- and then any calls, whatever words come on either bus, but an own command that is neither exempt nor ignored and a restart or set-up:
    → (ks : List Call) → AllLeaveStatus s ks
    -- the stored status is as it was
    → Stands (run s ks) s.held.status.0

-- status_stands: of every terminal with "an own address 0 to 30"
abbrev pub StatusStands : Type 0
StatusStands = (s : State) → s.setup.own.address ≤ 30 → StatusStandsFrom s

-- status_stands_after_any_past
abbrev pub StatusStandsAfterAnyPast : Type 0
StatusStandsAfterAnyPast = (past : Past) → StatusStandsFrom (after_past past)

-- ==== refusals_keep: "A refusal gives the number in our table and changes no state and no lent table or buffer." (demand 1)

-- a refused set-up gives the refusal, and a terminal that never answers: `refused_silent`
abbrev pub refused_set_up : Refusal → Result State RefusedSetUp
refused_set_up refusal = Err (record { terminal = fresh_of nothing_legal; refusal = refusal })

pub record ShowsRefusal (address : ℕ) (receive transmit : List ℕ) : Type 0 where
  pub refusal : Refusal
  pub number : set_up_refusal address (length receive) (length transmit) ≡ Some refusal
  pub alone : set_up_of address receive transmit ≡ refused_set_up refusal

-- a refused event gives the number and nothing else, a refused set-up that and the terminal above
abbrev pub ShowsNumberAlone : State → Call → Type 0
ShowsNumberAlone s (event e receive transmit) =
    (event_of s e receive transmit ≡ refused_of s (event_refusal s e (length receive) (length transmit)))
    × (event_receive s e receive transmit ≡ receive)
ShowsNumberAlone s (set_up address receive transmit) = ShowsRefusal address receive transmit
ShowsNumberAlone s (host setting) = Unit {0}
ShowsNumberAlone s clear_selftest = Unit {0}
ShowsNumberAlone s restart = Unit {0}

-- whatever calls follow on a terminal but an accepted set-up, none carries an answer
abbrev pub NeverAnswers : State → Type 0
NeverAnswers s = (ks : List Call) → NoSetUp s ks → (k : Call) → answer_in (run s ks) k ≡ no_answer

-- nor stores a word
abbrev pub NeverStores : State → Type 0
NeverStores s =
    (ks : List Call) → NoSetUp s ks
    → (e : Event) (receive transmit : List ℕ) → event_receive (run s ks) e receive transmit ≡ receive

-- refused_silent: so it is of what a refused set-up gives
abbrev pub RefusedSilent : Type 0
RefusedSilent =
    (address : ℕ) (receive transmit : List ℕ) → is_set_up address receive transmit ≡ false
    → NeverAnswers (terminal_of (set_up_of address receive transmit)) × NeverStores (terminal_of (set_up_of address receive transmit))

-- fresh_silent: and of `Terminal::fresh` with an own address above 30, which no accepted set-up gives, that it never answers
abbrev pub FreshSilent : Type 0
FreshSilent = (setup : Setup) → 31 ≤ setup.own.address → NeverAnswers (fresh_of setup)

-- fresh_begins: with an own address up to 30 it is what an accepted set-up gives, and so begins a past;
abbrev pub FreshBegins : Type 0
FreshBegins =
    (setup : Setup) → setup.own.address ≤ 30 → length setup.receive ≡ 32 → length setup.transmit ≡ 32
    → (is_set_up setup.own.address setup.receive setup.transmit ≡ true)
    × (fresh_of setup ≡ terminal_of (set_up_of setup.own.address setup.receive setup.transmit))

-- set_up_begins: and whatever was before it, an accepted set-up begins one; so no calls are left out
abbrev pub SetUpBegins : Type 0
SetUpBegins =
    (s : State) (before : List Call) (past : Past)
    → run s (before ++ (set_up past.address past.receive past.transmit ∷ past.calls)) ≡ after_past past

-- refusals_keep: the run with a refused call is the run without it, for any past and future
abbrev pub RefusalsKeep : Type 0
RefusalsKeep =
    (s : State) (past : List Call) (k : Call) (future : List Call) → is_refused (run s past) k ≡ true
    → (run s (past ++ (k ∷ future)) ≡ run s (past ++ future)) × ShowsNumberAlone (run s past) k

-- ==== replaced, cut: "An own command replaces any message under way, and cuts a sending on the other bus; the result says so." "Replacement by
-- itself marks no fault."

-- The terminal after an own command r, from what it was before, rules 1 and 2 done: its message alone is under way, nothing is being sent, and
-- message error is there only if it was and the command is exempt.
pub record Begins (passed : State) (r : WordRecord) (after : State) : Type 0 where
  pub message : after.message ≡ begun_of r
  pub sending : after.sending ≡ no_sending
  pub fault : has_flag MessageError after.held.status.0
      ≡ (is_exempt passed.setup.own r.word && has_flag MessageError passed.held.status.0)

-- replaced: a message that is still under way once rules 1 and 2 are done, on whichever bus, gets no answer, stores nothing and is no fault (rules 1
-- and 2 did nothing to it)
abbrev pub Replaced : Type 0
Replaced =
    (s : State) (r : WordRecord) (receive transmit : List ℕ) → is_accepted s (Word r) receive transmit ≡ true
    → is_own s.setup.own r ≡ true
    → is_under_way (passed_of s r.time.0 transmit).message.phase ≡ true
    → rule3 (passed_of s r.time.0 transmit) r ≡ false
    → ((event_of s (Word r) receive transmit).answer ≡ no_answer)
    × (event_receive s (Word r) receive transmit ≡ receive)
    × Begins s r (event_of s (Word r) receive transmit).terminal

-- cut: a sending on the other bus is cut, and the result says so;
abbrev pub Cut : Type 0
Cut =
    (s : State) (r : WordRecord) (receive transmit : List ℕ) → is_accepted s (Word r) receive transmit ≡ true
    → is_own s.setup.own r ≡ true
    → is_sending (passed_of s r.time.0 transmit).sending (other_bus r.bus) r.time.0 ≡ true
    → ((event_of s (Word r) receive transmit).cut ≡ true)
    × Begins (passed_of s r.time.0 transmit) r (event_of s (Word r) receive transmit).terminal

-- cut_exactly: an own command says that it cut a sending exactly where there is one on the other bus;
abbrev pub CutExactly : Type 0
CutExactly =
    (s : State) (r : WordRecord) (receive transmit : List ℕ) → is_accepted s (Word r) receive transmit ≡ true
    → is_own s.setup.own r ≡ true
    → (event_of s (Word r) receive transmit).cut
    ≡ is_sending (passed_of s r.time.0 transmit).sending (other_bus r.bus) r.time.0

-- cut_by_own_alone: no other event says so
abbrev pub CutByOwnAlone : Type 0
CutByOwnAlone =
    (s : State) (e : Event) (receive transmit : List ℕ) → (event_of s e receive transmit).cut ≡ true → brings_own s (event e receive transmit) ≡ true

-- ==== reachable: what every terminal after any past satisfies
abbrev pub Reachable : Type 0
Reachable = (past : Past) → Sound (after_past past)

-- answers_plain: every answer's status has the own address and none of the bits 02E2: "instrumentation 0200 (always 0), .. reserved 00E0 (0), ..
-- bus control acceptance 0002 (always 0, house)"
abbrev pub AnswersPlain : Type 0
AnswersPlain =
    (past : Past) (k : Call) (a : Answer) → answer_in (after_past past) k ≡ Some a
    → (address_of a.status.0 ≡ (after_past past).setup.own.address)
    × (has_no_other a.status.0 ≡ true)

-- ==== witness: one history meets every premise of `answered`
abbrev pub Witness : Type 0
Witness = Met

-- needed: a plain message is answered at 1660, and for each premise a message that breaks it is not
abbrev pub Needed : Type 0
Needed = T (answers_at_1660 message) × T (none answers_at_1660 losses) × T event_lost

-- mark_witness: one history meets every premise of `no_wipe`
abbrev pub MarkWitness : Type 0
MarkWitness = MarkMet

-- mark_needed: faults by word and by time are marked and answered with, and for each premise a history that breaks it is not
abbrev pub MarkNeeded : Type 0
MarkNeeded = T (each is_marked marks) × T (none is_marked wipes) × T (reports_at_3260 questioned) × T (none reports_at_3260 untold) × T event_untold

-- exchange_witness: one history meets every premise of `in_time_is_heard`, its first data word at the last moment
abbrev pub ExchangeWitness : Type 0
ExchangeWitness = ExchangeMet

-- exchange_needed: messages between terminals are answered, and for each premise one that breaks it is not; at 1751 each that waits is marked faulty, whatever
-- event it is, and at 1750 none
abbrev pub ExchangeNeeded : Type 0
ExchangeNeeded =
    T (each answers_by_2420 (heard_at_1600 ∷ heard_at_1750 ∷ [])) × T (none answers_by_2420 not_heard) × T (each is_marked (waits 1751)) × T (none is_marked (waits 1750))
