-- The two halves of the card agree: the answer of the terminal to a legal command, put on the bus at its due time, is judged good or, with message
-- error or busy in its status, 8 or 9; that to an illegal one is judged 8. Proved in proofs/ under the name above it. Assumes nothing.
use Rattle.std.specs.Prelude.{◌≡◌, ℕ, ◌+◌, ◌*◌, ◌≤◌, true, false, cond, List, [], ◌∷◌, ◌++◌, length, take, Some, None, unwrap_or, Ok}
use Rattle.words.specs.Words.{on_clock, address_of, words_of, is_broadcast, is_spaced, word_ticks, parity_of, command_sync, data_sync}
use Rattle.words.specs.Refusals.{not_refused}
use Rattle.words.specs.declared.times.Moment.{Moment}
use Rattle.records.specs.Records.{last_bus, in_range}
use Rattle.records.specs.declared.forms.WordRecord.{WordRecord}
use Rattle.terminal.specs.Commands.{is_legal}
use Rattle.terminal.specs.Messages.{is_due}
use Rattle.terminal.specs.Settling.{is_withheld, no_answer}
use Rattle.terminal.specs.Rules.{rule1_answer}
use Rattle.terminal.specs.declared.states.Terminal.{Terminal as State}
use Rattle.terminal.specs.declared.answers.Answer.{Answer}
use Rattle.history.specs.Calls.{Past, after_past}
use Rattle.history.specs.States.{Sound}
use Rattle.verdict.specs.Plans.{is_single, is_pair, plan_checks, plan_refusal, is_unjudged}
use Rattle.verdict.specs.declared.verdicts.Verdict.{Verdict}
use Rattle.verdict.specs.declared.verdicts.Verdict.TheVariants as verdict
use Rattle.verdict.specs.Facts.{listened_least, flag_fact}
use Rattle.verdict.specs.Verdicts.{record_refusal, finding, verdict_of, judged_with, judged_of}
use Rattle.verdict.specs.Theorems.{GoodStatus}
use Rattle.verdict.specs.declared.plans.Plan.{Plan}
use Rattle.monitor.specs.Entries.{is_data_word, last_in}

-- ---- the answer on the bus

-- a word as it is heard there: good parity, no receiver fault
abbrev pub heard_at : ℕ → ℕ → ℕ → ℕ → WordRecord
heard_at time bus sync word =
    record { time = record { 0 = time }; bus = bus; sync = sync; faults = 0; word = word; parity = parity_of word }

-- data words one after the other, "A word lasts 200 ticks"
unfoldable pub data_from : ℕ → ℕ → List ℕ → List WordRecord
data_from time bus [] = []
data_from time bus (word ∷ rest) = heard_at time bus data_sync word ∷ data_from (time + word_ticks) bus rest

-- the status word at the due time
abbrev pub status_heard : Answer → WordRecord
status_heard a = heard_at a.due.0 a.bus command_sync a.status.0

abbrev pub answer_heard : Answer → List WordRecord
answer_heard a = status_heard a ∷ data_from (a.due.0 + word_ticks) a.bus (take a.count a.words)

-- valid data words of that bus, each 195 to 205 after the one before, the first of them after that time
abbrev pub BackToBack : ℕ → ℕ → List WordRecord → Type 0
BackToBack bus before [] = Unit {0}
BackToBack bus before (d ∷ ds) =
    (d.bus ≡ bus) × (is_data_word d ≡ true) × (is_spaced before d.time.0 ≡ true) × BackToBack bus d.time.0 ds

-- ---- the controller's plan

-- Of a message with one command.
abbrev pub plan_for : State → Moment → Plan
plan_for s until = record {
  commands = 1;
  first = s.message.command;
  second = record { 0 = 0 };
  bus = s.message.bus;
  last = s.message.last;
  until = until;
}

-- ---- the statement

-- the records are taken: in range, of the plan's bus, each later than the one before, none after Q
abbrev pub Accepted : Plan → ℕ → List WordRecord → Type 0
Accepted plan before [] = Unit {0}
Accepted plan before (r ∷ rs) = (in_range last_bus r ≡ true) × (record_refusal plan before r ≡ not_refused) × Accepted plan r.time.0 rs

-- The plan is not refused, nor is a record, and that is the verdict.
pub record JudgedAs (plan : Plan) (returned : List WordRecord) (given : Verdict) : Type 0 where
  pub unrefused : plan_refusal plan ≡ not_refused
  pub accepted : Accepted plan plan.last.0 returned
  pub judged : verdict_of plan returned ≡ given

-- the verdict by the status of an answer: "Message error: 8. Busy: 9. The last two aren't given for mode codes 2 and 18.", else good
abbrev pub shown_by : State → Answer → Verdict
shown_by s a = unwrap_or (cond (is_unjudged s.message.command.0) None (flag_fact (status_heard a))) verdict.Good

-- an answer is given at that time, and it is so
abbrev pub Given : State → ℕ → List ℕ → (Answer → Type 0) → Type 0
Given s t transmit Holds = (a : Answer) × (rule1_answer s t transmit ≡ Some a) × Holds a

abbrev pub AgreesFrom : State → Type 0
AgreesFrom s =
    -- a message is due, its command legal, its answer not withheld, the transmit table of 1,024 words,
    (t : ℕ) (transmit : List ℕ) → length transmit ≡ 1024
    → is_due s.message t ≡ true
    → is_legal s.setup s.message.command.0 ≡ true
    → is_withheld s ≡ false
    -- then it is given; and where the controller listens long enough past its last word
    → Given s t transmit (λ (a : Answer).
    (until : Moment) → on_clock until.0 ≡ true
    → a.due.0 + word_ticks * a.count + listened_least ≤ until.0
    → JudgedAs (plan_for s until) (answer_heard a) (shown_by s a))

-- agrees: of every sound terminal
abbrev pub Agrees : Type 0
Agrees = (s : State) → Sound s → AgreesFrom s

-- agrees_after_any_past
abbrev pub AgreesAfterAnyPast : Type 0
AgreesAfterAnyPast = (past : Past) → AgreesFrom (after_past past)

-- agrees_illegal: a command that a plan may have, that the terminal holds illegal, neither 2 nor 18 of the mode codes: "First fact found decides", so
-- Q need not be later than the status word
abbrev pub AgreesIllegal : Type 0
AgreesIllegal =
    (s : State) → Sound s
    → (t : ℕ) (transmit : List ℕ)
    → is_due s.message t ≡ true
    → is_single s.message.command.0 ≡ true
    → is_legal s.setup s.message.command.0 ≡ false
    → is_unjudged s.message.command.0 ≡ false
    → is_withheld s ≡ false
    → Given s t transmit (λ (a : Answer).
    (until : Moment) → on_clock until.0 ≡ true
    → a.due.0 ≤ until.0
    → JudgedAs (plan_for s until) (answer_heard a) verdict.MessageError)

-- ---- between terminals

-- The plan of a message with two commands, that of the terminal and that of the transmitter, which was sent last. The terminal no longer holds the second.
abbrev pub plan_between : State → WordRecord → Moment → Plan
plan_between s second until = record {
  commands = 2;
  first = s.message.command;
  second = record { 0 = second.word };
  bus = s.message.bus;
  last = second.time;
  until = until;
}

-- The transmitter's part as it is heard: a status that is good by document 01, then the data words of the second command back to back, the last word of all
-- at the time that the terminal's message holds.
pub record Sent (s : State) (second status : WordRecord) (ds : List WordRecord) : Type 0 where
  pub pair : is_pair s.message.command.0 second.word ≡ true
  pub bus : status.bus ≡ s.message.bus
  pub answered : GoodStatus (address_of second.word) false second.time.0 status
  pub number : length ds ≡ words_of second.word
  pub spaced : BackToBack s.message.bus status.time.0 ds
  pub last : (last_in status ds).time ≡ s.message.last

-- The terminal receives: behind the transmitter's part its answer, which is a status alone, is judged by that status, whether the command is legal or not;
-- where it is not, that is 8.
abbrev pub AgreesBetweenFrom : State → Type 0
AgreesBetweenFrom s =
    (t : ℕ) (transmit : List ℕ)
    → is_due s.message t ≡ true
    → is_withheld s ≡ false
    → Given s t transmit (λ (a : Answer).
    (second status : WordRecord) (ds : List WordRecord) → Sent s second status ds
    → (until : Moment) → on_clock until.0 ≡ true
    → a.due.0 + listened_least ≤ until.0
    → JudgedAs (plan_between s second until) (status ∷ (ds ++ answer_heard a)) (shown_by s a)
    × (a.count ≡ 0)
    × (is_legal s.setup s.message.command.0 ≡ false → shown_by s a ≡ verdict.MessageError))

-- agrees_between: of every sound terminal
abbrev pub AgreesBetween : Type 0
AgreesBetween = (s : State) → Sound s → AgreesBetweenFrom s

-- agrees_between_after_any_past
abbrev pub AgreesBetweenAfterAnyPast : Type 0
AgreesBetweenAfterAnyPast = (past : Past) → AgreesBetweenFrom (after_past past)

-- ---- to all terminals

-- Nothing is answered. Where nothing is heard, the plan is refused, or it is judged good, with no record looked at. It is not refused where Q is on the clock
-- and the message of a sound terminal is due, of a command that a plan may have.
pub record Unanswered (s : State) (t : ℕ) (transmit : List ℕ) (until : Moment) : Type 0 where
  pub silent : rule1_answer s t transmit ≡ no_answer
  pub judged : judged_of (plan_for s until) [] ≡ judged_with (plan_checks (plan_for s until)) (Ok (finding verdict.Good 0))
  pub unrefused : Sound s → is_due s.message t ≡ true → is_single s.message.command.0 ≡ true → on_clock until.0 ≡ true
      → plan_refusal (plan_for s until) ≡ not_refused

-- agrees_broadcast
abbrev pub AgreesBroadcast : Type 0
AgreesBroadcast =
    (s : State) (t : ℕ) (transmit : List ℕ) → is_broadcast s.message.command.0 ≡ true
    → (until : Moment) → s.message.last.0 + listened_least ≤ until.0
    → Unanswered s t transmit until

-- agrees_broadcast_between: of two commands, the first to all terminals, the transmitter's part alone is judged good
abbrev pub AgreesBroadcastBetween : Type 0
AgreesBroadcastBetween =
    (s : State) → Sound s
    → (t : ℕ) (transmit : List ℕ)
    → is_due s.message t ≡ true
    → is_broadcast s.message.command.0 ≡ true
    → (second status : WordRecord) (ds : List WordRecord) → Sent s second status ds
    → (until : Moment) → on_clock until.0 ≡ true
    → s.message.last.0 + listened_least ≤ until.0
    → (rule1_answer s t transmit ≡ no_answer) × JudgedAs (plan_between s second until) (status ∷ ds) verdict.Good
