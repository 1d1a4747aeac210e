-- Document 01, "The terminal": set-up, an event whole with its refusals, host calls. Assumes nothing.
use Rattle.std.specs.Prelude.{ℕ, Bool, false, cond, ◌&&◌, List, eqb, leb, length, replicate, Option, Some, None, is_none, Result, Ok, Err}
use Rattle.words.specs.Words.{on_clock}
use Rattle.words.specs.declared.refusals.Refusal.{Refusal}
use Rattle.words.specs.declared.refusals.Refusal.TheVariants.{TableSize, OwnAddress, OutOfRange, OutOfOrder}
use Rattle.records.specs.Records.{last_bus, in_range}
use Rattle.terminal.specs.States.{own_of, setup_of, fresh_held, with_selftest, no_message, no_sending, fresh_of, with_held, with_message, with_sending, at_time}
use Rattle.terminal.specs.Settling.{no_answer}
use Rattle.terminal.specs.Rules.{rule1, rule1_answer, rule1_receive, rule2, rules3to6, cuts_sending}
use Rattle.terminal.specs.declared.states.Setup.{Setup}
use Rattle.terminal.specs.declared.states.Terminal.{Terminal as State}
use Rattle.terminal.specs.declared.events.Event.{Event}
use Rattle.terminal.specs.declared.events.Event.TheVariants.{Mark, Word}
use Rattle.terminal.specs.declared.events.Happened.{Happened}
use Rattle.terminal.specs.declared.setups.RefusedSetUp.{RefusedSetUp}

-- ---- set-up

-- "Set up with an own address 0 to 30 and two tables of 32 masks". "Set-up: 1, 2.": "a lent mask table not 32 masks"; "own address above 30".
-- Of the tables only their lengths matter.
unfoldable pub set_up_refusal : ℕ → ℕ → ℕ → Option Refusal
set_up_refusal address receive transmit =
    cond (eqb receive 32 && eqb transmit 32) (cond (leb address 30) None (Some OwnAddress)) (Some TableSize)

-- The terminal that a refused set-up gives: address 31, nothing legal, so that it never answers (house, DECISIONS 18).
abbrev pub nothing_legal : Setup
nothing_legal = setup_of (own_of 31) (replicate 32 0) (replicate 32 0)

-- The fresh terminal, or the refusal with that one.
abbrev pub set_up_by : Option Refusal → State → Result State RefusedSetUp
set_up_by None terminal = Ok terminal
set_up_by (Some refusal) terminal = Err (record { terminal = fresh_of nothing_legal; refusal = refusal })

unfoldable pub set_up_of : ℕ → List ℕ → List ℕ → Result State RefusedSetUp
set_up_of address receive transmit =
    set_up_by (set_up_refusal address (length receive) (length transmit)) (fresh_of (setup_of (own_of address) receive transmit))

-- The terminal that a set-up gives, accepted or not.
abbrev pub terminal_of : Result State RefusedSetUp → State
terminal_of (Ok terminal) = terminal
terminal_of (Err refused) = refused.terminal

-- ---- an event

-- "An event is a record or a time mark."
abbrev pub time_of : Event → ℕ
time_of (Mark t) = t.0
time_of (Word r) = r.time.0

abbrev pub is_in_range : Event → Bool
is_in_range (Mark t) = on_clock t.0
is_in_range (Word r) = in_range last_bus r

-- "Every event lends a receive and a transmit table of exactly 1,024 words". "Event: 1, 5, 6.": "a lent word table is not 1,024 words"; "a field
-- or a time out of range"; "event earlier than the last". Of the tables only their lengths matter.
unfoldable pub event_refusal : State → Event → ℕ → ℕ → Option Refusal
event_refusal s e receive transmit =
    cond (eqb receive 1024 && eqb transmit 1024)
    (cond (is_in_range e) (cond (leb s.time.0 (time_of e)) None (Some OutOfOrder)) (Some OutOfRange))
    (Some TableSize)

-- The state at the event's time, rules 1 and 2 done, the limit of 02 b with rule 2; then its record.
unfoldable pub passed_of : State → ℕ → List ℕ → State
passed_of s t transmit = at_time (rule2 (rule1 s t transmit) t) t

abbrev pub taken_of : State → Event → State
taken_of s (Mark t) = s
taken_of s (Word r) = rules3to6 s r

abbrev pub cut_of : State → Event → Bool
cut_of s (Mark t) = false
cut_of s (Word r) = cuts_sending s r

-- An event may carry an answer and cut its sending (DECISIONS 4).
unfoldable pub happens_of : State → Event → List ℕ → Happened
happens_of s e transmit = record {
  refusal = None;
  answer = rule1_answer s (time_of e) transmit;
  cut = cut_of (passed_of s (time_of e) transmit) e;
  terminal = taken_of (passed_of s (time_of e) transmit) e;
}

-- "A refusal gives its number and nothing else; state, tables and buffers stay."
abbrev pub refused_of : State → Option Refusal → Happened
refused_of s refusal = record { refusal = refusal; answer = no_answer; cut = false; terminal = s }

unfoldable pub event_of : State → Event → List ℕ → List ℕ → Happened
event_of s e receive transmit =
    cond (is_none (event_refusal s e (length receive) (length transmit))) (happens_of s e transmit)
    (refused_of s (event_refusal s e (length receive) (length transmit)))

unfoldable pub event_receive : State → Event → List ℕ → List ℕ → List ℕ
event_receive s e receive transmit =
    cond (is_none (event_refusal s e (length receive) (length transmit))) (rule1_receive s (time_of e) receive) receive

-- ---- host calls

-- "No other call is refused." "Host calls set the flags .., vector and BIT words": `with_host` of States.antt; "clear the self-test request, or
-- restart."
abbrev pub selftest_cleared : State → State
selftest_cleared s = with_held s (with_selftest s.held false)

-- "8 and restart give the fresh state, host flags and words kept. A restart also ends a message or sending; .. The last event's time stays after
-- both."
abbrev pub restarted_of : State → State
restarted_of s = with_sending (with_message (with_held s (fresh_held s.setup.own)) no_message) no_sending
