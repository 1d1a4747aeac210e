-- The words in which demand 3 is said: the command, the course of calls to its answer, calls without an answer. Assumes nothing.
use Rattle.std.specs.Prelude.{◌≡◌, ℕ, ◌+◌, Bool, true, false, not, ◌&&◌, ◌||◌, List, [], ◌∷◌, eqb, ltb}
use Rattle.words.specs.Words.{due_distance, address_of, is_spaced, command_sync, data_sync}
use Rattle.records.specs.declared.forms.WordRecord.{WordRecord}
use Rattle.terminal.specs.Commands.{is_valid_record, is_own, is_exempt}
use Rattle.terminal.specs.Messages.{is_sending}
use Rattle.terminal.specs.Settling.{is_shut, no_answer}
use Rattle.terminal.specs.Rules.{rule1, rule3}
use Rattle.terminal.specs.Events.{time_of, passed_of}
use Rattle.terminal.specs.declared.states.Own.{Own}
use Rattle.terminal.specs.declared.states.Terminal.{Terminal as State}
use Rattle.terminal.specs.declared.events.Event.{Event}
use Rattle.terminal.specs.declared.events.Event.TheVariants.{Mark, Word}
use Rattle.history.specs.Calls.{Call, set_up, event, host, clear_selftest, restart, is_accepted, is_refused, step, answer_in, sets_up, brings_own}

-- ---- the command

pub record Command (s : State) (r : WordRecord) (receive transmit : List ℕ) : Type 0 where
  -- "take an accepted,"
  pub accepted : is_accepted s (Word r) receive transmit ≡ true
  -- "valid command"
  pub valid : is_valid_record r ≡ true
  pub sync : r.sync ≡ command_sync
  -- "to the terminal's own address,"
  pub own : address_of r.word ≡ s.setup.own.address
  -- "on a bus where, once anything already due is settled, it is not sending"
  pub quiet : is_sending (rule1 s r.time.0 transmit).sending r.bus r.time.0 ≡ false
  -- "and its transmitter is on,"
  pub transmitter : is_shut (rule1 s r.time.0 transmit).held r.bus ≡ false

-- ---- the course of calls after it

-- "with all its data words accepted, valid and spaced as document 01 says": a data word on the bus, after a word of that time. It is no second
-- command word.
pub record NextWord (s : State) (bus last : ℕ) (r : WordRecord) (receive transmit : List ℕ) : Type 0 where
  pub accepted : is_accepted s (Word r) receive transmit ≡ true
  pub valid : is_valid_record r ≡ true
  pub sync : r.sync ≡ data_sync
  pub on : r.bus ≡ bus
  pub spaced : is_spaced last r.time.0 ≡ true

-- "Let nothing more come on that bus before the answer is due, no valid command to it or to all terminals on the other, and no restart by the
-- host before the answer is carried." A set-up is taken for a restart (DECISIONS 25).
abbrev pub is_harmless : Own → ℕ → Call → Bool
is_harmless own bus (set_up address receive transmit) = false
is_harmless own bus (event (Mark t) receive transmit) = true
is_harmless own bus (event (Word r) receive transmit) = not (eqb r.bus bus) && not (is_own own r)
is_harmless own bus (host setting) = true
is_harmless own bus clear_selftest = true
is_harmless own bus restart = false

-- A refused call may always come.
abbrev pub may_come : State → ℕ → Call → Bool
may_come s bus k = is_refused s k || is_harmless s.setup.own bus k

-- the call is no event of that time or later
abbrev pub is_earlier : ℕ → Call → Bool
is_earlier due (event e receive transmit) = ltb (time_of e) due
is_earlier due (set_up address receive transmit) = true
is_earlier due (host setting) = true
is_earlier due clear_selftest = true
is_earlier due restart = true

-- the call is no event accepted at or after that time
abbrev pub is_before : State → ℕ → Call → Bool
is_before s due k = is_refused s k || is_earlier due k

-- `Course bus s last words calls end`: from the terminal s on, after a word on the bus at the time `last`, the calls bring these data words, the
-- last word at the time `end`, and between them calls that may come; once all words have come, no call is an event accepted at or after the due
-- time.
pub data Course (bus : ℕ) : State → ℕ → List ℕ → List Call → ℕ → Type 0 where
  over : {s : State} {last : ℕ} → Course bus s last [] [] last
  between : {s : State} {last end : ℕ} {words : List ℕ} {k : Call} {ks : List Call}
      → may_come s bus k ≡ true
      → (words ≡ [] → is_before s (last + due_distance) k ≡ true)
      → Course bus (step s k) last words ks end
      → Course bus s last words (k ∷ ks) end
  word : {s : State} {last end : ℕ} {words : List ℕ} {r : WordRecord} {receive transmit : List ℕ} {ks : List Call}
      → NextWord s bus last r receive transmit
      → Course bus (step s (event (Word r) receive transmit)) r.time.0 words ks end
      → Course bus s last (r.word ∷ words) (event (Word r) receive transmit ∷ ks) end

-- ---- calls without an answer, calls without an own command

abbrev pub Silent : State → List Call → Type 0
Silent s [] = Unit {0}
Silent s (k ∷ ks) = (answer_in s k ≡ no_answer) × Silent (step s k) ks

abbrev pub NoOwn : State → List Call → Type 0
NoOwn s [] = Unit {0}
NoOwn s (k ∷ ks) = (brings_own s k ≡ false) × NoOwn (step s k) ks

-- calls without an accepted set-up
abbrev pub NoSetUp : State → List Call → Type 0
NoSetUp s [] = Unit {0}
NoSetUp s (k ∷ ks) = (sets_up k ≡ false) × NoSetUp (step s k) ks

-- ---- calls that leave the stored status of a terminal at rest (`AtRest`)

-- rule 3 ignores the record: so it does the terminal's own answer where its receiver hears it, whose status word looks like an own command
abbrev pub ignores : State → Event → Bool
ignores s (Mark t) = false
ignores s (Word r) = rule3 s r

abbrev pub is_ignored : State → Call → Bool
is_ignored s (set_up address receive transmit) = false
is_ignored s (event e receive transmit) = ignores (passed_of s (time_of e) transmit) e
is_ignored s (host setting) = false
is_ignored s clear_selftest = false
is_ignored s restart = false

-- Time marks, records that are no own command, the two exempt commands, host calls; no restart and no set-up (DECISIONS 25). Where a message that is
-- not exempt is under way they may settle it or make it faulty.
abbrev pub leaves_status : Own → Call → Bool
leaves_status own (set_up address receive transmit) = false
leaves_status own (event (Mark t) receive transmit) = true
leaves_status own (event (Word r) receive transmit) = not (is_own own r) || is_exempt own r.word
leaves_status own (host setting) = true
leaves_status own clear_selftest = true
leaves_status own restart = false

abbrev pub AllLeaveStatus : State → List Call → Type 0
AllLeaveStatus s [] = Unit {0}
AllLeaveStatus s (k ∷ ks) = ((is_refused s k || (is_ignored s k || leaves_status s.setup.own k)) ≡ true) × AllLeaveStatus (step s k) ks
