-- The words in which a message between terminals is said: its whole course to the answer, the wait for its first data word (02 b), and histories worked
-- out. Assumes nothing.
use Rattle.std.specs.Prelude.{◌≡◌, ℕ, ◌+◌, ◌-◌, ◌≤◌, Bool, true, false, cond, List, [], ◌∷◌, ◌++◌, eqb, leb, length, Option, Some, None}
use Rattle.words.specs.Words.{due_distance, gap_of, parity_of, address_of, count_of, is_transmit, is_mode, is_broadcast, is_spaced, command_sync, awaited_of}
use Rattle.words.specs.declared.times.Moment.{Moment}
use Rattle.records.specs.declared.forms.WordRecord.{WordRecord}
use Rattle.terminal.specs.Commands.{is_valid_record, is_own}
use Rattle.terminal.specs.Messages.{is_under_way}
use Rattle.terminal.specs.Rules.{rule3}
use Rattle.terminal.specs.Events.{time_of, event_of, passed_of}
use Rattle.terminal.specs.Cards.{mark, heard, command, data_word, bad_word, is_answer, zeros}
use Rattle.terminal.specs.declared.states.Phase.{Phase}
use Rattle.terminal.specs.declared.states.Phase.TheVariants.{Idle, First, Pledged, Confirmed, Data}
use Rattle.terminal.specs.declared.states.Terminal.{Terminal as State}
use Rattle.terminal.specs.declared.events.Event.TheVariants.{Word}
use Rattle.history.specs.Calls.{Call, set_up, event, host, restart, busy, is_accepted, is_set_up, step, run}
use Rattle.history.specs.Courses.{Command, NextWord, may_come, Course, NoOwn}
use Rattle.history.specs.Witnesses.{hears, all_legal, bench_after, answers_to}

-- ---- a whole course between terminals

-- "directly after a receive command that is no mode command, within 195 to 205, a valid command word may come that transmits, to another address than
-- ours and 31, no mode command, equal count field": after the receive command `asked`
pub record SecondCommand (s : State) (asked r : WordRecord) (receive transmit : List ℕ) : Type 0 where
  pub accepted : is_accepted s (Word r) receive transmit ≡ true
  pub valid : is_valid_record r ≡ true
  pub sync : r.sync ≡ command_sync
  pub on : r.bus ≡ asked.bus
  pub spaced : is_spaced asked.time.0 r.time.0 ≡ true
  pub transmits : is_transmit r.word ≡ true
  pub another : eqb (address_of r.word) s.setup.own.address ≡ false
  pub one : is_broadcast r.word ≡ false
  pub plain : is_mode r.word ≡ false
  pub count : count_of r.word ≡ count_of asked.word

-- "Then a valid status from that address is awaited"
pub record Confirms (s : State) (bus address : ℕ) (r : WordRecord) (receive transmit : List ℕ) : Type 0 where
  pub accepted : is_accepted s (Word r) receive transmit ≡ true
  pub valid : is_valid_record r ≡ true
  pub sync : r.sync ≡ command_sync
  pub on : r.bus ≡ bus
  pub from : address_of r.word ≡ address

-- The receive command has come; after it the second command word, to that address; after that its status, at that time.
pub data Stage : Type 0 where
  asked : Stage
  pledged : ℕ → Stage
  confirmed : ℕ → Stage

-- `Exchange r stage s words calls end`: from the terminal s on, after the receive command r and what the stage says, the calls bring what is missing of
-- the second command word and the status, then these data words, the last at the time `end`, and between them calls that may come. The first data word is
-- spaced from the status, and has no "gap above 570", counted from "the parity bit of the receive command" (02 b). From it on the course is that of any
-- other message.
pub data Exchange (r : WordRecord) : Stage → State → List ℕ → List Call → ℕ → Type 0 where
  between : {stage : Stage} {s : State} {end : ℕ} {words : List ℕ} {k : Call} {ks : List Call}
      → may_come s r.bus k ≡ true
      → Exchange r stage (step s k) words ks end
      → Exchange r stage s words (k ∷ ks) end
  second : {s : State} {end : ℕ} {words : List ℕ} {x : WordRecord} {receive transmit : List ℕ} {ks : List Call}
      → SecondCommand s r x receive transmit
      → Exchange r (pledged (address_of x.word)) (step s (event (Word x) receive transmit)) words ks end
      → Exchange r asked s words (event (Word x) receive transmit ∷ ks) end
  status : {s : State} {address end : ℕ} {words : List ℕ} {x : WordRecord} {receive transmit : List ℕ} {ks : List Call}
      → Confirms s r.bus address x receive transmit
      → Exchange r (confirmed x.time.0) (step s (event (Word x) receive transmit)) words ks end
      → Exchange r (pledged address) s words (event (Word x) receive transmit ∷ ks) end
  first : {s : State} {last end : ℕ} {words : List ℕ} {x : WordRecord} {receive transmit : List ℕ} {ks : List Call}
      → NextWord s r.bus last x receive transmit
      → gap_of r.time.0 x.time.0 ≤ 570
      → Course r.bus (step s (event (Word x) receive transmit)) x.time.0 words ks end
      → Exchange r (confirmed last) s (x.word ∷ words) (event (Word x) receive transmit ∷ ks) end

-- ---- the wait for the first data word

-- `Waits s r receive transmit calls`: the terminal s takes an own command r that awaits data words, on a bus where it is not sending; then come any calls
-- that bring no other, and its message is still under way, without a data word.
pub record Waits (s : State) (r : WordRecord) (receive transmit : List ℕ) (ks : List Call) : Type 0 where
  pub accepted : is_accepted s (Word r) receive transmit ≡ true
  pub own : is_own s.setup.own r ≡ true
  pub quiet : rule3 (passed_of s r.time.0 transmit) r ≡ false
  pub awaits : 1 ≤ awaited_of r.word
  pub alone : NoOwn (step s (event (Word r) receive transmit)) ks
  pub under_way : is_under_way (run (step s (event (Word r) receive transmit)) ks).message.phase ≡ true
  pub none : (run (step s (event (Word r) receive transmit)) ks).message.got ≡ 0

-- The next moment of such a message, by the times of its command and of its last word: a second command word may come until 205 after its command; a
-- status of the other terminal until 750 after it, though no data word can be in time behind it then (DECISIONS 6); behind that status both limits hold.
abbrev pub moment_while : Phase → ℕ → ℕ → Option Moment
moment_while Idle start last = None
moment_while First start last = Some (record { 0 = start + 206 })
moment_while (Pledged address) start last = Some (record { 0 = start + 751 })
moment_while Confirmed start last = Some (record { 0 = cond (leb (last + 206) (start + 751)) (last + 206) (start + 751) })
moment_while Data start last = Some (record { 0 = start + 206 })

-- there is a next moment, and it is not past that time
pub record NotPast (limit : ℕ) (next : Option Moment) : Type 0 where
  pub moment : Moment
  pub told : next ≡ Some moment
  pub most : moment.0 ≤ limit

-- ---- histories worked out

-- "2842 at 1000", on bus A, and 3C42 at 1200: terminal 7 shall send two words to subaddress 2
unfoldable pub ordered : WordRecord
ordered = record { time = record { 0 = 1000 }; bus = 0; sync = command_sync; faults = 0; word = 0x2842; parity = parity_of 0x2842 }

-- The status of 7 at 1550, its data words at 1750, the last moment for the first, and 1950; between them marks, refused calls, words on bus B, host calls.
unfoldable pub exchanged : List Call
exchanged =
    hears (mark 1100)
    ∷ hears (command 0 1200 0x3C42)
    ∷ hears (bad_word 1 1250 0x0003)
    ∷ hears (mark 5)
    ∷ hears (mark 1500)
    ∷ hears (command 0 1550 0x3800)
    ∷ host (busy true)
    ∷ host (busy false)
    ∷ hears (mark 1750)
    ∷ hears (data_word 0 1750 0x0007)
    ∷ hears (command 1 1800 0x0842)
    ∷ hears (data_word 0 1950 0x0009)
    ∷ hears (mark 2209)
    ∷ []

abbrev pub taken : State
taken = step (bench_after []) (hears (Word ordered))

unfoldable pub brought : List ℕ
brought = 0x0007 ∷ 0x0009 ∷ []

-- Every premise of `in_time_is_heard` is met, and the event carries the answer.
pub record ExchangeMet : Type 0 where
  pub set : is_set_up 5 all_legal all_legal ≡ true
  pub address : (bench_after []).setup.own.address ≤ 30
  pub asks : Command (bench_after []) ordered zeros zeros
  pub receives : is_transmit ordered.word ≡ false
  pub plain : is_mode ordered.word ≡ false
  pub count : length brought ≡ awaited_of ordered.word
  pub runs : Exchange ordered asked taken brought exchanged 1950
  pub accepted : is_accepted (run taken exchanged) (mark 2210) zeros zeros ≡ true
  pub then : 1950 + due_distance ≤ time_of (mark 2210)
  pub answer : is_answer (event_of (run taken exchanged) (mark 2210) zeros zeros).answer 0 2210 0x2800 [] ≡ true

-- the two commands; the status of 7 at that time; the two data words from that time on
unfoldable pub orders : List Call
orders = hears (command 0 1000 0x2842) ∷ hears (command 0 1200 0x3C42) ∷ []

unfoldable pub replies : ℕ → List Call
replies t = hears (command 0 t 0x3800) ∷ []

unfoldable pub sends : ℕ → List Call
sends t = hears (data_word 0 t 0x0007) ∷ hears (data_word 0 (t + 200) 0x0009) ∷ []

-- a time mark at 2420 carries an answer, whenever it was due before
unfoldable pub answers_by_2420 : List Call → Bool
answers_by_2420 calls = answers_to (bench_after calls) (mark 2420) zeros

-- the status at 1400, the data words at 1600 and 1800; and "a first data word with a gap above 570": at 1750 it has 570
unfoldable pub heard_at_1600 : List Call
heard_at_1600 = orders ++ replies 1400 ++ sends 1600

unfoldable pub heard_at_1750 : List Call
heard_at_1750 = orders ++ replies 1550 ++ sends 1750

-- behind another second call; behind another third
unfoldable pub second_is : Call → List Call
second_is k = hears (command 0 1000 0x2842) ∷ k ∷ (replies 1400 ++ sends 1600)

unfoldable pub status_is : Call → List Call
status_is k = orders ++ (k ∷ sends 1600)

-- with another first data word
unfoldable pub first_is : Call → List Call
first_is k = orders ++ replies 1400 ++ (k ∷ hears (data_word 0 1800 0x0009) ∷ [])

-- for each premise a message that breaks it
unfoldable pub not_heard : List (List Call)
not_heard =
    -- the first command transmits; is a mode command
    (hears (command 0 1000 0x2C42) ∷ hears (command 0 1200 0x3C42) ∷ (replies 1400 ++ sends 1600))
    ∷ (hears (command 0 1000 0x2811) ∷ hears (command 0 1200 0x3C51) ∷ (replies 1400 ++ sends 1600))
    -- the second is missing, not accepted, not valid, with data sync, on the other bus, 194 and 206 after the first
    ∷ (hears (command 0 1000 0x2842) ∷ (replies 1400 ++ sends 1600))
    ∷ second_is (event (command 0 1200 0x3C42) [] zeros)
    ∷ second_is (hears (heard 0 1200 command_sync 0x3C42 (1 - parity_of 0x3C42)))
    ∷ second_is (hears (data_word 0 1200 0x3C42))
    ∷ second_is (hears (command 1 1200 0x3C42))
    ∷ second_is (hears (command 0 1194 0x3C42))
    ∷ second_is (hears (command 0 1206 0x3C42))
    -- it receives, is to this terminal, to all, a mode command, of another count
    ∷ second_is (hears (command 0 1200 0x3842))
    ∷ second_is (hears (command 0 1200 0x2C42))
    ∷ second_is (hears (command 0 1200 0xFC42))
    ∷ second_is (hears (command 0 1200 0x3C02))
    ∷ second_is (hears (command 0 1200 0x3C43))
    -- the status is missing, not accepted, not valid, with data sync, on the other bus, of another terminal
    ∷ (orders ++ sends 1600)
    ∷ status_is (event (command 0 1400 0x3800) [] zeros)
    ∷ status_is (hears (heard 0 1400 command_sync 0x3800 (1 - parity_of 0x3800)))
    ∷ status_is (hears (data_word 0 1400 0x3800))
    ∷ status_is (hears (command 1 1400 0x3800))
    ∷ status_is (hears (command 0 1400 0x3000))
    -- the first data word is not accepted, not valid, with command sync, on the other bus, 194 and 206 after the status, with a gap of 571
    ∷ first_is (event (data_word 0 1600 0x0007) zeros [])
    ∷ first_is (hears (bad_word 0 1600 0x0007))
    ∷ first_is (hears (command 0 1600 0x0007))
    ∷ first_is (hears (data_word 1 1600 0x0007))
    ∷ (orders ++ replies 1400 ++ sends 1594)
    ∷ (orders ++ replies 1400 ++ sends 1606)
    ∷ (orders ++ replies 1551 ++ sends 1751)
    -- something more comes on the bus before the answer is due; a valid command to it or to all on the other; a restart; a set-up
    ∷ (orders ++ replies 1400 ++ (hears (data_word 0 1500 0x0001) ∷ sends 1600))
    ∷ (heard_at_1600 ++ (hears (data_word 0 2000 0x0001) ∷ []))
    ∷ (heard_at_1600 ++ (hears (command 1 2000 0x2842) ∷ []))
    ∷ (heard_at_1600 ++ (hears (command 1 2000 0xFC01) ∷ []))
    ∷ (orders ++ replies 1400 ++ (restart ∷ sends 1600))
    ∷ (heard_at_1600 ++ (set_up 5 all_legal all_legal ∷ []))
    -- not the first event at or after the due time
    ∷ (heard_at_1600 ++ (hears (mark 2060) ∷ []))
    ∷ []

-- "time passing the receive command by more than 750": an event at that time, while the status is awaited and after it: a time mark, a word on bus B,
-- transmit status word on bus B
unfoldable pub waits : ℕ → List (List Call)
waits t =
    (orders ++ (hears (mark t) ∷ []))
    ∷ (orders ++ (hears (bad_word 1 t 0x0003) ∷ []))
    ∷ (orders ++ (hears (command 1 t 0x2C02) ∷ []))
    ∷ (orders ++ replies 1550 ++ (hears (mark t) ∷ []))
    ∷ (orders ++ replies 1550 ++ (hears (command 1 t 0x2C02) ∷ []))
    ∷ []
