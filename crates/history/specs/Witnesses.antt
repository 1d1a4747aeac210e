-- Histories worked out: one that meets every premise of `answered`, and for each premise one that breaks it and loses the answer. "Address 5, all
-- legal, fresh", as on the bench cards. Assumes nothing.
use Rattle.std.specs.Prelude.{◌≡◌, ℕ, ◌+◌, ◌-◌, ◌^◌, ◌≤◌, Bool, true, false, not, ◌&&◌, List, [], ◌∷◌, ◌++◌, length, replicate, Some, is_some}
use Rattle.words.specs.Words.{due_distance, parity_of, command_sync, awaited_of}
use Rattle.records.specs.declared.forms.WordRecord.{WordRecord}
use Rattle.terminal.specs.States.{own_of, setup_of, fresh_of}
use Rattle.terminal.specs.Events.{time_of, set_up_of, terminal_of, event_of}
use Rattle.terminal.specs.Cards.{mark, heard, command, data_word, bad_word, zeros}
use Rattle.terminal.specs.declared.states.Terminal.{Terminal as State}
use Rattle.terminal.specs.declared.answers.Answer.{Answer}
use Rattle.terminal.specs.declared.events.Event.{Event}
use Rattle.terminal.specs.declared.events.Event.TheVariants.{Word}
use Rattle.history.specs.Calls.{Call, set_up, event, host, clear_selftest, restart, service, busy, vector_word, is_accepted, is_set_up, step, run}
use Rattle.history.specs.Courses.{Command, Course}

-- an event with full tables
unfoldable pub hears : Event → Call
hears e = event e zeros zeros

unfoldable pub all_legal : List ℕ
all_legal = replicate 32 (2 ^ 32 - 1)

unfoldable pub bench_after : List Call → State
bench_after past = run (terminal_of (set_up_of 5 all_legal all_legal)) past

-- ---- a history that meets every premise

-- A message on A that a bad word makes faulty; host calls, a restart; an event and a set-up refused; transmit status word on B, whose answer is due
-- before the command comes and is settled by it.
unfoldable pub past : List Call
past =
    hears (command 0 100 0x2842)
    ∷ hears (bad_word 0 300 0x0007)
    ∷ host (busy true)
    ∷ restart
    ∷ host (busy false)
    ∷ hears (mark 5)
    ∷ set_up 31 all_legal all_legal
    ∷ hears (command 1 400 0x2C02)
    ∷ []

-- "2842 at 1000", on bus A: two data words to subaddress 2
unfoldable pub asked : WordRecord
asked = record { time = record { 0 = 1000 }; bus = 0; sync = command_sync; faults = 0; word = 0x2842; parity = parity_of 0x2842 }

-- Its data words at 1200 and 1400; before, between and after them marks, refused calls, words on bus B, host calls.
unfoldable pub noise : List Call
noise =
    hears (mark 1100)
    ∷ hears (bad_word 1 1150 0x0003)
    ∷ hears (data_word 0 1200 0x0007)
    ∷ host (service true)
    ∷ hears (mark 5)
    ∷ event (data_word 0 1300 0x0001) [] zeros
    ∷ hears (command 1 1350 0x0842)
    ∷ hears (data_word 0 1400 0x0009)
    ∷ clear_selftest
    ∷ hears (data_word 1 1550 0x0842)
    ∷ host (vector_word 0x1234)
    ∷ hears (mark 1659)
    ∷ []

abbrev pub begun : State
begun = step (bench_after past) (event (Word asked) zeros zeros)

-- its answer: on A, due 1660, the own address with service request, no data words
unfoldable pub given : Answer
given = record { bus = 0; due = record { 0 = 1660 }; status = record { 0 = 0x2900 }; count = 0; words = replicate 32 0 }

unfoldable pub sent : List ℕ
sent = 0x0007 ∷ 0x0009 ∷ []

-- the first event at or after the due time: an own command on bus B
unfoldable pub first : Event
first = command 1 9000 0x2C02

-- Every premise is met, and the event carries the answer.
pub record Met : Type 0 where
  pub set : is_set_up 5 all_legal all_legal ≡ true
  pub address : (bench_after past).setup.own.address ≤ 30
  pub asks : Command (bench_after past) asked zeros zeros
  pub count : length sent ≡ awaited_of asked.word
  pub runs : Course 0 begun 1000 sent noise 1400
  pub accepted : is_accepted (run begun noise) first zeros zeros ≡ true
  pub then : 1400 + due_distance ≤ time_of first
  pub answer : (event_of (run begun noise) first zeros zeros).answer ≡ Some given

-- ---- for each premise, a history that breaks it

-- After these calls the event carries an answer; a time mark at 1660 does.
unfoldable pub answers_to : State → Event → List ℕ → Bool
answers_to s e receive = is_some (event_of s e receive zeros).answer

unfoldable pub answers_at_1660 : List Call → Bool
answers_at_1660 calls = answers_to (bench_after calls) (mark 1660) zeros

-- no history of a list passes a test
unfoldable pub none : (List Call → Bool) → List (List Call) → Bool
none test [] = true
none test (calls ∷ rest) = not (test calls) && none test rest

-- the two data words of the message
unfoldable pub its_data : List Call
its_data = hears (data_word 0 1200 0x0007) ∷ hears (data_word 0 1400 0x0009) ∷ []

-- the message, with its first data word at 1200; its second at 1400
unfoldable pub opening : List Call
opening = hears (command 0 1000 0x2842) ∷ hears (data_word 0 1200 0x0007) ∷ []

unfoldable pub message : List Call
message = opening ++ (hears (data_word 0 1400 0x0009) ∷ [])

unfoldable pub losses : List (List Call)
losses =
    -- not accepted: a table of the command's event is too short
    (event (command 0 1000 0x2842) [] zeros ∷ its_data)
    -- not valid: parity
    ∷ (hears (heard 0 1000 command_sync 0x2842 (1 - parity_of 0x2842)) ∷ its_data)
    -- no command: data sync
    ∷ (hears (data_word 0 1000 0x2842) ∷ its_data)
    -- not to the own address: to 6, and to all
    ∷ (hears (command 0 1000 0x3042) ∷ its_data)
    ∷ (hears (command 0 1000 0xF842) ∷ its_data)
    -- still sending on the bus: 2C42 at 600 is due at 860 and sent until 1460
    ∷ (hears (command 0 600 0x2C42) ∷ message)
    -- its transmitter is shut: 2C04 on B
    ∷ (hears (command 1 100 0x2C04) ∷ hears (mark 360) ∷ message)
    -- a second command word, to 6: then a status from 6 is awaited, and a data word is a fault
    ∷ (hears (command 0 1000 0x2842) ∷ hears (command 0 1195 0x3442) ∷ its_data)
    -- a data word is missing, not accepted, not valid, with command sync, on the other bus, 194 and 206 after the word before
    ∷ opening
    ∷ (opening ++ (event (data_word 0 1400 0x0009) zeros [] ∷ []))
    ∷ (opening ++ (hears (bad_word 0 1400 0x0009) ∷ []))
    ∷ (opening ++ (hears (command 0 1400 0x0009) ∷ []))
    ∷ (opening ++ (hears (data_word 1 1400 0x0009) ∷ []))
    ∷ (opening ++ (hears (data_word 0 1394 0x0009) ∷ []))
    ∷ (hears (command 0 990 0x2842) ∷ hears (data_word 0 1196 0x0007) ∷ hears (data_word 0 1396 0x0009) ∷ [])
    -- something more comes on the bus before the answer is due
    ∷ (message ++ (hears (data_word 0 1600 0x0001) ∷ []))
    -- a valid command to it, or to all terminals, on the other bus
    ∷ (message ++ (hears (command 1 1500 0x2C02) ∷ []))
    ∷ (message ++ (hears (command 1 1500 0xFC01) ∷ []))
    -- a restart by the host, a set-up
    ∷ (message ++ (restart ∷ []))
    ∷ (message ++ (set_up 5 all_legal all_legal ∷ []))
    -- not the first event at or after the due time
    ∷ (message ++ (hears (mark 1660) ∷ []))
    ∷ []

-- a terminal of address 31, which no accepted set-up gives, with such a message
unfoldable pub at_all : State
at_all = run (fresh_of (setup_of (own_of 31) all_legal all_legal))
    (hears (command 0 1000 0xF842) ∷ its_data)

-- the event before the due time; the event not accepted, for a table too short; the address 31
unfoldable pub event_lost : Bool
event_lost =
    not (answers_to (bench_after message) (mark 1659) zeros)
    && not (answers_to (bench_after message) (mark 1660) [])
    && not (answers_to at_all (mark 1660) zeros)
