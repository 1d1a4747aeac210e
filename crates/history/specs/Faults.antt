-- Histories of a fault worked out: one that meets every premise of `no_wipe`, and for each premise one that breaks it and loses the mark, or the
-- answer with it. "Address 5, all legal, fresh", as on the bench cards. Assumes nothing.
use Rattle.std.specs.Prelude.{◌≡◌, ◌+◌, ◌-◌, ◌≤◌, Bool, true, not, ◌&&◌, List, [], ◌∷◌, ◌++◌, false, Option, Some, None}
use Rattle.words.specs.Words.{due_distance, parity_of, command_sync, has_flag}
use Rattle.words.specs.declared.statuses.Flag.TheVariants.{MessageError}
use Rattle.records.specs.declared.forms.WordRecord.{WordRecord}
use Rattle.terminal.specs.States.{own_of, setup_of, fresh_of}
use Rattle.terminal.specs.Commands.{is_exempt}
use Rattle.terminal.specs.Events.{time_of, event_of}
use Rattle.terminal.specs.Cards.{mark, heard, command, data_word, bad_word, is_answer, zeros}
use Rattle.terminal.specs.declared.states.Terminal.{Terminal as State}
use Rattle.terminal.specs.declared.answers.Answer.{Answer}
use Rattle.terminal.specs.declared.events.Event.{Event}
use Rattle.terminal.specs.declared.events.Event.TheVariants.{Word}
use Rattle.history.specs.Calls.{Call, set_up, event, host, clear_selftest, restart, service, busy, is_accepted, is_set_up, step, run}
use Rattle.history.specs.Courses.{Command, Course, leaves_status, AllLeaveStatus}
use Rattle.history.specs.States.{marks_fault}
use Rattle.history.specs.Witnesses.{hears, all_legal, bench_after}

-- ---- a history that meets every premise

-- "2842 at 1000", on bus A, and its first data word with bad parity
unfoldable pub asking : List Call
asking = hears (command 0 1000 0x2842) ∷ []

unfoldable pub broken : Event
broken = bad_word 0 1200 0x0007

-- Then on B a data word, a bad word, a command to another terminal, and one to this with bad parity; host calls; an event and a set-up refused; on B
-- transmit status word, and its answer as the receiver hears it at 1860; on A a word of nobody's.
unfoldable pub aftermath : List Call
aftermath =
    hears (data_word 1 1250 0x0003)
    ∷ hears (bad_word 1 1300 0x0001)
    ∷ hears (command 1 1350 0x3042)
    ∷ hears (heard 1 1400 command_sync 0x2C42 (1 - parity_of 0x2C42))
    ∷ host (busy true)
    ∷ host (service true)
    ∷ clear_selftest
    ∷ hears (mark 5)
    ∷ set_up 31 all_legal all_legal
    ∷ hears (command 1 1600 0x2C02)
    ∷ hears (command 1 1860 0x2C00)
    ∷ hears (data_word 0 2200 0x0009)
    ∷ []

abbrev pub marked : State
marked = run (step (bench_after asking) (hears broken)) aftermath

-- transmit last command on A, and on B a bad word before it is answered
unfoldable pub question : WordRecord
question = record { time = record { 0 = 3000 }; bus = 0; sync = command_sync; faults = 0; word = 0x2C12; parity = parity_of 0x2C12 }

unfoldable pub meanwhile : List Call
meanwhile = hears (bad_word 1 3100 0x0003) ∷ []

-- Every premise is met; the status is the own address with message error, and so is that of the answer, with the last command behind it.
pub record MarkMet : Type 0 where
  pub set : is_set_up 5 all_legal all_legal ≡ true
  pub address : (bench_after asking).setup.own.address ≤ 30
  pub accepted : is_accepted (bench_after asking) broken zeros zeros ≡ true
  pub marks : marks_fault (bench_after asking) broken zeros ≡ true
  pub outside : leaves_status (own_of 5) (hears broken) ≡ true
  pub all : AllLeaveStatus (step (bench_after asking) (hears broken)) aftermath
  pub held : marked.held.status.0 ≡ 0x2C00
  pub asks : Command marked question zeros zeros
  pub exempt : is_exempt (own_of 5) question.word ≡ true
  pub runs : Course 0 (step marked (hears (Word question))) 3000 [] meanwhile 3000
  pub taken : is_accepted (run (step marked (hears (Word question))) meanwhile) (mark 3260) zeros zeros ≡ true
  pub then : 3000 + due_distance ≤ time_of (mark 3260)
  pub answer : is_answer (event_of (run (step marked (hears (Word question))) meanwhile) (mark 3260) zeros zeros).answer 0 3260 0x2C00 (0x2C02 ∷ []) ≡ true

-- ---- for each premise, a history that breaks it

-- message error is in the stored status
unfoldable pub is_marked : List Call → Bool
is_marked calls = has_flag MessageError (bench_after calls).held.status.0

-- the message and its fault
unfoldable pub fault : List Call
fault = asking ++ (hears broken ∷ [])

-- faults by word and by time, this one by a time mark and by transmit status word on the other bus
unfoldable pub marks : List (List Call)
marks = fault ∷ (asking ++ (hears (mark 1206) ∷ [])) ∷ (asking ++ (hears (command 1 1206 0x2C02) ∷ [])) ∷ []

-- each history of a list passes a test
unfoldable pub each : (List Call → Bool) → List (List Call) → Bool
each test [] = true
each test (calls ∷ rest) = test calls && each test rest

-- the mark is not made, or is lost
unfoldable pub wipes : List (List Call)
wipes =
    -- the event is not accepted: a table is too short
    (asking ++ (event broken [] zeros ∷ []))
    -- it marks no fault: a good word; a bad one on the other bus; not late yet, by a time mark and by a command that replaces it; the command is exempt
    ∷ (asking ++ (hears (data_word 0 1200 0x0007) ∷ []))
    ∷ (asking ++ (hears (bad_word 1 1200 0x0007) ∷ []))
    ∷ (asking ++ (hears (mark 1205) ∷ []))
    ∷ (asking ++ (hears (command 1 1205 0x2C02) ∷ []))
    ∷ (hears (command 0 1000 0x2C02) ∷ hears broken ∷ [])
    -- it marks one by its time, and is itself an own command that is not exempt, on either bus or to all
    ∷ (asking ++ (hears (command 0 1300 0x2C42) ∷ []))
    ∷ (asking ++ (hears (command 1 1300 0x2C42) ∷ []))
    ∷ (asking ++ (hears (command 1 1300 0xF842) ∷ []))
    -- after the fault such a command, code 2 to all among them, or what looks like one once the sending is over; a restart, a set-up
    ∷ (fault ++ (hears (command 0 1300 0x2C42) ∷ []))
    ∷ (fault ++ (hears (command 1 1300 0x2C42) ∷ []))
    ∷ (fault ++ (hears (command 1 1300 0xF842) ∷ []))
    ∷ (fault ++ (hears (command 1 1300 0xFC02) ∷ []))
    ∷ (fault ++ (hears (command 1 1600 0x2C02) ∷ hears (command 1 2060 0x2C00) ∷ []))
    ∷ (fault ++ (restart ∷ []))
    ∷ (fault ++ (set_up 5 all_legal all_legal ∷ []))
    ∷ []

-- an event carries an answer with message error; a time mark at 3260 does
unfoldable pub reports : Option Answer → Bool
reports None = false
reports (Some a) = has_flag MessageError a.status.0

unfoldable pub reports_at_3260 : List Call → Bool
reports_at_3260 calls = reports (event_of (bench_after calls) (mark 3260) zeros zeros).answer

unfoldable pub questioned : List Call
questioned = fault ++ (hears (Word question) ∷ [])

-- No answer with message error comes then: the mark is wiped, or it stands and this question is not answered at 3260.
unfoldable pub untold : List (List Call)
untold =
    -- not accepted: a table of the command's event is too short; not valid: parity; no command: data sync; to another terminal and to all, and so
    -- not exempt
    (fault ++ (event (Word question) [] zeros ∷ []))
    ∷ (fault ++ (hears (heard 0 3000 command_sync 0x2C12 (1 - parity_of 0x2C12)) ∷ []))
    ∷ (fault ++ (hears (data_word 0 3000 0x2C12) ∷ []))
    ∷ (fault ++ (hears (command 0 3000 0x3412) ∷ []))
    ∷ (fault ++ (hears (command 0 3000 0xFC12) ∷ []))
    -- not exempt: it writes the status anew
    ∷ (fault ++ (hears (command 0 3000 0x2C42) ∷ []))
    -- still sending on the bus: 2C12 at 2700 is due at 2960 and sent until 3360
    ∷ (fault ++ (hears (command 0 2700 0x2C12) ∷ hears (Word question) ∷ []))
    -- its transmitter is shut: 2C04 on B
    ∷ (hears (command 1 100 0x2C04) ∷ hears (mark 360) ∷ questioned)
    -- something more on the bus; another command to it or to all on the other; a restart; a set-up; not the first event at or after the due time
    ∷ (questioned ++ (hears (data_word 0 3200 0x0001) ∷ []))
    ∷ (questioned ++ (hears (command 1 3200 0x2C02) ∷ []))
    ∷ (questioned ++ (hears (command 1 3200 0xFC01) ∷ []))
    ∷ (questioned ++ (restart ∷ []))
    ∷ (questioned ++ (set_up 5 all_legal all_legal ∷ []))
    ∷ (questioned ++ (hears (mark 3260) ∷ []))
    ∷ []

-- a terminal of address 31, which no accepted set-up gives, with such a fault and such a question
unfoldable pub marked_at_all : State
marked_at_all = run (fresh_of (setup_of (own_of 31) all_legal all_legal))
    (hears (command 0 1000 0xF842) ∷ hears broken ∷ hears (command 0 3000 0xFC12) ∷ [])

-- the event before the due time; the event not accepted, for a table too short; the address 31
unfoldable pub event_untold : Bool
event_untold =
    not (reports (event_of (bench_after questioned) (mark 3259) zeros zeros).answer)
    && not (reports (event_of (bench_after questioned) (mark 3260) [] zeros).answer)
    && not (reports (event_of marked_at_all (mark 3260) zeros zeros).answer)
