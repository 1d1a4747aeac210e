-- Document 02, request j), "A schedule that is checked": which messages can be scheduled, and their loads. Assumes nothing.
use Rattle.std.specs.Prelude.{ℕ, ◌+◌, ◌*◌, Bool, true, not, cond, ◌&&◌, ◌||◌, List, [], ◌∷◌, eqb, leb, replicate, set, take}
use Rattle.words.specs.Words.{code_of, words_of, is_mode, is_broadcast}
use Rattle.verdict.specs.Plans.{is_possible}
use Rattle.verdict.specs.declared.plans.Plan.{Plan}
use Rattle.schedule.specs.declared.messages.Message.{Message}
use Rattle.schedule.specs.declared.schedules.Schedule.{Schedule}

-- ---- "Up to 64 messages, each with a period of 1, 2, 4, 8, 16, 32 or 64 minor frames"

-- "Up to 64 messages"
abbrev pub messages_most : ℕ
messages_most = 64

-- The messages of a schedule: the first `count` of those that it has room for.
abbrev pub messages_in : Schedule → List Message
messages_in schedule = take schedule.count schedule.messages

-- A schedule of no messages.
unfoldable pub empty_schedule : Schedule
empty_schedule =
    record { count = 0; messages = replicate messages_most (record { commands = 0; first = record { 0 = 0 }; second = record { 0 = 0 }; period = 0 }) }

-- A schedule with one message more. There is no room for a 65th, but it counts.
unfoldable pub count_after : ℕ → ℕ
count_after count = cond (leb count messages_most) (count + 1) count

unfoldable pub with_of : Schedule → Message → Schedule
with_of schedule message = record { count = count_after schedule.count; messages = set schedule.messages schedule.count message }

-- "a period of 1, 2, 4, 8, 16, 32 or 64 minor frames"
unfoldable pub is_period : ℕ → Bool
is_period period =
    eqb period 1 || eqb period 2 || eqb period 4 || eqb period 8 || eqb period 16 || eqb period 32 || eqb period 64

-- The plan of a message. Whether it is possible depends neither on its bus nor on its times, so any will do.
abbrev pub plan_of : Message → Plan
plan_of message =
    record {
      commands = message.commands;
      first = message.first;
      second = message.second;
      bus = 0;
      last = record { 0 = 0 };
      until = record { 0 = 0 };
    }

-- not "another period or an impossible plan"
unfoldable pub is_fit : Message → Bool
is_fit message = is_period message.period && is_possible (plan_of message)

unfoldable pub are_fit : List Message → Bool
are_fit [] = true
are_fit (message ∷ messages) = is_fit message && are_fit messages

-- "more messages, another period or an impossible plan is refused with 15"
unfoldable pub is_refused : Schedule → Bool
is_refused schedule = not (leb schedule.count messages_most && are_fit (messages_in schedule))

-- ---- "Load of a message with n data words"

-- "n being 0 or 1 for mode codes": 1 for 16 to 21, which alone have a data word in the code table (mode_words_lem)
unfoldable pub mode_data_of : ℕ → ℕ
mode_data_of code = cond (leb 16 code && leb code 21) 1 0

-- n: the command's count ("Count 0 means 32."), for a mode command as above
unfoldable pub data_of : ℕ → ℕ
data_of word = cond (is_mode word) (mode_data_of (code_of word)) (words_of word)

-- "200(n+2)+100 for one terminal", "200(n+1) broadcast"
unfoldable pub single_load : ℕ → ℕ
single_load word = cond (is_broadcast word) (200 * (data_of word + 1)) (200 * (data_of word + 2) + 100)

-- "200(n+4)+200 between two terminals", "200(n+3)+100 broadcast from a terminal"; by the receive command
unfoldable pub pair_load : ℕ → ℕ
pair_load word = cond (is_broadcast word) (200 * (data_of word + 3) + 100) (200 * (data_of word + 4) + 200)

-- "plus 20 each": 20 for each message (DECISIONS 51)
unfoldable pub load_of : Message → ℕ
load_of message = cond (eqb message.commands 1) (single_load message.first.0) (pair_load message.first.0) + 20
