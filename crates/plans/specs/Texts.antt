-- The text of a schedule that was accepted, as `-o OUT` writes it (docs/LINES.md, busplan FILE). Assumes nothing.
use Rattle.std.specs.Prelude.{ℕ, suc, Bool, true, cond, ◌&&◌, List, [], ◌∷◌, ◌++◌, ◌==◌, slice_index}
use Rattle.lines.specs.Sinks.{word_text, decimal_text}
use Rattle.schedule.specs.declared.messages.Message.{Message}
use Rattle.schedule.specs.declared.schedules.Schedule.{Schedule}
use Rattle.schedule.specs.Messages.{messages_in}
use Rattle.schedule.specs.Frames.{Placed, placed_of}
use Rattle.plans.specs.Entries.{capacity_text, message_text}

-- The parts of a line, one space apart, and the end of the line.
unfoldable pub line_text : List (List ℕ) → List ℕ
line_text [] = 10 ∷ []
line_text (part ∷ []) = part ++ (10 ∷ [])
line_text (part ∷ next ∷ parts) = part ++ (32 ∷ line_text (next ∷ parts))

-- ---- "its capacities, in one line where all 64 are the same and else in 64"

unfoldable pub are_all : ℕ → List ℕ → Bool
are_all wanted [] = true
are_all wanted (number ∷ numbers) = number == wanted && are_all wanted numbers

-- "`capacity FRAME TICKS`" of each, from a frame on
unfoldable pub capacity_lines : ℕ → List ℕ → List ℕ
capacity_lines frame [] = []
capacity_lines frame (ticks ∷ capacities) =
    line_text (capacity_text ∷ decimal_text frame ∷ decimal_text ticks ∷ []) ++ capacity_lines (suc frame) capacities

-- "`capacity TICKS`", or each
unfoldable pub capacities_text : List ℕ → List ℕ
capacities_text capacities =
    cond (are_all (slice_index capacities 0) capacities)
    (line_text (capacity_text ∷ decimal_text (slice_index capacities 0) ∷ []))
    (capacity_lines 0 capacities)

-- ---- "and each message with the first frame that holds"

-- "`message C1 [C2] PERIOD [FIRST]`", each with its first frame
unfoldable pub message_parts : Message → ℕ → List (List ℕ)
message_parts message first =
    cond (message.commands == 1)
    (message_text ∷ word_text message.first.0 ∷ decimal_text message.period ∷ decimal_text first ∷ [])
    (message_text ∷ word_text message.first.0 ∷ word_text message.second.0 ∷ decimal_text message.period ∷ decimal_text first ∷ [])

unfoldable pub message_lines : List Placed → List ℕ
message_lines [] = []
message_lines (placed ∷ others) = line_text (message_parts placed.message placed.start) ++ message_lines others

-- "`-o OUT` writes the schedule that was accepted"
unfoldable pub plan_text : Schedule → List ℕ → List ℕ → List ℕ
plan_text schedule firsts capacities = capacities_text capacities ++ message_lines (placed_of (messages_in schedule) firsts)
