-- Document 02, request j), "A schedule that is checked": the loads of the frames, the check, and what the planner promises. Assumes nothing.
use Rattle.std.specs.Prelude.{ℕ, zero, suc, ◌+◌, ◌-◌, ◌%◌, ◌≡◌, Bool, false, cond, ◌&&◌, List, [], ◌∷◌, eqb, ltb, leb, length, Option, None, Some, Result, Ok, Err}
use Rattle.words.specs.declared.refusals.Refusal.{Refusal}
use Rattle.words.specs.declared.refusals.Refusal.TheVariants as refusal
use Rattle.schedule.specs.Messages.{messages_in, is_refused, load_of}
use Rattle.schedule.specs.declared.messages.Message.{Message}
use Rattle.schedule.specs.declared.schedules.Schedule.{Schedule}
use Rattle.schedule.specs.declared.schedules.Rejection.{Rejection}
use Rattle.schedule.specs.declared.schedules.Rejection.TheVariants as rejection

-- ---- "A planner proposes a first frame for each"

-- A message and its first frame.
pub record Placed : Type 0 where
  pub message : Message
  pub start : ℕ

-- Each message with the first frame that stands in its place; there are 64, so none is without.
unfoldable pub placed_of : List Message → List ℕ → List Placed
placed_of [] firsts = []
placed_of (message ∷ messages) [] = []
placed_of (message ∷ messages) (first ∷ firsts) = record { message = message; start = first } ∷ placed_of messages firsts

-- It comes in its first frame and in each a period later (DECISIONS 52); of a period of 0, which is refused, in its first alone.
unfoldable pub comes_in : ℕ → Placed → Bool
comes_in frame placed = leb placed.start frame && eqb ((frame - placed.start) % placed.message.period) 0

-- What a message adds to a frame.
unfoldable pub part_in : ℕ → Placed → ℕ
part_in frame placed = cond (comes_in frame placed) (load_of placed.message) 0

-- What a frame is loaded with: the loads of the messages that come in it.
unfoldable pub frame_load : ℕ → List Placed → ℕ
frame_load frame [] = 0
frame_load frame (placed ∷ others) = part_in frame placed + frame_load frame others

-- "the 64" frames
abbrev pub frames_all : ℕ
frames_all = 64

-- The loads of so many frames, from one on.
unfoldable pub loads_from : ℕ → ℕ → List Placed → List ℕ
loads_from zero frame placed = []
loads_from (suc count) frame placed = frame_load frame placed ∷ loads_from count (suc frame) placed

unfoldable pub loads_of : List Placed → List ℕ
loads_of placed = loads_from frames_all 0 placed

-- ---- "A separate check accepts exactly if each first frame is below the period and no frame of the 64 is loaded above its capacity in ticks."

-- "each first frame is below the period"
unfoldable pub is_below : Placed → Bool
is_below placed = ltb placed.start placed.message.period

-- "the first offending message": how many stand before it; all, where none offends
unfoldable pub before_offending : List Placed → ℕ
before_offending [] = 0
before_offending (placed ∷ others) = cond (is_below placed) (suc (before_offending others)) 0

-- "or else the first frame": how many before it are not "loaded above its capacity"; all, where none is. There are 64 of both.
unfoldable pub before_overloaded : List ℕ → List ℕ → ℕ
before_overloaded [] capacities = 0
before_overloaded (load ∷ loads) [] = 0
before_overloaded (load ∷ loads) (capacity ∷ capacities) = cond (leb load capacity) (suc (before_overloaded loads capacities)) 0

-- That number, where it is below the end, or none.
abbrev pub found_below : ℕ → ℕ → Option ℕ
found_below n end = cond (ltb n end) (Some n) None

-- The frame of that number, or, behind the last, none: accepted.
unfoldable pub frame_outcome : ℕ → Result Unit Rejection
frame_outcome frame = cond (ltb frame frames_all) (Err (rejection.Frame frame)) (Ok tt)

-- "A rejection names the first offending message, or else the first frame. An empty list is accepted."
unfoldable pub outcome_of : List Placed → List ℕ → Result Unit Rejection
outcome_of placed capacities =
    cond (ltb (before_offending placed) (length placed))
    (Err (rejection.Message (before_offending placed)))
    (frame_outcome (before_overloaded (loads_of placed) capacities))

-- "refused with 15": before all else, whichever message it is
unfoldable pub check_of : Schedule → List ℕ → List ℕ → Result Unit Rejection
check_of schedule firsts capacities =
    cond (is_refused schedule) (Err (rejection.Refused refusal.Schedule)) (outcome_of (placed_of (messages_in schedule) firsts) capacities)

-- ---- "A planner proposes a first frame for each; it may use any method and may say that it found none. .. The planner's own output goes through the same check."

-- What its answer means: first frames that it proposes are accepted by the check; where it found none the schedule is not refused; and it refuses what the check
-- refuses, whatever the first frames.
abbrev pub Answers : Schedule → List ℕ → Result (Option (List ℕ)) Refusal → Type 0
Answers schedule capacities (Ok (Some firsts)) = check_of schedule firsts capacities ≡ Ok tt
Answers schedule capacities (Ok None) = is_refused schedule ≡ false
Answers schedule capacities (Err refused) = (firsts : List ℕ) → check_of schedule firsts capacities ≡ Err (rejection.Refused refused)
