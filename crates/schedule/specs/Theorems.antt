-- What is proved of schedules (02 j). Each is proved in proofs/ under the name at its side. Assumes nothing.
use Rattle.std.specs.Prelude.{ℕ, ◌+◌, ◌%◌, ◌≤◌, ◌<◌, ◌≡◌, true, false, cond, eqb, length, get_or, Option, None, Some, Ok, Err}
use mathlib.Core.List.{List, [], ◌∷◌, ◌++◌, map, Perm}
use Rattle.words.specs.Words.{is_mode}
use Rattle.words.specs.Modes.{listing_of, is_allowed}
use Rattle.words.specs.declared.modes.Listing.{Listing}
use Rattle.words.specs.declared.modes.ModeWord.{ModeWord}
use Rattle.schedule.specs.Messages.{messages_most, messages_in, with_of, is_refused, data_of, load_of}
use Rattle.schedule.specs.Frames.{Placed, placed_of, comes_in, frame_load, frames_all, check_of}
use Rattle.schedule.specs.declared.messages.Message.{Message}
use Rattle.schedule.specs.declared.schedules.Schedule.{Schedule}
use Rattle.schedule.specs.declared.schedules.Rejection.TheVariants as rejection

-- ---- what the check says

-- the period of the message at a place
abbrev pub period_at : Schedule → ℕ → ℕ
period_at schedule i = get_or (map (λ (m : Message). m.period) (messages_in schedule)) i 0

-- the load of a frame
abbrev pub load_at : Schedule → List ℕ → ℕ → ℕ
load_at schedule firsts frame = frame_load frame (placed_of (messages_in schedule) firsts)

-- "each first frame is below the period", of so many messages from the first on
abbrev pub BelowUpTo : ℕ → Schedule → List ℕ → Type 0
BelowUpTo n schedule firsts = (i : ℕ) → i < n → get_or firsts i 0 < period_at schedule i

-- no frame "is loaded above its capacity", of so many frames from the first on
abbrev pub FitUpTo : ℕ → Schedule → List ℕ → List ℕ → Type 0
FitUpTo n schedule firsts capacities = (frame : ℕ) → frame < n → load_at schedule firsts frame ≤ get_or capacities frame 0

-- a schedule that is not refused, with first frames that are all below the period and load no frame of the 64 above its capacity
pub record Sound (schedule : Schedule) (firsts capacities : List ℕ) : Type 0 where
  pub taken : is_refused schedule ≡ false
  pub below : BelowUpTo (length (messages_in schedule)) schedule firsts
  pub fit : FitUpTo frames_all schedule firsts capacities

-- "A separate check accepts exactly if each first frame is below the period and no frame of the 64 is loaded above its capacity in ticks." A refused schedule
-- is never accepted: accepted_exactly
abbrev pub AcceptedExactly : Type 0
AcceptedExactly =
    (schedule : Schedule) (firsts capacities : List ℕ) → length firsts ≡ frames_all → length capacities ≡ frames_all
    → (check_of schedule firsts capacities ≡ Ok tt → Sound schedule firsts capacities)
    × (Sound schedule firsts capacities → check_of schedule firsts capacities ≡ Ok tt)

-- the message at a place offends, and none before it does
pub record FirstOffending (schedule : Schedule) (firsts : List ℕ) (place : ℕ) : Type 0 where
  pub taken : is_refused schedule ≡ false
  pub there : place < length (messages_in schedule)
  pub offends : period_at schedule place ≤ get_or firsts place 0
  pub before : BelowUpTo place schedule firsts

-- no message offends, a frame is loaded above its capacity, and none before it is
pub record FirstOverloaded (schedule : Schedule) (firsts capacities : List ℕ) (frame : ℕ) : Type 0 where
  pub taken : is_refused schedule ≡ false
  pub below : BelowUpTo (length (messages_in schedule)) schedule firsts
  pub there : frame < frames_all
  pub above : get_or capacities frame 0 < load_at schedule firsts frame
  pub before : FitUpTo frame schedule firsts capacities

-- "A rejection names the first offending message, or else the first frame.", and where there is one it is named: first_named
abbrev pub FirstNamed : Type 0
FirstNamed =
    (schedule : Schedule) (firsts capacities : List ℕ) → length firsts ≡ frames_all → length capacities ≡ frames_all → (n : ℕ)
    → (check_of schedule firsts capacities ≡ Err (rejection.Message n) → FirstOffending schedule firsts n)
    × (FirstOffending schedule firsts n → check_of schedule firsts capacities ≡ Err (rejection.Message n))
    × (check_of schedule firsts capacities ≡ Err (rejection.Frame n) → FirstOverloaded schedule firsts capacities n)
    × (FirstOverloaded schedule firsts capacities n → check_of schedule firsts capacities ≡ Err (rejection.Frame n))

-- "An empty list is accepted.", whatever the first frames and the capacities: empty_accepted
abbrev pub EmptyAccepted : Type 0
EmptyAccepted =
    (schedule : Schedule) → schedule.count ≡ 0
    → (firsts capacities : List ℕ) → length capacities ≡ frames_all
    → check_of schedule firsts capacities ≡ Ok tt

-- What is accepted is accepted too at capacities each of which is at least as large: more_room
abbrev pub MoreRoom : Type 0
MoreRoom =
    (schedule : Schedule) (firsts capacities wider : List ℕ) → length capacities ≡ frames_all → length wider ≡ frames_all
    → ((frame : ℕ) → frame < frames_all → get_or capacities frame 0 ≤ get_or wider frame 0)
    → check_of schedule firsts capacities ≡ Ok tt
    → check_of schedule firsts wider ≡ Ok tt

-- ---- the load of a message

-- one for a data word in the code table, "sent" or "received"
abbrev pub words_by : Option ModeWord → ℕ
words_by None = 0
words_by (Some word) = 1

abbrev pub word_in : Option Listing → ℕ
word_in None = 0
word_in (Some listing) = words_by listing.word

-- "n being 0 or 1 for mode codes": for a mode command that the code table allows, n is what the table has under "data word": mode_words_lem
abbrev pub ModeWords : Type 0
ModeWords = (word : ℕ) → is_mode word ≡ true → is_allowed word ≡ true → data_of word ≡ word_in (listing_of word)

-- ---- the load of a frame

-- the messages that come in a frame
abbrev pub coming_in : ℕ → List Placed → List Placed
coming_in frame [] = []
coming_in frame (p ∷ ps) = cond (comes_in frame p) (p ∷ coming_in frame ps) (coming_in frame ps)

-- the sum of the loads of some messages
abbrev pub sum_of : List Placed → ℕ
sum_of [] = 0
sum_of (p ∷ ps) = load_of p.message + sum_of ps

-- The load of a frame is the sum of the loads of the messages that come in it, the same in whatever order they stand; and of two lists, one behind the other,
-- it is the sum of both loads: load_adds
abbrev pub LoadAdds : Type 0
LoadAdds =
    (frame : ℕ) (ps qs : List Placed)
    → (frame_load frame ps ≡ sum_of (coming_in frame ps))
    × (Perm ps qs → frame_load frame ps ≡ frame_load frame qs)
    × (frame_load frame (ps ++ qs) ≡ frame_load frame ps + frame_load frame qs)

-- ---- the frames of a message

-- A message whose first frame is below its period comes in exactly the frames whose remainder by the period is the first frame: comes_by_remainder
abbrev pub ComesByRemainder : Type 0
ComesByRemainder =
    (p : Placed) → p.start < p.message.period
    → (frame : ℕ) → comes_in frame p ≡ eqb (frame % p.message.period) p.start

-- So of any frames that follow one another, as many as its period, it comes in exactly one: once_a_period
abbrev pub OnceAPeriod : Type 0
OnceAPeriod =
    (p : Placed) → p.start < p.message.period
    → (from : ℕ)
    → (n : ℕ) × (n < p.message.period) × (comes_in (from + n) p ≡ true)
    × ((m : ℕ) → m < p.message.period → comes_in (from + m) p ≡ true → m ≡ n)

-- ---- schedules as they are made

-- A message more stands behind the others, up to 64; a schedule with one more than that is refused, and with any more: one_more_lem
abbrev pub OneMore : Type 0
OneMore =
    (schedule : Schedule) (message : Message) → length schedule.messages ≡ messages_most
    → (schedule.count < messages_most → messages_in (with_of schedule message) ≡ messages_in schedule ++ (message ∷ []))
    × (messages_most ≤ schedule.count → is_refused (with_of schedule message) ≡ true)
