-- What is proved of reading a plan (02 j). Each is proved in proofs/ under the name at its side. Assumes nothing.
use Rattle.std.specs.Prelude.{◌≡◌, ℕ, ◌^◌, ◌<◌, ◌≤◌, false, ◌⊎◌, List, [], ◌∷◌, ◌++◌, length, take, None}
use Rattle.schedule.specs.declared.messages.Message.{Message}
use Rattle.schedule.specs.declared.schedules.Schedule.{Schedule}
use Rattle.schedule.specs.Messages.{messages_most, messages_in}
use Rattle.schedule.specs.Frames.{check_of}
use Rattle.plans.specs.declared.drafts.Draft.{Draft}
use Rattle.plans.specs.declared.readings.Reading.{Reading}
use Rattle.plans.specs.Drafts.{plan_of}
use Rattle.plans.specs.Machine.{start_of, fed_of, ended_of}
use Rattle.plans.specs.Texts.{plan_text}

-- ---- the machine, fed in any chunks

-- The reading after chunks, and the text that they make.
abbrev pub fed_all : Reading → List (List ℕ) → Reading
fed_all r [] = r
fed_all r (chunk ∷ chunks) = fed_all (fed_of r chunk) chunks

abbrev pub joined : List (List ℕ) → List ℕ
joined [] = []
joined (chunk ∷ chunks) = chunk ++ joined chunks

-- In whatever chunks a text is handed over, the end gives the plan of the whole text: chunks_do_not_matter
abbrev pub ChunksDoNotMatter : Type 0
ChunksDoNotMatter = (chunks : List (List ℕ)) → ended_of (fed_all start_of chunks) ≡ plan_of (joined chunks)

-- A reading that says that there is no more has the plan of the text whatever comes behind: nothing_behind
abbrev pub NothingBehind : Type 0
NothingBehind =
    (text behind : List ℕ) → (fed_of start_of text).more ≡ false → plan_of (text ++ behind) ≡ (fed_of start_of text).draft

-- ---- there and back

-- A message as a plan can say it: its words have 16 bits, "No period that is taken needs four digits.", and of one command the second word stands for nothing.
pub record Sayable (message : Message) : Type 0 where
  pub first : message.first.0 < 2 ^ 16
  pub second : message.second.0 < 2 ^ 16
  pub period : message.period < 1000
  pub commands : ((message.commands ≡ 1) × (message.second ≡ message.first)) ⊎ (message.commands ≡ 2)

abbrev pub AllSayable : List Message → Type 0
AllSayable [] = Unit {0}
AllSayable (message ∷ messages) = Sayable message × AllSayable messages

-- Numbers of 64 bits.
abbrev pub AllFit : List ℕ → Type 0
AllFit [] = Unit {0}
AllFit (number ∷ numbers) = (number < 2 ^ 64) × AllFit numbers

-- A schedule that can be written: at most 64 messages, a first frame for each, and 64 capacities.
pub record Writable (schedule : Schedule) (firsts capacities : List ℕ) : Type 0 where
  pub count : schedule.count ≤ messages_most
  pub messages : length schedule.messages ≡ messages_most
  pub sayable : AllSayable (messages_in schedule)
  pub firsts_all : length firsts ≡ messages_most
  pub firsts_fit : AllFit firsts
  pub capacities_all : length capacities ≡ 64
  pub capacities_fit : AllFit capacities

-- The plan is that schedule, every message has its first frame, and no line is bad.
pub record SaidBack (schedule : Schedule) (firsts capacities : List ℕ) (d : Draft) : Type 0 where
  pub count : d.schedule.count ≡ schedule.count
  pub messages : messages_in d.schedule ≡ messages_in schedule
  pub first_frames : take schedule.count d.firsts ≡ take schedule.count firsts
  pub frames : d.capacities ≡ capacities
  pub placed : d.unplaced ≡ false
  pub whole : d.bad ≡ None

-- What is written of a schedule, read, is the schedule: plan_read_back
abbrev pub PlanReadBack : Type 0
PlanReadBack =
    (schedule : Schedule) (firsts capacities : List ℕ) → Writable schedule firsts capacities
    → SaidBack schedule firsts capacities (plan_of (plan_text schedule firsts capacities))

-- "`busplan OUT` then accepts the same schedule.": the check says of it what it said of the schedule: checked_again
abbrev pub CheckedAgain : Type 0
CheckedAgain =
    (schedule : Schedule) (firsts capacities : List ℕ) → Writable schedule firsts capacities
    → check_of (plan_of (plan_text schedule firsts capacities)).schedule (plan_of (plan_text schedule firsts capacities)).firsts (plan_of (plan_text schedule firsts capacities)).capacities
    ≡ check_of schedule firsts capacities
