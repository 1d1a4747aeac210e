-- A plan as far as it is read, and the plan of a whole text (docs/LINES.md, busplan FILE; 02 j). Assumes nothing.
use Rattle.std.specs.Prelude.{ℕ, ◌+◌, ◌%◌, ◌^◌, Bool, true, false, cond, List, [], ◌∷◌, ◌++◌, replicate, ◌==◌, slice_set, Option, None, Some, Result, Ok, Err}
use Rattle.schedule.specs.declared.messages.Message.{Message}
use Rattle.schedule.specs.Messages.{empty_schedule, with_of}
use Rattle.plans.specs.declared.entries.Fault.{Fault}
use Rattle.plans.specs.declared.entries.Entry.{Entry}
use Rattle.plans.specs.declared.entries.Entry.TheVariants.{Capacities, Capacity, Placed, Unplaced}
use Rattle.plans.specs.declared.drafts.BadLine.{BadLine}
use Rattle.plans.specs.declared.drafts.Draft.{Draft}
use Rattle.plans.specs.Entries.{entry_of}

-- One more, in a number of 64 bits: exact for every text of fewer than 2^64 lines.
abbrev pub one_more : ℕ → ℕ
one_more number = (number + 1) % 2 ^ 64

-- ---- what is changed of a plan

-- "A frame that no line gives a capacity has 0."
unfoldable pub empty_draft : Draft
empty_draft = record {
  schedule = empty_schedule;
  lines = replicate 65 0;
  firsts = replicate 64 0;
  capacities = replicate 64 0;
  given = 0;
  unplaced = false;
  bad = None;
}

abbrev pub with_capacities : Draft → List ℕ → Draft
with_capacities d capacities = record {
  schedule = d.schedule;
  lines = d.lines;
  firsts = d.firsts;
  capacities = capacities;
  given = d.given;
  unplaced = d.unplaced;
  bad = d.bad;
}

-- A message more, and the number of its line. Of a 65th the line is kept too, to be told of.
abbrev pub with_message : Draft → Message → ℕ → Draft
with_message d message number = record {
  schedule = with_of d.schedule message;
  lines = slice_set d.lines d.schedule.count number;
  firsts = d.firsts;
  capacities = d.capacities;
  given = d.given;
  unplaced = d.unplaced;
  bad = d.bad;
}

-- The first frame of the message at a place.
abbrev pub with_first : Draft → ℕ → ℕ → Draft
with_first d place first = record {
  schedule = d.schedule;
  lines = d.lines;
  firsts = slice_set d.firsts place first;
  capacities = d.capacities;
  given = one_more d.given;
  unplaced = d.unplaced;
  bad = d.bad;
}

-- A message that has none.
abbrev pub without_first : Draft → Draft
without_first d = record {
  schedule = d.schedule;
  lines = d.lines;
  firsts = d.firsts;
  capacities = d.capacities;
  given = d.given;
  unplaced = true;
  bad = d.bad;
}

-- Other first frames for all messages.
abbrev pub with_firsts : Draft → List ℕ → Draft
with_firsts d firsts = record {
  schedule = d.schedule;
  lines = d.lines;
  firsts = firsts;
  capacities = d.capacities;
  given = d.given;
  unplaced = d.unplaced;
  bad = d.bad;
}

-- A bad line, and its number.
abbrev pub with_fault : Draft → Fault → ℕ → Draft
with_fault d wrong number = record {
  schedule = d.schedule;
  lines = d.lines;
  firsts = d.firsts;
  capacities = d.capacities;
  given = d.given;
  unplaced = d.unplaced;
  bad = Some (record { fault = wrong; line = number });
}

-- ---- line by line

-- What a line of that number adds. "Later lines win."
unfoldable pub with_entry : Draft → Entry → ℕ → Draft
with_entry d (Capacities ticks) number = with_capacities d (replicate 64 ticks)
with_entry d (Capacity frame ticks) number = with_capacities d (slice_set d.capacities frame ticks)
with_entry d (Placed message first) number = with_first (with_message d message number) d.schedule.count first
with_entry d (Unplaced message) number = without_first (with_message d message number)

unfoldable pub after_entry : Draft → Result (Option Entry) Fault → ℕ → Draft
after_entry d (Ok None) number = d
after_entry d (Ok (Some entry)) number = with_entry d entry number
after_entry d (Err wrong) number = with_fault d wrong number

unfoldable pub is_fault : Option BadLine → Bool
is_fault None = false
is_fault (Some bad) = true

-- The lines of a text: each ends at byte 10. "The last line may lack its end."
unfoldable pub lines_from : List ℕ → List ℕ → List (List ℕ)
lines_from line [] = line ∷ []
lines_from line (byte ∷ bytes) = cond (byte == 10) (line ∷ lines_from [] bytes) (lines_from (line ++ (byte ∷ [])) bytes)

-- The lines are taken in order. "Nothing behind it is read.": the first bad line ends the reading.
unfoldable pub draft_from : Draft → ℕ → List (List ℕ) → Draft
draft_from d number [] = d
draft_from d number (line ∷ lines) =
    cond (is_fault (after_entry d (entry_of line) number).bad)
    (after_entry d (entry_of line) number)
    (draft_from (after_entry d (entry_of line) number) (one_more number) lines)

-- "line N, counted from 1"
unfoldable pub plan_of : List ℕ → Draft
plan_of text = draft_from empty_draft 1 (lines_from [] text)
