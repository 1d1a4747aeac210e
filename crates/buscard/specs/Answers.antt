-- What C gets: numbers for yes and no and for a kind of spacing, a record and a plan as six numbers, and what stays behind a pointer. Assumes nothing.
use Rattle.std.specs.Prelude.{Bool, cond, ℕ, Result, Ok, Err}
use Rattle.words.specs.declared.refusals.Refusal.{Refusal}
use Rattle.words.specs.declared.times.Spacing.{Spacing}
use Rattle.words.specs.declared.times.Spacing.TheVariants.{Overlapping, BackToBack, Separated}
use Rattle.records.specs.declared.forms.WordRecord.{WordRecord}
use Rattle.verdict.specs.declared.plans.Plan.{Plan}

-- 1 for yes, else 0.
unfoldable pub one_if : Bool → ℕ
one_if answer = cond answer 1 0

-- "overlapping (below 195), back to back, or separated (above 205)" (02 i): 0, 1, 2 in this order (house).
abbrev pub spacing_number : Spacing → ℕ
spacing_number (Overlapping distance) = 0
spacing_number (BackToBack distance) = 1
spacing_number (Separated distance) = 2

-- The record of six numbers.
abbrev pub record_of : ℕ → ℕ → ℕ → ℕ → ℕ → ℕ → WordRecord
record_of time bus sync faults word parity = record {
  time = record { 0 = time };
  bus = bus;
  sync = sync;
  faults = faults;
  word = word;
  parity = parity;
}

-- "A refusal gives its number and nothing else; state, tables and buffers stay.": a number of what a call gave, or what was there.
abbrev pub field_or : {T : Type 0} → Result T Refusal → (T → ℕ) → ℕ → ℕ
field_or (Ok value) field before = field value
field_or (Err refusal) field before = before

-- The plan of six numbers.
abbrev pub plan_of : ℕ → ℕ → ℕ → ℕ → ℕ → ℕ → Plan
plan_of commands first second bus last until = record {
  commands = commands;
  first = record { 0 = first };
  second = record { 0 = second };
  bus = bus;
  last = record { 0 = last };
  until = record { 0 = until };
}
