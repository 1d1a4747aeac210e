-- Document 01, "Numbers for a refused call", row by row, and those that document 02 adds. Assumes nothing.
use Rattle.std.specs.Prelude.{ℕ}
use Rattle.words.specs.declared.refusals.Refusal.{Refusal}
use Rattle.words.specs.declared.refusals.Refusal.TheVariants.{TableSize, OwnAddress, ShortRecord, RecordLength, OutOfRange, OutOfOrder, ImpossiblePlan, WrongVersion, NoRoom, Schedule}

-- no refusal (house)
abbrev pub not_refused : ℕ
not_refused = 0

-- "a lent word table is not 1,024 words, a lent mask table not 32 masks"
abbrev pub refused_table_size : ℕ
refused_table_size = 1

-- "own address above 30"
abbrev pub refused_own_address : ℕ
refused_own_address = 2

-- "fewer than 16 bytes for a record"
abbrev pub refused_short_record : ℕ
refused_short_record = 3

-- "record length not 14"
abbrev pub refused_record_length : ℕ
refused_record_length = 4

-- "a field or a time out of range; in a verdict, a record of another bus than the plan's"
abbrev pub refused_out_of_range : ℕ
refused_out_of_range = 5

-- "event earlier than the last; returned record not later than the one before (E first) or after Q"
abbrev pub refused_out_of_order : ℕ
refused_out_of_order = 6

-- "impossible plan"
abbrev pub refused_impossible_plan : ℕ
refused_impossible_plan = 7

-- "version not 1, or no byte"
abbrev pub refused_wrong_version : ℕ
refused_wrong_version = 8

-- "fewer than 16 bytes to write a record"
abbrev pub refused_no_room : ℕ
refused_no_room = 9

-- 02 j: "more messages, another period or an impossible plan is refused with 15"
abbrev pub refused_schedule : ℕ
refused_schedule = 15

-- The number of a refusal. None has `not_refused`, which is the number of a call that was not refused.
abbrev pub number_of : Refusal → ℕ
number_of TableSize = refused_table_size
number_of OwnAddress = refused_own_address
number_of ShortRecord = refused_short_record
number_of RecordLength = refused_record_length
number_of OutOfRange = refused_out_of_range
number_of OutOfOrder = refused_out_of_order
number_of ImpossiblePlan = refused_impossible_plan
number_of WrongVersion = refused_wrong_version
number_of NoRoom = refused_no_room
number_of Schedule = refused_schedule
