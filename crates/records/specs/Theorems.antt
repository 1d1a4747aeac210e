-- What holds of records and files beyond each function's own promise. Each is proved in proofs/ under the name at its side. Assumes
-- nothing.
use Rattle.std.specs.Prelude.{ℕ, suc, ◌^◌, ◌≤◌, ◌<◌, ◌≡◌, true, false, List, [], ◌∷◌, ◌++◌, length, get_or, take, drop, Option, Some, None, Result, Ok, Err}
use Rattle.words.specs.Refusals.{not_refused}
use Rattle.records.specs.Numbers.{number_of}
use Rattle.records.specs.Records.{record_bytes, last_bus, in_range, form_of, record_at, read_of, write_refusal, written_of}
use Rattle.records.specs.Files.{version, last_bus_of, file_of, next_of, Walk, whole, stops, with, walk_from, walk_of}
use Rattle.words.specs.declared.refusals.Refusal.{Refusal}
use Rattle.words.specs.declared.refusals.Refusal.TheVariants.{ShortRecord, RecordLength, OutOfRange, WrongVersion}
use Rattle.records.specs.declared.forms.WordRecord.{WordRecord}
use Rattle.records.specs.declared.files.Cursor.{Cursor}

-- Each is a byte.
abbrev pub Bytes : List ℕ → Type 0
Bytes bytes = (i : ℕ) → get_or bytes i 0 < 256

-- A record that can be written where `last` is the last bus: in range, its word of 16 bits.
pub record Fits (last : ℕ) (r : WordRecord) : Type 0 where
  pub ranged : in_range last r ≡ true
  pub sixteen : r.word < 2 ^ 16

abbrev pub AllFit : ℕ → List WordRecord → Type 0
AllFit last [] = Unit {0}
AllFit last (r ∷ rs) = Fits last r × AllFit last rs

-- A written form, whatever stands after it, is read as its record: read_written
abbrev pub ReadWritten : Type 0
ReadWritten = (last : ℕ) (r : WordRecord) (after : List ℕ) → Fits last r → read_of last (form_of r ++ after) ≡ Ok r

-- Writing such a record where there is room is not refused, is read back, and leaves all bytes behind the first 16: write_read
abbrev pub WriteRead : Type 0
WriteRead =
    (r : WordRecord) (bytes : List ℕ) → Fits last_bus r → record_bytes ≤ length bytes
    → (write_refusal r bytes ≡ not_refused)
    × (read_of last_bus (written_of r bytes) ≡ Ok r)
    × (drop record_bytes (written_of r bytes) ≡ drop record_bytes bytes)

-- Bytes that are read as a record are its written form: only_form
abbrev pub OnlyForm : Type 0
OnlyForm = (last : ℕ) (bytes : List ℕ) (r : WordRecord) → Bytes bytes → read_of last bytes ≡ Ok r → take 16 bytes ≡ form_of r

-- What is read fits, so what is read with the last bus of a record in no file can be written: read_fits
abbrev pub ReadFits : Type 0
ReadFits = (last : ℕ) (bytes : List ℕ) (r : WordRecord) → Bytes bytes → read_of last bytes ≡ Ok r → Fits last r

-- So no two byte forms are read as one record: one_form
abbrev pub OneForm : Type 0
OneForm =
    (last : ℕ) (bytes others : List ℕ) (r : WordRecord) → Bytes bytes → Bytes others → read_of last bytes ≡ Ok r → read_of last others ≡ Ok r
    → take 16 bytes ≡ take 16 others

-- Which bytes are refused, with which number, and that no others are: refused_exactly
pub record ReadCases (last : ℕ) (bytes : List ℕ) : Type 0 where
  pub short : length bytes < 16 → read_of last bytes ≡ Err ShortRecord
  pub length_wrong : 16 ≤ length bytes → (number_of (take 2 bytes) ≡ 14 → ⊥) → read_of last bytes ≡ Err RecordLength
  pub out_of_range : 16 ≤ length bytes → number_of (take 2 bytes) ≡ 14 → in_range last (record_at bytes) ≡ false → read_of last bytes ≡ Err OutOfRange
  pub no_other : 16 ≤ length bytes → number_of (take 2 bytes) ≡ 14 → in_range last (record_at bytes) ≡ true → read_of last bytes ≡ Ok (record_at bytes)

abbrev pub RefusedExactly : Type 0
RefusedExactly = (last : ℕ) (bytes : List ℕ) → ReadCases last bytes

-- What a step of the cursor adds to the walk from the place after it.
abbrev pub step_of : Result (Option (WordRecord × Cursor)) Refusal → (Cursor → Walk) → Walk
step_of (Ok (Some (r, c))) rest = with r (rest c)
step_of (Ok None) rest = whole []
step_of (Err n) rest = stops n

-- The cursor's steps are those of the walk over the whole file: next_walk
abbrev pub NextWalk : Type 0
NextWalk =
    (file : List ℕ) (c : Cursor) (n : ℕ)
    → walk_from c.last_bus (suc n) (drop c.at file)
    ≡ step_of (next_of file c) (λ (place : Cursor). walk_from place.last_bus n (drop place.at file))

-- A written file is read as its records: file_written
abbrev pub FileWritten : Type 0
FileWritten = (rs : List WordRecord) → AllFit (last_bus_of version) rs → walk_of (file_of rs) ≡ whole rs

-- And only that file is: only_file
abbrev pub OnlyFile : Type 0
OnlyFile = (file : List ℕ) (rs : List WordRecord) → Bytes file → walk_of file ≡ whole rs → file ≡ file_of rs

-- "Reading a file: 8, then record by record 3, 4, 5": a file stops at its version, or behind good records at what reading refuses:
-- file_refused
pub record FileStops : Type 0 where
  pub no_byte : walk_of [] ≡ stops WrongVersion
  pub other_version : (first : ℕ) (rest : List ℕ) → (first ≡ version → ⊥) → walk_of (first ∷ rest) ≡ stops WrongVersion
  pub at_record : (rs : List WordRecord) (rest : List ℕ) (n : Refusal) → AllFit (last_bus_of version) rs → 0 < length rest → read_of (last_bus_of version) rest ≡ Err n → walk_of (file_of rs ++ rest) ≡ stops n

-- "A file of one record, time 1000, bus A, command 2842, parity 1, is whole: `01 00 0E 00 00 00 00 00 00 03 E8 00 00 00 28 42 01`": example
abbrev pub example_record : WordRecord
example_record = record { time = record { 0 = 1000 }; bus = 0; sync = 0; faults = 0; word = 0x2842; parity = 1 }

abbrev pub example_file : List ℕ
example_file =
    0x01 ∷ 0x00 ∷ 0x0E ∷ 0x00 ∷ 0x00 ∷ 0x00 ∷ 0x00 ∷ 0x00 ∷ 0x00 ∷ 0x03 ∷ 0xE8 ∷ 0x00 ∷ 0x00 ∷ 0x00 ∷ 0x28 ∷ 0x42 ∷ 0x01 ∷ []

abbrev pub Example : Type 0
Example = (file_of (example_record ∷ []) ≡ example_file) × (walk_of example_file ≡ whole (example_record ∷ []))
