-- Document 01, "Word records on file (house)" and "Reading a file": a file of records. Assumes nothing.
use Rattle.std.specs.Prelude.{ℕ, zero, suc, ◌+◌, cond, List, [], ◌∷◌, ◌++◌, leb, eqb, length, drop, Option, Some, None, Result, Ok, Err}
use Rattle.words.specs.declared.refusals.Refusal.{Refusal}
use Rattle.words.specs.declared.refusals.Refusal.TheVariants.{WrongVersion}
use Rattle.records.specs.Records.{record_bytes, last_bus, form_of, read_of}
use Rattle.records.specs.declared.forms.WordRecord.{WordRecord}
use Rattle.records.specs.declared.files.Cursor.{Cursor}

-- "One version byte, 1, opens the file."
abbrev pub version : ℕ
version = 1

-- "bus (1: 0 is A, 1 is B)": the last bus of a record in a file of the version that the byte says.
abbrev pub last_bus_of : ℕ → ℕ
last_bus_of byte = last_bus

-- The forms of some records, one after the other, and the file of them.
unfoldable pub forms_of : List WordRecord → List ℕ
forms_of [] = []
forms_of (r ∷ rs) = form_of r ++ forms_of rs

abbrev pub file_of : List WordRecord → List ℕ
file_of rs = version ∷ forms_of rs

-- "version not 1, or no byte": 8
unfoldable pub open_of : List ℕ → Result Cursor Refusal
open_of [] = Err WrongVersion
open_of (first ∷ rest) = cond (eqb first version) (Ok (record { at = 1; last_bus = last_bus_of first })) (Err WrongVersion)

-- "then record by record 3, 4, 5; no byte left is its end"
abbrev pub step_from : Cursor → Result WordRecord Refusal → Result (Option (WordRecord × Cursor)) Refusal
step_from c (Ok r) = Ok (Some (r, record { at = c.at + record_bytes; last_bus = c.last_bus }))
step_from c (Err n) = Err n

unfoldable pub next_of : List ℕ → Cursor → Result (Option (WordRecord × Cursor)) Refusal
next_of file c = cond (leb (length file) c.at) (Ok None) (step_from c (read_of c.last_bus (drop c.at file)))

-- The whole walk: all records, or the first refusal.
pub data Walk : Type 0 where
  whole : List WordRecord → Walk
  stops : Refusal → Walk

abbrev pub with : WordRecord → Walk → Walk
with r (whole rs) = whole (r ∷ rs)
with r (stops n) = stops n

abbrev pub go_on : Result WordRecord Refusal → Walk → Walk
go_on (Ok r) rest = with r rest
go_on (Err n) rest = stops n

-- Of bytes, at most n records, where `last` is the last bus. There are never more records than bytes, so the first line is reached at the
-- end alone: `only_file`.
unfoldable pub walk_from : ℕ → ℕ → List ℕ → Walk
walk_from last zero bytes = whole []
walk_from last (suc n) bytes =
    cond (eqb (length bytes) 0) (whole []) (go_on (read_of last bytes) (walk_from last n (drop record_bytes bytes)))

-- The walk over a file from a place on.
abbrev pub walk_by : Cursor → List ℕ → Walk
walk_by c file = walk_from c.last_bus (length file) (drop c.at file)

abbrev pub walk_at : Result Cursor Refusal → List ℕ → Walk
walk_at (Ok c) file = walk_by c file
walk_at (Err n) file = stops n

unfoldable pub walk_of : List ℕ → Walk
walk_of file = walk_at (open_of file) file

abbrev pub counts : Walk → Result ℕ Refusal
counts (whole rs) = Ok (length rs)
counts (stops n) = Err n

unfoldable pub counted_of : List ℕ → Result ℕ Refusal
counted_of file = counts (walk_of file)
