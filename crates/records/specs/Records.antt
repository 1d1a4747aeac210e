-- Document 01, "Word records on file (house)": one record. Bytes are numbers below 256. Assumes nothing.
use Rattle.std.specs.Prelude.{ℕ, Bool, cond, ◌&&◌, List, [], ◌∷◌, ◌++◌, ltb, leb, eqb, length, get_or, take, drop, Result, Ok, Err, ⊤}
use Rattle.words.specs.Words.{on_clock}
use Rattle.words.specs.Refusals.{not_refused, number_of as refusal_number}
use Rattle.words.specs.declared.refusals.Refusal.{Refusal}
use Rattle.words.specs.declared.refusals.Refusal.TheVariants.{ShortRecord, RecordLength, OutOfRange, NoRoom}
use Rattle.records.specs.Numbers.{number_of, bytes_of}
use Rattle.records.specs.declared.forms.WordRecord.{WordRecord}

-- "Each record: length (2 bytes, always 14)", in all 16 bytes.
abbrev pub length_number : ℕ
length_number = 14

abbrev pub record_bytes : ℕ
record_bytes = 16

-- "bus (1: 0 is A, 1 is B)": the last bus of a record that is in no file.
abbrev pub last_bus : ℕ
last_bus = 1

-- "time (8), bus (1: ..), sync (1: 0 command/status, 1 data, 2 neither), receiver faults (1: 1 Manchester, 2 bit count, 3 both, 0 none), word
-- (2), parity bit (1)": which numbers are in range where `last` is the last bus. A time is "0 to 2^48 - 1", a parity bit 0 or 1, the word any
-- of 16 bits.
abbrev pub in_range : ℕ → WordRecord → Bool
in_range last r = on_clock r.time.0 && leb r.bus last && leb r.sync 2 && leb r.faults 3 && leb r.parity 1

-- "Each record: length (2 bytes, always 14), time (8), bus (1: ..), sync (1: ..), receiver faults (1: ..), word (2), parity bit (1)."
abbrev pub form_of : WordRecord → List ℕ
form_of r =
    bytes_of 2 length_number ++ (bytes_of 8 r.time.0 ++ (r.bus ∷ r.sync ∷ r.faults ∷ (bytes_of 2 r.word ++ (r.parity ∷ []))))

-- The record that 16 bytes spell.
abbrev pub record_at : List ℕ → WordRecord
record_at bytes = record {
  time = record { 0 = number_of (take 8 (drop 2 bytes)) };
  bus = get_or bytes 10 0;
  sync = get_or bytes 11 0;
  faults = get_or bytes 12 0;
  word = number_of (take 2 (drop 13 bytes));
  parity = get_or bytes 15 0;
}

-- Reading, where `last` is the last bus: "fewer than 16 bytes for a record" 3, "record length not 14" 4, "a field or a time out of range" 5.
unfoldable pub read_of : ℕ → List ℕ → Result WordRecord Refusal
read_of last bytes =
    cond (ltb (length bytes) record_bytes) (Err ShortRecord)
    (cond (eqb (number_of (take 2 bytes)) length_number)
    (cond (in_range last (record_at bytes)) (Ok (record_at bytes)) (Err OutOfRange))
    (Err RecordLength))

-- The number of a refusal, 0 where there is none.
abbrev pub refusal_of : {T : Type 0} → Result T Refusal → ℕ
refusal_of (Ok value) = not_refused
refusal_of (Err refusal) = refusal_number refusal

-- "Writing: 9, 5.": "fewer than 16 bytes to write a record", then "a field or a time out of range".
unfoldable pub writes : WordRecord → List ℕ → Result ⊤ Refusal
writes r bytes = cond (ltb (length bytes) record_bytes) (Err NoRoom) (cond (in_range last_bus r) (Ok tt) (Err OutOfRange))

abbrev pub write_refusal : WordRecord → List ℕ → ℕ
write_refusal r bytes = refusal_of (writes r bytes)

-- The first 16 bytes are the form, all others as before. "A refusal gives its number and nothing else; state, tables and buffers stay."
unfoldable pub written_of : WordRecord → List ℕ → List ℕ
written_of r bytes = cond (eqb (write_refusal r bytes) not_refused) (form_of r ++ drop record_bytes bytes) bytes
