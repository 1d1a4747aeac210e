-- What is proved of saving a damaged file (02 c). Each is proved in proofs/ under the name at its side. Assumes nothing.
use Rattle.std.specs.Prelude.{◌≡◌, ℕ, ◌+◌, ◌-◌, ◌*◌, ◌^◌, ◌<◌, ◌≤◌, Bool, true, false, List, [], ◌∷◌, ◌++◌, length, take, drop, replicate, Option, Some, None, Ok}
use Rattle.words.specs.declared.times.Moment.{Moment}
use Rattle.records.specs.Records.{record_bytes, last_bus, record_at, read_of}
use Rattle.records.specs.Files.{version, whole, walk_of}
use Rattle.records.specs.declared.forms.WordRecord.{WordRecord}
use Rattle.salvage.specs.Pieces.{in_time, choice_of, Piece, kept, skipped, pieces_from, pieces_of, after_first, first_in, version_of, clean_of, run_list, runs_of, changed_of, records_in, skipped_in}
use Rattle.salvage.specs.Machine.{start_of, fed_of, room_of, asked_of, is_settled_of, is_changed, ended_of}
use Rattle.salvage.specs.declared.salvages.Run.{Run}
use Rattle.salvage.specs.declared.salvages.Salvage.{Salvage}
use Rattle.salvage.specs.declared.salvages.Totals.{Totals}

-- ---- the walk

-- The bytes read as a record of that time, and it is in time.
pub record InTime (last : Option Moment) (bytes : List ℕ) (time : Moment) : Type 0 where
  pub r : WordRecord
  pub reads : read_of last_bus bytes ≡ Ok r
  pub timed : r.time ≡ time
  pub is_in_time : in_time last r.time.0 ≡ true

-- At each place the bytes from there on decide. Where 16 read as a record in time, and only there, they are kept, and the walk goes on behind them;
-- else one is skipped: each_place
pub record EachPlace : Type 0 where
  pub every : (last : Option Moment) (bytes : List ℕ) (r : WordRecord) → read_of last_bus bytes ≡ Ok r → in_time last r.time.0 ≡ true → choice_of last bytes ≡ Some r.time
  pub only : (last : Option Moment) (bytes : List ℕ) (time : Moment) → choice_of last bytes ≡ Some time → InTime last bytes time
  pub keeps : (last : Option Moment) (bytes : List ℕ) (time : Moment) → choice_of last bytes ≡ Some time
      → pieces_from 0 last bytes ≡ kept (take record_bytes bytes) ∷ pieces_from 0 (Some time) (drop record_bytes bytes)
  pub skips : (last : Option Moment) (byte : ℕ) (rest : List ℕ) → choice_of last (byte ∷ rest) ≡ None → pieces_from 0 last (byte ∷ rest) ≡ skipped byte ∷ pieces_from 0 last rest
  pub ends : (last : Option Moment) → pieces_from 0 last [] ≡ []

-- ---- the clean file

-- Each record is not earlier than the one before it and at most 100,000,000 ticks after it.
abbrev pub InOrder : Option Moment → List WordRecord → Type 0
InOrder last [] = Unit {0}
InOrder last (r ∷ rs) = (in_time last r.time.0 ≡ true) × InOrder (Some r.time) rs

-- The records that are kept.
abbrev pub kept_records : List Piece → List WordRecord
kept_records [] = []
kept_records (kept bytes ∷ pieces) = record_at bytes ∷ kept_records pieces
kept_records (skipped byte ∷ pieces) = kept_records pieces

-- The clean file is read without refusal, as the records that were kept, and these are in order: saved_reads
abbrev pub SavedReads : Type 0
SavedReads =
    (file : List ℕ) → (walk_of (clean_of file) ≡ whole (kept_records (pieces_of file))) × InOrder None (kept_records (pieces_of file))

-- A file that reads, is in order and whose steps are at most 100,000,000 comes back byte for byte, nothing skipped, its first byte kept:
-- whole_file_kept
pub record Unchanged (file : List ℕ) : Type 0 where
  pub same : clean_of file ≡ file
  pub no_run : runs_of file ≡ []
  pub first_kept : changed_of file ≡ false

abbrev pub WholeFileKept : Type 0
WholeFileKept = (file : List ℕ) (rs : List WordRecord) → walk_of file ≡ whole rs → InOrder None rs → Unchanged file

-- So a clean file comes back as it is: saved_again
abbrev pub SavedAgain : Type 0
SavedAgain = (file : List ℕ) → Unchanged (clean_of file)

-- "An empty file gives a clean file of the version byte alone, with the first byte listed as changed.": empty_file
abbrev pub EmptyFile : Type 0
EmptyFile = (clean_of [] ≡ version ∷ []) × (runs_of [] ≡ []) × (changed_of [] ≡ true)

-- ---- "Kept and skipped bytes together must be all the bytes after the first."

abbrev pub joined : List Piece → List ℕ
joined [] = []
joined (kept bytes ∷ pieces) = bytes ++ joined pieces
joined (skipped byte ∷ pieces) = byte ∷ joined pieces

-- Whether each byte is skipped, by the pieces.
abbrev pub flags : List Piece → List Bool
flags [] = []
flags (kept bytes ∷ pieces) = replicate (length bytes) false ++ flags pieces
flags (skipped byte ∷ pieces) = true ∷ flags pieces

-- Whether each of `count` bytes from a place on is in a run, by the list of runs.
abbrev pub marks : ℕ → List Run → ℕ → List Bool
marks place [] count = replicate count false
marks place (run ∷ runs) count =
    replicate (run.place - place) false
    ++ (replicate run.length true ++ marks (run.place + run.length) runs (count - (run.place + run.length - place)))

-- Each kept piece has the 16 bytes of a record.
abbrev pub Sixteen : List Piece → Type 0
Sixteen [] = Unit {0}
Sixteen (kept bytes ∷ pieces) = (length bytes ≡ record_bytes) × Sixteen pieces
Sixteen (skipped byte ∷ pieces) = Sixteen pieces

-- The bytes of all runs.
abbrev pub in_runs : List Run → ℕ
in_runs [] = 0
in_runs (run ∷ runs) = run.length + in_runs runs

-- Each byte after the first is in one piece, in order; the runs that are listed are the skipped bytes, place by place; and the numbers add up:
-- all_bytes
pub record Together (file : List ℕ) : Type 0 where
  pub every_byte : joined (pieces_of file) ≡ after_first file
  pub sixteen : Sixteen (pieces_of file)
  pub as_listed : marks 1 (runs_of file) (length (after_first file)) ≡ flags (pieces_of file)
  pub adds_up : record_bytes * records_in (pieces_of file) + skipped_in (pieces_of file) ≡ length (after_first file)
  pub runs_add_up : in_runs (runs_of file) ≡ skipped_in (pieces_of file)

abbrev pub AllBytes : Type 0
AllBytes = (file : List ℕ) → Together file

-- A run has a byte, and the next one begins behind at least one kept byte: no run could be longer: runs_longest
abbrev pub Apart : ℕ → List Run → Type 0
Apart place [] = Unit {0}
Apart place (run ∷ runs) = (place ≤ run.place) × (0 < run.length) × Apart (run.place + run.length + 1) runs

abbrev pub RunsLongest : Type 0
RunsLongest = (file : List ℕ) → Apart 1 (runs_of file)

-- ---- the machine, fed in any chunks

-- What a user does between the start and the end, in any order.
pub data Call : Type 0 where
  feeds : List ℕ → Call
  asks : Call

-- What came of it: the machine and its room; the bytes that it took; and what it gave, the bytes to keep and the runs.
pub record Session : Type 0 where
  pub salvage : Salvage
  pub room : List ℕ
  pub taken : List ℕ
  pub clean : List ℕ
  pub runs : List Run

abbrev pub begun : List ℕ → Session
begun room = record { salvage = start_of; room = room; taken = []; clean = []; runs = [] }

abbrev pub after_call : Session → Call → Session
after_call c (feeds chunk) =
    let fed = fed_of c.salvage c.room chunk in
    record {
      salvage = fed.salvage;
      room = room_of c.salvage c.room chunk;
      taken = c.taken ++ take fed.taken chunk;
      clean = c.clean;
      runs = c.runs;
    }
after_call c asks =
    let asked = asked_of c.salvage c.room in
    record {
      salvage = asked.salvage;
      room = c.room;
      taken = c.taken;
      clean = c.clean ++ take asked.kept (drop asked.from c.room);
      runs = c.runs ++ run_list asked.run;
    }

abbrev pub after : Session → List Call → Session
after c [] = c
after c (call ∷ calls) = after (after_call c call) calls

-- All of it is what the definition says of the bytes that were taken.
pub record Exact (c : Session) (t : Totals) : Type 0 where
  pub clean : version_of t.first ∷ c.clean ≡ clean_of c.taken
  pub runs : c.runs ++ run_list t.run ≡ runs_of c.taken
  pub first : is_changed t.first ≡ changed_of c.taken
  pub records : t.records ≡ records_in (pieces_of c.taken)
  pub skipped : t.skipped ≡ skipped_in (pieces_of c.taken)
  pub bytes : t.bytes ≡ length c.taken

-- In whatever chunks bytes are fed, into a room of any size, and whenever the machine is asked: where an end is not too early, it has given exactly
-- the definition's result for the bytes that it took (fewer than 2^64): chunks_do_not_matter
abbrev pub ChunksDoNotMatter : Type 0
ChunksDoNotMatter =
    (room : List ℕ) (calls : List Call) (t : Totals) → length (after (begun room) calls).taken < 2 ^ 64
    → ended_of (after (begun room) calls).salvage ≡ Some t → Exact (after (begun room) calls) t

-- What the first byte of a file is, and with it the version byte of the clean file, is known from any bytes at its front: first_stays
abbrev pub FirstStays : Type 0
FirstStays = (front rest : List ℕ) → 0 < length front → first_in (front ++ rest) ≡ first_in front

-- Asked while 16 bytes or more wait, it leaves fewer; with a room of 16 bytes or more and fewer than 16 that wait, it takes at least one byte of a
-- chunk that is not empty: goes_on_lem
pub record Advances (c : Session) : Type 0 where
  pub asked : is_settled_of c.salvage ≡ false
      → (asked_of c.salvage c.room).salvage.window.to - (asked_of c.salvage c.room).salvage.window.from < c.salvage.window.to - c.salvage.window.from
  pub fed : (chunk : List ℕ) → is_settled_of c.salvage ≡ true → 16 ≤ length c.room → 0 < length chunk
      → 0 < (fed_of c.salvage c.room chunk).taken

abbrev pub GoesOn : Type 0
GoesOn = (room : List ℕ) (calls : List Call) → Advances (after (begun room) calls)

-- So every file can be taken whole, however long it is, through any room of 16 bytes or more: gets_there
pub record TakenWhole (room file : List ℕ) : Type 0 where
  pub calls : List Call
  pub all : (after (begun room) calls).taken ≡ file
  pub settled : is_settled_of (after (begun room) calls).salvage ≡ true

abbrev pub GetsThere : Type 0
GetsThere = (room file : List ℕ) → 16 ≤ length room → TakenWhole room file
