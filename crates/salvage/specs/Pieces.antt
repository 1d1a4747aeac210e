-- Document 02, request c), "Saving a damaged record file": what becomes of each byte, sentence by sentence. Assumes nothing.
use Rattle.std.specs.Prelude.{ℕ, zero, suc, ◌+◌, Bool, true, false, cond, ◌&&◌, List, [], ◌∷◌, ◌++◌, take, ◌==◌, nat_le, Option, Some, None, Result, Ok, Err}
use Rattle.words.specs.Words.{since_of}
use Rattle.words.specs.declared.refusals.Refusal.{Refusal}
use Rattle.words.specs.declared.times.Moment.{Moment}
use Rattle.records.specs.Records.{record_bytes, last_bus, read_of}
use Rattle.records.specs.Files.{version}
use Rattle.records.specs.declared.forms.WordRecord.{WordRecord}
use Rattle.salvage.specs.declared.salvages.First.{First}
use Rattle.salvage.specs.declared.salvages.First.TheVariants.{Missing, Kept, Changed}
use Rattle.salvage.specs.declared.salvages.Run.{Run}

-- ---- "walks the bytes after the first, keeps every 16 bytes that read as a record .., and otherwise skips one byte"

-- "at most 100,000,000 ticks after it"
abbrev pub step_most : ℕ
step_most = 100000000

-- "not earlier than the last kept one and at most 100,000,000 ticks after it (the first kept may have any time)": the last kept of either bus, both
-- ends kept (house)
abbrev pub in_time : Option Moment → ℕ → Bool
in_time None time = true
in_time (Some before) time = nat_le before.0 time && nat_le (since_of before.0 time) step_most

-- "16 bytes that read as a record": the refusals 3, 4 and 5 of reading are asked, whether the word is valid is not (house). So 1 to 15 bytes at the end
-- are skipped, by refusal 3.
abbrev pub chosen : Option Moment → Result WordRecord Refusal → Option Moment
chosen last (Ok r) = cond (in_time last r.time.0) (Some r.time) None
chosen last (Err n) = None

unfoldable pub choice_of : Option Moment → List ℕ → Option Moment
choice_of last bytes = chosen last (read_of last_bus bytes)

-- A piece of the file: the 16 bytes of a record that is kept, or one byte that is skipped.
pub data Piece : Type 0 where
  kept : List ℕ → Piece
  skipped : ℕ → Piece

-- The piece at the front of some bytes, and those after it: `after n last` are the pieces of `rest`, whose first n bytes belong to the record just
-- kept. It has 15 bytes behind its first. One that is refused for its time alone is skipped byte by byte, as any other bytes are.
abbrev pub piece_at : Option Moment → Option Moment → ℕ → List ℕ → (ℕ → Option Moment → List Piece) → List Piece
piece_at (Some time) last byte rest after = kept (take record_bytes (byte ∷ rest)) ∷ after 15 (Some time)
piece_at None last byte rest after = skipped byte ∷ after 0 last

-- The pieces of some bytes, of which the first `inside` belong to a record that is kept already. What it says without that count: `each_place`.
unfoldable pub pieces_from : ℕ → Option Moment → List ℕ → List Piece
pieces_from inside last [] = []
pieces_from (suc inside) last (byte ∷ rest) = pieces_from inside last rest
pieces_from zero last (byte ∷ rest) =
    piece_at (choice_of last (byte ∷ rest)) last byte rest (λ (inside : ℕ) (last : Option Moment). pieces_from inside last rest)

-- "the bytes after the first"
abbrev pub after_first : List ℕ → List ℕ
after_first [] = []
after_first (first ∷ rest) = rest

unfoldable pub pieces_of : List ℕ → List Piece
pieces_of file = pieces_from 0 None (after_first file)

-- ---- "and whether the first byte was changed"

unfoldable pub first_of : ℕ → First
first_of byte = cond (byte == version) Kept Changed

-- The first byte of a file that begins with these bytes.
unfoldable pub first_in : List ℕ → First
first_in [] = Missing
first_in (byte ∷ rest) = first_of byte

-- ---- "It writes a clean file with version 1"

-- "version 1", whatever the first byte was
unfoldable pub version_of : First → ℕ
version_of first = version

abbrev pub kept_bytes : List Piece → List ℕ
kept_bytes [] = []
kept_bytes (kept bytes ∷ pieces) = bytes ++ kept_bytes pieces
kept_bytes (skipped byte ∷ pieces) = kept_bytes pieces

unfoldable pub clean_of : List ℕ → List ℕ
clean_of file = version_of (first_in file) ∷ kept_bytes (pieces_of file)

-- ---- "and lists every skipped run by place and length"

-- A run, where it has a byte.
unfoldable pub run_in : Run → Option Run
run_in run = cond (run.length == 0) None (Some run)

-- It in a list.
abbrev pub run_list : Option Run → List Run
run_list None = []
run_list (Some run) = run ∷ []

-- The run of so many bytes from a place on, in a list, where it has a byte.
abbrev pub listed : ℕ → ℕ → List Run
listed place zero = []
listed place (suc more) = record { place = place; length = suc more } ∷ []

-- The runs of some pieces, `before` bytes from `place` on being skipped right before them. A run goes on up to the next record that is kept: the
-- longest ones are listed (house).
abbrev pub runs_from : ℕ → ℕ → List Piece → List Run
runs_from place before [] = listed place before
runs_from place before (kept bytes ∷ pieces) = listed place before ++ runs_from (place + before + record_bytes) 0 pieces
runs_from place before (skipped byte ∷ pieces) = runs_from place (before + 1) pieces

-- A place counts from 0 at the first byte of the damaged file (house).
unfoldable pub runs_of : List ℕ → List Run
runs_of file = runs_from 1 0 (pieces_of file)

-- ---- "and whether the first byte was changed"; "An empty file gives a clean file of the version byte alone, with the first byte listed as changed."

unfoldable pub changed_of : List ℕ → Bool
changed_of [] = true
changed_of (first ∷ rest) = cond (first == version) false true

-- ---- how many records are kept and bytes skipped, for the closing line (house)

abbrev pub records_in : List Piece → ℕ
records_in [] = 0
records_in (kept bytes ∷ pieces) = records_in pieces + 1
records_in (skipped byte ∷ pieces) = records_in pieces

abbrev pub skipped_in : List Piece → ℕ
skipped_in [] = 0
skipped_in (kept bytes ∷ pieces) = skipped_in pieces
skipped_in (skipped byte ∷ pieces) = skipped_in pieces + 1
