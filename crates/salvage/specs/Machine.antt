-- The machine that is fed a damaged file chunk by chunk (02 c): what each of its calls gives. That together they give what Pieces.antt says of the
-- whole file, whatever the chunks, is `chunks_do_not_matter`. Assumes nothing.
use Rattle.std.specs.Prelude.{ℕ, zero, suc, ◌+◌, ◌/◌, Bool, true, false, cond, List, [], ◌∷◌, length, drop, ◌==◌, nat_lt, Option, Some, None, Result, Ok, Err}
use Rattle.words.specs.Counts.{sum64}
use Rattle.words.specs.declared.refusals.Refusal.{Refusal}
use Rattle.words.specs.declared.times.Moment.{Moment}
use Rattle.records.specs.Records.{record_bytes, last_bus, record_at, read_of}
use Rattle.records.specs.declared.forms.WordRecord.{WordRecord}
use Rattle.windows.specs.Windows.{empty_window, count_of, waiting_in, after_taking, filled_of, filled_room}
use Rattle.salvage.specs.Pieces.{in_time, choice_of, Piece, kept, skipped, pieces_from, after_first, first_of, run_in}
use Rattle.salvage.specs.declared.stretches.Stretch.{Stretch}
use Rattle.salvage.specs.declared.stretches.Skipped.{Skipped}
use Rattle.salvage.specs.declared.salvages.First.{First}
use Rattle.salvage.specs.declared.salvages.First.TheVariants.{Missing, Kept, Changed}
use Rattle.salvage.specs.declared.salvages.Run.{Run}
use Rattle.salvage.specs.declared.salvages.Settled.{Settled}
use Rattle.salvage.specs.declared.salvages.Salvage.{Salvage}
use Rattle.salvage.specs.declared.salvages.Fed.{Fed}
use Rattle.salvage.specs.declared.salvages.Progress.{Progress}
use Rattle.salvage.specs.declared.salvages.Totals.{Totals}

-- ---- stretches at the front of some bytes

-- One record more at the front of a stretch.
abbrev pub longer : Stretch → Stretch
longer stretch = record { bytes = record_bytes + stretch.bytes; last = stretch.last }

-- The records at the front of some pieces.
abbrev pub front_of : Option Moment → List Piece → Stretch
front_of last [] = record { bytes = 0; last = last }
front_of last (kept bytes ∷ pieces) = longer (front_of (Some (record_at bytes).time) pieces)
front_of last (skipped byte ∷ pieces) = record { bytes = 0; last = last }

-- The records at the front of some bytes that are kept, one after the other.
unfoldable pub kept_from : Option Moment → List ℕ → Stretch
kept_from last bytes = front_of last (pieces_from 0 last bytes)

-- One byte more that is skipped, where the choice is to skip it.
abbrev pub skipped_at : Option Moment → ℕ → ℕ
skipped_at (Some time) after = 0
skipped_at None after = after + 1

-- The bytes that are skipped, up to a record that is kept or to where fewer than 16 bytes are left.
unfoldable pub skipped_from : Option Moment → List ℕ → ℕ
skipped_from last [] = 0
skipped_from last (byte ∷ rest) =
    cond (nat_lt (length (byte ∷ rest)) record_bytes) 0 (skipped_at (choice_of last (byte ∷ rest)) (skipped_from last rest))

-- What stands at a place: a record to keep, of that time; or, where a byte is skipped, so many that are refused for their time alone, one or none.
abbrev pub place_by : Option Moment → Result WordRecord Refusal → Result Moment ℕ
place_by last (Ok r) = cond (in_time last r.time.0) (Ok r.time) (Err 1)
place_by last (Err n) = Err 0

unfoldable pub place_of : Option Moment → List ℕ → Result Moment ℕ
place_of last bytes = place_by last (read_of last_bus bytes)

-- At how many of the first places of some bytes a record stands.
abbrev pub stray_in : Result WordRecord Refusal → ℕ
stray_in (Ok r) = 1
stray_in (Err n) = 0

abbrev pub strays_in : ℕ → List ℕ → ℕ
strays_in zero bytes = 0
strays_in (suc places) bytes = stray_in (read_of last_bus bytes) + strays_in places (drop 1 bytes)

-- Those that stand among the skipped bytes are refused for their time alone.
abbrev pub skips_from : Option Moment → List ℕ → Skipped
skips_from last bytes = record { bytes = skipped_from last bytes; strays = strays_in (skipped_from last bytes) bytes }

-- ---- what is settled

-- With a stretch of records: the run before it is over, and the next one would begin behind it.
unfoldable pub settled_kept : Settled → Stretch → Settled
settled_kept s stretch =
    cond (stretch.bytes == 0) s
    (record {
      last = stretch.last;
      run = record { place = sum64 (sum64 s.run.place s.run.length) stretch.bytes; length = 0 };
      records = sum64 s.records (stretch.bytes / record_bytes);
      skipped = s.skipped;
    })

-- With so many skipped bytes: the run goes on.
abbrev pub settled_skipped : Settled → ℕ → Settled
settled_skipped s bytes = record {
  last = s.last;
  run = record { place = s.run.place; length = sum64 s.run.length bytes };
  records = s.records;
  skipped = sum64 s.skipped bytes;
}

-- The run that a stretch of records ends, where it has a byte.
unfoldable pub run_ended : Settled → Stretch → Option Run
run_ended s stretch = cond (stretch.bytes == 0) None (run_in s.run)

-- ---- the machine

-- Before any byte. The first byte has the place 0, those that are walked begin at 1.
abbrev pub start_of : Salvage
start_of = record {
  first = Missing;
  settled = record { last = None; run = record { place = 1; length = 0 }; records = 0; skipped = 0 };
  window = empty_window;
}

-- ---- feeding

-- The bytes handed over wait behind those that wait already, as far as the room has room for them.
unfoldable pub gathered_of : Salvage → First → List ℕ → List ℕ → Fed
gathered_of s first room more =
    let filled = filled_of s.window room more in
    record { salvage = record { first = first; settled = s.settled; window = filled.window }; taken = filled.taken }

abbrev pub one_more : Fed → Fed
one_more fed = record { salvage = fed.salvage; taken = fed.taken + 1 }

-- "walks the bytes after the first": the file's first byte, in whatever chunk it comes, is taken and does not wait.
unfoldable pub begun_of : Salvage → List ℕ → List ℕ → Fed
begun_of s room [] = gathered_of s Missing room []
begun_of s room (byte ∷ more) = one_more (gathered_of s (first_of byte) room more)

abbrev pub fed_by : First → Salvage → List ℕ → List ℕ → Fed
fed_by Missing s room chunk = begun_of s room chunk
fed_by Kept s room chunk = gathered_of s Kept room chunk
fed_by Changed s room chunk = gathered_of s Changed room chunk

unfoldable pub fed_of : Salvage → List ℕ → List ℕ → Fed
fed_of s room chunk = fed_by s.first s room chunk

abbrev pub behind_first : First → List ℕ → List ℕ
behind_first Missing chunk = after_first chunk
behind_first Kept chunk = chunk
behind_first Changed chunk = chunk

unfoldable pub room_of : Salvage → List ℕ → List ℕ → List ℕ
room_of s room chunk = filled_room s.window room (behind_first s.first chunk)

-- ---- asking

-- Of the bytes that wait: records that are kept, then bytes that are skipped.
abbrev pub stretch_of : Salvage → List ℕ → Stretch
stretch_of s room = kept_from s.settled.last (waiting_in s.window room)

abbrev pub skips_of : Salvage → List ℕ → Skipped
skips_of s room = skips_from (stretch_of s room).last (drop (stretch_of s room).bytes (waiting_in s.window room))

unfoldable pub asked_of : Salvage → List ℕ → Progress
asked_of s room = record {
  salvage = record {
    first = s.first;
    settled = settled_skipped (settled_kept s.settled (stretch_of s room)) (skips_of s room).bytes;
    window = after_taking s.window ((stretch_of s room).bytes + (skips_of s room).bytes);
  };
  run = run_ended s.settled (stretch_of s room);
  from = s.window.from;
  kept = (stretch_of s room).bytes;
  strays = (skips_of s room).strays;
}

-- ---- the end

-- Fewer than 16 bytes wait: nothing more can be settled.
unfoldable pub is_settled_of : Salvage → Bool
is_settled_of s = nat_lt (count_of s.window) record_bytes

-- Whether the first byte is listed as changed: "An empty file gives .., with the first byte listed as changed."
unfoldable pub is_changed : First → Bool
is_changed Missing = true
is_changed Kept = false
is_changed Changed = true

-- The size of a file, from the run that stands at its end.
unfoldable pub size_of : First → Run → ℕ
size_of Missing run = 0
size_of Kept run = sum64 run.place run.length
size_of Changed run = sum64 run.place run.length

-- The bytes that wait are skipped: fewer than 16 are no record.
unfoldable pub totals_of : Salvage → Totals
totals_of s =
    let after = settled_skipped s.settled (count_of s.window) in
    record { first = s.first; run = run_in after.run; records = after.records; skipped = after.skipped; bytes = size_of s.first after.run }

-- While 16 or more wait it is too early: one of them may begin a record.
unfoldable pub ended_of : Salvage → Option Totals
ended_of s = cond (is_settled_of s) (Some (totals_of s)) None
