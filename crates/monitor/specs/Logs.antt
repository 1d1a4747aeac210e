-- Document 02, request a): the entries of a file, in order, and where it is refused. Assumes nothing.
use Rattle.std.specs.Prelude.{ℕ, zero, suc, ◌+◌, Bool, true, false, cond, List, [], ◌∷◌, ◌++◌, length, drop, ◌==◌, nat_lt, Option, Some, None, Result, Ok, Err}
use Rattle.words.specs.Words.{no_response_distance}
use Rattle.words.specs.declared.refusals.Refusal.{Refusal}
use Rattle.words.specs.declared.refusals.Refusal.TheVariants.{OutOfOrder}
use Rattle.words.specs.declared.times.Moment.{Moment}
use Rattle.records.specs.Records.{record_bytes, last_bus, read_of}
use Rattle.records.specs.Files.{open_of}
use Rattle.records.specs.declared.files.Cursor.{Cursor}
use Rattle.records.specs.declared.forms.WordRecord.{WordRecord}
use Rattle.monitor.specs.Entries.{is_command, last_in, is_far, part_of, entry_of}
use Rattle.monitor.specs.declared.entries.Logged.{Logged}
use Rattle.monitor.specs.declared.openings.Part.{Part}
use Rattle.monitor.specs.declared.openings.Part.TheVariants.{Far, Starts, Second, Status, Other}

-- ---- "groups the words of each bus, apart from the other bus, into messages"

-- The records of one entry: the place of the first in the file, counted from 0; the first; those after it; Q, the moment up to which the controller
-- listened.
pub record Group : Type 0 where
  pub place : ℕ
  pub first : WordRecord
  pub rest : List WordRecord
  pub until : Moment

-- A record of a bus with its place in the file.
pub record Placed : Type 0 where
  pub place : ℕ
  pub heard : WordRecord

-- the records of that bus, the first of all at that place
unfoldable pub heard_on : ℕ → ℕ → List WordRecord → List Placed
heard_on bus place [] = []
heard_on bus place (r ∷ rs) =
    cond (r.bus == bus) (record { place = place; heard = r } ∷ heard_on bus (suc place) rs) (heard_on bus (suc place) rs)

-- what a record is to the entry that a first record begins: "A record outside any message is an entry of its own" and opens nothing, so that the next
-- one of the bus begins another
unfoldable pub part_in : WordRecord → List WordRecord → WordRecord → Part
part_in first rest r = cond (is_command first) (part_of first rest r) Starts

-- it belongs to it
abbrev pub belongs : Part → Bool
belongs Far = false
belongs Starts = false
belongs Second = true
belongs Status = true
belongs Other = true

-- "An entry closes when that bus brings a starting command (Q is its time) or a record more than 320 ticks after the entry's last (..; Q is that last plus
-- 320)"
unfoldable pub closes_at : WordRecord → List WordRecord → WordRecord → Moment
closes_at first rest r = cond (is_far first rest r) (record { 0 = (last_in first rest).time.0 + no_response_distance }) r.time

-- The groups of one bus's records, an entry being open; "or at the end of file (Q is the time of the file's last record)".
unfoldable pub groups_from : Moment → ℕ → WordRecord → List WordRecord → List Placed → List Group
groups_from end place first rest [] = record { place = place; first = first; rest = rest; until = end } ∷ []
groups_from end place first rest (p ∷ ps) =
    cond (belongs (part_in first rest p.heard))
    (groups_from end place first (rest ++ (p.heard ∷ [])) ps)
    (record { place = place; first = first; rest = rest; until = closes_at first rest p.heard }
    ∷ groups_from end p.place p.heard [] ps)

abbrev pub groups_of : Moment → List Placed → List Group
groups_of end [] = []
groups_of end (p ∷ ps) = groups_from end p.place p.heard [] ps

-- the time of the last of some records, of either bus, or that before them
abbrev pub end_time : Moment → List WordRecord → Moment
end_time before [] = before
end_time before (r ∷ rs) = end_time r.time rs

abbrev pub groups_on : ℕ → List WordRecord → List Group
groups_on bus rs = groups_of (end_time (record { 0 = 0 }) rs) (heard_on bus 0 rs)

abbrev pub logged_of : Group → Logged
logged_of g = record { place = g.place; entry = entry_of g.first g.rest g.until }

-- the entries of one bus
abbrev pub entries_of : List Group → List Logged
entries_of [] = []
entries_of (g ∷ gs) = logged_of g ∷ entries_of gs

unfoldable pub entries_on : ℕ → List WordRecord → List Logged
entries_on bus rs = entries_of (groups_on bus rs)

-- ---- "Entries come in order of their first record in the file."

-- an entry among those of the other bus: the lower place comes first; `after` puts those after it on its bus among what is left of the others
abbrev pub among : Logged → (List Logged → List Logged) → List Logged → List Logged
among e after [] = e ∷ after []
among e after (f ∷ fs) = cond (nat_lt e.place f.place) (e ∷ after (f ∷ fs)) (f ∷ among e after fs)

unfoldable pub merged : List Logged → List Logged → List Logged
merged [] fs = fs
merged (e ∷ es) fs = among e (merged es) fs

-- the log of some records
unfoldable pub log_of : List WordRecord → List Logged
log_of rs = merged (entries_on 0 rs) (entries_on 1 rs)

-- ---- "A record earlier than the one before is refused with 6; the log stays."

-- The records before the first refusal, and that, or none.
pub record Front : Type 0 where
  pub taken : List WordRecord
  pub refusal : Option Refusal

abbrev pub stops : Option Refusal → Front
stops n = record { taken = []; refusal = n }

abbrev pub goes_on : WordRecord → Front → Front
goes_on r front = record { taken = r ∷ front.taken; refusal = front.refusal }

-- 6 comes after 3, 4, 5 of the same record, and of either bus; whatever the refusal, the file is read up to it and no further (DECISIONS 45)
abbrev pub front_with : ℕ → Result WordRecord Refusal → (ℕ → Front) → Front
front_with before (Ok r) after = cond (nat_lt r.time.0 before) (stops (Some OutOfOrder)) (goes_on r (after r.time.0))
front_with before (Err n) after = stops (Some n)

-- of bytes behind the version byte, at most so many records: there are never more records than bytes
unfoldable pub front_from : ℕ → ℕ → List ℕ → Front
front_from zero before bytes = stops None
front_from (suc n) before bytes =
    cond (length bytes == 0) (stops None) (front_with before (read_of last_bus bytes) (λ (time : ℕ). front_from n time (drop record_bytes bytes)))

unfoldable pub front_of : List ℕ → Front
front_of bytes = front_from (length bytes) 0 bytes

-- ---- "It reads a record file"

-- The log of a file: its entries, how many records they are, and the refusal that ended it, none at the end of the file.
pub record FileLog : Type 0 where
  pub entries : List Logged
  pub records : ℕ
  pub refusal : Option Refusal

abbrev pub logged : Front → FileLog
logged front = record { entries = log_of front.taken; records = length front.taken; refusal = front.refusal }

abbrev pub log_at : Result Cursor Refusal → List ℕ → FileLog
log_at (Ok c) file = logged (front_of (drop c.at file))
log_at (Err n) file = record { entries = []; records = 0; refusal = Some n }

unfoldable pub file_log : List ℕ → FileLog
file_log file = log_at (open_of file) file
