-- The machine that reads a plan: it is fed the text in any chunks, and ended (docs/LINES.md, busplan FILE). Assumes nothing.
use Rattle.std.specs.Prelude.{ℕ, ◌+◌, Bool, true, false, cond, ◌&&◌, ◌||◌, List, [], ◌∷◌, replicate, ◌==◌, nat_lt, slice_set, Option, Result, Err}
use Rattle.lines.specs.Parts.{between_of}
use Rattle.plans.specs.declared.entries.Fault.TheVariants as fault
use Rattle.plans.specs.declared.entries.Fault.{Fault}
use Rattle.plans.specs.declared.entries.Entry.{Entry}
use Rattle.plans.specs.declared.gatherings.Kept.{Kept}
use Rattle.plans.specs.declared.gatherings.Gathering.{Gathering}
use Rattle.plans.specs.declared.drafts.Draft.{Draft}
use Rattle.plans.specs.declared.readings.Reading.{Reading}
use Rattle.plans.specs.Parts.{is_control, parts_of}
use Rattle.plans.specs.Entries.{line_most, parts_entry}
use Rattle.plans.specs.Drafts.{one_more, empty_draft, after_entry, is_fault}

-- ---- the bytes of a line that are kept

abbrev pub kept_none : Kept
kept_none = record { line = replicate line_most 0; length = 0; over = false }

-- A byte more, where there is room.
unfoldable pub kept_with : Kept → ℕ → Kept
kept_with k byte =
    cond (nat_lt k.length line_most)
    (record { line = slice_set k.line k.length byte; length = k.length + 1; over = k.over })
    (record { line = k.line; length = k.length; over = true })

-- The text of what is kept.
abbrev pub kept_text : Kept → List ℕ
kept_text k = between_of k.line 0 k.length

-- ---- a line as it comes in

-- A line of that number before its first byte.
abbrev pub gathering_at : ℕ → Gathering
gathering_at number = record { kept = kept_none; number = number; spaced = false; remark = false; signless = false }

-- The space before the next byte, but not in front.
unfoldable pub after_space : Gathering → Kept
after_space g = cond (g.spaced && nat_lt 0 g.kept.length) (kept_with g.kept 32) g.kept

-- A comment began.
abbrev pub in_remark : Gathering → Gathering
in_remark g = record { kept = g.kept; number = g.number; spaced = g.spaced; remark = true; signless = g.signless }

-- A space came.
abbrev pub with_space : Gathering → Gathering
with_space g = record { kept = g.kept; number = g.number; spaced = true; remark = g.remark; signless = g.signless }

-- A byte of a part came.
abbrev pub with_byte : Gathering → ℕ → Gathering
with_byte g byte =
    record { kept = kept_with (after_space g) byte; number = g.number; spaced = false; remark = g.remark; signless = g.signless || is_control byte }

-- One byte of the line more.
unfoldable pub gathered : Gathering → ℕ → Gathering
gathered g byte = cond (g.remark || byte == 35) (in_remark g) (cond (byte == 32) (with_space g) (with_byte g byte))

-- Whether it is no line of a plan, whatever comes behind.
unfoldable pub is_bad_line : Gathering → Bool
is_bad_line g = g.signless || g.kept.over

-- What the line says.
unfoldable pub gathered_entry : Gathering → Result (Option Entry) Fault
gathered_entry g = cond g.signless (Err fault.NoSign) (cond g.kept.over (Err fault.TooLong) (parts_entry (parts_of (kept_text g.kept))))

-- ---- the reading

abbrev pub reading_with : Draft → Gathering → Bool → Reading
reading_with draft gathering more = record { draft = draft; gathering = gathering; more = more }

abbrev pub start_of : Reading
start_of = reading_with empty_draft (gathering_at 1) true

-- The plan with what the line says as far as it came.
abbrev pub line_taken : Draft → Gathering → Draft
line_taken draft gathering = after_entry draft (gathered_entry gathering) gathering.number

-- Whether the last line that was taken is bad.
abbrev pub is_bad_draft : Draft → Bool
is_bad_draft draft = is_fault draft.bad

-- A line has ended: the next one begins, but behind a bad one.
unfoldable pub line_ended : Draft → Gathering → Reading
line_ended draft gathering =
    cond (is_bad_draft (line_taken draft gathering))
    (reading_with (line_taken draft gathering) gathering false)
    (reading_with (line_taken draft gathering) (gathering_at (one_more gathering.number)) true)

-- A byte of the line has come: a bad line ends the reading as soon as it is known to be one.
unfoldable pub byte_gathered : Draft → Gathering → Reading
byte_gathered draft gathering =
    cond (is_bad_line gathering) (reading_with (line_taken draft gathering) gathering false) (reading_with draft gathering true)

unfoldable pub byte_read : Reading → ℕ → Reading
byte_read r byte = cond (byte == 10) (line_ended r.draft r.gathering) (byte_gathered r.draft (gathered r.gathering byte))

-- Byte by byte, as long as there may be more.
unfoldable pub fed_of : Reading → List ℕ → Reading
fed_of r [] = r
fed_of r (byte ∷ bytes) = cond r.more (fed_of (byte_read r byte) bytes) r

-- "The last line may lack its end."
unfoldable pub ended_of : Reading → Draft
ended_of r = cond r.more (line_taken r.draft r.gathering) r.draft
