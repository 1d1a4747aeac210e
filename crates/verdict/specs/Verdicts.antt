-- Document 01, "Controller verdicts" and "Verdict: ..", and 02 n: the records that are returned, the verdict on them, and how many it looked at.
-- Assumes nothing.
use Rattle.std.specs.Prelude.{ℕ, zero, suc, cond, ◌&&◌, ⊤, List, [], ◌∷◌, eqb, ltb, leb, length, slice_get, drop, Option, Some, None, Result, Ok, Err}
use Rattle.words.specs.Refusals.{not_refused, number_of as refusal_number}
use Rattle.words.specs.declared.refusals.Refusal.{Refusal}
use Rattle.words.specs.declared.refusals.Refusal.TheVariants.{OutOfRange, OutOfOrder}
use Rattle.records.specs.Records.{record_bytes, last_bus, read_of, refusal_of}
use Rattle.records.specs.Files.{Walk, whole, stops, with}
use Rattle.records.specs.declared.forms.WordRecord.{WordRecord}
use Rattle.words.specs.Words.{is_broadcast}
use Rattle.verdict.specs.Plans.{plan_checks, sent_of, expected_of}
use Rattle.verdict.specs.Numbers.{number_of}
use Rattle.verdict.specs.Facts.{fact_of, end_of}
use Rattle.verdict.specs.declared.plans.Plan.{Plan}
use Rattle.verdict.specs.declared.plans.Expected.{Expected}
use Rattle.verdict.specs.declared.judges.Finding.{Finding}
use Rattle.verdict.specs.declared.verdicts.Verdict.{Verdict}
use Rattle.verdict.specs.declared.verdicts.Verdict.TheVariants as verdict

-- ---- "then record by record 3, 4, 5, 6, all before any verdict"

-- "in a verdict, a record of another bus than the plan's": 5; "returned record not later than the one before (E first) or after Q": 6
unfoldable pub record_checks : Plan → ℕ → WordRecord → Result ⊤ Refusal
record_checks plan before r =
    cond (eqb r.bus plan.bus) (cond (ltb before r.time.0 && leb r.time.0 plan.until.0) (Ok tt) (Err OutOfOrder)) (Err OutOfRange)

abbrev pub record_refusal : Plan → ℕ → WordRecord → ℕ
record_refusal plan before r = refusal_of (record_checks plan before r)

-- a record, with those after it, where it is not refused
abbrev pub with_checked : Result ⊤ Refusal → WordRecord → Walk → Walk
with_checked (Ok _) r rest = with r rest
with_checked (Err n) r rest = stops n

-- a record, with those after it, which come after its time; or the first refusal: each record whole before the next
abbrev pub go_on : Plan → ℕ → Result WordRecord Refusal → (ℕ → Walk) → Walk
go_on plan before (Ok r) rest = with_checked (record_checks plan before r) r (rest r.time.0)
go_on plan before (Err n) rest = stops n

-- "the returned records as record bytes, 16 each, no version byte": at most so many records, the one before them at that time. There are never
-- more records than bytes.
unfoldable pub returned_from : ℕ → Plan → ℕ → List ℕ → Walk
returned_from zero plan before bytes = whole []
returned_from (suc n) plan before bytes =
    cond (eqb (length bytes) 0) (whole []) (go_on plan before (read_of last_bus bytes) (λ (time : ℕ). returned_from n plan time (drop record_bytes bytes)))

-- the first comes after "the time E of the controller's last word"
unfoldable pub returned_of : Plan → List ℕ → Walk
returned_of plan bytes = returned_from (length bytes) plan plan.last.0 bytes

-- ---- "First fact found decides"; 02 n: "Its result shall also report how many returned records it looked at while judging. The number must equal that
-- in the rules' own walk"

-- a verdict, with the number of records looked at for it
abbrev pub finding : Verdict → ℕ → Finding
finding verdict looked = record { verdict = verdict; looked = looked }

-- the same, one record more looked at
abbrev pub one_more : Finding → Finding
one_more f = finding f.verdict (suc f.looked)

-- what a record comes to: the rest where it shows no fact, else the fact
abbrev pub found_or : Option Verdict → Finding → Finding
found_or None rest = one_more rest
found_or (Some fact) rest = finding fact 1

-- Of the records against what is expected, the last word at that time; "A record left over: 11." A record counts whose time or contents decide a
-- step, also one too late or badly spaced or left over; a missing one does not (DECISIONS 8).
unfoldable pub finding_over : List Expected → ℕ → ℕ → List WordRecord → Finding
finding_over [] last until [] = finding (end_of None last until) 0
finding_over [] last until (r ∷ rs) = finding verdict.LeftOver 1
finding_over (e ∷ es) last until [] = finding (end_of (Some e) last until) 0
finding_over (e ∷ es) last until (r ∷ rs) = found_or (fact_of (Some e) last r) (finding_over es r.time.0 until rs)

-- of a plan, from "the time E" on
unfoldable pub finding_of : Plan → List WordRecord → Finding
finding_of plan rs = finding_over (expected_of plan) plan.last.0 plan.until.0 rs

-- its verdict, and how many records were looked at for it
abbrev pub verdict_of : Plan → List WordRecord → Verdict
verdict_of plan rs = (finding_of plan rs).verdict

abbrev pub looked_of : Plan → List WordRecord → ℕ
looked_of plan rs = (finding_of plan rs).looked

-- ---- the whole

-- the verdict on records that are all taken, with the number looked at, or the refusal; 02 n: "The checks before the verdict are not counted."
abbrev pub decide : Plan → Walk → Result Finding Refusal
decide plan (whole rs) = Ok (finding_of plan rs)
decide plan (stops n) = Err n

abbrev pub judged_with : Result ⊤ Refusal → Result Finding Refusal → Result Finding Refusal
judged_with (Ok _) decided = decided
judged_with (Err n) decided = Err n

-- "Verdict: 7; 5 for bus, E, Q, Q below E; then record by record 3, 4, 5, 6, all before any verdict."
unfoldable pub judged_of : Plan → List ℕ → Result Finding Refusal
judged_of plan bytes = judged_with (plan_checks plan) (decide plan (returned_of plan bytes))

-- The numbers of a result: of its refusal, 0 where there is none; of its verdict and of the records looked at, or else what was there.
abbrev pub refusal_in : Result Finding Refusal → ℕ
refusal_in (Ok f) = not_refused
refusal_in (Err n) = refusal_number n

abbrev pub verdict_or : Result Finding Refusal → ℕ → ℕ
verdict_or (Ok f) before = number_of f.verdict
verdict_or (Err n) before = before

abbrev pub looked_or : Result Finding Refusal → ℕ → ℕ
looked_or (Ok f) before = f.looked
looked_or (Err n) before = before

-- ---- at a place, as the code asks; no definition above needs these. `expected_at` and `finish_of` stand in the promises of `Plan::fact_at` and
-- `Plan::finish`, in look_by_look and in `monitor`; `sent_first` in that of an inner function alone.

-- "Expected back: a status; for transmit, status and data; for two commands the transmitter's status and data, then the receiver's status; for
-- broadcast nothing, but the transmitter's part with two commands.": of these in their order the one at the place, counted from 0; past the last
-- none, so that a record there is "left over".
abbrev pub expected_at : Plan → ℕ → Option Expected
expected_at plan place = slice_get (expected_of plan) place

-- how many data words are expected after the first status
unfoldable pub sent_first : Plan → ℕ
sent_first plan = cond (eqb plan.commands 1) (cond (is_broadcast plan.first.0) 0 (sent_of plan.first.0)) (sent_of plan.second.0)

-- the fact found, or else the verdict where no record is left
unfoldable pub finish_of : Plan → Option Verdict → ℕ → ℕ → Verdict
finish_of plan None place last = end_of (expected_at plan place) last plan.until.0
finish_of plan (Some fact) place last = fact

-- the fact found before a record, or else what the record shows at that place, the word before it at that time
abbrev pub found_or_shown : Option Verdict → Plan → ℕ → ℕ → WordRecord → Option Verdict
found_or_shown None plan place last r = fact_of (expected_at plan place) last r
found_or_shown (Some fact) plan place last r = Some fact
