-- What holds of verdicts beyond each function's own promise, proved in proofs/ under the name at its side. Assumes nothing.
use Rattle.std.specs.Prelude.{ℕ, suc, ◌≤◌, ◌≡◌, Bool, true, false, ◌||◌, List, [], ◌∷◌, ◌⊎◌, eqb, ltb, length, take, Option, None, Ok}
use Rattle.words.specs.Words.{on_clock, since_of, gap_of, is_spaced, address_of, has_flag, is_valid, command_sync, data_sync}
use Rattle.words.specs.Refusals.{not_refused}
use Rattle.words.specs.declared.times.Moment.{Moment}
use Rattle.words.specs.declared.statuses.Flag.TheVariants.{MessageError, Busy}
use Rattle.records.specs.declared.forms.WordRecord.{WordRecord}
use Rattle.verdict.specs.Plans.{plan_refusal, expected_of}
use Rattle.verdict.specs.Numbers.{good, no_response, separated, last_verdict, number_of, fact_number}
use Rattle.verdict.specs.Facts.{gap_least, gap_most, listened_least, data_fact}
use Rattle.verdict.specs.Verdicts.{finding_of, verdict_of, looked_of, judged_of, finish_of, found_or_shown}
use Rattle.verdict.specs.declared.judges.Finding.{Finding}
use Rattle.verdict.specs.declared.verdicts.Verdict.{Verdict}
use Rattle.verdict.specs.declared.verdicts.Verdict.TheVariants as verdict
use Rattle.verdict.specs.declared.plans.Plan.{Plan}
use Rattle.verdict.specs.declared.plans.Expected.{Expected}
use Rattle.verdict.specs.declared.plans.Expected.TheVariants.{Status, Data}

-- The verdict is one of 0 to 12: verdict_range
abbrev pub VerdictRange : Type 0
VerdictRange = (plan : Plan) (rs : List WordRecord) → number_of (verdict_of plan rs) ≤ last_verdict

-- ---- how a data word is badly spaced

-- "10 separated or missing and 12 overlapping" (02 i): the fact of a data word is 12 exactly if it comes less than 195 ticks after the word before it,
-- 10 exactly if it comes more than 205 after it: spacing_facts
abbrev pub SpacingFacts : Type 0
SpacingFacts =
    (last : ℕ) (r : WordRecord)
    → (eqb (fact_number (data_fact last r)) 12 ≡ ltb (since_of last r.time.0) 195)
    × (eqb (fact_number (data_fact last r)) 10 ≡ ltb 205 (since_of last r.time.0))

-- ---- what good means

-- a status, answered in time, of the right address, without message error and busy but for the mode codes 2 and 18
pub record GoodStatus (address : ℕ) (unjudged : Bool) (last : ℕ) (r : WordRecord) : Type 0 where
  pub not_early : gap_least ≤ gap_of last r.time.0
  pub not_late : gap_of last r.time.0 ≤ gap_most
  pub valid : is_valid r.sync r.faults r.word r.parity ≡ true
  pub sync : r.sync ≡ command_sync
  pub from : address_of r.word ≡ address
  pub flags : unjudged ≡ false → (has_flag MessageError r.word ≡ false) × (has_flag Busy r.word ≡ false)

-- a data word
pub record GoodData (last : ℕ) (r : WordRecord) : Type 0 where
  pub spaced : is_spaced last r.time.0 ≡ true
  pub valid : is_valid r.sync r.faults r.word r.parity ≡ true
  pub sync : r.sync ≡ data_sync

-- the records are those expected, each in its place, none is left over, and the controller listened long enough
pub data Good (until : ℕ) : List Expected → ℕ → List WordRecord → Type 0 where
  over : {last : ℕ} → listened_least ≤ since_of last until → Good until [] last []
  status : {address : ℕ} {unjudged : Bool} {es : List Expected} {last : ℕ} {r : WordRecord} {rs : List WordRecord}
      → GoodStatus address unjudged last r
      → Good until es r.time.0 rs
      → Good until (Status address unjudged ∷ es) last (r ∷ rs)
  word : {es : List Expected} {last : ℕ} {r : WordRecord} {rs : List WordRecord}
      → GoodData last r
      → Good until es r.time.0 rs
      → Good until (Data ∷ es) last (r ∷ rs)

-- The verdict is good for those records and for no others: good_exactly
abbrev pub GoodExactly : Type 0
GoodExactly =
    (plan : Plan) (rs : List WordRecord)
    → (verdict_of plan rs ≡ verdict.Good → Good plan.until.0 (expected_of plan) plan.last.0 rs)
    × (Good plan.until.0 (expected_of plan) plan.last.0 rs → verdict_of plan rs ≡ verdict.Good)

-- ---- listening longer

-- the plan with another Q
abbrev pub with_until : Plan → Moment → Plan
with_until plan moment =
    record { commands = plan.commands; first = plan.first; second = plan.second; bus = plan.bus; last = plan.last; until = moment }

-- a verdict that takes the place of "2 still waiting"
abbrev pub is_final : Verdict → Bool
is_final given = eqb (number_of given) good || eqb (number_of given) no_response || eqb (number_of given) separated

-- The same bytes with a later Q on the clock: a verdict is given again, on as many records, the same, or in place of 2 a final one: longer
abbrev pub Longer : Type 0
Longer =
    (plan : Plan) (moment : Moment) → plan.until.0 ≤ moment.0 → on_clock moment.0 ≡ true
    → (bytes : List ℕ) (f : Finding) → judged_of plan bytes ≡ Ok f
    → (g : Finding) × (judged_of (with_until plan moment) bytes ≡ Ok g)
    × (g.looked ≡ f.looked)
    × ((g.verdict ≡ f.verdict) ⊎ ((f.verdict ≡ verdict.Waiting) × (is_final g.verdict ≡ true)))

-- ---- record by record, as the log of 02 a) asks

-- the fact found after some records, where one was found before them or none was, the first of them at that place, the word before it at that time
abbrev pub found_after : Plan → Option Verdict → ℕ → ℕ → List WordRecord → Option Verdict
found_after plan found place last [] = found
found_after plan found place last (r ∷ rs) = found_after plan (found_or_shown found plan place last r) (suc place) r.time.0 rs

-- the time of the last record, or of the word before the first
abbrev pub last_after : ℕ → List WordRecord → ℕ
last_after last [] = last
last_after last (r ∷ rs) = last_after r.time.0 rs

-- The verdict is found record by record: look_by_look
abbrev pub LookByLook : Type 0
LookByLook =
    (plan : Plan) (rs : List WordRecord)
    → finish_of plan (found_after plan None 0 plan.last.0 rs) (length rs) (last_after plan.last.0 rs) ≡ verdict_of plan rs

-- ---- how much is looked at (02 n)

-- "is at most 35, however many records are handed over: two statuses, 32 data words and one left over": looked_bound
abbrev pub LookedBound : Type 0
LookedBound = (plan : Plan) (bytes : List ℕ) (f : Finding) → judged_of plan bytes ≡ Ok f → f.looked ≤ 35

-- two lists of records that agree up to a number, and on whether there is one more
abbrev pub AgreeUpTo : ℕ → List WordRecord → List WordRecord → Type 0
AgreeUpTo n rs others = (take n rs ≡ take n others) × (ltb n (length rs) ≡ ltb n (length others))

-- Two lists that agree up to the number looked at get the same verdict, on as many records: looked_enough
abbrev pub LookedEnough : Type 0
LookedEnough = (plan : Plan) (rs others : List WordRecord) → AgreeUpTo (looked_of plan rs) rs others → finding_of plan others ≡ finding_of plan rs

-- So the first 36 are enough, however many there are, of a plan that is not refused: looked_first
abbrev pub LookedFirst : Type 0
LookedFirst = (plan : Plan) → plan_refusal plan ≡ not_refused → (rs : List WordRecord) → finding_of plan (take 36 rs) ≡ finding_of plan rs
