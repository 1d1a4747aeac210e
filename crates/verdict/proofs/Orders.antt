-- The finding record by record, as the walk makes it, is the finding over the list. Assumes nothing.
use mathlib.Core.Path.{◌≡◌, refl, sym, ap, ◌∙◌}
use Prim.Native.Nat.{ℕ, zero, suc, ◌+◌}
use mathlib.Core.List.{List, [], ◌∷◌}
use native.Mathlib.Omega.{arith}
use lib.ListN.{drop}
use lib.Seq.{drop-drop}
use Rattle.std.specs.Prelude.{slice_get, Option, Some, None}
use Rattle.records.specs.declared.forms.WordRecord.{WordRecord}
use Rattle.verdict.specs.Plans.{expected_of}
use Rattle.verdict.specs.Facts.{fact_of}
use Rattle.verdict.specs.Verdicts.{expected_at, finish_of, finding, found_or, finding_over, finding_of}
use Rattle.verdict.specs.declared.judges.Finding.{Finding}
use Rattle.verdict.specs.declared.verdicts.Verdict.{Verdict}
use Rattle.verdict.specs.declared.plans.Plan.{Plan}
use Rattle.verdict.specs.declared.plans.Expected.{Expected}

-- the finding on the records that are left, with the fact found so far; where none is, the place is the number looked at before it
unfoldable pub finding_from : Plan → Option Verdict → ℕ → ℕ → List WordRecord → Finding
finding_from plan (Some fact) looked last rs = finding fact looked
finding_from plan None looked last [] = finding (finish_of plan None looked last) looked
finding_from plan None looked last (r ∷ rs) = finding_from plan (fact_of (expected_at plan looked) last r) (looked + 1) r.time.0 rs

-- the element at a place is the first of what is left there
get_drop : {A : Type 0} (place : ℕ) (xs : List A) → slice_get xs place ≡ slice_get (drop place xs) 0
get_drop zero xs = refl
get_drop (suc n) [] = refl
get_drop (suc n) (x ∷ xs) = get_drop n xs

module _ (plan : Plan) (place : ℕ) (l : List Expected) (e : drop place (expected_of plan) ≡ l) where
  first_left : expected_at plan place ≡ slice_get l 0
  first_left = get_drop place (expected_of plan) ∙ ap (λ (x : List Expected). slice_get x 0) e

  rest_left : drop (place + 1) (expected_of plan) ≡ drop 1 l
  rest_left = sym (drop-drop 1 place (expected_of plan)) ∙ ap (drop 1) e

-- a finding with so many records looked at before
abbrev after : ℕ → Finding → Finding
after looked f = finding f.verdict (looked + f.looked)

after_none : (looked : ℕ) (v : Verdict) → finding v looked ≡ after looked (finding v 0)
after_none looked v = ap (finding v) (omega arith)

-- a record that shows that, with what is found behind it
shown_over : (plan : Plan) (looked last : ℕ) (rs : List WordRecord) (rest : Finding) → finding_from plan None (looked + 1) last rs ≡ after (looked + 1) rest
    → (shown : Option Verdict) → finding_from plan shown (looked + 1) last rs ≡ after looked (found_or shown rest)
unfolding finding_from
shown_over plan looked last rs rest e None = e ∙ ap (finding rest.verdict) (omega arith)
shown_over plan looked last rs rest e (Some fact) = refl

from_over : (plan : Plan) (rs : List WordRecord) (looked last : ℕ) (l : List Expected) → drop looked (expected_of plan) ≡ l
    → finding_from plan None looked last rs ≡ after looked (finding_over l last plan.until.0 rs)
unfolding finding_from finding_over finish_of fact_of
from_over plan [] looked last [] e = rw (first_left plan looked [] e) (after_none looked _)
from_over plan [] looked last (x ∷ es) e = rw (first_left plan looked (x ∷ es) e) (after_none looked _)
from_over plan (r ∷ rs) looked last [] e =
    ap (λ (x : Option Expected). finding_from plan (fact_of x last r) (looked + 1) r.time.0 rs) (first_left plan looked [] e)
from_over plan (r ∷ rs) looked last (x ∷ es) e =
    ap (λ (y : Option Expected). finding_from plan (fact_of y last r) (looked + 1) r.time.0 rs) (first_left plan looked (x ∷ es) e)
    ∙ (shown_over plan looked r.time.0 rs (finding_over es r.time.0 plan.until.0 rs)
    (from_over plan rs (looked + 1) r.time.0 es (rest_left plan looked (x ∷ es) e)) (fact_of (Some x) last r))

pub finding_places : (plan : Plan) (rs : List WordRecord) → finding_of plan rs ≡ finding_from plan None 0 plan.last.0 rs
unfolding finding_of
finding_places plan rs =
    sym (from_over plan rs 0 plan.last.0 (expected_of plan) refl ∙ ap (finding (finding_of plan rs).verdict) (omega arith))
