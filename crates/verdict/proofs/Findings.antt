-- A finding: what a step of the walk comes to, and when one is given. Assumes nothing.
use mathlib.Core.Path.{◌≡◌, refl, ap}
use Prim.Native.Nat.{ℕ}
use mathlib.Core.List.{List, ◌∷◌}
use Rattle.std.specs.Prelude.{Option, Some, None, Result, Ok, Err, ⊤}
use Rattle.words.specs.declared.refusals.Refusal.{Refusal}
use Rattle.records.specs.Files.{Walk, whole, stops}
use Rattle.records.specs.declared.forms.WordRecord.{WordRecord}
use Rattle.verdict.specs.Plans.{plan_checks, expected_of}
use Rattle.verdict.specs.Facts.{fact_of}
use Rattle.verdict.specs.Verdicts.{returned_of, found_or, finding_over, finding_of, verdict_of, decide, judged_with, judged_of}
use Rattle.verdict.specs.declared.judges.Finding.{Finding}
use Rattle.verdict.specs.declared.verdicts.Verdict.{Verdict}
use Rattle.verdict.specs.declared.plans.Plan.{Plan}
use Rattle.verdict.specs.declared.plans.Expected.{Expected}

-- the verdict of a finding over a list, and how many it looked at
abbrev pub verdict_over : List Expected → ℕ → ℕ → List WordRecord → Verdict
verdict_over es last until rs = (finding_over es last until rs).verdict

abbrev pub looked_over : List Expected → ℕ → ℕ → List WordRecord → ℕ
looked_over es last until rs = (finding_over es last until rs).looked

-- where the first record shows no fact, the rest decides
pub verdict_passed : (e : Expected) (es : List Expected) (last until : ℕ) (r : WordRecord) (rs : List WordRecord) → fact_of (Some e) last r ≡ None
    → verdict_over (e ∷ es) last until (r ∷ rs) ≡ verdict_over es r.time.0 until rs
unfolding finding_over
verdict_passed e es last until r rs none = ap (λ (o : Option Verdict). (found_or o (finding_over es r.time.0 until rs)).verdict) none

-- of a plan, where it is known what is expected back
pub verdict_of_lem : (plan : Plan) (es : List Expected) → expected_of plan ≡ es
    → (rs : List WordRecord) → verdict_of plan rs ≡ verdict_over es plan.last.0 plan.until.0 rs
unfolding finding_of
verdict_of_lem plan es back rs = ap (λ (l : List Expected). verdict_over l plan.last.0 plan.until.0 rs) back

-- ---- a finding that is given

pub record Taken (plan : Plan) (bytes : List ℕ) (f : Finding) : Type 0 where
  pub checks : plan_checks plan ≡ Ok tt
  pub records : List WordRecord
  pub returned : returned_of plan bytes ≡ whole records
  pub found : finding_of plan records ≡ f

pub given_taken : (plan : Plan) (bytes : List ℕ) (f : Finding) → judged_of plan bytes ≡ Ok f → Taken plan bytes f
unfolding judged_of
given_taken plan bytes f h = go (plan_checks plan) refl (returned_of plan bytes) refl h
  where
    go : (c : Result ⊤ Refusal) → plan_checks plan ≡ c
        → (w : Walk) → returned_of plan bytes ≡ w
        → judged_with c (decide plan w) ≡ Ok f
        → Taken plan bytes f
    go (Ok _) ok (whole rs) e h = record { checks = ok; records = rs; returned = e; found = cc }
    go (Ok _) ok (stops n) e h = absurd (cc)
    go (Err n) bad w e h = absurd (cc)

pub taken_given : (plan : Plan) (bytes : List ℕ) (rs : List WordRecord) → plan_checks plan ≡ Ok tt → returned_of plan bytes ≡ whole rs
    → judged_of plan bytes ≡ Ok (finding_of plan rs)
unfolding judged_of
taken_given plan bytes rs ok e = rw (ok, e)
