-- The verdict is found record by record. Assumes nothing.
use mathlib.Core.Path.{◌≡◌, refl, sym, ap, ◌∙◌}
use Prim.Native.Nat.{ℕ, suc, ◌+◌}
use mathlib.Core.List.{List, [], ◌∷◌}
use native.Mathlib.Omega.{arith}
use lib.ListN.{length}
use Rattle.std.specs.Prelude.{Option, Some, None}
use Rattle.records.specs.declared.forms.WordRecord.{WordRecord}
use Rattle.verdict.specs.Facts.{fact_of}
use Rattle.verdict.specs.Verdicts.{expected_at, finish_of}
use Rattle.verdict.specs.Theorems.{found_after, last_after, LookByLook}
use Rattle.verdict.specs.declared.judges.Finding.{Finding}
use Rattle.verdict.specs.declared.verdicts.Verdict.{Verdict}
use Rattle.verdict.specs.declared.plans.Plan.{Plan}
use Rattle.verdict.proofs.Orders.{finding_from, finding_places}

finish_from : (plan : Plan) (rs : List WordRecord) (found : Option Verdict) (place last : ℕ)
    → finish_of plan (found_after plan found place last rs) (place + length rs) (last_after last rs) ≡ (finding_from plan found place last rs).verdict
unfolding finish_of finding_from
finish_from plan [] None place last = ap (λ (k : ℕ). finish_of plan None k last) {x = place + 0} {y = place} (omega arith)
finish_from plan [] (Some fact) place last = refl
finish_from plan (r ∷ rs) None place last =
    ap (λ (k : ℕ). finish_of plan (found_after plan (fact_of (expected_at plan place) last r) k r.time.0 rs) (place + suc (length rs)) (last_after r.time.0 rs))
    {x = suc place} {y = place + 1} (omega arith)
    ∙ ap (λ (k : ℕ). finish_of plan (found_after plan (fact_of (expected_at plan place) last r) (place + 1) r.time.0 rs) k (last_after r.time.0 rs))
    {x = place + suc (length rs)} {y = place + 1 + length rs} (omega arith)
    ∙ finish_from plan rs (fact_of (expected_at plan place) last r) (place + 1) r.time.0
finish_from plan (r ∷ rs) (Some fact) place last =
    ap (λ (k : ℕ). finish_of plan (found_after plan (Some fact) (suc place) r.time.0 rs) k (last_after r.time.0 rs))
    {x = place + suc (length rs)} {y = suc place + length rs} (omega arith)
    ∙ finish_from plan rs (Some fact) (suc place) r.time.0

pub look_by_look : LookByLook
look_by_look plan rs =
    ap (λ (k : ℕ). finish_of plan (found_after plan None 0 plan.last.0 rs) k (last_after plan.last.0 rs)) {x = length rs} {y = 0 + length rs} (omega arith)
    ∙ finish_from plan rs None 0 plan.last.0
    ∙ ap (λ (f : Finding). f.verdict) (sym (finding_places plan rs))
