-- The records that are looked at, with whether there is one more, are enough for the finding; so are the first 36. Assumes nothing.
use mathlib.Core.Path.{◌≡◌, refl, sym, ap, subst, ◌∙◌}
use Prim.Native.Nat.{ℕ, zero, suc, ◌<◌}
use mathlib.Core.Bool.{Bool, true, false, true≢false}
use mathlib.Core.List.{List, [], ◌∷◌}
use native.Mathlib.Omega.{arith}
use lib.Dec.{ltb}
use lib.ListN.{length, take}
use borrow.Author.Tests.{ltb-true, ltb-false, lt-ltb, le-ltb}
use Rattle.std.specs.Prelude.{Option, Some, None}
use Rattle.records.specs.declared.forms.WordRecord.{WordRecord}
use Rattle.verdict.specs.Plans.{plan_checks, expected_of}
use Rattle.verdict.specs.Facts.{fact_of}
use Rattle.verdict.specs.Verdicts.{found_or, one_more, finding_over, finding_of}
use Rattle.verdict.specs.Theorems.{AgreeUpTo, LookedEnough, LookedFirst}
use Rattle.verdict.specs.declared.judges.Finding.{Finding}
use Rattle.verdict.specs.declared.verdicts.Verdict.{Verdict}
use Rattle.verdict.specs.declared.plans.Expected.{Expected}
use Rattle.verdict.proofs.Findings.{looked_over}
use Rattle.verdict.proofs.Ranges.{looked_most}
use Rattle.verdict.proofs.Refusals.{not_refused_ok}

ltb_suc : (m n : ℕ) → ltb (suc m) (suc n) ≡ ltb m n
ltb_suc m n = go (ltb m n) refl
  where
    go : (b : Bool) → ltb m n ≡ b → ltb (suc m) (suc n) ≡ b
    go true less = lt-ltb (suc m) (suc n) (omega (arith, ltb-true m n less))
    go false most = le-ltb (suc m) (suc n) (omega (arith, ltb-false m n most))

-- no record and some do not agree on whether there is one more; some and none not on the first
none_some : (o : WordRecord) (os : List WordRecord) → AgreeUpTo 0 [] (o ∷ os) → ⊥
none_some o os agreed = true≢false (sym (lt-ltb 0 (length (o ∷ os)) (omega arith)) ∙ sym agreed.1)

some_none : (n : ℕ) (r : WordRecord) (rs : List WordRecord) → AgreeUpTo (suc n) (r ∷ rs) [] → ⊥
some_none n r rs agreed = omega (arith, ap length agreed.0)

-- those that agree agree in the first, and in those behind it
agree_first : (n : ℕ) (r o : WordRecord) (rs os : List WordRecord) → AgreeUpTo (suc n) (r ∷ rs) (o ∷ os) → (r ≡ o) × AgreeUpTo n rs os
agree_first n r o rs os agreed =
    let same = agreed.0 in
    (cc, (cc, sym (ltb_suc n (length rs)) ∙ agreed.1 ∙ ltb_suc n (length os)))

over_enough : (es : List Expected) (last until : ℕ) (rs others : List WordRecord) → AgreeUpTo (looked_over es last until rs) rs others
    → finding_over es last until others ≡ finding_over es last until rs
unfolding finding_over fact_of
over_enough [] last until [] [] agreed = refl
over_enough [] last until [] (o ∷ os) agreed = absurd (none_some o os agreed)
over_enough [] last until (r ∷ rs) [] agreed = absurd (some_none 0 r rs agreed)
over_enough [] last until (r ∷ rs) (o ∷ os) agreed = refl
over_enough (e ∷ es) last until [] [] agreed = refl
over_enough (e ∷ es) last until [] (o ∷ os) agreed = absurd (none_some o os agreed)
over_enough (e ∷ es) last until (r ∷ rs) others agreed =
    go (over_enough es r.time.0 until rs) (fact_of (Some e) last r) refl others agreed
  where
    rest : Finding
    rest = finding_over es r.time.0 until rs

    go : ((os : List WordRecord) → AgreeUpTo rest.looked rs os → finding_over es r.time.0 until os ≡ rest)
        → (shown : Option Verdict) → fact_of (Some e) last r ≡ shown
        → (others : List WordRecord) → AgreeUpTo (found_or shown rest).looked (r ∷ rs) others
        → finding_over (e ∷ es) last until others ≡ found_or shown rest
    go again None none [] agreed = absurd (some_none rest.looked r rs agreed)
    go again (Some fact) some [] agreed = absurd (some_none 0 r rs agreed)
    go again None none (o ∷ os) agreed =
        let first = agree_first rest.looked r o rs os agreed in
        subst (λ (x : WordRecord). finding_over (e ∷ es) last until (x ∷ os) ≡ found_or None rest) first.0 (rw none (ap one_more (again os first.1)))
    go again (Some fact) some (o ∷ os) agreed =
        subst (λ (x : WordRecord). finding_over (e ∷ es) last until (x ∷ os) ≡ found_or (Some fact) rest) (agree_first 0 r o rs os agreed).0 (rw some)

pub looked_enough : LookedEnough
unfolding finding_of
looked_enough plan rs others = over_enough (expected_of plan) plan.last.0 plan.until.0 rs others

-- a list agrees with its first records up to fewer of them
agree_take : (n m : ℕ) (rs : List WordRecord) → n < m → AgreeUpTo n rs (take m rs)
agree_take n zero rs few = absurd (omega arith)
agree_take zero (suc m) [] few = (refl, refl)
agree_take (suc n) (suc m) [] few = (refl, refl)
agree_take zero (suc m) (r ∷ rs) few =
    (refl, lt-ltb 0 (length (r ∷ rs)) (omega arith) ∙ sym (lt-ltb 0 (length (r ∷ take m rs)) (omega arith)))
agree_take (suc n) (suc m) (r ∷ rs) few =
    let rest = agree_take n m rs (omega arith) in
    (ap (λ (l : List WordRecord). r ∷ l) rest.0, ltb_suc n (length rs) ∙ rest.1 ∙ sym (ltb_suc n (length (take m rs))))

pub looked_first : LookedFirst
looked_first plan ok rs = looked_enough plan rs (take 36 rs) (agree_take _ 36 rs (omega (arith, looked_most plan (not_refused_ok (plan_checks plan) ok) rs)))
