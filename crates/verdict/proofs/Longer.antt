-- Listening longer changes no verdict but 2. Assumes nothing.
use mathlib.Core.Path.{◌≡◌, refl, sym, ap, subst, ◌∙◌}
use Prim.Native.Nat.{ℕ, zero, suc, ◌≤◌}
use mathlib.Core.Bool.{Bool, true, false, cond, ◌&&◌}
use mathlib.Core.List.{List, [], ◌∷◌}
use mathlib.Core.Logic.{◌⊎◌, inl, inr}
use native.Mathlib.Omega.{arith}
use lib.Dec.{eqb, ltb, leb}
use lib.ListN.{length, drop}
use borrow.Author.Tests.{leb-true, le-leb, ltb-true, ltb-false, lt-ltb, le-ltb}
use Rattle.words.specs.Words.{on_clock, since_of, no_response_distance, spacing_most}
use Rattle.std.specs.Prelude.{Option, Some, None, Result, Ok, Err, ⊤}
use Rattle.std.proofs.lemmas.Bool.{and_parts}
use Rattle.words.specs.declared.refusals.Refusal.{Refusal}
use Rattle.words.specs.declared.times.Moment.{Moment}
use Rattle.records.specs.Records.{record_bytes, last_bus, read_of}
use Rattle.records.specs.Files.{Walk, whole, stops, with}
use Rattle.records.specs.declared.forms.WordRecord.{WordRecord}
use Rattle.verdict.specs.Plans.{is_possible, plan_checks, expected_of}
use Rattle.verdict.specs.Facts.{fact_of, end_of, listened_least}
use Rattle.verdict.specs.Verdicts.{record_checks, with_checked, go_on, returned_from, returned_of, found_or, finding_over, finding_of, verdict_of}
use Rattle.verdict.specs.Theorems.{with_until, is_final, Longer}
use Rattle.verdict.specs.declared.judges.Finding.{Finding}
use Rattle.verdict.specs.declared.verdicts.Verdict.{Verdict}
use Rattle.verdict.specs.declared.verdicts.Verdict.TheVariants as verdict
use Rattle.verdict.specs.declared.plans.Plan.{Plan}
use Rattle.verdict.specs.declared.plans.Expected.{Expected}
use Rattle.verdict.specs.declared.plans.Expected.TheVariants.{Status, Data}
use Rattle.verdict.proofs.Findings.{verdict_over, looked_over, given_taken, taken_given}

-- no refusal
abbrev taken : Result ⊤ Refusal
taken = Ok tt

-- ---- the verdict

-- a verdict and the one in its place
abbrev Replaces : Verdict → Verdict → Type 0
Replaces after before = (after ≡ before) ⊎ ((before ≡ verdict.Waiting) × (is_final after ≡ true))

-- a choice that goes one way for good once it goes so: before that it is waiting
settles : (before after : Bool) (x : Verdict) → (before ≡ true → after ≡ true) → is_final x ≡ true → Replaces (cond after x verdict.Waiting) (cond before x verdict.Waiting)
settles true after x h final = inl (rw (h refl))
settles false true x h final = inr (refl, final)
settles false false x h final = inl refl

settles_not : (before after : Bool) (x : Verdict) → (before ≡ false → after ≡ false) → is_final x ≡ true → Replaces (cond after verdict.Waiting x) (cond before verdict.Waiting x)
settles_not true true x h final = inl refl
settles_not true false x h final = inr (refl, final)
settles_not false after x h final = inl (rw (h refl))

module _ (plan : Plan) (moment : Moment) (later : plan.until.0 ≤ moment.0) where
  end_longer : (e : Option Expected) (last : ℕ) → Replaces (end_of e last moment.0) (end_of e last plan.until.0)
  unfolding end_of
  end_longer (Some (Status address unjudged)) last =
      settles (leb no_response_distance (since_of last plan.until.0)) (leb no_response_distance (since_of last moment.0)) verdict.NoResponse
      (λ h. le-leb no_response_distance (since_of last moment.0) (omega (arith, leb-true no_response_distance (since_of last plan.until.0) h)))
      refl
  end_longer (Some Data) last =
      settles (ltb spacing_most (since_of last plan.until.0)) (ltb spacing_most (since_of last moment.0)) verdict.Separated
      (λ h. lt-ltb spacing_most (since_of last moment.0) (omega (arith, ltb-true spacing_most (since_of last plan.until.0) h)))
      refl
  end_longer None last =
      settles_not (ltb (since_of last plan.until.0) listened_least) (ltb (since_of last moment.0) listened_least) verdict.Good
      (λ h. le-ltb (since_of last moment.0) listened_least (omega (arith, ltb-false (since_of last plan.until.0) listened_least h)))
      refl

  over_longer : (es : List Expected) (last : ℕ) (rs : List WordRecord)
      → Replaces (verdict_over es last moment.0 rs) (verdict_over es last plan.until.0 rs)
  unfolding finding_over
  over_longer [] last [] = end_longer None last
  over_longer [] last (r ∷ rs) = inl refl
  over_longer (e ∷ es) last [] = end_longer (Some e) last
  over_longer (e ∷ es) last (r ∷ rs) = go (fact_of (Some e) last r) _ _ (over_longer es r.time.0 rs)
    where
      go : (shown : Option Verdict) (f g : Finding) → Replaces f.verdict g.verdict → Replaces (found_or shown f).verdict (found_or shown g).verdict
      go None f g rest = rest
      go (Some fact) f g rest = inl refl

  -- it is given on as many records
  looked_longer : (es : List Expected) (last : ℕ) (rs : List WordRecord) → looked_over es last moment.0 rs ≡ looked_over es last plan.until.0 rs
  unfolding finding_over
  looked_longer [] last [] = refl
  looked_longer [] last (r ∷ rs) = refl
  looked_longer (e ∷ es) last [] = refl
  looked_longer (e ∷ es) last (r ∷ rs) = go (fact_of (Some e) last r) _ _ (looked_longer es r.time.0 rs)
    where
      go : (shown : Option Verdict) (f g : Finding) → f.looked ≡ g.looked → (found_or shown f).looked ≡ (found_or shown g).looked
      go None f g rest = ap suc rest
      go (Some fact) f g rest = refl

  -- ---- the plan and its records are taken again

  in_time_longer : (before t : ℕ) → (ltb before t && leb t plan.until.0) ≡ true → (ltb before t && leb t moment.0) ≡ true
  in_time_longer before t h =
      let parts = and_parts (ltb before t) (leb t plan.until.0) h in
      rw parts.0 (le-leb t moment.0 (omega (arith, leb-true t plan.until.0 parts.1)))

  record_longer : (before : ℕ) (r : WordRecord) → record_checks plan before r ≡ Ok tt → record_checks (with_until plan moment) before r ≡ Ok tt
  unfolding record_checks
  record_longer before r = go (eqb r.bus plan.bus) (ltb before t && leb t plan.until.0) refl _ _
    where
      t : ℕ
      t = r.time.0

      go : (same ordered : Bool) → (ltb before t && leb t plan.until.0) ≡ ordered → (x y : Refusal)
          → cond same (cond ordered taken (Err x)) (Err y) ≡ taken
          → cond same (cond (ltb before t && leb t moment.0) taken (Err x)) (Err y) ≡ taken
      go true true h x y ok = rw (in_time_longer before t h)
      go true false h x y bad = absurd (cc)
      go false ordered h x y bad = absurd (cc)

  -- one record and those after it
  with_whole : (r : WordRecord) (w : Walk) (rs : List WordRecord) → with r w ≡ whole rs → (rest : List WordRecord) × (w ≡ whole rest) × (rs ≡ r ∷ rest)
  with_whole r (whole rest) rs e = (rest, refl, cc)
  with_whole r (stops n) rs e = absurd (cc)

  returned_longer : (n before : ℕ) (bytes : List ℕ) (rs : List WordRecord) → returned_from n plan before bytes ≡ whole rs
      → returned_from n (with_until plan moment) before bytes ≡ whole rs
  unfolding returned_from
  returned_longer zero before bytes rs h = h
  returned_longer (suc n) before bytes rs h =
      go (eqb (length bytes) 0) (read_of last_bus bytes) (λ time. returned_from n plan time (drop record_bytes bytes))
      (λ time. returned_from n (with_until plan moment) time (drop record_bytes bytes))
      (λ time. returned_longer n time (drop record_bytes bytes))
      h
    where
      checked : (b c : Result ⊤ Refusal) (r : WordRecord) (w w' : Walk) → (b ≡ Ok tt → c ≡ Ok tt)
          → ((rest : List WordRecord) → w ≡ whole rest → w' ≡ whole rest)
          → with_checked b r w ≡ whole rs
          → with_checked c r w' ≡ whole rs
      checked (Ok _) c r w w' again rest h =
          let (others, e, same) = with_whole r w rs h in
          rw (again refl, rest others e) (ap (λ (l : List WordRecord). whole l) (sym same))
      checked (Err n) c r w w' again rest h = absurd (cc)

      go : (b : Bool) (g : Result WordRecord Refusal) (rest rest' : ℕ → Walk) → ((time : ℕ) (others : List WordRecord) → rest time ≡ whole others → rest' time ≡ whole others)
          → cond b (whole []) (go_on plan before g rest) ≡ whole rs
          → cond b (whole []) (go_on (with_until plan moment) before g rest') ≡ whole rs
      go true g rest rest' again h = h
      go false (Ok r) rest rest' again h =
          checked (record_checks plan before r) (record_checks (with_until plan moment) before r) r (rest r.time.0) (rest' r.time.0)
          (record_longer before r) (again r.time.0) h
      go false (Err k) rest rest' again h = h

  plan_longer : on_clock moment.0 ≡ true → plan_checks plan ≡ Ok tt → plan_checks (with_until plan moment) ≡ Ok tt
  unfolding plan_checks is_possible
  plan_longer on_clock_lem = go (is_possible plan) (fits plan.until.0) refl _ _
    where
      -- the test of the plan's numbers with that Q
      fits : ℕ → Bool
      fits q = leb plan.bus last_bus && on_clock plan.last.0 && on_clock q && leb plan.last.0 q

      again : fits plan.until.0 ≡ true → fits moment.0 ≡ true
      again h =
          let all = and_parts (leb plan.bus last_bus && on_clock plan.last.0 && on_clock plan.until.0) (leb plan.last.0 plan.until.0) h in
          let front = and_parts (leb plan.bus last_bus && on_clock plan.last.0) (on_clock plan.until.0) all.0 in
          rw (front.0, on_clock_lem) (le-leb plan.last.0 moment.0 (omega (arith, leb-true plan.last.0 plan.until.0 all.1)))

      go : (possible fit : Bool) → fits plan.until.0 ≡ fit → (x y : Refusal)
          → cond possible (cond fit taken (Err x)) (Err y) ≡ taken
          → cond possible (cond (fits moment.0) taken (Err x)) (Err y) ≡ taken
      go true true h x y ok = rw (again h)
      go true false h x y bad = absurd (cc)
      go false fit h x y bad = absurd (cc)

-- ---- the whole

pub longer : Longer
unfolding returned_of finding_of expected_of
longer plan moment later on_clock_lem bytes f h =
    let t = given_taken plan bytes f h in
    let rs = t.records in
    let again : returned_of (with_until plan moment) bytes ≡ whole rs =
    returned_longer plan moment later (length bytes) plan.last.0 bytes rs t.returned in (
      finding_of (with_until plan moment) rs,
      taken_given (with_until plan moment) bytes rs (plan_longer plan moment later on_clock_lem t.checks) again,
      looked_longer plan moment later (expected_of plan) plan.last.0 rs ∙ ap (λ (g : Finding). g.looked) t.found,
      subst (λ (g : Finding). Replaces (verdict_of (with_until plan moment) rs) g.verdict) t.found
          (over_longer plan moment later (expected_of plan) plan.last.0 rs),
    )
