-- The verdict is one of 0 to 12, and at most 35 records are looked at for it. Assumes nothing.
use mathlib.Core.Path.{◌≡◌, refl, ap}
use Prim.Native.Nat.{ℕ, suc, ◌+◌, ◌≤◌}
use mathlib.Core.Bool.{Bool, true, false, not, cond}
use mathlib.Core.List.{List, [], ◌∷◌}
use native.Mathlib.Omega.{arith}
use lib.Dec.{eqb, lit≤}
use lib.ListN.{length, length-append, length-replicate}
use borrow.Author.Tests.{not-true}
use Rattle.words.specs.Words.{is_broadcast, is_transmit, is_mode}
use Rattle.words.specs.Modes.{listing_of}
use Rattle.std.specs.Prelude.{Option, Some, None, Result, Ok, Err, ⊤}
use Rattle.words.specs.declared.refusals.Refusal.{Refusal}
use Rattle.words.specs.declared.times.Spacing.{Spacing}
use Rattle.words.specs.declared.times.Spacing.TheVariants.{Overlapping, BackToBack, Separated}
use Rattle.words.specs.declared.modes.Listing.{Listing}
use Rattle.words.specs.declared.modes.ModeWord.{ModeWord}
use Rattle.words.specs.declared.modes.ModeWord.TheVariants as modeword
use Rattle.words.proofs.Counts.{words_most}
use Rattle.words.proofs.Truth.{cond_most}
use Rattle.records.specs.Files.{Walk, whole, stops}
use Rattle.records.specs.declared.forms.WordRecord.{WordRecord}
use Rattle.verdict.specs.Plans.{is_pair, is_possible, plan_checks, words_sent, sent_by, sent_of, part_of, back_of, expected_of}
use Rattle.verdict.specs.Numbers.{last_verdict, number_of, fact_number}
use Rattle.verdict.specs.Facts.{flag_fact, status_fact, spacing_fact, data_fact, fact_of, end_of}
use Rattle.verdict.specs.Verdicts.{found_or, finding_over, finding_of, looked_of, decide}
use Rattle.verdict.specs.Theorems.{VerdictRange, LookedBound}
use Rattle.verdict.specs.declared.judges.Finding.{Finding}
use Rattle.verdict.specs.declared.verdicts.Verdict.{Verdict}
use Rattle.verdict.specs.declared.plans.Plan.{Plan}
use Rattle.verdict.specs.declared.plans.Expected.{Expected}
use Rattle.verdict.specs.declared.plans.Expected.TheVariants.{Status, Data}
use Rattle.verdict.proofs.Findings.{looked_over, given_taken}
use Rattle.std.proofs.lemmas.Bool.{cond_both, and_parts}

-- ---- the verdict

-- of a test, of what it chooses
fact_most : (b : Bool) (x y : Option Verdict) → fact_number x ≤ last_verdict → fact_number y ≤ last_verdict → fact_number (cond b x y) ≤ last_verdict
fact_most true x y p q = p
fact_most false x y p q = q

end_most : (b : Bool) (x y : Verdict) → number_of x ≤ last_verdict → number_of y ≤ last_verdict → number_of (cond b x y) ≤ last_verdict
end_most true x y p q = p
end_most false x y p q = q

-- of a spacing, and what comes then
spacing_range : (s : Spacing) (next : Option Verdict) → fact_number next ≤ last_verdict → fact_number (spacing_fact s next) ≤ last_verdict
spacing_range (Overlapping distance) next h = lit≤ tt
spacing_range (BackToBack distance) next h = h
spacing_range (Separated distance) next h = lit≤ tt

-- of each fact
fact_range : (e : Option Expected) (last : ℕ) (r : WordRecord) → fact_number (fact_of e last r) ≤ last_verdict
unfolding fact_of status_fact flag_fact data_fact
fact_range (Some (Status address unjudged)) last r = search (fact_most, lit≤) depth 12
fact_range (Some Data) last r = search (spacing_range, fact_most, lit≤) depth 6
fact_range None last r = lit≤ tt

-- of the end
end_range : (e : Option Expected) (last until : ℕ) → number_of (end_of e last until) ≤ last_verdict
unfolding end_of
end_range (Some (Status address unjudged)) last until = search (end_most, lit≤)
end_range (Some Data) last until = search (end_most, lit≤)
end_range None last until = search (end_most, lit≤)

-- of a record and those behind it
found_range : (shown : Option Verdict) (rest : Finding) → fact_number shown ≤ last_verdict → number_of rest.verdict ≤ last_verdict
    → number_of (found_or shown rest).verdict ≤ last_verdict
found_range None rest shown_most rest_most = rest_most
found_range (Some fact) rest shown_most rest_most = shown_most

over_range : (es : List Expected) (last until : ℕ) (rs : List WordRecord) → number_of (finding_over es last until rs).verdict ≤ last_verdict
unfolding finding_over
over_range [] last until [] = end_range None last until
over_range [] last until (r ∷ rs) = lit≤ tt
over_range (e ∷ es) last until [] = end_range (Some e) last until
over_range (e ∷ es) last until (r ∷ rs) =
    found_range (fact_of (Some e) last r) (finding_over es r.time.0 until rs) (fact_range (Some e) last r) (over_range es r.time.0 until rs)

pub verdict_range : VerdictRange
unfolding finding_of
verdict_range plan rs = over_range (expected_of plan) plan.last.0 plan.until.0 rs

-- ---- how much is expected

words_sent_most : (word : Option ModeWord) → words_sent word ≤ 32
words_sent_most None = lit≤ tt
words_sent_most (Some modeword.Sent) = lit≤ tt
words_sent_most (Some modeword.Received) = lit≤ tt

sent_by_most : (listing : Option Listing) → sent_by listing ≤ 32
sent_by_most None = lit≤ tt
sent_by_most (Some listing) = words_sent_most listing.word

sent_most : (w : ℕ) → sent_of w ≤ 32
unfolding sent_of
sent_most w = cond_most 32 (is_mode w) _ _ (sent_by_most (listing_of w)) (cond_most 32 (is_transmit w) _ _ (words_most w) (lit≤ tt))

-- a status and its data words
part_length : (w : ℕ) → length (part_of w) ≡ suc (sent_of w)
part_length w = ap suc (length-replicate (sent_of w) Data)

back_most : (w : ℕ) → length (back_of w) ≤ 1 + sent_of w
unfolding back_of
back_most w =
    cond_both (is_broadcast w) _ _ (λ (l : List Expected). length l ≤ 1 + sent_of w) (λ all. omega arith) (λ one. omega (arith, part_length w))

-- at most 34 are expected, and of two commands as many more as the first would have sent
expected_most : (plan : Plan) (n : ℕ) → (eqb plan.commands 1 ≡ false → sent_of plan.first.0 ≤ n) → length (expected_of plan) ≤ 34 + n
unfolding expected_of
expected_most plan n few =
    let first : ℕ = plan.first.0 in
    let second : ℕ = plan.second.0 in
    cond_both (eqb plan.commands 1) _ _ (λ (l : List Expected). length l ≤ 34 + n)
    (λ one. omega (arith, back_most first, sent_most first))
    (λ two. omega (arith, length-append (part_of second) (back_of first), part_length second, sent_most second, back_most first, few two))

-- a receive command that is no mode command has no data word sent back
first_sends_none : (first second : ℕ) → is_pair first second ≡ true → sent_of first ≤ 0
unfolding is_pair sent_of
first_sends_none first second h =
    let both = and_parts (not (is_transmit first)) (not (is_mode first)) (and_parts _ _ (and_parts _ _ (and_parts _ _ (and_parts _ _ h).0).0).0).0 in
    rw (not-true (is_transmit first) both.0, not-true (is_mode first) both.1) (lit≤ tt)

-- ---- how much is looked at

-- one more, or the one that shows the fact
found_most : (shown : Option Verdict) (rest : Finding) (n : ℕ) → rest.looked ≤ n → (found_or shown rest).looked ≤ suc n
found_most None rest n few = omega arith
found_most (Some fact) rest n few = omega arith

-- a record for each that is expected, and one left over
over_most : (es : List Expected) (last until : ℕ) (rs : List WordRecord) → looked_over es last until rs ≤ 1 + length es
unfolding finding_over
over_most [] last until [] = omega arith
over_most [] last until (r ∷ rs) = omega arith
over_most (e ∷ es) last until [] = omega arith
over_most (e ∷ es) last until (r ∷ rs) =
    omega (arith, found_most (fact_of (Some e) last r) (finding_over es r.time.0 until rs) (1 + length es) (over_most es r.time.0 until rs))

-- of any plan, a possible one or not: what the code counts fits a byte
pub looked_fits : (plan : Plan) (w : Walk) (f : Finding) → Ok f ≡ decide plan w → f.looked ≤ 67
unfolding finding_of
looked_fits plan (whole rs) f h =
    let same : f ≡ finding_of plan rs = cc in
    omega (
      arith,
      ap (λ (g : Finding). g.looked) same,
      over_most (expected_of plan) plan.last.0 plan.until.0 rs,
      expected_most plan 32 (λ two. sent_most plan.first.0),
    )
looked_fits plan (stops n) f h = absurd (cc)

taken_possible : (plan : Plan) → plan_checks plan ≡ Ok tt → is_possible plan ≡ true
unfolding plan_checks
taken_possible plan ok = go (is_possible plan) _ _ ok
  where
    go : (possible : Bool) (c : Result ⊤ Refusal) (n : Refusal) → cond possible c (Err n) ≡ Ok tt → possible ≡ true
    go true c n ok = refl
    go false c n bad = absurd (cc)

possible_pair : (plan : Plan) → is_possible plan ≡ true → eqb plan.commands 1 ≡ false → is_pair plan.first.0 plan.second.0 ≡ true
unfolding is_possible
possible_pair plan possible two = (and_parts (eqb plan.commands 2) _ (rw two at possible)).1

-- of a plan that is not refused
pub looked_most : (plan : Plan) → plan_checks plan ≡ Ok tt → (rs : List WordRecord) → looked_of plan rs ≤ 35
unfolding finding_of
looked_most plan ok rs =
    let possible = taken_possible plan ok in
    omega (
      arith,
      over_most (expected_of plan) plan.last.0 plan.until.0 rs,
      expected_most plan 0 (λ two. first_sends_none plan.first.0 plan.second.0 (possible_pair plan possible two)),
    )

pub looked_bound : LookedBound
looked_bound plan bytes f h =
    let t = given_taken plan bytes f h in
    omega (arith, ap (λ (g : Finding). g.looked) t.found, looked_most plan t.checks t.records)
