-- The check's outcome by its two counts, and each count by places and frames. Assumes nothing.
use mathlib.Core.Path.{◌≡◌, refl, sym, ◌∙◌}
use mathlib.Core.Bool.{Bool, true, false, cond}
use mathlib.Core.List.{List}
use Prim.Native.Nat.{ℕ, ◌≤◌, ◌<◌}
use native.Mathlib.Omega.{arith}
use lib.Dec.{ltb, leb}
use lib.ListN.{length, get_or, length-map, length-take}
use borrow.Author.Tests.{ltb-true, ltb-false, leb-true, leb-false, lt-ltb, le-ltb, le-leb, lt-leb, not-false}
use Rattle.std.specs.Prelude.{Result, Ok, Err}
use Rattle.words.specs.declared.refusals.Refusal.{Refusal}
use Rattle.words.specs.declared.refusals.Refusal.TheVariants as refusal
use Rattle.std.proofs.lemmas.Bool.{and_parts}
use Rattle.schedule.specs.Messages.{messages_most, messages_in, are_fit, is_refused}
use Rattle.schedule.specs.Frames.{Placed, placed_of, frame_load, frames_all, loads_of, before_offending, before_overloaded, frame_outcome, outcome_of, check_of}
use Rattle.schedule.specs.Theorems.{period_at, BelowUpTo}
use Rattle.schedule.specs.declared.messages.Message.{Message}
use Rattle.schedule.specs.declared.schedules.Schedule.{Schedule}
use Rattle.schedule.specs.declared.schedules.Rejection.{Rejection}
use Rattle.schedule.specs.declared.schedules.Rejection.TheVariants as rejection
use Rattle.schedule.proofs.Walks.{length_placed}
use Rattle.schedule.proofs.Fills.{load_at_lem, loads_all}
use Rattle.schedule.proofs.Firsts.{passed_before, failed_at, stops_at, periods, is_lower, offending_by, overloaded_by}

-- ---- an outcome, by the tests that lead to it

-- the choice of the check, over the values of its tests
abbrev choice : (refused offends overloaded : Bool) (n : Refusal) (place frame : ℕ) → Result Unit Rejection
choice refused offends overloaded n place frame =
    cond refused (Err (rejection.Refused n)) (cond offends (Err (rejection.Message place)) (cond overloaded (Err (rejection.Frame frame)) (Ok tt)))

accepted_by : (r o v : Bool) (n : Refusal) (k f : ℕ) → choice r o v n k f ≡ Ok tt → (r ≡ false) × (o ≡ false) × (v ≡ false)
accepted_by true o v n k f h = absurd cc
accepted_by false true v n k f h = absurd cc
accepted_by false false true n k f h = absurd cc
accepted_by false false false n k f h = (refl, refl, refl)

message_by : (r o v : Bool) (n : Refusal) (k f j : ℕ) → choice r o v n k f ≡ Err (rejection.Message j) → (r ≡ false) × (o ≡ true) × (k ≡ j)
message_by true o v n k f j h = absurd cc
message_by false true v n k f j h = (refl, refl, cc)
message_by false false true n k f j h = absurd cc
message_by false false false n k f j h = absurd cc

frame_by : (r o v : Bool) (n : Refusal) (k f j : ℕ) → choice r o v n k f ≡ Err (rejection.Frame j) → (r ≡ false) × (o ≡ false) × (v ≡ true) × (f ≡ j)
frame_by true o v n k f j h = absurd cc
frame_by false true v n k f j h = absurd cc
frame_by false false true n k f j h = (refl, refl, refl, cc)
frame_by false false false n k f j h = absurd cc

-- ---- the two counts, by places and frames

-- the messages of a schedule with their first frames
abbrev pub placed : Schedule → List ℕ → List Placed
placed s fs = placed_of (messages_in s) fs

-- how many stand before the first that offends
abbrev pub offending : Schedule → List ℕ → ℕ
offending s fs = before_offending (placed s fs)

-- how many frames before the first that is overloaded
abbrev pub overloaded : List Placed → List ℕ → ℕ
overloaded ps cs = before_overloaded (loads_of ps) cs

-- a schedule that is not refused has no more messages than there is room for
taken_few : (s : Schedule) → is_refused s ≡ false → length (messages_in s) ≤ messages_most
unfolding is_refused
taken_few s taken =
    let few = leb-true s.count messages_most (and_parts _ (are_fit (messages_in s)) (not-false _ taken)).0 in
    omega (arith, length-take s.count s.messages)

-- the messages before the first that offends do not, and it does
module _ (s : Schedule) (fs : List ℕ) (sized : length fs ≡ frames_all) (taken : is_refused s ≡ false) where
  pub each : length (placed s fs) ≡ length (messages_in s)
  each = length_placed (messages_in s) fs (omega (arith, taken_few s taken))

  many : length (periods (messages_in s)) ≡ length (messages_in s)
  many = length-map (messages_in s) (λ (m : Message). m.period)

  enough : length (periods (messages_in s)) ≤ length fs
  enough = omega (arith, many, taken_few s taken)

  pub below_before : BelowUpTo (offending s fs) s fs
  below_before i h = ltb-true _ _ (passed_before is_lower (periods (messages_in s)) fs i (omega (arith, offending_by (messages_in s) fs)))

  pub below_all : length (placed s fs) ≤ offending s fs → BelowUpTo (length (messages_in s)) s fs
  below_all none i h = below_before i (omega (arith, each))

  pub offends_at : (n : ℕ) → offending s fs ≡ n → n < length (messages_in s) → period_at s n ≤ get_or fs n 0
  offends_at n is h = ltb-false _ _ (failed_at is_lower (periods (messages_in s)) fs n enough (sym (offending_by (messages_in s) fs) ∙ is) (omega (arith, many)))

  pub offending_is : (n : ℕ) → n ≤ length (messages_in s) → BelowUpTo n s fs → (n < length (messages_in s) → period_at s n ≤ get_or fs n 0) → offending s fs ≡ n
  offending_is n h below offends =
      offending_by (messages_in s) fs
      ∙ stops_at is_lower (periods (messages_in s)) fs n enough (omega (arith, many))
      (λ i k. lt-ltb _ _ (below i k))
      (λ k. le-ltb _ _ (offends (omega (arith, many))))

  pub none_offending : BelowUpTo (length (messages_in s)) s fs → length (placed s fs) ≤ offending s fs
  none_offending below = omega (arith, each, offending_is (length (messages_in s)) (omega arith) below (λ k. absurd (omega arith)))

-- the frames before the first that is overloaded are not, and it is
module _ (ps : List Placed) (cs : List ℕ) (sized : length cs ≡ frames_all) where
  room : length (loads_of ps) ≤ length cs
  room = omega (arith, loads_all ps)

  pub fit_before : (f : ℕ) → f < frames_all → f < overloaded ps cs → frame_load f ps ≤ get_or cs f 0
  fit_before f h k =
      let fits = leb-true (get_or (loads_of ps) f 0) (get_or cs f 0) (passed_before leb (loads_of ps) cs f (omega (arith, overloaded_by (loads_of ps) cs))) in
      rw (load_at_lem f ps h) at fits

  pub above_at : (f : ℕ) → overloaded ps cs ≡ f → f < frames_all → get_or cs f 0 < frame_load f ps
  above_at f is h =
      let fails = failed_at leb (loads_of ps) cs f room (sym (overloaded_by (loads_of ps) cs) ∙ is) (omega (arith, loads_all ps)) in
      rw (load_at_lem f ps h) at (leb-false (get_or (loads_of ps) f 0) (get_or cs f 0) fails)

  pub overloaded_is : (n : ℕ) → n ≤ frames_all
      → ((f : ℕ) → f < n → frame_load f ps ≤ get_or cs f 0)
      → (n < frames_all → get_or cs n 0 < frame_load n ps)
      → overloaded ps cs ≡ n
  overloaded_is n h fit above =
      let all = loads_all ps in
      overloaded_by (loads_of ps) cs
      ∙ stops_at leb (loads_of ps) cs n room (omega arith)
      (λ f k. rw (load_at_lem f ps (omega arith)) (le-leb _ _ (fit f k)))
      (λ k. rw (load_at_lem n ps (omega arith)) (lt-leb _ _ (above (omega arith))))

  pub none_overloaded : ((f : ℕ) → f < frames_all → frame_load f ps ≤ get_or cs f 0) → frames_all ≤ overloaded ps cs
  none_overloaded fit = omega (arith, overloaded_is frames_all (omega arith) fit (λ k. absurd (omega arith)))

-- ---- what each outcome says of the two counts

module _ (s : Schedule) (fs cs : List ℕ) where
  pub check_choice : check_of s fs cs
      ≡ choice (is_refused s) (ltb (offending s fs) (length (placed s fs))) (ltb (overloaded (placed s fs) cs) frames_all) refusal.Schedule (offending s fs) (overloaded (placed s fs) cs)
  unfolding check_of outcome_of frame_outcome
  check_choice = refl

  pub accepts : is_refused s ≡ false → length (placed s fs) ≤ offending s fs → frames_all ≤ overloaded (placed s fs) cs → check_of s fs cs ≡ Ok tt
  accepts taken none fit = check_choice ∙ rw (taken, le-ltb _ _ none, le-ltb _ _ fit)

  pub accepted : check_of s fs cs ≡ Ok tt → (is_refused s ≡ false) × (length (placed s fs) ≤ offending s fs) × (frames_all ≤ overloaded (placed s fs) cs)
  accepted h =
      let tests = accepted_by (is_refused s) _ _ _ _ _ (sym check_choice ∙ h) in
      (tests.0, ltb-false _ _ tests.1, ltb-false _ _ tests.2)

  pub named_message : (n : ℕ) → check_of s fs cs ≡ Err (rejection.Message n) → (is_refused s ≡ false) × (offending s fs < length (placed s fs)) × (offending s fs ≡ n)
  named_message n h =
      let tests = message_by (is_refused s) _ (ltb (overloaded (placed s fs) cs) frames_all) _ _ (overloaded (placed s fs) cs) n (sym check_choice ∙ h) in
      (tests.0, ltb-true _ _ tests.1, tests.2)

  pub named_frame : (n : ℕ) → check_of s fs cs ≡ Err (rejection.Frame n)
      → (is_refused s ≡ false)
      × (length (placed s fs) ≤ offending s fs)
      × (overloaded (placed s fs) cs < frames_all)
      × (overloaded (placed s fs) cs ≡ n)
  named_frame n h =
      let tests = frame_by (is_refused s) _ _ _ _ _ n (sym check_choice ∙ h) in
      (tests.0, ltb-false _ _ tests.1, ltb-true _ _ tests.2, tests.3)
