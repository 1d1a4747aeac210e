-- What the check accepts, and which message or frame it names. Assumes nothing.
use mathlib.Core.Path.{◌≡◌, ap, ◌∙◌}
use mathlib.Core.Bool.{false}
use mathlib.Core.List.{List, []}
use Prim.Native.Nat.{ℕ, ◌≤◌}
use native.Mathlib.Omega.{arith}
use native.Mathlib.Nat.{le_trans}
use lib.ListN.{length}
use borrow.Author.Tests.{lt-ltb, le-ltb}
use Rattle.schedule.specs.Messages.{are_fit, is_refused}
use Rattle.schedule.specs.Frames.{Placed, placed_of, frame_load, frames_all, check_of}
use Rattle.schedule.specs.Theorems.{Sound, AcceptedExactly, FirstOffending, FirstOverloaded, FirstNamed, EmptyAccepted, MoreRoom}
use Rattle.schedule.specs.declared.schedules.Schedule.{Schedule}
use Rattle.std.specs.Prelude.{Ok, Err}
use Rattle.schedule.specs.declared.schedules.Rejection.TheVariants as rejection
use Rattle.schedule.proofs.Outcomes.{placed, each, below_before, below_all, offends_at, offending_is, none_offending, fit_before, above_at, overloaded_is, none_overloaded, check_choice, accepts, accepted, named_message, named_frame}

-- ---- what is accepted

pub accepted_exactly : AcceptedExactly
accepted_exactly s fs cs some sized = (there, back)
  where
    there : check_of s fs cs ≡ Ok tt → Sound s fs cs
    there h =
        let tests = accepted s fs cs h in
        record {
          taken = tests.0;
          below = below_all s fs some tests.0 tests.1;
          fit = λ f k. fit_before (placed s fs) cs sized f k (omega arith);
        }

    back : Sound s fs cs → check_of s fs cs ≡ Ok tt
    back sound =
        accepts s fs cs sound.taken
        (none_offending s fs some sound.taken sound.below)
        (none_overloaded (placed s fs) cs sized sound.fit)

pub more_room : MoreRoom
more_room s fs cs ds sized wide wider h =
    let tests = accepted s fs cs h in
    accepts s fs ds tests.0 tests.1
    (none_overloaded (placed s fs) ds wide (λ f k. le_trans (fit_before (placed s fs) cs sized f k (omega arith)) (wider f k)))

-- ---- no messages

module _ (s : Schedule) (none : s.count ≡ 0) where
  empty_taken : is_refused s ≡ false
  unfolding is_refused are_fit
  empty_taken = rw none

  empty_placed : (fs : List ℕ) → placed s fs ≡ []
  unfolding placed_of
  empty_placed fs = rw none

empty_load : (ps : List Placed) (f n : ℕ) → ps ≡ [] → frame_load f ps ≤ n
unfolding frame_load
empty_load ps f n none = rw none (omega arith)

pub empty_accepted : EmptyAccepted
empty_accepted s none fs cs sized =
    let empty = empty_placed s none fs in
    accepts s fs cs (empty_taken s none) (omega (arith, ap length empty)) (none_overloaded (placed s fs) cs sized (λ f k. empty_load (placed s fs) f _ empty))

-- ---- what is named

pub first_named : FirstNamed
first_named s fs cs some sized n = (message, message_back, frame, frame_back)
  where
    message : check_of s fs cs ≡ Err (rejection.Message n) → FirstOffending s fs n
    message h =
        let tests = named_message s fs cs n h in
        let all = each s fs some tests.0 in
        record {
          taken = tests.0;
          there = omega arith;
          offends = offends_at s fs some tests.0 n tests.2 (omega arith);
          before = λ i k. below_before s fs some tests.0 i (omega arith);
        }

    message_back : FirstOffending s fs n → check_of s fs cs ≡ Err (rejection.Message n)
    message_back first =
        let all = each s fs some first.taken in
        let is = offending_is s fs some first.taken n (omega arith) first.before (λ k. first.offends) in
        check_choice s fs cs ∙ rw (first.taken, is, lt-ltb n (length (placed s fs)) (omega arith))

    frame : check_of s fs cs ≡ Err (rejection.Frame n) → FirstOverloaded s fs cs n
    frame h =
        let tests = named_frame s fs cs n h in
        record {
          taken = tests.0;
          below = below_all s fs some tests.0 tests.1;
          there = omega arith;
          above = above_at (placed s fs) cs sized n tests.3 (omega arith);
          before = λ f k. fit_before (placed s fs) cs sized f (omega arith) (omega arith);
        }

    frame_back : FirstOverloaded s fs cs n → check_of s fs cs ≡ Err (rejection.Frame n)
    frame_back first =
        let none = none_offending s fs some first.taken first.below in
        let is = overloaded_is (placed s fs) cs sized n (omega arith) first.before (λ k. first.above) in
        check_choice s fs cs ∙ rw (first.taken, le-ltb _ _ none, is, lt-ltb n frames_all first.there)
