-- What is expected at a place of the list. Assumes nothing.
use mathlib.Core.Path.{◌≡◌, refl, sym, ap, ◌∙◌}
use Prim.Native.Nat.{ℕ, zero, suc, ◌-◌, ◌≤◌, ◌<◌}
use mathlib.Core.Bool.{Bool, true, false, not, cond, ◌&&◌}
use mathlib.Core.List.{List, [], ◌++◌, append-nil}
use native.Mathlib.Omega.{arith}
use lib.Dec.{eqb, leb}
use lib.ListN.{replicate}
use Rattle.std.specs.Prelude.{slice_get, Some, None}
use borrow.Author.Tests.{leb-true, eqb-false, not-true}
use Rattle.words.specs.Words.{is_broadcast}
use Rattle.std.proofs.lemmas.Bool.{and_parts}
use Rattle.verdict.specs.Plans.{status_for, sent_of, part_of, back_of, expected_of}
use Rattle.verdict.specs.Verdicts.{sent_first, expected_at}
use Rattle.verdict.specs.declared.plans.Plan.{Plan}
use Rattle.verdict.specs.declared.plans.Expected.{Expected}
use Rattle.verdict.specs.declared.plans.Expected.TheVariants.{Data}

-- a place in a list of equal elements, with others after them
among : (n : ℕ) (ys : List Expected) (i : ℕ) → i < n → slice_get (replicate n Data ++ ys) i ≡ Some Data
among zero ys i h = absurd (omega arith)
among (suc n) ys zero h = refl
among (suc n) ys (suc i) h = among n ys i (omega arith)

beyond : (n : ℕ) (ys : List Expected) (i : ℕ) → n ≤ i → slice_get (replicate n Data ++ ys) i ≡ slice_get ys (i - n)
beyond zero ys i h = ap (λ (k : ℕ). slice_get ys k) (omega arith)
beyond (suc n) ys zero h = absurd (omega arith)
beyond (suc n) ys (suc i) h = beyond n ys i (omega arith) ∙ ap (λ (k : ℕ). slice_get ys k) (omega arith)

module _ (w : ℕ) where
  pub part_status : (place : ℕ) → place ≡ 0 → slice_get (part_of w) place ≡ Some (status_for w)
  part_status place zeroth = ap (λ (k : ℕ). slice_get (part_of w) k) zeroth

  -- the place of a list behind its first
  behind : (ys : List Expected) (place : ℕ) → (place ≡ 0 → ⊥) → slice_get (part_of w ++ ys) place ≡ slice_get (replicate (sent_of w) Data ++ ys) (place - 1)
  behind ys zero h = absurd (h refl)
  behind ys (suc i) h = ap (λ (k : ℕ). slice_get (replicate (sent_of w) Data ++ ys) k) (omega arith)

  pub part_data : (place : ℕ) → (place ≡ 0 → ⊥) → place ≤ sent_of w → slice_get (part_of w) place ≡ Some Data
  part_data place past few =
      ap (λ (l : List Expected). slice_get l place) (sym (append-nil (part_of w)))
      ∙ behind [] place past
      ∙ among (sent_of w) [] (place - 1) (omega arith)

  pub part_nothing : (place : ℕ) → (place ≡ 0 → ⊥) → sent_of w < place → slice_get (part_of w) place ≡ None
  part_nothing place past more =
      ap (λ (l : List Expected). slice_get l place) (sym (append-nil (part_of w)))
      ∙ behind [] place past
      ∙ beyond (sent_of w) [] (place - 1) (omega arith)

  -- a part with others after it: at its places, and past them
  pub pair_first : (ys : List Expected) (place : ℕ) → place ≤ sent_of w → slice_get (part_of w ++ ys) place ≡ slice_get (part_of w) place
  pair_first ys zero few = refl
  pair_first ys (suc i) few = among (sent_of w) ys i (omega arith) ∙ sym (part_data (suc i) (λ e. omega arith) few)

  pub pair_second : (ys : List Expected) (place : ℕ) → sent_of w < place → slice_get (part_of w ++ ys) place ≡ slice_get ys (place - sent_of w - 1)
  pair_second ys zero more = absurd (omega arith)
  pair_second ys (suc i) more = beyond (sent_of w) ys i (omega arith) ∙ ap (λ (k : ℕ). slice_get ys k) (omega arith)

-- a place after the first status and up to the data words that follow it
pub first_data : (plan : Plan) (place : ℕ) → (not (eqb place 0) && leb place (sent_first plan)) ≡ true → expected_at plan place ≡ Some Data
unfolding sent_first expected_of back_of
first_data plan place h =
    let parts = and_parts (not (eqb place 0)) (leb place (sent_first plan)) h in
    go (eqb plan.commands 1) (is_broadcast plan.first.0) (eqb-false place 0 (not-true (eqb place 0) parts.0))
    (leb-true place (sent_first plan) parts.1)
  where
    go : (one all : Bool) → (place ≡ 0 → ⊥)
        → place ≤ cond one (cond all 0 (sent_of plan.first.0)) (sent_of plan.second.0)
        → slice_get (cond one (cond all [] (part_of plan.first.0)) (part_of plan.second.0 ++ cond all [] (part_of plan.first.0))) place ≡ Some Data
    go true true past few = absurd (omega arith)
    go true false past few = part_data plan.first.0 place past few
    go false all past few = pair_first plan.second.0 _ place few ∙ part_data plan.second.0 place past few
