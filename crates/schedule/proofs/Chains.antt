-- What the chains over messages and frames give, in the words of the definitions. Assumes nothing.
use mathlib.Core.Path.{◌≡◌, refl, sym}
use mathlib.Core.Bool.{Bool, true, false, not, cond, ◌&&◌}
use mathlib.Core.List.{List, [], ◌∷◌, map}
use Prim.Native.Nat.{ℕ, suc, ◌+◌, ◌^◌, ◌≤◌, ◌<◌}
use native.Mathlib.Omega.{arith}
use lib.Dec.{ltb, leb}
use Rattle.std.specs.Prelude.{None, Some, Ok, Err}
use mathlib.Core.Logic.{dite}
use native.Mathlib.Decide.{dec_le}
use borrow.Author.Tests.{le-leb, le-ltb, lt-leb, lt-ltb}
use lib.ListN.{length, length-map}
use Rattle.std.specs.List.{zip, list_all, position, position_or_len, sum_by}
use Rattle.std.proofs.lemmas.List.Recursion.{same_from_clauses, is_sum_by, is_position_or_len}
use Rattle.schedule.specs.Messages.{messages_most, messages_in, is_fit, are_fit, is_refused}
use Rattle.schedule.specs.Frames.{placed_of, part_in, frame_load, is_below, before_offending, before_overloaded, frames_all, loads_of, found_below, frame_outcome, outcome_of, check_of}
use Rattle.schedule.specs.declared.messages.Message.{Message}
use Rattle.schedule.specs.declared.schedules.Schedule.{Schedule}
use Rattle.schedule.specs.declared.schedules.Rejection.TheVariants as rejection
use Rattle.schedule.proofs.Bounds.{frame_load_most}
use Rattle.schedule.proofs.Walks.{pair, pairs_placed, placed_few}

pub all_fit : (ms : List Message) → list_all is_fit ms ≡ are_fit ms
unfolding are_fit
all_fit = same_from_clauses (list_all is_fit) are_fit (λ m b. is_fit m && b) refl (λ m ms. refl) (λ m ms. refl)

-- one more stands before the first that fails a test, where the next one passes it
one_more : (b : Bool) (n : ℕ) → cond b (suc n) 0 ≡ cond (not b) 0 (1 + n)
one_more true n = omega arith
one_more false n = refl

kept : (b : Bool) (n : ℕ) → cond b (suc n) 0 ≡ cond (not (not b)) (1 + n) 0
kept true n = omega arith
kept false n = refl

-- above is not at most
not_leb : (l c : ℕ) → ltb c l ≡ not (leb l c)
not_leb l c =
    dite (dec_le l c)
    (λ most. rw (le-leb l c most, le-ltb c l most))
    (λ more. let above : c < l = omega arith in rw (lt-leb l c above, lt-ltb c l above))

pub first_offends : (ms : List Message) (fs : List ℕ) → position (λ p. not (is_below (pair p))) (zip ms fs) ≡ found_below (before_offending (placed_of ms fs)) (length (placed_of ms fs))
unfolding before_offending
first_offends ms fs =
    let before = is_position_or_len (λ (ps : List (Message × ℕ)). before_offending (map pair ps)) (λ p. not (is_below (pair p))) refl (λ p ps. one_more _ _) (zip ms fs) in
    rw (pairs_placed ms fs) (rw before (rw length-map refl))

-- as many pairs as numbers, where there are as many of both
length_pairs : (xs ys : List ℕ) (n : ℕ) → length xs ≡ n → length ys ≡ n → length (zip xs ys) ≡ n
length_pairs [] ys n e f = e
length_pairs (x ∷ xs) [] n e f = absurd (omega (arith, e, f))
length_pairs (x ∷ xs) (y ∷ ys) n e f = let rest = length_pairs xs ys (length xs) refl (omega (arith, e, f)) in omega (arith, e, rest)

-- as many pairs stand before the first whose load is above its capacity
before_pairs : (ls cs : List ℕ) → before_overloaded ls cs ≡ position_or_len (λ p. ltb p.1 p.0) (zip ls cs)
unfolding before_overloaded
before_pairs [] cs = refl
before_pairs (l ∷ ls) [] = refl
before_pairs (l ∷ ls) (c ∷ cs) = rw (before_pairs ls cs, not_leb l c) (kept (leb l c) _)

pub first_exceeds : (ls cs : List ℕ) → length ls ≡ frames_all → length cs ≡ frames_all
    → position (λ p. ltb p.1 p.0) (zip ls cs) ≡ found_below (before_overloaded ls cs) frames_all
first_exceeds ls cs e f = rw (before_pairs ls cs, length_pairs ls cs frames_all e f) refl

pub loads_together : (frame : ℕ) (ms : List Message) (fs : List ℕ) → sum_by (λ p. part_in frame (pair p)) (zip ms fs) ≡ frame_load frame (placed_of ms fs)
unfolding frame_load
loads_together frame ms fs =
    rw (pairs_placed ms fs)
    (sym (is_sum_by (λ (ps : List (Message × ℕ)). frame_load frame (map pair ps)) (λ p. part_in frame (pair p)) refl (λ p ps. refl) (zip ms fs)))

-- no load is large
pub load_fits : (frame : ℕ) (ms : List Message) (fs : List ℕ) → length ms ≤ messages_most → sum_by (λ p. part_in frame (pair p)) (zip ms fs) < 2 ^ 64
load_fits frame ms fs few =
    omega (arith, loads_together frame ms fs, frame_load_most frame (placed_of ms fs), placed_few ms fs)

-- ---- what the check says of what is found

found_some : (n e p : ℕ) → Some p ≡ found_below n e → (ltb n e ≡ true) × (p ≡ n)
found_some n e p is = go (ltb n e) refl is
  where
    go : (b : Bool) → ltb n e ≡ b → Some p ≡ cond b (Some n) None → (ltb n e ≡ true) × (p ≡ n)
    go true t is = (t, cc)
    go false t is = absurd cc

found_none : (n e : ℕ) → None ≡ found_below n e → ltb n e ≡ false
found_none n e is = go (ltb n e) refl is
  where
    go : (b : Bool) → ltb n e ≡ b → None ≡ cond b (Some n) None → ltb n e ≡ false
    go true t is = absurd cc
    go false t is = t

module _ (s : Schedule) (fs cs : List ℕ) (taken : is_refused s ≡ false) where
  pub names_message : (p : ℕ) → Some p ≡ found_below (before_offending (placed_of (messages_in s) fs)) (length (placed_of (messages_in s) fs))
      → Err (rejection.Message p) ≡ check_of s fs cs
  unfolding check_of outcome_of
  names_message p is = let found = found_some _ _ p is in rw (taken, found.0, found.1) refl

  module _ (none : None ≡ found_below (before_offending (placed_of (messages_in s) fs)) (length (placed_of (messages_in s) fs))) where
    pub names_frame : (p : ℕ) → Some p ≡ found_below (before_overloaded (loads_of (placed_of (messages_in s) fs)) cs) frames_all
        → Err (rejection.Frame p) ≡ check_of s fs cs
    unfolding check_of outcome_of frame_outcome
    names_frame p is = let found = found_some _ _ p is in rw (taken, found_none _ _ none, found.0, found.1) refl

    pub names_none : None ≡ found_below (before_overloaded (loads_of (placed_of (messages_in s) fs)) cs) frames_all → Ok tt ≡ check_of s fs cs
    unfolding check_of outcome_of frame_outcome
    names_none is = rw (taken, found_none _ _ none, found_none _ _ is) refl
