-- What a loop over the messages, or over the frames, has from a place on. Assumes nothing.
use mathlib.Core.Path.{◌≡◌, refl, ap}
use mathlib.Core.List.{List, [], ◌∷◌, map}
use Prim.Native.Nat.{ℕ, zero, suc, ◌≤◌, ◌<◌}
use native.Mathlib.Omega.{arith}
use native.Mathlib.Nat.{le_of_suc-le-suc, not-suc-le-zero}
use lib.ListN.{length, get_or, drop}
use Rattle.std.specs.List.{zip}
use Rattle.schedule.specs.Frames.{Placed, placed_of}
use Rattle.schedule.specs.declared.messages.Message.{Message}

-- ---- messages with their first frames

-- there are as many as messages, where each has a first frame
pub length_placed : (ms : List Message) (fs : List ℕ) → length ms ≤ length fs → length (placed_of ms fs) ≡ length ms
unfolding placed_of
length_placed [] fs h = refl
length_placed (m ∷ ms) [] h = absurd (not-suc-le-zero h)
length_placed (m ∷ ms) (f ∷ fs) h = ap suc (length_placed ms fs (le_of_suc-le-suc h))

-- there are never more
pub placed_few : (ms : List Message) (fs : List ℕ) → length (placed_of ms fs) ≤ length ms
unfolding placed_of
placed_few [] fs = omega arith
placed_few (m ∷ ms) [] = omega arith
placed_few (m ∷ ms) (f ∷ fs) = let rest = placed_few ms fs in omega arith

-- the one at a place, and those behind it
pub placed_on : (ms : List Message) (fs : List ℕ) (i : ℕ) (d : Message) → i < length ms → length ms ≤ length fs
    → drop i (placed_of ms fs) ≡ record { message = get_or ms i d; start = get_or fs i 0 } ∷ drop (suc i) (placed_of ms fs)
unfolding placed_of
placed_on [] fs i d h k = absurd (not-suc-le-zero h)
placed_on (m ∷ ms) [] i d h k = absurd (not-suc-le-zero k)
placed_on (m ∷ ms) (f ∷ fs) zero d h k = refl
placed_on (m ∷ ms) (f ∷ fs) (suc i) d h k = placed_on ms fs i d (le_of_suc-le-suc h) (le_of_suc-le-suc k)

-- a message and its first frame
abbrev pub pair : Message × ℕ → Placed
pair p = record { message = p.0; start = p.1 }

-- they are the pairs of both lists
pub pairs_placed : (ms : List Message) (fs : List ℕ) → placed_of ms fs ≡ map pair (zip ms fs)
unfolding placed_of
pairs_placed [] fs = refl
pairs_placed (m ∷ ms) [] = refl
pairs_placed (m ∷ ms) (f ∷ fs) = rw (pairs_placed ms fs)
