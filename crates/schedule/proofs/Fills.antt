-- The table of loads as it is filled in, frame by frame. Assumes nothing.
use mathlib.Core.Path.{◌≡◌, refl, sym, ap, ◌∙◌}
use mathlib.Core.List.{List}
use Prim.Native.Nat.{ℕ, zero, suc, ◌+◌, ◌≤◌, ◌<◌}
use native.Mathlib.Omega.{arith}
use native.Mathlib.Nat.{le_of_suc-le-suc, not-suc-le-zero}
use native.Mathlib.Numerals.{add-one}
use lib.ListN.{length, get_or, set, take, length-set}
use lib.Seq.{take-suc, take_all, take-set-le, get_or-set_same}
use Rattle.schedule.specs.Frames.{Placed, frame_load, frames_all, loads_from, loads_of}

pub length_loads : (count frame : ℕ) (ps : List Placed) → length (loads_from count frame ps) ≡ count
unfolding loads_from
length_loads zero frame ps = refl
length_loads (suc count) frame ps = ap suc (length_loads count (suc frame) ps)

pub loads_at : (count frame i : ℕ) (ps : List Placed) → i < count → get_or (loads_from count frame ps) i 0 ≡ frame_load (frame + i) ps
unfolding loads_from
loads_at zero frame i ps h = absurd (not-suc-le-zero h)
loads_at (suc count) frame zero ps h = ap (λ (f : ℕ). frame_load f ps) (omega arith)
loads_at (suc count) frame (suc i) ps h = loads_at count (suc frame) i ps (le_of_suc-le-suc h) ∙ ap (λ (f : ℕ). frame_load f ps) (omega arith)

pub load_at_lem : (i : ℕ) (ps : List Placed) → i < frames_all → get_or (loads_of ps) i 0 ≡ frame_load i ps
unfolding loads_of
load_at_lem i ps h = loads_at frames_all 0 i ps h ∙ ap (λ (f : ℕ). frame_load f ps) (omega arith)

pub loads_all : (ps : List Placed) → length (loads_of ps) ≡ frames_all
unfolding loads_of
loads_all ps = length_loads frames_all 0 ps

-- one frame more is filled in
pub fill_on : (ls ts : List ℕ) (i v : ℕ) → i < length ls → i < length ts → take i ls ≡ take i ts → v ≡ get_or ts i 0 → take (i + 1) (set ls i v) ≡ take (i + 1) ts
fill_on ls ts i v h k so is =
    let inside : i < length (set ls i v) = rw (length-set ls i v) h in
    let last : get_or (set ls i v) i 0 ≡ get_or ts i 0 = get_or-set_same ls i v 0 h ∙ is in
    rw (add-one i, take-suc (set ls i v) i 0 inside, take-suc ts i 0 k, take-set-le i ls i v (omega arith), so, last) refl

-- all are
pub fill_all : (ls ts : List ℕ) (i : ℕ) → length ls ≤ i → length ts ≤ i → take i ls ≡ take i ts → ls ≡ ts
fill_all ls ts i h k so = sym (take_all i ls h) ∙ so ∙ take_all i ts k
