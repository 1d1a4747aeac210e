-- The load of a frame is a sum: of the messages that come in it, in any order, and of parts of a list. Assumes nothing.
use mathlib.Core.Path.{◌≡◌, refl, ap, ◌∙◌}
use mathlib.Core.Bool.{Bool, true, false, cond}
use mathlib.Core.List.{List, [], ◌∷◌, ◌++◌, Permᴰ}
use mathlib.Core.Logic.{∥∥₁_elim}
use Prim.Native.Nat.{ℕ, ◌+◌}
use native.Mathlib.Nat.{ℕ_set}
use native.Mathlib.Omega.{arith}
use Rattle.schedule.specs.Messages.{load_of}
use Rattle.schedule.specs.Frames.{Placed, comes_in, part_in, frame_load}
use Rattle.schedule.specs.Theorems.{coming_in, sum_of, LoadAdds}

-- what a message adds is its load, or nothing
add_one_more : (b : Bool) (p : Placed) (ps : List Placed) → cond b (load_of p.message) 0 + sum_of ps ≡ sum_of (cond b (p ∷ ps) ps)
add_one_more true p ps = refl
add_one_more false p ps = omega arith

load_together : (frame : ℕ) (ps : List Placed) → frame_load frame ps ≡ sum_of (coming_in frame ps)
unfolding frame_load part_in
load_together frame [] = refl
load_together frame (p ∷ ps) = rw (load_together frame ps) (add_one_more (comes_in frame p) p (coming_in frame ps))

load_any_order : (frame : ℕ) {ps qs : List Placed} → Permᴰ ps qs → frame_load frame ps ≡ frame_load frame qs
unfolding frame_load
load_any_order frame Permᴰ.nil = refl
load_any_order frame (Permᴰ.cons same rest) = omega (arith, ap (part_in frame) same, load_any_order frame rest)
load_any_order frame (Permᴰ.swap one other) = omega (arith, ap (part_in frame) one, ap (part_in frame) other)
load_any_order frame (Permᴰ.trans one other) = load_any_order frame one ∙ load_any_order frame other

load_behind : (frame : ℕ) (ps qs : List Placed) → frame_load frame (ps ++ qs) ≡ frame_load frame ps + frame_load frame qs
unfolding frame_load
load_behind frame [] qs = omega arith
load_behind frame (p ∷ ps) qs = omega (arith, load_behind frame ps qs)

pub load_adds : LoadAdds
load_adds frame ps qs = (load_together frame ps, λ same. ∥∥₁_elim same (ℕ_set _ _) (load_any_order frame), load_behind frame ps qs)
