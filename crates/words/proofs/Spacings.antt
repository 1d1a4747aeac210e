-- Which distances give which kind of spacing. Assumes nothing.
use mathlib.Core.Path.{◌≡◌, refl, ap}
use mathlib.Core.Bool.{Bool, true, false, cond}
use Prim.Native.Nat.{ℕ, ◌≤◌, ◌<◌}
use lib.Dec.{ltb, leb}
use native.Mathlib.Omega.{arith}
use borrow.Author.Tests.{ltb-true, ltb-false, lt-ltb, le-leb, le-ltb, lt-leb, leb-true, leb-false}
use Rattle.words.specs.Words.{since_of, spacing_least, spacing_most, is_spaced, spacing_of, is_overlapping, is_back_to_back, is_separated, distance_in}
use Rattle.words.specs.Theorems.{is_one_of, KindsExact}
use Rattle.words.specs.declared.times.Ticks.{Ticks}
use Rattle.words.specs.declared.times.Spacing.{Spacing}
use Rattle.words.specs.declared.times.Spacing.TheVariants.{Overlapping, BackToBack, Separated}

-- what is answered of a distance
abbrev kind_at : Ticks → Spacing
kind_at d = cond (ltb d.0 spacing_least) (Overlapping d) (cond (leb d.0 spacing_most) (BackToBack d) (Separated d))

-- is what is answered of two words at that distance
at_distance : (before after : ℕ) (d : Ticks) → d.0 ≡ since_of before after → kind_at d ≡ spacing_of before after
unfolding spacing_of
at_distance before after d h = ap (λ (n : ℕ). kind_at (record { 0 = n })) h

pub overlaps : (before after : ℕ) (d : Ticks) → d.0 ≡ since_of before after → d.0 < spacing_least → Overlapping d ≡ spacing_of before after
overlaps before after d h below = rw (← at_distance before after d h, lt-ltb d.0 spacing_least below)

pub follows : (before after : ℕ) (d : Ticks) → d.0 ≡ since_of before after → spacing_least ≤ d.0 → d.0 ≤ spacing_most → BackToBack d ≡ spacing_of before after
follows before after d h least most = rw (← at_distance before after d h, le-ltb d.0 spacing_least least, le-leb d.0 spacing_most most)

pub separates : (before after : ℕ) (d : Ticks) → d.0 ≡ since_of before after → spacing_least ≤ d.0 → spacing_most < d.0 → Separated d ≡ spacing_of before after
separates before after d h least over = rw (← at_distance before after d h, le-ltb d.0 spacing_least least, lt-leb d.0 spacing_most over)

pub kinds_exact : KindsExact
unfolding spacing_of is_spaced
kinds_exact before after = go (ltb (since_of before after) spacing_least) refl (leb (since_of before after) spacing_most) refl
  where
    go : (a : Bool) → ltb (since_of before after) spacing_least ≡ a
        → (b : Bool) → leb (since_of before after) spacing_most ≡ b
        → (is_overlapping (spacing_of before after) ≡ ltb (since_of before after) spacing_least)
        × (is_back_to_back (spacing_of before after) ≡ is_spaced before after)
        × (is_separated (spacing_of before after) ≡ ltb spacing_most (since_of before after))
        × (is_one_of (is_overlapping (spacing_of before after)) (is_back_to_back (spacing_of before after)) (is_separated (spacing_of before after)) ≡ true)
        × (distance_in (spacing_of before after) ≡ since_of before after)
    go true below b most =
        let d = ltb-true (since_of before after) spacing_least below in
        rw (below, lt-leb spacing_least (since_of before after) d, le-ltb spacing_most (since_of before after) (omega (arith, d))) (refl, refl, refl, refl, refl)
    go false over true most =
        let d = ltb-false (since_of before after) spacing_least over in
        rw (over, most, le-leb spacing_least (since_of before after) d, le-ltb spacing_most (since_of before after) (leb-true (since_of before after) spacing_most most)) (refl, refl, refl, refl, refl)
    go false over false most =
        let d = leb-false (since_of before after) spacing_most most in
        rw (over, most, lt-ltb spacing_most (since_of before after) d, le-leb spacing_least (since_of before after) (ltb-false (since_of before after) spacing_least over)) (refl, refl, refl, refl, refl)
