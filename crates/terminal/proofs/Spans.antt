-- Tests of distances as the code makes them, which never adds to a moment. Assumes nothing.
use mathlib.Core.Path.{◌≡◌, refl, sym, ◌∙◌}
use mathlib.Core.Bool.{Bool, true, false, ◌&&◌}
use mathlib.Core.Logic.{dite}
use Prim.Native.Nat.{ℕ, suc, ◌+◌, ◌-◌, ◌≤◌, ◌<◌}
use native.Mathlib.Nat.{lt_of_not-le}
use native.Mathlib.Decide.{dec_le}
use native.Mathlib.Omega.{arith}
use lib.Dec.{leb, ltb}
use borrow.Author.Tests.{le-leb, lt-leb, leb-true}

-- two tests of order that say the same
leb_same : (a b c d : ℕ) → (a ≤ b → c ≤ d) → (c ≤ d → a ≤ b) → leb a b ≡ leb c d
leb_same a b c d f g =
    dite (dec_le c d)
    (λ h. le-leb a b (g h) ∙ sym (le-leb c d h))
    (λ h. lt-leb a b (lt_of_not-le (λ k. h (f k))) ∙ sym (lt-leb c d (lt_of_not-le h)))

-- at least so much past a moment, and more than so much
pub since_least : (a k t : ℕ) → 0 < k → leb k (t - a) ≡ leb (a + k) t
since_least a k t p = leb_same k (t - a) (a + k) t (λ h. omega arith) (λ h. omega arith)

pub since_more : (a k t : ℕ) → ltb k (t - a) ≡ ltb (a + k) t
since_more a k t = leb_same (suc k) (t - a) (suc (a + k)) t (λ h. omega arith) (λ h. omega arith)

-- the same with so much added to both
pub since_more_of : (a k n t : ℕ) → ltb k (t - a) ≡ ltb (a + (k + n)) (t + n)
since_more_of a k n t = leb_same (suc k) (t - a) (suc (a + (k + n))) (t + n) (λ h. omega arith) (λ h. omega arith)

-- a last test may be another where the one before it passes
and_last : (x p q r : Bool) → (p ≡ true → q ≡ r) → (x && p && q) ≡ (x && p && r)
and_last true true q r h = h refl
and_last true false q r h = refl
and_last false p q r h = refl

-- in the window of so many ticks from a moment on
pub in_window : (x : Bool) (a n t : ℕ) → (x && leb a t && ltb (t - a) n) ≡ (x && leb a t && ltb t (a + n))
in_window x a n t =
    and_last x (leb a t) (ltb (t - a) n) (ltb t (a + n))
    (λ h.
    let from : a ≤ t = leb-true a t h in
    leb_same (suc (t - a)) n (suc t) (a + n) (λ k. omega arith) (λ k. omega arith))
