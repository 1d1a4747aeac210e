-- Laws of tests. Assumes nothing.
use Rattle.std.proofs.lemmas.Bool.{and_parts}
use mathlib.Core.Path.{◌≡◌, refl, subst}
use Prim.Native.Nat.{ℕ, zero, suc, ◌≤◌, ◌<◌}
use native.Mathlib.Nat.{not-suc-le-zero}
use native.Mathlib.Omega.{arith}
use native.Mathlib.Decide.{dec_le}
use mathlib.Core.Logic.{dite}
use mathlib.Core.Bool.{Bool, true, false, not, cond, ◌&&◌}
use mir.Val.{bool_byte}

-- a choice is at most what both sides are
pub cond_most : (n : ℕ) (b : Bool) (x y : ℕ) → x ≤ n → y ≤ n → cond b x y ≤ n
cond_most n true x y p q = p
cond_most n false x y p q = q

-- a test as a number: 1 where it passes, else 0; and its opposite
pub byte_of : (b : Bool) → bool_byte b ≡ cond b 1 0
byte_of true = refl
byte_of false = refl

pub byte_of_not : (b : Bool) → bool_byte (not b) ≡ cond b 0 1
byte_of_not true = refl
byte_of_not false = refl

-- ---- a test that is computed at every number below a bound

unfoldable pub passes : ℕ → (ℕ → Bool) → Bool
passes zero test = true
passes (suc n) test = test n && passes n test

pub passed : (n : ℕ) (test : ℕ → Bool) → passes n test ≡ true → (i : ℕ) → i < n → test i ≡ true
unfolding passes
passed zero test all i h = absurd (not-suc-le-zero h)
passed (suc n) test all i h =
    let parts = and_parts (test n) (passes n test) all in
    dite (dec_le (suc i) n)
    (λ below. passed n test parts.1 i below)
    (λ last. subst (λ (m : ℕ). test m ≡ true) {x = n} {y = i} (omega arith) parts.0)
