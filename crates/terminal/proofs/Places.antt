-- Places past the end of a list: a store there changes nothing. Assumes nothing.
use mathlib.Core.Path.{◌≡◌, refl, sym, ap}
use mathlib.Core.Bool.{Bool, false}
use mathlib.Core.List.{List, [], ◌∷◌}
use Prim.Native.Nat.{ℕ, zero, suc, ◌≤◌}
use native.Mathlib.Nat.{le_of_suc-le-suc, not-suc-le-zero}
use lib.ListN.{length, get_or, set, get_or-eq_default}

-- and reading there gives none
pub none_past : (l : List Bool) (n : ℕ) → length l ≤ n → false ≡ get_or l n false
none_past l n h = sym (get_or-eq_default l false {n = n} h)

module _ {A : Type 0} where
  pub set_past : (l : List A) (i : ℕ) (x : A) → length l ≤ i → set l i x ≡ l
  set_past [] i x h = refl
  set_past (y ∷ l) zero x h = absurd (not-suc-le-zero h)
  set_past (y ∷ l) (suc i) x h = ap (λ (k : List A). y ∷ k) (set_past l i x (le_of_suc-le-suc h))
