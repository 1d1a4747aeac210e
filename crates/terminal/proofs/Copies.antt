-- Laws of copying a table element by element. Assumes nothing.
use mathlib.Core.Path.{◌≡◌, ap, ap₂, ◌∙◌}
use mathlib.Core.List.{List, ◌++◌, append-nil}
use Prim.Native.Nat.{ℕ, ◌+◌, ◌<◌, ◌≤◌}
use native.Mathlib.Nat.{zero-add}
use native.Mathlib.Numerals.{add-one}
use native.Mathlib.Omega.{arith}
use lib.ListN.{length, get_or, set, drop, drop_of_length-le}
use lib.Seq.{paste, paste-suc, take_all}

-- one more element of s copied into the front of d
pub copy_suc : (d s : List ℕ) (i : ℕ) → i < length d → i < length s → set (paste d 0 s i) i (get_or s i 0) ≡ paste d 0 s (i + 1)
copy_suc d s i hd hs =
    let e : set (paste d 0 s i) (0 + i) (get_or s i 0) ≡ paste d 0 s (i + 1) = rw add-one (paste-suc d 0 s i 0 (omega arith) hs) in
    simp zero-add (simp zero-add at e)

-- all of s, which is as long as d
pub copy_all : (d s : List ℕ) (n : ℕ) → length d ≤ n → length s ≤ n → paste d 0 s n ≡ s
copy_all d s n hd hs =
    ap₂ (λ (x y : List ℕ). x ++ y) (take_all n s hs) (ap (λ (k : ℕ). drop k d) (zero-add n) ∙ drop_of_length-le d hd) ∙ append-nil s
