-- A text read as a hexadecimal number: one law for each way that the code takes, from the facts that its tests give. Assumes nothing.
use mathlib.Core.Path.{◌≡◌, refl, sym, ap, ◌∙◌}
use mathlib.Core.Bool.{Bool, true, false, cond, and-false}
use Prim.Native.Nat.{ℕ, suc, ◌+◌, ◌*◌, ◌^◌, ◌≤◌, ◌<◌}
use native.Mathlib.Nat.{pow-suc}
use native.Mathlib.Numerals.{add-one}
use native.Mathlib.Omega.{arith}
use mathlib.Core.List.{List, ◌∷◌}
use lib.Dec.{leb, ltb, eqb}
use lib.ListN.{length, drop, get_or, drop_of_length-le}
use lib.Seq.{drop-cons}
use borrow.Author.Tests.{leb-true, ltb-true, ltb-false, eqb-true, le-leb, lt-leb, eq-eqb, ne_eqb}
use Rattle.std.proofs.Common.{Option, None, Some}
use Rattle.std.specs.Option.{SomeIff}
use Rattle.std.specs.Char as char
use Rattle.words.proofs.Truth.{passes, passed}
use Rattle.lines.specs.Numbers.{digit_value, hexadecimal_after, hexadecimal_read}

-- ---- a digit: each of the 256 bytes is one of std's, or none of them

-- what std says of a byte, as an Option
abbrev value_of : ℕ → Option ℕ
value_of byte = cond (ltb (char.digit_value byte) 16) (Some (char.digit_value byte)) None

abbrev pub same_value : Option ℕ → Option ℕ → Bool
same_value None None = true
same_value None (Some y) = false
same_value (Some x) None = false
same_value (Some x) (Some y) = eqb x y

pub same_value_lem : (a b : Option ℕ) → same_value a b ≡ true → a ≡ b
same_value_lem None None e = refl
same_value_lem None (Some y) e = cc
same_value_lem (Some x) None e = cc
same_value_lem (Some x) (Some y) e = ap Some (eqb-true x y e)

value_is : (byte : ℕ) → byte < 256 → value_of byte ≡ digit_value byte
unfolding digit_value passes
value_is byte l =
    same_value_lem (value_of byte) (digit_value byte) (passed 256 (λ (i : ℕ). same_value (value_of i) (digit_value i)) refl byte l)

pub digit_is : (byte : ℕ) (r : Option ℕ) → byte < 256 → SomeIff r (char.digit_value byte < 16) (char.digit_value byte) → r ≡ digit_value byte
digit_is byte r l is = by (ltb (char.digit_value byte) 16) refl r is ∙ value_is byte l
  where
    by : (b : Bool) → ltb (char.digit_value byte) 16 ≡ b → (r : Option ℕ) → SomeIff r (char.digit_value byte < 16) (char.digit_value byte)
        → r ≡ cond b (Some (char.digit_value byte)) None
    by true e None none = absurd (none (ltb-true (char.digit_value byte) 16 e))
    by true e (Some x) one = ap Some one.1
    by false e None none = refl
    by false e (Some x) one = absurd (omega (arith, one.0, ltb-false (char.digit_value byte) 16 e))

pub value_below : (byte next : ℕ) → byte < 256 → Some next ≡ digit_value byte → next < 16
value_below byte next l e = by (ltb (char.digit_value byte) 16) refl (value_is byte l ∙ sym e)
  where
    by : (b : Bool) → ltb (char.digit_value byte) 16 ≡ b → cond b (Some (char.digit_value byte)) None ≡ Some next → next < 16
    by true t p = let same : char.digit_value byte ≡ next = cc in omega (arith, same, ltb-true (char.digit_value byte) 16 t)
    by false t p = cc

-- ---- the number so far

-- so many digits fit 64 bits
sixteen_digits : (i : ℕ) → i < 16 → 16 ^ i ≤ 2 ^ 60
unfolding passes
sixteen_digits i l = leb-true (16 ^ i) (2 ^ 60) (passed 16 (λ (n : ℕ). leb (16 ^ n) (2 ^ 60)) refl i l)

module _ (high i : ℕ) (small : high < 16 ^ i) where
  pub so_far_fits : i < 16 → high < 2 ^ 60
  so_far_fits l = omega (arith, sixteen_digits i l)

  pub so_far_more : (next : ℕ) → next < 16 → high * 16 + next < 16 ^ (i + 1)
  so_far_more next l = rw add-one (omega (arith, pow-suc 16 i))

-- ---- a whole text

module _ (text : List ℕ) (digits : ℕ) where
  pub none_other : (length text ≡ digits → ⊥) → None ≡ hexadecimal_read text digits
  unfolding hexadecimal_read
  none_other other = rw (ne_eqb (length text) digits other)

  pub none_zero : digits ≡ 0 → None ≡ hexadecimal_read text digits
  unfolding hexadecimal_read
  none_zero e =
      let none : leb 1 digits ≡ false = lt-leb 1 digits (omega arith) in
      rw (none, and-false)

  pub none_many : 16 < digits → None ≡ hexadecimal_read text digits
  unfolding hexadecimal_read
  none_many l = rw (lt-leb digits 16 l, and-false, and-false)

  module _ (same : length text ≡ digits) (some : digits ≡ 0 → ⊥) (few : digits ≤ 16) where
    whole : {r : Option ℕ} → r ≡ hexadecimal_after 0 text → r ≡ hexadecimal_read text digits
    unfolding hexadecimal_read
    whole p =
        let one : leb 1 digits ≡ true = le-leb 1 digits (omega arith) in
        rw (eq-eqb (length text) digits same, one, le-leb digits 16 few) p

    -- the loop at a place, with the number so far
    module _ (high at : ℕ) (so : hexadecimal_after high (drop at text) ≡ hexadecimal_after 0 text) where
      pub hexadecimal_stopped : at < length text → None ≡ digit_value (get_or text at 0) → None ≡ hexadecimal_read text digits
      unfolding hexadecimal_after
      hexadecimal_stopped l e =
          let stop : None ≡ hexadecimal_after high (get_or text at 0 ∷ drop (suc at) text) = rw (← e) in
          whole (stop ∙ sym (ap (hexadecimal_after high) (drop-cons text at 0 l)) ∙ so)

      pub hexadecimal_ended : length text ≤ at → Some high ≡ hexadecimal_read text digits
      unfolding hexadecimal_after
      hexadecimal_ended l = whole (sym (ap (hexadecimal_after high) (drop_of_length-le text {i = at} l)) ∙ so)

pub hexadecimal_turned : (text : List ℕ) (high at next : ℕ) → hexadecimal_after high (drop at text) ≡ hexadecimal_after 0 text → at < length text
    → Some next ≡ digit_value (get_or text at 0) → hexadecimal_after (high * 16 + next) (drop (at + 1) text) ≡ hexadecimal_after 0 text
unfolding hexadecimal_after
hexadecimal_turned text high at next so l e =
    let step : hexadecimal_after high (get_or text at 0 ∷ drop (suc at) text) ≡ hexadecimal_after (high * 16 + next) (drop (suc at) text) = rw (← e) in
    rw add-one (sym step ∙ sym (ap (hexadecimal_after high) (drop-cons text at 0 l)) ∙ so)
