-- A text read as a number: one law for each way that the code takes, from the facts that its tests give. Assumes nothing.
use mathlib.Core.Path.{◌≡◌, refl, sym, ap, ◌∙◌}
use mathlib.Core.Bool.{Bool, true, false, cond, ◌&&◌, and-false}
use Prim.Native.Nat.{ℕ, suc, ◌+◌, ◌*◌, ◌-◌, ◌^◌, ◌≤◌, ◌<◌}
use native.Mathlib.Numerals.{add-one}
use native.Mathlib.Omega.{arith}
use mathlib.Core.List.{List, [], ◌∷◌}
use lib.Dec.{leb, ltb}
use lib.ListN.{length, drop, get_or, drop_of_length-le}
use lib.Seq.{drop-cons}
use borrow.Author.Tests.{ltb-false, lt-ltb, le-ltb, le-leb, lt-leb}
use Rattle.std.proofs.Common.{Option, None, Some}
use Rattle.std.specs.Option.{SomeIff}
use Rattle.lines.specs.Numbers.{is_digit, are_digits, spelled_after, number_after, number_read}

-- digits more make no number smaller
spelled_least : (high : ℕ) (text : List ℕ) → high ≤ spelled_after high text
unfolding spelled_after
spelled_least high [] = omega arith
spelled_least high (byte ∷ bytes) = omega (arith, spelled_least (high * 10 + (byte - 48)) bytes)

-- ---- one digit more

module _ (high byte : ℕ) where
  pub none_other : is_digit byte ≡ false → None ≡ number_after high (byte ∷ [])
  unfolding number_after are_digits
  none_other e = rw e

  -- it doesn't fit, or it is the number
  pub one_more : (r : Option ℕ) → is_digit byte ≡ true → SomeIff r (high * 10 + (byte - 48) < 2 ^ 64) (high * 10 + (byte - 48)) → r ≡ number_after high (byte ∷ [])
  unfolding number_after are_digits spelled_after
  one_more None d full = rw (d, le-ltb (high * 10 + (byte - 48)) (2 ^ 64) (omega (arith, full)))
  one_more (Some x) d fits = rw (d, lt-ltb (high * 10 + (byte - 48)) (2 ^ 64) fits.0) (ap Some fits.1)

  -- ten times the number doesn't fit already
  pub none_full : is_digit byte ≡ true → SomeIff {T = ℕ} None (high * 10 < 2 ^ 64) (high * 10) → None ≡ number_after high (byte ∷ [])
  none_full d full = one_more None d (λ (l : high * 10 + (byte - 48) < 2 ^ 64). full (omega (arith, l)))

-- ---- from digit to digit

module _ (high byte : ℕ) (rest : List ℕ) where
  goes_on : (next : ℕ) → Some next ≡ number_after high (byte ∷ []) → number_after high (byte ∷ rest) ≡ number_after next rest
  unfolding number_after are_digits spelled_after
  goes_on next = by (is_digit byte) (ltb more (2 ^ 64))
    where
      more : ℕ
      more = high * 10 + (byte - 48)

      by : (d t : Bool) → Some next ≡ cond ((d && true) && t) (Some more) None
          → cond ((d && are_digits rest) && ltb (spelled_after more rest) (2 ^ 64)) (Some (spelled_after more rest)) None ≡ number_after next rest
      by true true p = let same : more ≡ next = cc in ap (λ (k : ℕ). number_after k rest) same
      by true false p = cc
      by false t p = cc

  stops : None ≡ number_after high (byte ∷ []) → None ≡ number_after high (byte ∷ rest)
  unfolding number_after are_digits spelled_after
  stops = by (is_digit byte) (ltb more (2 ^ 64)) refl
    where
      more : ℕ
      more = high * 10 + (byte - 48)

      by : (d t : Bool) → ltb more (2 ^ 64) ≡ t → None ≡ cond ((d && true) && t) (Some more) None
          → None ≡ cond ((d && are_digits rest) && ltb (spelled_after more rest) (2 ^ 64)) (Some (spelled_after more rest)) None
      by true true e p = cc
      by true false e p =
          let full : 2 ^ 64 ≤ spelled_after more rest = omega (arith, ltb-false more (2 ^ 64) e, spelled_least more rest) in
          rw (le-ltb (spelled_after more rest) (2 ^ 64) full, and-false)
      by false t e p = refl

-- no digit more
ends : (high : ℕ) → high < 2 ^ 64 → Some high ≡ number_after high []
unfolding number_after are_digits spelled_after
ends high l = rw (lt-ltb high (2 ^ 64) l)

-- ---- a whole text

module _ (text : List ℕ) where
  pub none_empty : length text ≡ 0 → None ≡ number_read text
  unfolding number_read
  none_empty e =
      let no : leb 1 (length text) ≡ false = lt-leb 1 (length text) (omega arith) in
      rw no

  pub none_long : 20 < length text → None ≡ number_read text
  unfolding number_read
  none_long l = rw (lt-leb (length text) 20 l, and-false)

  module _ (some : 0 < length text) (few : length text ≤ 20) where
    whole : {r : Option ℕ} → r ≡ number_after 0 text → r ≡ number_read text
    unfolding number_read
    whole p = rw (le-leb 1 (length text) (omega (arith, some)), le-leb (length text) 20 few) p

    -- the loop at a place, with the number so far; r is what one digit more gives
    module _ (high at : ℕ) (so : number_after high (drop at text) ≡ number_after 0 text) where
      pub stopped : at < length text → None ≡ number_after high (get_or text at 0 ∷ []) → None ≡ number_read text
      stopped l e =
          whole (stops high (get_or text at 0) (drop (suc at) text) e ∙ sym (ap (number_after high) (drop-cons text at 0 l)) ∙ so)

      pub ended : length text ≤ at → high < 2 ^ 64 → Some high ≡ number_read text
      ended l f = whole (ends high f ∙ sym (ap (number_after high) (drop_of_length-le text {i = at} l)) ∙ so)

pub turned : (text : List ℕ) (high at next : ℕ) → number_after high (drop at text) ≡ number_after 0 text → at < length text → Some next ≡ number_after high (get_or text at 0 ∷ [])
    → number_after next (drop (at + 1) text) ≡ number_after 0 text
turned text high at next so l e =
    rw (add-one) (sym (goes_on high (get_or text at 0) (drop (suc at) text) next e) ∙ sym (ap (number_after high) (drop-cons text at 0 l)) ∙ so)
