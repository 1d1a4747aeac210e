-- What is bad in a word is told exactly where it is not valid. Assumes nothing.
use mathlib.Core.Path.{◌≡◌, refl, sym, ap, ◌∙◌}
use mathlib.Core.Bool.{Bool, true, false, not, ◌&&◌, ◌||◌, true≢false, and-false}
use Prim.Native.Nat.{ℕ, ◌<◌}
use native.Mathlib.Omega.{arith}
use mathlib.Core.List.{List}
use lib.Dec.{eqb}
use lib.ListN.{get_or}
use borrow.Author.Tests.{lt-ltb, eq-eqb, ne_eqb}
use Rattle.words.specs.Words.{is_odd, parity_of, is_valid}
use Rattle.words.proofs.Oddness.{parity_one}
use Rattle.words.proofs.Truth.{passes, passed}
use Rattle.records.specs.Records.{last_bus, in_range}
use Rattle.records.proofs.Ranges.{in_range_all}
use Rattle.records.specs.declared.forms.WordRecord.{WordRecord}
use Rattle.lines.specs.Spells.{text_of}
use Rattle.texts.specs.Entries.{flaw_mark, flaw_text, flaws_text, has_parity_flaw, has_manchester_flaw, has_bits_flaw, has_sync_flaw}
use Rattle.texts.specs.Theorems.{ValidTold}

-- of a parity bit, odd is: the one that is given
odd_as : (word parity : ℕ) → parity < 2 → is_odd word parity ≡ eqb parity (parity_of word)
odd_as word parity below = by (is_odd word parity) refl
  where
    by : (odd : Bool) → is_odd word parity ≡ odd → odd ≡ eqb parity (parity_of word)
    by true e = sym (eq-eqb parity (parity_of word) ((parity_one word).2 parity below e))
    by false e =
        sym
        (ne_eqb parity (parity_of word) (λ same. absurd (true≢false (sym (parity_one word).1 ∙ ap (is_odd word) (sym same) ∙ e))))

-- the parts of "valid", one by one
none_bad : (odd manchester bits neither : Bool)
    → ((not neither && not (manchester || bits)) && true) && odd ≡ not (not odd || manchester || bits || neither)
none_bad false manchester bits neither = and-false ((not neither && not (manchester || bits)) && true)
none_bad true true bits true = refl
none_bad true true bits false = refl
none_bad true false true true = refl
none_bad true false true false = refl
none_bad true false false true = refl
none_bad true false false false = refl

same_test : (n : ℕ) (f g : ℕ → Bool) → passes n (λ (i : ℕ). (f i && g i) || (not (f i) && not (g i))) ≡ true → (i : ℕ) → i < n → f i ≡ g i
same_test n f g all i l = by (f i) (g i) (passed n (λ (j : ℕ). (f j && g j) || (not (f j) && not (g j))) all i l)
  where
    by : (a b : Bool) → (a && b) || (not a && not b) ≡ true → a ≡ b
    by true true e = refl
    by true false e = sym e
    by false true e = e
    by false false e = refl

valid_as : (r : WordRecord) → in_range last_bus r ≡ true
    → is_valid r.sync r.faults r.word r.parity ≡ not (has_parity_flaw r || has_manchester_flaw r || has_bits_flaw r || has_sync_flaw r)
unfolding is_valid passes
valid_as r h =
    let ranged = in_range_all last_bus r h in
    let parity : r.parity < 2 = omega (arith, ranged.parity) in
    let faults : r.faults < 4 = omega (arith, ranged.faults) in
    let sync : r.sync < 3 = omega (arith, ranged.sync) in
    rw (
      same_test 3 (λ (i : ℕ). eqb i 0 || eqb i 1) (λ (i : ℕ). not (eqb i 2)) refl r.sync sync,
      same_test 4 (λ (i : ℕ). eqb i 0) (λ (i : ℕ). not ((eqb i 1 || eqb i 3) || (eqb i 2 || eqb i 3))) refl r.faults faults,
      lt-ltb r.parity 2 parity,
      odd_as r.word r.parity parity,
    )
    (none_bad (eqb r.parity (parity_of r.word)) (has_manchester_flaw r) (has_bits_flaw r) (has_sync_flaw r))

-- the sign behind "bad=" is a dash where nothing is bad, else the first of a name
dash_first : (parity manchester bits sync : Bool) → eqb (get_or (flaws_text parity manchester bits sync) 5 0) 45 ≡ not (parity || manchester || bits || sync)
unfolding flaws_text flaw_text flaw_mark
dash_first true manchester bits sync = refl
dash_first false true bits sync = refl
dash_first false false true sync = refl
dash_first false false false true = refl
dash_first false false false false = refl

no_flaw : (parity manchester bits sync : Bool) → not (parity || manchester || bits || sync) ≡ true → flaws_text parity manchester bits sync ≡ text_of " bad=-"
unfolding flaws_text flaw_text flaw_mark
no_flaw true manchester bits sync e = absurd (true≢false (sym e))
no_flaw false true bits sync e = absurd (true≢false (sym e))
no_flaw false false true sync e = absurd (true≢false (sym e))
no_flaw false false false true e = absurd (true≢false (sym e))
no_flaw false false false false e = refl

pub valid_told : ValidTold
valid_told r h = (
  λ valid. no_flaw (has_parity_flaw r) (has_manchester_flaw r) (has_bits_flaw r) (has_sync_flaw r) (sym (valid_as r h) ∙ valid),
  λ told.
      valid_as r h
      ∙ sym (dash_first (has_parity_flaw r) (has_manchester_flaw r) (has_bits_flaw r) (has_sync_flaw r))
      ∙ ap (λ (text : List ℕ). eqb (get_or text 5 0) 45) told,
)
