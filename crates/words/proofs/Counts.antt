-- Laws of counts: of the ones of a number, of the words of a command. Assumes nothing.
use mathlib.Core.Path.{◌≡◌, sym, ap, ◌∙◌, subst}
use Prim.Native.Nat.{ℕ, zero, suc, ◌+◌, ◌/◌, ◌%◌, ◌^◌, ◌≤◌, ◌<◌}
use native.Mathlib.Omega.{arith}
use native.Mathlib.Numerals.{add-one}
use lib.Arith.{lt-one}
use lib.Count.{ones, ones_in, ones_step}
use lib.Dec.{eqb}
use lib.Pow.{shr_lt}
use Rattle.words.specs.Words.{count_of, words_of}
use Rattle.words.proofs.Truth.{cond_most}

-- a number of k digits has its ones among them
pub ones_within : (k n : ℕ) → n < 2 ^ k → ones n ≡ ones_in k n
unfolding ones_in ones
ones_within zero n below = ap ones (lt-one below)
ones_within (suc k) n below =
    let half : n / 2 < 2 ^ k = shr_lt k 1 (subst (λ (x : ℕ). n < 2 ^ x) (sym (add-one k)) below) in
    ones_step n ∙ ap (λ (x : ℕ). n % 2 + x) (ones_within k (n / 2) half)

-- a command has at most 32 words
pub words_most : (word : ℕ) → words_of word ≤ 32
unfolding words_of
words_most word = cond_most 32 (eqb (count_of word) 0) 32 (count_of word) (omega arith) (omega arith)
