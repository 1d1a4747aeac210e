-- The code table as the code holds it, a letter for each T/R bit and code, is the table of document 01: one test, computed over all 64.
-- The same way: which codes the table lists, and how many. Assumes nothing.
use mathlib.Core.Path.{◌≡◌, refl, sym, ap, ◌∙◌}
use mathlib.Core.Bool.{Bool, true, false, not, cond, ◌&&◌, ◌||◌, true≢false}
use mathlib.Core.List.{List, [], ◌∷◌}
use Prim.Native.Nat.{ℕ, ◌+◌, ◌*◌, ◌/◌, ◌%◌, ◌<◌}
use native.Mathlib.Omega.{arith}
use lib.Dec.{eqb, leb}
use lib.ListN.{get_or}
use borrow.Author.Tests.{eqb-true, not-true}
use Rattle.words.specs.Words.{transmit_of, code_of}
use Rattle.words.specs.Modes.{rows, found, listing_of}
use Rattle.words.specs.Theorems.{is_listed, how_many, FifteenListed, OnlyListed}
use Rattle.words.specs.declared.modes.Listing.{Listing}
use Rattle.words.specs.declared.modes.ModeWord.{ModeWord}
use Rattle.words.specs.declared.modes.ModeWord.TheVariants.{Sent, Received}
use Rattle.std.specs.Prelude.{Option, Some, None}
use Rattle.words.proofs.Truth.{passes, passed}
use Rattle.std.proofs.lemmas.Bool.{and_parts}

-- what the test says of a place is said of its T/R bit and its code
pub at_pair : (test : ℕ → ℕ → Bool) → passes 64 (λ (i : ℕ). test (i / 32) (i % 32)) ≡ true → (t c : ℕ) → t < 2 → c < 32 → test t c ≡ true
at_pair test all t c ht hc =
    let i = t * 32 + c in
    let high : i / 32 ≡ t = omega arith in
    let low : i % 32 ≡ c = omega arith in
    rw (high, low) at (passed 64 (λ (i : ℕ). test (i / 32) (i % 32)) all i (omega arith))

-- ---- the letters of the code

-- a row's two columns
abbrev listed : Bool → Option ModeWord → Option Listing
listed broadcast word = Some (record { broadcast = broadcast; word = word })

-- what the code takes a letter for: 'n', 'b', 's', 'r', or any other
unfoldable pub read_as : ℕ → Option Listing
read_as letter =
    cond (eqb letter 110) (listed false None)
    (cond (eqb letter 98) (listed true None)
    (cond (eqb letter 115) (listed false (Some Sent)) (cond (eqb letter 114) (listed true (Some Received)) None)))

-- the letter of a row's two columns, 0 where it has none
letter_in : Bool → Option ModeWord → ℕ
letter_in false None = 110
letter_in true None = 98
letter_in false (Some Sent) = 115
letter_in true (Some Sent) = 0
letter_in false (Some Received) = 0
letter_in true (Some Received) = 114

-- the letter of what the table says
letter_of : Option Listing → ℕ
letter_of None = 46
letter_of (Some l) = letter_in l.broadcast l.word

-- a letter is taken for its listing
row_read : (broadcast : Bool) (word : Option ModeWord) → not (eqb (letter_in broadcast word) 0) ≡ true → read_as (letter_in broadcast word) ≡ listed broadcast word
unfolding read_as letter_in
row_read false None h = refl
row_read true None h = refl
row_read false (Some Sent) h = refl
row_read true (Some Sent) h = absurd (true≢false (sym h))
row_read false (Some Received) h = absurd (true≢false (sym h))
row_read true (Some Received) h = refl

letter_read : (l : Option Listing) → not (eqb (letter_of l) 0) ≡ true → read_as (letter_of l) ≡ l
unfolding read_as letter_of
letter_read None h = refl
letter_read (Some l) h = row_read l.broadcast l.word h

-- the letters, T/R 0 first
abbrev pub letters : List ℕ
letters =
    46 ∷ 46 ∷ 46 ∷ 46 ∷ 46 ∷ 46 ∷ 46 ∷ 46 ∷ 46 ∷ 46 ∷ 46 ∷ 46 ∷ 46 ∷ 46 ∷ 46 ∷ 46
    ∷ 46 ∷ 114 ∷ 46 ∷ 46 ∷ 114 ∷ 114 ∷ 46 ∷ 46 ∷ 46 ∷ 46 ∷ 46 ∷ 46 ∷ 46 ∷ 46 ∷ 46 ∷ 46
    ∷ 110 ∷ 98 ∷ 110 ∷ 98 ∷ 98 ∷ 98 ∷ 98 ∷ 98 ∷ 98 ∷ 46 ∷ 46 ∷ 46 ∷ 46 ∷ 46 ∷ 46 ∷ 46
    ∷ 115 ∷ 46 ∷ 115 ∷ 115 ∷ 46 ∷ 46 ∷ 46 ∷ 46 ∷ 46 ∷ 46 ∷ 46 ∷ 46 ∷ 46 ∷ 46 ∷ 46 ∷ 46
    ∷ []

-- the letter of a T/R bit and a code is that of what document 01 has there
right : ℕ → ℕ → Bool
right t c = eqb (get_or letters (t * 32 + c) 0) (letter_of (found t c rows)) && not (eqb (letter_of (found t c rows)) 0)

all_right : passes 64 (λ (i : ℕ). right (i / 32) (i % 32)) ≡ true
unfolding passes right letter_of letter_in found rows
all_right = refl

-- so the code takes it for what document 01 has there
pub table_right : (t c : ℕ) → t < 2 → c < 32 → read_as (get_or letters (t * 32 + c) 0) ≡ found t c rows
unfolding right
table_right t c ht hc =
    let l = found t c rows in
    let x = get_or letters (t * 32 + c) 0 in
    let parts = and_parts (eqb x (letter_of l)) (not (eqb (letter_of l) 0)) (at_pair right all_right t c ht hc) in
    ap read_as (eqb-true x (letter_of l) parts.0) ∙ letter_read l parts.1

-- ---- which codes the table lists, and how many

same : Bool → Bool → Bool
same true b = b
same false b = not b

same_is : (a b : Bool) → same a b ≡ true → a ≡ b
unfolding same
same_is true b h = sym h
same_is false b h = sym (not-true b h)

-- the codes that document 01 names, by T/R
named : ℕ → ℕ → Bool
named t c = cond (eqb t 1) (leb c 8 || eqb c 16 || eqb c 18 || eqb c 19) (eqb c 17 || eqb c 20 || eqb c 21)

listed_as_named : ℕ → ℕ → Bool
listed_as_named t c = same (is_listed (found t c rows)) (named t c)

all_named : passes 64 (λ (i : ℕ). listed_as_named (i / 32) (i % 32)) ≡ true
unfolding passes listed_as_named same named is_listed found rows
all_named = refl

pub only_listed : OnlyListed
unfolding listing_of listed_as_named named
only_listed word =
    same_is (is_listed (found (transmit_of word) (code_of word) rows)) (named (transmit_of word) (code_of word))
    (at_pair listed_as_named all_named (transmit_of word) (code_of word) (omega arith) (omega arith))

pub fifteen_listed : FifteenListed
unfolding how_many is_listed found rows
fifteen_listed = refl
