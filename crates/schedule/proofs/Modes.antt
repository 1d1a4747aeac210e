-- The data words of mode commands are those of the code table: one test, computed over all T/R bits and codes. Assumes nothing.
use mathlib.Core.Path.{◌≡◌, refl, sym}
use mathlib.Core.Bool.{Bool, true, false, ◌||◌, true≢false}
use Prim.Native.Nat.{ℕ, ◌/◌, ◌%◌}
use Rattle.std.specs.Prelude.{Option, None, Some}
use native.Mathlib.Omega.{arith}
use lib.Dec.{eqb}
use borrow.Author.Tests.{eqb-true}
use Rattle.words.specs.Words.{transmit_of, code_of, is_broadcast}
use Rattle.words.specs.Modes.{rows, found, listing_of, allows, is_allowed}
use Rattle.words.specs.declared.modes.Listing.{Listing}
use Rattle.words.proofs.Table.{at_pair}
use Rattle.words.proofs.Truth.{passes}
use Rattle.schedule.specs.Messages.{mode_data_of, data_of}
use Rattle.schedule.specs.Theorems.{word_in, ModeWords}

abbrev is_reserved : Option Listing → Bool
is_reserved None = true
is_reserved (Some listing) = false

abbrev test : ℕ → ℕ → Bool
test t c = is_reserved (found t c rows) || eqb (mode_data_of c) (word_in (found t c rows))

all_pass : passes 64 (λ (i : ℕ). test (i / 32) (i % 32)) ≡ true
unfolding passes found rows mode_data_of
all_pass = refl

-- what is allowed is listed
listed : (listing : Option Listing) (to_all : Bool) → allows listing to_all ≡ true → is_reserved listing ≡ false
unfolding allows
listed None to_all h = absurd (true≢false (sym h))
listed (Some listing) to_all h = refl

pub mode_words_lem : ModeWords
unfolding data_of listing_of is_allowed
mode_words_lem word mode allowed =
    let tested = at_pair test all_pass (transmit_of word) (code_of word) (omega arith) (omega arith) in
    let there = listed (listing_of word) (is_broadcast word) allowed in
    rw mode (eqb-true _ _ (rw there at tested))
