-- What holds of words beyond each function's own promise. Each is proved in proofs/ under the name at its side. Assumes nothing.
use Rattle.std.specs.Prelude.{ℕ, zero, suc, ◌+◌, ◌-◌, ◌/◌, ◌%◌, ◌^◌, ◌<◌, ◌≡◌, Bool, true, false, not, cond, ◌&&◌, ◌||◌, eqb, ltb, leb, Option, Some, None}
use Rattle.words.specs.Words.{field_of, since_of, gap_of, spacing_least, spacing_most, is_spaced, spacing_of, is_overlapping, is_back_to_back, is_separated, distance_in, word_ticks, back_to_back_gap, due_distance, no_response_distance, address_of, transmit_of, subaddress_of, count_of, command_of, code_of, is_transmit, bit_of, has_flag, with_flag, flags_of, status_of, has_no_other, is_odd, parity_of, is_valid}
use Rattle.words.specs.Modes.{rows, found, listing_of}
use Rattle.words.specs.declared.statuses.Flag.{Flag}
use Rattle.words.specs.declared.modes.Listing.{Listing}

-- "so back-to-back words have a gap of 20"; "plus 260, a gap of 80"; "a gap up to 140", which 320 is: gaps
abbrev pub Gaps : Type 0
Gaps =
    (moment : ℕ)
    → (gap_of moment (moment + word_ticks) ≡ back_to_back_gap)
    × (gap_of moment (moment + due_distance) ≡ 80)
    × (gap_of moment (moment + no_response_distance) ≡ 140)

-- of three, one is and no two are
abbrev pub is_one_of : Bool → Bool → Bool → Bool
is_one_of a b c = (a && not b && not c) || (not a && b && not c) || (not a && not b && c)

-- Two words overlap below 195, are separated above 205, and are back to back, as `is_spaced` has it, between; they are one of the three and no two; and
-- the distance is told: kinds_exact
abbrev pub KindsExact : Type 0
KindsExact =
    (before after : ℕ)
    → (is_overlapping (spacing_of before after) ≡ ltb (since_of before after) spacing_least)
    × (is_back_to_back (spacing_of before after) ≡ is_spaced before after)
    × (is_separated (spacing_of before after) ≡ ltb spacing_most (since_of before after))
    × (is_one_of (is_overlapping (spacing_of before after)) (is_back_to_back (spacing_of before after)) (is_separated (spacing_of before after)) ≡ true)
    × (distance_in (spacing_of before after) ≡ since_of before after)

-- The fields of a built command are the parts: fields_built
abbrev pub FieldsBuilt : Type 0
FieldsBuilt =
    (address transmit subaddress count : ℕ) → address < 32 → transmit < 2 → subaddress < 32 → count < 32
    → (address_of (command_of address transmit subaddress count) ≡ address)
    × (transmit_of (command_of address transmit subaddress count) ≡ transmit)
    × (subaddress_of (command_of address transmit subaddress count) ≡ subaddress)
    × (count_of (command_of address transmit subaddress count) ≡ count)

-- Building from the fields of any word gives the word back: built_fields
abbrev pub BuiltFields : Type 0
BuiltFields = (word : ℕ) → word < 2 ^ 16 → command_of (address_of word) (transmit_of word) (subaddress_of word) (count_of word) ≡ word

-- The address and the flags of a built status are the parts, and its other bits are 0: status_fields_built
abbrev pub StatusFieldsBuilt : Type 0
StatusFieldsBuilt =
    (address flags : ℕ) → address < 32
    → (address_of (status_of address flags) ≡ address) × (flags_of (status_of address flags) ≡ flags_of flags) × (has_no_other (status_of address flags) ≡ true)

-- Building from the parts of any status word whose other bits are 0 gives the word back: status_built_fields
abbrev pub StatusBuiltFields : Type 0
StatusBuiltFields = (word : ℕ) → word < 2 ^ 16 → has_no_other word ≡ true → status_of (address_of word) (flags_of word) ≡ word

-- With a flag a word has that flag, and each other bit, flag or not, is as it was: flag_alone
abbrev pub FlagAlone : Type 0
FlagAlone =
    (flag : Flag) (word : ℕ)
    → (has_flag flag (with_flag flag word) ≡ true)
    × ((place : ℕ) → (2 ^ place ≡ bit_of flag → ⊥) → field_of place 1 (with_flag flag word) ≡ field_of place 1 word)

-- Exactly one parity bit makes a word odd, the one that is given: parity_one
abbrev pub ParityOne : Type 0
ParityOne =
    (word : ℕ)
    → (parity_of word < 2)
    × (is_odd word (parity_of word) ≡ true)
    × ((parity : ℕ) → parity < 2 → is_odd word parity ≡ true → parity ≡ parity_of word)

-- A word with one of its bits turned.
unfoldable pub turned : ℕ → ℕ → ℕ
turned place word = cond (eqb (word / 2 ^ place % 2) 1) (word - 2 ^ place) (word + 2 ^ place)

-- A valid word with one of its 16 bits turned, or its parity bit, is not valid: bit_turned
abbrev pub BitTurned : Type 0
BitTurned =
    (sync faults word parity : ℕ) → is_valid sync faults word parity ≡ true
    → ((place : ℕ) → place < 16 → is_valid sync faults (turned place word) parity ≡ false) × (is_valid sync faults word (1 - parity) ≡ false)

-- The table lists it.
unfoldable pub is_listed : Option Listing → Bool
is_listed None = false
is_listed (Some listing) = true

-- How many numbers below n pass a test.
unfoldable pub how_many : ℕ → (ℕ → Bool) → ℕ
how_many zero test = 0
how_many (suc n) test = cond (test n) 1 0 + how_many n test

-- Of the 32 codes with either T/R bit the table lists 15: fifteen_listed
abbrev pub FifteenListed : Type 0
FifteenListed = how_many 64 (λ (i : ℕ). is_listed (found (i / 32) (i % 32) rows)) ≡ 15

-- It lists the codes 0 to 8, 16, 18 and 19 with T/R 1, and 17, 20 and 21 with T/R 0, and no other: only_listed
abbrev pub OnlyListed : Type 0
OnlyListed =
    (word : ℕ)
    → is_listed (listing_of word)
    ≡ cond (is_transmit word)
    (leb (code_of word) 8 || eqb (code_of word) 16 || eqb (code_of word) 18 || eqb (code_of word) 19)
    (eqb (code_of word) 17 || eqb (code_of word) 20 || eqb (code_of word) 21)
