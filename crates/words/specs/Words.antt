-- Document 01, "Time and words", sentence by sentence. Moments, lengths of time and words are plain numbers here; "A moment and a length
-- of time must not be mixable by mistake, and neither must a command word and a status word" is kept by the types of the code. A word is
-- below 2 ^ 16. Assumes nothing.
use Rattle.std.specs.Prelude.{ℕ, ◌+◌, ◌-◌, ◌*◌, ◌/◌, ◌%◌, ◌^◌, Bool, true, false, cond, ◌&&◌, ◌||◌, eqb, ltb, leb}
use Rattle.std.specs.Int.Count.{ones_in}
use Rattle.words.specs.declared.times.Spacing.{Spacing}
use Rattle.words.specs.declared.times.Spacing.TheVariants.{Overlapping, BackToBack, Separated}
use Rattle.words.specs.declared.statuses.Flag.{Flag}
use Rattle.words.specs.declared.statuses.Flag.TheVariants.{MessageError, ServiceRequest, BroadcastReceived, Busy, Subsystem, Terminal}

-- ---- time

-- "Time is a whole number of ticks of 0.1 microsecond, 0 to 2^48 - 1."
abbrev pub on_clock : ℕ → Bool
on_clock moment = ltb moment (2 ^ 48)

-- A moment plus a length of time. The code holds it in 64 bits: a sum past their last number stays there, far past the clock (house).
unfoldable pub plus_of : ℕ → ℕ → ℕ
plus_of moment ticks = cond (ltb (moment + ticks) (2 ^ 64)) (moment + ticks) (2 ^ 64 - 1)

-- The length of time from one moment to a later one; it is 0 where the second is not later (house).
abbrev pub since_of : ℕ → ℕ → ℕ
since_of before after = after - before

-- "A word's time is the zero crossing in the middle of its sync. A word lasts 200 ticks;" (003 7.3.3.4)
abbrev pub word_ticks : ℕ
word_ticks = 200

-- "the middle of its parity bit is 180 ticks after its time."
abbrev pub parity_middle : ℕ
parity_middle = 180

-- "A gap runs from there to the next word's time," and is 0 where that is not later (house). (003 7.3.3.7, 7.3.3.8; 002 2.8)
abbrev pub gap_of : ℕ → ℕ → ℕ
gap_of before after = since_of (before + parity_middle) after

-- "so back-to-back words have a gap of 20."
abbrev pub back_to_back_gap : ℕ
back_to_back_gap = 20

-- ---- distances that later sections name

-- "195 to 205 after the one before" (01 The terminal, rule 5; house, 003 7.4.1.2 and 002 3.2 give no tolerance)
abbrev pub spacing_least : ℕ
spacing_least = 195

abbrev pub spacing_most : ℕ
spacing_most = 205

unfoldable pub is_spaced : ℕ → ℕ → Bool
is_spaced before after = leb spacing_least (since_of before after) && leb (since_of before after) spacing_most

-- "It shall answer overlapping (below 195), back to back, or separated (above 205), with the distance." (02 i): `is_spaced` says that the answer is back
-- to back (`kinds_exact`). A word that is not later than the one before overlaps it, with the distance 0 (house).
unfoldable pub spacing_of : ℕ → ℕ → Spacing
spacing_of before after =
    cond (ltb (since_of before after) spacing_least) (Overlapping (record { 0 = since_of before after }))
    (cond (leb (since_of before after) spacing_most) (BackToBack (record { 0 = since_of before after }))
    (Separated (record { 0 = since_of before after })))

-- which of the three it is, and the distance
abbrev pub is_overlapping : Spacing → Bool
is_overlapping (Overlapping distance) = true
is_overlapping (BackToBack distance) = false
is_overlapping (Separated distance) = false

abbrev pub is_back_to_back : Spacing → Bool
is_back_to_back (Overlapping distance) = false
is_back_to_back (BackToBack distance) = true
is_back_to_back (Separated distance) = false

abbrev pub is_separated : Spacing → Bool
is_separated (Overlapping distance) = false
is_separated (BackToBack distance) = false
is_separated (Separated distance) = true

abbrev pub distance_in : Spacing → ℕ
distance_in (Overlapping distance) = distance.0
distance_in (BackToBack distance) = distance.0
distance_in (Separated distance) = distance.0

-- "the last word's time plus 260, a gap of 80 (8.0 microseconds; the standard allows 4.0 to 12.0)" (01 The terminal; 003 7.3.3.8, 002 2.8.1)
abbrev pub due_distance : ℕ
due_distance = 260

-- "no response if Q is at least 320 past the last word .." (01 Controller verdicts; 003 7.3.3.9, 002 2.8.2)
abbrev pub no_response_distance : ℕ
no_response_distance = 320

-- ---- words

-- "A word has 16 bits, first bit highest,": the field of that width whose lowest bit has the weight 2 ^ place. (003 7.3.2, 7.3.3.4;
-- 002 2.3.1, 2.3.2)
abbrev pub field_of : ℕ → ℕ → ℕ → ℕ
field_of place width word = word / 2 ^ place % 2 ^ width

-- The low bits of a value in that field, the rest of the word 0.
abbrev pub placed_of : ℕ → ℕ → ℕ → ℕ
placed_of place width value = value % 2 ^ width * 2 ^ place

-- "then a parity bit that makes the count of ones among all 17 odd." (003 7.3.3.5.1.6, 002 2.4.6)
unfoldable pub is_odd : ℕ → ℕ → Bool
is_odd word parity = eqb ((ones_in 16 word + parity) % 2) 1

unfoldable pub parity_of : ℕ → ℕ
parity_of word = cond (is_odd word 0) 0 1

-- ---- command words

-- "Command: address (5 bits), T/R (1), subaddress (5), count (5)." (003 7.3.3.5.1, 002 2.4)
abbrev pub address_of : ℕ → ℕ
address_of word = field_of 11 5 word

abbrev pub transmit_of : ℕ → ℕ
transmit_of word = field_of 10 1 word

abbrev pub subaddress_of : ℕ → ℕ
subaddress_of word = field_of 5 5 word

abbrev pub count_of : ℕ → ℕ
count_of word = field_of 0 5 word

-- The word of the four parts.
abbrev pub command_of : ℕ → ℕ → ℕ → ℕ → ℕ
command_of address transmit subaddress count =
    placed_of 11 5 address + placed_of 10 1 transmit + placed_of 5 5 subaddress + placed_of 0 5 count

-- "Count 0 means 32." (003 7.3.3.5.1.5, 002 2.4.5)
unfoldable pub words_of : ℕ → ℕ
words_of word = cond (eqb (count_of word) 0) 32 (count_of word)

-- "Subaddress 0 or 31 marks a mode command" (003 7.3.3.5.1.7, 002 2.4.4)
unfoldable pub is_mode : ℕ → Bool
is_mode word = eqb (subaddress_of word) 0 || eqb (subaddress_of word) 31

-- "and the count field is its code." (003 7.3.3.5.1.7, 002 2.4.7)
abbrev pub code_of : ℕ → ℕ
code_of word = count_of word

-- "T/R 1 means the terminal transmits." (003 7.3.3.5.1.3, 002 2.4.3)
abbrev pub is_transmit : ℕ → Bool
is_transmit word = eqb (transmit_of word) 1

-- "Awaited data words: the count for receive, one for a T/R 0 mode code of 16 or more, else none." (01 The terminal)
unfoldable pub awaited_of : ℕ → ℕ
awaited_of word = cond (is_transmit word) 0 (cond (is_mode word) (cond (leb 16 (code_of word)) 1 0) (words_of word))

-- ---- status words

-- "Status: address (5), message error 0400, .. service request 0100, .. broadcast received 0010, busy 0008, subsystem flag 0004, ..
-- terminal flag 0001 (hexadecimal)." The address is `address_of`. (003 7.3.3.5.3, 002 2.6)
abbrev pub bit_of : Flag → ℕ
bit_of MessageError = 0x0400
bit_of ServiceRequest = 0x0100
bit_of BroadcastReceived = 0x0010
bit_of Busy = 0x0008
bit_of Subsystem = 0x0004
bit_of Terminal = 0x0001

-- "instrumentation 0200 (always 0), .. reserved 00E0 (0), .. bus control acceptance 0002 (always 0, house)": 00E0 is three bits from
-- 0020. (003 7.3.3.5.3.4, 7.3.3.5.3.6, 7.3.3.5.3.10; 002 2.6.3.2). Refines 003 7.3.3.5.3.10 and 002 2.6.3.7, which leave the acceptance open.
abbrev pub has_no_other : ℕ → Bool
has_no_other word = eqb (word / 0x0200 % 2) 0 && eqb (word / 0x0020 % 8) 0 && eqb (word / 0x0002 % 2) 0

-- The word has the flag.
unfoldable pub has_flag : Flag → ℕ → Bool
has_flag flag word = eqb (word / bit_of flag % 2) 1

-- The word with the flag.
unfoldable pub with_flag : Flag → ℕ → ℕ
with_flag flag word = cond (has_flag flag word) word (word + bit_of flag)

-- The flag's bit where the word has it, else 0.
abbrev pub kept_of : Flag → ℕ → ℕ
kept_of flag word = word / bit_of flag % 2 * bit_of flag

-- The six flags of a word and nothing else of it.
abbrev pub flags_of : ℕ → ℕ
flags_of word =
    kept_of MessageError word + kept_of ServiceRequest word + kept_of BroadcastReceived word + kept_of Busy word + kept_of Subsystem word
    + kept_of Terminal word

-- The word of an address and of the six flags among those bits.
abbrev pub status_of : ℕ → ℕ → ℕ
status_of address flags = placed_of 11 5 address + flags_of flags

-- ---- which words

-- "Address 31 is broadcast." (003 7.3.3.5.1.2, 002 2.4.2)
abbrev pub is_broadcast : ℕ → Bool
is_broadcast word = eqb (address_of word) 31

-- "sync (1: 0 command/status, 1 data, 2 neither)" (01 Word records on file)
abbrev pub command_sync : ℕ
command_sync = 0

abbrev pub data_sync : ℕ
data_sync = 1

-- "A word is valid if its sync is one of the two shapes, no receiver fault is marked and parity is odd." A parity bit is 0 or 1; C may hand
-- over any number. (003 7.4.1.1, 002 3.1)
unfoldable pub is_valid : ℕ → ℕ → ℕ → ℕ → Bool
is_valid sync faults word parity = (eqb sync command_sync || eqb sync data_sync) && eqb faults 0 && ltb parity 2 && is_odd word parity
