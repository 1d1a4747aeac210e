-- What a line of a plan says, or what is wrong with it (docs/LINES.md, busplan FILE; 02 j). Assumes nothing.
use Rattle.std.specs.Prelude.{ℕ, ◌%◌, ◌^◌, Bool, true, false, cond, List, [], ◌∷◌, length, ◌==◌, nat_lt, Option, None, Some, Result, Ok, Err}
use Rattle.words.specs.declared.commands.CommandWord.{CommandWord}
use Rattle.schedule.specs.declared.messages.Message.{Message}
use Rattle.lines.specs.Numbers.{number_read, hexadecimal_read}
use Rattle.lines.specs.Names.{same_text}
use Rattle.plans.specs.declared.entries.Fault.{Fault}
use Rattle.plans.specs.declared.entries.Fault.TheVariants as fault
use Rattle.plans.specs.declared.entries.Entry.{Entry}
use Rattle.plans.specs.declared.entries.Entry.TheVariants.{Capacities, Capacity, Placed, Unplaced}
use Rattle.plans.specs.Parts.{before_remark, has_control, before_control, tight, parts_of}

-- What is made of the number that a part spells; the fault where it spells none.
abbrev pub reading : Option ℕ → Fault → (ℕ → Result Entry Fault) → Result Entry Fault
reading (Some number) wrong next = next number
reading None wrong next = Err wrong

-- ---- "`capacity TICKS` is the capacity of all 64 frames, `capacity FRAME TICKS` that of one, 0 to 63."

-- "capacity"
abbrev pub capacity_text : List ℕ
capacity_text = 99 ∷ 97 ∷ 112 ∷ 97 ∷ 99 ∷ 105 ∷ 116 ∷ 121 ∷ []

unfoldable pub capacities_of : List ℕ → Result Entry Fault
capacities_of ticks = reading (number_read ticks) fault.Number (λ n. Ok (Capacities n))

unfoldable pub capacity_of : List ℕ → List ℕ → Result Entry Fault
capacity_of frame ticks =
    reading (number_read frame) fault.Number
    (λ f. cond (nat_lt f 64) (reading (number_read ticks) fault.Number (λ n. Ok (Capacity f n))) (Err fault.Frame))

unfoldable pub capacity_entry : List (List ℕ) → Result Entry Fault
capacity_entry [] = Err fault.CapacityParts
capacity_entry (ticks ∷ []) = capacities_of ticks
capacity_entry (frame ∷ ticks ∷ []) = capacity_of frame ticks
capacity_entry (frame ∷ ticks ∷ more ∷ parts) = Err fault.CapacityParts

-- ---- "`message C1 [C2] PERIOD [FIRST]`: a command word, or two .., of exactly four hexadecimal digits in either case; a period in minor frames; the
-- first frame that it is sent in."

-- "message"
abbrev pub message_text : List ℕ
message_text = 109 ∷ 101 ∷ 115 ∷ 115 ∷ 97 ∷ 103 ∷ 101 ∷ []

-- "of exactly four hexadecimal digits": so the rest of a division by 2^16 is the number
abbrev pub word_of : ℕ → CommandWord
word_of number = record { 0 = number % 2 ^ 16 }

unfoldable pub is_number : Option ℕ → Bool
is_number (Some number) = true
is_number None = false

unfoldable pub is_command : List ℕ → Bool
is_command text = is_number (hexadecimal_read text 4)

-- A message, where the line has no first frame, or one.
unfoldable pub placed_of : Message → List ℕ → Result Entry Fault
placed_of message frame =
    cond (length frame == 0) (Ok (Unplaced message)) (reading (number_read frame) fault.Number (λ n. Ok (Placed message n)))

unfoldable pub message_with : ℕ → CommandWord → CommandWord → List ℕ → List ℕ → Result Entry Fault
message_with commands first second period frame =
    reading (number_read period) fault.Number
    (λ n. placed_of (record { commands = commands; first = first; second = second; period = n }) frame)

-- Of one command word the second stands for nothing.
unfoldable pub single_of : List ℕ → List ℕ → List ℕ → Result Entry Fault
single_of command period frame = reading (hexadecimal_read command 4) fault.Command (λ n. message_with 1 (word_of n) (word_of n) period frame)

unfoldable pub pair_of : List ℕ → List ℕ → List ℕ → List ℕ → Result Entry Fault
pair_of first second period frame =
    reading (hexadecimal_read first 4) fault.Command
    (λ n. reading (hexadecimal_read second 4) fault.Command (λ m. message_with 2 (word_of n) (word_of m) period frame))

-- "With three parts behind `message` the second is a command word if it has exactly four hexadecimal digits, and else the period."
unfoldable pub message_entry : List (List ℕ) → Result Entry Fault
message_entry [] = Err fault.MessageParts
message_entry (command ∷ []) = Err fault.MessageParts
message_entry (command ∷ period ∷ []) = single_of command period []
message_entry (command ∷ other ∷ last ∷ []) = cond (is_command other) (pair_of command other last []) (single_of command other last)
message_entry (first ∷ second ∷ period ∷ frame ∷ []) = pair_of first second period frame
message_entry (first ∷ second ∷ period ∷ frame ∷ more ∷ parts) = Err fault.MessageParts

-- ---- "A line with no part says nothing."

-- What a line says that says something.
abbrev pub entered : Result Entry Fault → Result (Option Entry) Fault
entered (Ok entry) = Ok (Some entry)
entered (Err wrong) = Err wrong

unfoldable pub parts_entry : List (List ℕ) → Result (Option Entry) Fault
parts_entry [] = Ok None
parts_entry (name ∷ parts) =
    cond (same_text name message_text) (entered (message_entry parts)) (cond (same_text name capacity_text) (entered (capacity_entry parts)) (Err fault.Unknown))

-- ---- a whole line, without its end

-- The longest line that is good has 59 bytes where its parts are one space apart: "message C1 C2 PERIOD FIRST" with numbers of 20 digits (house: the bound says which
-- fault a longer line has, and that it is known before its end).
abbrev pub line_most : ℕ
line_most = 64

-- What it says without its comment: a line is judged from left to right, so that of a byte that is no sign and a length that no good line has the
-- first counts.
unfoldable pub said_of : List ℕ → Result (Option Entry) Fault
said_of said =
    cond (nat_lt line_most (length (tight (before_control said))))
    (Err fault.TooLong)
    (cond (has_control said) (Err fault.NoSign) (parts_entry (parts_of (tight said))))

abbrev pub entry_of : List ℕ → Result (Option Entry) Fault
entry_of line = said_of (before_remark line)
