-- docs/LINES.md, "busdump FILE..": the line of an entry (02 a and i). "Times and gaps are whole ticks .., words four hexadecimal capitals, and `-` is none."; "fields in a fixed
-- order, `key=value`, one space apart". Assumes nothing.
use Rattle.std.specs.Prelude.{ℕ, Bool, true, false, cond, not, ◌||◌, List, [], ◌∷◌, ◌++◌, eqb, get_or, Option, None, Some}
use Rattle.words.specs.Words.{address_of, subaddress_of, count_of, words_of, is_transmit, is_broadcast, is_mode, parity_of}
use Rattle.records.specs.declared.forms.WordRecord.{WordRecord}
use Rattle.monitor.specs.declared.entries.Commands.{Commands}
use Rattle.monitor.specs.declared.entries.Commands.TheVariants as commands
use Rattle.monitor.specs.declared.entries.Statuses.{Statuses}
use Rattle.monitor.specs.declared.entries.Statuses.TheVariants as statuses
use Rattle.monitor.specs.declared.entries.Gap.{Gap}
use Rattle.monitor.specs.declared.entries.Gap.TheVariants as gap
use Rattle.verdict.specs.Numbers.{number_of}
use Rattle.verdict.specs.declared.verdicts.Verdict.{Verdict}
use Rattle.verdict.specs.declared.verdicts.Verdict.TheVariants as verdict
use Rattle.monitor.specs.declared.entries.Message.{Message}
use Rattle.monitor.specs.declared.entries.Entry.{Entry}
use Rattle.monitor.specs.declared.entries.Entry.TheVariants as entry
use Rattle.lines.specs.Sinks.{word_text, decimal_text}
use Rattle.lines.specs.Spells.{text_of, number_text}

-- ---- "`msg`: a message: the time of its first record, its bus"

-- bus A or B
unfoldable pub bus_text : ℕ → List ℕ
bus_text bus = cond (eqb bus 0) (text_of " A") (text_of " B")

abbrev pub begin_text : ℕ → ℕ → List ℕ
begin_text time bus = decimal_text time ++ bus_text bus

-- two words, a comma between them
abbrev pub pair_text : ℕ → ℕ → List ℕ
pair_text first second = word_text first ++ (text_of "," ++ word_text second)

-- "one or two command words"
abbrev pub commands_text : Commands → List ℕ
commands_text (commands.One first) = word_text first.0
commands_text (commands.Two first second) = pair_text first.0 second.0

-- "up to two statuses"
abbrev pub statuses_text : Statuses → List ℕ
statuses_text statuses.None = text_of " st=-"
statuses_text (statuses.One first) = text_of " st=" ++ word_text first.0
statuses_text (statuses.Two first second) = text_of " st=" ++ pair_text first.0 second.0

-- "the gap before the first status (.. below 0 where it comes earlier than that)"
abbrev pub gap_text : Option Gap → List ℕ
gap_text None = text_of " gap=-"
gap_text (Some (gap.Apart ticks)) = number_text (text_of " gap=") ticks.0
gap_text (Some (gap.Overlap ticks)) = number_text (text_of " gap=-") ticks.0

-- "Verdicts: 0 good, 1 no-response, 2 waiting, 3 early, 4 late, 5 invalid, 6 sync, 7 address, 8 error, 9 busy, 10 spacing .., 11 left-over, 12 overlap"
abbrev pub verdict_names : List (List ℕ)
verdict_names =
    text_of " good" ∷ text_of " no-response" ∷ text_of " waiting" ∷ text_of " early" ∷ text_of " late" ∷ text_of " invalid" ∷ text_of " sync" ∷ text_of " address"
    ∷ text_of " error" ∷ text_of " busy" ∷ text_of " spacing" ∷ text_of " left-over" ∷ text_of " overlap" ∷ []

-- a number to which no document gives a verdict has none of these
unfoldable pub verdict_name : Verdict → List ℕ
verdict_name (verdict.Unnamed number) = text_of " unnamed"
verdict_name named = get_or verdict_names (number_of named) []

-- "and the verdict"; "`- none` where the commands are an impossible plan, .."
abbrev pub outcome_text : Option Verdict → List ℕ
outcome_text None = text_of " verdict=- none"
outcome_text (Some verdict) = number_text (text_of " verdict=") (number_of verdict) ++ verdict_name verdict

-- "how many valid data words and how many records it has"
abbrev pub counts_text : ℕ → ℕ → List ℕ
counts_text words records = number_text (text_of " data=") words ++ number_text (text_of " rec=") records

abbrev pub message_text : Message → List ℕ
message_text m =
    begin_text m.time.0 m.bus
    ++ (text_of " msg cmd=" ++ (commands_text m.commands ++ (statuses_text m.statuses ++ (counts_text m.words m.records ++ (gap_text m.gap ++ outcome_text m.outcome)))))

-- ---- "`one`: a record outside any message, with all its fields."

abbrev pub single_text : WordRecord → List ℕ
single_text r =
    begin_text r.time.0 r.bus
    ++ (number_text (text_of " one sync=") r.sync
    ++ (number_text (text_of " faults=") r.faults ++ (text_of " word=" ++ (word_text r.word ++ number_text (text_of " parity=") r.parity))))

-- ---- "`-v` adds the fields of the command words to each message: ` c1=rt5,receive,sa2,count2 c2=rt4,transmit,sa3,count2`."

-- "address 31 is `all`"
unfoldable pub address_text : ℕ → List ℕ
address_text command = cond (is_broadcast command) (text_of "all") (number_text (text_of "rt") (address_of command))

unfoldable pub direction_text : ℕ → List ℕ
direction_text command = cond (is_transmit command) (text_of ",transmit") (text_of ",receive")

-- "A mode command has `mode` and its code, ..; a count of 0 is `count32`."
unfoldable pub kind_text : ℕ → List ℕ
kind_text command =
    cond (is_mode command) (number_text (text_of ",mode,code") (count_of command))
    (number_text (text_of ",sa") (subaddress_of command) ++ number_text (text_of ",count") (words_of command))

abbrev pub fields_text : List ℕ → ℕ → List ℕ
fields_text begin command = begin ++ (address_text command ++ (direction_text command ++ kind_text command))

abbrev pub all_fields_text : Commands → List ℕ
all_fields_text (commands.One first) = fields_text (text_of " c1=") first.0
all_fields_text (commands.Two first second) = fields_text (text_of " c1=") first.0 ++ fields_text (text_of " c2=") second.0

-- ---- "To each `one` it adds what is bad in its word: ` bad=parity`, `manchester` or `bits` (the receiver's faults), `sync` (neither shape), several in this order with commas, and
-- ` bad=-` where the word is valid."

-- What stands before one: a comma behind others, else "=".
unfoldable pub flaw_mark : Bool → ℕ
flaw_mark more = cond more 44 61

-- One thing that is bad, where it is, behind others or the first.
unfoldable pub flaw_text : Bool → Bool → List ℕ → List ℕ
flaw_text more bad name = cond bad (flaw_mark more ∷ name) []

abbrev pub has_parity_flaw : WordRecord → Bool
has_parity_flaw r = not (eqb r.parity (parity_of r.word))

abbrev pub has_manchester_flaw : WordRecord → Bool
has_manchester_flaw r = eqb r.faults 1 || eqb r.faults 3

abbrev pub has_bits_flaw : WordRecord → Bool
has_bits_flaw r = eqb r.faults 2 || eqb r.faults 3

abbrev pub has_sync_flaw : WordRecord → Bool
has_sync_flaw r = eqb r.sync 2

unfoldable pub flaws_text : Bool → Bool → Bool → Bool → List ℕ
flaws_text parity manchester bits sync =
    text_of " bad"
    ++ (flaw_text false parity (text_of "parity")
    ++ (flaw_text parity manchester (text_of "manchester")
    ++ (flaw_text (parity || manchester) bits (text_of "bits")
    ++ (flaw_text (parity || manchester || bits) sync (text_of "sync") ++ flaw_text false (not (parity || manchester || bits || sync)) (text_of "-")))))

abbrev pub bad_text : WordRecord → List ℕ
bad_text r = flaws_text (has_parity_flaw r) (has_manchester_flaw r) (has_bits_flaw r) (has_sync_flaw r)

-- ---- the line of an entry

abbrev pub added_text : Bool → List ℕ → List ℕ
added_text true text = text
added_text false text = []

abbrev pub entry_text : Bool → Entry → List ℕ
entry_text added (entry.Message m) = message_text m ++ added_text added (all_fields_text m.commands)
entry_text added (entry.Single r) = single_text r ++ added_text added (bad_text r)

-- A line is its text and a line end.
abbrev pub line_of : List ℕ → List ℕ
line_of text = text ++ (10 ∷ [])
