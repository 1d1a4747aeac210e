-- Document 02, request a), "A log of whole messages": what belongs to an entry, and what the entry says. An entry is its records, in the order of the
-- file: the first, and those after it. Assumes nothing.
use Rattle.std.specs.Prelude.{ℕ, zero, suc, ◌+◌, ◌-◌, Bool, false, cond, not, ◌&&◌, ◌||◌, List, [], ◌∷◌, length, take, drop, ◌==◌, nat_le, nat_lt, Option, Some, None}
use Rattle.words.specs.Words.{since_of, is_spaced, parity_middle, no_response_distance, address_of, awaited_of, is_broadcast, is_valid, command_sync, data_sync}
use Rattle.words.specs.declared.times.Moment.{Moment}
use Rattle.records.specs.declared.forms.WordRecord.{WordRecord}
use Rattle.verdict.specs.Plans.{is_pair, is_possible}
use Rattle.verdict.specs.Verdicts.{verdict_of}
use Rattle.verdict.specs.declared.verdicts.Verdict.{Verdict}
use Rattle.verdict.specs.declared.plans.Plan.{Plan}
use Rattle.monitor.specs.declared.entries.Commands.{Commands}
use Rattle.monitor.specs.declared.entries.Commands.TheVariants as commands
use Rattle.monitor.specs.declared.entries.Statuses.{Statuses}
use Rattle.monitor.specs.declared.entries.Statuses.TheVariants as statuses
use Rattle.monitor.specs.declared.entries.Gap.{Gap}
use Rattle.monitor.specs.declared.entries.Gap.TheVariants as gap
use Rattle.monitor.specs.declared.entries.Message.{Message}
use Rattle.monitor.specs.declared.entries.Entry.{Entry}
use Rattle.monitor.specs.declared.entries.Entry.TheVariants as entry
use Rattle.monitor.specs.declared.openings.Part.{Part}
use Rattle.monitor.specs.declared.openings.Part.TheVariants.{Far, Starts, Second, Status, Other}

-- ---- words

-- a valid word with that sync
unfoldable pub is_word : WordRecord → ℕ → Bool
is_word r sync = is_valid r.sync r.faults r.word r.parity && r.sync == sync

-- "a valid word with command sync"
abbrev pub is_command : WordRecord → Bool
is_command r = is_word r command_sync

-- a valid data word
abbrev pub is_data_word : WordRecord → Bool
is_data_word r = is_word r data_sync

-- ---- command words

-- "the second command word back to back": document 01's, the very next record of the bus, 195 to 205 after a receive command that is no mode command
-- (DECISIONS 42)
unfoldable pub is_second : WordRecord → WordRecord → Bool
is_second first r = is_command r && is_spaced first.time.0 r.time.0 && is_pair first.word r.word

-- "command words"
abbrev pub commands_of : WordRecord → List WordRecord → Commands
commands_of first [] = commands.One (record { 0 = first.word })
commands_of first (r ∷ rest) =
    cond (is_second first r) (commands.Two (record { 0 = first.word }) (record { 0 = r.word })) (commands.One (record { 0 = first.word }))

-- the last of them
abbrev pub last_command : WordRecord → List WordRecord → WordRecord
last_command first [] = first
last_command first (r ∷ rest) = cond (is_second first r) r first

-- the records behind them
abbrev pub behind_of : WordRecord → List WordRecord → List WordRecord
behind_of first [] = []
behind_of first (r ∷ rest) = cond (is_second first r) rest (r ∷ rest)

-- ---- statuses

-- "statuses (its other valid words with command sync)"
abbrev pub statuses_in : List WordRecord → List WordRecord
statuses_in [] = []
statuses_in (r ∷ rs) = cond (is_command r) (r ∷ statuses_in rs) (statuses_in rs)

-- an entry has at most two: `statuses_few`
abbrev pub statuses_by : List WordRecord → Statuses
statuses_by [] = statuses.None
statuses_by (r ∷ []) = statuses.One (record { 0 = r.word })
statuses_by (r ∷ s ∷ rs) = statuses.Two (record { 0 = r.word }) (record { 0 = s.word })

abbrev pub statuses_of : WordRecord → List WordRecord → Statuses
statuses_of first rest = statuses_by (statuses_in (behind_of first rest))

-- a command goes to that address; a status is from it
unfoldable pub is_for : Commands → ℕ → Bool
is_for (commands.One first) address = address_of first.0 == address
is_for (commands.Two first second) address = address_of first.0 == address || address_of second.0 == address

unfoldable pub is_from : Statuses → ℕ → Bool
is_from statuses.None address = false
is_from (statuses.One first) address = address_of first.0 == address
is_from (statuses.Two first second) address = address_of first.0 == address || address_of second.0 == address

-- "a command of that bus's open entry still expects a status from that word's address": one from each address but 31, from the moment its command came
-- until a valid word with command sync from there was taken (DECISIONS 43)
unfoldable pub expects : WordRecord → List WordRecord → WordRecord → Bool
expects first rest r =
    not (is_broadcast r.word) && is_for (commands_of first rest) (address_of r.word) && not (is_from (statuses_of first rest) (address_of r.word))

-- ---- what a record of its bus is to an open entry

-- the entry's last record
abbrev pub last_in : WordRecord → List WordRecord → WordRecord
last_in first [] = first
last_in first (r ∷ rest) = last_in r rest

-- "more than 320 ticks after the entry's last"
unfoldable pub is_far : WordRecord → List WordRecord → WordRecord → Bool
is_far first rest r = nat_lt no_response_distance (since_of (last_in first rest).time.0 r.time.0)

-- "(tested first ..)"; "a valid word with command sync starts one unless a command of that bus's open entry still expects a status from that word's address
-- or still awaits the second command word back to back (tried first)"
unfoldable pub part_of : WordRecord → List WordRecord → WordRecord → Part
part_of first rest r =
    cond (is_far first rest r) Far
    (cond (not (is_command r)) Other
    (cond (length rest == 0 && is_second first r) Second
    (cond (expects first rest r) Status Starts)))

-- ---- "The controller's data words are those back to back after it, up to its count; what follows on that bus are returned records."

-- how many: those that document 01 awaits behind the command, none behind a second one
abbrev pub own_number : WordRecord → List WordRecord → ℕ
own_number first [] = awaited_of first.word
own_number first (r ∷ rest) = cond (is_second first r) 0 (awaited_of first.word)

-- "invalid or badly spaced": one among the first so many, the word before them at that time
abbrev pub is_spoiled : ℕ → ℕ → List WordRecord → Bool
is_spoiled zero before rs = false
is_spoiled (suc n) before [] = false
is_spoiled (suc n) before (r ∷ rs) = not (is_data_word r && is_spaced before r.time.0) || is_spoiled n r.time.0 rs

-- "short": fewer have come
abbrev pub is_short : ℕ → List WordRecord → Bool
is_short n rs = nat_lt (length rs) n

abbrev pub own_bad : WordRecord → List WordRecord → Bool
own_bad first rest =
    is_spoiled (own_number first rest) (last_command first rest).time.0 (behind_of first rest) || is_short (own_number first rest) (behind_of first rest)

-- the last of them, or the last command word: its time is E of document 01
abbrev pub own_last : WordRecord → List WordRecord → WordRecord
own_last first rest = last_in (last_command first rest) (take (own_number first rest) (behind_of first rest))

abbrev pub returned_in : WordRecord → List WordRecord → List WordRecord
returned_in first rest = drop (own_number first rest) (behind_of first rest)

-- ---- the verdict

-- "two records have one time": as none is earlier than the one before it, they stand side by side
abbrev pub has_twins : WordRecord → List WordRecord → Bool
has_twins first [] = false
has_twins first (r ∷ rest) = r.time.0 == first.time.0 || has_twins r rest

-- the controller's plan
abbrev pub plan_with : Commands → ℕ → Moment → Moment → Plan
plan_with (commands.One first) bus last until =
    record { commands = 1; first = first; second = record { 0 = 0 }; bus = bus; last = last; until = until }
plan_with (commands.Two first second) bus last until =
    record { commands = 2; first = first; second = second; bus = bus; last = last; until = until }

abbrev pub plan_of : WordRecord → List WordRecord → Moment → Plan
plan_of first rest until = plan_with (commands_of first rest) first.bus (own_last first rest).time until

-- "the verdict that the controller rules give, or "none" where the commands are an impossible plan or the controller's own words are short, invalid or
-- badly spaced, or two records have one time"
unfoldable pub outcome_in : WordRecord → List WordRecord → Moment → Option Verdict
outcome_in first rest until =
    cond (not (is_possible (plan_of first rest until)) || own_bad first rest || has_twins first rest) None
    (Some (verdict_of (plan_of first rest until) (returned_in first rest)))

-- ---- "Each entry has bus, time, command words, statuses .., numbers of valid data words and of records, the gap before the first status, and the verdict"

-- A gap runs from 180 ticks after a word's time "to the next word's time" (01 Time and words); a word that comes before that has it below 0 (house).
unfoldable pub gap_from : ℕ → ℕ → Gap
gap_from before after =
    cond (nat_le parity_middle (since_of before after)) (gap.Apart (record { 0 = since_of before after - parity_middle }))
    (gap.Overlap (record { 0 = parity_middle - since_of before after }))

-- "the gap before the first status": from the record just before it, valid or not (DECISIONS 44)
abbrev pub gap_before : ℕ → List WordRecord → Option Gap
gap_before before [] = None
gap_before before (r ∷ rs) = cond (is_command r) (Some (gap_from before r.time.0)) (gap_before r.time.0 rs)

-- "numbers of valid data words": of the whole entry (house)
abbrev pub data_words : List WordRecord → ℕ
data_words [] = 0
data_words (r ∷ rs) = cond (is_data_word r) 1 0 + data_words rs

unfoldable pub message_of : WordRecord → List WordRecord → Moment → Message
message_of first rest until = record {
  bus = first.bus;
  time = first.time;
  commands = commands_of first rest;
  statuses = statuses_of first rest;
  words = data_words rest;
  records = length (first ∷ rest);
  gap = gap_before (last_command first rest).time.0 (behind_of first rest);
  outcome = outcome_in first rest until;
}

-- "A record outside any message is an entry of its own, kept whole"
unfoldable pub entry_of : WordRecord → List WordRecord → Moment → Entry
entry_of first rest until = cond (is_command first) (entry.Message (message_of first rest until)) (entry.Single first)
