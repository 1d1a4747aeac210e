-- docs/LINES.md, "busdump FILE..": the lines that close a log, and which entries are shown (02 a). Assumes nothing.
use Rattle.std.specs.Prelude.{ℕ, Bool, true, false, not, ◌&&◌, ◌||◌, List, ◌++◌, eqb, leb, Option, None, Some, is_none}
use Rattle.words.specs.Words.{address_of}
use Rattle.monitor.specs.declared.entries.Commands.{Commands}
use Rattle.monitor.specs.declared.entries.Commands.TheVariants as commands
use Rattle.verdict.specs.Numbers.{number_of}
use Rattle.verdict.specs.declared.verdicts.Verdict.{Verdict}
use Rattle.monitor.specs.declared.entries.Entry.{Entry}
use Rattle.monitor.specs.declared.entries.Entry.TheVariants as entry
use Rattle.lines.specs.Spells.{text_of, number_text}
use Rattle.texts.specs.declared.shows.Wanted.{Wanted}

-- "`# end`: the whole file was read; it has so many entries and records.": "# end entries=4 records=12"
abbrev pub log_end_text : ℕ → ℕ → List ℕ
log_end_text entries records = number_text (text_of "# end entries=") entries ++ number_text (text_of " records=") records

-- "`# refused N record=K byte=B entries=E`: record K, counted from 0, was refused with N ... B is the place of its first byte in the file."
abbrev pub log_refused_text : ℕ → ℕ → ℕ → ℕ → List ℕ
log_refused_text refusal place byte entries =
    number_text (text_of "# refused ") refusal
    ++ (number_text (text_of " record=") place ++ (number_text (text_of " byte=") byte ++ number_text (text_of " entries=") entries))

-- ---- "They narrow what is shown and nothing else: .. a message is shown whole or not at all."

-- A number is the one that is asked for, where one is.
abbrev pub is_asked : Option ℕ → ℕ → Bool
is_asked None number = true
is_asked (Some wanted) number = eqb number wanted

-- "`-b A` or `-b B`: only that bus."
abbrev pub is_on_bus : Wanted → ℕ → Bool
is_on_bus w bus = is_asked w.bus bus

-- "`-f FROM` and `-t TO`: only entries of which the first record's time is at least FROM, and at most TO."
abbrev pub is_within : Wanted → ℕ → Bool
is_within w time = leb w.from time && leb time w.to

-- "`-a ADDRESS`: only messages with a command word to that address"
abbrev pub is_to : Wanted → ℕ → Bool
is_to w command = is_asked w.address (address_of command)

abbrev pub is_any_to : Wanted → Commands → Bool
is_any_to w (commands.One first) = is_to w first.0
is_any_to w (commands.Two first second) = is_to w first.0 || is_to w second.0

-- the verdict is 0
abbrev pub is_good : Option Verdict → Bool
is_good None = false
is_good (Some verdict) = eqb (number_of verdict) 0

-- "`-e`: only what is to be looked at: every message whose verdict is not 0, `- none` too, and every `one`."; "Several narrow together."; "a `one` has no command word."
abbrev pub is_shown : Wanted → Entry → Bool
is_shown w (entry.Message m) =
    is_on_bus w m.bus && is_within w m.time.0 && is_any_to w m.commands && not (w.only_bad && is_good m.outcome)
is_shown w (entry.Single r) = is_on_bus w r.bus && is_within w r.time.0 && is_none w.address
