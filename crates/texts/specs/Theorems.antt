-- What holds of the texts of lines beyond each function's own promise. Each is proved in proofs/ under the name at its side. Assumes nothing.
use Rattle.std.specs.Prelude.{ℕ, ◌^◌, ◌≤◌, ◌<◌, ◌≡◌, Bool, true, false, not, ◌&&◌, List, [], ◌∷◌, ◌++◌, eqb, leb, length, get_or, take, Option, None, Some}
use Rattle.words.specs.Words.{is_valid}
use Rattle.words.specs.declared.times.Moment.{Moment}
use Rattle.records.specs.Records.{last_bus, in_range}
use Rattle.records.specs.Theorems as records
use Rattle.records.specs.declared.forms.WordRecord.{WordRecord}
use Rattle.monitor.specs.Entries.{entry_of}
use Rattle.monitor.specs.declared.entries.Commands.{Commands}
use Rattle.monitor.specs.declared.entries.Commands.TheVariants as commands
use Rattle.monitor.specs.declared.entries.Statuses.{Statuses}
use Rattle.monitor.specs.declared.entries.Statuses.TheVariants as statuses
use Rattle.monitor.specs.declared.entries.Gap.{Gap}
use Rattle.monitor.specs.declared.entries.Gap.TheVariants as gap
use Rattle.verdict.specs.Numbers.{number_of}
use Rattle.verdict.specs.declared.verdicts.Verdict.{Verdict}
use Rattle.verdict.specs.declared.verdicts.Verdict.TheVariants as verdict
use Rattle.monitor.specs.declared.entries.Message.{Message}
use Rattle.monitor.specs.declared.entries.Entry.{Entry}
use Rattle.monitor.specs.declared.entries.Entry.TheVariants as entry
use Rattle.salvage.specs.declared.salvages.First.TheVariants as first
use Rattle.salvage.specs.declared.salvages.Run.{Run}
use Rattle.salvage.specs.declared.salvages.Totals.{Totals}
use Rattle.lines.specs.Sinks.{block_bytes}
use Rattle.lines.specs.Spells.{text_of, line_most, place_after_line, block_after_line, goes_out_before}
use Rattle.texts.specs.Entries.{bad_text, entry_text, line_of}
use Rattle.texts.specs.Logs.{log_end_text, log_refused_text}
use Rattle.texts.specs.Saves.{run_text, run_line, save_end_text}

-- ---- a text tells its entry

-- What each entry of a log has: numbers of 64 bits, words of 16, one of two buses.
abbrev pub Number : ℕ → Type 0
Number n = n < 2 ^ 64

abbrev pub Word : ℕ → Type 0
Word word = word < 2 ^ 16

abbrev pub CommandsFit : Commands → Type 0
CommandsFit (commands.One first) = Word first.0
CommandsFit (commands.Two first second) = Word first.0 × Word second.0

abbrev pub StatusesFit : Statuses → Type 0
StatusesFit statuses.None = Unit {0}
StatusesFit (statuses.One first) = Word first.0
StatusesFit (statuses.Two first second) = Word first.0 × Word second.0

abbrev pub GapFits : Option Gap → Type 0
GapFits None = Unit {0}
GapFits (Some (gap.Apart ticks)) = Number ticks.0
GapFits (Some (gap.Overlap ticks)) = Number ticks.0

abbrev pub OutcomeFits : Option Verdict → Type 0
OutcomeFits None = Unit {0}
OutcomeFits (Some verdict) = Number (number_of verdict)

pub record MessageFits (m : Message) : Type 0 where
  pub time : Number m.time.0
  pub bus : m.bus ≤ 1
  pub commands : CommandsFit m.commands
  pub statuses : StatusesFit m.statuses
  pub words : Number m.words
  pub records : Number m.records
  pub gap : GapFits m.gap
  pub outcome : OutcomeFits m.outcome

pub record SingleFits (r : WordRecord) : Type 0 where
  pub time : Number r.time.0
  pub bus : r.bus ≤ 1
  pub sync : Number r.sync
  pub faults : Number r.faults
  pub word : Word r.word
  pub parity : Number r.parity

abbrev pub Fits : Entry → Type 0
Fits (entry.Message m) = MessageFits m
Fits (entry.Single r) = SingleFits r

-- An entry has this of its records, which were read, and which are fewer than 2^64: entry_fits
abbrev pub EntryFits : Type 0
EntryFits =
    (first : WordRecord) (rest : List WordRecord) (until : Moment) → records.AllFit last_bus (first ∷ rest) → length (first ∷ rest) < 2 ^ 64
    → Fits (entry_of first rest until)

-- Two entries with one text are the same entry, with or without what `-v` adds: no line leaves out or blurs anything that an entry has: text_tells
abbrev pub TextTells : Type 0
TextTells = (added other : Bool) (e f : Entry) → Fits e → Fits f → entry_text added e ≡ entry_text other f → e ≡ f

-- The lines of entries, one behind the other.
abbrev pub lines_of : Bool → List Entry → List ℕ
lines_of added [] = []
lines_of added (e ∷ es) = line_of (entry_text added e) ++ lines_of added es

abbrev pub AllFit : List Entry → Type 0
AllFit [] = Unit {0}
AllFit (e ∷ es) = Fits e × AllFit es

-- So the lines tell which entries they list, and in which order: lines_tell
abbrev pub LinesTell : Type 0
LinesTell = (added other : Bool) (es fs : List Entry) → AllFit es → AllFit fs → lines_of added es ≡ lines_of other fs → es ≡ fs

-- ---- one line each

-- Each byte passes a test.
unfoldable pub are_all : (ℕ → Bool) → List ℕ → Bool
are_all test [] = true
are_all test (byte ∷ bytes) = test byte && are_all test bytes

-- A sign is not below a space, and not 7Fh.
abbrev pub is_sign : ℕ → Bool
is_sign byte = leb 32 byte && not (eqb byte 127)

abbrev pub is_plain : List ℕ → Bool
is_plain text = are_all is_sign text

-- Something holds of the text of every line of an entry, of a log's end and of a saving.
pub record EachText (Holds : List ℕ → Type 0) : Type 0 where
  pub entry : (added : Bool) (e : Entry) → Holds (entry_text added e)
  pub log_end : (entries records : ℕ) → Holds (log_end_text entries records)
  pub log_refused : (refusal place byte entries : ℕ) → Holds (log_refused_text refusal place byte entries)
  pub run : (run : Run) → Holds (run_text run)
  pub save_end : (totals : Totals) → Holds (save_end_text totals)

-- No such text holds a line end or any other control character: line_plain
abbrev pub LinePlain : Type 0
LinePlain = EachText (λ text. is_plain text ≡ true)

-- So a line has one line end, and that is its last byte: one_line_end
abbrev pub OneLineEnd : Type 0
OneLineEnd = EachText (λ text. (place : ℕ) → get_or (line_of text) place 0 ≡ 10 → place ≡ length text)

-- Each such line has room where room is asked once a line: line_short
abbrev pub LineShort : Type 0
LineShort = EachText (λ text. length (line_of text) ≤ line_most)

-- So what goes out, and then what waits, is what waited and then the line: no byte of a line is lost, none comes twice, all in order: each_line_kept
abbrev pub Kept : List ℕ → Type 0
Kept line =
    (block : List ℕ) (at : ℕ) → length block ≡ block_bytes
    → goes_out_before block at ++ take (place_after_line at line) (block_after_line block at line) ≡ take at block ++ line

pub record EachLineKept : Type 0 where
  pub line : EachText (λ text. Kept (line_of text))
  pub run : (run : Run) → Kept (run_line run)

-- ---- the lines that docs/LINES.md shows, each with what it says

abbrev pub in_time : Option Gap
in_time = Some (gap.Apart (record { 0 = 80 }))

abbrev pub good : Option Verdict
good = Some verdict.Good

abbrev pub to_one_entry : Entry
to_one_entry =
    entry.Message
    (record {
      bus = 0;
      time = record { 0 = 1000 };
      commands = commands.One (record { 0 = 0x2842 });
      statuses = statuses.One (record { 0 = 0x2800 });
      words = 2;
      records = 4;
      gap = in_time;
      outcome = good;
    })

abbrev pub between_two : Entry
between_two =
    entry.Message
    (record {
      bus = 1;
      time = record { 0 = 2000 };
      commands = commands.Two (record { 0 = 0x2842 }) (record { 0 = 0x2462 });
      statuses = statuses.Two (record { 0 = 0x2000 }) (record { 0 = 0x2800 });
      words = 2;
      records = 6;
      gap = in_time;
      outcome = good;
    })

abbrev pub outside : Entry
outside = entry.Single (record { time = record { 0 = 4000 }; bus = 1; sync = 1; faults = 2; word = 0x1234; parity = 0 })

abbrev pub impossible : Entry
impossible =
    entry.Message
    (record {
      bus = 0;
      time = record { 0 = 9000 };
      commands = commands.One (record { 0 = 0xFC42 });
      statuses = statuses.None;
      words = 0;
      records = 1;
      gap = None;
      outcome = None;
    })

-- Lines of the document, one of each kind of `busdump` and `bussave`: line_examples
pub record LineExamples : Type 0 where
  pub to_one : entry_text false to_one_entry ≡ text_of "1000 A msg cmd=2842 st=2800 data=2 rec=4 gap=80 verdict=0 good"
  pub two_between : entry_text false between_two ≡ text_of "2000 B msg cmd=2842,2462 st=2000,2800 data=2 rec=6 gap=80 verdict=0 good"
  pub outside : entry_text false outside ≡ text_of "4000 B one sync=1 faults=2 word=1234 parity=0"
  pub impossible : entry_text false impossible ≡ text_of "9000 A msg cmd=FC42 st=- data=0 rec=1 gap=- verdict=- none"
  pub log_end : log_end_text 4 12 ≡ text_of "# end entries=4 records=12"
  pub log_refused : log_refused_text 8 0 0 0 ≡ text_of "# refused 8 record=0 byte=0 entries=0"
  pub run : run_text (record { place = 113; length = 25 }) ≡ text_of "skip byte=113 length=25"
  pub save_end : (last : Option Run) → save_end_text (record { first = first.Kept; run = last; records = 26; skipped = 49; bytes = 466 }) ≡ text_of "# end first=kept records=26 skipped=49 bytes=466"

-- "`-v` adds the fields of the command words to each message: ..", ".. To each `one` it adds what is bad in its word": added_examples
pub record AddedExamples : Type 0 where
  pub to_one : entry_text true to_one_entry ≡ entry_text false to_one_entry ++ text_of " c1=rt5,receive,sa2,count2"
  pub two_between : entry_text true between_two ≡ entry_text false between_two ++ text_of " c1=rt5,receive,sa2,count2 c2=rt4,transmit,sa3,count2"
  pub outside : entry_text true outside ≡ entry_text false outside ++ text_of " bad=bits"
  pub impossible : entry_text true impossible ≡ entry_text false impossible ++ text_of " c1=all,transmit,sa2,count2"

-- "and ` bad=-` where the word is valid": there and nowhere else: valid_told
abbrev pub ValidTold : Type 0
ValidTold =
    (r : WordRecord) → in_range last_bus r ≡ true
    → (is_valid r.sync r.faults r.word r.parity ≡ true → bad_text r ≡ text_of " bad=-")
    × (bad_text r ≡ text_of " bad=-" → is_valid r.sync r.faults r.word r.parity ≡ true)
