-- The terminal in a monitor's log (02 a): wherever in a file a command with its data words and the answer of the terminal stands, it is one entry. Its
-- verdict is that of the status, 0, 8 or 9, where the command is legal, and 8 where the terminal holds it illegal. Proved in proofs/ under the name above it.
-- Assumes nothing.
use Rattle.std.specs.Prelude.{◌≡◌, ℕ, ◌+◌, ◌≤◌, ◌<◌, Bool, true, false, List, [], ◌∷◌, ◌++◌, length, Some}
use Rattle.words.specs.Words.{awaited_of, no_response_distance}
use Rattle.words.specs.declared.times.Moment.{Moment}
use Rattle.records.specs.declared.forms.WordRecord.{WordRecord}
use Rattle.terminal.specs.Commands.{is_legal}
use Rattle.terminal.specs.Messages.{is_due}
use Rattle.terminal.specs.Settling.{is_withheld}
use Rattle.terminal.specs.declared.states.Terminal.{Terminal as State}
use Rattle.history.specs.Calls.{Past, after_past}
use Rattle.history.specs.States.{Sound}
use Rattle.verdict.specs.Plans.{is_single, is_unjudged}
use Rattle.verdict.specs.declared.verdicts.Verdict.{Verdict}
use Rattle.verdict.specs.declared.verdicts.Verdict.TheVariants as verdict
use Rattle.verdict.specs.Facts.{listened_least}
use Rattle.monitor.specs.Entries.{is_command, is_second, last_in, outcome_in}
use Rattle.monitor.specs.Logs.{Group, part_in, belongs, groups_on, end_time, entries_on}
use Rattle.monitor.specs.Theorems.{on_bus}
use Rattle.monitor.specs.declared.entries.Logged.{Logged}
use Rattle.monitor.specs.declared.entries.Message.{Message}
use Rattle.monitor.specs.declared.entries.Entry.TheVariants as entry
use Rattle.terminal.specs.declared.answers.Answer.{Answer}
use Rattle.agreement.specs.Agreement.{answer_heard, BackToBack, shown_by, Given, Sent}

-- ---- the records of the message

-- The command of the terminal's message with its data words, as they are heard: as many as are awaited behind it, the last word of all at the time that the
-- message holds. So it is a message of one command: between terminals a second command comes directly behind the first, and no data word does.
pub record Asked (s : State) (c : WordRecord) (ds : List WordRecord) : Type 0 where
  pub command : is_command c ≡ true
  pub word : c.word ≡ s.message.command.0
  pub bus : c.bus ≡ s.message.bus
  pub awaited : length ds ≡ awaited_of c.word
  pub spaced : BackToBack s.message.bus c.time.0 ds
  pub last : (last_in c ds).time ≡ s.message.last

-- Between terminals: the command of the terminal's message, the second directly behind it, and the transmitter's part.
pub record AskedBetween (s : State) (c second status : WordRecord) (ds : List WordRecord) : Type 0 where
  pub command : is_command c ≡ true
  pub word : c.word ≡ s.message.command.0
  pub bus : c.bus ≡ s.message.bus
  pub directly : is_second c second ≡ true
  pub sent : Sent s second status ds

-- ---- where it stands in a file

-- the last of some entries takes a record more: the one that they leave open
abbrev pub takes : List Group → WordRecord → Bool
takes [] r = false
takes (g ∷ []) r = belongs (part_in g.first g.rest r)
takes (g ∷ h ∷ gs) r = takes (h ∷ gs) r

-- It takes none where no record of the bus comes before, or the last of them more than 320 ticks before. And it takes no command where it is a message that
-- is judged good, up to any Q: so it is in a course of good messages: begins_an_entry
pub record BeginsAnEntry : Type 0 where
  pub first : (bus : ℕ) (front : List WordRecord) (r : WordRecord) → on_bus bus front ≡ [] → takes (groups_on bus front) r ≡ false
  pub far : (bus : ℕ) (front before : List WordRecord) (last r : WordRecord) → on_bus bus front ≡ before ++ (last ∷ [])
      → last.time.0 + no_response_distance < r.time.0
      → takes (groups_on bus front) r ≡ false
  pub good : (bus : ℕ) (front : List WordRecord) (before : List Group) (g : Group) (r : WordRecord) → groups_on bus front ≡ before ++ (g ∷ [])
      → (until : Moment) → outcome_in g.first g.rest until ≡ Some verdict.Good
      → is_command r ≡ true
      → takes (groups_on bus front) r ≡ false

-- What comes behind a message on its bus, whose last word had that time, so that it is closed and was listened to long enough: a command, or a record more
-- than 320 ticks after it; or nothing, up to the file's last record.
pub data Closed (last : ℕ) (end : Moment) : List WordRecord → Type 0 where
  by_command : (r : WordRecord) (rs : List WordRecord) → is_command r ≡ true → last + listened_least ≤ r.time.0 → Closed last end (r ∷ rs)
  by_far : (r : WordRecord) (rs : List WordRecord) → last + no_response_distance < r.time.0 → Closed last end (r ∷ rs)
  at_end : last + listened_least ≤ end.0 → Closed last end []

-- ---- the statement

-- An entry of a log is a message that begins at that place of the file, of so many records, with that verdict.
pub record EntryIs (log : List Logged) (place records : ℕ) (given : Verdict) : Type 0 where
  pub message : Message
  pub before : List Logged
  pub behind : List Logged
  pub entries : log ≡ before ++ (record { place = place; entry = entry.Message message } ∷ behind)
  pub number : message.records ≡ records
  pub judged : message.outcome ≡ Some given

-- Anywhere in a file, among any records of the other bus: the records before the command leave no entry open that takes it; those behind it are, on its bus,
-- the rest of the message and what closes it. Then an entry of that bus is the message and no more, at the command's place, with that verdict.
abbrev pub LoggedAs : ℕ → WordRecord → List WordRecord → Verdict → Type 0
LoggedAs bus c rest given =
    (front after behind : List WordRecord)
    → takes (groups_on bus front) c ≡ false
    → on_bus bus after ≡ rest ++ behind
    → Closed (last_in c rest).time.0 (end_time (record { 0 = 0 }) (front ++ (c ∷ after))) behind
    → EntryIs (entries_on bus (front ++ (c ∷ after))) (length front) (length (c ∷ rest)) given

-- as in `AgreesFrom`: a message is due, its command legal, its answer not withheld, the transmit table of 1,024 words
abbrev pub TerminalIsGoodFrom : State → Type 0
TerminalIsGoodFrom s =
    (t : ℕ) (transmit : List ℕ) → length transmit ≡ 1024
    → is_due s.message t ≡ true
    → is_legal s.setup s.message.command.0 ≡ true
    → is_withheld s ≡ false
    → Given s t transmit (λ (a : Answer).
    (c : WordRecord) (ds : List WordRecord) → Asked s c ds
    → LoggedAs s.message.bus c (ds ++ answer_heard a) (shown_by s a))

-- terminal_is_good: of every sound terminal
abbrev pub TerminalIsGood : Type 0
TerminalIsGood = (s : State) → Sound s → TerminalIsGoodFrom s

-- terminal_is_good_after_any_past
abbrev pub TerminalIsGoodAfterAnyPast : Type 0
TerminalIsGoodAfterAnyPast = (past : Past) → TerminalIsGoodFrom (after_past past)

-- ---- an illegal command

-- as in `AgreesIllegal`: a command that a plan may have, that the terminal holds illegal, neither 2 nor 18 of the mode codes
abbrev pub TerminalIsErrorFrom : State → Type 0
TerminalIsErrorFrom s =
    (t : ℕ) (transmit : List ℕ)
    → is_due s.message t ≡ true
    → is_single s.message.command.0 ≡ true
    → is_legal s.setup s.message.command.0 ≡ false
    → is_unjudged s.message.command.0 ≡ false
    → is_withheld s ≡ false
    → Given s t transmit (λ (a : Answer).
    (c : WordRecord) (ds : List WordRecord) → Asked s c ds
    → LoggedAs s.message.bus c (ds ++ answer_heard a) verdict.MessageError)

-- terminal_is_error: of every sound terminal
abbrev pub TerminalIsError : Type 0
TerminalIsError = (s : State) → Sound s → TerminalIsErrorFrom s

-- terminal_is_error_after_any_past
abbrev pub TerminalIsErrorAfterAnyPast : Type 0
TerminalIsErrorAfterAnyPast = (past : Past) → TerminalIsErrorFrom (after_past past)

-- ---- between terminals

-- as in `AgreesBetweenFrom`: the terminal receives, and its answer is not withheld; the entry has all these records, and the verdict is that of the
-- terminal's status, whether the command is legal or not
abbrev pub TerminalReceivesFrom : State → Type 0
TerminalReceivesFrom s =
    (t : ℕ) (transmit : List ℕ)
    → is_due s.message t ≡ true
    → is_withheld s ≡ false
    → Given s t transmit (λ (a : Answer).
    (c second status : WordRecord) (ds : List WordRecord) → AskedBetween s c second status ds
    → LoggedAs s.message.bus c (second ∷ status ∷ (ds ++ answer_heard a)) (shown_by s a))

-- terminal_receives: of every sound terminal
abbrev pub TerminalReceives : Type 0
TerminalReceives = (s : State) → Sound s → TerminalReceivesFrom s

-- terminal_receives_after_any_past
abbrev pub TerminalReceivesAfterAnyPast : Type 0
TerminalReceivesAfterAnyPast = (past : Past) → TerminalReceivesFrom (after_past past)
