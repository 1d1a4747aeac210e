-- A file worked out, in which the premises of `terminal_receives` are met. "Address 5, all legal, fresh", as on the bench cards. Assumes nothing.
use Rattle.std.specs.Prelude.{◌≡◌, true, false, List, [], ◌∷◌, ◌++◌, Some, replicate}
use Rattle.words.specs.Words.{command_sync, data_sync}
use Rattle.records.specs.declared.forms.WordRecord.{WordRecord}
use Rattle.terminal.specs.Messages.{is_due}
use Rattle.terminal.specs.Settling.{is_withheld}
use Rattle.terminal.specs.Rules.{rule1_answer}
use Rattle.terminal.specs.Cards.{zeros}
use Rattle.terminal.specs.declared.states.Terminal.{Terminal as State}
use Rattle.terminal.specs.declared.events.Event.TheVariants.{Word}
use Rattle.history.specs.Calls.{Call}
use Rattle.history.specs.Witnesses.{hears, bench_after}
use Rattle.verdict.specs.declared.verdicts.Verdict.TheVariants.{Good}
use Rattle.terminal.specs.declared.answers.Answer.{Answer}
use Rattle.monitor.specs.Entries.{last_in}
use Rattle.monitor.specs.Logs.{groups_on, end_time, entries_on}
use Rattle.monitor.specs.Theorems.{on_bus}
use Rattle.agreement.specs.Agreement.{heard_at, answer_heard}
use Rattle.agreement.specs.Logged.{AskedBetween, takes, Closed, EntryIs}

-- On A a message to terminal 6, which answers it; a word on B.
unfoldable pub front : List WordRecord
front =
    heard_at 100 0 command_sync 0x3042
    ∷ heard_at 300 0 data_sync 0x0001
    ∷ heard_at 500 0 data_sync 0x0002
    ∷ heard_at 600 1 data_sync 0x0003
    ∷ heard_at 760 0 command_sync 0x3000
    ∷ []

-- Then two words from 6 to 5: "2842 at 1000", to subaddress 2; the second command directly behind it; the status of 6, a word on B before it; the words.
unfoldable pub first : WordRecord
first = heard_at 1000 0 command_sync 0x2842

unfoldable pub second : WordRecord
second = heard_at 1200 0 command_sync 0x3442

unfoldable pub noise : WordRecord
noise = heard_at 1300 1 data_sync 0x0004

unfoldable pub status : WordRecord
status = heard_at 1460 0 command_sync 0x3000

unfoldable pub words : List WordRecord
words = heard_at 1660 0 data_sync 0x0007 ∷ heard_at 1860 0 data_sync 0x0009 ∷ []

-- The status of 5 at 2120, and the next command on A 220 ticks after it.
unfoldable pub answer : WordRecord
answer = heard_at 2120 0 command_sync 0x2800

unfoldable pub next : WordRecord
next = heard_at 2340 0 command_sync 0x2C42

unfoldable pub after : List WordRecord
after = second ∷ noise ∷ status ∷ (words ++ (answer ∷ next ∷ []))

-- the terminal, to which all of it has come up to the last data word
unfoldable pub heard_by : List WordRecord → List Call
heard_by [] = []
heard_by (r ∷ rs) = hears (Word r) ∷ heard_by rs

unfoldable pub past : List Call
past = heard_by (front ++ (first ∷ second ∷ noise ∷ status ∷ words))

unfoldable pub terminal : State
terminal = bench_after past

-- its answer, a status alone
unfoldable pub reply : Answer
reply = record { due = record { 0 = 2120 }; words = replicate 32 0; status = record { 0 = 0x2800 }; count = 0; bus = 0 }

-- Every premise is met: met
pub record Met : Type 0 where
  pub due : is_due terminal.message 2120 ≡ true
  pub shown : is_withheld terminal ≡ false
  pub given : rule1_answer terminal 2120 zeros ≡ Some reply
  pub asked : AskedBetween terminal first second status words
  pub begins : takes (groups_on 0 front) first ≡ false
  pub records : on_bus 0 after ≡ (second ∷ status ∷ (words ++ answer_heard reply)) ++ (next ∷ [])
  pub closed : Closed (last_in first (second ∷ status ∷ (words ++ answer_heard reply))).time.0
      (end_time (record { 0 = 0 }) (front ++ (first ∷ after))) (next ∷ [])

-- and the entry at place 5 of the file is the message, of six records, judged good: worked
abbrev pub Worked : Type 0
Worked = EntryIs (entries_on 0 (front ++ (first ∷ after))) 5 6 Good
