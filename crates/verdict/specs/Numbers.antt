-- Document 01, "Controller verdicts", and 02 i: the numbers of verdicts. Assumes nothing.
use Rattle.std.specs.Prelude.{ℕ, Option, Some, None}
use Rattle.verdict.specs.declared.verdicts.Verdict.{Verdict}
use Rattle.verdict.specs.declared.verdicts.Verdict.TheVariants.{Good, NoResponse, Waiting, Early, Late, NotValid, WrongSync, WrongAddress, MessageError, Busy, Separated, LeftOver, Overlapping, Unnamed}

-- "0 good"
abbrev pub good : ℕ
good = 0

-- "1 no response"
abbrev pub no_response : ℕ
no_response = 1

-- "2 still waiting"
abbrev pub waiting : ℕ
waiting = 2

-- "Gap below 40: 3 early."
abbrev pub early : ℕ
early = 3

-- "Above 120: 4 late."
abbrev pub late : ℕ
late = 4

-- "Not valid, sync 2 included: 5."
abbrev pub not_valid : ℕ
not_valid = 5

-- "Data sync: 6.", of data words "Command sync: 6."
abbrev pub wrong_sync : ℕ
wrong_sync = 6

-- "Wrong address: 7."
abbrev pub wrong_address : ℕ
wrong_address = 7

-- "Message error: 8."
abbrev pub message_error : ℕ
message_error = 8

-- "Busy: 9."
abbrev pub busy : ℕ
busy = 9

-- "not 195 to 205 after the last word, or missing ..: 10", narrowed to "10 separated or missing" (02 i)
abbrev pub separated : ℕ
separated = 10

-- "A record left over: 11."
abbrev pub left_over : ℕ
left_over = 11

-- "12 overlapping" (02 i)
abbrev pub overlapping : ℕ
overlapping = 12

-- "the report counts verdicts 0 to 12" (02 i): the last number; whatever goes over all verdicts cites it
abbrev pub last_verdict : ℕ
last_verdict = 12

-- the number of a verdict; of one to which no document gives a name, the number that was handed in
abbrev pub number_of : Verdict → ℕ
number_of Good = good
number_of NoResponse = no_response
number_of Waiting = waiting
number_of Early = early
number_of Late = late
number_of NotValid = not_valid
number_of WrongSync = wrong_sync
number_of WrongAddress = wrong_address
number_of MessageError = message_error
number_of Busy = busy
number_of Separated = separated
number_of LeftOver = left_over
number_of Overlapping = overlapping
number_of (Unnamed number) = number

-- the number of a fact: 0 where none is found
abbrev pub fact_number : Option Verdict → ℕ
fact_number None = good
fact_number (Some verdict) = number_of verdict
