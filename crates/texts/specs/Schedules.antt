-- docs/LINES.md, "busplan FILE": its lines (02 j). Assumes nothing.
use Rattle.std.specs.Prelude.{ℕ, Bool, cond, List, ◌∷◌, ◌++◌, eqb}
use Rattle.schedule.specs.Messages.{load_of}
use Rattle.schedule.specs.declared.messages.Message.{Message}
use Rattle.lines.specs.Sinks.{word_text}
use Rattle.lines.specs.Spells.{text_of, number_text}
use Rattle.texts.specs.Entries.{added_text}
use Rattle.texts.specs.declared.schedules.Closing.{Closing}
use Rattle.texts.specs.declared.schedules.Closing.TheVariants.{Accepted, RejectedFrame, RejectedMessage, Refused, NoSchedule, BadLine}

-- "`message`: each message, counted from 0 in the order of the file, with its first frame and its load in ticks.": "message 0 first=3 load=920"
abbrev pub brief_text : ℕ → Message → ℕ → List ℕ
brief_text number m first =
    number_text (text_of "message ") number ++ (number_text (text_of " first=") first ++ number_text (text_of " load=") (load_of m))

-- One command word, or two with a byte between them.
unfoldable pub words_text : ℕ → Message → List ℕ
words_text between m =
    cond (eqb m.commands 1) (word_text m.first.0) (word_text m.first.0 ++ (between ∷ word_text m.second.0))

-- "`-v` adds its command words and its period to the line of each message: `.. cmd=2842 period=8`, of two words `cmd=2842,2462`."
abbrev pub planned_text : Message → List ℕ
planned_text m = text_of " cmd=" ++ (words_text 44 m ++ number_text (text_of " period=") m.period)

abbrev pub slot_text : Bool → ℕ → Message → ℕ → List ℕ
slot_text added number m first = brief_text number m first ++ added_text added (planned_text m)

-- "`frame`: all 64, each with the load of the messages in it and its capacity.": "frame 0 load=1420 capacity=20000"
abbrev pub frame_text : ℕ → ℕ → ℕ → List ℕ
frame_text number load capacity =
    number_text (text_of "frame ") number ++ (number_text (text_of " load=") load ++ number_text (text_of " capacity=") capacity)

-- "`# accepted`"; "`# rejected frame=F`"; "`# rejected message=K`"; "`# refused 15`"; "`# none`"; "`# error line=N`"
abbrev pub closing_text : Closing → List ℕ
closing_text Accepted = text_of "# accepted"
closing_text (RejectedFrame frame) = number_text (text_of "# rejected frame=") frame
closing_text (RejectedMessage message) = number_text (text_of "# rejected message=") message
closing_text (Refused number) = number_text (text_of "# refused ") number
closing_text NoSchedule = text_of "# none"
closing_text (BadLine line) = number_text (text_of "# error line=") line

-- The most bytes of the text that `-o` writes (plans' `plan_text`), with room to spare: 64 lines of capacities and 64 of messages.
abbrev pub plan_most : ℕ
plan_most = 8192
