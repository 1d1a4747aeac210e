-- Document 01, "The terminal": "Settling: ..", the answer and its sending. Assumes nothing.
use Rattle.std.specs.Prelude.{ℕ, ◌+◌, ◌*◌, Bool, false, not, cond, ◌&&◌, ◌||◌, List, eqb, get_or, set, drop, replicate, Option, Some, None}
use Rattle.std.proofs.Math.Seq.{paste}
use Rattle.words.specs.Words.{subaddress_of, code_of, words_of, is_transmit, is_mode, is_broadcast, with_flag, due_distance}
use Rattle.words.specs.declared.statuses.Flag.{Flag}
use Rattle.words.specs.declared.statuses.Flag.TheVariants.{MessageError, ServiceRequest, Busy, Subsystem, Terminal}
use Rattle.terminal.specs.States.{no_sending}
use Rattle.terminal.specs.Commands.{is_exempt, is_legal}
use Rattle.terminal.specs.declared.states.Held.{Held}
use Rattle.terminal.specs.declared.states.Sending.{Sending}
use Rattle.terminal.specs.declared.states.Terminal.{Terminal as State}
use Rattle.terminal.specs.declared.answers.Answer.{Answer}
use Rattle.terminal.specs.declared.answers.Reply.{Reply}

-- "the other bus"
unfoldable pub other_bus : ℕ → ℕ
other_bus bus = cond (eqb bus 0) 1 0

-- "a bus whose transmitter is shut down"
abbrev pub is_shut : Held → ℕ → Bool
is_shut h bus = get_or h.shut bus false

-- A status with a flag where it is on.
abbrev pub with_if : Bool → Flag → ℕ → ℕ
with_if on flag status = cond on (with_flag flag status) status

-- "Settling: the stored status gains the host flags (terminal flag only if not inhibited) and, for an illegal command, message error. The
-- exempt commands skip this." (003 7.3.3.5.4, 002 2.6.5)
unfoldable pub settled_status : State → ℕ → ℕ
settled_status s word =
    cond (is_exempt s.setup.own word) s.held.status.0
    (with_if (not (is_legal s.setup word)) MessageError
    (with_if (s.host.defect && not s.held.inhibit) Terminal
    (with_if s.host.subsystem Subsystem (with_if s.host.busy Busy (with_if s.host.service ServiceRequest s.held.status.0)))))

-- "word i of subaddress s at 32s + i"
abbrev pub first_place : ℕ → ℕ
first_place word = 32 * subaddress_of word

-- No data words; one; the words of the transmit table "from the first place of the subaddress".
abbrev pub no_words : Reply
no_words = record { count = 0; words = replicate 32 0 }

abbrev pub one_word : ℕ → Reply
one_word word = record { count = 1; words = set (replicate 32 0) 0 word }

abbrev pub table_words : List ℕ → ℕ → Reply
table_words transmit word =
    record { count = words_of word; words = paste (replicate 32 0) 0 (drop (first_place word) transmit) (words_of word) }

-- "Legal mode command: status, then for 16 the vector word, for 18 the last command, for 19 the BIT word. Busy does not change mode commands
-- but for the bit."
unfoldable pub mode_words : State → ℕ → Reply
mode_words s word =
    cond (eqb (code_of word) 16) (one_word s.host.vectorword)
    (cond (eqb (code_of word) 18) (one_word s.held.command.0) (cond (eqb (code_of word) 19) (one_word s.host.bitword) no_words))

-- "Legal transmit, no mode command: status and the words of the transmit table from the first place of the subaddress, status alone if
-- busy."
unfoldable pub legal_reply : State → ℕ → List ℕ → Reply
legal_reply s word transmit =
    cond (is_mode word) (mode_words s word) (cond (is_transmit word && not s.host.busy) (table_words transmit word) no_words)

-- "An illegal command is answered by status alone, data unused."
unfoldable pub reply_of : State → ℕ → List ℕ → Reply
reply_of s word transmit = cond (is_legal s.setup word) (legal_reply s word transmit) no_words

-- "Legal receive, no mode command: the awaited words go to the receive table from the first place of the subaddress, and each received word
-- is stored at its own place, unless busy."
unfoldable pub stores_data : State → ℕ → Bool
stores_data s word = is_legal s.setup word && not (is_mode word) && not (is_transmit word) && not s.host.busy

unfoldable pub stored_of : State → List ℕ → List ℕ
stored_of s receive =
    cond (stores_data s s.message.command.0)
    (paste receive (first_place s.message.command.0) s.message.words (words_of s.message.command.0))
    receive

-- "The answer (bus, due time, status, number of data words, words) is withheld for broadcast and for a bus whose transmitter is shut down"
-- (003 7.3.3.5.1.2, 7.3.3.5.1.7.5; 002 2.4.2, 2.4.7.5)
unfoldable pub is_withheld : State → Bool
is_withheld s = is_broadcast s.message.command.0 || is_shut s.held s.message.bus

abbrev pub no_answer : Option Answer
no_answer = None

unfoldable pub answer_of : State → ℕ → Reply → Option Answer
answer_of s status reply =
    cond (is_withheld s) no_answer
    (Some (record {
      bus = s.message.bus;
      due = record { 0 = s.message.last.0 + due_distance };
      status = record { 0 = status };
      count = reply.count;
      words = reply.words;
    }))

-- The sending of it, with that number of data words: "D + 200 times the words sent", the status word among them.
unfoldable pub sending_of : State → ℕ → Option Sending
sending_of s count =
    cond (is_withheld s) no_sending
    (Some (record { bus = s.message.bus; from = record { 0 = s.message.last.0 + due_distance }; words = count + 1 }))
