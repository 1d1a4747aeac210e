-- Bounds of counts and of due times. Assumes nothing.
use mathlib.Core.Path.{◌≡◌}
use mathlib.Core.Bool.{Bool, true, false, not, cond, ◌&&◌}
use mathlib.Core.List.{List}
use Prim.Native.Nat.{ℕ, ◌+◌, ◌≤◌, ◌<◌}
use native.Mathlib.Omega.{arith}
use lib.Dec.{eqb, leb, ltb}
use borrow.Author.Tests.{ltb-true, leb-true}
use Rattle.words.proofs.Counts.{words_most}
use Rattle.words.proofs.Truth.{cond_most}
use Rattle.std.proofs.lemmas.Bool.{and_parts}
use Rattle.words.specs.Words.{code_of, words_of, is_transmit, is_mode, awaited_of}
use Rattle.terminal.specs.Commands.{is_legal}
use Rattle.terminal.specs.Messages.{is_counting, awaits_data, is_whole, is_due}
use Rattle.terminal.specs.Settling.{no_words, one_word, table_words, mode_words, legal_reply, reply_of}
use Rattle.terminal.specs.declared.states.Message.{Message}
use Rattle.terminal.specs.declared.states.Terminal.{Terminal as State}
use Rattle.terminal.specs.declared.answers.Reply.{Reply}

pub awaited_most : (word : ℕ) → awaited_of word ≤ 32
unfolding awaited_of
awaited_most word =
    cond_most 32 (is_transmit word) 0 (cond (is_mode word) (cond (leb 16 (code_of word)) 1 0) (words_of word)) (omega arith)
    (cond_most 32 (is_mode word) (cond (leb 16 (code_of word)) 1 0) (words_of word)
    (cond_most 32 (leb 16 (code_of word)) 1 0 (omega arith) (omega arith))
    (words_most word))

-- a message that awaits a data word has fewer than 32
pub awaits_few : (m : Message) → awaits_data m ≡ true → m.got < 32
unfolding awaits_data
awaits_few m h =
    let parts = and_parts (is_counting m.phase) (ltb m.got (awaited_of m.command.0)) h in
    omega (arith, ltb-true m.got (awaited_of m.command.0) parts.1, awaited_most m.command.0)

-- a reply has at most 32 words
either_count : (b : Bool) (x y : Reply) → x.count ≤ 32 → y.count ≤ 32 → (cond b x y).count ≤ 32
either_count true x y p q = p
either_count false x y p q = q

pub reply_most : (s : State) (word : ℕ) (transmit : List ℕ) → (reply_of s word transmit).count ≤ 32
unfolding reply_of legal_reply mode_words
reply_most s word transmit =
    either_count (is_legal s.setup word) _ no_words
    (either_count (is_mode word) _ _
    (either_count (eqb (code_of word) 16) (one_word s.host.vectorword) _ (omega arith)
    (either_count (eqb (code_of word) 18) (one_word s.held.command.0) _ (omega arith)
    (either_count (eqb (code_of word) 19) (one_word s.host.bitword) no_words (omega arith) (omega arith))))
    (either_count (is_transmit word && not s.host.busy) (table_words transmit word) no_words (words_most word) (omega arith)))
    (omega arith)

-- the due time of a message that is due is at most the time
pub due_most : (m : Message) (t : ℕ) → is_due m t ≡ true → m.last.0 + 260 ≤ t
unfolding is_due
due_most m t h = leb-true (m.last.0 + 260) t (and_parts (is_whole m) (leb (m.last.0 + 260) t) h).1
