-- Document 01, "The terminal": "Effects come after the answer is composed". Assumes nothing.
use Rattle.std.specs.Prelude.{ℕ, true, false, cond, ◌&&◌, eqb, get_or}
use Rattle.words.specs.Words.{code_of, is_mode}
use Rattle.terminal.specs.States.{fresh_held, with_status, with_sync_word, with_selftest, with_inhibit, with_shut}
use Rattle.terminal.specs.Commands.{is_legal}
use Rattle.terminal.specs.Settling.{other_bus}
use Rattle.terminal.specs.declared.states.Own.{Own}
use Rattle.terminal.specs.declared.states.Held.{Held}
use Rattle.terminal.specs.declared.states.Terminal.{Terminal as State}

-- "4 shuts the other bus, 5 opens it; 6 inhibits the terminal flag, 7 allows it again; 1 sets the sync word to 0, 17 to its data; 3 sets the
-- self-test request; 8 and restart give the fresh state, host flags and words kept." Departs from 002 2.4.7.7 and 2.4.7.8, which inhibit and
-- allow before the answer. (003 7.3.3.5.1.7)
unfoldable pub effect_of : Own → Held → ℕ → ℕ → ℕ → Held
effect_of own h code bus word =
    cond (eqb code 1) (with_sync_word h 0)
    (cond (eqb code 3) (with_selftest h true)
    (cond (eqb code 4) (with_shut h (other_bus bus) true)
    (cond (eqb code 5) (with_shut h (other_bus bus) false)
    (cond (eqb code 6) (with_inhibit h true)
    (cond (eqb code 7) (with_inhibit h false)
    (cond (eqb code 8) (fresh_held own)
    (cond (eqb code 17) (with_sync_word h word) h)))))))

-- What is held once a message is settled with that status: "effects still happen" where the answer is withheld; only a legal mode command has
-- its effect (DECISIONS 3).
unfoldable pub held_after : State → ℕ → Held
held_after s status =
    cond (is_legal s.setup s.message.command.0 && is_mode s.message.command.0)
    (effect_of s.setup.own (with_status s.held status) (code_of s.message.command.0) s.message.bus (get_or s.message.words 0 0))
    (with_status s.held status)
