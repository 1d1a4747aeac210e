-- The answer that a call carries: none, or that of a message which is due. Assumes nothing.
use mathlib.Core.Path.{◌≡◌, refl}
use Prim.Native.Nat.{◌+◌}
use mathlib.Core.Bool.{true, false}
use Rattle.words.specs.Words.{due_distance}
use Rattle.std.specs.Prelude.{Option, Some}
use Rattle.terminal.specs.Messages.{is_under_way, is_due}
use Rattle.terminal.specs.Settling.{is_withheld, no_answer, answer_of}
use Rattle.terminal.specs.Rules.{status_now, rule1_answer}
use Rattle.terminal.specs.Events.{time_of, happens_of, event_of}
use Rattle.terminal.specs.declared.states.Terminal.{Terminal as State}
use Rattle.terminal.specs.declared.answers.Answer.{Answer}
use Rattle.terminal.specs.declared.events.Happened.{Happened}
use Rattle.history.specs.Calls.{Call, set_up, event, host, clear_selftest, restart, is_accepted, answer_in}
use Rattle.history.proofs.Tests.{none≢, some_same, cond_cases}
use Rattle.history.proofs.Phases.{due_under_way}

-- the answer of the message under way, not withheld, due 260 after its last word, with the status as it is settled
pub record OfMessage (s : State) (a : Answer) : Type 0 where
  pub under_way : is_under_way s.message.phase ≡ true
  pub shown : is_withheld s ≡ false
  pub due : a.due.0 ≡ s.message.last.0 + due_distance
  pub status : a.status.0 ≡ status_now s

pub data Given (s : State) : Option Answer → Type 0 where
  none : Given s no_answer
  some : {a : Answer} → OfMessage s a → Given s (Some a)

pub answer_cases : (s : State) (k : Call) → Given s (answer_in s k)
unfolding event_of happens_of rule1_answer answer_of
answer_cases s (set_up address receive transmit) = none
answer_cases s (event e receive transmit) =
    cond_cases (λ (x : Happened). Given s x.answer) (is_accepted s e receive transmit)
    (λ ok.
    cond_cases (Given s) (is_due s.message (time_of e))
    (λ due.
    cond_cases (Given s) (is_withheld s) (λ withheld. none)
    (λ sent. some (record { under_way = due_under_way s.message (time_of e) due; shown = sent; due = refl; status = refl })))
    (λ not_due. none))
    (λ bad. none)
answer_cases s (host setting) = none
answer_cases s clear_selftest = none
answer_cases s restart = none

-- an answer that is given
pub given_message : (s : State) (k : Call) (a : Answer) → answer_in s k ≡ Some a → OfMessage s a
given_message s k a = go (answer_cases s k)
  where
    go : {o : Option Answer} → Given s o → o ≡ Some a → OfMessage s a
    go none given = none≢ given
    go (some of) given = rw (some_same _ _ given) at of
