-- A terminal with no message under way carries no answer until an own command comes. Assumes nothing.
use mathlib.Core.Path.{◌≡◌, refl, sym, ap, ◌∙◌}
use Prim.Native.Nat.{ℕ}
use mathlib.Core.Bool.{Bool, true, false}
use mathlib.Core.List.{List}
use Rattle.terminal.specs.States.{no_message}
use Rattle.terminal.specs.Messages.{is_under_way, is_whole, is_due}
use Rattle.terminal.specs.Settling.{no_answer}
use Rattle.terminal.specs.Events.{time_of, passed_of, event_of}
use Rattle.terminal.specs.declared.states.Message.{Message}
use Rattle.terminal.specs.declared.states.Terminal.{Terminal as State}
use Rattle.terminal.specs.declared.events.Event.{Event}
use Rattle.terminal.specs.declared.events.Happened.{Happened}
use Rattle.history.specs.Calls.{Call, set_up, event, host, clear_selftest, restart, is_accepted, step, run, answer_in, brings_own}
use Rattle.history.specs.Courses.{NoOwn}
use Rattle.history.proofs.Tests.{false≢}
use Rattle.history.proofs.Steps.{refused}
use Rattle.history.proofs.Running.{event_holds, run_holds}
use Rattle.history.proofs.Ways.{still_answer}

abbrev None : Message → Type 0
None m = m ≡ no_message

-- what is under way is not none
pub not_none : {X : Type 0} (m : Message) → is_under_way m.phase ≡ true → None m → X
not_none m under idle = false≢ (ap (λ (x : Message). is_under_way x.phase) (sym idle) ∙ under)

-- where rules 1 and 2 leave none, an event that brings no own command leaves none
pub event_idle : (s : State) (e : Event) (receive transmit : List ℕ) → is_accepted s e receive transmit ≡ true
    → brings_own s (event e receive transmit) ≡ false
    → (passed_of s (time_of e) transmit).message ≡ no_message
    → (step s (event e receive transmit)).message ≡ no_message
event_idle = event_holds None refl (λ r m. not_none m) (λ r m p between. not_none m)

-- calls that bring no own command begin no message
pub idle_run : (s : State) (ks : List Call) → s.message ≡ no_message → NoOwn s ks → (run s ks).message ≡ no_message
idle_run = run_holds None refl (λ r m. not_none m) (λ r m p between. not_none m)

-- and no call then carries an answer
pub idle_answer : (s : State) (k : Call) → s.message ≡ no_message → answer_in s k ≡ no_answer
idle_answer s (set_up address receive transmit) idle = refl
idle_answer s (event e receive transmit) idle = go (is_accepted s e receive transmit) refl
  where
    go : (b : Bool) → is_accepted s e receive transmit ≡ b → (event_of s e receive transmit).answer ≡ no_answer
    go true ok = still_answer s e receive transmit ok (ap (λ (m : Message). is_due m (time_of e)) idle ∙ (unfold is_due is_whole in refl))
    go false bad = ap (λ (h : Happened). h.answer) (refused s e receive transmit bad)
idle_answer s (host setting) idle = refl
idle_answer s clear_selftest idle = refl
idle_answer s restart idle = refl
