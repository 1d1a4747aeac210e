-- What any calls without an own command leave true of the message under way. Assumes nothing.
use mathlib.Core.Path.{◌≡◌, refl, sym, ◌∙◌}
use Prim.Native.Nat.{ℕ}
use mathlib.Core.Bool.{Bool, true, false}
use mathlib.Core.List.{List, [], ◌∷◌}
use Rattle.records.specs.declared.forms.WordRecord.{WordRecord}
use Rattle.terminal.specs.States.{no_message}
use Rattle.terminal.specs.Commands.{is_own}
use Rattle.terminal.specs.Messages.{is_under_way, is_between}
use Rattle.terminal.specs.Rules.{staged_of, moved_of}
use Rattle.terminal.specs.Events.{terminal_of, time_of, set_up_of, passed_of, taken_of}
use Rattle.terminal.specs.declared.states.Phase.{Phase}
use Rattle.terminal.specs.declared.states.Message.{Message}
use Rattle.terminal.specs.declared.states.Terminal.{Terminal as State}
use Rattle.terminal.specs.declared.events.Event.{Event}
use Rattle.terminal.specs.declared.events.Event.TheVariants.{Mark, Word}
use Rattle.history.specs.Calls.{Call, set_up, event, host, clear_selftest, restart, is_accepted, is_set_up, step, run, brings_own}
use Rattle.history.specs.Courses.{NoOwn}
use Rattle.history.proofs.Tests.{true≢, cond_cases}
use Rattle.history.proofs.Steps.{stepped, refused_stays, set_up_either}
use Rattle.history.proofs.Passing.{passed_own, passed_message}
use Rattle.history.proofs.Moving.{asking_under_way, rules_hold}

-- a terminal that a set-up gives has no message
pub set_up_idle : (address : ℕ) (receive transmit : List ℕ) → (terminal_of (set_up_of address receive transmit)).message ≡ no_message
set_up_idle address receive transmit =
    set_up_either address receive transmit (λ (x : State). x.message ≡ no_message) (λ set. refl) (λ bad. refl)

module _ (P : Message → Type 0) (none : P no_message)
    (staged : (r : WordRecord) (m : Message) → is_under_way m.phase ≡ true → P m → P (staged_of m r))
    (moved : (r : WordRecord) (m : Message) (p : Phase) → is_between p ≡ true → is_under_way m.phase ≡ true → P m → P (moved_of m p r)) where
  -- an event, of what rules 1 and 2 leave
  pub event_holds : (s : State) (e : Event) (receive transmit : List ℕ) → is_accepted s e receive transmit ≡ true
      → brings_own s (event e receive transmit) ≡ false
      → P (passed_of s (time_of e) transmit).message
      → P (step s (event e receive transmit)).message
  event_holds s e receive transmit ok foreign h = rw (stepped s e receive transmit ok) (go e ok foreign h)
    where
      go : (e : Event) → is_accepted s e receive transmit ≡ true → brings_own s (event e receive transmit) ≡ false
          → P (passed_of s (time_of e) transmit).message
          → P (taken_of (passed_of s (time_of e) transmit) e).message
      go (Mark t) ok foreign h = h
      go (Word r) ok foreign h =
          let not_own : is_own s.setup.own r ≡ false = rw ok at foreign in
          rules_hold P none r (staged r) (λ m p between asking. moved r m p between (asking_under_way m.phase asking)) (passed_of s r.time.0 transmit) h
          (λ own. true≢ (sym own ∙ passed_own s r.time.0 transmit r ∙ not_own))

  -- a call
  call_holds : (s : State) (k : Call) → P s.message → brings_own s k ≡ false → P (step s k).message
  unfolding step
  call_holds s (set_up address receive transmit) h foreign =
      cond_cases (λ (x : State). P x.message) (is_set_up address receive transmit) (λ set. rw (set_up_idle address receive transmit) none) (λ bad. h)
  call_holds s (event e receive transmit) h foreign = go (is_accepted s e receive transmit) refl
    where
      go : (b : Bool) → is_accepted s e receive transmit ≡ b → P (step s (event e receive transmit)).message
      go true ok = event_holds s e receive transmit ok foreign (passed_message P none s (time_of e) transmit h)
      go false bad = rw (refused_stays s e receive transmit bad) h
  call_holds s (host setting) h foreign = h
  call_holds s clear_selftest h foreign = h
  call_holds s restart h foreign = none

  -- any calls
  pub run_holds : (s : State) (ks : List Call) → P s.message → NoOwn s ks → P (run s ks).message
  unfolding run
  run_holds s [] h foreign = h
  run_holds s (k ∷ ks) h foreign = run_holds (step s k) ks (call_holds s k h foreign.0) foreign.1
