-- Answers of messages begun later are due later. Assumes nothing.
use mathlib.Core.Path.{◌≡◌, refl}
use Prim.Native.Nat.{ℕ, ◌+◌, ◌≤◌}
use mathlib.Core.Bool.{Bool, true, false}
use mathlib.Core.List.{List, [], ◌∷◌}
use native.Mathlib.Omega.{arith}
use Rattle.words.specs.Words.{due_distance}
use Rattle.records.specs.declared.forms.WordRecord.{WordRecord}
use Rattle.terminal.specs.States.{no_message}
use Rattle.terminal.specs.Messages.{is_under_way}
use Rattle.terminal.specs.Rules.{begun_of, staged_of, moved_of, rules3to6}
use Rattle.terminal.specs.Events.{time_of, passed_of, taken_of}
use Rattle.terminal.specs.declared.states.Message.{Message}
use Rattle.terminal.specs.declared.states.Terminal.{Terminal as State}
use Rattle.terminal.specs.declared.events.Event.{Event}
use Rattle.terminal.specs.declared.events.Event.TheVariants.{Mark, Word}
use Rattle.history.specs.Calls.{Call, set_up, event, host, clear_selftest, restart, is_accepted, step, run, answer_in, sets_up}
use Rattle.history.specs.Courses.{NoSetUp}
use Rattle.history.proofs.Tests.{false≢}
use Rattle.history.proofs.Steps.{stepped, refused_stays, not_earlier}
use Rattle.history.proofs.Passing.{passed_message}
use Rattle.history.proofs.Moving.{rules_hold}
use Rattle.history.proofs.Givens.{given_message}
use Rattle.history.proofs.Times.{event_time}
use Rattle.std.specs.Prelude.{Some}
use Rattle.terminal.specs.declared.answers.Answer.{Answer}

-- a message that is under way has its last word at or after t
abbrev Recent : ℕ → Message → Type 0
Recent t m = is_under_way m.phase ≡ true → t ≤ m.last.0

-- so has the terminal its last event
pub record Since (t : ℕ) (s : State) : Type 0 where
  pub time : t ≤ s.time.0
  pub message : Recent t s.message

none_recent : (t : ℕ) → Recent t no_message
none_recent t h = false≢ h

-- a record that is not earlier than t leaves what is recent
rules_recent : (t : ℕ) (r : WordRecord) → t ≤ r.time.0 → (s : State) → Recent t s.message → Recent t (rules3to6 s r).message
unfolding staged_of moved_of begun_of
rules_recent t r then s h = rules_hold (Recent t) (none_recent t) r (λ m under before on. then) (λ m p between under before on. then) s h (λ own on. then)

-- an accepted event at or after t leaves what is recent
pub event_since : (t : ℕ) (s : State) (e : Event) (receive transmit : List ℕ) → is_accepted s e receive transmit ≡ true → t ≤ time_of e
    → Recent t (passed_of s (time_of e) transmit).message
    → Since t (step s (event e receive transmit))
event_since t s e receive transmit ok then h =
    record {
      time = rw (event_time s e receive transmit ok) then;
      message = rw (stepped s e receive transmit ok) (go e then h);
    }
  where
    go : (e : Event) → t ≤ time_of e → Recent t (passed_of s (time_of e) transmit).message → Recent t (taken_of (passed_of s (time_of e) transmit) e).message
    go (Mark m) then h = h
    go (Word r) then h = rules_recent t r then (passed_of s r.time.0 transmit) h

-- ---- any calls but an accepted set-up
call_since : (t : ℕ) (s : State) (k : Call) → Since t s → sets_up k ≡ false → Since t (step s k)
unfolding step
call_since t s (set_up address receive transmit) h none = rw none h
call_since t s (event e receive transmit) h none = go (is_accepted s e receive transmit) refl
  where
    go : (b : Bool) → is_accepted s e receive transmit ≡ b → Since t (step s (event e receive transmit))
    go true ok =
        event_since t s e receive transmit ok (omega (arith, not_earlier s e receive transmit ok, h.time))
        (passed_message (Recent t) (none_recent t) s (time_of e) transmit h.message)
    go false bad = rw (refused_stays s e receive transmit bad) h
call_since t s (host setting) h none = record { time = h.time; message = h.message }
call_since t s clear_selftest h none = record { time = h.time; message = h.message }
call_since t s restart h none = record { time = h.time; message = none_recent t }

run_since : (t : ℕ) (s : State) (ks : List Call) → Since t s → NoSetUp s ks → Since t (run s ks)
unfolding run
run_since t s [] h none = h
run_since t s (k ∷ ks) h none = run_since t (step s k) ks (call_since t s k h none.0) none.1

-- ---- the answers

-- one that is given is due 260 after the last word of its message
answer_later : (t : ℕ) (s : State) (k : Call) → Since t s → (a : Answer) → answer_in s k ≡ Some a → t + due_distance ≤ a.due.0
answer_later t s k h a given =
    let of = given_message s k a given in
    omega (arith, h.message of.under_way, of.due)

pub answers_later : (t : ℕ) (s : State) (ks : List Call) (k : Call) → Since t s → NoSetUp s ks → (a : Answer) → answer_in (run s ks) k ≡ Some a
    → t + due_distance ≤ a.due.0
answers_later t s ks k h none = answer_later t (run s ks) k (run_since t s ks h none)
