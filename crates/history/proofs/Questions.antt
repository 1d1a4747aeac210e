-- What the host is told when it asks for the next moment is what the message has: the terminal sets it with the message, or leaves both. Assumes nothing.
use mathlib.Core.Path.{◌≡◌, refl, sym, ap, ◌∙◌}
use Prim.Native.Nat.{ℕ}
use mathlib.Core.Bool.{Bool, true, false, ◌&&◌}
use mathlib.Core.List.{List, [], ◌∷◌}
use mathlib.Core.Logic.{◌⊎◌, inl, inr}
use Rattle.records.specs.declared.forms.WordRecord.{WordRecord}
use Rattle.terminal.specs.States.{fresh_of, with_message, moment_in}
use Rattle.terminal.specs.Commands.{is_own}
use Rattle.terminal.specs.Messages.{is_on, awaits_data, is_due, is_over, is_next_data, is_second, is_status_from, next_moment_of}
use Rattle.terminal.specs.Rules.{settled_of, rule1, faulty_of, rule2, rule3, rule4, next_data, next_word, rule5, rules3to6}
use Rattle.terminal.specs.Events.{terminal_of, time_of, set_up_of, passed_of, taken_of}
use Rattle.terminal.specs.declared.states.SpacingFault.{SpacingFault}
use Rattle.terminal.specs.declared.states.Phase.{Phase}
use Rattle.terminal.specs.declared.states.Phase.TheVariants.{Idle, First, Pledged, Confirmed, Data}
use Rattle.terminal.specs.declared.states.Message.{Message}
use Rattle.terminal.specs.declared.states.Setup.{Setup}
use Rattle.terminal.specs.declared.states.Terminal.{Terminal as State}
use Rattle.terminal.specs.declared.events.Event.{Event}
use Rattle.terminal.specs.declared.events.Event.TheVariants.{Mark, Word}
use Rattle.terminal.proofs.Moments.{none_never}
use Rattle.history.specs.Calls.{Call, set_up, event, host, clear_selftest, restart, is_accepted, is_set_up, step, run, after_past}
use Rattle.history.specs.Demands.{KeepsMoment, KeptMoment, KeptFromFresh, LeavesMoment, is_leaving, SetOrLeft, MomentExactlyAfterAnyPast}
use Rattle.history.proofs.Tests.{false≢, cond_cases}
use Rattle.history.proofs.Steps.{stepped, refused_stays, refusal_keeps, set_up_either}
use Rattle.history.proofs.Begun.{own_step}
use Rattle.history.proofs.Moments.{moment_exactly}
use Rattle.std.specs.Prelude.{Option}

-- ---- what is set with a message is its next moment

with_keeps : (s : State) (m : Message) → KeepsMoment (with_message s m)
unfolding moment_in
with_keeps s m = refl

fresh_keeps : (setup : Setup) → KeepsMoment (fresh_of setup)
unfolding moment_in
fresh_keeps setup = sym none_never

set_up_keeps : (address : ℕ) (receive transmit : List ℕ) → KeepsMoment (terminal_of (set_up_of address receive transmit))
set_up_keeps address receive transmit =
    set_up_either address receive transmit KeepsMoment (λ set. fresh_keeps _) (λ bad. fresh_keeps _)

-- ---- set or left, by the rules in their order

abbrev Either : State → State → Type 0
Either s x = LeavesMoment s x ⊎ KeepsMoment x

left_keeps : (s x : State) → LeavesMoment s x → KeepsMoment s → KeepsMoment x
left_keeps s x left keeps = left.1 ∙ keeps ∙ sym (ap next_moment_of left.0)

either_keeps : (s x : State) → Either s x → KeepsMoment s → KeepsMoment x
either_keeps s x (inl left) keeps = left_keeps s x left keeps
either_keeps s x (inr set) keeps = set

then : (s x y : State) → Either s x → Either x y → Either s y
then s x y first (inr set) = inr set
then s x y (inl left) (inl more) = inl (more.0 ∙ left.0, more.1 ∙ left.1)
then s x y (inr set) (inl more) = inr (left_keeps x y more set)

same : (s : State) → Either s s
same s = inl (refl, refl)

faulty_keeps : (s : State) (kind : Option SpacingFault) → KeepsMoment (faulty_of s kind)
unfolding faulty_of moment_in
faulty_keeps s kind = refl

rule1_either : (s : State) (t : ℕ) (transmit : List ℕ) → Either s (rule1 s t transmit)
unfolding rule1 settled_of moment_in
rule1_either s t transmit = cond_cases (Either s) (is_due s.message t) (λ due. inr (refl)) (λ not. same s)

rule2_either : (s : State) (t : ℕ) → Either s (rule2 s t)
unfolding rule2
rule2_either s t = cond_cases (Either s) (is_over s.message t) (λ over. inr (faulty_keeps s _)) (λ not. same s)

passed_either : (s : State) (t : ℕ) (transmit : List ℕ) → Either s (passed_of s t transmit)
unfolding passed_of moment_in
passed_either s t transmit = then s (rule1 s t transmit) (rule2 (rule1 s t transmit) t) (rule1_either s t transmit) (rule2_either (rule1 s t transmit) t)

rule4_keeps : (s : State) (r : WordRecord) → KeepsMoment (rule4 s r)
unfolding rule4 moment_in
rule4_keeps s r = refl

module _ (s : State) (r : WordRecord) where
  data_either : Either s (next_data s r)
  unfolding next_data
  data_either =
      cond_cases (Either s) (awaits_data s.message && is_next_data s.message r) (λ next. inr (with_keeps s _)) (λ bad. inr (faulty_keeps s _))

  word_either : (p : Phase) → Either s (next_word p s r)
  unfolding next_word
  word_either Idle = same s
  word_either Data = data_either
  word_either Confirmed = data_either
  word_either First = cond_cases (Either s) (is_second s.setup.own s.message r) (λ second. inr (with_keeps s _)) (λ not. data_either)
  word_either (Pledged address) =
      cond_cases (Either s) (is_status_from address r) (λ status. inr (with_keeps s _)) (λ bad. inr (faulty_keeps s _))

  record_either : Either s (rules3to6 s r)
  unfolding rules3to6 rule5
  record_either =
      cond_cases (Either s) (rule3 s r) (λ ignored. same s)
      (λ heard.
      cond_cases (Either s) (is_own s.setup.own r) (λ own. inr (rule4_keeps s r))
      (λ foreign. cond_cases (Either s) (is_on s.message r.bus) (λ on. word_either s.message.phase) (λ off. same s)))

taken_either : (s : State) (e : Event) → Either s (taken_of s e)
taken_either s (Mark t) = same s
taken_either s (Word r) = record_either s r

-- ---- a call, any calls

call_either : (s : State) (k : Call) → Either s (step s k)
unfolding step moment_in
call_either s (set_up address receive transmit) =
    cond_cases (Either s) (is_set_up address receive transmit) (λ set. inr (set_up_keeps address receive transmit)) (λ bad. same s)
call_either s (event e receive transmit) = go (is_accepted s e receive transmit) refl
  where
    go : (b : Bool) → is_accepted s e receive transmit ≡ b → Either s (step s (event e receive transmit))
    go true ok =
        let passed : State = passed_of s (time_of e) transmit in
        rw (stepped s e receive transmit ok) (then s passed (taken_of passed e) (passed_either s (time_of e) transmit) (taken_either passed e))
    go false bad = rw (refused_stays s e receive transmit bad) (same s)
call_either s (host setting) = same s
call_either s clear_selftest = same s
call_either s restart = inr (refl)

leaving : (s : State) (k : Call) → is_leaving s k ≡ true → LeavesMoment s (step s k)
unfolding step moment_in
leaving s (set_up address receive transmit) bad = rw (refusal_keeps s (set_up address receive transmit) bad) (refl, refl)
leaving s (event e receive transmit) bad = rw (refusal_keeps s (event e receive transmit) bad) (refl, refl)
leaving s (host setting) is = (refl, refl)
leaving s clear_selftest is = (refl, refl)
leaving s restart is = false≢ is

pub set_or_left : SetOrLeft
set_or_left s k = (call_either s k, leaving s k)

pub run_keeps : (s : State) (ks : List Call) → KeepsMoment s → KeepsMoment (run s ks)
unfolding run
run_keeps s [] keeps = keeps
run_keeps s (k ∷ ks) keeps = run_keeps (step s k) ks (either_keeps s (step s k) (call_either s k) keeps)

pub kept_from_fresh : KeptFromFresh
kept_from_fresh setup ks = run_keeps (fresh_of setup) ks (fresh_keeps setup)

pub kept_moment : KeptMoment
kept_moment past = run_keeps _ past.calls (set_up_keeps past.address past.receive past.transmit)

-- what the host is told is when time alone matters
pub moment_exactly_after_any_past : MomentExactlyAfterAnyPast
moment_exactly_after_any_past past = rw (kept_moment past) (moment_exactly (after_past past))

-- ---- an accepted own command that is not ignored sets it, whatever was kept

pub own_keeps : (s : State) (r : WordRecord) (receive transmit : List ℕ) → is_accepted s (Word r) receive transmit ≡ true
    → is_own s.setup.own r ≡ true
    → rule3 (passed_of s r.time.0 transmit) r ≡ false
    → KeepsMoment (step s (event (Word r) receive transmit))
own_keeps s r receive transmit ok own quiet =
    rw (own_step s r receive transmit ok own quiet) (rule4_keeps (passed_of s r.time.0 transmit) r)
