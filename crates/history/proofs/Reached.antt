-- Every terminal after any past is sound: reachable. Assumes nothing.
use mathlib.Core.Path.{◌≡◌, refl, ap}
use Prim.Native.Nat.{ℕ, ◌≤◌}
use mathlib.Core.Bool.{true, false, ◌&&◌}
use mathlib.Core.List.{List, [], ◌∷◌}
use native.Mathlib.Omega.{arith}
use lib.Dec.{eqb, leb}
use lib.ListN.{length}
use borrow.Author.Tests.{leb-true, eqb-true}
use Rattle.words.specs.Words.{on_clock, address_of}
use Rattle.records.specs.Records.{last_bus, in_range}
use Rattle.records.specs.declared.forms.WordRecord.{WordRecord}
use Rattle.terminal.specs.States.{own_of, setup_of, fresh_of, with_host, with_message, at_time}
use Rattle.terminal.specs.Commands.{is_own}
use Rattle.terminal.specs.Messages.{is_under_way, is_on, awaits_data, is_due, is_over, is_next_data, is_second, is_status_from}
use Rattle.terminal.specs.Settling.{sending_of}
use Rattle.terminal.specs.Rules.{reply_now, settled_of, rule1, faulty_of, time_fault, rule2, rule3, rule4, staged_of, moved_of, next_data, next_word, rule5, rules3to6}
use Rattle.terminal.specs.Events.{terminal_of, event_of, happens_of, set_up_refusal, set_up_of, time_of, is_in_range, passed_of, taken_of, selftest_cleared, restarted_of}
use Rattle.terminal.specs.declared.states.Host.{Host}
use Rattle.terminal.specs.declared.states.Setup.{Setup}
use Rattle.terminal.specs.declared.states.SpacingFault.{SpacingFault}
use Rattle.terminal.specs.declared.states.Phase.{Phase}
use Rattle.terminal.specs.declared.states.Phase.TheVariants.{Idle, First, Pledged, Confirmed, Data}
use Rattle.terminal.specs.declared.states.Message.{Message}
use Rattle.terminal.specs.declared.states.Terminal.{Terminal as State}
use Rattle.terminal.specs.declared.events.Event.{Event}
use Rattle.terminal.specs.declared.events.Event.TheVariants.{Mark, Word}
use Rattle.terminal.specs.declared.events.Happened.{Happened}
use Rattle.terminal.proofs.Counts.{reply_most, due_most}
use Rattle.history.specs.Calls.{Call, set_up, event, host, clear_selftest, restart, is_accepted, is_set_up, host_of, step, run}
use Rattle.history.specs.Demands.{Reachable}
use Rattle.history.specs.States.{is_to, is_opening, Waiting, Sound}
use Rattle.history.proofs.Tests.{false≢, none≢, cond_cases, and_left, and_right}
use Rattle.history.proofs.Steps.{set_up_gives, shown, not_earlier, record_on_clock}
use Rattle.history.proofs.Phases.{opening_under_way, awaits_under_way, due_under_way}
use Rattle.history.proofs.Holdings.{held_kept, held_either, status_flag, held_fresh, command_noted, held_settled}
use Rattle.history.proofs.Waitings.{waiting_later, window_later, waiting_begun, waiting_staged, waiting_moved, window_settled}
use Rattle.std.specs.Prelude.{Option, None, is_none}
use Rattle.words.specs.declared.refusals.Refusal.{Refusal}

-- ---- a set-up

-- fresh, with a set-up as it should be
fresh_sound : (setup : Setup) → setup.own.address ≤ 30 → length setup.receive ≡ 32 → length setup.transmit ≡ 32 → Sound (fresh_of setup)
fresh_sound setup a r t = search (held_fresh, false≢, none≢)

-- an accepted set-up is so
accepted_sound : (setup : Setup) → is_set_up setup.own.address setup.receive setup.transmit ≡ true → Sound (fresh_of setup)
unfolding set_up_refusal
accepted_sound setup =
    cond_cases P (eqb (length setup.receive) 32 && eqb (length setup.transmit) 32)
    (λ tables.
    cond_cases P (leb setup.own.address 30) (λ small ok. search (fresh_sound, leb-true, eqb-true, and_left, and_right)) (λ e. false≢))
    (λ e. false≢)
  where
    P : Option Refusal → Type 0
    P o = is_none o ≡ true → Sound (fresh_of setup)

-- and so is what it gives
set_up_sound : (address : ℕ) (receive transmit : List ℕ) → is_set_up address receive transmit ≡ true → Sound (terminal_of (set_up_of address receive transmit))
set_up_sound address receive transmit ok = rw (set_up_gives address receive transmit ok) (accepted_sound (setup_of (own_of address) receive transmit) ok)

-- ---- host calls, and how a message goes on or ends

module _ (s : State) (h : Sound s) where
  -- with other flags or words of the host
  host_sound : (flags : Host) → Sound (with_host s flags)
  host_sound flags = search

  -- with the self-test request cleared
  cleared_sound : Sound (selftest_cleared s)
  cleared_sound = search

  -- restarted
  restarted_sound : Sound (restarted_of s)
  restarted_sound = search (held_fresh, false≢, none≢)

  -- after a faulty message
  faulty_sound : (kind : Option SpacingFault) → Sound (faulty_of s kind)
  unfolding faulty_of
  faulty_sound kind = search (held_kept, held_either, status_flag, false≢)

  -- with a message that goes on
  message_sound : (m : Message) → is_under_way s.message.phase ≡ true
      → (Waiting s.setup.own s.time.0 s.message → Waiting s.setup.own s.time.0 m)
      → Sound (with_message s m)
  message_sound m under goes_on_lem =
      let w = goes_on_lem (h.message under) in
      let off = h.alone under in
      search

-- ---- rules 1 and 2

module _ (s : State) (h : Sound s) (t : ℕ) (later : s.time.0 ≤ t) (on_clock_lem : on_clock t ≡ true) where
  -- at a later time
  later_sound : Sound (at_time s t)
  later_sound = search (waiting_later, window_later, h.message, h.sending)

  -- after a message is settled
  settled_sound : (transmit : List ℕ) → is_due s.message t ≡ true → Sound (at_time (settled_of s transmit) t)
  unfolding settled_of
  settled_sound transmit due =
      let w = waiting_later s.time.0 t later s.setup.own s.message (h.message (due_under_way s.message t due)) in
      let reached = due_most s.message t due in
      let idle : false ≡ true → sending_of s (reply_now s transmit).count ≡ None = false≢ in
      search (held_settled, window_settled, reply_most, false≢)

  -- after rules 1 and 2
  passed_sound : (transmit : List ℕ) → Sound (passed_of s t transmit)
  unfolding passed_of rule1 rule2 faulty_of
  passed_sound transmit =
      let settled : P (rule1 s t transmit) = cond_cases P (is_due s.message t) (settled_sound transmit) (λ e. later_sound) in
      cond_cases P (is_over (rule1 s t transmit).message t) (λ e. faulty_sound _ settled (time_fault (rule1 s t transmit).message)) (λ e. settled)
    where
      P : State → Type 0
      P x = Sound (at_time x t)

-- ---- rules 3 to 6

module _ (s : State) (h : Sound s) (r : WordRecord) (at : r.time.0 ≤ s.time.0) where
  -- after an own command
  begun_sound : in_range last_bus r ≡ true → is_own s.setup.own r ≡ true → Sound (rule4 s r)
  unfolding rule4 is_own
  begun_sound ranged own =
      let to : is_to s.setup.own r.word ≡ true = search (and_right, own) in
      search (command_noted, waiting_begun, false≢, none≢)

  -- after a second command word, and after the status that it asked for
  moved_sound : (p : Phase) → is_opening s.message.phase ≡ true → Sound (with_message s (moved_of s.message p r))
  moved_sound p early = search (message_sound s h, opening_under_way, waiting_moved)

  -- after the next data word
  staged_sound : awaits_data s.message ≡ true → Sound (with_message s (staged_of s.message r))
  staged_sound awaits = search (message_sound s h, awaits_under_way, waiting_staged)

  -- after a word where only a data word may come
  data_sound : Sound (next_data s r)
  unfolding next_data
  data_sound =
      cond_cases Sound (awaits_data s.message && is_next_data s.message r) (λ e. search (staged_sound, and_left)) (λ e. faulty_sound s h _)

  -- after a word on the bus of the message under way
  next_sound : (p : Phase) → s.message.phase ≡ p → Sound (next_word p s r)
  unfolding next_word
  next_sound Idle e = h
  next_sound Data e = data_sound
  next_sound Confirmed e = data_sound
  next_sound First e =
      cond_cases Sound (is_second s.setup.own s.message r) (λ f. moved_sound (Pledged (address_of r.word)) (ap is_opening e))
      (λ f. data_sound)
  next_sound (Pledged address) e = cond_cases Sound (is_status_from address r) (λ f. moved_sound Confirmed (ap is_opening e)) (λ f. faulty_sound s h _)

  -- after any word
  word_sound : in_range last_bus r ≡ true → Sound (rules3to6 s r)
  unfolding rules3to6 rule5
  word_sound ranged =
      cond_cases Sound (rule3 s r) (λ e. h)
      (λ e.
      cond_cases Sound (is_own s.setup.own r) (begun_sound ranged)
      (λ f. cond_cases Sound (is_on s.message r.bus) (λ g. next_sound s.message.phase refl) (λ g. h)))

-- ---- a call, any calls

-- after an accepted event
event_sound : (s : State) → Sound s → (e : Event) (transmit : List ℕ) → is_in_range e ≡ true → s.time.0 ≤ time_of e
    → Sound (taken_of (passed_of s (time_of e) transmit) e)
unfolding passed_of
event_sound s h (Mark t) transmit ranged later = passed_sound s h t.0 later ranged transmit
event_sound s h (Word r) transmit ranged later =
    word_sound _ (passed_sound s h r.time.0 later (record_on_clock r ranged) transmit) r (omega arith) ranged

-- after a call, accepted or refused
step_sound : (s : State) → Sound s → (k : Call) → Sound (step s k)
unfolding step event_of happens_of
step_sound s h (set_up address receive transmit) =
    cond_cases Sound (is_set_up address receive transmit) (set_up_sound address receive transmit) (λ e. h)
step_sound s h (event e receive transmit) =
    cond_cases (λ (x : Happened). Sound x.terminal) (is_accepted s e receive transmit)
    (λ ok. event_sound s h e transmit (shown s e receive transmit ok).ranged (not_earlier s e receive transmit ok))
    (λ e. h)
step_sound s h (host setting) = host_sound s h (host_of s.host setting)
step_sound s h clear_selftest = cleared_sound s h
step_sound s h restart = restarted_sound s h

-- after any calls
run_sound : (s : State) → Sound s → (ks : List Call) → Sound (run s ks)
unfolding run
run_sound s h [] = h
run_sound s h (k ∷ ks) = run_sound (step s k) (step_sound s h k) ks

-- from a set-up on, after any calls at all
pub reachable : Reachable
reachable past = run_sound _ (set_up_sound past.address past.receive past.transmit past.accepted) past.calls
