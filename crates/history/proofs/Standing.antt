-- A stored status stands through all that brings no own command but the two exempt ones. Assumes nothing.
use mathlib.Core.Path.{◌≡◌, refl, ap, subst, ◌∙◌}
use Prim.Native.Nat.{ℕ}
use mathlib.Core.Bool.{Bool, true, false, not, ◌&&◌, ◌||◌}
use mathlib.Core.List.{List, [], ◌∷◌}
use lib.Dec.{eqb}
use borrow.Author.Tests.{eqb-true}
use Rattle.words.specs.Words.{address_of, code_of, is_transmit, is_mode, awaited_of}
use Rattle.records.specs.declared.forms.WordRecord.{WordRecord}
use Rattle.terminal.specs.States.{with_status, with_message}
use Rattle.terminal.specs.Commands.{is_own, is_exempt, is_legal}
use Rattle.terminal.specs.Messages.{is_under_way, is_on, awaits_data, is_due, is_over, is_next_data, is_second, is_status_from}
use Rattle.terminal.specs.Settling.{settled_status}
use Rattle.terminal.specs.Effects.{effect_of, held_after}
use Rattle.terminal.specs.Rules.{status_now, settled_of, rule1, faulty_of, rule2, rule3, noted_status, noted_command, begun_of, rule4, staged_of, moved_of, next_data, next_word, rule5, rules3to6}
use Rattle.terminal.specs.Events.{time_of, passed_of, taken_of}
use Rattle.terminal.specs.declared.states.Own.{Own}
use Rattle.terminal.specs.declared.states.SpacingFault.{SpacingFault}
use Rattle.terminal.specs.declared.states.Held.{Held}
use Rattle.terminal.specs.declared.states.Phase.{Phase}
use Rattle.terminal.specs.declared.states.Phase.TheVariants.{Idle, First, Pledged, Confirmed, Data}
use Rattle.terminal.specs.declared.states.Message.{Message}
use Rattle.terminal.specs.declared.states.Setup.{Setup}
use Rattle.terminal.specs.declared.states.Terminal.{Terminal as State}
use Rattle.terminal.specs.declared.events.Event.{Event}
use Rattle.terminal.specs.declared.events.Event.TheVariants.{Mark, Word}
use Rattle.history.specs.Calls.{Call, set_up, event, host, clear_selftest, restart, is_accepted, is_set_up, is_refused, step, run}
use Rattle.history.specs.Courses.{ignores, is_ignored, leaves_status, AllLeaveStatus}
use Rattle.history.proofs.Tests.{false≢, cond_cases, and_left, and_right, or_cases}
use Rattle.history.proofs.Phases.{due_under_way, over_under_way}
use Rattle.history.proofs.Keeping.{kept_same}
use Rattle.history.proofs.Steps.{stepped, refused_stays, refusal_keeps}
use Rattle.std.specs.Prelude.{Option}

-- ---- the two exempt commands

exempt_code : (own : Own) (w : ℕ) → is_exempt own w ≡ true → (eqb (code_of w) 2 || eqb (code_of w) 18) ≡ true
unfolding is_exempt
exempt_code own w exempt = search (and_right, exempt)

-- their effect is none
exempt_effect : (own : Own) (w : ℕ) (h : Held) (bus d : ℕ) → is_exempt own w ≡ true → effect_of own h (code_of w) bus d ≡ h
unfolding effect_of
exempt_effect own w h bus d exempt =
    or_cases (eqb (code_of w) 2) (eqb (code_of w) 18) (exempt_code own w exempt)
    (λ two. ap (λ (code : ℕ). effect_of own h code bus d) (eqb-true (code_of w) 2 two))
    (λ eighteen. ap (λ (code : ℕ). effect_of own h code bus d) (eqb-true (code_of w) 18 eighteen))

-- they await no words
pub exempt_awaits : (own : Own) (w : ℕ) → is_exempt own w ≡ true → awaited_of w ≡ 0
unfolding is_exempt awaited_of
exempt_awaits own w exempt =
    let transmits : is_transmit w ≡ true = search (and_left, and_right, exempt) in
    rw transmits

-- they settle the status as it is
pub exempt_settled : (s : State) (w : ℕ) → is_exempt s.setup.own w ≡ true → settled_status s w ≡ s.held.status.0
unfolding settled_status
exempt_settled s w exempt = rw exempt

-- ---- standing

-- this setup, this stored status, and under way at most an exempt command
pub record Standing (setup : Setup) (status : ℕ) (s : State) : Type 0 where
  pub same : s.setup ≡ setup
  pub holds : s.held.status.0 ≡ status
  pub passing : is_under_way s.message.phase ≡ true → is_exempt setup.own s.message.command.0 ≡ true

module _ {setup : Setup} {status : ℕ} where
  -- an exempt command settled, or made faulty, leaves it
  settled_stands : (s : State) (transmit : List ℕ) → Standing setup status s → is_under_way s.message.phase ≡ true → Standing setup status (settled_of s transmit)
  unfolding settled_of held_after
  settled_stands s transmit st on =
      let w : ℕ = s.message.command.0 in
      let exempt : is_exempt s.setup.own w ≡ true = rw st.same (st.passing on) in
      let stays : status_now s ≡ s.held.status.0 = exempt_settled s w exempt in
      let keeps : Held → Type 0 = λ h. h.status.0 ≡ status in
      let noted : Held = with_status s.held (status_now s) in
      record {
        same = st.same;
        holds = cond_cases keeps (is_legal s.setup w && is_mode w)
            (λ acts. ap (λ (h : Held). h.status.0) (exempt_effect s.setup.own w noted s.message.bus _ exempt) ∙ stays ∙ st.holds)
            (λ other. stays ∙ st.holds);
        passing = λ h. false≢ h;
      }

  faulty_stands : (s : State) (kind : Option SpacingFault) → Standing setup status s → is_under_way s.message.phase ≡ true → Standing setup status (faulty_of s kind)
  unfolding faulty_of
  faulty_stands s kind st on =
      let exempt : is_exempt s.setup.own s.message.command.0 ≡ true = rw st.same (st.passing on) in
      record {
        same = st.same;
        holds = kept_same (λ (h : Held). h.status.0) (λ h overlapping separated. refl) _ kind ∙ (rw exempt st.holds);
        passing = λ h. false≢ h;
      }

-- ---- an event

module _ {setup : Setup} {status : ℕ} where
  -- rules 1 and 2 leave it
  passed_stands : (s : State) (t : ℕ) (transmit : List ℕ) → Standing setup status s → Standing setup status (passed_of s t transmit)
  unfolding passed_of rule1 rule2
  passed_stands s t transmit st =
      let first : Standing setup status (rule1 s t transmit) =
      cond_cases (Standing setup status) (is_due s.message t) (λ due. settled_stands s transmit st (due_under_way s.message t due)) (λ not_due. st) in
      let x : State = rule1 s t transmit in
      let both : Standing setup status (rule2 x t) =
      cond_cases (Standing setup status) (is_over x.message t) (λ over. faulty_stands x _ first (over_under_way x.message t over)) (λ in_time_lem. first) in
      record { same = both.same; holds = both.holds; passing = both.passing }

  -- the next word of an exempt command leaves it, and so does a word that is not
  next_stands : (p : Phase) (s : State) (r : WordRecord) → Standing setup status s → is_under_way s.message.phase ≡ true → Standing setup status (next_word p s r)
  unfolding next_word next_data staged_of moved_of
  next_stands p s r st on = go p
    where
      -- the message with the same command
      moves : (m : Message) → m.command.0 ≡ s.message.command.0 → Standing setup status (with_message s m)
      moves m command = record { same = st.same; holds = st.holds; passing = λ h. rw command (st.passing on) }

      data_stands : Standing setup status (next_data s r)
      data_stands = cond_cases (Standing setup status) (awaits_data s.message && is_next_data s.message r)
          (λ good. moves (staged_of s.message r) refl) (λ bad. faulty_stands s _ st on)

      go : (p : Phase) → Standing setup status (next_word p s r)
      go Idle = st
      go Data = data_stands
      go Confirmed = data_stands
      go First = cond_cases (Standing setup status) (is_second s.setup.own s.message r)
          (λ second. moves (moved_of s.message (Pledged (address_of r.word)) r) refl) (λ other. data_stands)
      go (Pledged address) = cond_cases (Standing setup status) (is_status_from address r)
          (λ from. moves (moved_of s.message Confirmed r) refl) (λ other. faulty_stands s _ st on)

  -- an exempt command leaves it, and is under way then
  begun_stands : (s : State) (r : WordRecord) → Standing setup status s → is_exempt s.setup.own r.word ≡ true → Standing setup status (rule4 s r)
  unfolding rule4 noted_status noted_command begun_of
  begun_stands s r st exempt =
      let own : Own = s.setup.own in
      record {
        same = st.same;
        holds = rw exempt (cond_cases (λ (h : Held). h.status.0 ≡ status) (eqb (code_of r.word) 18) (λ last. st.holds) (λ other. st.holds));
        passing = λ on. rw (← st.same) exempt;
      }

  -- a record that is ignored, or no own command, or an exempt one
  rules_stand : (s : State) (r : WordRecord) → Standing setup status s
      → (rule3 s r ≡ false → (not (is_own s.setup.own r) || is_exempt s.setup.own r.word) ≡ true)
      → Standing setup status (rules3to6 s r)
  unfolding rules3to6 rule5
  rules_stand s r st outside =
      cond_cases (Standing setup status) (rule3 s r) (λ sending. st)
      (λ quiet.
      cond_cases (Standing setup status) (is_own s.setup.own r)
      (λ own. begun_stands s r st (rw own at (outside quiet)))
      (λ foreign.
      cond_cases (Standing setup status) (is_on s.message r.bus)
      (λ on. next_stands s.message.phase s r st (unfold is_on in search (and_left, on)))
      (λ off. st)))

  pub taken_stands : (s : State) (e : Event) (receive transmit : List ℕ) → Standing setup status s
      → (ignores s e ≡ false → leaves_status setup.own (event e receive transmit) ≡ true)
      → Standing setup status (taken_of s e)
  taken_stands s (Mark t) receive transmit st outside = st
  taken_stands s (Word r) receive transmit st outside = rules_stand s r st (λ quiet. rw st.same (outside quiet))

  -- ---- a call, and any calls

  pub call_stands : (s : State) (k : Call) → Standing setup status s
      → (is_refused s k || (is_ignored s k || leaves_status s.setup.own k)) ≡ true
      → Standing setup status (step s k)
  unfolding step
  call_stands s (event e receive transmit) st outside = go (is_accepted s e receive transmit) refl
    where
      go : (b : Bool) → is_accepted s e receive transmit ≡ b → Standing setup status (step s (event e receive transmit))
      go true ok =
          rw (stepped s e receive transmit ok)
          (taken_stands (passed_of s (time_of e) transmit) e receive transmit (passed_stands s (time_of e) transmit st) (λ quiet. subst (λ (x : Setup). leaves_status x.own (event e receive transmit) ≡ true) st.same (rw (ok, quiet) at outside)))
      go false bad = rw (refused_stays s e receive transmit bad) st
  call_stands s (set_up address receive transmit) st outside =
      rw (refusal_keeps s (set_up address receive transmit) (or_cases (not (is_set_up address receive transmit)) false outside (λ h. h) (λ h. false≢ h))) st
  call_stands s (host setting) st outside = record { same = st.same; holds = st.holds; passing = st.passing }
  call_stands s clear_selftest st outside = record { same = st.same; holds = st.holds; passing = st.passing }
  call_stands s restart st outside = false≢ outside

  pub run_stands : (s : State) (ks : List Call) → Standing setup status s → AllLeaveStatus s ks → Standing setup status (run s ks)
  unfolding run
  run_stands s [] st outside = st
  run_stands s (k ∷ ks) st outside = run_stands (step s k) ks (call_stands s k st outside.0) outside.1
