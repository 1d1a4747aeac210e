-- No word on one bus wipes out a fault marked on the other: from the fault on, message error stays and is answered with. Assumes nothing.
use mathlib.Core.Path.{◌≡◌, refl, sym, ◌∙◌}
use Prim.Native.Nat.{ℕ, ◌≤◌}
use mathlib.Core.Bool.{Bool, true, false, ◌||◌, or-true}
use mathlib.Core.List.{List, []}
use borrow.Author.Tests.{not-true}
use Rattle.words.specs.Words.{with_flag, awaited_of}
use Rattle.words.specs.declared.statuses.Flag.TheVariants.{MessageError}
use Rattle.words.proofs.Flags.{flag_alone}
use Rattle.terminal.specs.States.{at_time}
use Rattle.terminal.specs.Commands.{is_own, is_exempt}
use Rattle.terminal.specs.Messages.{is_over}
use Rattle.terminal.specs.Rules.{faulty_of}
use Rattle.terminal.specs.Events.{time_of, passed_of, taken_of}
use Rattle.terminal.specs.declared.states.SpacingFault.{SpacingFault}
use Rattle.terminal.specs.declared.states.Held.{Held}
use Rattle.terminal.specs.declared.states.Setup.{Setup}
use Rattle.terminal.specs.declared.states.Terminal.{Terminal as State}
use Rattle.terminal.specs.declared.answers.Answer.{Answer}
use Rattle.terminal.specs.declared.events.Event.{Event}
use Rattle.terminal.specs.declared.events.Event.TheVariants.{Mark, Word}
use Rattle.history.specs.Calls.{Call, event, is_accepted, is_refused, step, run, answer_in}
use Rattle.history.specs.Courses.{is_ignored, leaves_status}
use Rattle.history.specs.States.{marks_fault}
use Rattle.history.specs.Demands.{due_answer, composing, AnswersWith, Stands, NoWipe, StatusStands}
use Rattle.history.proofs.Tests.{false≢, and_left, and_right, or_cases}
use Rattle.history.proofs.Steps.{stepped}
use Rattle.history.proofs.Begun.{own_command}
use Rattle.history.proofs.Keeping.{kept_same}
use Rattle.history.proofs.Standing.{Standing, exempt_awaits, exempt_settled, taken_stands, call_stands, run_stands}
use Rattle.history.proofs.Answered.{answered}
use Rattle.history.proofs.Givens.{given_message}
use Rattle.history.proofs.Faults.{has_bad_word, fault_either, over_faulty, bad_faulty, bad_under_way, passed_still}
use Rattle.std.specs.Prelude.{Option, Some}

-- ---- the fault

-- a message made faulty, of a command that is not exempt
faulty_marked : (s : State) (kind : Option SpacingFault) → is_exempt s.setup.own s.message.command.0 ≡ false
    → Standing s.setup (with_flag MessageError s.held.status.0) (faulty_of s kind)
unfolding faulty_of
faulty_marked s kind plain = record {
  same = refl;
  holds = kept_same (λ (h : Held). h.status.0) (λ h overlapping separated. refl) _ kind ∙ (rw plain refl);
  passing = λ h. false≢ h;
}

-- by its time
over_marked : (s : State) (t : ℕ) (transmit : List ℕ) → is_exempt s.setup.own s.message.command.0 ≡ false → is_over s.message t ≡ true
    → Standing s.setup (with_flag MessageError s.held.status.0) (passed_of s t transmit)
unfolding passed_of
over_marked s t transmit plain over =
    let faulty = over_faulty s t transmit over in
    let st = faulty_marked s _ plain in
    rw (faulty.0, faulty.1) (record { same = st.same; holds = st.holds; passing = st.passing })

-- by a record that comes while it is still under way
word_marked : (s : State) (e : Event) (transmit : List ℕ) → is_exempt s.setup.own s.message.command.0 ≡ false
    → has_bad_word (passed_of s (time_of e) transmit) e ≡ true
    → Standing s.setup (with_flag MessageError s.held.status.0) (taken_of (passed_of s (time_of e) transmit) e)
word_marked s (Mark t) transmit plain bad = false≢ bad
word_marked s (Word r) transmit plain bad =
    let x : State = passed_of s r.time.0 transmit in
    let now : x ≡ at_time s r.time.0 = passed_still s r.time.0 transmit (bad_under_way x r bad) in
    rw (bad_faulty x r bad, now) (faulty_marked (at_time s r.time.0) _ plain)

-- by either
pub event_marks : (s : State) (e : Event) (receive transmit : List ℕ) → is_accepted s e receive transmit ≡ true → marks_fault s e transmit ≡ true
    → leaves_status s.setup.own (event e receive transmit) ≡ true
    → Standing s.setup (with_flag MessageError s.held.status.0) (step s (event e receive transmit))
event_marks s e receive transmit ok marks outside =
    let x : State = passed_of s (time_of e) transmit in
    let exempt : Bool = is_exempt s.setup.own s.message.command.0 in
    let plain : exempt ≡ false = not-true exempt (search (and_left, marks)) in
    let which : (is_over s.message (time_of e) || has_bad_word x e) ≡ true = sym (fault_either s e transmit) ∙ search (and_left, and_right, marks) in
    rw (stepped s e receive transmit ok)
    (or_cases (is_over s.message (time_of e)) (has_bad_word x e) which
    (λ over. taken_stands x e receive transmit (over_marked s (time_of e) transmit plain over) (λ quiet. outside))
    (λ bad. word_marked s e transmit plain bad))

-- ---- the answer

-- an exempt command is answered with the status that stands
standing_reported : {setup : Setup} {status : ℕ} (s : State) → Standing setup status s → setup.own.address ≤ 30 → AnswersWith s status
standing_reported s st few r receive transmit k exempt ks end course e receive' transmit' ok then =
    let begun : State = step s (event (Word r) receive transmit) in
    let own : is_own s.setup.own r ≡ true = own_command s.setup.own r k.valid k.sync k.own in
    let k1 : Call = event (Word r) receive transmit in
    let outside : (is_refused s k1 || (is_ignored s k1 || leaves_status s.setup.own k1)) ≡ true =
    rw (k.accepted, own, exempt) (or-true (is_ignored s k1)) in
    let next = call_stands s (event (Word r) receive transmit) st outside in
    let none : 0 ≡ awaited_of r.word = sym (exempt_awaits s.setup.own r.word exempt) in
    let carried = (answered s (rw st.same few) r receive transmit k [] none ks end course e receive' transmit' ok then).answer in
    let exempt' : is_exempt begun.setup.own r.word ≡ true = rw (next.same, ← st.same) exempt in
    record {
      answer = due_answer (composing begun ks) r end transmit';
      given = carried;
      on = refl;
      says = exempt_settled (composing begun ks) r.word exempt' ∙ next.holds;
    }

-- no call carries an answer with another
standing_said : {setup : Setup} {status : ℕ} (s : State) → Standing setup status s → (k : Call) (a : Answer) → answer_in s k ≡ Some a → a.status.0 ≡ status
standing_said s st k a given =
    let of = given_message s k a given in
    of.status ∙ exempt_settled s s.message.command.0 (rw st.same (st.passing of.under_way)) ∙ st.holds

standing_stands : {setup : Setup} {status : ℕ} (s : State) → Standing setup status s → setup.own.address ≤ 30 → Stands s status
standing_stands s st few = record { held = st.holds; says = standing_said s st; answers = standing_reported s st few }

-- ---- the statements

pub no_wipe : NoWipe
no_wipe s few e receive transmit ok marks outside ks all =
    let begun : State = step s (event e receive transmit) in
    let st = run_stands begun ks (event_marks s e receive transmit ok marks outside) all in
    (standing_stands (run begun ks) st few, rw st.holds (flag_alone MessageError s.held.status.0).0)

pub status_stands : StatusStands
status_stands s few rest ks all = standing_stands (run s ks) (run_stands s ks (record { same = refl; holds = refl; passing = rest }) all) few
