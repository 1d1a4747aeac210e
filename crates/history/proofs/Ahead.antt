-- The next moment that the host is told is later than the last event: nothing is due by then, and no time is over. Assumes nothing.
use mathlib.Core.Path.{◌≡◌, refl, sym, ap, ◌∙◌}
use Prim.Native.Nat.{ℕ, ◌+◌, ◌≤◌}
use mathlib.Core.Bool.{Bool, true, false, ◌&&◌, and-false}
use mathlib.Core.List.{List, [], ◌∷◌}
use mathlib.Core.Logic.{dite}
use native.Mathlib.Nat.{lt_of_not-le}
use native.Mathlib.Decide.{dec_le}
use native.Mathlib.Omega.{arith}
use lib.Dec.{ltb, leb}
use borrow.Author.Tests.{le-leb, lt-leb, le-ltb, leb-false, ltb-false}
use Rattle.words.specs.Words.{due_distance, spacing_most}
use Rattle.records.specs.declared.forms.WordRecord.{WordRecord}
use Rattle.terminal.specs.States.{no_message}
use Rattle.terminal.specs.Messages.{awaits_data, is_whole, is_due, is_late, is_between, awaits_first, first_word_distance, is_overdue, is_over}
use Rattle.terminal.specs.Rules.{begun_of, staged_of, moved_of}
use Rattle.terminal.specs.Events.{time_of, passed_of, taken_of}
use Rattle.terminal.specs.Cards.{zeros}
use Rattle.terminal.specs.declared.states.Phase.{Phase}
use Rattle.terminal.specs.declared.states.Phase.TheVariants.{Idle, First, Pledged, Confirmed, Data}
use Rattle.terminal.specs.declared.states.Message.{Message}
use Rattle.terminal.specs.declared.states.Terminal.{Terminal as State}
use Rattle.terminal.specs.declared.events.Event.{Event}
use Rattle.terminal.specs.declared.events.Event.TheVariants.{Mark, Word}
use Rattle.history.specs.Calls.{Call, set_up, event, host, clear_selftest, restart, is_accepted, is_set_up, step, run, Past, after_past}
use Rattle.history.specs.Demands.{ToldAhead}
use Rattle.history.proofs.Tests.{true≢, false≢, cond_cases}
use Rattle.history.proofs.Steps.{stepped, accepts, refused_stays}
use Rattle.history.proofs.Phases.{over_at_lem}
use Rattle.history.proofs.Passing.{still, due_ends}
use Rattle.history.proofs.Moving.{is_asking, rules_hold}
use Rattle.history.proofs.Times.{event_time}
use Rattle.history.proofs.Running.{set_up_idle}
use Rattle.history.proofs.Idle.{not_none}
use Rattle.history.proofs.Polling.{over_ends}
use Rattle.history.proofs.Reached.{reachable}
use Rattle.history.proofs.Questions.{moment_exactly_after_any_past}

abbrev is_data : Phase → Bool
is_data Idle = false
is_data First = false
is_data (Pledged address) = false
is_data Confirmed = false
is_data Data = true

-- neither due nor over at that time, and before a second command word its last word is its command
record Ahead (t : ℕ) (m : Message) : Type 0 where
  due : is_due m t ≡ false
  over : is_over m t ≡ false
  direct : m.phase ≡ First → m.start.0 ≡ m.last.0

none_ahead : (t : ℕ) → Ahead t no_message
unfolding is_due is_whole is_late awaits_data is_overdue awaits_first
none_ahead t = record { due = refl; over = refl; direct = λ is. refl }

-- ---- a word of that time

-- a message whose last word it is, is neither due nor late
module _ (m : Message) (t : ℕ) (last : m.last.0 ≡ t) where
  last_due : is_due m t ≡ false
  unfolding is_due
  last_due =
      ap (λ (n : ℕ). is_whole m && leb (n + due_distance) t) last
      ∙ ap (λ (b : Bool). is_whole m && b) (lt-leb (t + due_distance) t (omega arith))
      ∙ and-false (is_whole m)

  last_late : is_late m t ≡ false
  unfolding is_late
  last_late =
      ap (λ (n : ℕ). awaits_data m && ltb (n + spacing_most) t) last
      ∙ ap (λ (b : Bool). awaits_data m && b) (le-ltb (t + spacing_most) t (omega arith))
      ∙ and-false (awaits_data m)

  last_over : t ≤ m.start.0 + first_word_distance → is_over m t ≡ false
  unfolding is_overdue
  last_over soon = rw (last_late, le-ltb (m.start.0 + first_word_distance) t soon) (and-false (awaits_first m))

begun_ahead : (r : WordRecord) → Ahead r.time.0 (begun_of r)
unfolding begun_of
begun_ahead r =
    let t : ℕ = r.time.0 in
    record { due = last_due (begun_of r) t refl; over = last_over (begun_of r) t refl (omega arith); direct = λ is. refl }

staged_ahead : (m : Message) (r : WordRecord) → Ahead r.time.0 (staged_of m r)
unfolding staged_of is_overdue awaits_first
staged_ahead m r =
    let t : ℕ = r.time.0 in
    record { due = last_due (staged_of m r) t refl; over = rw (last_late (staged_of m r) t refl) refl; direct = λ is. data_first is }
  where
    data_first : {X : Type 0} → Data ≡ First → X
    data_first is = true≢ (ap is_data is)

pledged_missing : (m : Message) (address : ℕ) → m.phase ≡ Pledged address → is_whole m ≡ false
unfolding is_whole
pledged_missing m address is = rw is refl

-- before the status of another terminal the limit of its first data word is not passed
soon : (m : Message) (t : ℕ) → Ahead t m → is_asking m.phase ≡ true → t ≤ m.start.0 + first_word_distance
soon m t ahead asking = go (is_whole m) refl m.phase refl
  where
    go : (whole : Bool) → is_whole m ≡ whole → (p : Phase) → m.phase ≡ p → t ≤ m.start.0 + first_word_distance
    go whole at Idle is = false≢ (ap is_asking (sym is) ∙ asking)
    go true at First is =
        let not : leb (m.last.0 + due_distance) t ≡ false = (unfold is_due in rw at at ahead.due) in
        omega (arith, leb-false (m.last.0 + due_distance) t not, ahead.direct is)
    go false at First is =
        let not : ltb (m.last.0 + spacing_most) t ≡ false = sym (over_at_lem m at First t is) ∙ ahead.over in
        omega (arith, ltb-false (m.last.0 + spacing_most) t not, ahead.direct is)
    go true at (Pledged address) is = true≢ (sym at ∙ pledged_missing m address is)
    go false at (Pledged address) is =
        let not : ltb (m.start.0 + first_word_distance) t ≡ false = sym (over_at_lem m at (Pledged address) t is) ∙ ahead.over in
        omega (arith, ltb-false (m.start.0 + first_word_distance) t not)
    go whole at Confirmed is = false≢ (ap is_asking (sym is) ∙ asking)
    go whole at Data is = false≢ (ap is_asking (sym is) ∙ asking)

moved_ahead : (r : WordRecord) (m : Message) (p : Phase) → is_between p ≡ true → is_asking m.phase ≡ true → Ahead r.time.0 m
    → Ahead r.time.0 (moved_of m p r)
unfolding moved_of
moved_ahead r m p between asking ahead =
    let t : ℕ = r.time.0 in
    record {
      due = last_due (moved_of m p r) t refl;
      over = last_over (moved_of m p r) t refl (soon m t ahead asking);
      direct = λ is. false≢ (ap is_between (sym is) ∙ between);
    }

-- ---- a call, any calls

-- rules 1 and 2 end what is due or over
passed_ahead : (s : State) (t : ℕ) (transmit : List ℕ) → (s.message.phase ≡ First → s.message.start.0 ≡ s.message.last.0)
    → Ahead t (passed_of s t transmit).message
passed_ahead s t transmit direct = go (is_due s.message t) refl (is_over s.message t) refl
  where
    go : (a : Bool) → is_due s.message t ≡ a → (b : Bool) → is_over s.message t ≡ b → Ahead t (passed_of s t transmit).message
    go true due b is = rw (due_ends s t transmit due) (none_ahead t)
    go false due true over = rw (over_ends s transmit t over) (none_ahead t)
    go false due false over = rw (still s t transmit due over) (record { due = due; over = over; direct = direct })

taken_ahead : (s : State) (e : Event) → Ahead (time_of e) s.message → Ahead (time_of e) (taken_of s e).message
taken_ahead s (Mark t) h = h
taken_ahead s (Word r) h =
    rules_hold (Ahead r.time.0) (none_ahead r.time.0) r (λ m on before. staged_ahead m r) (moved_ahead r) s h (λ own. begun_ahead r)

abbrev Timely : State → Type 0
Timely s = Ahead s.time.0 s.message

call_timely : (s : State) (k : Call) → Timely s → Timely (step s k)
unfolding step
call_timely s (set_up address receive transmit) h =
    cond_cases Timely (is_set_up address receive transmit) (λ set. rw (set_up_idle address receive transmit) (none_ahead _)) (λ bad. h)
call_timely s (event e receive transmit) h = go (is_accepted s e receive transmit) refl
  where
    go : (b : Bool) → is_accepted s e receive transmit ≡ b → Timely (step s (event e receive transmit))
    go true ok =
        rw (event_time s e receive transmit ok, stepped s e receive transmit ok)
        (taken_ahead (passed_of s (time_of e) transmit) e (passed_ahead s (time_of e) transmit h.direct))
    go false bad = rw (refused_stays s e receive transmit bad) h
call_timely s (host setting) h = h
call_timely s clear_selftest h = h
call_timely s restart h = none_ahead _

run_timely : (s : State) (ks : List Call) → Timely s → Timely (run s ks)
unfolding run
run_timely s [] h = h
run_timely s (k ∷ ks) h = run_timely (step s k) ks (call_timely s k h)

past_timely : (past : Past) → Timely (after_past past)
past_timely past = run_timely _ past.calls (rw (set_up_idle past.address past.receive past.transmit) (none_ahead _))

-- ---- so a time mark at the last event's time does nothing, and the moment at which one does something is later

pub told_ahead : ToldAhead
unfolding zeros
told_ahead past next is =
    let s : State = after_past past in
    let ahead = past_timely past in
    let ok : is_accepted s (Mark s.time) zeros zeros ≡ true =
    accepts s (Mark s.time) zeros zeros (record { tables = refl; ranged = (reachable past).time; ordered = le-leb s.time.0 s.time.0 (omega arith) }) in
    dite (dec_le next.0 s.time.0)
    (λ then.
    let ends = ((moment_exactly_after_any_past past s.time zeros zeros ok).1 next is).1 then in
    let stays : (step s (event (Mark s.time) zeros zeros)).message ≡ s.message =
    ap (λ (x : State). x.message) (stepped s (Mark s.time) zeros zeros ok ∙ still s s.time.0 zeros ahead.due ahead.over) in
    not_none s.message ends.0 (sym stays ∙ ends.1))
    (λ later. lt_of_not-le later)
