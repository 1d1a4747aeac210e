-- No message waits longer than it may for its first data word, and the host is told so. Assumes nothing.
use mathlib.Core.Path.{◌≡◌, refl, sym, ap, ◌∙◌}
use Prim.Native.Nat.{ℕ, ◌+◌, ◌-◌, ◌^◌, ◌≤◌, ◌<◌}
use mathlib.Core.Bool.{true, false, or-true, and-false}
use mathlib.Core.List.{List}
use mathlib.Core.Logic.{dite}
use native.Mathlib.Nat.{lt_of_not-le}
use native.Mathlib.Decide.{dec_le}
use native.Mathlib.Omega.{arith}
use lib.Dec.{ltb, leb}
use borrow.Author.Tests.{lt-leb, ltb-true, lt-ltb, leb-true}
use Rattle.words.specs.Words.{plus_of, is_transmit, awaited_of}
use Rattle.words.proofs.Sums.{plus_fits, plus_stays}
use Rattle.records.specs.declared.forms.WordRecord.{WordRecord}
use Rattle.terminal.specs.States.{moment_in}
use Rattle.terminal.specs.Commands.{is_exempt}
use Rattle.terminal.specs.Messages.{is_under_way, is_whole, is_between, is_over, late_moment, overdue_moment, earlier_of, awaited_moment}
use Rattle.terminal.specs.Rules.{rule1_receive, begun_of, staged_of, moved_of}
use Rattle.terminal.specs.Events.{time_of}
use Rattle.terminal.specs.declared.states.Own.{Own}
use Rattle.terminal.specs.declared.states.Phase.{Phase}
use Rattle.terminal.specs.declared.states.Phase.TheVariants.{Idle, First, Pledged, Confirmed, Data}
use Rattle.terminal.specs.declared.states.Message.{Message}
use Rattle.terminal.specs.declared.states.Terminal.{Terminal as State}
use Rattle.terminal.specs.declared.events.Event.TheVariants.{Word}
use Rattle.terminal.proofs.Moments.{at_phase_lem}
use Rattle.history.specs.Calls.{Call, event, step, run}
use Rattle.history.specs.States.{marks_fault}
use Rattle.history.specs.Exchanges.{Waits, NotPast, moment_while}
use Rattle.history.specs.Demands.{NeverWaitsLonger, WaitIsTold, WaitExactly}
use Rattle.history.proofs.Tests.{true≢, false≢, cond_cases}
use Rattle.history.proofs.Steps.{accepted_table, shown, record_on_clock}
use Rattle.history.proofs.Phases.{none_missing, over_at, over_at_lem}
use Rattle.history.proofs.Ways.{still_answer}
use Rattle.history.proofs.Running.{run_holds}
use Rattle.history.proofs.Idle.{event_idle}
use Rattle.history.proofs.Faults.{fault_either, over_not_due}
use Rattle.history.proofs.Polling.{over_ends}
use Rattle.history.proofs.Wiping.{event_marks}
use Rattle.history.proofs.Replacing.{own_begins}
use Rattle.history.proofs.Questions.{run_keeps, own_keeps}
use Rattle.words.specs.declared.times.Moment.{Moment}
use Rattle.std.specs.Prelude.{Option, Some}

-- ---- the message that an own command began

-- its command, the time of that, and, while no data word and no second command word has come, the time of its last word
record Tracks (r : WordRecord) (m : Message) : Type 0 where
  start : m.start.0 ≡ r.time.0
  asked : m.command.0 ≡ r.word
  fresh : m.got ≡ 0 → is_between m.phase ≡ false → m.last.0 ≡ r.time.0

abbrev Tracked : WordRecord → Message → Type 0
Tracked r m = is_under_way m.phase ≡ true → Tracks r m

-- calls without another own command leave it so
module _ (r : WordRecord) where
  staged_tracked : (x : WordRecord) (m : Message) → is_under_way m.phase ≡ true → Tracked r m → Tracked r (staged_of m x)
  unfolding staged_of
  staged_tracked x m under h on =
      let before = h under in
      record { start = before.start; asked = before.asked; fresh = λ got direct. absurd (omega (arith, got)) }

  moved_tracked : (x : WordRecord) (m : Message) (p : Phase) → is_between p ≡ true → is_under_way m.phase ≡ true → Tracked r m → Tracked r (moved_of m p x)
  unfolding moved_of
  moved_tracked x m p between under h on =
      let before = h under in
      record { start = before.start; asked = before.asked; fresh = λ got direct. true≢ (sym between ∙ direct) }

  begun_tracked : Tracked r (begun_of r)
  unfolding begun_of
  begun_tracked on = record { start = refl; asked = refl; fresh = λ got direct. refl }

module _ (s : State) (r : WordRecord) (receive transmit : List ℕ) (ks : List Call) (w : Waits s r receive transmit ks) where
  abbrev waiting : State
  waiting = run (step s (event (Word r) receive transmit)) ks

  tracked : Tracks r waiting.message
  unfolding step
  tracked =
      let begun : (step s (event (Word r) receive transmit)).message ≡ begun_of r = (own_begins s r receive transmit w.accepted w.own w.quiet).message in
      run_holds (Tracked r) (λ on. false≢ on) (staged_tracked r) (moved_tracked r) (step s (event (Word r) receive transmit)) ks
      (rw begun (begun_tracked r)) w.alone w.under_way

-- ---- a message that awaits its first data word

-- one that awaits data words is no exempt command
awaits_receives : (word : ℕ) → 1 ≤ awaited_of word → is_transmit word ≡ false
unfolding awaited_of
awaits_receives word = cond_cases (λ (n : ℕ). 1 ≤ n → is_transmit word ≡ false) (is_transmit word) (λ is some. absurd (omega (arith, some))) (λ not some. not)

receives_plain : (own : Own) (word : ℕ) → is_transmit word ≡ false → is_exempt own word ≡ false
unfolding is_exempt
receives_plain own word receives = rw (receives, and-false)

module _ (r : WordRecord) (m : Message) (tracks : Tracks r m) (under : is_under_way m.phase ≡ true) (none : m.got ≡ 0) (some : 1 ≤ awaited_of r.word) where
  missing : is_whole m ≡ false
  missing = none_missing m r.word tracks.asked some none

  -- its time is over more than 750 after its command
  first_over : (t : ℕ) → r.time.0 + 750 < t → is_over m t ≡ true
  first_over t past = over_at_lem m missing m.phase t refl ∙ go m.phase refl
    where
      late : is_between m.phase ≡ false → ltb (m.last.0 + 205) t ≡ true
      late direct = lt-ltb (m.last.0 + 205) t (omega (arith, past, tracks.fresh none direct))

      overdue : ltb (m.start.0 + 750) t ≡ true
      overdue = lt-ltb (m.start.0 + 750) t (omega (arith, past, tracks.start))

      go : (p : Phase) → m.phase ≡ p → over_at p m t ≡ true
      go Idle is = false≢ (ap is_under_way (sym is) ∙ under)
      go First is = late (ap is_between is)
      go (Pledged address) is = overdue
      go Confirmed is = rw overdue (or-true (ltb (m.last.0 + 205) t))
      go Data is = late (ap is_between is)

-- ---- it ends, faulty

pub never_waits_longer : NeverWaitsLonger
unfolding rule1_receive
never_waits_longer s r receive transmit ks w e receive' transmit' ok past =
    let x : State = run (step s (event (Word r) receive transmit)) ks in
    let tracks = tracked s r receive transmit ks w in
    let over = first_over r x.message tracks w.under_way w.none w.awaits (time_of e) past in
    let plain : is_exempt x.setup.own x.message.command.0 ≡ false =
    rw tracks.asked (receives_plain x.setup.own r.word (awaits_receives r.word w.awaits)) in
    let not_due = over_not_due x.message (time_of e) over in
    let marks : marks_fault x e transmit' ≡ true = rw (plain, fault_either x e transmit', over) refl in
    record {
      marks = marks;
      status = λ outside. (event_marks x e receive' transmit' ok marks outside).holds;
      silent = still_answer x e receive' transmit' ok not_due;
      table = rw (accepted_table x e receive' transmit' ok, not_due) refl;
      over = λ foreign. event_idle x e receive' transmit' ok foreign (over_ends x transmit' (time_of e) over);
    }

-- ---- and the host is told

earlier_most : (a b : ℕ) → earlier_of a b ≤ b
earlier_most a b = cond_cases (λ (n : ℕ). n ≤ b) (leb a b) (λ first. leb-true a b first) (λ other. omega arith)

-- the earlier of a sum that may pass 64 bits and a number below their last
earlier_plus : (a k n : ℕ) → n < 2 ^ 64 - 1 → earlier_of (plus_of a k) n ≡ earlier_of (a + k) n
earlier_plus a k n fits =
    dite (dec_le (2 ^ 64) (a + k))
    (λ wide. rw (plus_stays a k wide, lt-leb (2 ^ 64 - 1) n fits, lt-leb (a + k) n (omega (arith, wide, fits))) refl)
    (λ narrow. rw (plus_fits a k (lt_of_not-le narrow)) refl)

module _ (s : State) (r : WordRecord) (receive transmit : List ℕ) (ks : List Call) (w : Waits s r receive transmit ks) where
  abbrev its : Message
  its = (run (step s (event (Word r) receive transmit)) ks).message

  -- its command was on the clock
  clock : r.time.0 < 2 ^ 48
  clock = ltb-true r.time.0 (2 ^ 48) (record_on_clock r (shown s (Word r) receive transmit w.accepted).ranged)

  late : is_between its.phase ≡ false → late_moment its ≡ r.time.0 + 206
  late direct = rw ((tracked s r receive transmit ks w).fresh w.none direct) (plus_fits r.time.0 206 (omega (arith, clock)))

  overdue : overdue_moment its ≡ r.time.0 + 751
  overdue = rw (tracked s r receive transmit ks w).start (plus_fits r.time.0 751 (omega (arith, clock)))

  while : (p : Phase) → its.phase ≡ p → awaited_moment p its ≡ moment_while p r.time.0 its.last.0
  while Idle is = refl
  while First is = rw (late (ap is_between is)) refl
  while (Pledged address) is = rw overdue refl
  while Confirmed is =
      ap {B = Option Moment} (λ (n : ℕ). Some (record { 0 = n }))
      (ap (earlier_of (late_moment its)) overdue ∙ earlier_plus its.last.0 206 (r.time.0 + 751) (omega (arith, clock)))
  while Data is = rw (late (ap is_between is)) refl

  told_while : moment_in (run (step s (event (Word r) receive transmit)) ks) ≡ moment_while its.phase r.time.0 its.last.0
  told_while =
      run_keeps (step s (event (Word r) receive transmit)) ks (own_keeps s r receive transmit w.accepted w.own w.quiet)
      ∙ sym (at_phase_lem its its.phase (awaited_moment its.phase its) (missing r its (tracked s r receive transmit ks w) w.under_way w.none w.awaits) refl refl)
      ∙ while its.phase refl

pub wait_exactly : WaitExactly
wait_exactly = told_while

-- none of these is past the limit
while_most : (p : Phase) (start last : ℕ) → is_under_way p ≡ true → NotPast (start + 751) (moment_while p start last)
while_most Idle start last under = false≢ under
while_most First start last under = record { moment = _; told = refl; most = omega arith }
while_most (Pledged address) start last under = record { moment = _; told = refl; most = omega arith }
while_most Confirmed start last under = record { moment = _; told = refl; most = earlier_most (last + 206) (start + 751) }
while_most Data start last under = record { moment = _; told = refl; most = omega arith }

pub wait_is_told : WaitIsTold
wait_is_told s r receive transmit ks w =
    let m : Message = its s r receive transmit ks w in
    rw (told_while s r receive transmit ks w) (while_most m.phase r.time.0 m.last.0 w.under_way)
