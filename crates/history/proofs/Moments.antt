-- The next moment is that at which time alone matters. Assumes nothing.
use mathlib.Core.Path.{◌≡◌, refl, sym, ap, ◌∙◌}
use Prim.Native.Nat.{ℕ, ◌+◌, ◌^◌, ◌≤◌, ◌<◌}
use mathlib.Core.Bool.{Bool, true, false, not, or-true}
use mathlib.Core.List.{List}
use mathlib.Core.Logic.{dite}
use native.Mathlib.Nat.{lt_of_not-le}
use native.Mathlib.Decide.{dec_le}
use native.Mathlib.Omega.{arith}
use lib.Dec.{ltb, leb}
use borrow.Author.Tests.{le-leb, lt-leb, le-ltb, ltb-true, lt-ltb}
use Rattle.words.specs.Words.{due_distance, plus_of}
use Rattle.words.specs.declared.times.Moment.{Moment}
use Rattle.words.proofs.Sums.{plus_fits, plus_stays}
use Rattle.terminal.specs.Messages.{is_whole, is_due, is_over, late_moment, overdue_moment, earlier_of, awaited_moment, next_moment_of}
use Rattle.terminal.specs.Rules.{rule1_answer, rule1_receive}
use Rattle.terminal.specs.Events.{happens_of}
use Rattle.terminal.specs.declared.states.Phase.{Phase}
use Rattle.terminal.specs.declared.states.Phase.TheVariants.{Idle, First, Pledged, Confirmed, Data}
use Rattle.terminal.specs.declared.states.Message.{Message}
use Rattle.terminal.specs.declared.states.Terminal.{Terminal as State}
use Rattle.terminal.specs.declared.events.Event.TheVariants.{Mark}
use Rattle.history.specs.Calls.{is_accepted}
use Rattle.history.specs.Demands.{Passes, EndsMessage, MomentExactly}
use Rattle.history.proofs.Tests.{true≢}
use Rattle.history.proofs.Steps.{accepted, accepted_table, stepped, shown}
use Rattle.history.proofs.Phases.{due_under_way, over_under_way, over_at, not_due, over_at_lem}
use Rattle.history.proofs.Passing.{still, due_ends}
use Rattle.history.proofs.Faults.{over_missing}
use Rattle.history.proofs.Polling.{over_ends}
use Rattle.std.specs.Prelude.{Option, Some, None}

-- ---- a sum that may pass 64 bits, against a time on the clock

module _ (a k t : ℕ) where
  before_plus : t < plus_of a k → t < a + k
  before_plus before =
      dite (dec_le (2 ^ 64) (a + k))
      (λ wide. omega (arith, wide, rw (plus_stays a k wide) at before))
      (λ narrow. rw (plus_fits a k (lt_of_not-le narrow)) at before)

  after_plus : t < 2 ^ 48 → plus_of a k ≤ t → a + k ≤ t
  after_plus clock after =
      dite (dec_le (2 ^ 64) (a + k))
      (λ wide. absurd (omega (arith, clock, rw (plus_stays a k wide) at after)))
      (λ narrow. rw (plus_fits a k (lt_of_not-le narrow)) at after)

-- ---- a moment, or none

-- which it is
abbrev number_in : Option Moment → ℕ
number_in (Some m) = m.0
number_in None = 0

at_is : {a : ℕ} {next : Moment} → Some (record { 0 = a }) ≡ Some next → next.0 ≡ a
at_is is = sym (ap number_in is)

abbrev is_never : Option Moment → Bool
is_never (Some m) = false
is_never None = true

never_at : {next : Moment} → None ≡ Some next → ⊥
never_at is = true≢ (ap is_never is)

-- ---- the earlier of two

earlier_both : (a b t : ℕ) → t < earlier_of a b → (t < a) × (t < b)
earlier_both a b t before =
    dite (dec_le a b)
    (λ h. let first : t < a = rw (le-leb a b h) at before in (first, omega (arith, first, h)))
    (λ h. let other : t < b = rw (lt-leb a b (lt_of_not-le h)) at before in (omega (arith, other, lt_of_not-le h), other))

earlier_either : {P : Type 0} (a b t : ℕ) → earlier_of a b ≤ t → (a ≤ t → P) → (b ≤ t → P) → P
earlier_either a b t after p q =
    dite (dec_le a b)
    (λ h. p (rw (le-leb a b h) at after))
    (λ h. q (rw (lt-leb a b (lt_of_not-le h)) at after))

-- ---- its moment, by its phase

module _ (m : Message) where
  -- before its moment its time is not over, at it and later it is
  not_yet : (p : Phase) (t : ℕ) (next : Moment) → awaited_moment p m ≡ Some next → t < next.0 → over_at p m t ≡ false
  not_yet Idle t next is before = refl
  not_yet First t next is before = le-ltb (m.last.0 + 205) t (omega (arith, before_plus m.last.0 206 t (rw (at_is is) at before)))
  not_yet (Pledged address) t next is before = le-ltb (m.start.0 + 750) t (omega (arith, before_plus m.start.0 751 t (rw (at_is is) at before)))
  not_yet Confirmed t next is before =
      let both = earlier_both (late_moment m) (overdue_moment m) t (rw (at_is is) at before) in
      rw (le-ltb (m.last.0 + 205) t (omega (arith, before_plus m.last.0 206 t both.0)), le-ltb (m.start.0 + 750) t (omega (arith, before_plus m.start.0 751 t both.1))) refl
  not_yet Data t next is before = le-ltb (m.last.0 + 205) t (omega (arith, before_plus m.last.0 206 t (rw (at_is is) at before)))

  by_then : (p : Phase) (t : ℕ) (next : Moment) → t < 2 ^ 48 → awaited_moment p m ≡ Some next → next.0 ≤ t → over_at p m t ≡ true
  by_then Idle t next clock is after = absurd (never_at is)
  by_then First t next clock is after = lt-ltb (m.last.0 + 205) t (omega (arith, after_plus m.last.0 206 t clock (rw (at_is is) at after)))
  by_then (Pledged address) t next clock is after = lt-ltb (m.start.0 + 750) t (omega (arith, after_plus m.start.0 751 t clock (rw (at_is is) at after)))
  by_then Confirmed t next clock is after =
      earlier_either (late_moment m) (overdue_moment m) t (rw (at_is is) at after)
      (λ late. rw (lt-ltb (m.last.0 + 205) t (omega (arith, after_plus m.last.0 206 t clock late))) refl)
      (λ overdue. rw (lt-ltb (m.start.0 + 750) t (omega (arith, after_plus m.start.0 751 t clock overdue))) (or-true (ltb (m.last.0 + 205) t)))
  by_then Data t next clock is after = lt-ltb (m.last.0 + 205) t (omega (arith, after_plus m.last.0 206 t clock (rw (at_is is) at after)))

-- ---- a time mark

module _ (s : State) (t : Moment) (receive transmit : List ℕ) (ok : is_accepted s (Mark t) receive transmit ≡ true) where
  -- where nothing is due and no time over it does nothing
  passes : is_due s.message t.0 ≡ false → is_over s.message t.0 ≡ false → Passes s t receive transmit
  unfolding happens_of rule1_answer rule1_receive
  passes due over = (
    rw (accepted s (Mark t) receive transmit ok, due, still s t.0 transmit due over) refl,
    rw (accepted_table s (Mark t) receive transmit ok, due) refl,
  )

  settles : is_due s.message t.0 ≡ true → EndsMessage s t receive transmit
  settles due = (
    due_under_way s.message t.0 due,
    ap (λ (x : State). x.message) (stepped s (Mark t) receive transmit ok) ∙ due_ends s t.0 transmit due,
  )

  faults : is_over s.message t.0 ≡ true → EndsMessage s t receive transmit
  faults over = (
    over_under_way s.message t.0 over,
    ap (λ (x : State). x.message) (stepped s (Mark t) receive transmit ok) ∙ over_ends s transmit t.0 over,
  )

  clock : t.0 < 2 ^ 48
  clock = ltb-true t.0 (2 ^ 48) (shown s (Mark t) receive transmit ok).ranged

  -- a whole message: its moment is its due time
  module _ (whole : is_whole s.message ≡ true) where
    never_over : is_over s.message t.0 ≡ false
    never_over = go (is_over s.message t.0) refl
      where
        go : (b : Bool) → is_over s.message t.0 ≡ b → b ≡ false
        go true over = true≢ (sym whole ∙ over_missing s.message t.0 over)
        go false not = refl

    due_at : is_due s.message t.0 ≡ leb (s.message.last.0 + due_distance) t.0
    unfolding is_due
    due_at = rw whole refl

    whole_told : next_moment_of s.message ≡ Some (record { 0 = plus_of s.message.last.0 due_distance })
    unfolding next_moment_of
    whole_told = rw whole refl

    whole_before : (next : Moment) → next_moment_of s.message ≡ Some next → t.0 < next.0 → Passes s t receive transmit
    whole_before next is before =
        let last : ℕ = s.message.last.0 in
        passes (due_at ∙ lt-leb (last + due_distance) t.0 (before_plus last due_distance t.0 (rw (at_is (sym whole_told ∙ is)) at before))) never_over

    whole_then : (next : Moment) → next_moment_of s.message ≡ Some next → next.0 ≤ t.0 → EndsMessage s t receive transmit
    whole_then next is after =
        let last : ℕ = s.message.last.0 in
        settles (due_at ∙ le-leb (last + due_distance) t.0 (after_plus last due_distance t.0 clock (rw (at_is (sym whole_told ∙ is)) at after)))

  -- one that is not: that of its phase
  module _ (missing : is_whole s.message ≡ false) where
    told : next_moment_of s.message ≡ awaited_moment s.message.phase s.message
    unfolding next_moment_of
    told = rw missing refl

    over_here : is_over s.message t.0 ≡ over_at s.message.phase s.message t.0
    over_here = over_at_lem s.message missing s.message.phase t.0 refl

    missing_never : next_moment_of s.message ≡ None → Passes s t receive transmit
    missing_never is =
        passes (not_due s.message missing t.0) (over_here ∙ idle_over s.message.phase (sym told ∙ is))
      where
        idle_over : (p : Phase) → awaited_moment p s.message ≡ None → over_at p s.message t.0 ≡ false
        idle_over Idle e = refl
        idle_over First e = absurd (never_at (sym e))
        idle_over (Pledged address) e = absurd (never_at (sym e))
        idle_over Confirmed e = absurd (never_at (sym e))
        idle_over Data e = absurd (never_at (sym e))

    missing_before : (next : Moment) → next_moment_of s.message ≡ Some next → t.0 < next.0 → Passes s t receive transmit
    missing_before next is before =
        passes (not_due s.message missing t.0)
        (over_here ∙ not_yet s.message s.message.phase t.0 next (sym told ∙ is) before)

    missing_then : (next : Moment) → next_moment_of s.message ≡ Some next → next.0 ≤ t.0 → EndsMessage s t receive transmit
    missing_then next is after = faults (over_here ∙ by_then s.message s.message.phase t.0 next clock (sym told ∙ is) after)

pub moment_exactly : MomentExactly
moment_exactly s t receive transmit ok = go (is_whole s.message) refl
  where
    go : (b : Bool) → is_whole s.message ≡ b
        → (next_moment_of s.message ≡ None → Passes s t receive transmit)
        × ((next : Moment) → next_moment_of s.message ≡ Some next
        → (t.0 < next.0 → Passes s t receive transmit) × (next.0 ≤ t.0 → EndsMessage s t receive transmit))
    go true whole = (
      λ is. absurd (never_at (sym is ∙ whole_told s t receive transmit ok whole)),
      λ next is. (whole_before s t receive transmit ok whole next is, whole_then s t receive transmit ok whole next is),
    )
    go false missing = (
      missing_never s t receive transmit ok missing,
      λ next is. (missing_before s t receive transmit ok missing next is, missing_then s t receive transmit ok missing next is),
    )
