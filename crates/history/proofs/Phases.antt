-- Which messages are under way, and when the time of one is over, by its phase. Assumes nothing.
use mathlib.Core.Path.{◌≡◌, refl, ap}
use Prim.Native.Nat.{ℕ, ◌+◌, ◌≤◌}
use mathlib.Core.Bool.{Bool, true, false, ◌||◌, and-false, or-false}
use native.Mathlib.Omega.{arith}
use lib.Dec.{ltb, leb}
use borrow.Author.Tests.{leb-false, ltb-true, lt-ltb, lt-leb}
use Rattle.words.specs.Words.{spacing_most, awaited_of}
use Rattle.terminal.specs.Messages.{is_under_way, is_counting, awaits_data, is_whole, is_due, is_late, is_between, awaits_first, first_word_distance, is_overdue, is_over}
use Rattle.terminal.specs.declared.states.Phase.{Phase}
use Rattle.terminal.specs.declared.states.Phase.TheVariants.{Idle, First, Pledged, Confirmed, Data}
use Rattle.terminal.specs.declared.states.Message.{Message}
use Rattle.history.specs.States.{is_opening}
use Rattle.history.proofs.Tests.{and_left, and_right, or_cases}

-- one that counts data words
pub counting_under_way : (p : Phase) → is_counting p ≡ true → is_under_way p ≡ true
counting_under_way Idle h = h
counting_under_way First h = h
counting_under_way (Pledged address) h = refl
counting_under_way Confirmed h = h
counting_under_way Data h = h

-- one before its first data word
pub opening_under_way : (p : Phase) → is_opening p ≡ true → is_under_way p ≡ true
opening_under_way Idle h = h
opening_under_way First h = h
opening_under_way (Pledged address) h = h
opening_under_way Confirmed h = h
opening_under_way Data h = refl

-- one that awaits a data word
pub awaits_under_way : (m : Message) → awaits_data m ≡ true → is_under_way m.phase ≡ true
unfolding awaits_data
awaits_under_way m awaits = search (counting_under_way, and_left)

-- and it is not whole
pub awaits_missing : (m : Message) → awaits_data m ≡ true → is_whole m ≡ false
unfolding awaits_data is_whole
awaits_missing m awaits =
    let counts : is_counting m.phase ≡ true = search (and_left, awaits) in
    let less : ltb m.got (awaited_of m.command.0) ≡ true = search (and_right, awaits) in
    rw (counts, lt-leb (awaited_of m.command.0) m.got (ltb-true m.got (awaited_of m.command.0) less))

-- nor is one without a data word whose command awaits some
pub none_missing : (m : Message) (word : ℕ) → m.command.0 ≡ word → 1 ≤ awaited_of word → m.got ≡ 0 → is_whole m ≡ false
unfolding is_whole
none_missing m word asked some none = rw (asked, none, lt-leb (awaited_of word) 0 (omega (arith, some))) (and-false (is_counting m.phase))

-- one that is due
pub due_under_way : (m : Message) (t : ℕ) → is_due m t ≡ true → is_under_way m.phase ≡ true
unfolding is_due is_whole
due_under_way m t due = search (counting_under_way, and_left)

-- one between terminals
between_under_way : (p : Phase) → is_between p ≡ true → is_under_way p ≡ true
between_under_way Idle h = h
between_under_way First h = refl
between_under_way (Pledged address) h = h
between_under_way Confirmed h = h
between_under_way Data h = refl

-- one whose time is over
pub over_under_way : (m : Message) (t : ℕ) → is_over m t ≡ true → is_under_way m.phase ≡ true
unfolding is_late is_overdue awaits_first
over_under_way m t over =
    or_cases (is_late m t) (is_overdue m t) over (λ late. search (awaits_under_way, and_left)) (λ overdue. search (between_under_way, and_left))

-- ---- what a message that is not whole waits for, by its phase

abbrev pub over_at : Phase → Message → ℕ → Bool
over_at Idle m t = false
over_at First m t = ltb (m.last.0 + spacing_most) t
over_at (Pledged address) m t = ltb (m.start.0 + first_word_distance) t
over_at Confirmed m t = ltb (m.last.0 + spacing_most) t || ltb (m.start.0 + first_word_distance) t
over_at Data m t = ltb (m.last.0 + spacing_most) t

module _ (m : Message) (missing : is_whole m ≡ false) where
  pub not_due : (t : ℕ) → is_due m t ≡ false
  unfolding is_due
  not_due t = rw missing refl

  -- one that counts its data words awaits one
  pub counts_awaits : is_counting m.phase ≡ true → awaits_data m ≡ true
  unfolding awaits_data is_whole
  counts_awaits counts =
      let less : leb (awaited_of m.command.0) m.got ≡ false = rw counts at missing in
      rw (counts, lt-ltb m.got (awaited_of m.command.0) (leb-false (awaited_of m.command.0) m.got less)) refl

  late_at : (t : ℕ) → is_counting m.phase ≡ true → is_late m t ≡ ltb (m.last.0 + spacing_most) t
  unfolding is_late
  late_at t counts = rw (counts_awaits counts) refl

  uncounted : (t : ℕ) → is_counting m.phase ≡ false → is_late m t ≡ false
  unfolding is_late awaits_data
  uncounted t not = rw not refl

  overdue_at : (t : ℕ) → is_between m.phase ≡ true → is_overdue m t ≡ ltb (m.start.0 + first_word_distance) t
  unfolding is_overdue awaits_first
  overdue_at t between = rw (between, missing) refl

  direct : (t : ℕ) → is_between m.phase ≡ false → is_overdue m t ≡ false
  unfolding is_overdue awaits_first
  direct t not = rw not refl

  pub over_at_lem : (p : Phase) (t : ℕ) → m.phase ≡ p → is_over m t ≡ over_at p m t
  over_at_lem Idle t is = rw (uncounted t (ap is_counting is), direct t (ap is_between is)) refl
  over_at_lem First t is = rw (late_at t (ap is_counting is), direct t (ap is_between is)) (or-false (ltb (m.last.0 + spacing_most) t))
  over_at_lem (Pledged address) t is = rw (uncounted t (ap is_counting is), overdue_at t (ap is_between is)) refl
  over_at_lem Confirmed t is = rw (late_at t (ap is_counting is), overdue_at t (ap is_between is)) refl
  over_at_lem Data t is = rw (late_at t (ap is_counting is), direct t (ap is_between is)) (or-false (ltb (m.last.0 + spacing_most) t))
