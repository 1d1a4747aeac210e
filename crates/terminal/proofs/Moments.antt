-- A message at its phase: whether it awaits its first data word, and its next moment while it awaits a word. Assumes nothing.
use mathlib.Core.Path.{◌≡◌, refl, sym, ap, ◌∙◌}
use mathlib.Core.Bool.{Bool, true, false, not}
use mathlib.Core.Logic.{dite}
use Prim.Native.Nat.{ℕ}
use native.Mathlib.Nat.{lt_of_not-le}
use native.Mathlib.Decide.{dec_le}
use lib.Dec.{ltb, leb}
use borrow.Author.Tests.{le-leb, lt-leb, le-ltb, lt-ltb}
use Rattle.words.specs.Words.{awaited_of}
use Rattle.terminal.specs.States.{no_message}
use Rattle.terminal.specs.Messages.{awaits_data, is_whole, awaits_first, awaited_moment, next_moment_of}
use Rattle.terminal.specs.declared.states.Phase.{Phase}
use Rattle.terminal.specs.declared.states.Phase.TheVariants.{Idle, First, Pledged, Confirmed, Data}
use Rattle.terminal.specs.declared.states.Message.{Message}
use Rattle.words.specs.declared.times.Moment.{Moment}
use Rattle.std.specs.Prelude.{Option, None}

-- not at most is less
pub not_most : (a b : ℕ) → ltb b a ≡ not (leb a b)
not_most a b =
    dite (dec_le a b)
    (λ h. rw (le-leb a b h, le-ltb b a h) refl)
    (λ h. rw (lt-leb a b (lt_of_not-le h), lt-ltb b a (lt_of_not-le h)) refl)

-- as the code asks it
abbrev first_at : Phase → Message → Bool
first_at Idle m = false
first_at First m = false
first_at (Pledged address) m = true
first_at Confirmed m = awaits_data m
first_at Data m = false

pub first_at_lem : (m : Message) (p : Phase) (x : Bool) → m.phase ≡ p → x ≡ first_at p m → x ≡ awaits_first m
unfolding awaits_first is_whole awaits_data
first_at_lem m Idle x is h = rw is h
first_at_lem m First x is h = rw is h
first_at_lem m (Pledged address) x is h = rw is h
first_at_lem m Confirmed x is h = h ∙ (rw is (not_most (awaited_of m.command.0) m.got))
first_at_lem m Data x is h = rw is h

-- with no message there is none
pub none_never : next_moment_of no_message ≡ None
unfolding next_moment_of is_whole
none_never = refl

pub at_phase_lem : (m : Message) (p : Phase) (x : Option Moment) → is_whole m ≡ false → m.phase ≡ p → x ≡ awaited_moment p m → x ≡ next_moment_of m
unfolding next_moment_of
at_phase_lem m p x missing is h = rw missing (h ∙ sym (ap (λ (q : Phase). awaited_moment q m) is))
