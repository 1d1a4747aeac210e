-- A schedule with one message more. Assumes nothing.
use mathlib.Core.Path.{◌≡◌, refl}
use mathlib.Core.Bool.{true}
use mathlib.Core.List.{[], ◌∷◌, ◌++◌}
use Prim.Native.Nat.{ℕ, ◌≤◌, ◌<◌}
use mathlib.Core.Logic.{⊎_elim}
use native.Mathlib.Nat.{eq-or-lt_of_le}
use native.Mathlib.Omega.{arith}
use native.Mathlib.Numerals.{add-one}
use lib.ListN.{length, get_or, set, length-set}
use lib.Seq.{take-suc, take-set-le, get_or-set_same}
use borrow.Author.Tests.{le-leb, lt-leb}
use Rattle.schedule.specs.Messages.{messages_most, messages_in, count_after, with_of, is_refused}
use Rattle.schedule.specs.Theorems.{OneMore}
use Rattle.schedule.specs.declared.messages.Message.{Message}
use Rattle.schedule.specs.declared.schedules.Schedule.{Schedule}

behind : (s : Schedule) (m : Message) → length s.messages ≡ messages_most → s.count < messages_most
    → messages_in (with_of s m) ≡ messages_in s ++ (m ∷ [])
unfolding with_of count_after
behind s m room below =
    let inside : s.count < length (set s.messages s.count m) = rw (length-set s.messages s.count m) (omega (arith, room)) in
    let last : get_or (set s.messages s.count m) s.count m ≡ m = get_or-set_same s.messages s.count m m (omega (arith, room)) in
    rw (
      le-leb s.count 64 (omega arith),
      add-one s.count,
      take-suc (set s.messages s.count m) s.count m inside,
      take-set-le s.count s.messages s.count m (omega arith),
      last,
    ) refl

past : (n : ℕ) → messages_most ≤ n → messages_most < count_after n
unfolding count_after
past n h =
    ⊎_elim
    (λ same. rw (le-leb n 64 (omega (arith, same))) (omega (arith, same)))
    (λ more. rw (lt-leb n 64 more) more)
    (eq-or-lt_of_le h)

too_many : (s : Schedule) (m : Message) → messages_most ≤ s.count → is_refused (with_of s m) ≡ true
unfolding is_refused with_of
too_many s m h = rw (lt-leb (count_after s.count) 64 (past s.count h)) refl

pub one_more_lem : OneMore
one_more_lem s m room = (behind s m room, too_many s m)
