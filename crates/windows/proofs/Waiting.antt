-- The bytes that wait, as the code finds them, and what becomes of them. Assumes nothing.
use mathlib.Core.Path.{◌≡◌, refl, sym, ap, ap₂, ◌∙◌}
use Prim.Native.Nat.{ℕ, zero, suc, ◌+◌, ◌-◌, ◌≤◌, min}
use native.Mathlib.Nat.{lt_of_not-le}
use native.Mathlib.Omega.{arith}
use native.Mathlib.Decide.{dec_le}
use mathlib.Core.Logic.{dite}
use mathlib.Core.List.{List, [], ◌∷◌, ◌++◌}
use lib.ListN.{length, take, drop, length-append, length-take, length-drop, drop_of_length-le}
use lib.Seq.{length-take-le, take_all, take-nil, take_at, take-add, take-append-add, take-append_seam, drop-drop, drop-append-add}
use Rattle.windows.specs.Windows.{count_of, waiting_in, after_taking, front_window, front_room, with_more, taken_of, filled_of, filled_room}
use Rattle.windows.specs.Theorems.{EmptyWaits, WaitingCount, TakenWaits, TakenCount, TakenInside, BehindWaits, FrontWaits, MoreWaits, FilledWaits, FilledFew, FilledSome}
use Rattle.windows.specs.declared.windows.Window.{Window}

-- ---- parts of a list

pub drop_take : (m n : ℕ) (s : List ℕ) → drop m (take n s) ≡ take (n - m) (drop m s)
drop_take zero n s = ap (λ (k : ℕ). take k s) {x = n} {y = n - 0} (omega arith)
drop_take (suc m) zero s = ap (λ (k : ℕ). take k (drop (suc m) s)) {x = 0} {y = 0 - suc m} (omega arith)
drop_take (suc m) (suc n) [] = sym (take-nil (suc n - suc m))
drop_take (suc m) (suc n) (x ∷ s) = drop_take m n s ∙ ap (λ (k : ℕ). take k (drop m s)) {x = n - m} {y = suc n - suc m} (omega arith)

-- ---- as the code finds them

module _ (w : Window) (room : List ℕ) (end begin : ℕ) (e : end ≡ min w.to (length room)) (b : begin ≡ min w.from end) where
  -- all that wait, also where the places are none of the room's
  pub found : take (end - begin) (drop begin room) ≡ waiting_in w room
  found =
      dite (dec_le w.from end)
      (λ l.
      let begin_is : begin ≡ w.from = omega arith in
      dite (dec_le w.to (length room))
      (λ inside. ap₂ (λ (n m : ℕ). take n (drop m room)) {x = end - begin} {y = w.to - w.from} (omega arith) begin_is)
      (λ past.
      take_all (end - begin) (drop begin room) (omega (arith, lt_of_not-le past, length-drop begin room))
      ∙ ap (λ (m : ℕ). drop m room) begin_is
      ∙ sym (take_all (w.to - w.from) (drop w.from room) (omega (arith, lt_of_not-le past, length-drop w.from room)))))
      (λ above.
      let far = lt_of_not-le above in
      ap (λ (n : ℕ). take n (drop begin room)) {x = end - begin} {y = 0} (omega arith)
      ∙ dite (dec_le w.to (length room))
      (λ inside. ap (λ (n : ℕ). take n (drop w.from room)) {x = 0} {y = w.to - w.from} (omega arith))
      (λ past.
      sym (take-nil (w.to - w.from))
      ∙ ap (take (w.to - w.from)) (sym (drop_of_length-le room {i = w.from} (omega (arith, lt_of_not-le past))))))

  found_length : length (waiting_in w room) ≡ end - begin
  found_length = ap length (sym found) ∙ length-take-le (end - begin) (drop begin room) (omega (arith, length-drop begin room))

  pub front_window_lem : record { from = 0; to = end - begin } ≡ front_window w room
  unfolding front_window
  front_window_lem = ap (λ (n : ℕ). record { from = 0; to = n }) (sym found_length)

  pub front_room_lem : (moved : List ℕ) → moved ≡ take (end - begin) (drop begin room) ++ drop (end - begin) room → moved ≡ front_room w room
  unfolding front_room
  front_room_lem moved m = m ∙ ap₂ (λ (s : List ℕ) (n : ℕ). s ++ drop n room) found (sym found_length)

-- ---- what waits

pub empty_waits : EmptyWaits
empty_waits room = refl

pub waiting_count : WaitingCount
waiting_count w room l = length-take-le (w.to - w.from) (drop w.from room) (omega (arith, length-drop w.from room))

pub taken_waits : TakenWaits
unfolding after_taking
taken_waits w room taken =
    dite (dec_le taken (count_of w))
    (λ few.
    let from_is : w.from + min taken (count_of w) ≡ w.from + taken = omega arith in
    ap₂ (λ (n m : ℕ). take n (drop m room)) {x = w.to - (w.from + min taken (count_of w))} {y = w.to - w.from - taken} (omega arith) from_is
    ∙ ap (take (w.to - w.from - taken)) (sym (drop-drop taken w.from room))
    ∙ sym (drop_take taken (w.to - w.from) (drop w.from room)))
    (λ many.
    ap (λ (n : ℕ). take n (drop (w.from + min taken (count_of w)) room)) {x = w.to - (w.from + min taken (count_of w))} {y = 0} (omega (arith, lt_of_not-le many))
    ∙ sym (drop_of_length-le (waiting_in w room) {i = taken} (omega (arith, lt_of_not-le many, length-take (w.to - w.from) (drop w.from room)))))

pub taken_count : TakenCount
unfolding after_taking
taken_count w taken = omega arith

pub taken_inside : TakenInside
unfolding after_taking
taken_inside w room taken l = l

pub behind_waits : BehindWaits
behind_waits w room room' e =
    sym (drop_take w.from w.to room') ∙ ap (drop w.from) e ∙ drop_take w.from w.to room

-- no more wait than the room has
pub waiting_few : (w : Window) (room : List ℕ) → length (waiting_in w room) ≤ length room
waiting_few w room = omega (arith, length-take (w.to - w.from) (drop w.from room), length-drop w.from room)

pub front_waits : FrontWaits
unfolding front_window front_room
front_waits w room =
    let s = waiting_in w room in
    let rest = drop (length s) room in
    let size : length (s ++ rest) ≡ length room = omega (arith, length-append s rest, length-drop (length s) room, waiting_few w room) in
    record {
      forward = omega arith;
      inside = omega (arith, size, waiting_few w room);
      same_size = size;
      waiting = take_at s rest (length s - 0) (omega arith);
    }

pub more_waits : MoreWaits
unfolding with_more
more_waits w room came forward inside =
    let n = min came (length room - w.to) in
    let behind : drop (w.to - w.from) (drop w.from room) ≡ drop w.to room =
    drop-drop (w.to - w.from) w.from room ∙ ap (λ (k : ℕ). drop k room) {x = w.from + (w.to - w.from)} {y = w.to} (omega arith) in
    let few : take n (drop w.to room) ≡ take came (drop w.to room) =
    dite (dec_le came (length room - w.to))
    (λ l. ap (λ (k : ℕ). take k (drop w.to room)) {x = n} {y = came} (omega arith))
    (λ many.
    take_all n (drop w.to room) (omega (arith, lt_of_not-le many, length-drop w.to room))
    ∙ sym (take_all came (drop w.to room) (omega (arith, lt_of_not-le many, length-drop w.to room)))) in
    record {
      forward = omega arith;
      inside = omega arith;
      same_size = refl;
      waiting =
          ap (λ (k : ℕ). take k (drop w.from room)) {x = w.to + n - w.from} {y = w.to - w.from + n} (omega arith)
          ∙ take-add (w.to - w.from) n (drop w.from room)
          ∙ ap (λ (k : List ℕ). waiting_in w room ++ take n k) behind
          ∙ ap (λ (k : List ℕ). waiting_in w room ++ k) few;
    }

-- ---- a chunk

pub filled_waits : FilledWaits
unfolding filled_of filled_room
filled_waits w room chunk =
    let s = waiting_in w room in
    let n = taken_of w room chunk in
    let rest = drop (length s + n) room in
    let count : length (take n chunk) ≡ n = length-take-le n chunk (omega arith) in
    let size : length (s ++ (take n chunk ++ rest)) ≡ length room =
    omega (arith, count, length-append s (take n chunk ++ rest), length-append (take n chunk) rest, length-drop (length s + n) room, waiting_few w room) in
    record {
      forward = omega arith;
      inside = omega (arith, size, waiting_few w room);
      same_size = size;
      waiting =
          ap (λ (k : ℕ). take k (s ++ (take n chunk ++ rest))) {x = length s + n - 0} {y = length s + length (take n chunk)} (omega (arith, count))
          ∙ take-append-add s (take n chunk ++ rest) (length (take n chunk))
          ∙ ap (λ (k : List ℕ). s ++ k) (take-append_seam (take n chunk) rest);
    }

pub filled_few : FilledFew
unfolding filled_of
filled_few w room chunk = omega arith

pub filled_some : FilledSome
unfolding filled_of
filled_some w room chunk l some = omega (arith, length-take (w.to - w.from) (drop w.from room))

-- ---- the chunk is put behind what stands at the front

module _ (w : Window) (room moved : List ℕ) (front : Window) (f : front ≡ front_window w room) (m : moved ≡ front_room w room) where
  front_to : front.to ≡ length (waiting_in w room)
  unfolding front_window
  front_to = ap (λ (k : Window). k.to) f

  moved_is : moved ≡ waiting_in w room ++ drop (length (waiting_in w room)) room
  unfolding front_room
  moved_is = m

  -- it stands inside the room
  pub front_inside : front.to ≤ length moved
  front_inside = omega (arith, front_to, ap length m, (front_waits w room).same_size, waiting_few w room)

  module _ (chunk : List ℕ) (r : ℕ) (t : r ≡ min (length moved - front.to) (length chunk)) where
    taken_is : r ≡ taken_of w room chunk
    taken_is = t ∙ ap₂ (λ (a k : ℕ). min (a - k) (length chunk)) (ap length m ∙ (front_waits w room).same_size) front_to

    pub filled_of_lem : record { window = record { from = 0; to = front.to + r }; taken = r } ≡ filled_of w room chunk
    unfolding filled_of
    filled_of_lem = ap₂ (λ (k n : ℕ). record { window = record { from = 0; to = k + n }; taken = n }) front_to taken_is

    pub filled_room_lem : (room' : List ℕ) → room' ≡ take front.to moved ++ (take r chunk ++ drop (front.to + r) moved) → room' ≡ filled_room w room chunk
    unfolding filled_room
    filled_room_lem room' p =
        let s = waiting_in w room in
        let rest = drop (length s) room in
        let behind : drop (front.to + r) moved ≡ drop (length s + r) room =
        ap₂ drop {x = front.to + r} {y = length s + r} (omega (arith, front_to)) moved_is ∙ drop-append-add s rest r ∙ drop-drop r (length s) room in
        let head : take front.to moved ≡ s = ap (take front.to) moved_is ∙ take_at s rest front.to (sym front_to) in
        p ∙ ap₂ ◌++◌ head (ap (λ (z : List ℕ). take r chunk ++ z) behind) ∙ ap (λ (n : ℕ). s ++ (take n chunk ++ drop (length s + n) room)) taken_is
