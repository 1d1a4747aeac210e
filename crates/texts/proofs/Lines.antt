-- A text of many lines, written one behind the other. Assumes nothing.
use mathlib.Core.Path.{◌≡◌, refl, sym, ap, ◌∙◌}
use mathlib.Core.Bool.{Bool, true, false, cond, ◌&&◌}
use mathlib.Core.Logic.{◌⊎◌, ⊎_elim}
use Prim.Native.Nat.{ℕ, suc, ◌+◌, ◌*◌, ◌≤◌, ◌<◌}
use native.Mathlib.Omega.{arith}
use mathlib.Core.List.{List, [], ◌∷◌, ◌++◌, append-nil, append_assoc}
use lib.Dec.{eqb}
use lib.ListN.{length, get_or, take, drop, length-take, drop_of_length-le}
use lib.Seq.{drop-cons, get_or-take}
use Rattle.std.specs.List.{list_all}
use Rattle.schedule.specs.Frames.{placed_of}
use Rattle.schedule.proofs.Walks.{length_placed, placed_on}
use Rattle.schedule.specs.declared.messages.Message.{Message}
use Rattle.lines.specs.Sinks.{word_text, decimal_text}
use Rattle.lines.specs.Spells.{text_of, number_text, Spelled}
use Rattle.lines.proofs.Spellings.{then, spelled_as}
use Rattle.plans.specs.Entries.{capacity_text}
use Rattle.plans.specs.Texts.{line_text, are_all, capacity_lines, capacities_text, message_parts, message_lines}
use Rattle.texts.specs.Schedules.{words_text}

-- ---- one line

pub capacity_line : (ticks : ℕ) → number_text (text_of "capacity ") ticks ++ (10 ∷ []) ≡ line_text (capacity_text ∷ decimal_text ticks ∷ [])
unfolding line_text
capacity_line ticks = refl

pub frame_line : (frame ticks : ℕ)
    → number_text (text_of "capacity ") frame ++ (number_text (text_of " ") ticks ++ (10 ∷ [])) ≡ line_text (capacity_text ∷ decimal_text frame ∷ decimal_text ticks ∷ [])
unfolding line_text
frame_line frame ticks = append_assoc (text_of "capacity ") (decimal_text frame) (number_text (text_of " ") ticks ++ (10 ∷ []))

pub message_line : (m : Message) (first : ℕ)
    → text_of "message " ++ (words_text 32 m ++ (number_text (text_of " ") m.period ++ (number_text (text_of " ") first ++ (10 ∷ [])))) ≡ line_text (message_parts m first)
unfolding line_text words_text message_parts
message_line m first = by (eqb m.commands 1)
  where
    by : (b : Bool)
        → text_of "message "
        ++ (cond b (word_text m.first.0) (word_text m.first.0 ++ (32 ∷ word_text m.second.0))
        ++ (number_text (text_of " ") m.period ++ (number_text (text_of " ") first ++ (10 ∷ []))))
        ≡ line_text
        (cond b
        (text_of "message" ∷ word_text m.first.0 ∷ decimal_text m.period ∷ decimal_text first ∷ [])
        (text_of "message" ∷ word_text m.first.0 ∷ word_text m.second.0 ∷ decimal_text m.period ∷ decimal_text first ∷ []))
    by true = refl
    by false = refl

-- ---- line behind line

-- Of a whole text a front is spelled, and the rest is left.
pub record Reaching (block : List ℕ) (at : ℕ) (whole rest last : List ℕ) (place : ℕ) : Type 0 where
  pub done : List ℕ
  pub spelled : Spelled block at done last place
  pub joined : done ++ rest ≡ whole

pub reach_more : {block whole line rest middle last : List ℕ} {at place after : ℕ} → Reaching block at whole (line ++ rest) middle place
    → Spelled middle place line last after → Reaching block at whole rest last after
reach_more {line = line} {rest = rest} reach spelled = record {
  done = reach.done ++ line;
  spelled = then reach.spelled spelled;
  joined = append_assoc reach.done line rest ∙ reach.joined;
}

pub reach_end : {block whole last : List ℕ} {at place : ℕ} → Reaching block at whole [] last place → Spelled block at whole last place
reach_end reach = spelled_as (sym (append-nil reach.done) ∙ reach.joined) reach.spelled

pub reach_as : {block whole rest other last : List ℕ} {at place : ℕ} → rest ≡ other → Reaching block at whole rest last place → Reaching block at whole other last place
reach_as e reach = record { done = reach.done; spelled = reach.spelled; joined = ap (λ (z : List ℕ). reach.done ++ z) (sym e) ∙ reach.joined }

-- ---- the capacities

-- so many lines are written, each of at most so many bytes
pub record Capacities (block : List ℕ) (at : ℕ) (capacities last : List ℕ) (place i : ℕ) : Type 0 where
  pub reach : Reaching block at (capacity_lines 0 capacities) (capacity_lines i (drop i capacities)) last place
  pub most : place ≤ at + i * 51
  pub bound : i ≤ 64

pub capacities_start : (block capacities last : List ℕ) (at place : ℕ) → Spelled block at [] last place → Capacities block at capacities last place 0
capacities_start block capacities last at place spelled = record {
  reach = record { done = []; spelled = spelled; joined = refl };
  most = omega (arith, spelled.place);
  bound = omega arith;
}

pub capacities_more : (block capacities middle last : List ℕ) (at place after i : ℕ) → length capacities ≡ 64 → i < 64
    → Capacities block at capacities middle place i
    → Spelled middle place (line_text (capacity_text ∷ decimal_text i ∷ decimal_text (get_or capacities i 0) ∷ [])) last after × (after ≤ place + 51)
    → Capacities block at capacities last after (i + 1)
unfolding capacity_lines
capacities_more block capacities middle last at place after i size l h spelled =
    let next : capacity_lines i (drop i capacities)
    ≡ line_text (capacity_text ∷ decimal_text i ∷ decimal_text (get_or capacities i 0) ∷ []) ++ capacity_lines (suc i) (drop (suc i) capacities) =
    ap (capacity_lines i) (drop-cons capacities i 0 (omega (arith, size, l))) in
    record {
      reach =
          reach_as
          (ap (λ (k : ℕ). capacity_lines k (drop k capacities)) {x = suc i} {y = i + 1} (omega arith))
          (reach_more (reach_as next h.reach) spelled.0);
      most = omega (arith, h.most, spelled.1);
      bound = omega (arith, l);
    }

pub capacities_end : (block capacities last : List ℕ) (at place i : ℕ) → length capacities ≡ 64 → 64 ≤ i → Capacities block at capacities last place i
    → Spelled block at (capacity_lines 0 capacities) last place × (place ≤ at + 3264)
unfolding capacity_lines
capacities_end block capacities last at place i size l h =
    let none : capacity_lines i (drop i capacities) ≡ [] = ap (capacity_lines i) (drop_of_length-le capacities {i = i} (omega (arith, size, l))) in
    (reach_end (reach_as none h.reach), omega (arith, h.most, h.bound))

-- ---- whether they are all the same

pub all_same : (wanted : ℕ) (numbers : List ℕ) → list_all (λ (n : ℕ). eqb n wanted) numbers ≡ are_all wanted numbers
unfolding are_all
all_same wanted [] = refl
all_same wanted (number ∷ numbers) = ap (λ (b : Bool). eqb number wanted && b) (all_same wanted numbers)

module _ (capacities : List ℕ) where
  pub capacities_even : are_all (get_or capacities 0 0) capacities ≡ true → line_text (capacity_text ∷ decimal_text (get_or capacities 0 0) ∷ []) ≡ capacities_text capacities
  unfolding capacities_text
  capacities_even e = rw e

  pub capacities_each : are_all (get_or capacities 0 0) capacities ≡ false → capacity_lines 0 capacities ≡ capacities_text capacities
  unfolding capacities_text
  capacities_each e = rw e

-- ---- the messages

-- so many lines are written, each of at most so many bytes
pub record Messages (block : List ℕ) (at : ℕ) (messages : List Message) (count : ℕ) (firsts last : List ℕ) (place i : ℕ) : Type 0 where
  pub reach : Reaching block at (message_lines (placed_of (take count messages) firsts)) (message_lines (drop i (placed_of (take count messages) firsts))) last place
  pub most : place ≤ at + i * 60
  pub bound : i ≤ 64

module _ (block : List ℕ) (at : ℕ) (messages : List Message) (count : ℕ) (firsts : List ℕ) where
  pub messages_start : (last : List ℕ) (place : ℕ) → Spelled block at [] last place → Messages block at messages count firsts last place 0
  messages_start last place spelled = record {
    reach = record { done = []; spelled = spelled; joined = refl };
    most = omega (arith, spelled.place);
    bound = omega arith;
  }

  pub messages_more : (middle last : List ℕ) (place after i : ℕ) (d : Message) → length messages ≡ 64 → length firsts ≡ 64 → i < 64 → i < count
      → Messages block at messages count firsts middle place i
      → Spelled middle place (line_text (message_parts (get_or messages i d) (get_or firsts i 0))) last after × (after ≤ place + 60)
      → Messages block at messages count firsts last after (i + 1)
  unfolding message_lines
  messages_more middle last place after i d size room l few h spelled =
      let ms = take count messages in
      let inside : i < length ms = omega (arith, few, l, size, length-take count messages) in
      let within : length ms ≤ length firsts = omega (arith, size, room, length-take count messages) in
      let same : get_or ms i d ≡ get_or messages i d = get_or-take count messages i d few in
      let next : message_lines (drop i (placed_of ms firsts))
      ≡ line_text (message_parts (get_or messages i d) (get_or firsts i 0)) ++ message_lines (drop (suc i) (placed_of ms firsts)) =
      ap message_lines (placed_on ms firsts i d inside within)
      ∙ ap (λ (m : Message). line_text (message_parts m (get_or firsts i 0)) ++ message_lines (drop (suc i) (placed_of ms firsts))) same in
      record {
        reach =
            reach_as
            (ap (λ (k : ℕ). message_lines (drop k (placed_of ms firsts))) {x = suc i} {y = i + 1} (omega arith))
            (reach_more (reach_as next h.reach) spelled.0);
        most = omega (arith, h.most, spelled.1);
        bound = omega (arith, l);
      }

  -- behind the last message, or the last that there is room for
  pub messages_end : (last : List ℕ) (place i : ℕ) → length messages ≡ 64 → length firsts ≡ 64 → ((64 ≤ i) ⊎ (count ≤ i))
      → Messages block at messages count firsts last place i
      → Spelled block at (message_lines (placed_of (take count messages) firsts)) last place × (place ≤ at + 3840)
  unfolding message_lines
  messages_end last place i size room over h =
      let ms = take count messages in
      let within : length ms ≤ length firsts = omega (arith, size, room, length-take count messages) in
      let short : length (placed_of ms firsts) ≤ i =
      ⊎_elim
      (λ past. omega (arith, length_placed ms firsts within, length-take count messages, size, past))
      (λ few. omega (arith, length_placed ms firsts within, length-take count messages, few))
      over in
      let none : message_lines (drop i (placed_of ms firsts)) ≡ [] = ap message_lines (drop_of_length-le (placed_of ms firsts) {i = i} short) in
      (reach_end (reach_as none h.reach), omega (arith, h.most, h.bound))
