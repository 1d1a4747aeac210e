-- What is written of a schedule, read, is the schedule: line by line, then the tables that the lines fill. Assumes nothing.
use Rattle.std.proofs.Common.{◌≡◌, ℕ, suc, ◌+◌, ◌^◌, ◌<◌, ◌≤◌, Bool, true, false, cond, not, ◌&&◌, eqb, leb, List, [], ◌∷◌, ◌++◌, map, length, get_or, take, drop, set, replicate, sym, refl, ap, ◌∙◌, ap₂, append_assoc, append-nil, add-one, arith, drop_of_length-le, length-take-le, eqb-true, le-leb}
use lib.Seq.{sets, sets-eq, take-append_seam}
use Rattle.std.proofs.lemmas.Bool.{and_parts}
use Rattle.lines.specs.Sinks.{decimal_text}
use Rattle.schedule.specs.declared.messages.Message.{Message}
use Rattle.schedule.specs.declared.schedules.Schedule.{Schedule}
use Rattle.words.specs.declared.refusals.Refusal.TheVariants as refusal
use Rattle.schedule.specs.declared.schedules.Rejection.{Rejection}
use Rattle.schedule.specs.declared.schedules.Rejection.TheVariants as rejection
use Rattle.std.specs.Prelude.{Option, None, Some, Result, Ok, Err}
use Rattle.schedule.specs.Messages.{messages_in, messages_most, empty_schedule, count_after, with_of, are_fit, is_refused}
use Rattle.schedule.specs.Frames as frames
use Rattle.plans.specs.declared.entries.Fault.{Fault}
use Rattle.plans.specs.declared.entries.Entry.{Entry}
use Rattle.plans.specs.declared.entries.Entry.TheVariants.{Capacities, Capacity, Placed}
use Rattle.plans.specs.declared.drafts.Draft.{Draft}
use Rattle.plans.specs.Parts.{before_remark, before_control, has_control, tight_from, parts_of}
use Rattle.plans.specs.Entries.{capacity_text, parts_entry, said_of, entry_of}
use Rattle.plans.specs.Drafts.{one_more, empty_draft, with_capacities, with_entry, after_entry, is_fault, lines_from, draft_from, plan_of}
use Rattle.plans.specs.Texts.{line_text, are_all, capacity_lines, capacities_text, message_parts, message_lines, plan_text}
use Rattle.plans.specs.Theorems.{Sayable, AllSayable, AllFit, Writable, SaidBack, PlanReadBack, CheckedAgain}
use Rattle.plans.proofs.Wholes.{draft_goes, last_line}
use Rattle.plans.proofs.Backs.{Part, AllParts, bare_text, line_is, line_says, decimal_part, capacity_part, says_all, says_one, says_message, all_short, one_short, message_short, message_all}

-- ---- a line more

module _ (d : Draft) (number : ℕ) (rest : List ℕ) where
  line_taken_lem : (part : List ℕ) (parts : List (List ℕ)) (entry : Result (Option Entry) Fault) → Part part → AllParts parts → length (bare_text (part ∷ parts)) ≤ 64
      → parts_entry (part ∷ parts) ≡ entry → is_fault (after_entry d entry number).bad ≡ false
      → draft_from d number (lines_from [] (line_text (part ∷ parts) ++ rest)) ≡ draft_from (after_entry d entry number) (one_more number) (lines_from [] rest)
  line_taken_lem part parts entry p all short e f =
      ap (draft_from d number) (line_is part parts p all rest)
      ∙ draft_goes d number (bare_text (part ∷ parts)) (lines_from [] rest) entry (line_says part parts p all short ∙ e) f

  -- the lines of capacities and messages are no faults
  module _ (whole : d.bad ≡ None) where
    all_taken : (ticks : ℕ) → ticks < 2 ^ 64
        → draft_from d number (lines_from [] (line_text (capacity_text ∷ decimal_text ticks ∷ []) ++ rest))
        ≡ draft_from (with_capacities d (replicate 64 ticks)) (one_more number) (lines_from [] rest)
    unfolding with_entry after_entry is_fault
    all_taken ticks l =
        line_taken_lem capacity_text (decimal_text ticks ∷ []) (Ok (Some (Capacities ticks))) capacity_part (decimal_part ticks l, tt) (all_short 0 ticks (omega arith) l) (says_all ticks l) (rw whole)

    one_taken : (frame ticks : ℕ) → frame < 64 → ticks < 2 ^ 64
        → draft_from d number (lines_from [] (line_text (capacity_text ∷ decimal_text frame ∷ decimal_text ticks ∷ []) ++ rest))
        ≡ draft_from (with_capacities d (set d.capacities frame ticks)) (one_more number) (lines_from [] rest)
    unfolding with_entry after_entry is_fault
    one_taken frame ticks f l =
        line_taken_lem capacity_text (decimal_text frame ∷ decimal_text ticks ∷ []) (Ok (Some (Capacity frame ticks))) capacity_part
        (decimal_part frame (omega arith), (decimal_part ticks l, tt))
        (one_short frame ticks (omega arith) l)
        (says_one frame ticks f l)
        (rw whole)

    message_taken : (message : Message) (first : ℕ) → Sayable message → first < 2 ^ 64
        → draft_from d number (lines_from [] (line_text (message_parts message first) ++ rest))
        ≡ draft_from (after_entry d (Ok (Some (Placed message first))) number) (one_more number) (lines_from [] rest)
    unfolding parts_entry with_entry after_entry is_fault
    message_taken message first s l = by (message_parts message first) (message_all message first s l) (message_short message first s l) (says_message message first s l)
      where
        by : (parts : List (List ℕ)) → AllParts parts → length (bare_text parts) ≤ 64 → parts_entry parts ≡ (Ok (Some (Placed message first)))
            → draft_from d number (lines_from [] (line_text parts ++ rest)) ≡ draft_from (after_entry d (Ok (Some (Placed message first))) number) (one_more number) (lines_from [] rest)
        by [] all short e = absurd cc
        by (part ∷ parts) all short e = line_taken_lem part parts (Ok (Some (Placed message first))) all.0 all.1 short e (rw whole)

-- ---- the capacities

-- the lines of a text give the frames these capacities, and the rest is read behind them
record Taken (d : Draft) (number : ℕ) (rest text capacities : List ℕ) : Type 0 where
  last : ℕ
  same : draft_from d number (lines_from [] (text ++ rest)) ≡ draft_from (with_capacities d capacities) last (lines_from [] rest)

-- each in its line
lines_taken : (capacities : List ℕ) (frame : ℕ) (d : Draft) (number : ℕ) (rest : List ℕ) → d.bad ≡ None → frame + length capacities ≤ 64 → AllFit capacities
    → Taken d number rest (capacity_lines frame capacities) (sets d.capacities frame capacities)
unfolding capacity_lines
lines_taken [] frame d number rest whole l fit = record { last = number; same = refl }
lines_taken (ticks ∷ capacities) frame d number rest whole l fit =
    let more = with_capacities d (set d.capacities frame ticks) in
    let on = lines_taken capacities (suc frame) more (one_more number) rest whole (omega (arith, l)) fit.1 in
    record {
      last = on.last;
      same =
          ap (λ (t : List ℕ). draft_from d number (lines_from [] t))
          (append_assoc (line_text (capacity_text ∷ decimal_text frame ∷ decimal_text ticks ∷ [])) (capacity_lines (suc frame) capacities) rest)
          ∙ one_taken d number (capacity_lines (suc frame) capacities ++ rest) whole frame ticks (omega (arith, l)) fit.0
          ∙ on.same;
    }

-- all the same
same_all : (ticks : ℕ) (capacities : List ℕ) → are_all ticks capacities ≡ true → capacities ≡ replicate (length capacities) ticks
unfolding are_all
same_all ticks [] h = refl
same_all ticks (number ∷ numbers) h =
    let both = and_parts (eqb number ticks) (are_all ticks numbers) h in
    ap₂ (λ (n : ℕ) (ns : List ℕ). n ∷ ns) (eqb-true number ticks both.0) (same_all ticks numbers both.1)

first_fits : (capacities : List ℕ) → AllFit capacities → get_or capacities 0 0 < 2 ^ 64
first_fits [] fit = omega arith
first_fits (ticks ∷ capacities) fit = fit.0

module _ (capacities : List ℕ) (all : length capacities ≡ 64) (fit : AllFit capacities) (d : Draft) (room : length d.capacities ≡ 64) (number : ℕ) (rest : List ℕ)
    (whole : d.bad ≡ None) where
  filled : sets d.capacities 0 capacities ≡ capacities
  filled =
      sets-eq capacities d.capacities 0 (omega (arith, all, room))
      ∙ ap (λ (t : List ℕ). capacities ++ t) (drop_of_length-le d.capacities {i = 0 + length capacities} (omega (arith, all, room)))
      ∙ append-nil capacities

  capacities_taken : Taken d number rest (capacities_text capacities) capacities
  unfolding capacities_text
  capacities_taken = by (are_all (get_or capacities 0 0) capacities) refl
    where
      by : (b : Bool) → are_all (get_or capacities 0 0) capacities ≡ b
          → Taken d number rest
          (cond b (line_text (capacity_text ∷ decimal_text (get_or capacities 0 0) ∷ [])) (capacity_lines 0 capacities))
          capacities
      by true e = record {
        last = one_more number;
        same =
            all_taken d number rest whole (get_or capacities 0 0) (first_fits capacities fit)
            ∙ ap (λ (t : List ℕ). draft_from (with_capacities d t) (one_more number) (lines_from [] rest))
            (ap (λ (n : ℕ). replicate n (get_or capacities 0 0)) (sym all) ∙ sym (same_all (get_or capacities 0 0) capacities e));
      }
      by false e =
          let each = lines_taken capacities 0 d number rest whole (omega (arith, all)) fit in
          record {
            last = each.last;
            same = each.same ∙ ap (λ (t : List ℕ). draft_from (with_capacities d t) each.last (lines_from [] rest)) filled;
          }

-- ---- the messages

-- a plan with all of these
unfoldable placed_all : Draft → ℕ → List frames.Placed → Draft
placed_all d number [] = d
placed_all d number (placed ∷ others) = placed_all (after_entry d (Ok (Some (Placed placed.message placed.start))) number) (one_more number) others

abbrev AllPlaced : List frames.Placed → Type 0
AllPlaced [] = Unit {0}
AllPlaced (placed ∷ others) = Sayable placed.message × ((placed.start < 2 ^ 64) × AllPlaced others)

empty_says : entry_of [] ≡ Ok None
unfolding said_of before_remark before_control has_control tight_from parts_of parts_entry
empty_says = refl

text_ends : (d : Draft) (number : ℕ) → draft_from d number (lines_from [] []) ≡ d
unfolding lines_from after_entry
text_ends d number = last_line d number [] ∙ ap (λ (entry : Result (Option Entry) Fault). after_entry d entry number) empty_says

fault_stays : (d : Draft) (message : Message) (first number : ℕ) → (after_entry d (Ok (Some (Placed message first))) number).bad ≡ d.bad
unfolding with_entry after_entry
fault_stays d message first number = refl

messages_taken : (placed : List frames.Placed) (d : Draft) (number : ℕ) → d.bad ≡ None → AllPlaced placed
    → draft_from d number (lines_from [] (message_lines placed)) ≡ placed_all d number placed
unfolding message_lines placed_all
messages_taken [] d number whole all = text_ends d number
messages_taken (placed ∷ others) d number whole all =
    message_taken d number (message_lines others) whole placed.message placed.start all.0 all.1.0
    ∙ messages_taken others (after_entry d (Ok (Some (Placed placed.message placed.start))) number) (one_more number)
    (fault_stays d placed.message placed.start number ∙ whole)
    all.1.1

abbrev messages_of : List frames.Placed → List Message
messages_of placed = map (λ (p : frames.Placed). p.message) placed

abbrev starts_of : List frames.Placed → List ℕ
starts_of placed = map (λ (p : frames.Placed). p.start) placed

-- what these have filled
record Filled (d after : Draft) (placed : List frames.Placed) : Type 0 where
  count : after.schedule.count ≡ d.schedule.count + length placed
  messages : after.schedule.messages ≡ sets d.schedule.messages d.schedule.count (messages_of placed)
  starts : after.firsts ≡ sets d.firsts d.schedule.count (starts_of placed)
  capacities : after.capacities ≡ d.capacities
  unplaced : after.unplaced ≡ d.unplaced
  whole : after.bad ≡ d.bad

one_more_lem : (d : Draft) (message : Message) (first number : ℕ) → d.schedule.count < 64
    → (after_entry d (Ok (Some (Placed message first))) number).schedule.count ≡ suc d.schedule.count
unfolding with_entry after_entry with_of count_after
one_more_lem d message first number l = rw (le-leb d.schedule.count 64 (omega arith), add-one)

-- one message more, in the tables
module _ (d : Draft) (message : Message) (first number : ℕ) where
  message_kept : (after_entry d (Ok (Some (Placed message first))) number).schedule.messages ≡ set d.schedule.messages d.schedule.count message
  unfolding with_entry after_entry with_of
  message_kept = refl

  start_kept : (after_entry d (Ok (Some (Placed message first))) number).firsts ≡ set d.firsts d.schedule.count first
  unfolding with_entry after_entry
  start_kept = refl

  capacities_stay : (after_entry d (Ok (Some (Placed message first))) number).capacities ≡ d.capacities
  unfolding with_entry after_entry
  capacities_stay = refl

  unplaced_stays : (after_entry d (Ok (Some (Placed message first))) number).unplaced ≡ d.unplaced
  unfolding with_entry after_entry
  unplaced_stays = refl

messages_filled : (placed : List frames.Placed) (d : Draft) (number : ℕ) → d.schedule.count + length placed ≤ 64 → Filled d (placed_all d number placed) placed
unfolding placed_all
messages_filled [] d number l = record { count = omega arith; messages = refl; starts = refl; capacities = refl; unplaced = refl; whole = refl }
messages_filled (p ∷ others) d number l =
    let next = after_entry d (Ok (Some (Placed p.message p.start))) number in
    let more = one_more_lem d p.message p.start number (omega (arith, l)) in
    let on = messages_filled others next (one_more number) (omega (arith, l, more)) in
    record {
      count = omega (arith, on.count, more);
      messages = on.messages ∙ ap₂ (λ (t : List Message) (n : ℕ). sets t n (messages_of others)) (message_kept d p.message p.start number) more;
      starts = on.starts ∙ ap₂ (λ (t : List ℕ) (n : ℕ). sets t n (starts_of others)) (start_kept d p.message p.start number) more;
      capacities = on.capacities ∙ capacities_stay d p.message p.start number;
      unplaced = on.unplaced ∙ unplaced_stays d p.message p.start number;
      whole = on.whole ∙ fault_stays d p.message p.start number;
    }

-- ---- messages with their first frames

placed_messages : (messages : List Message) (firsts : List ℕ) → length messages ≤ length firsts → messages_of (frames.placed_of messages firsts) ≡ messages
unfolding frames.placed_of
placed_messages [] firsts l = refl
placed_messages (message ∷ messages) [] l = absurd (omega (arith, l))
placed_messages (message ∷ messages) (first ∷ firsts) l = ap (λ (t : List Message). message ∷ t) (placed_messages messages firsts (omega (arith, l)))

placed_starts : (messages : List Message) (firsts : List ℕ) → length messages ≤ length firsts → starts_of (frames.placed_of messages firsts) ≡ take (length messages) firsts
unfolding frames.placed_of
placed_starts [] firsts l = refl
placed_starts (message ∷ messages) [] l = absurd (omega (arith, l))
placed_starts (message ∷ messages) (first ∷ firsts) l = ap (λ (t : List ℕ). first ∷ t) (placed_starts messages firsts (omega (arith, l)))

placed_count : (messages : List Message) (firsts : List ℕ) → length messages ≤ length firsts → length (frames.placed_of messages firsts) ≡ length messages
unfolding frames.placed_of
placed_count [] firsts l = refl
placed_count (message ∷ messages) [] l = absurd (omega (arith, l))
placed_count (message ∷ messages) (first ∷ firsts) l = ap suc (placed_count messages firsts (omega (arith, l)))

placed_fit : (messages : List Message) (firsts : List ℕ) → AllSayable messages → AllFit firsts → AllPlaced (frames.placed_of messages firsts)
unfolding frames.placed_of
placed_fit [] firsts s f = tt
placed_fit (message ∷ messages) [] s f = tt
placed_fit (message ∷ messages) (first ∷ firsts) s f = (s.0, (f.0, placed_fit messages firsts s.1 f.1))

-- ---- a whole plan

-- the front of a table that was filled from its begin on
front_filled : {A : Type 0} (table new : List A) → length new ≤ length table → take (length new) (sets table 0 new) ≡ new
front_filled table new l = ap (take (length new)) (sets-eq new table 0 (omega arith)) ∙ take-append_seam new (drop (0 + length new) table)

-- the plan before its messages
abbrev begun : List ℕ → Draft
begun capacities = with_capacities empty_draft capacities

module _ (capacities : List ℕ) where
  begun_count : (begun capacities).schedule.count ≡ 0
  unfolding empty_draft empty_schedule
  begun_count = refl

  begun_messages : length (begun capacities).schedule.messages ≡ 64
  unfolding empty_draft empty_schedule
  begun_messages = refl

  begun_firsts : length (begun capacities).firsts ≡ 64
  unfolding empty_draft
  begun_firsts = refl

  begun_unplaced : (begun capacities).unplaced ≡ false
  unfolding empty_draft
  begun_unplaced = refl

  begun_whole : (begun capacities).bad ≡ None
  unfolding empty_draft
  begun_whole = refl

empty_room : length empty_draft.capacities ≡ 64
unfolding empty_draft
empty_room = refl

empty_whole : empty_draft.bad ≡ None
unfolding empty_draft
empty_whole = refl

module _ (schedule : Schedule) (firsts capacities : List ℕ) (w : Writable schedule firsts capacities) where
  placed : List frames.Placed
  placed = frames.placed_of (messages_in schedule) firsts

  as_many_messages : length (messages_in schedule) ≡ schedule.count
  as_many_messages = length-take-le schedule.count schedule.messages (omega (arith, w.count, w.messages))

  enough : length (messages_in schedule) ≤ length firsts
  enough = omega (arith, as_many_messages, w.count, w.firsts_all)

  written : Taken empty_draft 1 (message_lines placed) (capacities_text capacities) capacities
  written = capacities_taken capacities w.capacities_all w.capacities_fit empty_draft empty_room 1 (message_lines placed) empty_whole

  read_whole : plan_of (plan_text schedule firsts capacities) ≡ placed_all (begun capacities) written.last placed
  unfolding plan_of plan_text placed
  read_whole =
      written.same
      ∙ messages_taken placed (begun capacities) written.last (begun_whole capacities) (placed_fit (messages_in schedule) firsts w.sayable w.firsts_fit)

  all_filled : Filled (begun capacities) (placed_all (begun capacities) written.last placed) placed
  unfolding placed
  all_filled =
      messages_filled placed (begun capacities) written.last
      (omega (arith, begun_count capacities, placed_count (messages_in schedule) firsts enough, as_many_messages, w.count))

  back : SaidBack schedule firsts capacities (placed_all (begun capacities) written.last placed)
  unfolding placed
  back =
      let f = all_filled in
      let n = begun_count capacities in
      let ms = messages_in schedule in
      let many = as_many_messages in
      let count : (placed_all (begun capacities) written.last placed).schedule.count ≡ schedule.count = omega (arith, f.count, n, placed_count ms firsts enough, many) in
      let starts : starts_of placed ≡ take schedule.count firsts = placed_starts ms firsts enough ∙ ap (λ (k : ℕ). take k firsts) many in
      let few : length (take schedule.count firsts) ≡ schedule.count = length-take-le schedule.count firsts (omega (arith, many, enough)) in
      record {
        count = count;
        messages =
            ap₂ take (count ∙ sym many) (f.messages ∙ ap₂ (sets (begun capacities).schedule.messages) n (placed_messages ms firsts enough))
            ∙ front_filled (begun capacities).schedule.messages ms (omega (arith, begun_messages capacities, many, w.count));
        first_frames =
            ap₂ take (sym few) (f.starts ∙ ap₂ (sets (begun capacities).firsts) n starts)
            ∙ front_filled (begun capacities).firsts (take schedule.count firsts) (omega (arith, begun_firsts capacities, few, w.count));
        frames = f.capacities;
        placed = f.unplaced ∙ begun_unplaced capacities;
        whole = f.whole ∙ begun_whole capacities;
      }

pub plan_read_back : PlanReadBack
plan_read_back schedule firsts capacities w = rw (read_whole schedule firsts capacities w) (back schedule firsts capacities w)

-- ---- the check

-- first frames behind those of the messages are not looked at
placed_front : (messages : List Message) (firsts : List ℕ) → frames.placed_of messages firsts ≡ frames.placed_of messages (take (length messages) firsts)
unfolding frames.placed_of
placed_front [] firsts = refl
placed_front (message ∷ messages) [] = refl
placed_front (message ∷ messages) (first ∷ firsts) =
    ap (λ (t : List frames.Placed). record { message = message; start = first } ∷ t) (placed_front messages firsts)

-- what the check looks at
judged : ℕ → List Message → List frames.Placed → List ℕ → Result Unit Rejection
judged count messages placed capacities =
    cond (not (leb count messages_most && are_fit messages)) (Err (rejection.Refused refusal.Schedule)) (frames.outcome_of placed capacities)

check_looks : (schedule : Schedule) (firsts capacities : List ℕ)
    → frames.check_of schedule firsts capacities
    ≡ judged schedule.count (messages_in schedule) (frames.placed_of (messages_in schedule) (take (length (messages_in schedule)) firsts)) capacities
unfolding judged frames.check_of is_refused
check_looks schedule firsts capacities =
    ap (λ (t : List frames.Placed). judged schedule.count (messages_in schedule) t capacities) (placed_front (messages_in schedule) firsts)

module _ (schedule : Schedule) (firsts capacities : List ℕ) (d : Draft) (many : length (messages_in schedule) ≡ schedule.count) (b : SaidBack schedule firsts capacities d) where
  same_check : frames.check_of d.schedule d.firsts d.capacities ≡ frames.check_of schedule firsts capacities
  same_check =
      let starts : take (length (messages_in d.schedule)) d.firsts ≡ take (length (messages_in schedule)) firsts =
      ap (λ (n : ℕ). take n d.firsts) (ap length b.messages ∙ many) ∙ b.first_frames ∙ ap (λ (n : ℕ). take n firsts) (sym many) in
      check_looks d.schedule d.firsts d.capacities
      ∙ ap (λ (n : ℕ). judged n (messages_in d.schedule) (frames.placed_of (messages_in d.schedule) (take (length (messages_in d.schedule)) d.firsts)) d.capacities) b.count
      ∙ ap₂ (λ (t : List ℕ) (c : List ℕ). judged schedule.count (messages_in d.schedule) (frames.placed_of (messages_in d.schedule) t) c) starts b.frames
      ∙ ap (λ (ms : List Message). judged schedule.count ms (frames.placed_of ms (take (length (messages_in schedule)) firsts)) capacities) b.messages
      ∙ sym (check_looks schedule firsts capacities)

pub checked_again : CheckedAgain
checked_again schedule firsts capacities w =
    same_check schedule firsts capacities (plan_of (plan_text schedule firsts capacities)) (as_many_messages schedule firsts capacities w) (plan_read_back schedule firsts capacities w)
