-- What is still to come of a side with the bytes that it has not taken: feeding and ending change nothing of it, giving takes the first. Assumes nothing.
use Rattle.std.proofs.Common.{◌≡◌, ℕ, zero, suc, ◌+◌, ◌<◌, ◌≤◌, Bool, true, false, cond, eqb, ltb, List, [], ◌∷◌, ◌++◌, length, drop, sym, refl, ap, ◌∙◌, true≢false, arith, length-append, length-drop, drop_of_length-le, drop-drop, ltb-false, ltb-true, eq-eqb, ne_eqb}
use Rattle.std.specs.Prelude.{Option, Some, None, Result, Ok, Err}
use lib.Seq.{drop-append-le}
use borrow.Author.Tests.{eqb-false, lt-leb}
use Rattle.words.specs.declared.times.Moment.{Moment}
use Rattle.words.specs.declared.refusals.Refusal.{Refusal}
use Rattle.words.specs.declared.refusals.Refusal.TheVariants.{OutOfOrder}
use Rattle.records.specs.Records.{last_bus, read_of, in_range}
use Rattle.records.specs.declared.forms.WordRecord.{WordRecord}
use Rattle.records.proofs.Theorems.{read_good, read_front}
use Rattle.monitor.specs.Logs.{Front, stops, goes_on, front_with, front_from}
use Rattle.monitor.specs.Machine.{next64, begun_with, passed_with, heard_as, heard_message, heard_where, heard_by, stopped_by, taken_by, read_with, read_by, ready_with, ready_of, is_feed, wants_more, fed_from, fed_of, ended_with, ended_by, given_of, part_for}
use Rattle.monitor.specs.Theorems.{Each, stop_of}
use Rattle.monitor.specs.declared.entries.Logged.{Logged}
use Rattle.monitor.specs.declared.openings.Opening.{Opening}
use Rattle.monitor.specs.declared.openings.Part.{Part}
use Rattle.monitor.specs.declared.openings.Part.TheVariants.{Far, Starts, Second, Status, Other}
use Rattle.monitor.specs.declared.walks.Standing.{Standing}
use Rattle.monitor.specs.declared.walks.Standing.TheVariants as standing
use Rattle.monitor.specs.declared.walks.Walk.{Walk}
use Rattle.monitor.specs.declared.walks.Stop.{Stop}
use Rattle.monitor.specs.declared.walks.Stop.TheVariants as stop
use Rattle.monitor.specs.declared.walks.Side.{Side}
use Rattle.monitor.specs.declared.sides.Fed.{Fed}
use Rattle.monitor.specs.declared.sides.Ready.TheVariants as ready
use Rattle.monitor.proofs.Feeding.{fed_short, fed_over, fed_one}
use Rattle.monitor.proofs.Groups.{given, step_by, walk_over}

-- ---- the records of some bytes, by any number that is enough for them

pub front_none : (n before : ℕ) (bytes : List ℕ) → length bytes ≡ 0 → front_from n before bytes ≡ stops None
unfolding front_from
front_none zero before bytes none = refl
front_none (suc n) before bytes none = rw (eq-eqb (length bytes) 0 none)

pub front_some : (n before : ℕ) (bytes : List ℕ) → (length bytes ≡ 0 → ⊥)
    → front_from (suc n) before bytes ≡ front_with before (read_of last_bus bytes) (λ (time : ℕ). front_from n time (drop 16 bytes))
unfolding front_from
front_some n before bytes some = rw (ne_eqb (length bytes) 0 some)

with_same : (before : ℕ) (g : Result WordRecord Refusal) (f k : ℕ → Front) → ((time : ℕ) → f time ≡ k time) → front_with before g f ≡ front_with before g k
with_same before (Ok r) f k same = ap (λ (x : Front). cond (ltb r.time.0 before) (stops (Some OutOfOrder)) (goes_on r x)) (same r.time.0)
with_same before (Err n) f k same = refl

some_length : (bytes : List ℕ) → eqb (length bytes) 0 ≡ false → 0 < length bytes
some_length bytes h = go (length bytes) (eqb-false (length bytes) 0 h)
  where
    go : (n : ℕ) → (n ≡ 0 → ⊥) → 0 < n
    go zero some = absurd (some refl)
    go (suc n) some = omega arith

pub front_fuel : (n m before : ℕ) (bytes : List ℕ) → length bytes ≤ n → length bytes ≤ m → front_from n before bytes ≡ front_from m before bytes
unfolding front_from
front_fuel zero m before bytes l k = sym (front_none m before bytes (omega (arith, l)))
front_fuel (suc n) zero before bytes l k = front_none (suc n) before bytes (omega (arith, k))
front_fuel (suc n) (suc m) before bytes l k =
    go (eqb (length bytes) 0) refl (λ time some. front_fuel n m time (drop 16 bytes) (omega (arith, some, length-drop 16 bytes)) (omega (arith, some, length-drop 16 bytes)))
  where
    go : (b : Bool) → eqb (length bytes) 0 ≡ b → ((time : ℕ) → 0 < length bytes → front_from n time (drop 16 bytes) ≡ front_from m time (drop 16 bytes))
        → cond b (stops None) (front_with before (read_of last_bus bytes) (λ (time : ℕ). front_from n time (drop 16 bytes)))
        ≡ cond b (stops None) (front_with before (read_of last_bus bytes) (λ (time : ℕ). front_from m time (drop 16 bytes)))
    go true h again = refl
    go false h again =
        with_same before (read_of last_bus bytes) (λ (time : ℕ). front_from n time (drop 16 bytes)) (λ (time : ℕ). front_from m time (drop 16 bytes))
        (λ time. again time (some_length bytes h))

-- what each record in range has, each that is read has
module _ (P : WordRecord → Type 0) (holds : (r : WordRecord) → in_range last_bus r ≡ true → P r) where
  each_with : (before : ℕ) (bytes : List ℕ) (g : Result WordRecord Refusal) → read_of last_bus bytes ≡ g → (f : ℕ → Front) → ((time : ℕ) → Each P (f time).taken) → Each P (front_with before g f).taken
  each_with before bytes (Err n) e f all = tt
  each_with before bytes (Ok r) e f all = go (ltb r.time.0 before)
    where
      range : in_range last_bus r ≡ true
      range = let g = read_good last_bus bytes r e in ap (in_range last_bus) (sym g.same) ∙ g.ranged

      go : (b : Bool) → Each P (cond b (stops (Some OutOfOrder)) (goes_on r (f r.time.0))).taken
      go true = tt
      go false = (holds r range, all r.time.0)

  pub front_each : (n before : ℕ) (bytes : List ℕ) → Each P (front_from n before bytes).taken
  unfolding front_from
  front_each zero before bytes = tt
  front_each (suc n) before bytes = go (eqb (length bytes) 0) (λ time. front_each n time (drop 16 bytes))
    where
      go : (b : Bool) → ((time : ℕ) → Each P (front_from n time (drop 16 bytes)).taken)
          → Each P (cond b (stops None) (front_with before (read_of last_bus bytes) (λ (time : ℕ). front_from n time (drop 16 bytes)))).taken
      go true again = tt
      go false again = each_with before bytes (read_of last_bus bytes) refl (λ (time : ℕ). front_from n time (drop 16 bytes)) again

-- they are no more than the bytes
few_with : (before n : ℕ) (g : Result WordRecord Refusal) (f : ℕ → Front) → ((time : ℕ) → length (f time).taken ≤ n) → length (front_with before g f).taken ≤ suc n
few_with before n (Err m) f few = omega arith
few_with before n (Ok r) f few = go (ltb r.time.0 before)
  where
    go : (b : Bool) → length (cond b (stops (Some OutOfOrder)) (goes_on r (f r.time.0))).taken ≤ suc n
    go true = omega arith
    go false = omega (arith, few r.time.0)

pub front_few : (n before : ℕ) (bytes : List ℕ) → length (front_from n before bytes).taken ≤ n
unfolding front_from
front_few zero before bytes = omega arith
front_few (suc n) before bytes = go (eqb (length bytes) 0) (λ time. front_few n time (drop 16 bytes))
  where
    go : (b : Bool) → ((time : ℕ) → length (front_from n time (drop 16 bytes)).taken ≤ n)
        → length (cond b (stops None) (front_with before (read_of last_bus bytes) (λ (time : ℕ). front_from n time (drop 16 bytes)))).taken ≤ suc n
    go true again = omega arith
    go false again = few_with before n (read_of last_bus bytes) (λ (time : ℕ). front_from n time (drop 16 bytes)) again

-- ---- what is still to come

pub record Told : Type 0 where
  pub entries : List Logged
  pub stop : Stop
  pub records : ℕ

abbrev pub records_after : ℕ → List WordRecord → ℕ
records_after n [] = n
records_after n (r ∷ rs) = records_after (next64 n) rs

-- of a walk that reads on, where the records up to the end are these
abbrev told_over : Option Logged → Walk → Front → Told
told_over f w front = record { entries = given f ++ walk_over w front.taken; stop = stop_of front.refusal; records = records_after w.records front.taken }

abbrev told_by : Stop → Option Logged → Walk → List ℕ → Told
told_by stop.Reading f w bytes = told_over f w (front_from (length bytes) w.clock.0 bytes)
told_by stop.Ended f w bytes = record { entries = given f; stop = stop.Ended; records = w.records }
told_by (stop.Refused n) f w bytes = record { entries = given f; stop = stop.Refused n; records = w.records }
told_by (stop.Unnamed n) f w bytes = record { entries = given f; stop = stop.Unnamed n; records = w.records }

unfoldable pub told : Side → List ℕ → Told
told s bytes = told_by s.stop s.found s.walk bytes

-- ---- a record more

-- it goes on from the time of the record, one record further
record Stepped (w : Walk) (r : WordRecord) (s : Side) : Type 0 where
  reads : s.stop ≡ stop.Reading
  time : s.walk.clock ≡ r.time
  count : s.walk.records ≡ next64 w.records

begun_steps : (w : Walk) (until : Moment) (r : WordRecord) → Stepped w r (begun_with w until r)
unfolding begun_with
begun_steps w until r = record { reads = refl; time = refl; count = refl }

passed_steps : (w : Walk) (s : Option Standing) (r : WordRecord) → Stepped w r (passed_with w s r)
unfolding passed_with
passed_steps w s r = record { reads = refl; time = refl; count = refl }

as_steps : (q : Part) (w : Walk) (o : Opening) (r : WordRecord) → Stepped w r (heard_as q w o r)
as_steps Far w o r = begun_steps w _ r
as_steps Starts w o r = begun_steps w _ r
as_steps Second w o r = passed_steps w _ r
as_steps Status w o r = passed_steps w _ r
as_steps Other w o r = passed_steps w _ r

where_steps : (s : Option Standing) (w : Walk) (r : WordRecord) → Stepped w r (heard_where s w r)
unfolding heard_message
where_steps None w r = begun_steps w _ r
where_steps (Some (standing.Single x)) w r = begun_steps w _ r
where_steps (Some (standing.Message o)) w r = as_steps (part_for o r) w o r

steps : (w : Walk) (r : WordRecord) → Stepped w r (step_by w r)
unfolding heard_by
steps w r = go (eqb r.bus w.bus)
  where
    go : (b : Bool) → Stepped w r (cond b (heard_by w r) (passed_with w w.standing r))
    go true = where_steps w.standing w r
    go false = passed_steps w w.standing r

told_reading : (s : Side) (bytes : List ℕ) → s.stop ≡ stop.Reading → told s bytes ≡ told_over s.found s.walk (front_from (length bytes) s.walk.clock.0 bytes)
unfolding told
told_reading s bytes e = ap (λ (x : Stop). told_by x s.found s.walk bytes) e

told_stopped : (w : Walk) (n : Option Refusal) (bytes : List ℕ) → told (stopped_by w (stop_of n)) bytes ≡ told_over None w (stops n)
unfolding told stopped_by
told_stopped w None bytes = refl
told_stopped w (Some n) bytes = refl

-- what was read of the front, and those behind it
told_with : (w : Walk) (bytes : List ℕ) (n : ℕ) → length bytes ≤ n → (g : Result WordRecord Refusal)
    → told (read_with w g) bytes ≡ told_over None w (front_with w.clock.0 g (λ (time : ℕ). front_from n time bytes))
unfolding taken_by
told_with w bytes n enough (Err m) = told_stopped w (Some m) bytes
told_with w bytes n enough (Ok r) = go (ltb r.time.0 w.clock.0)
  where
    s : Side
    s = step_by w r

    go : (b : Bool)
        → told (cond b (stopped_by w (stop.Refused OutOfOrder)) (step_by w r)) bytes
        ≡ told_over None w (cond b (stops (Some OutOfOrder)) (goes_on r (front_from n r.time.0 bytes)))
    go true = told_stopped w (Some OutOfOrder) bytes
    go false =
        told_reading (step_by w r) bytes (steps w r).reads
        ∙ ap (λ (k : Moment). told_over (step_by w r).found (step_by w r).walk (front_from (length bytes) k.0 bytes)) (steps w r).time
        ∙ ap (told_over (step_by w r).found (step_by w r).walk) (front_fuel (length bytes) n r.time.0 bytes (omega arith) enough)
        ∙ ap
        (λ (k : ℕ).
        record {
          entries = given (step_by w r).found ++ walk_over (step_by w r).walk (front_from n r.time.0 bytes).taken;
          stop = stop_of (front_from n r.time.0 bytes).refusal;
          records = records_after k (front_from n r.time.0 bytes).taken;
        })
        (steps w r).count

-- ---- feeding, ending and giving

wants_with : (f : Option Logged) (x : Stop) → is_feed (ready_with f x) ≡ true → (f ≡ None) × (x ≡ stop.Reading)
wants_with (Some e) x h = absurd (true≢false (sym h))
wants_with None stop.Reading h = (refl, refl)
wants_with None stop.Ended h = absurd (true≢false (sym h))
wants_with None (stop.Refused n) h = absurd (true≢false (sym h))
wants_with None (stop.Unnamed n) h = absurd (true≢false (sym h))

pub told_wants : (s : Side) (bytes : List ℕ) → wants_more s ≡ true → told s bytes ≡ told_over None s.walk (front_from (length bytes) s.walk.clock.0 bytes)
unfolding wants_more ready_of
told_wants s bytes h =
    let known = wants_with s.found s.stop h in
    told_reading s bytes known.1 ∙ ap (λ (f : Option Logged). told_over f s.walk (front_from (length bytes) s.walk.clock.0 bytes)) known.0

told_read : (s : Side) (bytes : List ℕ) → wants_more s ≡ true → (length bytes ≡ 0 → ⊥) → told (read_by s.walk bytes) (drop 16 bytes) ≡ told s bytes
unfolding read_by
told_read s bytes h some =
    told_with s.walk (drop 16 bytes) (length bytes) (omega (arith, length-drop 16 bytes)) (read_of last_bus bytes)
    ∙ ap (told_over None s.walk)
    (sym (front_some (length bytes) s.walk.clock.0 bytes some)
    ∙ front_fuel (suc (length bytes)) (length bytes) s.walk.clock.0 bytes (omega arith) (omega arith))
    ∙ sym (told_wants s bytes h)

pub told_ended : (s : Side) (bytes : List ℕ) → wants_more s ≡ true → length bytes < 16 → told (ended_by s bytes) [] ≡ told s bytes
unfolding ended_by
told_ended s bytes h l = rw (lt-leb 16 (length bytes) l, h) (go bytes l)
  where
    go : (us : List ℕ) → length us < 16 → told (ended_with s.walk us) [] ≡ told s us
    go [] l = told_stopped s.walk None [] ∙ ap (told_over None s.walk) (sym (front_none 0 s.walk.clock.0 [] refl)) ∙ sym (told_wants s [] h)
    go (x ∷ us) l =
        ap (told (read_by s.walk (x ∷ us))) (sym (drop_of_length-le (x ∷ us) {i = 16} (omega arith)))
        ∙ told_read s (x ∷ us) h (λ z. omega (arith, z))

read_same : (w : Walk) (chunk rest us : List ℕ) → 16 ≤ length chunk → us ≡ chunk ++ rest → read_by w chunk ≡ read_by w us
unfolding read_by
read_same w chunk rest us l e = ap (read_with w) (sym (read_front last_bus chunk rest l) ∙ ap (read_of last_bus) (sym e))

-- a chunk of what is left, which begins at a place
told_chunk : (n : ℕ) (s : Side) (chunk rest us : List ℕ) (at : ℕ) → drop at us ≡ chunk ++ rest
    → told (fed_from n s chunk at).side (drop (fed_from n s chunk at).taken us) ≡ told s (drop at us)
unfolding fed_from
told_chunk zero s chunk rest us at e = refl
told_chunk (suc n) s chunk rest us at e =
    go (ltb (length chunk) 16) refl (wants_more s) refl
    (λ l. told_chunk n (read_by s.walk chunk) (drop 16 chunk) rest us (at + 16) (sym (drop-drop 16 at us) ∙ ap (drop 16) e ∙ drop-append-le 16 chunk rest l))
  where
    after : Fed → Told
    after f = told f.side (drop f.taken us)

    go : (short : Bool) → ltb (length chunk) 16 ≡ short → (wants : Bool) → wants_more s ≡ wants
        → (16 ≤ length chunk
        → after (fed_from n (read_by s.walk chunk) (drop 16 chunk) (at + 16)) ≡ told (read_by s.walk chunk) (drop (at + 16) us))
        → after (fed_from (suc n) s chunk at) ≡ told s (drop at us)
    go true short wants h again = ap after (fed_short (suc n) s chunk at (ltb-true (length chunk) 16 short))
    go false long false h again = ap after (fed_over (suc n) s chunk at h)
    go false long true h again =
        let l = ltb-false (length chunk) 16 long in
        ap after (fed_one n s chunk at l h)
        ∙ again l
        ∙ ap (λ (k : Side). told k (drop (at + 16) us)) (read_same s.walk chunk rest (drop at us) l e)
        ∙ ap (told (read_by s.walk (drop at us))) (sym (drop-drop 16 at us))
        ∙ told_read s (drop at us) h (λ z. omega (arith, l, z, ap length e, length-append chunk rest))

pub told_fed : (s : Side) (chunk rest us : List ℕ) → us ≡ chunk ++ rest → told (fed_of s chunk).side (drop (fed_of s chunk).taken us) ≡ told s us
unfolding fed_of
told_fed s chunk rest us e = told_chunk (length chunk) s chunk rest us 0 e

-- the entry that waits is the first of those to come
abbrev pub with_first : Logged → Told → Told
with_first e t = record { entries = e ∷ t.entries; stop = t.stop; records = t.records }

pub told_given : (s : Side) (us : List ℕ) (e : Logged) → s.found ≡ Some e → told s us ≡ with_first e (told (given_of s) us)
unfolding told given_of
told_given s us e h = ap (λ (f : Option Logged). told_by s.stop f s.walk us) h ∙ go s.stop
  where
    go : (x : Stop) → told_by x (Some e) s.walk us ≡ with_first e (told_by x None s.walk us)
    go stop.Reading = refl
    go stop.Ended = refl
    go (stop.Refused n) = refl
    go (stop.Unnamed n) = refl

-- a side that is over
pub told_over_lem : (s : Side) (us : List ℕ) → ready_of s ≡ ready.Over
    → ((told s us).entries ≡ []) × (s.stop ≡ (told s us).stop) × (s.walk.records ≡ (told s us).records)
unfolding told ready_of
told_over_lem s us h = go s.found s.stop h
  where
    go : (f : Option Logged) (x : Stop) → ready_with f x ≡ ready.Over
        → ((told_by x f s.walk us).entries ≡ []) × (x ≡ (told_by x f s.walk us).stop) × (s.walk.records ≡ (told_by x f s.walk us).records)
    go (Some e) x h = absurd (cc)
    go None stop.Reading h = absurd (cc)
    go None stop.Ended h = (refl, refl, refl)
    go None (stop.Refused n) h = (refl, refl, refl)
    go None (stop.Unnamed n) h = (refl, refl, refl)
