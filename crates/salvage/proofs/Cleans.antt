-- The clean file: it reads, is in order, and comes back as it is. Assumes nothing.
use Rattle.std.specs.Prelude.{Option, Some, None, Result, Ok, Err}
use Rattle.std.proofs.Common.{◌≡◌, ℕ, zero, suc, ◌+◌, ◌≤◌, Bool, true, false, cond, eqb, List, [], ◌∷◌, ◌++◌, length, take, drop, sym, refl, ap, ◌∙◌, subst, ap₂, arith, length-append, length-drop, take-append-drop, length-take-le, drop_at, eqb-true}
use Rattle.words.specs.declared.refusals.Refusal.{Refusal}
use Rattle.words.specs.declared.refusals.Refusal.TheVariants.{WrongVersion}
use Rattle.words.specs.declared.times.Moment.{Moment}
use Rattle.records.specs.Records.{last_bus, record_at, read_of}
use Rattle.records.specs.Files.{last_bus_of, open_of, Walk, whole, stops, go_on, walk_from, walk_at, walk_of}
use Rattle.records.specs.declared.forms.WordRecord.{WordRecord}
use Rattle.records.proofs.Walks.{walk_none, walk_some}
use Rattle.salvage.specs.Pieces.{in_time, choice_of, Piece, kept, pieces_from, after_first, pieces_of, kept_bytes, version_of, clean_of, runs_from, runs_of, changed_of}
use Rattle.salvage.specs.Theorems.{InTime, InOrder, kept_records, SavedReads, Unchanged, WholeFileKept, SavedAgain, EmptyFile}
use Rattle.salvage.proofs.Cases.{choice_kept}
use Rattle.salvage.proofs.Fronts.{found, front_read, front_record, choice_long, by_choice, pieces_keep, pieces_skip}

-- ---- what is kept reads

record Reads (last : Option Moment) (ps : List Piece) : Type 0 where
  walk : (n : ℕ) → length (kept_bytes ps) ≤ n → walk_from last_bus n (kept_bytes ps) ≡ whole (kept_records ps)
  order : InOrder last (kept_records ps)

reads_kept : (last : Option Moment) (s : List ℕ) (t : Moment) (ps : List Piece) → InTime last s t → 16 ≤ length s → Reads (Some t) ps → Reads last (kept (take 16 s) ∷ ps)
reads_kept last s t ps f l rest =
    let front = take 16 s in
    let sixteen : length front ≡ 16 = length-take-le 16 s l in
    let read : (more : List ℕ) → read_of last_bus (front ++ more) ≡ Ok f.r = λ more. front_read s more l ∙ f.reads in
    let record_is : record_at front ≡ f.r = front_record last s t f l in
    let time_is : (record_at front).time ≡ t = ap (λ (r : WordRecord). r.time) record_is ∙ f.timed in
    record {
      walk = walk_on front (kept_bytes ps) (kept_records ps) f.r (record_at front) sixteen (read (kept_bytes ps)) record_is rest.walk;
      order = (
        subst (λ (r : WordRecord). in_time last r.time.0 ≡ true) (sym record_is) f.is_in_time,
        subst (λ (m : Moment). InOrder (Some m) (kept_records ps)) (sym time_is) rest.order,
      );
    }
  where
    walk_on : (front more : List ℕ) (rs : List WordRecord) (r r' : WordRecord) → length front ≡ 16 → read_of last_bus (front ++ more) ≡ Ok r → r' ≡ r
        → ((n : ℕ) → length more ≤ n → walk_from last_bus n more ≡ whole rs) → (n : ℕ) → length (front ++ more) ≤ n → walk_from last_bus n (front ++ more) ≡ whole (r' ∷ rs)
    walk_on front more rs r r' sixteen e h w zero l = absurd (omega (arith, length-append front more))
    walk_on front more rs r r' sixteen e h w (suc n) l =
        walk_some last_bus n (front ++ more) (omega (arith, length-append front more))
        ∙ ap₂ go_on e (ap (walk_from last_bus n) (drop_at front more 16 sixteen) ∙ w n (omega (arith, length-append front more)))
        ∙ ap (λ (x : WordRecord). whole (x ∷ rs)) (sym h)

reads_none : (last : Option Moment) → Reads last []
reads_none last = record { walk = λ n l. walk_none last_bus n; order = tt }

reads_by : (fuel : ℕ) (last : Option Moment) (s : List ℕ) → length s ≤ fuel → Reads last (pieces_from 0 last s)
unfolding pieces_from
reads_by zero last [] l = reads_none last
reads_by zero last (x ∷ s) l = absurd (omega arith)
reads_by (suc fuel) last [] l = reads_none last
reads_by (suc fuel) last (x ∷ s) l =
    by_choice last (x ∷ s) (Reads last (pieces_from 0 last (x ∷ s)))
    (λ t q.
    subst (Reads last) (sym (pieces_keep last (x ∷ s) t q))
    (reads_kept last (x ∷ s) t (pieces_from 0 (Some t) (drop 16 (x ∷ s))) (found last (x ∷ s) t q) (choice_long last (x ∷ s) t q)
    (reads_by fuel (Some t) (drop 16 (x ∷ s)) (omega (arith, length-drop 16 (x ∷ s))))))
    (λ q.
    let rest = reads_by fuel last s (omega arith) in
    subst (Reads last) (sym (pieces_skip last x s q)) (record { walk = rest.walk; order = rest.order }))

pub saved_reads : SavedReads
unfolding version_of clean_of pieces_of walk_of open_of
saved_reads file =
    let reads = reads_by (length (after_first file)) None (after_first file) (omega arith) in
    (reads.walk (suc (length (kept_bytes (pieces_from 0 None (after_first file))))) (omega arith), reads.order)

-- ---- a whole file is kept

record Stays (last : Option Moment) (s : List ℕ) : Type 0 where
  bytes : kept_bytes (pieces_from 0 last s) ≡ s
  no_run : (place : ℕ) → runs_from place 0 (pieces_from 0 last s) ≡ []

stays_none : (last : Option Moment) → Stays last []
unfolding pieces_from
stays_none last = record { bytes = refl; no_run = λ place. refl }

-- a record at the front that is in time
stays_kept : (last : Option Moment) (s : List ℕ) (r : WordRecord) → read_of last_bus s ≡ Ok r → in_time last r.time.0 ≡ true → Stays (Some r.time) (drop 16 s) → Stays last s
stays_kept last s r e h rest =
    let choice : choice_of last s ≡ Some r.time = sym (choice_kept last s (Ok r) (sym e) r true refl (sym h) refl) in
    let pieces = pieces_keep last s r.time choice in
    record {
      bytes = ap kept_bytes pieces ∙ ap (λ (k : List ℕ). take 16 s ++ k) rest.bytes ∙ take-append-drop 16 s;
      no_run = λ place. ap (runs_from place 0) pieces ∙ rest.no_run (place + 0 + 16);
    }

stays_by : (n : ℕ) (last : Option Moment) (s : List ℕ) (rs : List WordRecord) → length s ≤ n → walk_from last_bus n s ≡ whole rs → InOrder last rs → Stays last s
stays_by zero last [] rs l w order = stays_none last
stays_by zero last (x ∷ s) rs l w order = absurd (omega arith)
stays_by (suc n) last [] rs l w order = stays_none last
stays_by (suc n) last (x ∷ s) rs l w order =
    by (read_of last_bus (x ∷ s)) (walk_from last_bus n (drop 16 (x ∷ s))) rs refl refl order (sym (walk_some last_bus n (x ∷ s) (omega arith)) ∙ w)
    (λ m ts q o. stays_by n (Some m) (drop 16 (x ∷ s)) ts (omega (arith, length-drop 16 (x ∷ s))) q o)
  where
    by : (g : Result WordRecord Refusal) (v : Walk) (rs : List WordRecord) → read_of last_bus (x ∷ s) ≡ g → walk_from last_bus n (drop 16 (x ∷ s)) ≡ v → InOrder last rs → go_on g v ≡ whole rs
        → ((m : Moment) (ts : List WordRecord) → walk_from last_bus n (drop 16 (x ∷ s)) ≡ whole ts → InOrder (Some m) ts → Stays (Some m) (drop 16 (x ∷ s))) → Stays last (x ∷ s)
    by (Err k) v rs e f o q rest = absurd cc
    by (Ok r) (stops k) rs e f o q rest = absurd cc
    by (Ok r) (whole ts) rs e f o q rest =
        let all : rs ≡ r ∷ ts = cc in
        let both : InOrder last (r ∷ ts) = subst (InOrder last) all o in
        stays_kept last (x ∷ s) r e both.0 (rest r.time ts f both.1)

-- by whether the first byte is the version
unchanged_by : (x : ℕ) (s : List ℕ) (rs : List WordRecord) (b : Bool) → eqb x 1 ≡ b
    → walk_at (cond b (Ok (record { at = 1; last_bus = last_bus_of x })) (Err WrongVersion)) (x ∷ s) ≡ whole rs → InOrder None rs → Unchanged (x ∷ s)
unfolding version_of clean_of runs_of pieces_of changed_of
unchanged_by x s rs true e w order =
    let stays = stays_by (suc (length s)) None s rs (omega arith) w order in
    record { same = ap₂ ◌∷◌ (sym (eqb-true x 1 e)) stays.bytes; no_run = stays.no_run 1; first_kept = rw e }
unchanged_by x s rs false e w order = absurd cc

pub whole_file_kept : WholeFileKept
unfolding walk_of open_of
whole_file_kept [] rs w order = absurd cc
whole_file_kept (x ∷ s) rs w order = unchanged_by x s rs (eqb x 1) refl w order

pub saved_again : SavedAgain
saved_again file = let reads = saved_reads file in whole_file_kept (clean_of file) (kept_records (pieces_of file)) reads.0 reads.1

pub empty_file : EmptyFile
unfolding version_of clean_of runs_of pieces_of pieces_from changed_of
empty_file = (refl, refl, refl)
