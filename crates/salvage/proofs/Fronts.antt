-- What stands at the front of some bytes, and how the definitions go on behind it. Assumes nothing.
use Rattle.std.proofs.Common.{◌≡◌, ℕ, zero, suc, ◌+◌, ◌<◌, ◌≤◌, Bool, true, false, cond, List, [], ◌∷◌, ◌++◌, length, take, drop, sym, refl, ap, ◌∙◌, append-nil, lt_of_not-le, arith, length-drop, take-append-drop, length-take-le, drop-drop, le-ltb, lt-ltb}
use native.Mathlib.Decide.{dec_le}
use mathlib.Core.Logic.{dite}
use Rattle.words.specs.declared.times.Moment.{Moment}
use Rattle.words.specs.declared.refusals.Refusal.{Refusal}
use Rattle.std.specs.Prelude.{Option, Some, None, Result, Ok, Err}
use Rattle.records.specs.Records.{last_bus, record_at, read_of}
use Rattle.records.specs.declared.forms.WordRecord.{WordRecord}
use Rattle.records.proofs.Cases.{short}
use Rattle.records.proofs.Theorems.{read_good, read_front}
use Rattle.salvage.specs.Pieces.{in_time, chosen, choice_of, Piece, kept, skipped, pieces_from}
use Rattle.salvage.specs.Machine.{longer, front_of, kept_from, skipped_from, place_by, place_of, stray_in, strays_in}
use Rattle.salvage.specs.Theorems.{InTime}
use Rattle.salvage.specs.declared.stretches.Stretch.{Stretch}

-- ---- the choice

pub never : (t : Moment) → None ≡ Some t → ⊥
never t h = cc

-- fewer than 16 bytes are skipped
pub choice_short : (last : Option Moment) (s : List ℕ) → length s < 16 → choice_of last s ≡ None
unfolding choice_of
choice_short last s l = ap (chosen last) (sym (short last_bus s l))

pub choice_long : (last : Option Moment) (s : List ℕ) (t : Moment) → choice_of last s ≡ Some t → 16 ≤ length s
choice_long last s t q = dite (dec_le 16 (length s)) (λ l. l) (λ few. absurd (never t (sym (choice_short last s (lt_of_not-le few)) ∙ q)))

-- and no more than 16 are looked at
pub choice_front : (last : Option Moment) (s after : List ℕ) → 16 ≤ length s → choice_of last (s ++ after) ≡ choice_of last s
unfolding choice_of
choice_front last s after l = ap (chosen last) (read_front last_bus s after l)

-- so those alone decide
pub place_sixteen : (last : Option Moment) (s : List ℕ) → 16 ≤ length s → place_of last (take 16 s) ≡ place_of last s
unfolding place_of
place_sixteen last s l =
    sym (ap (place_by last) (read_front last_bus (take 16 s) (drop 16 s) (omega (arith, length-take-le 16 s l)))) ∙ ap (λ (k : List ℕ). place_by last (read_of last_bus k)) (take-append-drop 16 s)

-- what a choice to keep shows
pub found : (last : Option Moment) (s : List ℕ) (t : Moment) → choice_of last s ≡ Some t → InTime last s t
unfolding choice_of
found last s t q = by (read_of last_bus s) refl q
  where
    kept_by_lem : (r : WordRecord) (b : Bool) → read_of last_bus s ≡ Ok r → in_time last r.time.0 ≡ b → cond b (Some r.time) None ≡ Some t → InTime last s t
    kept_by_lem r true e h k = record { r = r; reads = e; timed = cc; is_in_time = h }
    kept_by_lem r false e h k = absurd (never t k)

    by : (g : Result WordRecord Refusal) → read_of last_bus s ≡ g → chosen last g ≡ Some t → InTime last s t
    by (Ok r) e k = kept_by_lem r (in_time last r.time.0) e refl k
    by (Err n) e k = absurd (never t k)

-- 16 bytes are read as they stand, whatever comes behind them
pub front_read : (s more : List ℕ) → 16 ≤ length s → read_of last_bus (take 16 s ++ more) ≡ read_of last_bus s
front_read s more l =
    let long : 16 ≤ length (take 16 s) = omega (arith, length-take-le 16 s l) in
    read_front last_bus (take 16 s) more long ∙ sym (read_front last_bus (take 16 s) (drop 16 s) long) ∙ ap (read_of last_bus) (take-append-drop 16 s)

pub front_record : (last : Option Moment) (s : List ℕ) (t : Moment) (f : InTime last s t) → 16 ≤ length s → record_at (take 16 s) ≡ f.r
front_record last s t f l =
    let front = take 16 s in
    (read_good last_bus front f.r (ap (read_of last_bus) (sym (append-nil front)) ∙ front_read s [] l ∙ f.reads)).same

-- ---- the pieces

pieces_pass : (n : ℕ) (last : Option Moment) (s : List ℕ) → pieces_from n last s ≡ pieces_from 0 last (drop n s)
unfolding pieces_from
pieces_pass zero last s = refl
pieces_pass (suc n) last [] = refl
pieces_pass (suc n) last (x ∷ s) = pieces_pass n last s

pub pieces_keep : (last : Option Moment) (s : List ℕ) (t : Moment) → choice_of last s ≡ Some t → pieces_from 0 last s ≡ kept (take 16 s) ∷ pieces_from 0 (Some t) (drop 16 s)
unfolding pieces_from
pieces_keep last [] t q = absurd (never t (sym (choice_short last [] (omega arith)) ∙ q))
pieces_keep last (x ∷ s) t q = rw q (ap (λ (ps : List Piece). kept (take 16 (x ∷ s)) ∷ ps) (pieces_pass 15 (Some t) s))

pub pieces_skip : (last : Option Moment) (x : ℕ) (s : List ℕ) → choice_of last (x ∷ s) ≡ None → pieces_from 0 last (x ∷ s) ≡ skipped x ∷ pieces_from 0 last s
unfolding pieces_from
pieces_skip last x s q = rw q

-- by what is chosen
pub by_choice : (last : Option Moment) (s : List ℕ) (P : Type 0) → ((t : Moment) → choice_of last s ≡ Some t → P) → (choice_of last s ≡ None → P) → P
by_choice last s P keep skip = by (choice_of last s) refl
  where
    by : (g : Option Moment) → choice_of last s ≡ g → P
    by (Some t) q = keep t q
    by None q = skip q

-- ---- the stretches

pub kept_keep : (last : Option Moment) (s : List ℕ) (t : Moment) → choice_of last s ≡ Some t → kept_from last s ≡ longer (kept_from (Some t) (drop 16 s))
unfolding kept_from
kept_keep last s t q =
    let f = found last s t q in
    let time : (record_at (take 16 s)).time ≡ t = ap (λ (r : WordRecord). r.time) (front_record last s t f (choice_long last s t q)) ∙ f.timed in
    ap (front_of last) (pieces_keep last s t q) ∙ ap (λ (m : Moment). longer (front_of (Some m) (pieces_from 0 (Some t) (drop 16 s)))) time

pub kept_skip : (last : Option Moment) (s : List ℕ) → choice_of last s ≡ None → kept_from last s ≡ record { bytes = 0; last = last }
unfolding kept_from pieces_from
kept_skip last [] q = refl
kept_skip last (x ∷ s) q = ap (front_of last) (pieces_skip last x s q)

pub skipped_short : (last : Option Moment) (s : List ℕ) → length s < 16 → skipped_from last s ≡ 0
unfolding skipped_from
skipped_short last [] l = refl
skipped_short last (x ∷ s) l = rw (lt-ltb _ _ l)

pub skipped_kept : (last : Option Moment) (s : List ℕ) (t : Moment) → choice_of last s ≡ Some t → skipped_from last s ≡ 0
unfolding skipped_from
skipped_kept last [] t q = refl
skipped_kept last (x ∷ s) t q = rw (le-ltb _ _ (choice_long last (x ∷ s) t q), q)

pub skipped_one : (last : Option Moment) (x : ℕ) (s : List ℕ) → 16 ≤ length (x ∷ s) → choice_of last (x ∷ s) ≡ None → skipped_from last (x ∷ s) ≡ skipped_from last s + 1
unfolding skipped_from
skipped_one last x s l q = rw (le-ltb _ _ l, q)

-- ---- a place among skipped bytes

-- it is one to keep or to skip as the choice is, and says whether a record stands there
pub record Passed (last : Option Moment) (s : List ℕ) (stray : ℕ) : Type 0 where
  pub skips : choice_of last s ≡ None
  pub counted : stray ≡ stray_in (read_of last_bus s)

pub place_skips : (last : Option Moment) (s : List ℕ) (stray : ℕ) → place_of last s ≡ Err stray → Passed last s stray
unfolding place_of choice_of
place_skips last s stray q = by (read_of last_bus s) refl q
  where
    late : (r : WordRecord) (b : Bool) → read_of last_bus s ≡ Ok r → in_time last r.time.0 ≡ b → cond {A = Result Moment ℕ} b (Ok r.time) (Err 1) ≡ Err stray → Passed last s stray
    late r true e h k = absurd cc
    late r false e h k = record { skips = rw (e, h); counted = rw e (cc) }

    by : (g : Result WordRecord Refusal) → read_of last_bus s ≡ g → place_by last g ≡ Err stray → Passed last s stray
    by (Ok r) e k = late r (in_time last r.time.0) e refl k
    by (Err n) e k = record { skips = rw e; counted = rw e (cc) }

pub place_keeps : (last : Option Moment) (s : List ℕ) (t : Moment) → place_of last s ≡ Ok t → choice_of last s ≡ Some t
unfolding place_of choice_of
place_keeps last s t q = by (read_of last_bus s) refl q
  where
    kept_by_lem : (r : WordRecord) (b : Bool) → read_of last_bus s ≡ Ok r → in_time last r.time.0 ≡ b → cond {A = Result Moment ℕ} b (Ok r.time) (Err 1) ≡ Ok t → choice_of last s ≡ Some t
    kept_by_lem r true e h k = let same : r.time ≡ t = cc in rw (e, h, same)
    kept_by_lem r false e h k = absurd cc

    by : (g : Result WordRecord Refusal) → read_of last_bus s ≡ g → place_by last g ≡ Ok t → choice_of last s ≡ Some t
    by (Ok r) e k = kept_by_lem r (in_time last r.time.0) e refl k
    by (Err n) e k = absurd cc

-- one place more
pub strays_next : (n : ℕ) (s : List ℕ) → strays_in (n + 1) s ≡ strays_in n s + stray_in (read_of last_bus (drop n s))
strays_next zero s = omega arith
strays_next (suc n) s =
    ap (λ (k : ℕ). strays_in k s) {x = suc n + 1} {y = suc (n + 1)} (omega arith)
    ∙ ap (λ (k : ℕ). stray_in (read_of last_bus s) + k) (strays_next n (drop 1 s))
    ∙ ap (λ (k : List ℕ). stray_in (read_of last_bus s) + (strays_in n (drop 1 s) + stray_in (read_of last_bus k))) (drop-drop n 1 s ∙ ap (λ (k : ℕ). drop k s) {x = 1 + n} {y = suc n} (omega arith))
    ∙ omega arith

-- no place has more than one
stray_few : (g : Result WordRecord Refusal) → stray_in g ≤ 1
stray_few (Ok r) = omega arith
stray_few (Err n) = omega arith

pub strays_few : (n : ℕ) (s : List ℕ) → strays_in n s ≤ n
strays_few zero s = omega arith
strays_few (suc n) s = omega (arith, stray_few (read_of last_bus s), strays_few n (drop 1 s))

-- ---- no stretch is longer than the bytes

kept_within_by : (n : ℕ) (last : Option Moment) (s : List ℕ) → length s ≤ n → (kept_from last s).bytes ≤ length s
kept_within_by zero last s l =
    let none = kept_skip last s (choice_short last s (omega arith)) in
    omega (arith, ap (λ (k : Stretch). k.bytes) none)
kept_within_by (suc n) last s l =
    by_choice last s ((kept_from last s).bytes ≤ length s)
    (λ t q.
    let long = choice_long last s t q in
    let rest = kept_within_by n (Some t) (drop 16 s) (omega (arith, length-drop 16 s)) in
    omega (arith, long, rest, length-drop 16 s, ap (λ (k : Stretch). k.bytes) (kept_keep last s t q)))
    (λ q. omega (arith, ap (λ (k : Stretch). k.bytes) (kept_skip last s q)))

pub kept_within : (last : Option Moment) (s : List ℕ) → (kept_from last s).bytes ≤ length s
kept_within last s = kept_within_by (length s) last s (omega arith)

pub skipped_within : (last : Option Moment) (s : List ℕ) → skipped_from last s ≤ length s
skipped_within last [] = omega (arith, skipped_short last [] (omega arith))
skipped_within last (x ∷ s) =
    dite (dec_le 16 (length (x ∷ s)))
    (λ long.
    by_choice last (x ∷ s) (skipped_from last (x ∷ s) ≤ length (x ∷ s))
    (λ t q. omega (arith, skipped_kept last (x ∷ s) t q))
    (λ q. omega (arith, skipped_one last x s long q, skipped_within last s)))
    (λ few. omega (arith, skipped_short last (x ∷ s) (lt_of_not-le few)))
