-- A tally of the pieces so far, kept piece by piece: what the definition gives of a whole file. Assumes nothing.
use Rattle.words.specs.declared.times.Moment.{Moment}
use Rattle.std.specs.Prelude.{Option, Some, None}
use Rattle.std.proofs.Common.{◌≡◌, ℕ, zero, suc, ◌+◌, ◌/◌, ◌<◌, ◌≤◌, cond, eqb, List, [], ◌∷◌, ◌++◌, length, take, drop, sym, refl, ap, ◌∙◌, subst, ap₂, append_assoc, append-nil, add-zero, lt_of_not-le, arith, length-drop, drop-drop, take-add, eq-eqb, ne_eqb}
use native.Mathlib.Decide.{dec_le}
use mathlib.Core.Logic.{dite}
use lib.Seq.{take-append-le, drop-append-le}
use Rattle.salvage.specs.Pieces.{choice_of, Piece, kept, skipped, pieces_from, kept_bytes, listed, runs_from, records_in, skipped_in}
use Rattle.salvage.specs.Machine.{kept_from, skipped_from}
use Rattle.salvage.specs.declared.stretches.Stretch.{Stretch}
use Rattle.salvage.specs.declared.salvages.Run.{Run}
use Rattle.salvage.proofs.Fronts.{choice_short, choice_long, choice_front, by_choice, pieces_keep, pieces_skip, kept_keep, kept_skip, skipped_short, skipped_kept, skipped_one}

pub record Tally : Type 0 where
  pub clean : List ℕ
  pub runs : List Run
  pub place : ℕ
  pub before : ℕ
  pub records : ℕ
  pub skipped : ℕ

-- one piece more
abbrev step : Tally → Piece → Tally
step t (kept bytes) = record {
  clean = t.clean ++ bytes;
  runs = t.runs ++ listed t.place t.before;
  place = t.place + t.before + 16;
  before = 0;
  records = t.records + 1;
  skipped = t.skipped;
}
step t (skipped byte) = record {
  clean = t.clean;
  runs = t.runs;
  place = t.place;
  before = t.before + 1;
  records = t.records;
  skipped = t.skipped + 1;
}

abbrev pub tell : Tally → List Piece → Tally
tell t [] = t
tell t (piece ∷ pieces) = tell (step t piece) pieces

-- ---- what the definition gives

pub tell_clean : (t : Tally) (ps : List Piece) → (tell t ps).clean ≡ t.clean ++ kept_bytes ps
tell_clean t [] = sym (append-nil t.clean)
tell_clean t (kept bytes ∷ ps) = tell_clean (step t (kept bytes)) ps ∙ append_assoc t.clean bytes (kept_bytes ps)
tell_clean t (skipped byte ∷ ps) = tell_clean (step t (skipped byte)) ps

pub tell_runs : (t : Tally) (ps : List Piece) → (tell t ps).runs ++ listed (tell t ps).place (tell t ps).before ≡ t.runs ++ runs_from t.place t.before ps
tell_runs t [] = refl
tell_runs t (kept bytes ∷ ps) =
    tell_runs (step t (kept bytes)) ps ∙ append_assoc t.runs (listed t.place t.before) (runs_from (t.place + t.before + 16) 0 ps)
tell_runs t (skipped byte ∷ ps) = tell_runs (step t (skipped byte)) ps

pub tell_records : (t : Tally) (ps : List Piece) → (tell t ps).records ≡ t.records + records_in ps
tell_records t [] = sym (add-zero t.records)
tell_records t (kept bytes ∷ ps) = tell_records (step t (kept bytes)) ps ∙ omega arith
tell_records t (skipped byte ∷ ps) = tell_records (step t (skipped byte)) ps

pub tell_skipped : (t : Tally) (ps : List Piece) → (tell t ps).skipped ≡ t.skipped + skipped_in ps
tell_skipped t [] = sym (add-zero t.skipped)
tell_skipped t (kept bytes ∷ ps) = tell_skipped (step t (kept bytes)) ps
tell_skipped t (skipped byte ∷ ps) = tell_skipped (step t (skipped byte)) ps ∙ omega arith

-- ---- a stretch at once

-- so many skipped bytes more
abbrev pub with_skipped : Tally → ℕ → Tally
with_skipped t n = record {
  clean = t.clean;
  runs = t.runs;
  place = t.place;
  before = t.before + n;
  records = t.records;
  skipped = t.skipped + n;
}

-- so many kept bytes more, records all of them
abbrev pub with_records : Tally → List ℕ → ℕ → Tally
with_records t bytes n = record {
  clean = t.clean ++ bytes;
  runs = t.runs ++ listed t.place t.before;
  place = t.place + t.before + n;
  before = 0;
  records = t.records + n / 16;
  skipped = t.skipped;
}

unfoldable pub with_kept : Tally → List ℕ → ℕ → Tally
with_kept t bytes n = cond (eqb n 0) t (with_records t bytes n)

pub with_none : (t : Tally) (bytes : List ℕ) (n : ℕ) → n ≡ 0 → with_kept t bytes n ≡ t
unfolding with_kept
with_none t bytes n h = rw (eq-eqb _ _ h)

pub with_some : (t : Tally) (bytes : List ℕ) (n : ℕ) → (n ≡ 0 → ⊥) → with_kept t bytes n ≡ with_records t bytes n
unfolding with_kept
with_some t bytes n h = rw (ne_eqb _ _ h)

-- a tally is its fields
pub tally_same : (a b : Tally) → a.clean ≡ b.clean → a.runs ≡ b.runs → a.place ≡ b.place → a.before ≡ b.before → a.records ≡ b.records → a.skipped ≡ b.skipped → a ≡ b
tally_same a b c r p l n k =
    ap₂ (λ (x : List ℕ) (y : List Run). record { clean = x; runs = y; place = a.place; before = a.before; records = a.records; skipped = a.skipped }) c r
    ∙ ap₂ (λ (x y : ℕ). record { clean = b.clean; runs = b.runs; place = x; before = y; records = a.records; skipped = a.skipped }) p l
    ∙ ap₂ (λ (x y : ℕ). record { clean = b.clean; runs = b.runs; place = b.place; before = b.before; records = x; skipped = y }) n k

-- a record in front of a stretch of n bytes
kept_on : (t : Tally) (s : List ℕ) (n : ℕ) → with_kept (step t (kept (take 16 s))) (take n (drop 16 s)) n ≡ with_kept t (take (16 + n) s) (16 + n)
kept_on t s n =
    let whole = with_some t (take (16 + n) s) (16 + n) (λ h. omega arith) in
    let bytes : take 16 s ++ take n (drop 16 s) ≡ take (16 + n) s = sym (take-add 16 n s) in
    dite (dec_le n 0)
    (λ none.
    with_none (step t (kept (take 16 s))) (take n (drop 16 s)) n (omega arith)
    ∙ tally_same (step t (kept (take 16 s))) (with_records t (take (16 + n) s) (16 + n))
    (ap (λ (k : ℕ). t.clean ++ take k s) {x = 16} {y = 16 + n} (omega arith)) refl (omega arith) refl (omega arith) refl
    ∙ sym whole)
    (λ some.
    with_some (step t (kept (take 16 s))) (take n (drop 16 s)) n (λ h. some (omega arith))
    ∙ tally_same (with_records (step t (kept (take 16 s))) (take n (drop 16 s)) n) (with_records t (take (16 + n) s) (16 + n))
    (append_assoc t.clean (take 16 s) (take n (drop 16 s)) ∙ ap (λ (k : List ℕ). t.clean ++ k) bytes)
    (append-nil (t.runs ++ listed t.place t.before)) (omega arith) refl (omega arith) refl
    ∙ sym whole)

-- what a tally comes to with a stretch, of bytes that others follow
abbrev Kept : Tally → Option Moment → List ℕ → List ℕ → Stretch → Type 0
Kept t last s after k =
    tell t (pieces_from 0 last (s ++ after)) ≡ tell (with_kept t (take k.bytes s) k.bytes) (pieces_from 0 k.last (drop k.bytes s ++ after))

kept_none_lem : (t : Tally) (last : Option Moment) (s after : List ℕ) → choice_of last s ≡ None → Kept t last s after (kept_from last s)
kept_none_lem t last s after q =
    subst (Kept t last s after) (sym (kept_skip last s q))
    (ap (λ (u : Tally). tell u (pieces_from 0 last (s ++ after))) (sym (with_none t (take 0 s) 0 refl)))

tell_kept_by : (fuel : ℕ) (t : Tally) (last : Option Moment) (s after : List ℕ) → length s ≤ fuel → Kept t last s after (kept_from last s)
tell_kept_by zero t last s after l = kept_none_lem t last s after (choice_short last s (omega arith))
tell_kept_by (suc fuel) t last s after l =
    by_choice last s (Kept t last s after (kept_from last s))
    (λ m q.
    let long = choice_long last s m q in
    let rest = kept_from (Some m) (drop 16 s) in
    let u = step t (kept (take 16 s)) in
    let first : tell t (pieces_from 0 last (s ++ after)) ≡ tell u (pieces_from 0 (Some m) (drop 16 s ++ after)) =
    ap (tell t) (pieces_keep last (s ++ after) m (choice_front last s after long ∙ q))
    ∙ ap₂ (λ (front more : List ℕ). tell (step t (kept front)) (pieces_from 0 (Some m) more)) (take-append-le 16 s after long) (drop-append-le 16 s after long) in
    subst (Kept t last s after) (sym (kept_keep last s m q))
    (first
    ∙ tell_kept_by fuel u (Some m) (drop 16 s) after (omega (arith, length-drop 16 s))
    ∙ ap₂ (λ (v : Tally) (more : List ℕ). tell v (pieces_from 0 rest.last (more ++ after))) (kept_on t s rest.bytes) (drop-drop rest.bytes 16 s)))
    (λ q. kept_none_lem t last s after q)

pub tell_kept : (t : Tally) (last : Option Moment) (s after : List ℕ)
    → tell t (pieces_from 0 last (s ++ after))
    ≡ tell (with_kept t (take (kept_from last s).bytes s) (kept_from last s).bytes) (pieces_from 0 (kept_from last s).last (drop (kept_from last s).bytes s ++ after))
tell_kept t last s after = tell_kept_by (length s) t last s after (omega arith)

-- ---- skipped bytes at once

skipped_on : (t : Tally) (x n : ℕ) → with_skipped (step t (skipped x)) n ≡ with_skipped t (suc n)
skipped_on t x n = tally_same (with_skipped (step t (skipped x)) n) (with_skipped t (suc n)) refl refl refl (omega arith) refl (omega arith)

skipped_nothing : (t : Tally) → t ≡ with_skipped t 0
skipped_nothing t = tally_same t (with_skipped t 0) refl refl refl (omega arith) refl (omega arith)

abbrev Skipped : Tally → Option Moment → List ℕ → List ℕ → ℕ → Type 0
Skipped t last s after n = tell t (pieces_from 0 last (s ++ after)) ≡ tell (with_skipped t n) (pieces_from 0 last (drop n s ++ after))

skipped_none : (t : Tally) (last : Option Moment) (s after : List ℕ) (n : ℕ) → n ≡ 0 → Skipped t last s after n
skipped_none t last s after n q = subst (Skipped t last s after) (sym q) (ap (λ (u : Tally). tell u (pieces_from 0 last (s ++ after))) (skipped_nothing t))

pub tell_skips : (t : Tally) (last : Option Moment) (s after : List ℕ)
    → tell t (pieces_from 0 last (s ++ after)) ≡ tell (with_skipped t (skipped_from last s)) (pieces_from 0 last (drop (skipped_from last s) s ++ after))
tell_skips t last [] after = skipped_none t last [] after (skipped_from last []) (skipped_short last [] (omega arith))
tell_skips t last (x ∷ s) after =
    dite (dec_le 16 (length (x ∷ s)))
    (λ long.
    by_choice last (x ∷ s) (Skipped t last (x ∷ s) after (skipped_from last (x ∷ s)))
    (λ m q. skipped_none t last (x ∷ s) after (skipped_from last (x ∷ s)) (skipped_kept last (x ∷ s) m q))
    (λ q.
    let n = skipped_from last s in
    let count : suc n ≡ skipped_from last (x ∷ s) = omega (arith, skipped_one last x s long q) in
    subst (Skipped t last (x ∷ s) after) count
    (ap (tell t) (pieces_skip last x (s ++ after) (choice_front last (x ∷ s) after long ∙ q))
    ∙ tell_skips (step t (skipped x)) last s after
    ∙ ap (λ (u : Tally). tell u (pieces_from 0 last (drop n s ++ after))) (skipped_on t x n))))
    (λ few. skipped_none t last (x ∷ s) after (skipped_from last (x ∷ s)) (skipped_short last (x ∷ s) (lt_of_not-le few)))

-- fewer than 16 bytes at the end
pub tell_rest : (t : Tally) (last : Option Moment) (s : List ℕ) → length s < 16 → tell t (pieces_from 0 last s) ≡ with_skipped t (length s)
unfolding pieces_from
tell_rest t last [] l = skipped_nothing t
tell_rest t last (x ∷ s) l =
    ap (tell t) (pieces_skip last x s (choice_short last (x ∷ s) l)) ∙ tell_rest (step t (skipped x)) last s (omega arith) ∙ skipped_on t x (length s)
