-- Kept and skipped bytes together: every byte is in one piece, and the runs that are listed are the skipped ones. Assumes nothing.
use Rattle.words.specs.declared.times.Moment.{Moment}
use Rattle.std.specs.Prelude.{Option, Some, None}
use Rattle.std.proofs.Common.{◌≡◌, ℕ, zero, suc, ◌+◌, ◌-◌, ◌*◌, ◌≤◌, Bool, true, false, List, [], ◌∷◌, ◌++◌, length, take, drop, replicate, sym, refl, ap, ◌∙◌, subst, ap₂, append_assoc, zero-add, arith, length-append, length-drop, take-append-drop, length-take-le}
use lib.ListN.{replicate-append-replicate, length-replicate}
use Rattle.salvage.specs.Pieces.{Piece, kept, skipped, pieces_from, pieces_of, after_first, runs_from, runs_of, records_in, skipped_in}
use Rattle.salvage.specs.Theorems.{EachPlace, joined, flags, marks, Sixteen, in_runs, AllBytes, Apart, RunsLongest}
use Rattle.salvage.specs.declared.salvages.Run.{Run}
use Rattle.salvage.proofs.Cases.{choice_kept}
use Rattle.salvage.proofs.Fronts.{found, choice_long, by_choice, pieces_keep, pieces_skip}

-- ---- the walk

pub each_place : EachPlace
unfolding pieces_from
each_place = record {
  every = λ last bytes r e h. sym (choice_kept last bytes _ (sym e) r true refl (sym h) refl);
  only = found;
  keeps = pieces_keep;
  skips = pieces_skip;
  ends = λ last. refl;
}

-- ---- every byte

-- pieces of some bytes, those that are kept of 16
record Covers (s : List ℕ) (ps : List Piece) : Type 0 where
  bytes : joined ps ≡ s
  counts : 16 * records_in ps + skipped_in ps ≡ length (joined ps)
  flagged : length (flags ps) ≡ length (joined ps)
  sixteen : Sixteen ps

covers_kept : (s : List ℕ) (ps : List Piece) → 16 ≤ length s → Covers (drop 16 s) ps → Covers s (kept (take 16 s) ∷ ps)
covers_kept s ps l rest =
    let front : length (take 16 s) ≡ 16 = length-take-le 16 s l in
    record {
      bytes = ap (λ (k : List ℕ). take 16 s ++ k) rest.bytes ∙ take-append-drop 16 s;
      counts = omega (arith, rest.counts, front, length-append (take 16 s) (joined ps));
      flagged =
          omega (
            arith,
            rest.flagged,
            length-append (take 16 s) (joined ps),
            length-append (replicate (length (take 16 s)) false) (flags ps),
            length-replicate (length (take 16 s)) false,
          );
      sixteen = (front, rest.sixteen);
    }

covers_by : (fuel : ℕ) (last : Option Moment) (s : List ℕ) → length s ≤ fuel → Covers s (pieces_from 0 last s)
unfolding pieces_from
covers_by zero last [] l = record { bytes = refl; counts = refl; flagged = refl; sixteen = tt }
covers_by zero last (x ∷ s) l = absurd (omega arith)
covers_by (suc fuel) last [] l = record { bytes = refl; counts = refl; flagged = refl; sixteen = tt }
covers_by (suc fuel) last (x ∷ s) l =
    by_choice last (x ∷ s) (Covers (x ∷ s) (pieces_from 0 last (x ∷ s)))
    (λ t q.
    subst (Covers (x ∷ s)) (sym (pieces_keep last (x ∷ s) t q))
    (covers_kept (x ∷ s) (pieces_from 0 (Some t) (drop 16 (x ∷ s))) (choice_long last (x ∷ s) t q)
    (covers_by fuel (Some t) (drop 16 (x ∷ s)) (omega (arith, length-drop 16 (x ∷ s))))))
    (λ q.
    let rest = covers_by fuel last s (omega arith) in
    subst (Covers (x ∷ s)) (sym (pieces_skip last x s q))
    (record {
      bytes = ap (λ (k : List ℕ). x ∷ k) rest.bytes;
      counts = omega (arith, rest.counts);
      flagged = omega (arith, rest.flagged);
      sixteen = rest.sixteen;
    }))

-- ---- the runs

apart : (ps : List Piece) (least place before : ℕ) → least ≤ place → Apart least (runs_from place before ps)
apart [] least place zero l = tt
apart [] least place (suc n) l = (l, omega arith, tt)
apart (kept bytes ∷ ps) least place zero l = apart ps least (place + 0 + 16) 0 (omega arith)
apart (kept bytes ∷ ps) least place (suc n) l = (l, omega arith, apart ps (place + suc n + 1) (place + suc n + 16) 0 (omega arith))
apart (skipped byte ∷ ps) least place before l = apart ps least place (before + 1) l

pub runs_longest : RunsLongest
unfolding runs_of
runs_longest file = apart (pieces_of file) 1 1 0 (omega arith)

runs_sum : (ps : List Piece) (place before : ℕ) → in_runs (runs_from place before ps) ≡ before + skipped_in ps
runs_sum [] place zero = refl
runs_sum [] place (suc n) = refl
runs_sum (kept bytes ∷ ps) place zero = runs_sum ps (place + 0 + 16) 0
runs_sum (kept bytes ∷ ps) place (suc n) = omega (arith, runs_sum ps (place + suc n + 16) 0)
runs_sum (skipped byte ∷ ps) place before = runs_sum ps place (before + 1) ∙ omega arith

-- so many bytes that no run has stand before the runs
marks_shift : (place n count : ℕ) (runs : List Run) → Apart (place + n) runs → marks place runs (n + count) ≡ replicate n false ++ marks (place + n) runs count
marks_shift place n count [] a = sym (replicate-append-replicate n count false)
marks_shift place n count (run ∷ runs) a =
    let behind = run.place + run.length in
    let front : replicate (run.place - place) false ≡ replicate n false ++ replicate (run.place - (place + n)) false =
    ap (λ (k : ℕ). replicate k false) {x = run.place - place} {y = n + (run.place - (place + n))} (omega (arith, a.0))
    ∙ sym (replicate-append-replicate n (run.place - (place + n)) false) in
    let left : n + count - (behind - place) ≡ count - (behind - (place + n)) = omega (arith, a.0) in
    ap₂ (λ (k : List Bool) (j : ℕ). k ++ (replicate run.length true ++ marks behind runs j)) front left
    ∙ append_assoc (replicate n false) (replicate (run.place - (place + n)) false) (replicate run.length true ++ marks behind runs (count - (behind - (place + n))))

-- a run at the front, and what follows it
marks_run : (place n count : ℕ) (runs : List Run) → marks place (record { place = place; length = n } ∷ runs) (n + count) ≡ replicate n true ++ marks (place + n) runs count
marks_run place n count runs =
    let none : place - place ≡ 0 = omega arith in
    let left : n + count - (place + n - place) ≡ count = omega arith in
    ap₂ (λ (k j : ℕ). replicate k false ++ (replicate n true ++ marks (place + n) runs j)) none left

-- a record, and what follows it
marks_kept : (place q : ℕ) (ps : List Piece) → q ≡ place + 16 → marks q (runs_from q 0 ps) (0 + length (flags ps)) ≡ flags ps
    → marks place (runs_from q 0 ps) (16 + length (flags ps)) ≡ replicate 16 false ++ flags ps
marks_kept place q ps e rest =
    marks_shift place 16 (length (flags ps)) (runs_from q 0 ps) (apart ps (place + 16) q 0 (omega arith))
    ∙ ap (λ (k : List Bool). replicate 16 false ++ k)
    (ap₂ (λ (p n : ℕ). marks p (runs_from q 0 ps) n) (sym e) (sym (zero-add (length (flags ps)))) ∙ rest)

-- one skipped byte more before the pieces
marks_skipped : (n : ℕ) (fs : List Bool) → replicate (n + 1) true ++ fs ≡ replicate n true ++ (true ∷ fs)
marks_skipped n fs =
    ap (λ (k : List Bool). k ++ fs) (sym (replicate-append-replicate n 1 true)) ∙ append_assoc (replicate n true) (true ∷ []) fs

-- the flags of a record
flags_kept : (bytes : List ℕ) (fs : List Bool) → length bytes ≡ 16 → replicate (length bytes) false ++ fs ≡ replicate 16 false ++ fs
flags_kept bytes fs h = ap (λ (n : ℕ). replicate n false ++ fs) h

marks_all : (ps : List Piece) (place before : ℕ) → Sixteen ps → marks place (runs_from place before ps) (before + length (flags ps)) ≡ replicate before true ++ flags ps
marks_all [] place zero h = refl
marks_all [] place (suc n) h = marks_run place (suc n) 0 []
marks_all (kept bytes ∷ ps) place zero h =
    let count : 0 + length (flags (kept bytes ∷ ps)) ≡ 16 + length (flags ps) =
    ap (λ (fs : List Bool). 0 + length fs) (flags_kept bytes (flags ps) h.0) ∙ omega arith in
    ap (marks place (runs_from (place + 0 + 16) 0 ps)) count
    ∙ marks_kept place (place + 0 + 16) ps (omega arith) (marks_all ps (place + 0 + 16) 0 h.1)
    ∙ sym (flags_kept bytes (flags ps) h.0)
marks_all (kept bytes ∷ ps) place (suc n) h =
    let count : suc n + length (flags (kept bytes ∷ ps)) ≡ suc n + (16 + length (flags ps)) =
    ap (λ (fs : List Bool). suc n + length fs) (flags_kept bytes (flags ps) h.0) ∙ omega arith in
    let rest = runs_from (place + suc n + 16) 0 ps in
    ap (marks place (record { place = place; length = suc n } ∷ rest)) count
    ∙ marks_run place (suc n) (16 + length (flags ps)) rest
    ∙ ap (λ (k : List Bool). replicate (suc n) true ++ k)
    (marks_kept (place + suc n) (place + suc n + 16) ps refl (marks_all ps (place + suc n + 16) 0 h.1)
    ∙ sym (flags_kept bytes (flags ps) h.0))
marks_all (skipped byte ∷ ps) place before h =
    let count : before + suc (length (flags ps)) ≡ before + 1 + length (flags ps) = omega arith in
    ap (marks place (runs_from place (before + 1) ps)) count ∙ marks_all ps place (before + 1) h ∙ marks_skipped before (flags ps)

pub all_bytes : AllBytes
unfolding runs_of pieces_of
all_bytes file =
    let s = after_first file in
    let ps = pieces_from 0 None s in
    let covers = covers_by (length s) None s (omega arith) in
    let size : length (joined ps) ≡ length s = ap length covers.bytes in
    record {
      every_byte = covers.bytes;
      sixteen = covers.sixteen;
      as_listed = ap (marks 1 (runs_from 1 0 ps)) {x = length s} {y = 0 + length (flags ps)} (omega (arith, size, covers.flagged)) ∙ marks_all ps 1 0 covers.sixteen;
      adds_up = covers.counts ∙ size;
      runs_add_up = runs_sum ps 1 0 ∙ zero-add (skipped_in ps);
    }
