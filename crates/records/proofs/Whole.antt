-- A written file is read as its records, and only that file is. Assumes nothing.
use mathlib.Core.Path.{◌≡◌, refl, sym, ap, ap₂, ◌∙◌}
use mathlib.Core.Bool.{Bool, true, false, cond}
use Prim.Native.Nat.{ℕ, zero, suc, ◌+◌, ◌≤◌, ◌<◌}
use native.Mathlib.Nat.{lt_of_not-le}
use native.Mathlib.Omega.{arith}
use mathlib.Core.List.{List, [], ◌∷◌, ◌++◌, append_assoc}
use mathlib.Core.Logic.{dite}
use native.Mathlib.Decide.{dec_le}
use lib.Dec.{eqb}
use lib.ListN.{length, drop, length-drop, drop_of_length-le, take-append-drop}
use lib.Seq.{drop-drop}
use borrow.Author.Tests.{eqb-true, ne_eqb, le-leb, lt-leb}
use Rattle.words.specs.declared.refusals.Refusal.{Refusal}
use Rattle.words.specs.declared.refusals.Refusal.TheVariants.{WrongVersion}
use Rattle.std.specs.Prelude.{Result, Ok, Err}
use Rattle.records.specs.Numbers.{number_after}
use Rattle.records.specs.Records.{form_of, read_of}
use Rattle.records.specs.Files.{version, last_bus_of, forms_of, file_of, open_of, step_from, next_of, Walk, whole, stops, go_on, walk_from, walk_at, walk_of}
use Rattle.records.specs.Theorems.{Bytes, AllFit, step_of, NextWalk, FileWritten, FileStops, OnlyFile, Example}
use Rattle.records.specs.declared.forms.WordRecord.{WordRecord}
use Rattle.records.specs.declared.files.Cursor.{Cursor}
use Rattle.records.proofs.Digits.{bytes_drop}
use Rattle.records.proofs.Theorems.{read_written, only_form}
use Rattle.records.proofs.Walks.{walk_none, walk_some}

-- ---- the cursor's steps are the walk's

from_step : (c : Cursor) (g : Result WordRecord Refusal) (w : Cursor → Walk) → step_of (step_from c g) w ≡ go_on g (w (record { at = c.at + 16; last_bus = c.last_bus }))
from_step c (Ok r) w = refl
from_step c (Err n) w = refl

pub next_walk : NextWalk
unfolding next_of
next_walk file c n =
    let at = c.at in
    let last = c.last_bus in
    dite (dec_le (length file) at)
    (λ end. rw (le-leb _ _ end) (ap (walk_from last (suc n)) (drop_of_length-le file end) ∙ walk_none last (suc n)))
    (λ more.
    let l : at < length file = lt_of_not-le more in
    rw (lt-leb _ _ l, walk_some last n (drop at file) (omega (arith, length-drop at file)), drop-drop 16 at file)
    (sym (from_step c (read_of last (drop at file)) (λ (place : Cursor). walk_from place.last_bus n (drop place.at file)))))

-- ---- a written file is read as its records

forms_walk : (last n : ℕ) (rs : List WordRecord) → length (forms_of rs) ≤ n → AllFit last rs → walk_from last n (forms_of rs) ≡ whole rs
unfolding forms_of
forms_walk last n [] l fit = walk_none last n
forms_walk last zero (r ∷ rs) l fit = absurd (omega arith)
forms_walk last (suc n) (r ∷ rs) l fit =
    walk_some last n (form_of r ++ forms_of rs) (omega arith)
    ∙ ap₂ go_on (read_written last r (forms_of rs) fit.0) (forms_walk last n rs (omega arith) fit.1)

pub file_written : FileWritten
unfolding walk_of open_of
file_written rs fit = forms_walk (last_bus_of version) (length (file_of rs)) rs (omega arith) fit

-- ---- a file that stops

forms_stop : (last n : ℕ) (rs : List WordRecord) (rest : List ℕ) (k : Refusal) → length (forms_of rs ++ rest) ≤ n → AllFit last rs → 0 < length rest → read_of last rest ≡ Err k → walk_from last n (forms_of rs ++ rest) ≡ stops k
unfolding forms_of
forms_stop last zero [] rest k l fit some e = absurd (omega arith)
forms_stop last (suc n) [] rest k l fit some e = walk_some last n rest some ∙ ap (λ (g : Result WordRecord Refusal). go_on g (walk_from last n (drop 16 rest))) e
forms_stop last zero (r ∷ rs) rest k l fit some e = absurd (omega arith)
forms_stop last (suc n) (r ∷ rs) rest k l fit some e =
    let bytes : (form_of r ++ forms_of rs) ++ rest ≡ form_of r ++ (forms_of rs ++ rest) = append_assoc (form_of r) (forms_of rs) rest in
    walk_some last n ((form_of r ++ forms_of rs) ++ rest) (omega arith)
    ∙ ap₂ go_on (ap (read_of last) bytes ∙ read_written last r (forms_of rs ++ rest) fit.0) (forms_stop last n rs rest k (omega arith) fit.1 some e)

pub file_refused : FileStops
unfolding walk_of open_of
file_refused = record {
  no_byte = refl;
  other_version = λ first rest h. rw (ne_eqb first 1 h);
  at_record = λ rs rest k fit some e. forms_stop (last_bus_of version) (length (file_of rs ++ rest)) rs rest k (omega arith) fit some e;
}

-- ---- and only that file

-- holding is not stopping
never : (n : Refusal) (rs : List WordRecord) → stops n ≡ whole rs → ⊥
never n rs h = let z : ◌≡◌ {A = ℕ} 0 1 = cc in omega arith

-- by what stands first and what follows it
held_by : (last : ℕ) (s : List ℕ) (rs : List WordRecord) (g : Result WordRecord Refusal) (w : Walk) → Bytes s → read_of last s ≡ g → ((ts : List WordRecord) → w ≡ whole ts → drop 16 s ≡ forms_of ts) → go_on g w ≡ whole rs → s ≡ forms_of rs
unfolding forms_of
held_by last s rs (Err n) w h e rest q = absurd (never n rs q)
held_by last s rs (Ok r) (stops n) h e rest q = absurd (never n rs q)
held_by last s rs (Ok r) (whole ts) h e rest q =
    let all : rs ≡ r ∷ ts = cc in
    sym (take-append-drop 16 s) ∙ ap₂ ◌++◌ (only_form last s r h e) (rest ts refl) ∙ sym (ap forms_of all)

none_held : (last n : ℕ) (rs : List WordRecord) → walk_from last n [] ≡ whole rs → [] ≡ forms_of rs
unfolding forms_of
none_held last n rs q =
    let none : whole [] ≡ whole rs = sym (walk_none last n) ∙ q in
    let same : [] ≡ rs = cc in
    ap forms_of same

walk_held : (last n : ℕ) (s : List ℕ) (rs : List WordRecord) → length s ≤ n → Bytes s → walk_from last n s ≡ whole rs → s ≡ forms_of rs
walk_held last zero [] rs l h q = none_held last zero rs q
walk_held last zero (x ∷ s) rs l h q = absurd (omega arith)
walk_held last (suc n) [] rs l h q = none_held last (suc n) rs q
walk_held last (suc n) (x ∷ s) rs l h q =
    held_by last (x ∷ s) rs (read_of last (x ∷ s)) (walk_from last n (drop 16 (x ∷ s))) h refl
    (λ ts p. walk_held last n (drop 16 (x ∷ s)) ts (omega (arith, length-drop 16 (x ∷ s))) (bytes_drop 16 (x ∷ s) h) p)
    (sym (walk_some last n (x ∷ s) (omega arith)) ∙ q)

-- by whether the first byte is the version
file_by : (x : ℕ) (s : List ℕ) (rs : List WordRecord) (b : Bool) → eqb x 1 ≡ b → Bytes (x ∷ s)
    → walk_at (cond b (Ok (record { at = 1; last_bus = last_bus_of x })) (Err WrongVersion)) (x ∷ s) ≡ whole rs → x ∷ s ≡ file_of rs
file_by x s rs true e h q = ap₂ ◌∷◌ (eqb-true x 1 e) (walk_held (last_bus_of x) (suc (length s)) s rs (omega arith) (λ i. h (suc i)) q)
file_by x s rs false e h q = absurd (never WrongVersion rs q)

pub only_file : OnlyFile
unfolding walk_of open_of
only_file [] rs h q = absurd (never WrongVersion rs q)
only_file (x ∷ s) rs h q = file_by x s rs (eqb x 1) refl h q

-- ---- the example of document 01

pub example : Example
unfolding walk_of open_of walk_from read_of number_after forms_of
example = (refl, refl)
