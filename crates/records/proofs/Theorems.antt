-- What readers and writers of records may rely on. Assumes nothing.
use mathlib.Core.Path.{◌≡◌, refl, sym, ap, ap₂, subst, ◌∙◌}
use mathlib.Core.Bool.{Bool, true, false, cond}
use Prim.Native.Nat.{ℕ, zero, suc, ◌^◌, ◌<◌, ◌≤◌}
use native.Mathlib.Nat.{le_of_suc-le-suc, not-suc-le-zero}
use native.Mathlib.Omega.{arith}
use mathlib.Core.List.{List, [], ◌∷◌, ◌++◌}
use lib.ListN.{length, get_or, take, drop, length-append, length-take, length-drop}
use lib.Seq.{take-append-le, length-take-le}
use Rattle.std.proofs.lemmas.List.{take-append-drop}
use Rattle.std.specs.Array.{IsFirstChunk}
use lib.Dec.{ltb, eqb}
use borrow.Author.Tests.{ltb-false, eqb-true, le-ltb}
use Rattle.words.specs.declared.refusals.Refusal.TheVariants.{ShortRecord, RecordLength, OutOfRange}
use Rattle.std.specs.Prelude.{Ok, Err}
use Rattle.records.specs.Numbers.{number_after, number_of, bytes_of}
use Rattle.records.specs.Records.{last_bus, in_range, record_at, read_of, form_of, refusal_of, writes, written_of}
use Rattle.records.specs.Theorems.{Bytes, ReadWritten, WriteRead, OnlyForm, ReadFits, OneForm, RefusedExactly}
use Rattle.records.specs.declared.forms.WordRecord.{WordRecord}
use Rattle.records.proofs.Digits.{bytes_take, bytes_drop, number_lt, number_bytes, bytes_number}
use Rattle.records.proofs.Ranges.{in_range_time}
use Rattle.records.proofs.Cases.{short, bad_length, bad_field, good, written}

-- ---- which bytes are read

pub refused_exactly : RefusedExactly
refused_exactly last bytes = record {
  short = λ l. sym (short last bytes l);
  length_wrong = λ l h. sym (bad_length last bytes l refl h);
  out_of_range = λ l h f. sym (bad_field last bytes l refl h refl refl f);
  no_other = λ l h f. sym (good last bytes l refl h refl refl f);
}

pub read_written : ReadWritten
unfolding number_after
read_written last r after fits =
    let s = form_of r ++ after in
    let time : r.time.0 < 256 ^ 8 = omega (arith, in_range_time last r fits.ranged) in
    let back : record_at s ≡ r = rw (number_bytes 8 r.time.0 time, number_bytes 2 r.word fits.sixteen) in
    (refused_exactly last s).no_other (omega arith) refl (ap (in_range last) back ∙ fits.ranged) ∙ ap Ok back

pub write_read : WriteRead
unfolding written_of
write_read r bytes fits l =
    let none : writes r bytes ≡ Ok tt = sym (written r bytes l refl fits.ranged) in
    (ap refusal_of none, rw none (read_written last_bus r (drop 16 bytes) fits), rw none refl)

-- ---- one form

-- what a read that gives a record shows
pub record Good (last : ℕ) (s : List ℕ) (r : WordRecord) : Type 0 where
  pub long : 16 ≤ length s
  pub length_right : number_of (take 2 s) ≡ 14
  pub ranged : in_range last (record_at s) ≡ true
  pub same : record_at s ≡ r

good_by : (last : ℕ) (s : List ℕ) (r : WordRecord) (a b e : Bool) → ltb (length s) 16 ≡ a → eqb (number_of (take 2 s)) 14 ≡ b → in_range last (record_at s) ≡ e
    → cond a (Err ShortRecord) (cond b (cond e (Ok (record_at s)) (Err OutOfRange)) (Err RecordLength)) ≡ Ok r → Good last s r
good_by last s r true b e p q t h = let z : ◌≡◌ {A = ℕ} 0 1 = cc in absurd (omega arith)
good_by last s r false false e p q t h = let z : ◌≡◌ {A = ℕ} 0 1 = cc in absurd (omega arith)
good_by last s r false true false p q t h = let z : ◌≡◌ {A = ℕ} 0 1 = cc in absurd (omega arith)
good_by last s r false true true p q t h =
    record { long = ltb-false (length s) 16 p; length_right = eqb-true (number_of (take 2 s)) 14 q; ranged = t; same = cc }

pub read_good : (last : ℕ) (s : List ℕ) (r : WordRecord) → read_of last s ≡ Ok r → Good last s r
unfolding read_of
read_good last s r h = good_by last s r (ltb (length s) 16) (eqb (number_of (take 2 s)) 14) (in_range last (record_at s)) refl refl refl h

-- a list with its first n elements written out
abbrev heads : ℕ → List ℕ → List ℕ
heads zero s = s
heads (suc n) s = get_or s 0 0 ∷ heads n (drop 1 s)

heads_same : (n : ℕ) (s : List ℕ) → n ≤ length s → s ≡ heads n s
heads_same zero s l = refl
heads_same (suc n) [] l = absurd (not-suc-le-zero l)
heads_same (suc n) (x ∷ s) l = ap (λ (k : List ℕ). x ∷ k) (heads_same n s (le_of_suc-le-suc l))

-- what stands after a record is not looked at
pub read_front : (last : ℕ) (s after : List ℕ) → 16 ≤ length s → read_of last (s ++ after) ≡ read_of last s
unfolding read_of
read_front last s after l =
    let long : 16 ≤ length (s ++ after) = omega (arith, length-append s after) in
    let record_same : record_at (s ++ after) ≡ record_at s =
    subst (λ (k : List ℕ). record_at (k ++ after) ≡ record_at k) (sym (heads_same 16 s l)) refl in
    let length_same : take 2 (s ++ after) ≡ take 2 s = take-append-le 2 s after (omega arith) in
    rw (le-ltb _ _ long, le-ltb _ _ l)
    (ap₂
    (λ (two : List ℕ) (r : WordRecord). cond (eqb (number_of two) 14) (cond (in_range last r) (Ok r) (Err OutOfRange)) (Err RecordLength))
    length_same record_same)

-- so reading the first 16 bytes gives what reading them all gives
module _ (bytes form : List ℕ) (front : IsFirstChunk bytes form 16) where
  pub front_long : 16 ≤ length form
  front_long = omega (arith, ap length front.same, length-take-le 16 bytes front.enough)

  pub front_read : (last : ℕ) → read_of last form ≡ read_of last bytes
  front_read last =
      let whole : bytes ≡ form ++ drop 16 bytes = sym (take-append-drop 16 bytes) ∙ ap (λ (k : List ℕ). k ++ drop 16 bytes) (sym front.same) in
      sym (ap (read_of last) whole ∙ read_front last form (drop 16 bytes) front_long)

-- 16 bytes with the right length are the form of the record that they spell
spelled_form : (s : List ℕ) → 16 ≤ length s → Bytes s → number_of (take 2 s) ≡ 14 → take 16 s ≡ form_of (record_at s)
spelled_form s l =
    subst (λ (k : List ℕ). Bytes k → number_of (take 2 k) ≡ 14 → take 16 k ≡ form_of (record_at k)) (sym (heads_same 16 s l))
    (λ h n.
    let t = heads 16 s in
    let length-bytes = ap (bytes_of 2) (sym n) ∙ bytes_number (take 2 t) (bytes_take 2 t h) in
    let time-bytes = bytes_number (take 8 (drop 2 t)) (bytes_take 8 (drop 2 t) (bytes_drop 2 t h)) in
    let word_Bytes = bytes_number (take 2 (drop 13 t)) (bytes_take 2 (drop 13 t) (bytes_drop 13 t h)) in
    cc)

pub only_form : OnlyForm
only_form last bytes r h e =
    let g = read_good last bytes r e in
    spelled_form bytes g.long h g.length_right ∙ ap form_of g.same

-- a word of two bytes
word_lt : (s : List ℕ) → 16 ≤ length s → Bytes s → number_of (take 2 (drop 13 s)) < 2 ^ 16
word_lt s l h =
    let two : length (take 2 (drop 13 s)) ≡ 2 = omega (arith, length-take 2 (drop 13 s), length-drop 13 s) in
    let below = number_lt {acc = 0} {m = 1} (take 2 (drop 13 s)) (omega arith) (bytes_take 2 (drop 13 s) (bytes_drop 13 s h)) in
    rw two at below

pub read_fits : ReadFits
read_fits last bytes r h e =
    let g = read_good last bytes r e in
    record { ranged = ap (in_range last) (sym g.same) ∙ g.ranged; sixteen = subst (λ (x : WordRecord). x.word < 2 ^ 16) g.same (word_lt bytes g.long h) }

pub one_form : OneForm
one_form last bytes others r h k e f = only_form last bytes r h e ∙ sym (only_form last others r k f)
