-- The cases of reading and writing, each from the facts that the code's tests give. Assumes nothing.
use mathlib.Core.Path.{◌≡◌, refl, sym, ap, ◌∙◌}
use mathlib.Core.Bool.{Bool, true, false}
use Prim.Native.Nat.{ℕ, ◌+◌, ◌-◌, ◌≤◌, ◌<◌}
use native.Mathlib.Omega.{arith}
use mathlib.Core.List.{List, [], ◌∷◌, ◌++◌}
use lib.ListN.{length, get_or, take, drop}
use borrow.Author.Tests.{lt-ltb, le-ltb, eq-eqb, ne_eqb, le-leb, lt-leb}
use Rattle.words.specs.declared.refusals.Refusal.{Refusal}
use Rattle.words.specs.declared.refusals.Refusal.TheVariants.{ShortRecord, RecordLength, OutOfRange, WrongVersion, NoRoom}
use Rattle.std.specs.Prelude.{Some, None, Result, Ok, Err}
use Rattle.std.proofs.lemmas.List.{take_rest}
use Rattle.records.specs.Numbers.{number_of}
use Rattle.records.specs.Records.{last_bus, in_range, form_of, record_at, read_of, writes, written_of}
use Rattle.records.specs.Files.{last_bus_of, open_of, next_of, step_from}
use Rattle.records.specs.declared.forms.WordRecord.{WordRecord}
use Rattle.records.specs.declared.files.Cursor.{Cursor}

-- ---- reading

pub short : (last : ℕ) (s : List ℕ) → length s < 16 → Err ShortRecord ≡ read_of last s
unfolding read_of
short last s l = rw (lt-ltb _ _ l)

-- n is the length field as the code read it, r the record, b its test
module _ (last : ℕ) (s : List ℕ) {n : ℕ} (l : 16 ≤ length s) (p : n ≡ number_of (take 2 s)) where
  pub bad_length : (n ≡ 14 → ⊥) → Err RecordLength ≡ read_of last s
  unfolding read_of
  bad_length h = rw (le-ltb _ _ l, ← p, ne_eqb _ _ h)

  module _ {r : WordRecord} {b : Bool} (q : n ≡ 14) (e : r ≡ record_at s) (t : b ≡ in_range last r) where
    test : in_range last (record_at s) ≡ b
    test = ap (in_range last) (sym e) ∙ sym t

    pub good : b ≡ true → Ok r ≡ read_of last s
    unfolding read_of
    good h = rw (le-ltb _ _ l, ← p, eq-eqb _ _ q, test, h) (ap Ok e)

    pub bad_field : b ≡ false → Err OutOfRange ≡ read_of last s
    unfolding read_of
    bad_field h = rw (le-ltb _ _ l, ← p, eq-eqb _ _ q, test, h)

-- ---- writing

module _ (r : WordRecord) (s : List ℕ) (l : length s < 16) where
  pub no_room : Err NoRoom ≡ writes r s
  unfolding writes
  no_room = rw (lt-ltb _ _ l)

  pub no_room_kept : s ≡ written_of r s
  unfolding written_of
  no_room_kept = rw (← no_room)

module _ (r : WordRecord) (s : List ℕ) {b : Bool} (l : 16 ≤ length s) (t : b ≡ in_range last_bus r) where
  pub bad_write : b ≡ false → Err OutOfRange ≡ writes r s
  unfolding writes
  bad_write h = rw (le-ltb _ _ l, ← t, h)

  pub bad_write_kept : b ≡ false → s ≡ written_of r s
  unfolding written_of
  bad_write_kept h = rw (← bad_write h)

  pub written : b ≡ true → Ok tt ≡ writes r s
  unfolding writes
  written h = rw (le-ltb _ _ l, ← t, h)

  pub written_out : {x o : List ℕ} → b ≡ true → x ≡ form_of r → o ≡ take (length x) x ++ drop (length x) s → o ≡ written_of r s
  unfolding written_of
  written_out {x} {o} h e c = rw (← written h) (c ∙ ap (λ (k : List ℕ). take (length k) k ++ drop (length k) s) e)

-- ---- a file

pub opened_none : (s : List ℕ) → length s ≡ 0 → Err WrongVersion ≡ open_of s
unfolding open_of
opened_none [] l = refl
opened_none (x ∷ s) l = absurd (omega arith)

pub opened_bad : (s : List ℕ) → (get_or s 0 0 ≡ 1 → ⊥) → Err WrongVersion ≡ open_of s
unfolding open_of
opened_bad [] h = refl
opened_bad (x ∷ s) h = rw (ne_eqb x 1 h)

pub opened_at : (s : List ℕ) {bus : ℕ} → get_or s 0 0 ≡ 1 → bus ≡ last_bus_of (get_or s 0 0) → Ok (record { at = 1; last_bus = bus }) ≡ open_of s
unfolding open_of
opened_at [] h b = absurd (omega arith)
opened_at (x ∷ s) h b = rw (eq-eqb x 1 h, b)

pub at_end : (s : List ℕ) (c : Cursor) → length s ≤ c.at → Ok None ≡ next_of s c
unfolding next_of
at_end s c l = rw (le-leb _ _ l)

-- the code hands over a part of the file, which is all that is left of it
pub rest_read : (last : ℕ) (s : List ℕ) (at : ℕ) → at ≤ length s → read_of last (take (length s - at) (drop at s)) ≡ read_of last (drop at s)
rest_read last s at l = ap (read_of last) (take_rest s at)

module _ (s : List ℕ) (c : Cursor) {g : Result WordRecord Refusal} (l : c.at < length s) (e : g ≡ read_of c.last_bus (take (length s - c.at) (drop c.at s))) where
  going : step_from c g ≡ next_of s c
  unfolding next_of
  going = rw (lt-leb _ _ l) (ap (step_from c) (e ∙ rest_read c.last_bus s c.at (omega arith)))

  pub next_record : {r : WordRecord} → g ≡ Ok r → Ok (Some (r, record { at = c.at + 16; last_bus = c.last_bus })) ≡ next_of s c
  next_record q = ap (step_from c) (sym q) ∙ going

  pub next_refused : {n : Refusal} → g ≡ Err n → Err n ≡ next_of s c
  next_refused q = ap (step_from c) (sym q) ∙ going
