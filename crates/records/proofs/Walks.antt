-- The walk over a file as the loop makes it. Assumes nothing.
use mathlib.Core.Path.{◌≡◌, refl, sym, ap, subst, ◌∙◌}
use Prim.Native.Nat.{ℕ, zero, suc, ◌+◌, ◌-◌, ◌≤◌, ◌<◌}
use native.Mathlib.Nat.{add-zero, zero-add, lt_of_not-le}
use native.Mathlib.Omega.{arith}
use mathlib.Core.List.{List, [], ◌∷◌, ◌++◌, append-nil}
use lib.ListN.{length, take, drop, length-append, length-drop, drop_of_length-le}
use Rattle.std.proofs.Math.Seq.{drop-append_seam}
use mathlib.Core.Logic.{dite}
use native.Mathlib.Decide.{dec_le}
use Prim.Native.Nat.{min}
use mathlib.Core.Bool.{Bool, true, false, cond}
use lib.Dec.{eqb}
use Rattle.std.proofs.lemmas.List.{take_rest}
use borrow.Author.Tests.{ne_eqb}
use Rattle.words.specs.declared.refusals.Refusal.{Refusal}
use Rattle.words.specs.declared.refusals.Refusal.TheVariants.{WrongVersion}
use Rattle.std.specs.Prelude.{Result, Ok, Err}
use Rattle.records.specs.Records.{read_of}
use Rattle.records.specs.Files.{last_bus_of, open_of, Walk, whole, stops, with, go_on, walk_from, walk_at, walk_of, counts, counted_of}
use Rattle.records.specs.declared.forms.WordRecord.{WordRecord}
use Rattle.records.specs.declared.files.Cursor.{Cursor}
use Rattle.records.proofs.Theorems.{read_front}

-- so many records more
unfoldable pub more : ℕ → Result ℕ Refusal → Result ℕ Refusal
more n (Ok k) = Ok (n + k)
more n (Err r) = Err r

more_none : (x : Result ℕ Refusal) → more 0 x ≡ x
unfolding more
more_none (Ok k) = ap Ok (zero-add k)
more_none (Err r) = refl

more_with : (n : ℕ) (r : WordRecord) (w : Walk) → more n (counts (with r w)) ≡ more (n + 1) (counts w)
unfolding more
more_with n r (whole rs) = ap Ok (omega arith)
more_with n r (stops k) = refl

-- the walk at the end of the bytes
pub walk_none : (last n : ℕ) → walk_from last n [] ≡ whole []
unfolding walk_from
walk_none last zero = refl
walk_none last (suc n) = refl

pub walk_some : (last n : ℕ) (bytes : List ℕ) → 0 < length bytes → walk_from last (suc n) bytes ≡ go_on (read_of last bytes) (walk_from last n (drop 16 bytes))
unfolding walk_from
walk_some last n bytes l = rw (ne_eqb (length bytes) 0 (λ e. omega arith))

-- ---- the walk over chunks of 16 bytes, the last one of what is left

-- a list as its next chunk and what is left behind it
pub record Chunk (s x t : List ℕ) : Type 0 where
  pub parts : s ≡ x ++ t
  pub size : length x ≡ min 16 (length s)
  pub some : 0 < length s

pub chunk_of : (s x t : List ℕ) (size : ℕ) → size ≡ 16 → (s ≡ x ++ t) × (length x ≡ min size (length s)) × (0 < length s) → Chunk s x t
chunk_of s x t size e given = record { parts = given.0; size = given.1 ∙ ap (λ (k : ℕ). min k (length s)) e; some = given.2 }

-- a chunk of fewer bytes is the last
last_chunk : (x t : List ℕ) → length x < 16 → length x ≡ min 16 (length (x ++ t)) → t ≡ []
last_chunk x [] l e = refl
last_chunk x (y ∷ t) l e = absurd (omega (arith, length-append x (y ∷ t)))

chunk_read : (last : ℕ) (s x t : List ℕ) → Chunk s x t → read_of last x ≡ read_of last s
chunk_read last s x t c =
    let size : length x ≡ min 16 (length (x ++ t)) = c.size ∙ ap (λ (k : List ℕ). min 16 (length k)) c.parts in
    dite (dec_le 16 (length x))
    (λ long. sym (read_front last x t long) ∙ ap (read_of last) (sym c.parts))
    (λ short.
    let none : t ≡ [] = last_chunk x t (lt_of_not-le short) size in
    ap (read_of last) (sym (c.parts ∙ ap (λ (k : List ℕ). x ++ k) none ∙ append-nil x)))

chunk_rest : (s x t : List ℕ) → Chunk s x t → drop 16 s ≡ t
chunk_rest s x t c =
    let size : length x ≡ min 16 (length (x ++ t)) = c.size ∙ ap (λ (k : List ℕ). min 16 (length k)) c.parts in
    ap (drop 16) c.parts
    ∙ dite (dec_le 16 (length x))
    (λ long.
    let whole_chunk : length x ≡ 16 = omega (arith, size) in
    ap (λ (k : ℕ). drop k (x ++ t)) (sym whole_chunk) ∙ drop-append_seam x t)
    (λ short.
    let none : t ≡ [] = last_chunk x t (lt_of_not-le short) size in
    (let few : length (x ++ t) ≤ 16 = omega (arith, size, length-append x t, lt_of_not-le short) in
    drop_of_length-le (x ++ t) few ∙ sym none))

-- of the bytes that are left, with the records so far, the walk is the whole
pub record Left (last : ℕ) (bytes : List ℕ) (total : Result ℕ Refusal) (rest : List ℕ) (records : ℕ) : Type 0 where
  pub fuel : ℕ
  pub enough : length rest ≤ fuel
  pub few : records + length rest ≤ length bytes
  pub same : more records (counts (walk_from last fuel rest)) ≡ total

pub start : (last : ℕ) (bytes rest : List ℕ) → rest ≡ bytes → Left last bytes (counts (walk_from last (length bytes) bytes)) rest 0
start last bytes rest e = record {
  fuel = length bytes;
  enough = omega (arith, ap length e);
  few = omega (arith, ap length e);
  same = more_none (counts (walk_from last (length bytes) rest)) ∙ ap (λ (k : List ℕ). counts (walk_from last (length bytes) k)) e;
}

pub stop : (last : ℕ) (bytes : List ℕ) (total : Result ℕ Refusal) (rest : List ℕ) (records : ℕ) → Left last bytes total rest records → length rest ≡ 0 → Ok records ≡ total
unfolding more
stop last bytes total [] records left l = ap Ok (sym (add-zero records)) ∙ sym (ap (λ (w : Walk). more records (counts w)) (walk_none last left.fuel)) ∙ left.same
stop last bytes total (x ∷ rest) records left l = absurd (omega arith)

-- what the next read, with what follows it, comes to
record Turn (last : ℕ) (bytes : List ℕ) (total : Result ℕ Refusal) (rest : List ℕ) (records : ℕ) (g : Result WordRecord Refusal) : Type 0 where
  fuel : ℕ
  enough : length rest ≤ suc fuel
  same : more records (counts (go_on g (walk_from last fuel (drop 16 rest)))) ≡ total

turn_by : (last : ℕ) (bytes : List ℕ) (total : Result ℕ Refusal) (rest : List ℕ) (records n : ℕ) → length rest ≤ n → more records (counts (walk_from last n rest)) ≡ total → 0 < length rest → Turn last bytes total rest records (read_of last rest)
turn_by last bytes total rest records zero enough same l = absurd (omega arith)
turn_by last bytes total rest records (suc n) enough same l = record {
  fuel = n;
  enough = enough;
  same = sym (ap (λ (w : Walk). more records (counts w)) (walk_some last n rest l)) ∙ same;
}

-- the ways out of a turn and on to the next, from what the code has
module _ (last : ℕ) (bytes : List ℕ) (total : Result ℕ Refusal) (rest x t : List ℕ) (records : ℕ) (g : Result WordRecord Refusal) (left : Left last bytes total rest records) (c : Chunk rest x t) (e : g ≡ read_of last x) where
  turn : (y : Result WordRecord Refusal) → g ≡ y → Turn last bytes total rest records y
  turn y q =
      subst (λ (z : Result WordRecord Refusal). Turn last bytes total rest records z) (sym (e ∙ chunk_read last rest x t c) ∙ q)
      (turn_by last bytes total rest records left.fuel left.enough left.same c.some)

  pub refused : (n : Refusal) → g ≡ Err n → Err n ≡ total
  unfolding more
  refused n q = (turn (Err n) q).same

  pub next : (r : WordRecord) → g ≡ Ok r → Left last bytes total t (records + 1)
  next r q =
      let u = turn (Ok r) q in
      let shorter : length t < length rest = omega (arith, ap length c.parts, length-append x t, c.size, c.some) in
      record {
        fuel = u.fuel;
        enough = omega (arith, u.enough, shorter);
        few = omega (arith, left.few, shorter);
        same =
            sym (more_with records r (walk_from last u.fuel t))
            ∙ ap (λ (k : List ℕ). more records (counts (with r (walk_from last u.fuel k)))) (sym (chunk_rest rest x t c)) ∙ u.same;
      }

-- a walk of as many steps as there are bytes, or more, is the whole walk
walk_enough : (last n m : ℕ) (bytes : List ℕ) → length bytes ≤ n → length bytes ≤ m → walk_from last n bytes ≡ walk_from last m bytes
walk_enough last n m [] l k = walk_none last n ∙ sym (walk_none last m)
walk_enough last zero m (x ∷ bytes) l k = absurd (omega arith)
walk_enough last (suc n) zero (x ∷ bytes) l k = absurd (omega arith)
walk_enough last (suc n) (suc m) (x ∷ bytes) l k =
    let left = length-drop 16 (x ∷ bytes) in
    walk_some last n (x ∷ bytes) (omega arith)
    ∙ ap (go_on (read_of last (x ∷ bytes))) (walk_enough last n m (drop 16 (x ∷ bytes)) (omega (arith, left)) (omega (arith, left)))
    ∙ sym (walk_some last m (x ∷ bytes) (omega arith))

-- a file that opens has a first byte, and its records begin behind it
pub opened_behind : (file : List ℕ) (c : Cursor) → Ok c ≡ open_of file → (c.at ≡ 1) × (1 ≤ length file)
unfolding open_of
opened_behind [] c e = let z : ◌≡◌ {A = ℕ} 0 1 = cc in absurd (omega arith)
opened_behind (first ∷ rest) c e = (go (eqb first 1) e, omega arith)
  where
    go : (b : Bool) → Ok c ≡ cond b (Ok (record { at = 1; last_bus = last_bus_of first })) (Err WrongVersion) → c.at ≡ 1
    go true q = cc
    go false q = let z : ◌≡◌ {A = ℕ} 0 1 = cc in absurd (omega arith)

-- a file by how it opens
module _ (file : List ℕ) (o : Result Cursor Refusal) (e : o ≡ open_of file) where
  pub not_opened : (n : Refusal) → o ≡ Err n → Err n ≡ counted_of file
  unfolding counted_of walk_of
  not_opened n q = ap (λ (x : Result Cursor Refusal). counts (walk_at x file)) (sym q ∙ e)

  pub opened_at : (c : Cursor) → o ≡ Ok c → (c.at ≡ 1) × (1 ≤ length file)
  opened_at c q = opened_behind file c (sym q ∙ e)

  pub opened_whole : (c : Cursor) (r : Result ℕ Refusal) (rest : List ℕ) → o ≡ Ok c → rest ≡ take (length file - c.at) (drop c.at file) → r ≡ counts (walk_from c.last_bus (length rest) rest) → r ≡ counted_of file
  unfolding counted_of walk_of
  opened_whole c r rest q part h =
      let behind = opened_at c q in
      let all : rest ≡ drop c.at file = part ∙ take_rest file c.at in
      let few : length rest ≤ length file = omega (arith, ap length all, length-drop c.at file) in
      h ∙ ap counts (walk_enough c.last_bus (length rest) (length file) rest (omega arith) few ∙ ap (walk_from c.last_bus (length file)) all)
      ∙ ap (λ (x : Result Cursor Refusal). counts (walk_at x file)) (sym q ∙ e)
