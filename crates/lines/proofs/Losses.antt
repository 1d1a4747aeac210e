-- What goes out and what waits, together. Assumes nothing.
use Prim.Native.Nat.{ℕ, ◌+◌, ◌≤◌}
use native.Mathlib.Nat.{zero-add}
use native.Mathlib.Omega.{arith}
use mathlib.Core.Path.{◌≡◌, refl, sym, ap, ◌∙◌}
use mathlib.Core.Bool.{Bool, true, false, cond}
use mathlib.Core.List.{List, [], ◌∷◌, ◌++◌, append-nil, append_assoc}
use lib.Dec.{ltb}
use lib.ListN.{length, take, drop, length-append, length-drop}
use borrow.Author.Tests.{leb-true, ltb-true}
use lib.Seq.{length-take-le, take-append-add, take-append_seam}
use Rattle.lines.specs.Sinks.{block_bytes, fits_behind, place_after, put_at, block_after, goes_out}
use Rattle.lines.specs.Names.{shown_of, shown_name, place_after_name, block_after_name, goes_out_name}
use Rattle.lines.specs.Spells.{line_most, room_at, place_after_line, block_after_line, goes_out_before}
use Rattle.lines.specs.Theorems.{NothingLost, LineKept, NameKept}

-- a text that waits behind others
pub behind : (block text : List ℕ) (at : ℕ) → at ≤ length block → take (at + length text) (put_at block at text) ≡ take at block ++ text
behind block text at l =
    let front : length (take at block) ≡ at = length-take-le at block l in
    let rest = text ++ drop (at + length text) block in
    ap (λ (k : ℕ). take k (take at block ++ rest)) {x = at + length text} {y = length (take at block) + length text} (omega (arith, front))
    ∙ take-append-add (take at block) rest (length text)
    ∙ ap (λ (k : List ℕ). take at block ++ k) (take-append_seam text (drop (at + length text) block))

pub nothing_lost : NothingLost
unfolding goes_out place_after block_after fits_behind
nothing_lost block text at size = by (fits_behind at (length text)) (ltb (length text) block_bytes) refl
  where
    by : (a b : Bool) → fits_behind at (length text) ≡ a
        → cond a [] (cond b (take at block) (take at block ++ text))
        ++ take (cond a (at + length text) (cond b (length text) 0)) (cond a (put_at block at text) (cond b (put_at block 0 text) block))
        ≡ take at block ++ text
    by true b e = behind block text at (omega (arith, size, leb-true (at + length text) block_bytes e))
    by false true e =
        ap (λ (k : List ℕ). take at block ++ k)
        (ap (λ (k : ℕ). take k (put_at block 0 text)) (sym (zero-add (length text))) ∙ behind block text 0 (omega arith))
    by false false e = append-nil (take at block ++ text)

pub line_kept : LineKept
unfolding goes_out_before place_after_line block_after_line room_at fits_behind
line_kept block text at size short = by (fits_behind at line_most) refl
  where
    by : (a : Bool) → fits_behind at line_most ≡ a
        → cond a [] (take at block) ++ take (cond a at 0 + length text) (put_at block (cond a at 0) text) ≡ take at block ++ text
    by true e = behind block text at (omega (arith, size, leb-true (at + line_most) block_bytes e))
    by false e = ap (λ (k : List ℕ). take at block ++ k) (behind block text 0 (omega arith))

-- a block keeps its size
block_size : (block text : List ℕ) (at : ℕ) → length block ≡ block_bytes → length (block_after block at text) ≡ block_bytes
unfolding block_after fits_behind
block_size block text at size = by (fits_behind at (length text)) (ltb (length text) block_bytes) refl refl
  where
    put : (place : ℕ) → place + length text ≤ block_bytes → length (put_at block place text) ≡ block_bytes
    put place l =
        let front : length (take place block) ≡ place = length-take-le place block (omega arith) in
        simp (length-append, length-drop) (omega arith)

    by : (a b : Bool) → fits_behind at (length text) ≡ a → ltb (length text) block_bytes ≡ b
        → length (cond a (put_at block at text) (cond b (put_at block 0 text) block)) ≡ block_bytes
    by true b e f = put at (leb-true (at + length text) block_bytes e)
    by false true e f = put 0 (omega (arith, ltb-true (length text) block_bytes f))
    by false false e f = size

pub name_kept : NameKept
unfolding goes_out_name place_after_name block_after_name shown_name
name_kept block [] at size = sym (append-nil (take at block))
name_kept block (byte ∷ bytes) at size =
    let text = shown_of byte ∷ [] in
    let next = block_after block at text in
    let more = name_kept next bytes (place_after at 1) (block_size block text at size) in
    append_assoc (goes_out block at text) (goes_out_name next (place_after at 1) bytes) (take (place_after_name (place_after at 1) bytes) (block_after_name next (place_after at 1) bytes))
    ∙ ap (λ (k : List ℕ). goes_out block at text ++ k) more
    ∙ sym (append_assoc (goes_out block at text) (take (place_after at 1) next) (shown_name bytes))
    ∙ ap (λ (k : List ℕ). k ++ shown_name bytes) (nothing_lost block text at size)
    ∙ append_assoc (take at block) text (shown_name bytes)
