-- What waits after a text more: one law for each way that it takes, from the facts that the code's tests give. Assumes nothing.
use mathlib.Core.Path.{◌≡◌, refl, sym, ap, ◌∙◌}
use mathlib.Core.Bool.{Bool, true, false}
use Prim.Native.Nat.{ℕ, suc, ◌+◌, ◌-◌, ◌≤◌, ◌<◌}
use native.Mathlib.Nat.{lt_of_not-le}
use native.Mathlib.Omega.{arith}
use native.Mathlib.Decide.{dec_le}
use mathlib.Core.Logic.{dite}
use mathlib.Core.List.{List, [], ◌∷◌, ◌++◌}
use lib.Dec.{leb}
use lib.ListN.{length, set, take, drop}
use lib.Seq.{set_split, drop-drop}
use borrow.Author.Tests.{leb-true, le-leb, lt-leb, lt-ltb, le-ltb}
use borrow.Rule.Slice.PartMut.{put_mid}
use Rattle.lines.specs.Sinks.{block_bytes, fits_behind, place_after, put_at, block_after}
use Rattle.lines.specs.Spells.{room_at}

-- ---- whether it fits

module _ (at count : ℕ) where
  pub fits_most : at + count ≤ block_bytes → fits_behind at count ≡ true
  unfolding fits_behind
  fits_most l = le-leb (at + count) block_bytes l

  pub fits_above : block_bytes < at + count → fits_behind at count ≡ false
  unfolding fits_behind
  fits_above l = lt-leb (at + count) block_bytes l

  pub fits_room : (b : Bool) → b ≡ fits_behind at count → b ≡ true → at + count ≤ block_bytes
  unfolding fits_behind
  fits_room b e h = leb-true (at + count) block_bytes (sym e ∙ h)

  -- the code asks for what is left of the block, and has asked whether anything is
  pub fits_left : at ≤ block_bytes → leb count (block_bytes - at) ≡ fits_behind at count
  fits_left l =
      dite (dec_le (at + count) block_bytes)
      (λ inside. le-leb count (block_bytes - at) (omega (arith, inside)) ∙ sym (fits_most inside))
      (λ past. lt-leb count (block_bytes - at) (omega (arith, lt_of_not-le past)) ∙ sym (fits_above (lt_of_not-le past)))

  pub fits_none : block_bytes < at → false ≡ fits_behind at count
  fits_none l = sym (fits_above (omega arith))

-- ---- room for so many bytes

module _ (at count : ℕ) where
  pub room_behind : fits_behind at count ≡ true → at ≡ room_at at count
  unfolding room_at
  room_behind e = rw e

  pub room_front : fits_behind at count ≡ false → 0 ≡ room_at at count
  unfolding room_at
  room_front e = rw e

-- ---- the place; r is the one that the code gives

module _ (at count : ℕ) (b : Bool) (e : b ≡ fits_behind at count) (r : ℕ) where
  pub place_behind : b ≡ true → r ≡ at + count → r ≡ place_after at count
  unfolding place_after
  place_behind h q = rw (← e, h, q)

  -- behind what a flush has left
  pub place_front : b ≡ false → count < block_bytes → (left : ℕ) → left ≡ 0 → r ≡ left + count → r ≡ place_after at count
  unfolding place_after
  place_front h l left z q =
      let front : r ≡ count = omega (arith, z, q) in
      rw (← e, h, lt-ltb count block_bytes l, front)

  pub place_out : b ≡ false → block_bytes ≤ count → r ≡ 0 → r ≡ place_after at count
  unfolding place_after
  place_out h l q = rw (← e, h, le-ltb count block_bytes l, q)

-- ---- the block; last is the one that the code leaves

module _ (block text : List ℕ) (at : ℕ) (b : Bool) (e : b ≡ fits_behind at (length text)) (last : List ℕ) where
  pub block_behind : b ≡ true → last ≡ put_at block at text → last ≡ block_after block at text
  unfolding block_after
  block_behind h q = rw (← e, h, q)

  pub block_front : b ≡ false → length text < block_bytes → (left : ℕ) → left ≡ 0 → last ≡ put_at block left text → last ≡ block_after block at text
  unfolding block_after
  block_front h l left z q = rw (← e, h, lt-ltb (length text) block_bytes l, q, z)

  pub block_out : b ≡ false → block_bytes ≤ length text → last ≡ block → last ≡ block_after block at text
  unfolding block_after
  block_out h l q = rw (← e, h, le-ltb (length text) block_bytes l, q)

-- ---- one byte

module _ (block last : List ℕ) (at byte : ℕ) where
  pub byte_behind : at < block_bytes → last ≡ put_at block at (byte ∷ []) → last ≡ block_after block at (byte ∷ [])
  byte_behind l q = block_behind block (byte ∷ []) at true (sym (fits_most at 1 (omega arith))) last refl q

  pub byte_front : block_bytes ≤ at → last ≡ put_at block 0 (byte ∷ []) → last ≡ block_after block at (byte ∷ [])
  byte_front l q = block_front block (byte ∷ []) at false (sym (fits_above at 1 (omega arith))) last refl (omega arith) 0 refl q

module _ (at : ℕ) where
  pub byte_place_behind : at < block_bytes → at + 1 ≡ place_after at 1
  byte_place_behind l = place_behind at 1 true (sym (fits_most at 1 (omega arith))) (at + 1) refl refl

  pub byte_place_front : block_bytes ≤ at → 1 ≡ place_after at 1
  byte_place_front l = place_front at 1 false (sym (fits_above at 1 (omega arith))) 1 refl (omega arith) 0 refl (omega arith)

-- ---- a text behind another

pub then_place : (at count middle more r : ℕ) → middle ≡ place_after at count → r ≡ place_after middle more → r ≡ place_after (place_after at count) more
then_place at count middle more r e q = rw (← e) q

pub then_block : (block text more middle last : List ℕ) (at place : ℕ) → place ≡ place_after at (length text) → middle ≡ block_after block at text
    → last ≡ block_after middle place more → last ≡ block_after (block_after block at text) (place_after at (length text)) more
then_block block text more middle last at place e m q = rw (← e, ← m) q

-- ---- how they come there

pub stored : (block : List ℕ) (at byte : ℕ) → at < length block → set block at byte ≡ put_at block at (byte ∷ [])
stored block at byte l =
    set_split block at byte l ∙ ap (λ (k : ℕ). take at block ++ byte ∷ drop k block) {x = suc at} {y = at + 1} (omega arith)

-- a text was copied into the part of the block from a place on
pub copied : (block text last : List ℕ) (at n : ℕ) → n ≡ length text → last ≡ text → put_mid at n block last ≡ put_at block at text
copied block text last at n m q = rw (q, m) (ap (λ (z : List ℕ). take at block ++ (text ++ z)) (drop-drop (length text) at block))
