-- Names: one law for each way that the code takes, from the facts that its tests give. Assumes nothing.
use mathlib.Core.Path.{◌≡◌, refl, sym, ap, ◌∙◌}
use mathlib.Core.Bool.{Bool, true, false, not, cond, ◌&&◌, ◌||◌}
use Prim.Native.Nat.{ℕ, ◌+◌, ◌≤◌, ◌<◌}
use native.Mathlib.Numerals.{add-one}
use mathlib.Core.List.{List, [], ◌∷◌}
use lib.Dec.{leb, ltb, eqb}
use lib.ListN.{length, drop, get_or, drop_of_length-le}
use lib.Seq.{drop-cons}
use borrow.Author.Tests.{ltb-false, le-leb, eqb-true}
use Rattle.lines.specs.Sinks.{place_after, block_after}
use Rattle.lines.specs.Names.{same_text, shown_of, place_after_name, block_after_name, place_before, place_after_named, block_after_named, colon_text, place_behind_program, place_after_sentence, block_after_sentence}
use Rattle.std.specs.Char.{is_ascii_control}
use Rattle.std.specs.Str.{bytes_eq}
use Rattle.std.proofs.lemmas.Slice.Eq.{bytes_eq-Decides}
use Rattle.words.proofs.Truth.{passes, passed}
use Rattle.lines.specs.Theorems.{SameText, TextSame, ShownPlain}

-- ---- two texts

-- what `==` says of them
pub same_is : (text wanted : List ℕ) → bytes_eq text wanted ≡ same_text text wanted
unfolding same_text
same_is [] [] = refl
same_is [] (want ∷ wants) = refl
same_is (byte ∷ bytes) [] = refl
same_is (byte ∷ bytes) (want ∷ wants) = ap (λ (b : Bool). eqb byte want && b) (same_is bytes wants)

pub same_text_lem : SameText
same_text_lem text wanted e = (bytes_eq-Decides text wanted).0 (same_is text wanted ∙ e)

pub text_same : TextSame
text_same text = sym (same_is text text) ∙ (bytes_eq-Decides text text).1 refl

-- ---- a byte as it is shown: each of the 256 bytes is one that std calls a control character, or none

pub shown_is : (byte : ℕ) → byte < 256 → cond (is_ascii_control byte) 63 byte ≡ shown_of byte
unfolding shown_of passes
shown_is byte l =
    eqb-true (cond (is_ascii_control byte) 63 byte) (shown_of byte) (passed 256 (λ (i : ℕ). eqb (cond (is_ascii_control i) 63 i) (shown_of i)) refl byte l)

module _ (byte : ℕ) (control : Bool) (l : byte < 256) (e : control ≡ is_ascii_control byte) where
  pub shown_mark : control ≡ true → 63 ≡ shown_of byte
  shown_mark h = ap (λ (b : Bool). cond b 63 byte) (sym h ∙ e) ∙ shown_is byte l

  pub shown_byte : control ≡ false → byte ≡ shown_of byte
  shown_byte h = ap (λ (b : Bool). cond b 63 byte) (sym h ∙ e) ∙ shown_is byte l

pub shown_plain : ShownPlain
unfolding shown_of
shown_plain byte = by (ltb byte 32) (eqb byte 127) refl refl
  where
    by : (a b : Bool) → ltb byte 32 ≡ a → eqb byte 127 ≡ b → leb 32 (cond (a || b) 63 byte) && not (eqb (cond (a || b) 63 byte) 127) ≡ true
    by true b e f = refl
    by false true e f = refl
    by false false e f = rw (le-leb 32 byte (ltb-false byte 32 e), f)

-- ---- a name byte by byte: the loop at a place of it

module _ (name : List ℕ) (i at next : ℕ) (q : next ≡ place_after at 1) (l : i < length name) where
  pub name_place_turned : (end : ℕ) → place_after_name at (drop i name) ≡ end → place_after_name next (drop (i + 1) name) ≡ end
  unfolding place_after_name
  name_place_turned end so = rw (add-one, q) (sym (ap (place_after_name at) (drop-cons name i 0 l)) ∙ so)

  pub name_block_turned : (end block last : List ℕ) (byte : ℕ) → byte ≡ shown_of (get_or name i 0) → last ≡ block_after block at (byte ∷ [])
      → block_after_name block at (drop i name) ≡ end → block_after_name last next (drop (i + 1) name) ≡ end
  unfolding block_after_name
  name_block_turned end block last byte b p so = rw (add-one, p, q, b) (sym (ap (block_after_name block at) (drop-cons name i 0 l)) ∙ so)

module _ (name : List ℕ) (i at : ℕ) (l : length name ≤ i) where
  pub name_place_ended : (end : ℕ) → place_after_name at (drop i name) ≡ end → at ≡ end
  unfolding place_after_name
  name_place_ended end so = sym (ap (place_after_name at) (drop_of_length-le name {i = i} l)) ∙ so

  pub name_block_ended : (end block : List ℕ) → block_after_name block at (drop i name) ≡ end → block ≡ end
  unfolding block_after_name
  name_block_ended end block so = sym (ap (block_after_name block at) (drop_of_length-le name {i = i} l)) ∙ so

-- ---- a line that ends in a name: the text, then the name, then the end

module _ (at first second : ℕ) (begin name : List ℕ) where
  pub named_place : (r : ℕ) → first ≡ place_after at (length begin) → second ≡ place_after_name first name → r ≡ place_after second 1
      → r ≡ place_after_named at begin name
  unfolding place_after_named place_before
  named_place r e f q = rw (← e, ← f) q

  pub named_block : first ≡ place_after at (length begin) → second ≡ place_after_name first name → (block begun named last : List ℕ)
      → begun ≡ block_after block at begin → named ≡ block_after_name begun first name → last ≡ block_after named second (10 ∷ [])
      → last ≡ block_after_named block at begin name
  unfolding block_after_named place_before
  named_block e f block begun named last m n q = rw (← e, ← f, ← m, ← n) q

-- a line that is put behind nothing
pub named_front : (block last begin name : List ℕ) (at : ℕ) → at ≡ 0 → last ≡ block_after_named block at begin name → last ≡ block_after_named block 0 begin name
named_front block last begin name at e q = rw e at q

-- ---- a sentence: the program, then the colon, then the name

module _ (at first second : ℕ) (program name : List ℕ) where
  pub sentence_place : (r : ℕ) → first ≡ place_after at (length program) → second ≡ place_after first 2 → r ≡ place_after_name second name
      → r ≡ place_after_sentence at program name
  unfolding place_after_sentence place_behind_program
  sentence_place r e f q = rw (← e, ← f) q

  pub sentence_block : first ≡ place_after at (length program) → second ≡ place_after first 2 → (block begun colon last : List ℕ)
      → begun ≡ block_after block at program → colon ≡ block_after begun first colon_text → last ≡ block_after_name colon second name
      → last ≡ block_after_sentence block at program name
  unfolding block_after_sentence place_behind_program
  sentence_block e f block begun colon last m n q = rw (← e, ← f, ← m, ← n) q
