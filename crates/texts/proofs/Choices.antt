-- The texts that a test or a number chooses, by what the code has at that place. Assumes nothing.
use mathlib.Core.Path.{◌≡◌, refl, sym, ap, ◌∙◌}
use mathlib.Core.Bool.{Bool, true, false, cond, not, true≢false}
use Prim.Native.Nat.{ℕ, ◌+◌, ◌-◌, ◌≤◌, ◌<◌}
use native.Mathlib.Omega.{arith}
use mathlib.Core.List.{List, [], ◌∷◌, ◌++◌}
use lib.Dec.{eqb}
use lib.ListN.{length, take, drop, take-append-drop, get_or}
use borrow.Author.Tests.{eq-eqb, ne_eqb, leb-true, le-leb, not-true}
use Rattle.words.proofs.Truth.{passes, passed}
use Rattle.words.specs.Words.{address_of, subaddress_of, count_of, words_of, is_transmit, is_broadcast, is_mode, parity_of}
use Rattle.lines.specs.Sinks.{block_bytes, fits_behind, place_after, put_at, block_after, word_text}
use Rattle.lines.specs.Parts.{between_of}
use Rattle.lines.proofs.Waits.{fits_most, place_behind, block_behind}
use Rattle.lines.proofs.Losses.{behind}
use Rattle.lines.specs.Spells.{text_of, number_text, Spelled, line_most, room_at, place_after_line, block_after_line}
use Rattle.lines.proofs.Spellings.{put_length, spelled_as}
use Rattle.verdict.specs.Numbers.{number_of}
use Rattle.verdict.specs.declared.verdicts.Verdict.{Verdict}
use Rattle.verdict.specs.declared.verdicts.Verdict.TheVariants as verdict
use Rattle.salvage.specs.Machine.{is_changed}
use Rattle.salvage.specs.declared.salvages.First.{First}
use Rattle.salvage.specs.declared.salvages.Run.{Run}
use Rattle.schedule.specs.declared.messages.Message.{Message}
use Rattle.texts.specs.Schedules.{words_text}
use Rattle.texts.specs.Saves.{run_text, run_line, first_text}
use Rattle.texts.specs.Entries.{line_of, bus_text, verdict_names, verdict_name, address_text, direction_text, kind_text, flaw_mark, flaw_text, flaws_text, added_text}

module _ (bus : ℕ) where
  pub bus_a : bus ≡ 0 → text_of " A" ≡ bus_text bus
  unfolding bus_text
  bus_a e = rw (eq-eqb bus 0 e)

  pub bus_b : (bus ≡ 0 → ⊥) → text_of " B" ≡ bus_text bus
  unfolding bus_text
  bus_b e = rw (ne_eqb bus 0 e)

-- the verdicts by their numbers
abbrev verdicts : List Verdict
verdicts =
    verdict.Good ∷ verdict.NoResponse ∷ verdict.Waiting ∷ verdict.Early ∷ verdict.Late ∷ verdict.NotValid ∷ verdict.WrongSync ∷ verdict.WrongAddress
    ∷ verdict.MessageError ∷ verdict.Busy ∷ verdict.Separated ∷ verdict.LeftOver ∷ verdict.Overlapping ∷ []

-- what is said of a verdict that has a name: the name, and the number, below 13 and of it alone
record Named (v : Verdict) : Type 0 where
  name : verdict_name v ≡ get_or verdict_names (number_of v) []
  back : get_or verdicts (number_of v) verdict.Good ≡ v
  below : number_of v < 13

-- what is said of any verdict: it has a name, or it is one without
data Naming : Verdict → Type 0 where
  named : {v : Verdict} → Named v → Naming v
  without : {n : ℕ} → Naming (verdict.Unnamed n)

naming : (v : Verdict) → Naming v
unfolding verdict_name
naming verdict.Good = named (record { name = refl; back = refl; below = omega arith })
naming verdict.NoResponse = named (record { name = refl; back = refl; below = omega arith })
naming verdict.Waiting = named (record { name = refl; back = refl; below = omega arith })
naming verdict.Early = named (record { name = refl; back = refl; below = omega arith })
naming verdict.Late = named (record { name = refl; back = refl; below = omega arith })
naming verdict.NotValid = named (record { name = refl; back = refl; below = omega arith })
naming verdict.WrongSync = named (record { name = refl; back = refl; below = omega arith })
naming verdict.WrongAddress = named (record { name = refl; back = refl; below = omega arith })
naming verdict.MessageError = named (record { name = refl; back = refl; below = omega arith })
naming verdict.Busy = named (record { name = refl; back = refl; below = omega arith })
naming verdict.Separated = named (record { name = refl; back = refl; below = omega arith })
naming verdict.LeftOver = named (record { name = refl; back = refl; below = omega arith })
naming verdict.Overlapping = named (record { name = refl; back = refl; below = omega arith })
naming (verdict.Unnamed n) = without

-- what a test says of each name, and of what has none
pub each_name : (test : List ℕ → Bool) → passes 13 (λ (n : ℕ). test (get_or verdict_names n [])) ≡ true → test (text_of " unnamed") ≡ true
    → (v : Verdict) → test (verdict_name v) ≡ true
unfolding verdict_name
each_name test all other v = go v (naming v)
  where
    go : (v : Verdict) → Naming v → test (verdict_name v) ≡ true
    go v (named n) = rw n.name (passed 13 (λ (n : ℕ). test (get_or verdict_names n [])) all (number_of v) n.below)
    go v without = other

-- the second letter of what stands for a name is a `u` where there is none alone
abbrev is_unnamed : List ℕ → Bool
is_unnamed text = eqb (get_or text 1 0) 117

name_apart : (v : Verdict) → Named v → (n : ℕ) (x y : List ℕ) → verdict_name v ++ x ≡ verdict_name (verdict.Unnamed n) ++ y → ⊥
unfolding verdict_name passes
name_apart v has n x y e =
    let other : not (is_unnamed (verdict_name v ++ x)) ≡ true =
    rw has.name (passed 13 (λ (k : ℕ). not (is_unnamed (get_or verdict_names k [] ++ x))) refl (number_of v) has.below) in
    true≢false (sym (ap is_unnamed e) ∙ not-true (is_unnamed (verdict_name v ++ x)) other)

-- the number and the name tell the verdict
pub same_verdict : (v w : Verdict) (x y : List ℕ) → number_of v ≡ number_of w → verdict_name v ++ x ≡ verdict_name w ++ y → v ≡ w
same_verdict v w x y e names = go v w (naming v) (naming w) e names
  where
    go : (v w : Verdict) → Naming v → Naming w → number_of v ≡ number_of w → verdict_name v ++ x ≡ verdict_name w ++ y → v ≡ w
    go v w (named a) (named b) e names = sym a.back ∙ ap (λ (n : ℕ). get_or verdicts n verdict.Good) e ∙ b.back
    go v w (named a) without e names = absurd (name_apart v a _ x y names)
    go v w without (named b) e names = absurd (name_apart w b _ y x (sym names))
    go v w without without e names = ap verdict.Unnamed e

module _ (command : ℕ) where
  pub address_all : is_broadcast command ≡ true → text_of "all" ≡ address_text command
  unfolding address_text
  address_all e = rw e

  pub address_one : is_broadcast command ≡ false → number_text (text_of "rt") (address_of command) ≡ address_text command
  unfolding address_text
  address_one e = rw e

  pub direction_transmit : is_transmit command ≡ true → text_of ",transmit" ≡ direction_text command
  unfolding direction_text
  direction_transmit e = rw e

  pub direction_receive : is_transmit command ≡ false → text_of ",receive" ≡ direction_text command
  unfolding direction_text
  direction_receive e = rw e

  pub kind_mode : is_mode command ≡ true → number_text (text_of ",mode,code") (count_of command) ≡ kind_text command
  unfolding kind_text
  kind_mode e = rw e

  pub kind_words : is_mode command ≡ false
      → number_text (text_of ",sa") (subaddress_of command) ++ number_text (text_of ",count") (words_of command) ≡ kind_text command
  unfolding kind_text
  kind_words e = rw e

-- a number that is another one in other words
pub number_as : (text : List ℕ) {block last : List ℕ} {at after number other : ℕ} → number ≡ other
    → Spelled block at (number_text text number) last after → Spelled block at (number_text text other) last after
number_as text e spelled = spelled_as (ap (number_text text) e) spelled

module _ (more : Bool) where
  pub mark_comma : more ≡ true → 44 ≡ flaw_mark more
  unfolding flaw_mark
  mark_comma e = rw e

  pub mark_equals : more ≡ false → 61 ≡ flaw_mark more
  unfolding flaw_mark
  mark_equals e = rw e

module _ (added : Bool) (text : List ℕ) where
  pub added_text_lem : added ≡ true → text ≡ added_text added text
  added_text_lem e = rw e

  pub added_none : added ≡ false → [] ≡ added_text added text
  added_none e = rw e

pub parity_flaw : (parity bit word : ℕ) (manchester bits sync : Bool) → bit ≡ parity_of word
    → flaws_text (not (eqb parity bit)) manchester bits sync ≡ flaws_text (not (eqb parity (parity_of word))) manchester bits sync
parity_flaw parity bit word manchester bits sync e = ap (λ (b : ℕ). flaws_text (not (eqb parity b)) manchester bits sync) e

module _ (more : Bool) (name : List ℕ) where
  pub flaw_none : (bad : Bool) → bad ≡ false → [] ≡ flaw_text more bad name
  unfolding flaw_text
  flaw_none bad e = rw e

  pub flaw_some : (bad : Bool) (mark : ℕ) → bad ≡ true → mark ≡ flaw_mark more → mark ∷ name ≡ flaw_text more bad name
  unfolding flaw_text
  flaw_some bad mark e q = rw e (ap (λ (m : ℕ). m ∷ name) q)

-- nothing more was spelled
pub spelled_none : {block text last : List ℕ} {at after : ℕ} → Spelled block at text last after → Spelled last after [] last after
spelled_none {block = block} {text = text} {last = last} {at = at} {after = after} spelled =
    let size : length last ≡ length block = ap length spelled.bytes ∙ put_length block text at spelled.fits in
    record {
      place = omega arith;
      bytes = sym (take-append-drop after last) ∙ ap (λ (n : ℕ). take after last ++ drop n last) {x = after} {y = after + 0} (omega arith);
      fits = omega (arith, size, spelled.place, spelled.fits);
    }

module _ (run : Run) where
  pub run_none : run.length ≡ 0 → [] ≡ run_line run
  unfolding run_line
  run_none e = rw (eq-eqb run.length 0 e)

  pub run_some : (run.length ≡ 0 → ⊥) → line_of (run_text run) ≡ run_line run
  unfolding run_line
  run_some e = rw (ne_eqb run.length 0 e)

module _ (first : First) where
  pub first_changed : is_changed first ≡ true → text_of "changed" ≡ first_text first
  unfolding first_text
  first_changed e = rw e

  pub first_kept : is_changed first ≡ false → text_of "kept" ≡ first_text first
  unfolding first_text
  first_kept e = rw e

module _ (between : ℕ) (m : Message) where
  pub words_one : m.commands ≡ 1 → word_text m.first.0 ≡ words_text between m
  unfolding words_text
  words_one e = rw (eq-eqb m.commands 1 e)

  pub words_two : (m.commands ≡ 1 → ⊥) → word_text m.first.0 ++ (between ∷ word_text m.second.0) ≡ words_text between m
  unfolding words_text
  words_two e = rw (ne_eqb m.commands 1 e)

-- ---- a line

-- where room for so many bytes was asked, they fit
pub room_for : (most at room : ℕ) → most ≤ block_bytes → room ≡ room_at at most → room + most ≤ block_bytes
unfolding room_at fits_behind
room_for most at room l q = omega (arith, q, by (fits_behind at most) refl)
  where
    by : (b : Bool) → fits_behind at most ≡ b → cond b at 0 + most ≤ block_bytes
    by true e = leb-true (at + most) block_bytes e
    by false e = omega (arith, l)

-- and what is spelled there stands where the definitions say
module _ (most at room after : ℕ) (block text last : List ℕ) (e : room ≡ room_at at most) (spelled : Spelled block room text last after) where
  pub room_place : after ≡ room_at at most + length text
  room_place = spelled.place ∙ ap (λ (n : ℕ). n + length text) e

  pub room_block : last ≡ put_at block (room_at at most) text
  room_block = spelled.bytes ∙ ap (λ (n : ℕ). put_at block n text) e

pub room_line : (at room : ℕ) → room ≡ room_at at line_most → room + line_most ≤ block_bytes
room_line at room e = room_for line_most at room (omega arith) e

module _ (at room after : ℕ) (block text last : List ℕ) (e : room ≡ room_at at line_most) (spelled : Spelled block room text last after) where
  pub line_place : after ≡ place_after_line at text
  unfolding place_after_line
  line_place = room_place line_most at room after block text last e spelled

  pub line_block : last ≡ block_after_line block at text
  unfolding block_after_line
  line_block = room_block line_most at room after block text last e spelled

-- ---- the line of an entry, which waits as a text does

pub spelled_size : {block text last : List ℕ} {at after : ℕ} → Spelled block at text last after → length last ≡ length block
spelled_size {block = block} {text = text} {at = at} spelled = ap length spelled.bytes ∙ put_length block text at spelled.fits

module _ (at after : ℕ) (block text last : List ℕ) (spelled : Spelled block at text last after) (most : after ≤ at + 340) (room : at ≤ 65196) where
  fits : fits_behind at (length text) ≡ true
  fits = fits_most at (length text) (omega (arith, spelled.place, most, room))

  pub behind_place : after ≡ place_after at (length text)
  behind_place = place_behind at (length text) true (sym fits) after refl spelled.place

  pub behind_block : last ≡ block_after block at text
  behind_block = block_behind block text at true (sym fits) last refl spelled.bytes

-- a line that was spelled at the front of a block, and taken out of it
pub taken_out : (block text last : List ℕ) (after : ℕ) → Spelled block 0 text last after → between_of last 0 after ≡ text
unfolding between_of
taken_out block text last after spelled =
    let size = spelled_size spelled in
    let inside : after ≤ length last = omega (arith, size, spelled.place, spelled.fits) in
    rw (le-leb 0 after (omega arith), le-leb after (length last) inside)
    (ap (λ (n : ℕ). take n last) {x = after - 0} {y = 0 + length text} (omega (arith, spelled.place))
    ∙ ap (take (0 + length text)) spelled.bytes
    ∙ behind block text 0 (omega arith))
