-- The reading fed a chunk: one law for each way that the code takes at a byte. Assumes nothing.
use Rattle.std.proofs.Common.{◌≡◌, ℕ, suc, ◌+◌, ◌<◌, ◌≤◌, Bool, true, false, cond, List, [], ◌∷◌, length, get_or, drop, sym, refl, ap, ◌∙◌, add-one, drop_of_length-le, drop-cons, eq-eqb, ne_eqb}
use Rattle.plans.specs.declared.gatherings.Gathering.{Gathering}
use Rattle.plans.specs.declared.drafts.Draft.{Draft}
use Rattle.plans.specs.declared.readings.Reading.{Reading}
use Rattle.plans.specs.Drafts.{one_more, is_fault}
use Rattle.plans.specs.Machine.{gathering_at, gathered, is_bad_line, reading_with, line_taken, line_ended, byte_gathered, byte_read, fed_of, ended_of}

-- where there is no more, a chunk changes nothing
pub fed_over : (r : Reading) (bytes : List ℕ) → r.more ≡ false → r ≡ fed_of r bytes
unfolding fed_of
fed_over r [] h = refl
fed_over r (byte ∷ bytes) h = rw h

pub fed_on : (r : Reading) (byte : ℕ) (bytes : List ℕ) → r.more ≡ true → fed_of r (byte ∷ bytes) ≡ fed_of (byte_read r byte) bytes
unfolding fed_of
fed_on r byte bytes h = rw h

-- ---- the loop at a place of the chunk, with what all of it comes to

module _ (chunk : List ℕ) (at : ℕ) (draft : Draft) (gathering : Gathering) (all : Reading) (so : fed_of (reading_with draft gathering true) (drop at chunk) ≡ all) where
  pub fed_all_lem : length chunk ≤ at → reading_with draft gathering true ≡ all
  unfolding fed_of
  fed_all_lem l = sym (ap (fed_of (reading_with draft gathering true)) (drop_of_length-le chunk {i = at} l)) ∙ so

  module _ (l : at < length chunk) where
    next_byte : fed_of (byte_read (reading_with draft gathering true) (get_or chunk at 0)) (drop (at + 1) chunk) ≡ all
    next_byte =
        rw add-one
        (sym (fed_on (reading_with draft gathering true) (get_or chunk at 0) (drop (suc at) chunk) refl)
        ∙ sym (ap (fed_of (reading_with draft gathering true)) (drop-cons chunk at 0 l))
        ∙ so)

    module _ (line : get_or chunk at 0 ≡ 10) (more : Draft) (e : more ≡ line_taken draft gathering) (bad : Bool) (eb : bad ≡ is_fault more.bad) where
      ended : byte_read (reading_with draft gathering true) (get_or chunk at 0)
          ≡ cond bad (reading_with more gathering false) (reading_with more (gathering_at (one_more gathering.number)) true)
      unfolding byte_read line_ended
      ended = rw (eq-eqb (get_or chunk at 0) 10 line, ← e, eb)

      pub line_bad : bad ≡ true → reading_with more gathering false ≡ all
      line_bad h =
          let step : byte_read (reading_with draft gathering true) (get_or chunk at 0) ≡ reading_with more gathering false = rw h at ended in
          fed_over (reading_with more gathering false) (drop (at + 1) chunk) refl ∙ sym (ap (λ (r : Reading). fed_of r (drop (at + 1) chunk)) step) ∙ next_byte

      pub line_good : bad ≡ false → (next : Gathering) → next ≡ gathering_at (one_more gathering.number) → fed_of (reading_with more next true) (drop (at + 1) chunk) ≡ all
      line_good h next en =
          let step : byte_read (reading_with draft gathering true) (get_or chunk at 0) ≡ reading_with more (gathering_at (one_more gathering.number)) true = rw h at ended in
          ap (λ (g : Gathering). fed_of (reading_with more g true) (drop (at + 1) chunk)) en ∙ sym (ap (λ (r : Reading). fed_of r (drop (at + 1) chunk)) step) ∙ next_byte

    module _ (other : get_or chunk at 0 ≡ 10 → ⊥) (next : Gathering) (en : next ≡ gathered gathering (get_or chunk at 0)) (bad : Bool) (eb : bad ≡ is_bad_line next) where
      taken : byte_read (reading_with draft gathering true) (get_or chunk at 0) ≡ cond bad (reading_with (line_taken draft next) next false) (reading_with draft next true)
      unfolding byte_read byte_gathered
      taken = rw (ne_eqb (get_or chunk at 0) 10 other, ← en, eb)

      pub byte_bad : bad ≡ true → (more : Draft) → more ≡ line_taken draft next → reading_with more next false ≡ all
      byte_bad h more e =
          let step : byte_read (reading_with draft gathering true) (get_or chunk at 0) ≡ reading_with (line_taken draft next) next false = rw h at taken in
          ap (λ (d : Draft). reading_with d next false) e
          ∙ fed_over (reading_with (line_taken draft next) next false) (drop (at + 1) chunk) refl
          ∙ sym (ap (λ (r : Reading). fed_of r (drop (at + 1) chunk)) step)
          ∙ next_byte

      pub byte_good : bad ≡ false → fed_of (reading_with draft next true) (drop (at + 1) chunk) ≡ all
      byte_good h =
          let step : byte_read (reading_with draft gathering true) (get_or chunk at 0) ≡ reading_with draft next true = rw h at taken in
          sym (ap (λ (r : Reading). fed_of r (drop (at + 1) chunk)) step) ∙ next_byte

-- a reading with more to come, by its parts
pub fed_begun : (r : Reading) (bytes : List ℕ) → r.more ≡ true → fed_of (reading_with r.draft r.gathering true) bytes ≡ fed_of r bytes
fed_begun r bytes h = ap (λ (b : Bool). fed_of (reading_with r.draft r.gathering b) bytes) (sym h)

-- ---- the end

module _ (r : Reading) (d : Draft) where
  pub ends_line : r.more ≡ true → d ≡ line_taken r.draft r.gathering → d ≡ ended_of r
  unfolding ended_of
  ends_line h e = rw h e

  pub ends_bad : r.more ≡ false → r.draft ≡ ended_of r
  unfolding ended_of
  ends_bad h = rw h
