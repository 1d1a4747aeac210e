-- The cases of the machine's steps, each from the facts that the code's tests give. Assumes nothing.
use Rattle.std.proofs.Common.{◌≡◌, ℕ, zero, suc, ◌+◌, ◌-◌, ◌/◌, ◌≤◌, Bool, true, List, [], ◌∷◌, length, get_or, take, drop, cond, eqb, sym, refl, ap, ◌∙◌, arith, length-take, take_all, eq-eqb, ne_eqb}
use Rattle.words.specs.declared.refusals.Refusal.{Refusal}
use Rattle.words.specs.declared.times.Moment.{Moment}
use Rattle.std.specs.Prelude.{Option, Some, None, Result, Ok}
use Rattle.records.specs.Records.{last_bus, read_of}
use Rattle.records.specs.declared.forms.WordRecord.{WordRecord}
use Rattle.windows.specs.Windows.{filled_of, filled_room}
use Rattle.windows.specs.declared.windows.Filled.{Filled}
use Rattle.windows.proofs.Waiting.{filled_few}
use Rattle.words.specs.Counts.{sum64}
use Rattle.salvage.specs.Pieces.{in_time, choice_of, after_first, first_of, first_in, run_in, run_list, listed}
use Rattle.salvage.specs.Machine.{settled_kept, run_ended, gathered_of, one_more, begun_of, fed_by, fed_of, behind_first, room_of}
use Rattle.salvage.specs.declared.stretches.Stretch.{Stretch}
use Rattle.salvage.specs.declared.salvages.First.{First}
use Rattle.salvage.specs.declared.salvages.First.TheVariants.{Missing, Kept, Changed}
use Rattle.salvage.specs.declared.salvages.Run.{Run}
use Rattle.salvage.specs.declared.salvages.Settled.{Settled}
use Rattle.salvage.specs.declared.salvages.Salvage.{Salvage}
use Rattle.salvage.specs.declared.salvages.Fed.{Fed}

-- ---- what becomes of the bytes at a place; g is what the code read

module _ (last : Option Moment) (s : List ℕ) (g : Result WordRecord Refusal) (e : g ≡ read_of last_bus s) where
  pub choice_kept : (r : WordRecord) (b : Bool) → g ≡ Ok r → b ≡ in_time last r.time.0 → b ≡ true → Some r.time ≡ choice_of last s
  unfolding choice_of
  choice_kept r b q t h = rw (← e, q, ← t, h)

-- ---- what is settled

module _ (s : Settled) (stretch : Stretch) where
  pub settled_none : stretch.bytes ≡ 0 → s ≡ settled_kept s stretch
  unfolding settled_kept
  settled_none h = rw (eq-eqb _ _ h)

  pub settled_some : {last : Option Moment} {end place records : ℕ} → (stretch.bytes ≡ 0 → ⊥) → last ≡ stretch.last
      → end ≡ sum64 s.run.place s.run.length → place ≡ sum64 end stretch.bytes → records ≡ sum64 s.records (stretch.bytes / 16)
      → record { last = last; run = record { place = place; length = 0 }; records = records; skipped = s.skipped } ≡ settled_kept s stretch
  unfolding settled_kept
  settled_some h l e p r = rw (ne_eqb _ _ h, l, p, e, r)

  pub run_none : stretch.bytes ≡ 0 → None ≡ run_ended s stretch
  unfolding run_ended
  run_none h = rw (eq-eqb _ _ h)

  pub run_some : {run : Option Run} → (stretch.bytes ≡ 0 → ⊥) → run ≡ run_in s.run → run ≡ run_ended s stretch
  unfolding run_ended
  run_some h e = rw (ne_eqb _ _ h) e

-- a run, in a list
pub run_listed : (run : Run) → run_list (run_in run) ≡ listed run.place run.length
unfolding run_in
run_listed run = by run.place run.length
  where
    by : (p n : ℕ) → run_list (cond (eqb n 0) None (Some (record { place = p; length = n }))) ≡ listed p n
    by p zero = refl
    by p (suc n) = rw (ne_eqb (suc n) 0 (λ h. omega arith)) refl

-- ---- the first byte

pub first_missing : (bytes : List ℕ) → length bytes ≡ 0 → Missing ≡ first_in bytes
unfolding first_in
first_missing [] l = refl
first_missing (byte ∷ rest) l = absurd (omega arith)

first_some : (bytes : List ℕ) → (length bytes ≡ 0 → ⊥) → first_of (get_or bytes 0 0) ≡ first_in bytes
unfolding first_in
first_some [] h = absurd (h refl)
first_some (byte ∷ rest) h = refl

module _ (bytes : List ℕ) (some : length bytes ≡ 0 → ⊥) where
  pub first_kept : get_or bytes 0 0 ≡ 1 → Kept ≡ first_in bytes
  unfolding first_of
  first_kept h = rw (eq-eqb _ _ h) at (first_some bytes some)

  pub first_changed : (get_or bytes 0 0 ≡ 1 → ⊥) → Changed ≡ first_in bytes
  unfolding first_of
  first_changed h = rw (ne_eqb _ _ h) at (first_some bytes some)

-- ---- the file's first byte, and none of it

begun_empty : (s : Salvage) (room chunk : List ℕ) → length chunk ≡ 0 → gathered_of s Missing room chunk ≡ begun_of s room chunk
unfolding begun_of
begun_empty s room [] l = refl
begun_empty s room (x ∷ more) l = absurd (omega arith)

after_empty : (chunk : List ℕ) → length chunk ≡ 0 → chunk ≡ after_first chunk
after_empty [] l = refl
after_empty (x ∷ more) l = absurd (omega arith)

begun_more : (s : Salvage) (room chunk : List ℕ) → (length chunk ≡ 0 → ⊥)
    → one_more (gathered_of s (first_in chunk) room (take (length chunk - 1) (drop 1 chunk))) ≡ begun_of s room chunk
unfolding begun_of first_in
begun_more s room [] h = absurd (h refl)
begun_more s room (x ∷ more) h =
    ap (λ (k : List ℕ). one_more (gathered_of s (first_of x) room k)) (take_all (suc (length more) - 1) more (omega arith))

after_more : (chunk : List ℕ) → (length chunk ≡ 0 → ⊥) → take (length chunk - 1) (drop 1 chunk) ≡ after_first chunk
after_more [] h = absurd (h refl)
after_more (x ∷ more) h = take_all (suc (length more) - 1) more (omega arith)

module _ (s : Salvage) (room room' chunk : List ℕ) (fed : Fed) where
  pub begun_none : length chunk ≡ 0 → fed ≡ gathered_of s Missing room chunk → fed ≡ begun_of s room chunk
  begun_none l e = e ∙ begun_empty s room chunk l

  pub begun_none_room : length chunk ≡ 0 → room' ≡ filled_room s.window room chunk → room' ≡ filled_room s.window room (after_first chunk)
  begun_none_room l e = e ∙ ap (filled_room s.window room) (after_empty chunk l)

  module _ (h : length chunk ≡ 0 → ⊥) where
    pub begun_some : {first : First} → first ≡ first_in chunk → fed ≡ gathered_of s first room (take (length chunk - 1) (drop 1 chunk))
        → record { salvage = fed.salvage; taken = fed.taken + 1 } ≡ begun_of s room chunk
    begun_some f e = ap one_more (e ∙ ap (λ (first : First). gathered_of s first room (take (length chunk - 1) (drop 1 chunk))) f) ∙ begun_more s room chunk h

    pub begun_some_room : room' ≡ filled_room s.window room (take (length chunk - 1) (drop 1 chunk)) → room' ≡ filled_room s.window room (after_first chunk)
    begun_some_room e = e ∙ ap (filled_room s.window room) (after_more chunk h)

    -- what was taken, with the first byte, is no more than the chunk
    pub begun_fits : (first : First) → fed ≡ gathered_of s first room (take (length chunk - 1) (drop 1 chunk)) → fed.taken + 1 ≤ length chunk
    unfolding gathered_of
    begun_fits first e =
        let rest = take (length chunk - 1) (drop 1 chunk) in
        omega (arith, ap (λ (k : Fed). k.taken) e, filled_few s.window room rest, length-take (length chunk - 1) (drop 1 chunk))

-- ---- the window after a chunk

pub gathered : (s : Salvage) (first : First) (room more : List ℕ) (filled : Filled) → filled ≡ filled_of s.window room more
    → record { salvage = record { first = first; settled = s.settled; window = filled.window }; taken = filled.taken } ≡ gathered_of s first room more
unfolding gathered_of
gathered s first room more filled e = rw e

-- ---- by what the first byte is

module _ (s : Salvage) (room chunk : List ℕ) (f : First) (h : s.first ≡ f) where
  pub fed_by_lem : {fed : Fed} → fed ≡ fed_by f s room chunk → fed ≡ fed_of s room chunk
  unfolding fed_of
  fed_by_lem e = e ∙ sym (ap (λ (x : First). fed_by x s room chunk) h)

  pub room_by : {room' : List ℕ} → room' ≡ filled_room s.window room (behind_first f chunk) → room' ≡ room_of s room chunk
  unfolding room_of
  room_by e = e ∙ sym (ap (λ (x : First). filled_room s.window room (behind_first x chunk)) h)
