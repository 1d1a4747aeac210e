-- Feeding a side as the loop does it: what is left of the bytes comes to what the whole gives. Assumes nothing.
use Rattle.std.proofs.Common.{◌≡◌, ℕ, zero, suc, ◌+◌, ◌<◌, ◌≤◌, Bool, true, false, cond, not, ◌&&◌, ltb, List, ◌++◌, length, drop, sym, refl, ap, ◌∙◌, arith, length-append, le-ltb, lt-ltb}
use Rattle.std.proofs.Math.Seq.{drop-append_seam}
use Rattle.std.specs.Prelude.{Result}
use Rattle.words.specs.declared.refusals.Refusal.{Refusal}
use Rattle.records.specs.Records.{last_bus, read_of}
use Rattle.records.specs.declared.forms.WordRecord.{WordRecord}
use Rattle.records.proofs.Theorems.{read_front}
use Rattle.monitor.specs.Machine.{wants_more, read_with, read_by, fed_from, fed_of}
use Rattle.monitor.specs.declared.walks.Walk.{Walk}
use Rattle.monitor.specs.declared.walks.Side.{Side}
use Rattle.monitor.specs.declared.sides.Fed.{Fed}

abbrev pub fed : Side → ℕ → Fed
fed s at = record { side = s; taken = at }

-- nothing more is read of fewer than 16 bytes, or where the side wants no more
pub fed_short : (n : ℕ) (s : Side) (bytes : List ℕ) (at : ℕ) → length bytes < 16 → fed_from n s bytes at ≡ fed s at
unfolding fed_from
fed_short zero s bytes at l = refl
fed_short (suc n) s bytes at l = rw (lt-ltb _ _ l)

pub fed_over : (n : ℕ) (s : Side) (bytes : List ℕ) (at : ℕ) → wants_more s ≡ false → fed_from n s bytes at ≡ fed s at
unfolding fed_from
fed_over zero s bytes at w = refl
fed_over (suc n) s bytes at w = go (not (ltb (length bytes) 16))
  where
    go : (b : Bool) → cond (b && wants_more s) (fed_from n (read_by s.walk bytes) (drop 16 bytes) (at + 16)) (fed s at) ≡ fed s at
    go true = rw (w)
    go false = refl

-- else one record more
pub fed_one : (n : ℕ) (s : Side) (bytes : List ℕ) (at : ℕ) → 16 ≤ length bytes → wants_more s ≡ true
    → fed_from (suc n) s bytes at ≡ fed_from n (read_by s.walk bytes) (drop 16 bytes) (at + 16)
unfolding fed_from
fed_one n s bytes at l w = rw (le-ltb _ _ l, w)

-- what is left of the bytes, fed to the side as it is, is what the whole comes to
pub record Feeding (bytes : List ℕ) (first side : Side) (rest : List ℕ) (taken : ℕ) : Type 0 where
  pub fuel : ℕ
  pub enough : length rest ≤ fuel
  pub few : taken + length rest ≤ length bytes
  pub same : fed_from fuel side rest taken ≡ fed_of first bytes

pub feeding_start : (bytes : List ℕ) (first : Side) (rest : List ℕ) → rest ≡ bytes → Feeding bytes first first rest 0
unfolding fed_of
feeding_start bytes first rest e = record {
  fuel = length bytes;
  enough = omega (arith, ap length e);
  few = omega (arith, ap length e);
  same = ap (λ (k : List ℕ). fed_from (length bytes) first k 0) e;
}

pub whole_size : (size : ℕ) (rest : List ℕ) → size ≡ 16 → length rest < size → length rest < 16
whole_size size rest e l = omega arith

module _ (bytes : List ℕ) (first side : Side) (rest : List ℕ) (taken : ℕ) (feeding : Feeding bytes first side rest taken) where
  pub feeding_short : length rest < 16 → fed side taken ≡ fed_of first bytes
  feeding_short l = sym (fed_short feeding.fuel side rest taken l) ∙ feeding.same

  pub feeding_over : wants_more side ≡ false → fed side taken ≡ fed_of first bytes
  feeding_over h = sym (fed_over feeding.fuel side rest taken h) ∙ feeding.same

  module _ (chunk behind : List ℕ) (parts : rest ≡ chunk ++ behind) (size : length chunk ≡ 16) (more : wants_more side ≡ true) where
    -- the record is the chunk's
    read_chunk : (w : Walk) → read_by w rest ≡ read_by w chunk
    unfolding read_by
    read_chunk w = ap (λ (g : Result WordRecord Refusal). read_with w g) (ap (read_of last_bus) parts ∙ read_front last_bus chunk behind (omega arith))

    rest_behind : drop 16 rest ≡ behind
    rest_behind = ap (drop 16) parts ∙ ap (λ (k : ℕ). drop k (chunk ++ behind)) (sym size) ∙ drop-append_seam chunk behind

    pub feeding_next : (next : Side) → next ≡ read_by side.walk chunk → Feeding bytes first next behind (taken + 16)
    feeding_next next q = go feeding.fuel feeding.enough feeding.same
      where
        long : length rest ≡ 16 + length behind
        long = ap length parts ∙ length-append chunk behind ∙ ap (λ (k : ℕ). k + length behind) size

        go : (n : ℕ) → length rest ≤ n → fed_from n side rest taken ≡ fed_of first bytes → Feeding bytes first next behind (taken + 16)
        go zero enough same = absurd (omega (arith, long))
        go (suc n) enough same = record {
          fuel = n;
          enough = omega (arith, long);
          few = omega (arith, long, feeding.few);
          same =
              ap (λ (k : Side). fed_from n k behind (taken + 16)) (q ∙ sym (read_chunk side.walk))
              ∙ ap (λ (k : List ℕ). fed_from n (read_by side.walk rest) k (taken + 16)) (sym rest_behind)
              ∙ sym (fed_one n side rest taken (omega (arith, long)) more)
              ∙ same;
        }
