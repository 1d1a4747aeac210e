-- The walk over the returned records as the loop makes it. Assumes nothing.
use mathlib.Core.Path.{◌≡◌, refl, sym, ap, ◌∙◌}
use Prim.Native.Nat.{ℕ, zero, suc, ◌+◌, ◌≤◌, ◌<◌, min}
use mathlib.Core.List.{List, [], ◌∷◌, ◌++◌, append-nil}
use native.Mathlib.Omega.{arith}
use lib.ListN.{length, drop, length-append, drop_of_length-le}
use lib.Seq.{drop-append_seam}
use borrow.Author.Tests.{ne_eqb}
use mathlib.Core.Bool.{true, false, true≢false}
use Rattle.std.specs.Prelude.{Option, Some, None, is_none, Result, Ok, Err, ⊤}
use Rattle.words.specs.declared.refusals.Refusal.{Refusal}
use Rattle.records.specs.Records.{record_bytes, last_bus, read_of}
use Rattle.records.specs.Files.{Walk, whole, stops, with}
use Rattle.records.specs.declared.forms.WordRecord.{WordRecord}
use Rattle.records.proofs.Theorems.{read_front}
use Rattle.verdict.proofs.Orders.{finding_from, finding_places}
use Rattle.verdict.specs.Facts.{fact_of}
use Rattle.verdict.specs.Verdicts.{record_checks, with_checked, go_on, returned_from, returned_of, finding, expected_at, finish_of, decide}
use Rattle.verdict.specs.declared.plans.Plan.{Plan}
use Rattle.verdict.specs.declared.judges.Finding.{Finding}
use Rattle.verdict.specs.declared.verdicts.Verdict.{Verdict}

-- what the records that are left come to, with the fact found so far
abbrev pub resume : Plan → Option Verdict → ℕ → ℕ → Walk → Result Finding Refusal
resume plan found looked last (whole rs) = Ok (finding_from plan found looked last rs)
resume plan found looked last (stops n) = Err n

-- what is left is what the whole comes to
pub record Left (plan : Plan) (bytes rest : List ℕ) (looked last : ℕ) (found : Option Verdict) : Type 0 where
  pub fuel : ℕ
  pub enough : length rest ≤ fuel
  pub few : looked + length rest ≤ length bytes
  pub same : resume plan found looked last (returned_from fuel plan last rest) ≡ decide plan (returned_of plan bytes)

start_same : (plan : Plan) (w : Walk) → resume plan None 0 plan.last.0 w ≡ decide plan w
start_same plan (whole rs) = ap (λ (f : Finding). Ok f) (sym (finding_places plan rs))
start_same plan (stops n) = refl

pub start : (plan : Plan) (bytes : List ℕ) → Left plan bytes bytes 0 plan.last.0 None
unfolding returned_of
start plan bytes =
    record { fuel = length bytes; enough = omega arith; few = omega arith; same = start_same plan (returned_from (length bytes) plan plan.last.0 bytes) }

-- ---- at the end

-- no byte is left
returned_none : (n : ℕ) (plan : Plan) (last : ℕ) (rest : List ℕ) → length rest ≡ 0 → returned_from n plan last rest ≡ whole []
unfolding returned_from
returned_none zero plan last rest none = refl
returned_none (suc n) plan last rest none = rw (none)

pub stop : (plan : Plan) (bytes rest : List ℕ) (looked last : ℕ) (found : Option Verdict) → Left plan bytes rest looked last found → length rest ≡ 0
    → Ok (finding (finish_of plan found looked last) looked) ≡ decide plan (returned_of plan bytes)
unfolding finding_from finish_of
stop plan bytes rest looked last None left none =
    sym (ap (resume plan None looked last) (returned_none left.fuel plan last rest none)) ∙ left.same
stop plan bytes rest looked last (Some fact) left none =
    sym (ap (resume plan (Some fact) looked last) (returned_none left.fuel plan last rest none)) ∙ left.same

-- ---- one chunk more

-- a chunk of so many bytes, with those behind it: it is whole, or nothing is behind it
record Chunk (x behind : List ℕ) : Type 0 where
  read : read_of last_bus (x ++ behind) ≡ read_of last_bus x
  rest : drop record_bytes (x ++ behind) ≡ behind

chunk_of : (x behind : List ℕ) → length x ≡ min record_bytes (length (x ++ behind)) → Chunk x behind
chunk_of x [] size = record { read = ap (read_of last_bus) (append-nil x); rest = drop_of_length-le (x ++ []) {i = record_bytes} (omega (arith, length-append x [])) }
chunk_of x (b ∷ bs) size =
    let full : length x ≡ record_bytes = omega (arith, length-append x (b ∷ bs)) in
    record { read = read_front last_bus x (b ∷ bs) (omega arith); rest = ap (λ (k : ℕ). drop k (x ++ (b ∷ bs))) (sym full) ∙ drop-append_seam x (b ∷ bs) }

-- what the next read, with what follows it, comes to
record Turn (plan : Plan) (bytes behind : List ℕ) (looked last : ℕ) (found : Option Verdict) (g : Result WordRecord Refusal) : Type 0 where
  fuel : ℕ
  enough : length behind ≤ fuel
  few : looked + 1 + length behind ≤ length bytes
  same : resume plan found looked last (go_on plan last g (λ (time : ℕ). returned_from fuel plan time behind)) ≡ decide plan (returned_of plan bytes)

returned_some : (n : ℕ) (plan : Plan) (last : ℕ) (x behind : List ℕ) → 0 < length (x ++ behind) → Chunk x behind
    → returned_from (suc n) plan last (x ++ behind) ≡ go_on plan last (read_of last_bus x) (λ (time : ℕ). returned_from n plan time behind)
unfolding returned_from
returned_some n plan last x behind some chunk =
    rw (ne_eqb (length (x ++ behind)) 0 (λ e. omega arith)) (simp (chunk.read, chunk.rest))

-- the next chunk of what is left, with what is behind it
pub record Next (rest x behind : List ℕ) : Type 0 where
  pub parts : rest ≡ x ++ behind
  pub size : length x ≡ min record_bytes (length rest)
  pub some : 0 < length rest

pub next_of : (size : ℕ) → size ≡ record_bytes → (rest x behind : List ℕ)
    → (rest ≡ x ++ behind) × (length x ≡ min size (length rest)) × (0 < length rest)
    → Next rest x behind
next_of size e rest x behind given = record { parts = given.0; size = rw e at given.1; some = given.2 }

module _ (plan : Plan) (bytes rest : List ℕ) (looked last : ℕ) (found : Option Verdict) (left : Left plan bytes rest looked last found)
    (x behind : List ℕ) (next : Next rest x behind) where
  turn_by : (n : ℕ) → length rest ≤ n → resume plan found looked last (returned_from n plan last rest) ≡ decide plan (returned_of plan bytes)
      → Turn plan bytes behind looked last found (read_of last_bus x)
  turn_by zero enough same = absurd (omega (arith, next.some))
  turn_by (suc n) enough same =
      let parts = next.parts in
      let whole_length : length rest ≡ length x + length behind = ap length parts ∙ length-append x behind in
      record {
        fuel = n;
        enough = omega (arith, whole_length, next.size, next.some);
        few = omega (arith, whole_length, left.few, next.size, next.some);
        same =
            ap (resume plan found looked last)
            (sym (ap (returned_from (suc n) plan last) parts ∙ returned_some n plan last x behind (rw parts at next.some) (chunk_of x behind (rw parts at next.size))))
            ∙ same;
      }

  turn : Turn plan bytes behind looked last found (read_of last_bus x)
  turn = turn_by left.fuel left.enough left.same

  -- the reader refuses
  pub unread : (n : Refusal) → read_of last_bus x ≡ Err n → Err n ≡ decide plan (returned_of plan bytes)
  unread n q = ap (λ (g : Result WordRecord Refusal). resume plan found looked last (go_on plan last g (λ (time : ℕ). returned_from turn.fuel plan time behind))) (sym q) ∙ turn.same

  -- a record is read
  module _ (r : WordRecord) (q : read_of last_bus x ≡ Ok r) where
    checked : (c : Result ⊤ Refusal) → record_checks plan last r ≡ c
        → resume plan found looked last (with_checked c r (returned_from turn.fuel plan r.time.0 behind)) ≡ decide plan (returned_of plan bytes)
    checked c h =
        ap (λ (y : Result ⊤ Refusal). resume plan found looked last (with_checked y r (returned_from turn.fuel plan r.time.0 behind))) (sym h)
        ∙ ap (λ (g : Result WordRecord Refusal). resume plan found looked last (go_on plan last g (λ (time : ℕ). returned_from turn.fuel plan time behind))) (sym q)
        ∙ turn.same

    -- its check refuses
    pub refused : (n : Refusal) → record_checks plan last r ≡ Err n → Err n ≡ decide plan (returned_of plan bytes)
    refused n h = checked (Err n) h

    -- what is left behind it, once it is looked at or passed over
    onward : (found' : Option Verdict) (looked' : ℕ) → looked' ≤ looked + 1
        → ((w : Walk) → resume plan found looked last (with r w) ≡ resume plan found' looked' r.time.0 w)
        → record_checks plan last r ≡ Ok tt
        → Left plan bytes behind looked' r.time.0 found'
    onward found' looked' most step ok = record {
      fuel = turn.fuel;
      enough = turn.enough;
      few = omega (arith, turn.few);
      same = sym (step (returned_from turn.fuel plan r.time.0 behind)) ∙ checked (Ok tt) ok;
    }

    pub look_on : is_none found ≡ true → record_checks plan last r ≡ Ok tt
        → Left plan bytes behind (looked + 1) r.time.0 (fact_of (expected_at plan looked) last r)
    unfolding finding_from
    look_on none = onward _ _ (omega arith) (go found none)
      where
        go : (o : Option Verdict) → is_none o ≡ true → (w : Walk)
            → resume plan o looked last (with r w) ≡ resume plan (fact_of (expected_at plan looked) last r) (looked + 1) r.time.0 w
        go None h (stops n) = refl
        go None h (whole rs) = refl
        go (Some fact) h w = absurd (true≢false (sym h))

    pub pass_on : is_none found ≡ false → record_checks plan last r ≡ Ok tt → Left plan bytes behind looked r.time.0 found
    unfolding finding_from
    pass_on some = onward _ _ (omega arith) (go found some)
      where
        go : (o : Option Verdict) → is_none o ≡ false → (w : Walk) → resume plan o looked last (with r w) ≡ resume plan o looked r.time.0 w
        go None h w = absurd (true≢false h)
        go (Some fact) h (stops n) = refl
        go (Some fact) h (whole rs) = refl
