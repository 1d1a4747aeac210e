-- One record more at the end of an entry: what each part of its definition comes to. Assumes nothing.
use Rattle.std.proofs.Common.{◌≡◌, ℕ, zero, suc, ◌+◌, ◌<◌, ◌≤◌, Bool, true, false, cond, not, ◌&&◌, ◌||◌, eqb, List, [], ◌∷◌, ◌++◌, length, take, drop, sym, refl, ap, ◌∙◌, arith}
use Rattle.std.specs.Prelude.{Option, Some}
use mathlib.Core.Bool.{or-false}
use Rattle.std.proofs.Math.Bool.{or_assoc}
use Rattle.words.specs.Words.{is_spaced}
use Rattle.words.specs.declared.times.Moment.{Moment}
use Rattle.records.specs.declared.forms.WordRecord.{WordRecord}
use Rattle.verdict.specs.Verdicts.{found_or_shown}
use Rattle.verdict.specs.declared.verdicts.Verdict.{Verdict}
use Rattle.verdict.specs.Theorems.{found_after, last_after}
use Rattle.verdict.specs.declared.plans.Plan.{Plan}
use Rattle.monitor.specs.Entries.{is_command, is_data_word, statuses_in, statuses_by, last_in, is_spoiled, has_twins, gap_from, gap_before, data_words}
use Rattle.monitor.specs.Machine.{with_status, gap_with}
use Rattle.monitor.specs.declared.entries.Gap.{Gap}

abbrev pub snoc : List WordRecord → WordRecord → List WordRecord
snoc rs r = rs ++ (r ∷ [])

-- ---- the last record

pub last_snoc : (first : WordRecord) (rest : List WordRecord) (r : WordRecord) → last_in first (snoc rest r) ≡ r
last_snoc first [] r = refl
last_snoc first (x ∷ rest) r = last_snoc x rest r

pub last_time : (first : WordRecord) (rest : List WordRecord) → (last_in first rest).time.0 ≡ last_after first.time.0 rest
last_time first [] = refl
last_time first (x ∷ rest) = last_time x rest

pub last_split : (n t : ℕ) (rs : List WordRecord) → last_after (last_after t (take n rs)) (drop n rs) ≡ last_after t rs
last_split zero t rs = refl
last_split (suc n) t [] = refl
last_split (suc n) t (x ∷ rs) = last_split n x.time.0 rs

-- ---- counts and tests

pub twins_snoc : (first : WordRecord) (rest : List WordRecord) (r : WordRecord)
    → has_twins first (snoc rest r) ≡ (has_twins first rest || eqb r.time.0 (last_in first rest).time.0)
twins_snoc first [] r = or-false _
twins_snoc first (x ∷ rest) r = ap (λ (b : Bool). eqb x.time.0 first.time.0 || b) (twins_snoc x rest r)
    ∙ sym (or_assoc (eqb x.time.0 first.time.0) (has_twins x rest) (eqb r.time.0 (last_in x rest).time.0))

pub words_snoc : (rest : List WordRecord) (r : WordRecord) → data_words (snoc rest r) ≡ data_words rest + cond (is_data_word r) 1 0
words_snoc [] r = omega arith
words_snoc (x ∷ rest) r = ap (λ (n : ℕ). cond (is_data_word x) 1 0 + n) (words_snoc rest r) ∙ omega arith

abbrev pub is_bad : ℕ → WordRecord → Bool
is_bad before r = not (is_data_word r && is_spaced before r.time.0)

pub spoiled_none : (n t : ℕ) → is_spoiled n t [] ≡ false
spoiled_none zero t = refl
spoiled_none (suc n) t = refl

pub spoiled_own : (n t : ℕ) (rs : List WordRecord) (r : WordRecord) → length rs < n
    → is_spoiled n t (snoc rs r) ≡ (is_spoiled n t rs || is_bad (last_after t rs) r)
spoiled_own zero t rs r l = absurd (omega arith)
spoiled_own (suc n) t [] r l = ap (λ (b : Bool). is_bad t r || b) (spoiled_none n r.time.0) ∙ or-false _
spoiled_own (suc n) t (x ∷ rs) r l =
    ap (λ (b : Bool). is_bad t x || b) (spoiled_own n x.time.0 rs r (omega arith))
    ∙ sym (or_assoc (is_bad t x) (is_spoiled n x.time.0 rs) (is_bad (last_after x.time.0 rs) r))

pub spoiled_returned : (n t : ℕ) (rs : List WordRecord) (r : WordRecord) → n ≤ length rs → is_spoiled n t (snoc rs r) ≡ is_spoiled n t rs
spoiled_returned zero t rs r l = refl
spoiled_returned (suc n) t [] r l = absurd (omega arith)
spoiled_returned (suc n) t (x ∷ rs) r l = ap (λ (b : Bool). is_bad t x || b) (spoiled_returned n x.time.0 rs r (omega arith))

-- ---- statuses and the gap before the first

pub statuses_more : (rs : List WordRecord) (r : WordRecord) → is_command r ≡ true → statuses_in (snoc rs r) ≡ snoc (statuses_in rs) r
statuses_more [] r h = rw (h)
statuses_more (x ∷ rs) r h = go (is_command x) (statuses_more rs r h)
  where
    go : (b : Bool) → statuses_in (snoc rs r) ≡ snoc (statuses_in rs) r
        → cond b (x ∷ statuses_in (snoc rs r)) (statuses_in (snoc rs r)) ≡ snoc (cond b (x ∷ statuses_in rs) (statuses_in rs)) r
    go true more = ap (λ (l : List WordRecord). x ∷ l) more
    go false more = more

pub statuses_same : (rs : List WordRecord) (r : WordRecord) → is_command r ≡ false → statuses_in (snoc rs r) ≡ statuses_in rs
statuses_same [] r h = rw (h)
statuses_same (x ∷ rs) r h = ap (λ (l : List WordRecord). cond (is_command x) (x ∷ l) l) (statuses_same rs r h)

pub by_more : (rs : List WordRecord) (r : WordRecord) → statuses_by (snoc rs r) ≡ with_status (statuses_by rs) (record { 0 = r.word })
unfolding with_status
by_more [] r = refl
by_more (x ∷ []) r = refl
by_more (x ∷ y ∷ rs) r = refl

gap_stays : (x : WordRecord) (rs : List WordRecord) (before : Option Gap) (last time : Moment) → gap_with (statuses_by (x ∷ rs)) before last time ≡ before
gap_stays x [] before last time = refl
gap_stays x (y ∷ rs) before last time = refl

pub gap_more : (t : ℕ) (rs : List WordRecord) (r : WordRecord) → is_command r ≡ true → (last : Moment) → last.0 ≡ last_after t rs
    → gap_before t (snoc rs r) ≡ gap_with (statuses_by (statuses_in rs)) (gap_before t rs) last r.time
gap_more t [] r h last e = rw (h, e)
gap_more t (x ∷ rs) r h last e = go (is_command x) (gap_more x.time.0 rs r h last e)
  where
    go : (b : Bool) → gap_before x.time.0 (snoc rs r) ≡ gap_with (statuses_by (statuses_in rs)) (gap_before x.time.0 rs) last r.time
        → cond b (Some (gap_from t x.time.0)) (gap_before x.time.0 (snoc rs r))
        ≡ gap_with (statuses_by (cond b (x ∷ statuses_in rs) (statuses_in rs))) (cond b (Some (gap_from t x.time.0)) (gap_before x.time.0 rs)) last r.time
    go true more = sym (gap_stays x (statuses_in rs) (Some (gap_from t x.time.0)) last r.time)
    go false more = more

pub gap_same : (t : ℕ) (rs : List WordRecord) (r : WordRecord) → is_command r ≡ false → gap_before t (snoc rs r) ≡ gap_before t rs
gap_same t [] r h = rw (h)
gap_same t (x ∷ rs) r h = ap (λ (g : Option Gap). cond (is_command x) (Some (gap_from t x.time.0)) g) (gap_same x.time.0 rs r h)

-- ---- the fact found

pub found_snoc : (plan : Plan) (rs : List WordRecord) (r : WordRecord) (found : Option Verdict) (place last : ℕ)
    → found_after plan found place last (snoc rs r)
    ≡ found_or_shown (found_after plan found place last rs) plan (place + length rs) (last_after last rs) r
found_snoc plan [] r found place last = ap (λ (k : ℕ). found_or_shown found plan k last r) {x = place} {y = place + 0} (omega arith)
found_snoc plan (x ∷ rs) r found place last =
    let next = found_or_shown found plan place last x in
    found_snoc plan rs r next (suc place) x.time.0
    ∙ ap (λ (k : ℕ). found_or_shown (found_after plan next (suc place) x.time.0 rs) plan k (last_after x.time.0 rs) r)
    {x = suc place + length rs} {y = place + suc (length rs)} (omega arith)
