-- The facts of the words of an answer as they are heard. Assumes nothing.
use mathlib.Core.Path.{◌≡◌, refl, ap, subst, ◌∙◌}
use Prim.Native.Nat.{ℕ, zero, suc, ◌+◌, ◌-◌, ◌*◌, ◌^◌, ◌≤◌, ◌<◌}
use mathlib.Core.Bool.{Bool, true, cond, ◌&&◌, ◌||◌}
use mathlib.Core.List.{List, [], ◌∷◌, ◌++◌, append-nil}
use native.Mathlib.Omega.{arith}
use lib.Dec.{eqb, leb}
use lib.ListN.{length, replicate}
use borrow.Author.Tests.{lt-ltb, ltb-true, le-ltb, le-leb, leb-true, eq-eqb, eqb-true}
use Rattle.words.specs.Words.{on_clock, word_ticks, due_distance, address_of, parity_of, is_spaced, is_valid, command_sync, data_sync}
use Rattle.words.specs.Refusals.{not_refused}
use Rattle.records.specs.Records.{last_bus, in_range}
use Rattle.records.specs.declared.forms.WordRecord.{WordRecord}
use Rattle.records.proofs.Ranges.{ranged_in}
use Rattle.words.proofs.Oddness.{parity_one}
use Rattle.words.proofs.Inverse.{gaps}
use Rattle.history.proofs.Tests.{and_left, and_right, or_cases}
use Rattle.verdict.specs.Plans.{is_unjudged, sent_of, part_of}
use Rattle.std.specs.Prelude.{Option, Some, None, unwrap_or}
use Rattle.verdict.specs.declared.verdicts.Verdict.{Verdict}
use Rattle.verdict.specs.declared.verdicts.Verdict.TheVariants as verdict
use Rattle.verdict.specs.declared.judges.Finding.{Finding}
use Rattle.verdict.specs.Facts.{listened_least, flag_fact, status_fact, fact_of, end_of}
use Rattle.verdict.specs.Verdicts.{record_refusal, found_or, finding_over}
use Rattle.verdict.specs.Theorems.{last_after}
use Rattle.verdict.specs.declared.plans.Plan.{Plan}
use Rattle.verdict.specs.declared.plans.Expected.{Expected}
use Rattle.verdict.specs.declared.plans.Expected.TheVariants.{Data}
use Rattle.verdict.proofs.Findings.{verdict_over, verdict_passed}
use Rattle.verdict.proofs.Goods.{good_data}
use Rattle.monitor.specs.Entries.{is_data_word}
use Rattle.agreement.specs.Agreement.{heard_at, data_from, BackToBack, Accepted}
use Rattle.monitor.specs.Entries.{is_word}
use Rattle.verdict.specs.Verdicts.{record_checks}

-- ---- a word

-- it is valid, with either sync
pub heard_valid : (sync word : ℕ) → (eqb sync command_sync || eqb sync data_sync) ≡ true → is_valid sync 0 word (parity_of word) ≡ true
unfolding is_valid
heard_valid sync word shaped =
    let one = parity_one word in
    rw (shaped, lt-ltb (parity_of word) 2 one.0) one.1

-- the status word, of the address, at the due time
status_fact_lem : (last bus word address : ℕ) (unjudged : Bool) → address_of word ≡ address
    → status_fact address unjudged last (heard_at (last + due_distance) bus command_sync word)
    ≡ cond unjudged None (flag_fact (heard_at (last + due_distance) bus command_sync word))
unfolding status_fact
status_fact_lem last bus word address unjudged from =
    rw ((gaps last).1, heard_valid command_sync word refl, eq-eqb (address_of word) address from)

-- ---- data words back to back

pub spaced_apart : (before after : ℕ) → is_spaced before after ≡ true → (195 ≤ after - before) × (after - before ≤ 205)
unfolding is_spaced
spaced_apart before after h = (
  leb-true 195 (after - before) (and_left (leb 195 (after - before)) (leb (after - before) 205) h),
  leb-true (after - before) 205 (and_right (leb 195 (after - before)) (leb (after - before) 205) h),
)

-- a data word is valid, with data sync
pub data_valid : (d : WordRecord) → is_data_word d ≡ true → (is_valid d.sync d.faults d.word d.parity ≡ true) × (d.sync ≡ data_sync)
unfolding is_word
data_valid d h =
    let valid : Bool = is_valid d.sync d.faults d.word d.parity in
    (and_left valid (eqb d.sync 1) h, eqb-true d.sync 1 (and_right valid (eqb d.sync 1) h))

-- those of an answer are
pub answer_spaced : (bus : ℕ) (words : List ℕ) (t : ℕ) → BackToBack bus t (data_from (t + word_ticks) bus words)
unfolding data_from is_word is_spaced
answer_spaced bus [] t = tt
answer_spaced bus (word ∷ words) t =
    let apart : t + word_ticks - t ≡ word_ticks = omega arith in
    (refl, rw (heard_valid data_sync word refl), rw apart, answer_spaced bus words (t + word_ticks))

answer_length : (bus : ℕ) (words : List ℕ) (t : ℕ) → length (data_from t bus words) ≡ length words
unfolding data_from
answer_length bus [] t = refl
answer_length bus (word ∷ words) t = ap suc (answer_length bus words (t + word_ticks))

-- the last of them
pub answer_last : (bus : ℕ) (words : List ℕ) (t : ℕ) → last_after t (data_from (t + word_ticks) bus words) ≡ t + word_ticks * length words
unfolding data_from
answer_last bus [] t = omega arith
answer_last bus (word ∷ words) t = answer_last bus words (t + word_ticks) ∙ omega arith

-- the last is not before the word that they follow
pub words_later : (bus : ℕ) (ds : List WordRecord) (last : ℕ) → BackToBack bus last ds → last ≤ last_after last ds
words_later bus [] last spaced = omega arith
words_later bus (d ∷ ds) last spaced =
    omega (arith, (spaced_apart last d.time.0 spaced.2).0, words_later bus ds d.time.0 spaced.3)

-- ---- the walk over them

-- the first fact found decides
first_decides : (fact : Option Verdict) (rest : Finding) → (fact ≡ None → rest.verdict ≡ verdict.Good)
    → (found_or fact rest).verdict ≡ unwrap_or fact verdict.Good
first_decides None rest goes_on_lem = goes_on_lem refl
first_decides (Some v) rest goes_on_lem = refl

-- data words, as many as are expected, show nothing: what comes behind decides
pub words_passed : (bus : ℕ) (es : List Expected) (until : ℕ) (rs : List WordRecord) (ds : List WordRecord) (n last : ℕ) → length ds ≡ n
    → BackToBack bus last ds
    → verdict_over (replicate n Data ++ es) last until (ds ++ rs) ≡ verdict_over es (last_after last ds) until rs
unfolding fact_of
words_passed bus es until rs [] zero last all spaced = refl
words_passed bus es until rs [] (suc n) last all spaced = absurd (omega arith)
words_passed bus es until rs (d ∷ ds) zero last all spaced = absurd (omega arith)
words_passed bus es until rs (d ∷ ds) (suc n) last all spaced =
    let valid = data_valid d spaced.1 in
    verdict_passed Data (replicate n Data ++ es) last until d (ds ++ rs)
    (good_data last d (record { spaced = spaced.2; valid = valid.0; sync = valid.1 }))
    ∙ (words_passed bus es until rs ds n d.time.0 (omega arith) spaced.3)

-- where nothing does, they are good
words_good : (bus : ℕ) (ds : List WordRecord) (n last until : ℕ) → length ds ≡ n → BackToBack bus last ds → last_after last ds + listened_least ≤ until
    → verdict_over (replicate n Data) last until ds ≡ verdict.Good
unfolding finding_over end_of
words_good bus ds n last until all spaced listened =
    rw (append-nil (replicate n Data), append-nil ds) at (words_passed bus [] until [] ds n last all spaced)
    ∙ rw (le-ltb (until - last_after last ds) listened_least (omega arith))

module _ (w bus last until : ℕ) where
  -- the due time, and what a status word shows then
  abbrev due : ℕ
  due = last + due_distance

  abbrev fact : ℕ → Option Verdict
  fact status = cond (is_unjudged w) None (flag_fact (heard_at due bus command_sync status))

  abbrev shown : ℕ → Verdict
  shown status = unwrap_or (fact status) verdict.Good

  -- the status decides, where it shows nothing if what is behind it is good
  pub status_verdict : (status : ℕ) (behind : List WordRecord) → address_of status ≡ address_of w
      → (fact status ≡ None → verdict_over (replicate (sent_of w) Data) due until behind ≡ verdict.Good)
      → verdict_over (part_of w) last until (heard_at due bus command_sync status ∷ behind) ≡ shown status
  unfolding fact_of finding_over
  status_verdict status behind from full =
      let rest : Finding = finding_over (replicate (sent_of w) Data) due until behind in
      ap (λ (o : Option Verdict). (found_or o rest).verdict) (status_fact_lem last bus status (address_of w) (is_unjudged w) from)
      ∙ first_decides (fact status) rest full

  -- a whole answer: its status decides, where it shows nothing with as many data words as are expected
  pub answer_verdict : (status : ℕ) (words : List ℕ) → address_of status ≡ address_of w
      → due + word_ticks * length words + listened_least ≤ until
      → (fact status ≡ None → length words ≡ sent_of w)
      → verdict_over (part_of w) last until (heard_at due bus command_sync status ∷ data_from (due + word_ticks) bus words) ≡ shown status
  answer_verdict status words from listened full =
      status_verdict status (data_from (due + word_ticks) bus words) from
      (λ clear.
      words_good bus (data_from (due + word_ticks) bus words) (sent_of w) due until (answer_length bus words (due + word_ticks) ∙ full clear)
      (answer_spaced bus words due) (omega (arith, answer_last bus words due)))

-- ---- they are taken

-- a valid word is in range but for its time and its bus
valid_range : (r : WordRecord) → is_valid r.sync r.faults r.word r.parity ≡ true → (r.sync ≤ 1) × (r.faults ≡ 0) × (r.parity ≤ 1)
unfolding is_valid
valid_range r valid =
    let shaped : Bool = eqb r.sync command_sync || eqb r.sync data_sync in
    let clean : Bool = shaped && eqb r.faults 0 in
    let three = and_left _ _ valid in
    let two = and_left _ _ three in (
      or_cases (eqb r.sync command_sync) (eqb r.sync data_sync) (and_left _ _ two)
          (λ command. omega (arith, eqb-true r.sync command_sync command))
          (λ word. omega (arith, eqb-true r.sync data_sync word)),
      eqb-true r.faults 0 (and_right shaped _ two),
      omega (arith, ltb-true r.parity 2 (and_right clean _ three)),
    )

module _ (plan : Plan) (bus_range : plan.bus ≤ last_bus) (clock : on_clock plan.until.0 ≡ true) where
  -- a valid word after another and not after Q
  pub word_taken : (before : ℕ) (r : WordRecord) → is_valid r.sync r.faults r.word r.parity ≡ true → r.bus ≡ plan.bus → before < r.time.0
      → r.time.0 ≤ plan.until.0
      → (in_range last_bus r ≡ true) × (record_refusal plan before r ≡ not_refused)
  unfolding record_checks
  word_taken before r valid own later in_time_lem =
      let range = valid_range r valid in
      let on_clock_lem = ltb-true plan.until.0 (2 ^ 48) clock in (
        ranged_in last_bus r
            (record {
              time = omega arith;
              bus = omega (arith, own);
              sync = omega (arith, range.0);
              faults = omega (arith, range.1);
              parity = range.2;
            }),
        rw (eq-eqb r.bus plan.bus own, lt-ltb before r.time.0 later, le-leb r.time.0 plan.until.0 in_time_lem),
      )

  -- data words back to back, and what comes behind them
  pub words_taken : (ds : List WordRecord) (last : ℕ) (rs : List WordRecord) → BackToBack plan.bus last ds → last_after last ds ≤ plan.until.0
      → Accepted plan (last_after last ds) rs
      → Accepted plan last (ds ++ rs)
  words_taken [] last rs spaced in_time_lem taken = taken
  words_taken (d ∷ ds) last rs spaced in_time_lem taken =
      let apart = spaced_apart last d.time.0 spaced.2 in
      let first =
      word_taken last d (data_valid d spaced.1).0 spaced.0 (omega (arith, apart.0))
      (omega (arith, in_time_lem, words_later plan.bus ds d.time.0 spaced.3)) in
      (first.0, first.1, words_taken ds d.time.0 rs spaced.3 in_time_lem taken)

  pub answer_taken : (last status : ℕ) (words : List ℕ) → last + due_distance + word_ticks * length words ≤ plan.until.0
      → Accepted plan last
      (heard_at (last + due_distance) plan.bus command_sync status ∷ data_from (last + due_distance + word_ticks) plan.bus words)
  answer_taken last status words in_time_lem =
      let due : ℕ = last + due_distance in
      let first =
      word_taken last (heard_at due plan.bus command_sync status) (heard_valid command_sync status refl) refl (omega arith) (omega arith) in (
        first.0,
        first.1,
        subst (Accepted plan due) (append-nil (data_from (due + word_ticks) plan.bus words))
            (words_taken (data_from (due + word_ticks) plan.bus words) due [] (answer_spaced plan.bus words due)
            (omega (arith, answer_last plan.bus words due)) tt),
      )
