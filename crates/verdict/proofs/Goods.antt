-- The verdict is good for the records that are expected, each in its place, and for no others. Assumes nothing.
use mathlib.Core.Path.{◌≡◌, refl, sym, ◌∙◌}
use Prim.Native.Nat.{ℕ}
use mathlib.Core.Bool.{Bool, true, false, not, cond, ◌||◌, true≢false}
use mathlib.Core.List.{List, [], ◌∷◌}
use native.Mathlib.Omega.{arith}
use lib.Dec.{eqb, ltb, leb}
use borrow.Author.Tests.{ltb-false, le-ltb, eqb-true, eq-eqb, not-false}
use Rattle.std.specs.Prelude.{Option, Some, None}
use Rattle.words.specs.Words.{no_response_distance, spacing_most, since_of, gap_of, spacing_of, is_back_to_back, address_of, has_flag, is_valid, command_sync, data_sync}
use Rattle.words.specs.declared.times.Spacing.{Spacing}
use Rattle.words.specs.declared.times.Spacing.TheVariants.{Overlapping, BackToBack, Separated}
use Rattle.words.specs.declared.statuses.Flag.TheVariants.{MessageError, Busy}
use Rattle.words.proofs.Spacings.{kinds_exact}
use Rattle.records.specs.declared.forms.WordRecord.{WordRecord}
use Rattle.verdict.specs.Plans.{expected_of}
use Rattle.verdict.specs.declared.verdicts.Verdict.{Verdict}
use Rattle.verdict.specs.declared.verdicts.Verdict.TheVariants as verdict
use Rattle.verdict.specs.declared.judges.Finding.{Finding}
use Rattle.verdict.specs.Facts.{response_most, gap_least, gap_most, listened_least, flag_fact, status_fact, spacing_fact, data_fact, fact_of, end_of}
use Rattle.verdict.specs.Verdicts.{found_or, finding_over, finding_of}
use Rattle.verdict.specs.Theorems.{GoodStatus, GoodData, Good, over, status, word, GoodExactly}
use Rattle.verdict.specs.declared.plans.Expected.{Expected}
use Rattle.verdict.specs.declared.plans.Expected.TheVariants.{Status, Data}
use Rattle.verdict.proofs.Findings.{verdict_over, verdict_passed}
use Rattle.std.proofs.Math.Bool.{or_comm}
use Rattle.std.proofs.lemmas.Bool.{cond_both, and_parts}

-- ---- the facts

-- a choice that shows no fact, where its first side does, goes the other way
passes : (b : Bool) (v : Verdict) (y : Option Verdict) → cond b (Some v) y ≡ None → (b ≡ false) × (y ≡ None)
passes true v y h = absurd (cc)
passes false v y h = (refl, h)

-- a spacing that shows no fact is back to back, and what comes then shows none; back to back, that decides
passes_spacing : (s : Spacing) (next : Option Verdict) → spacing_fact s next ≡ None → (is_back_to_back s ≡ true) × (next ≡ None)
passes_spacing (Overlapping distance) next h = absurd (cc)
passes_spacing (BackToBack distance) next h = (refl, h)
passes_spacing (Separated distance) next h = absurd (cc)

after_spacing : (s : Spacing) (next : Option Verdict) → is_back_to_back s ≡ true → spacing_fact s next ≡ next
after_spacing (Overlapping distance) next h = absurd (true≢false (sym h))
after_spacing (BackToBack distance) next h = refl
after_spacing (Separated distance) next h = absurd (true≢false (sym h))

-- a valid word has one of the two syncs
valid_sync : (r : WordRecord) → is_valid r.sync r.faults r.word r.parity ≡ true → (eqb r.sync command_sync || eqb r.sync data_sync) ≡ true
unfolding is_valid
valid_sync r valid = (and_parts _ _ (and_parts _ _ (and_parts _ _ valid).0).0).0

-- of two, one of which it is not, it is the other
other_one : (x a b : ℕ) → (eqb x a || eqb x b) ≡ true → eqb x b ≡ false → x ≡ a
other_one x a b h no-b = go (eqb x a) refl h
  where
    go : (t : Bool) → eqb x a ≡ t → (t || eqb x b) ≡ true → x ≡ a
    go true e h = eqb-true x a e
    go false e h = absurd (true≢false (sym h ∙ no-b))

-- ---- a status and a data word that are good

flags_good : (r : WordRecord) → flag_fact r ≡ None → (has_flag MessageError r.word ≡ false) × (has_flag Busy r.word ≡ false)
unfolding flag_fact
flags_good r h =
    let error = passes (has_flag MessageError r.word) _ _ h in
    let not-busy = passes (has_flag Busy r.word) _ _ error.1 in
    (error.0, not-busy.0)

unjudged_good : (unjudged : Bool) (r : WordRecord) → cond unjudged None (flag_fact r) ≡ None
    → unjudged ≡ false
    → (has_flag MessageError r.word ≡ false) × (has_flag Busy r.word ≡ false)
unjudged_good unjudged r h e = flags_good r (rw e at h)

status_good : (address : ℕ) (unjudged : Bool) (last : ℕ) (r : WordRecord) → status_fact address unjudged last r ≡ None → GoodStatus address unjudged last r
unfolding status_fact
status_good address unjudged last r h =
    let gap : ℕ = gap_of last r.time.0 in
    let answered = passes (ltb response_most gap) _ _ h in
    let not_early = passes (ltb gap gap_least) _ _ answered.1 in
    let not_late = passes (ltb gap_most gap) _ _ not_early.1 in
    let valid = passes (not (is_valid r.sync r.faults r.word r.parity)) _ _ not_late.1 in
    let sync = passes (eqb r.sync data_sync) _ _ valid.1 in
    let from = passes (not (eqb (address_of r.word) address)) _ _ sync.1 in
    let is-valid = not-false _ valid.0 in
    record {
      not_early = ltb-false gap gap_least not_early.0;
      not_late = ltb-false gap_most gap not_late.0;
      valid = is-valid;
      sync = other_one r.sync command_sync data_sync (valid_sync r is-valid) sync.0;
      from = eqb-true (address_of r.word) address (not-false _ from.0);
      flags = unjudged_good unjudged r from.1;
    }

pub good_status : (address : ℕ) (unjudged : Bool) (last : ℕ) (r : WordRecord) → GoodStatus address unjudged last r → status_fact address unjudged last r ≡ None
unfolding status_fact flag_fact
good_status address unjudged last r g =
    let gap : ℕ = gap_of last r.time.0 in
    let no_data : eqb r.sync data_sync ≡ false = rw g.sync in
    rw (le-ltb response_most gap (omega (arith, g.not_late)), le-ltb gap gap_least g.not_early, le-ltb gap_most gap g.not_late, g.valid, no_data, eq-eqb (address_of r.word) address g.from)
    (cond_both unjudged _ _ (λ (o : Option Verdict). o ≡ None) (λ yes. refl) (λ no'. rw ((g.flags no').0, (g.flags no').1)))

data_good : (last : ℕ) (r : WordRecord) → data_fact last r ≡ None → GoodData last r
unfolding data_fact
data_good last r h =
    let spaced = passes_spacing (spacing_of last r.time.0) _ h in
    let valid = passes (not (is_valid r.sync r.faults r.word r.parity)) _ _ spaced.1 in
    let sync = passes (eqb r.sync command_sync) _ _ valid.1 in
    let is-valid = not-false _ valid.0 in
    record { spaced = sym (kinds_exact last r.time.0).1 ∙ spaced.0; valid = is-valid; sync = other_one r.sync data_sync command_sync (or_comm (eqb r.sync data_sync) (eqb r.sync command_sync) ∙ valid_sync r is-valid) sync.0 }

pub good_data : (last : ℕ) (r : WordRecord) → GoodData last r → data_fact last r ≡ None
unfolding data_fact
good_data last r g =
    let no_command : eqb r.sync command_sync ≡ false = rw g.sync in
    rw (after_spacing (spacing_of last r.time.0) _ ((kinds_exact last r.time.0).1 ∙ g.spaced), g.valid, no_command)

-- ---- a fact is never the verdict good

data Bad : Option Verdict → Type 0 where
  none : Bad None
  some : {v : Verdict} → (v ≡ verdict.Good → ⊥) → Bad (Some v)

bad_choice : (b : Bool) (v : Verdict) {y : Option Verdict} → (v ≡ verdict.Good → ⊥) → Bad y → Bad (cond b (Some v) y)
bad_choice true v bad rest = some bad
bad_choice false v bad rest = rest

bad_flag : (r : WordRecord) → Bad (flag_fact r)
unfolding flag_fact
bad_flag r = bad_choice (has_flag MessageError r.word) verdict.MessageError (λ e. cc) (bad_choice (has_flag Busy r.word) verdict.Busy (λ e. cc) none)

bad_status : (address : ℕ) (unjudged : Bool) (last : ℕ) (r : WordRecord) → Bad (status_fact address unjudged last r)
unfolding status_fact
bad_status address unjudged last r =
    bad_choice (ltb response_most (gap_of last r.time.0)) verdict.NoResponse (λ e. cc)
    (bad_choice (ltb (gap_of last r.time.0) gap_least) verdict.Early (λ e. cc)
    (bad_choice (ltb gap_most (gap_of last r.time.0)) verdict.Late (λ e. cc)
    (bad_choice (not (is_valid r.sync r.faults r.word r.parity)) verdict.NotValid (λ e. cc)
    (bad_choice (eqb r.sync data_sync) verdict.WrongSync (λ e. cc)
    (bad_choice (not (eqb (address_of r.word) address)) verdict.WrongAddress (λ e. cc)
    (cond_both unjudged _ _ Bad (λ yes. none) (λ no'. bad_flag r)))))))

bad_spacing : (s : Spacing) {next : Option Verdict} → Bad next → Bad (spacing_fact s next)
bad_spacing (Overlapping distance) bad = some (λ e. cc)
bad_spacing (BackToBack distance) bad = bad
bad_spacing (Separated distance) bad = some (λ e. cc)

bad_data : (last : ℕ) (r : WordRecord) → Bad (data_fact last r)
unfolding data_fact
bad_data last r =
    bad_spacing (spacing_of last r.time.0)
    (bad_choice (not (is_valid r.sync r.faults r.word r.parity)) verdict.NotValid (λ e. cc)
    (bad_choice (eqb r.sync command_sync) verdict.WrongSync (λ e. cc) none))

-- ---- both directions

-- where the verdict is good, the first record shows no fact, and the rest decides
fact_first : (shown : Option Verdict) (rest : Finding) → Bad shown → (found_or shown rest).verdict ≡ verdict.Good → (shown ≡ None) × (rest.verdict ≡ verdict.Good)
fact_first None rest bad h = (refl, h)
fact_first (Some fact) rest (some bad) h = absurd (bad h)

-- a choice that is good goes to the side that is
good_side : (b : Bool) (v w : Verdict) → (v ≡ verdict.Good → ⊥) → cond b v w ≡ verdict.Good → (b ≡ false) × (w ≡ verdict.Good)
good_side true v w bad h = absurd (bad h)
good_side false v w bad h = (refl, h)

back_good : (es : List Expected) (last until : ℕ) (rs : List WordRecord) → verdict_over es last until rs ≡ verdict.Good → Good until es last rs
unfolding finding_over fact_of end_of
back_good [] last until [] h =
    over (ltb-false (since_of last until) listened_least (good_side (ltb (since_of last until) listened_least) _ _ (λ e. cc) h).0)
back_good [] last until (r ∷ rs) h = absurd (cc)
back_good (Status address unjudged ∷ es) last until [] h =
    let late : verdict.Waiting ≡ verdict.Good = (good_side (leb no_response_distance (since_of last until)) _ _ (λ e. cc) h).1 in
    absurd (cc)
back_good (Data ∷ es) last until [] h =
    let late : verdict.Waiting ≡ verdict.Good = (good_side (ltb spacing_most (since_of last until)) _ _ (λ e. cc) h).1 in
    absurd (cc)
back_good (Status address unjudged ∷ es) last until (r ∷ rs) h =
    let first = fact_first (status_fact address unjudged last r) _ (bad_status address unjudged last r) h in
    status (status_good address unjudged last r first.0) (back_good es r.time.0 until rs first.1)
back_good (Data ∷ es) last until (r ∷ rs) h =
    let first = fact_first (data_fact last r) _ (bad_data last r) h in
    word (data_good last r first.0) (back_good es r.time.0 until rs first.1)

good_back : {until last : ℕ} {es : List Expected} {rs : List WordRecord} → Good until es last rs → verdict_over es last until rs ≡ verdict.Good
unfolding finding_over fact_of end_of
good_back {until} {last} (over enough) = rw (le-ltb (since_of last until) listened_least enough)
good_back {until} {last} (status {address = address} {unjudged = unjudged} {es = es} {r = r} {rs = rs} first rest) =
    verdict_passed (Status address unjudged) es last until r rs (good_status address unjudged last r first) ∙ good_back rest
good_back {until} {last} (word {es = es} {r = r} {rs = rs} first rest) =
    verdict_passed Data es last until r rs (good_data last r first) ∙ good_back rest

pub good_exactly : GoodExactly
unfolding finding_of
good_exactly plan rs =
    (back_good (expected_of plan) plan.last.0 plan.until.0 rs, good_back)
