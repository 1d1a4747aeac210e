-- When the entry that some records leave open takes no record more: begins_an_entry. Assumes nothing.
use mathlib.Core.Path.{◌≡◌, refl, sym, ap, subst, ◌∙◌}
use Prim.Native.Nat.{ℕ, zero, suc, ◌+◌, ◌≤◌, ◌<◌}
use mathlib.Core.Bool.{Bool, true, false, not, cond, ◌&&◌, ◌||◌, or-true}
use mathlib.Core.List.{List, [], ◌∷◌, ◌++◌, append-nil, append_assoc}
use native.Mathlib.Omega.{arith}
use lib.Dec.{eqb}
use lib.ListN.{length, drop, replicate}
use borrow.Author.Tests.{eq-eqb, eqb-true, eqb-false, ltb-false, not-false}
use Rattle.words.specs.Words.{no_response_distance, address_of, count_of, awaited_of, words_of, is_broadcast, is_spaced}
use Rattle.words.specs.declared.times.Moment.{Moment}
use Rattle.records.specs.declared.forms.WordRecord.{WordRecord}
use Rattle.history.proofs.Tests.{none≢, some_same, cond_cases, and_left, or_cases}
use Rattle.verdict.specs.Plans.{is_pair, is_possible, part_of, sent_of, back_of, expected_of}
use Rattle.std.specs.Prelude.{Some, None}
use Rattle.verdict.specs.declared.verdicts.Verdict.TheVariants as verdict
use Rattle.verdict.specs.Verdicts.{verdict_of}
use Rattle.verdict.specs.Theorems.{Good, status, word}
use Rattle.verdict.specs.declared.plans.Plan.{Plan}
use Rattle.verdict.specs.declared.plans.Expected.{Expected}
use Rattle.verdict.specs.declared.plans.Expected.TheVariants as expected
use Rattle.verdict.proofs.Goods.{good_exactly}
use Rattle.monitor.specs.Entries.{is_command, is_data_word, is_second, commands_of, last_command, behind_of, statuses_in, statuses_by, statuses_of, is_for, is_from, expects, last_in, own_number, is_spoiled, is_short, own_bad, returned_in, has_twins, plan_with, plan_of, own_last, outcome_in}
use Rattle.monitor.specs.Logs.{Group, Placed, heard_on, part_in, belongs, closes_at, groups_from, groups_of, end_time}
use Rattle.monitor.specs.declared.entries.Commands.{Commands}
use Rattle.monitor.specs.declared.entries.Commands.TheVariants as commands
use Rattle.monitor.proofs.Appends.{last_snoc}
use Rattle.std.proofs.lemmas.Bool.{or_parts}
use Rattle.monitor.proofs.Counts.{heards, heards_on}
use Rattle.agreement.specs.Logged.{takes, BeginsAnEntry}
use Rattle.agreement.proofs.Fronts.{takes_from}
use Rattle.agreement.proofs.Joined.{data_not_command, not_second, not_expected, command_closes, far_closes}
use Rattle.agreement.proofs.Outcomes.{last_append, second_parts}
use Rattle.agreement.proofs.Pairs.{pair_parts}
use Rattle.monitor.specs.Entries.{is_word}

-- ---- no record before

none_takes : (end : Moment) (r : WordRecord) (ps : List Placed) → heards ps ≡ [] → takes (groups_of end ps) r ≡ false
none_takes end r [] none = refl
none_takes end r (p ∷ ps) none = absurd (omega (arith, ap length none))

-- ---- more than 320 ticks before

-- what begins with no command takes none
single_takes : (first : WordRecord) (rest : List WordRecord) (r : WordRecord) → (is_command first ≡ true → belongs (part_in first rest r) ≡ false)
    → belongs (part_in first rest r) ≡ false
unfolding part_in
single_takes first rest r message = go (is_command first) refl
  where
    go : (b : Bool) → is_command first ≡ b → belongs (part_in first rest r) ≡ false
    go true command = message command
    go false other = rw other

module _ (end : Moment) (r : WordRecord) where
  far_from : (ps : List Placed) (place : ℕ) (first : WordRecord) (rest : List WordRecord)
      → (last_in first (rest ++ heards ps)).time.0 + no_response_distance < r.time.0
      → takes (groups_from end place first rest ps) r ≡ false
  unfolding groups_from
  far_from [] place first rest late =
      single_takes first rest r
      (λ command. far_closes first rest command r (subst (λ (l : List WordRecord). (last_in first l).time.0 + no_response_distance < r.time.0) (append-nil rest) late))
  far_from (p ∷ ps) place first rest late =
      go (belongs (part_in first rest p.heard))
      (far_from ps place first (rest ++ (p.heard ∷ []))
      (subst (λ (l : List WordRecord). (last_in first l).time.0 + no_response_distance < r.time.0) (sym (append_assoc rest (p.heard ∷ []) (heards ps))) late))
      (takes_from this r ps end p.place p.heard []
      ∙ far_from ps p.place p.heard []
      (subst (λ (x : WordRecord). x.time.0 + no_response_distance < r.time.0) (last_append first rest (p.heard ∷ heards ps)) late))
    where
      this : Group
      this = record { place = place; first = first; rest = rest; until = closes_at first rest p.heard }

      go : (b : Bool) → takes (groups_from end place first (rest ++ (p.heard ∷ [])) ps) r ≡ false
          → takes (this ∷ groups_from end p.place p.heard [] ps) r ≡ false
          → takes (cond b (groups_from end place first (rest ++ (p.heard ∷ [])) ps) (this ∷ groups_from end p.place p.heard [] ps)) r ≡ false
      go true joins begins = joins
      go false joins begins = begins

  -- the last of some records, or else that one
  last_or : WordRecord → List WordRecord → WordRecord
  last_or last [] = last
  last_or last (x ∷ xs) = last_in x xs

  last_or_lem : (last : WordRecord) (before : List WordRecord) → last_or last (before ++ (last ∷ [])) ≡ last
  unfolding last_or
  last_or_lem last [] = refl
  last_or_lem last (x ∷ before) = last_snoc x before last

  far_takes : (ps : List Placed) (before : List WordRecord) (last : WordRecord) → heards ps ≡ before ++ (last ∷ [])
      → last.time.0 + no_response_distance < r.time.0
      → takes (groups_of end ps) r ≡ false
  unfolding last_or
  far_takes [] before last e late = refl
  far_takes (p ∷ ps) before last e late =
      far_from ps p.place p.heard []
      (subst (λ (x : WordRecord). x.time.0 + no_response_distance < r.time.0) (sym (ap (last_or last) e ∙ last_or_lem last before)) late)

-- ---- a message that is judged good

-- what the outcome says of it
record Heard (first : WordRecord) (rest : List WordRecord) (until : Moment) : Type 0 where
  sound : is_spoiled (own_number first rest) (last_command first rest).time.0 (behind_of first rest) ≡ false
  enough : own_number first rest ≤ length (behind_of first rest)
  back : Good (plan_of first rest until).until.0 (expected_of (plan_of first rest until)) (plan_of first rest until).last.0 (returned_in first rest)

good_heard : (first : WordRecord) (rest : List WordRecord) (until : Moment) → outcome_in first rest until ≡ Some verdict.Good
    → Heard first rest until
unfolding outcome_in
good_heard first rest until given = go (not (is_possible plan) || own_bad first rest || has_twins first rest) refl given
  where
    plan : Plan
    plan = plan_of first rest until

    go : (b : Bool) → (not (is_possible plan) || own_bad first rest || has_twins first rest) ≡ b
        → cond b None (Some (verdict_of plan (returned_in first rest))) ≡ Some verdict.Good
        → Heard first rest until
    go true bad given = none≢ given
    go false fine given =
        let outer = or_parts (not (is_possible plan) || own_bad first rest) (has_twins first rest) fine in
        let own = (or_parts (not (is_possible plan)) (own_bad first rest) outer.0).1 in
        let parts =
        or_parts (is_spoiled (own_number first rest) (last_command first rest).time.0 (behind_of first rest)) (is_short (own_number first rest) (behind_of first rest)) own in
        record {
          sound = parts.0;
          enough = ltb-false (length (behind_of first rest)) (own_number first rest) parts.1;
          back = (good_exactly plan (returned_in first rest)).0 (some_same _ _ given);
        }

-- its own data words are no statuses
own_statuses : (n t : ℕ) (rs : List WordRecord) → is_spoiled n t rs ≡ false → statuses_in rs ≡ statuses_in (drop n rs)
own_statuses zero t rs sound = refl
own_statuses (suc n) t [] sound = refl
own_statuses (suc n) t (r ∷ rs) sound =
    let parts = or_parts (not (is_data_word r && is_spaced t r.time.0)) (is_spoiled n r.time.0 rs) sound in
    let data-word = and_left _ _ (not-false _ parts.0) in
    rw (data_not_command r data-word) (own_statuses n r.time.0 rs parts.1)

-- a status that is expected is the first of those that come
first_status : {until last address : ℕ} {unjudged : Bool} {es : List Expected} {rs : List WordRecord}
    → Good until (expected.Status address unjudged ∷ es) last rs
    → (r : WordRecord) × (more : List WordRecord) × (statuses_in rs ≡ r ∷ statuses_in more) × (address_of r.word ≡ address) × Good until es r.time.0 more
unfolding is_word
first_status (status {r = r} {rs = more} is rest) = (r, more, rw (is.valid, is.sync), is.from, rest)

-- data words that are expected are none
words_status : {until last : ℕ} {es : List Expected} {rs : List WordRecord} (n : ℕ) → Good until (replicate n expected.Data ++ es) last rs
    → (last' : ℕ) × (more : List WordRecord) × (statuses_in rs ≡ statuses_in more) × Good until es last' more
unfolding is_word
words_status {last = last} {rs = rs} zero back = (last, rs, refl, back)
words_status (suc n) (word {r = r} {rs = more} is rest) =
    let again = words_status n rest in
    (again.0, again.1, rw (is.valid, is.sync) again.2, again.3)

-- the status of a command that is not to all terminals came
back_status : {until last : ℕ} {rs : List WordRecord} (w : ℕ) → is_broadcast w ≡ false → Good until (back_of w) last rs
    → (r : WordRecord) × (more : List WordRecord) × (statuses_in rs ≡ r ∷ more) × (address_of r.word ≡ address_of w)
unfolding back_of
back_status w one back = let came = first_status (rw one at back) in (came.0, statuses_in came.1, came.2, came.3)

-- a status is from the address of the first, whether another came or not
from_first : (r : WordRecord) (more : List WordRecord) (address : ℕ) → address_of r.word ≡ address → is_from (statuses_by (r ∷ more)) address ≡ true
unfolding is_from
from_first r [] address from = eq-eqb (address_of r.word) address from
from_first r (x ∷ more) address from = rw (eq-eqb (address_of r.word) address from)

from_second : (r x : WordRecord) (more : List WordRecord) (address : ℕ) → address_of x.word ≡ address → is_from (statuses_by (r ∷ x ∷ more)) address ≡ true
unfolding is_from
from_second r x more address from =
    rw (eq-eqb (address_of x.word) address from) (or-true (eqb (address_of r.word) address))

-- a command to that address, which is not 31, is not to all terminals
not_to_all : (w address : ℕ) → eqb (address_of w) address ≡ true → eqb address 31 ≡ false → is_broadcast w ≡ false
not_to_all w address to one = rw (eqb-true (address_of w) address to) one

-- so each command's status came
module _ (address : ℕ) (single : eqb address 31 ≡ false) where
  told_one : {until last : ℕ} {rs : List WordRecord} (w : ℕ) → Good until (back_of w) last rs → eqb (address_of w) address ≡ true
      → is_from (statuses_by (statuses_in rs)) address ≡ true
  told_one w back to =
      let came = back_status w (not_to_all w address to single) back in
      rw came.2 (from_first came.0 came.1 address (came.3 ∙ eqb-true (address_of w) address to))

  told_two : {until last : ℕ} {rs : List WordRecord} (w second : ℕ) → Good until (part_of second ++ back_of w) last rs
      → (eqb (address_of w) address || eqb (address_of second) address) ≡ true
      → is_from (statuses_by (statuses_in rs)) address ≡ true
  told_two w second back for =
      let came = first_status back in
      let after = words_status (sent_of second) came.4 in
      rw came.2
      (or_cases (eqb (address_of w) address) (eqb (address_of second) address) for
      (λ to.
      let last = back_status w (not_to_all w address to single) after.3 in
      rw (after.2, last.2) (from_second came.0 last.0 last.1 address (last.3 ∙ eqb-true (address_of w) address to)))
      (λ to. from_first came.0 (statuses_in came.1) address (came.3 ∙ eqb-true (address_of second) address to)))

module _ (first : WordRecord) (rest : List WordRecord) (until : Moment) (heard : Heard first rest until) (r : WordRecord) where
  -- it expects no status more
  good_told : expects first rest r ≡ false
  unfolding is_for expected_of
  good_told = not_expected first rest (commands_of first rest) (statuses_by (statuses_in (returned_in first rest))) refl came r (λ single. go single (commands_of first rest) heard.back)
    where
      came : statuses_of first rest ≡ statuses_by (statuses_in (returned_in first rest))
      came = ap statuses_by (own_statuses (own_number first rest) (last_command first rest).time.0 (behind_of first rest) heard.sound)

      go : is_broadcast r.word ≡ false → (cs : Commands)
          → Good (plan_with cs first.bus (own_last first rest).time until).until.0 (expected_of (plan_with cs first.bus (own_last first rest).time until))
          (plan_with cs first.bus (own_last first rest).time until).last.0 (returned_in first rest)
          → is_for cs (address_of r.word) ≡ true
          → is_from (statuses_by (statuses_in (returned_in first rest))) (address_of r.word) ≡ true
      go single (commands.One w) back for = told_one (address_of r.word) single w.0 back for
      go single (commands.Two w second) back for = told_two (address_of r.word) single w.0 second.0 back for

-- a command has at least one word
words_least : (w : ℕ) → 0 < words_of w
unfolding words_of
words_least w = cond_cases (λ (n : ℕ). 0 < n) (eqb (count_of w) 0) (λ none. omega arith) (λ some. least (count_of w) (eqb-false (count_of w) 0 some))
  where
    least : (n : ℕ) → (n ≡ 0 → ⊥) → 0 < n
    least zero some = absurd (some refl)
    least (suc n) some = omega arith

-- so a receive command that is no mode command awaits a data word
pair_awaits : (first second : ℕ) → is_pair first second ≡ true → 0 < awaited_of first
unfolding awaited_of
pair_awaits first second pair =
    let parts = pair_parts first second pair in
    rw (parts.receives, parts.plain) (words_least first)

-- nor is it one that awaits a second command
good_other : (first : WordRecord) (rest : List WordRecord) (until : Moment) → Heard first rest until → (r : WordRecord)
    → (eqb (length rest) 0 && is_second first r) ≡ false
good_other first [] until heard r = go (is_second first r) refl
  where
    go : (b : Bool) → is_second first r ≡ b → b ≡ false
    go false other = refl
    go true directly = absurd (omega (arith, pair_awaits first.word r.word (second_parts first r directly).2, heard.enough))
good_other first (x ∷ rest) until heard r = not_second first r (length rest)

last_takes : (g : Group) (r : WordRecord) (before : List Group) → takes (before ++ (g ∷ [])) r ≡ belongs (part_in g.first g.rest r)
last_takes g r [] = refl
last_takes g r (h ∷ []) = refl
last_takes g r (h ∷ k ∷ before) = last_takes g r (k ∷ before)

pub begins_an_entry : BeginsAnEntry
begins_an_entry = record {
  first = λ bus front r none. none_takes (end_time (record { 0 = 0 }) front) r (heard_on bus 0 front) (heards_on bus 0 front ∙ none);
  far = λ bus front before last r records late.
      far_takes (end_time (record { 0 = 0 }) front) r (heard_on bus 0 front) before last (heards_on bus 0 front ∙ records) late;
  good = λ bus front before g r groups until given starts.
      let heard = good_heard g.first g.rest until given in
      ap (λ (gs : List Group). takes gs r) groups
      ∙ last_takes g r before
      ∙ single_takes g.first g.rest r
      (λ command.
      command_closes g.first g.rest command r starts (good_other g.first g.rest until heard r)
      (good_told g.first g.rest until heard r));
}
