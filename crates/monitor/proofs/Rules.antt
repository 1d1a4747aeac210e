-- The verdict of an entry is what document 01 gives for its plan and its returned records, handed over as bytes. Assumes nothing.
use Rattle.std.proofs.Common.{◌≡◌, ℕ, zero, suc, ◌+◌, ◌^◌, ◌<◌, ◌≤◌, Bool, true, false, cond, not, ◌||◌, eqb, List, [], ◌∷◌, ◌++◌, length, take, drop, sym, refl, ap, ◌∙◌, subst, ⊎_elim, append_assoc, eq-or-lt_of_le, arith, length-append, drop_at, lt-ltb, eq-eqb, ne_eqb, eqb-true, le-leb}
use Rattle.std.proofs.lemmas.Bool.{or_parts}
use Rattle.std.proofs.lemmas.Option.{same_Some}
use Rattle.std.specs.Prelude.{Some, None, Ok}
use borrow.Author.Tests.{eqb-false, not-false}
use Rattle.words.specs.declared.times.Moment.{Moment}
use Rattle.records.specs.Records.{last_bus, form_of}
use Rattle.records.specs.Files.{whole, with, forms_of}
use Rattle.records.specs.Theorems.{Fits}
use Rattle.records.specs.declared.forms.WordRecord.{WordRecord}
use Rattle.records.proofs.Ranges.{in_range_time, in_range_bus}
use Rattle.records.proofs.Theorems.{read_written}
use Rattle.verdict.specs.Plans.{is_possible, plan_checks}
use Rattle.verdict.specs.Verdicts.{record_checks, returned_from, returned_of, finding_of, verdict_of, judged_of}
use Rattle.verdict.specs.Theorems.{last_after}
use Rattle.verdict.specs.declared.plans.Plan.{Plan}
use Rattle.verdict.specs.declared.judges.Finding.{Finding}
use Rattle.verdict.proofs.Findings.{taken_given}
use Rattle.verdict.proofs.Refusals.{not_refused_ok, plan_accepted}
use Rattle.monitor.specs.Entries.{is_second, commands_of, last_command, behind_of, last_in, is_far, own_number, own_bad, own_last, returned_in, has_twins, plan_of, outcome_in}
use Rattle.monitor.specs.Logs.{Group, Placed, heard_on, part_in, belongs, closes_at, groups_from, groups_of, groups_on, end_time}
use Rattle.monitor.specs.Theorems.{on_bus, Each, Written, ByTheRules, VerdictOfTheRules}
use Rattle.monitor.proofs.Appends.{last_time, last_split}
use Rattle.monitor.proofs.Summaries.{last_behind, own_last_lem, plan_bus, plan_until}
use Rattle.monitor.proofs.Groups.{far_later}
use Rattle.monitor.proofs.Counts.{heards, heards_on}

-- ---- records of one bus, none earlier than the one before it

abbrev Chain : ℕ → ℕ → List WordRecord → Type 0
Chain bus t [] = Unit {0}
Chain bus t (r ∷ rs) = Fits last_bus r × (r.bus ≡ bus) × (t ≤ r.time.0) × Chain bus r.time.0 rs

chain_less : (bus t less : ℕ) (rs : List WordRecord) → less ≤ t → Chain bus t rs → Chain bus less rs
chain_less bus t less [] l chain = tt
chain_less bus t less (r ∷ rs) l chain = (chain.0, chain.1, omega (arith, chain.2), chain.3)

chain_on : (bus : ℕ) (rs : List WordRecord) (t : ℕ) → Written t rs → Chain bus t (on_bus bus rs)
chain_on bus [] t written = tt
chain_on bus (r ∷ rs) t written = go (eqb r.bus bus) refl (chain_on bus rs r.time.0 written.2)
  where
    go : (b : Bool) → eqb r.bus bus ≡ b → Chain bus r.time.0 (on_bus bus rs) → Chain bus t (cond b (r ∷ on_bus bus rs) (on_bus bus rs))
    go true h again = (written.0, eqb-true r.bus bus h, written.1, again)
    go false h again = chain_less bus r.time.0 t (on_bus bus rs) written.1 again

chain_front : (bus : ℕ) (xs ys : List WordRecord) (t : ℕ) → Chain bus t (xs ++ ys) → Chain bus t xs
chain_front bus [] ys t chain = tt
chain_front bus (x ∷ xs) ys t chain = (chain.0, chain.1, chain.2, chain_front bus xs ys x.time.0 chain.3)

chain_rest : (bus : ℕ) (xs ys : List WordRecord) (t : ℕ) → Chain bus t (xs ++ ys) → Chain bus (last_after t xs) ys
chain_rest bus [] ys t chain = chain
chain_rest bus (x ∷ xs) ys t chain = chain_rest bus xs ys x.time.0 chain.3

chain_last : (bus : ℕ) (rs : List WordRecord) (t : ℕ) → Chain bus t rs → t ≤ last_after t rs
chain_last bus [] t chain = omega arith
chain_last bus (r ∷ rs) t chain = omega (arith, chain.2, chain_last bus rs r.time.0 chain.3)

last_append : (xs ys : List WordRecord) (t : ℕ) → last_after t (xs ++ ys) ≡ last_after (last_after t xs) ys
last_append [] ys t = refl
last_append (x ∷ xs) ys t = last_append xs ys x.time.0

-- the file's last record is not earlier than the bus's last, and on the clock
end_late : (bus : ℕ) (rs : List WordRecord) (t : ℕ) (m : Moment) → t ≤ m.0 → Written m.0 rs → last_after t (on_bus bus rs) ≤ (end_time m rs).0
end_late bus [] t m l written = l
end_late bus (r ∷ rs) t m l written =
    go (eqb r.bus bus) (end_late bus rs r.time.0 r.time (omega arith) written.2) (end_late bus rs t r.time (omega (arith, l, written.1)) written.2)
  where
    go : (b : Bool) → last_after r.time.0 (on_bus bus rs) ≤ (end_time r.time rs).0 → last_after t (on_bus bus rs) ≤ (end_time r.time rs).0
        → last_after t (cond b (r ∷ on_bus bus rs) (on_bus bus rs)) ≤ (end_time r.time rs).0
    go true own other = own
    go false own other = other

end_clock : (rs : List WordRecord) (m : Moment) → m.0 < 2 ^ 48 → Written m.0 rs → (end_time m rs).0 < 2 ^ 48
end_clock [] m l written = l
end_clock (r ∷ rs) m l written = end_clock rs r.time (in_range_time last_bus r written.0.ranged) written.2

-- ---- so are those of a group, and Q is not earlier

pub record Sound (bus : ℕ) (g : Group) : Type 0 where
  pub chain : Chain bus 0 (g.first ∷ g.rest)
  pub late : last_after g.first.time.0 g.rest ≤ g.until.0
  pub clock : g.until.0 < 2 ^ 48

closes_late : (bus : ℕ) (first : WordRecord) (rest : List WordRecord) (r : WordRecord) → Fits last_bus r → last_after first.time.0 rest ≤ r.time.0
    → (last_after first.time.0 rest ≤ (closes_at first rest r).0) × ((closes_at first rest r).0 < 2 ^ 48)
unfolding closes_at
closes_late bus first rest r fits l = go (is_far first rest r) refl
  where
    go : (b : Bool) → is_far first rest r ≡ b
        → (last_after first.time.0 rest ≤ (cond b (record { 0 = (last_in first rest).time.0 + 320 }) r.time).0)
        × ((cond b (record { 0 = (last_in first rest).time.0 + 320 }) r.time).0 < 2 ^ 48)
    go true h = (omega (arith, last_time first rest), omega (arith, far_later first rest r h, in_range_time last_bus r fits.ranged))
    go false h = (l, in_range_time last_bus r fits.ranged)

sound_from : (bus : ℕ) (ps : List Placed) (end : Moment) (place : ℕ) (first : WordRecord) (rest : List WordRecord)
    → Chain bus 0 (first ∷ (rest ++ heards ps)) → last_after first.time.0 (rest ++ heards ps) ≤ end.0 → end.0 < 2 ^ 48
    → Each (Sound bus) (groups_from end place first rest ps)
unfolding groups_from
sound_from bus [] end place first rest chain late clock = (
  record {
    chain = (chain.0, chain.1, chain.2, chain_front bus rest [] first.time.0 chain.3);
    late = omega (arith, late, last_append rest [] first.time.0);
    clock = clock;
  },
  tt,
)
sound_from bus (p ∷ ps) end place first rest chain late clock =
    go (belongs (part_in first rest p.heard))
    (sound_from bus ps end place first (rest ++ (p.heard ∷ []))
    (subst (λ (l : List WordRecord). Chain bus 0 (first ∷ l)) (sym (append_assoc rest (p.heard ∷ []) (heards ps))) chain)
    (omega (arith, late, ap (last_after first.time.0) (append_assoc rest (p.heard ∷ []) (heards ps)))) clock)
    (sound_from bus ps end p.place p.heard [] (chain_less bus (last_after first.time.0 rest) 0 (p.heard ∷ heards ps) (omega arith) behind)
    (omega (arith, late, last_append rest (p.heard ∷ heards ps) first.time.0)) clock)
  where
    behind : Chain bus (last_after first.time.0 rest) (p.heard ∷ heards ps)
    behind = chain_rest bus rest (p.heard ∷ heards ps) first.time.0 chain.3

    this : Sound bus (record { place = place; first = first; rest = rest; until = closes_at first rest p.heard })
    this =
        let closes = closes_late bus first rest p.heard behind.0 behind.2 in
        record { chain = (chain.0, chain.1, chain.2, chain_front bus rest (p.heard ∷ heards ps) first.time.0 chain.3); late = closes.0; clock = closes.1 }

    go : (b : Bool) → Each (Sound bus) (groups_from end place first (rest ++ (p.heard ∷ [])) ps) → Each (Sound bus) (groups_from end p.place p.heard [] ps)
        → Each (Sound bus)
        (cond b (groups_from end place first (rest ++ (p.heard ∷ [])) ps)
        (record { place = place; first = first; rest = rest; until = closes_at first rest p.heard } ∷ groups_from end p.place p.heard [] ps))
    go true joins begins = joins
    go false joins begins = (this, begins)

sound_of : (bus : ℕ) (ps : List Placed) (end : Moment) → Chain bus 0 (heards ps) → last_after 0 (heards ps) ≤ end.0 → end.0 < 2 ^ 48 → Each (Sound bus) (groups_of end ps)
sound_of bus [] end chain late clock = tt
sound_of bus (p ∷ ps) end chain late clock = sound_from bus ps end p.place p.heard [] chain late clock

sound_on : (rs : List WordRecord) → Written 0 rs → (bus : ℕ) → Each (Sound bus) (groups_on bus rs)
sound_on rs written bus =
    let own = sym (heards_on bus 0 rs) in
    sound_of bus (heard_on bus 0 rs) (end_time (record { 0 = 0 }) rs)
    (subst (Chain bus 0) own (chain_on bus rs 0 written))
    (subst (λ (l : List WordRecord). last_after 0 l ≤ (end_time (record { 0 = 0 }) rs).0) own (end_late bus rs 0 (record { 0 = 0 }) (omega arith) written))
    (end_clock rs (record { 0 = 0 }) (omega arith) written)

-- ---- without twins each is later than the one before

abbrev Strict : ℕ → ℕ → List WordRecord → Type 0
Strict bus t [] = Unit {0}
Strict bus t (r ∷ rs) = Fits last_bus r × (r.bus ≡ bus) × (t < r.time.0) × Strict bus r.time.0 rs

later : (m n : ℕ) → m ≤ n → eqb n m ≡ false → m < n
later m n l differ = ⊎_elim (λ same. absurd (eqb-false n m differ (sym same))) (λ below. below) (eq-or-lt_of_le l)

strict : (bus : ℕ) (rest : List WordRecord) (first : WordRecord) → has_twins first rest ≡ false → Chain bus first.time.0 rest → Strict bus first.time.0 rest
strict bus [] first alone chain = tt
strict bus (r ∷ rest) first alone chain =
    let parts = or_parts (eqb r.time.0 first.time.0) (has_twins r rest) alone in
    (chain.0, chain.1, later first.time.0 r.time.0 chain.2 parts.0, strict bus rest r parts.1 chain.3)

-- so are those behind the commands, and those that are returned
strict_behind : (bus : ℕ) (first : WordRecord) (rest : List WordRecord) → Strict bus first.time.0 rest → Strict bus (last_command first rest).time.0 (behind_of first rest)
strict_behind bus first [] all = tt
strict_behind bus first (r ∷ rest) all = go (is_second first r)
  where
    go : (b : Bool) → Strict bus (cond b r first).time.0 (cond b rest (r ∷ rest))
    go true = all.3
    go false = all

strict_drop : (bus n t : ℕ) (rs : List WordRecord) → Strict bus t rs → Strict bus (last_after t (take n rs)) (drop n rs)
strict_drop bus zero t rs all = all
strict_drop bus (suc n) t [] all = tt
strict_drop bus (suc n) t (r ∷ rs) all = strict_drop bus n r.time.0 rs all.3

strict_last : (bus : ℕ) (rs : List WordRecord) (t : ℕ) → Strict bus t rs → t ≤ last_after t rs
strict_last bus [] t all = omega arith
strict_last bus (r ∷ rs) t all = omega (arith, all.2, strict_last bus rs r.time.0 all.3)

-- ---- document 01 takes them all

taken : (plan : Plan) (bus t : ℕ) (r : WordRecord) → plan.bus ≡ bus → r.bus ≡ bus → t < r.time.0 → r.time.0 ≤ plan.until.0 → record_checks plan t r ≡ Ok tt
unfolding record_checks
taken plan bus t r p b l m = rw (eq-eqb r.bus plan.bus (b ∙ sym p), lt-ltb t r.time.0 l, le-leb r.time.0 plan.until.0 m)

returned_some : (n : ℕ) (plan : Plan) (t : ℕ) (r : WordRecord) (after : List ℕ) → Fits last_bus r → record_checks plan t r ≡ Ok tt
    → returned_from (suc n) plan t (form_of r ++ after) ≡ with r (returned_from n plan r.time.0 after)
unfolding returned_from
returned_some n plan t r after fits ok =
    rw (ne_eqb (length (form_of r ++ after)) 0 (λ z. omega (arith, z, length-append (form_of r) after)), read_written last_bus r after fits, ok)
    (ap (λ (k : List ℕ). with r (returned_from n plan r.time.0 k)) (drop_at (form_of r) after 16 refl))

returned_none : (n : ℕ) (plan : Plan) (t : ℕ) → returned_from n plan t [] ≡ whole []
unfolding returned_from
returned_none zero plan t = refl
returned_none (suc n) plan t = refl

returned_all : (rs : List WordRecord) (n : ℕ) (plan : Plan) (bus t : ℕ) → length (forms_of rs) ≤ n → plan.bus ≡ bus → Strict bus t rs → last_after t rs ≤ plan.until.0
    → returned_from n plan t (forms_of rs) ≡ whole rs
unfolding forms_of
returned_all [] n plan bus t l p all late = returned_none n plan t
returned_all (r ∷ rs) zero plan bus t l p all late = absurd (omega (arith, l, length-append (form_of r) (forms_of rs)))
returned_all (r ∷ rs) (suc n) plan bus t l p all late =
    returned_some n plan t r (forms_of rs) all.0
    (taken plan bus t r p all.1 all.2 (omega (arith, late, strict_last bus rs r.time.0 all.3)))
    ∙ ap (with r) (returned_all rs n plan bus r.time.0 (omega (arith, l, length-append (form_of r) (forms_of rs))) p all.3 late)

-- ---- the verdict

module _ (bus : ℕ) (g : Group) (sound : Sound bus g) where
  abbrev first : WordRecord
  first = g.first

  abbrev rest : List WordRecord
  rest = g.rest

  abbrev plan : Plan
  plan = plan_of first rest g.until

  abbrev returned : List WordRecord
  returned = returned_in first rest

  until_same : plan.until.0 ≡ g.until.0
  until_same = ap (λ (m : Moment). m.0) (plan_until (commands_of first rest) first.bus (own_last first rest).time g.until)

  bus_same : plan.bus ≡ bus
  bus_same = plan_bus (commands_of first rest) first.bus (own_last first rest).time g.until ∙ sound.chain.1

  -- the last returned record is the entry's last
  last_same : last_after plan.last.0 returned ≡ last_after first.time.0 rest
  last_same =
      ap (λ (t : ℕ). last_after t returned) (own_last_lem first rest g.until)
      ∙ last_split (own_number first rest) (last_command first rest).time.0 (behind_of first rest)
      ∙ sym (last_behind first rest)
      ∙ last_time first rest

  all_later : has_twins first rest ≡ false → Strict bus plan.last.0 returned
  all_later alone =
      subst (λ (t : ℕ). Strict bus t returned) (sym (own_last_lem first rest g.until))
      (strict_drop bus (own_number first rest) (last_command first rest).time.0 (behind_of first rest) (strict_behind bus first rest (strict bus rest first alone sound.chain.3)))

  rules_give : is_possible plan ≡ true → has_twins first rest ≡ false → judged_of plan (forms_of returned) ≡ Ok (finding_of plan returned)
  unfolding returned_of
  rules_give possible alone =
      let all = all_later alone in
      let order = strict_last bus returned plan.last.0 all in
      taken_given plan (forms_of returned) returned
      (not_refused_ok (plan_checks plan) (plan_accepted plan possible (omega (arith, bus_same, sound.chain.1, in_range_bus last_bus first sound.chain.0.ranged)) (omega (arith, order, last_same, sound.late, until_same))
      (omega (arith, until_same, sound.clock))))
      (returned_all returned (length (forms_of returned)) plan bus plan.last.0 (omega arith) bus_same all (omega (arith, last_same, sound.late, until_same)))

  by_the_rules : ByTheRules g
  unfolding outcome_in
  by_the_rules v e = go (not (is_possible plan) || own_bad first rest || has_twins first rest) refl e
    where
      go : (b : Bool) → (not (is_possible plan) || own_bad first rest || has_twins first rest) ≡ b
          → cond b None (Some (verdict_of plan returned)) ≡ Some v
          → (f : Finding) × (judged_of plan (forms_of returned) ≡ Ok f) × (f.verdict ≡ v)
      go true h e = absurd (cc)
      go false h e =
          let outer = or_parts (not (is_possible plan) || own_bad first rest) (has_twins first rest) h in
          let inner = or_parts (not (is_possible plan)) (own_bad first rest) outer.0 in
          (finding_of plan returned, rules_give (not-false (is_possible plan) inner.0) outer.1, same_Some (verdict_of plan returned) v e)

all_by_the_rules : (bus : ℕ) (gs : List Group) → Each (Sound bus) gs → Each ByTheRules gs
all_by_the_rules bus [] each = tt
all_by_the_rules bus (g ∷ gs) each = (by_the_rules bus g each.0, all_by_the_rules bus gs each.1)

pub verdict_of_the_rules : VerdictOfTheRules
verdict_of_the_rules rs written bus = all_by_the_rules bus (groups_on bus rs) (sound_on rs written bus)
