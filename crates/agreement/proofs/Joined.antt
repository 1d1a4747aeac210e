-- Which records a log puts into one message: data words back to back, a second command, and the statuses that its commands expect. Assumes nothing.
use mathlib.Core.Path.{◌≡◌, refl, sym, ap, subst, ◌∙◌}
use Prim.Native.Nat.{ℕ, suc, ◌+◌, ◌-◌, ◌≤◌, ◌<◌}
use mathlib.Core.Bool.{Bool, true, false, not, cond, ◌&&◌, and-false}
use mathlib.Core.List.{List, [], ◌∷◌, ◌++◌, append-nil, append_assoc}
use native.Mathlib.Omega.{arith}
use lib.Dec.{eqb, leb}
use lib.ListN.{length}
use borrow.Author.Tests.{lt-ltb, le-ltb, lt-leb, ne_eqb}
use Rattle.words.specs.Words.{is_spaced, is_valid, address_of, is_broadcast, due_distance, no_response_distance}
use Rattle.words.specs.declared.times.Moment.{Moment}
use Rattle.records.specs.declared.forms.WordRecord.{WordRecord}
use Rattle.history.proofs.Tests.{true≢, cond_cases}
use Rattle.verdict.specs.Facts.{listened_least}
use Rattle.monitor.specs.Entries.{is_command, is_data_word, is_second, commands_of, behind_of, statuses_in, statuses_of, is_for, is_from, expects, last_in, is_far, part_of}
use Rattle.monitor.specs.Logs.{Group, Placed, part_in, belongs, closes_at, groups_from}
use Rattle.monitor.specs.declared.entries.Commands.{Commands}
use Rattle.monitor.specs.declared.entries.Commands.TheVariants.{One}
use Rattle.monitor.specs.declared.entries.Statuses.{Statuses}
use Rattle.monitor.proofs.Appends.{snoc, last_snoc}
use Rattle.monitor.proofs.Counts.{heards}
use Rattle.agreement.specs.Agreement.{BackToBack}
use Rattle.agreement.specs.Logged.{Closed, by_command, by_far, at_end}
use Rattle.agreement.proofs.Heard.{data_valid, spaced_apart}
use Rattle.monitor.specs.Entries.{is_word}

-- ---- records that all belong to an open message

-- records each of which is part of the message, by what it is to those before it
abbrev pub Joins : WordRecord → List WordRecord → List WordRecord → Type 0
Joins first rest [] = Unit {0}
Joins first rest (r ∷ rs) = (belongs (part_in first rest r) ≡ true) × Joins first (snoc rest r) rs

-- they are put behind those that it has
module _ (end : Moment) (place : ℕ) (first : WordRecord) where
  joined_one : (rest : List WordRecord) (p : Placed) (ps : List Placed) → belongs (part_in first rest p.heard) ≡ true
      → groups_from end place first rest (p ∷ ps) ≡ groups_from end place first (snoc rest p.heard) ps
  unfolding groups_from
  joined_one rest p ps joins = rw joins

  pub joined_groups : (rs rest more : List WordRecord) (ps : List Placed) → heards ps ≡ rs ++ more → Joins first rest rs
      → (qs : List Placed) × (heards qs ≡ more) × (groups_from end place first rest ps ≡ groups_from end place first (rest ++ rs) qs)
  joined_groups [] rest more ps e joins =
      (ps, e, ap (λ (l : List WordRecord). groups_from end place first l ps) (sym (append-nil rest)))
  joined_groups (r ∷ rs) rest more [] e joins = absurd (omega (arith, ap length e))
  joined_groups (r ∷ rs) rest more (p ∷ ps) e joins =
      let head : p.heard ≡ r = cc in
      let tail : heards ps ≡ rs ++ more = cc in
      let again = joined_groups rs (snoc rest r) more ps tail joins.1 in (
        again.0,
        again.1,
        joined_one rest p ps (rw head joins.0)
            ∙ ap (λ (x : WordRecord). groups_from end place first (snoc rest x) ps) head
            ∙ again.2
            ∙ ap (λ (l : List WordRecord). groups_from end place first l again.0) (append_assoc rest (r ∷ []) rs),
      )

-- ---- a data word

-- is no command
pub data_not_command : (d : WordRecord) → is_data_word d ≡ true → is_command d ≡ false
unfolding is_word
data_not_command d h = rw (data_valid d h).1 (and-false (is_valid 1 d.faults d.word d.parity))

module _ (bus : ℕ) (first : WordRecord) (command : is_command first ≡ true) where
  -- directly after the last record it belongs to the message
  data_belongs : (rest : List WordRecord) (d : WordRecord) → is_data_word d ≡ true → is_spaced (last_in first rest).time.0 d.time.0 ≡ true
      → belongs (part_in first rest d) ≡ true
  unfolding part_in part_of is_far
  data_belongs rest d word spaced =
      let near = spaced_apart (last_in first rest).time.0 d.time.0 spaced in
      rw (command, le-ltb 320 (d.time.0 - (last_in first rest).time.0) (omega (arith, near.1)), data_not_command d word)

  -- so do data words back to back, whatever follows
  pub data_joins : (ds rest more : List WordRecord) → BackToBack bus (last_in first rest).time.0 ds → Joins first (rest ++ ds) more
      → Joins first rest (ds ++ more)
  data_joins [] rest more spaced joins = subst (λ (l : List WordRecord). Joins first l more) (append-nil rest) joins
  data_joins (d ∷ ds) rest more spaced joins = (
    data_belongs rest d spaced.1 spaced.2,
    data_joins ds (snoc rest d) more
        (subst (λ (r : WordRecord). BackToBack bus r.time.0 ds) (sym (last_snoc first rest d)) spaced.3)
        (subst (λ (l : List WordRecord). Joins first l more) (sym (append_assoc rest (d ∷ []) ds)) joins),
  )

-- ---- a message of one command

-- no second command directly behind the first
abbrev pub Alone : WordRecord → List WordRecord → Type 0
Alone first [] = Unit {0}
Alone first (r ∷ rs) = is_second first r ≡ false

pub data_alone : (bus t : ℕ) (first : WordRecord) (ds : List WordRecord) → BackToBack bus t ds → Alone first ds
unfolding is_second
data_alone bus t first [] spaced = tt
data_alone bus t first (d ∷ ds) spaced = rw (data_not_command d spaced.1)

late_not_spaced : (before after : ℕ) → before + due_distance ≤ after → is_spaced before after ≡ false
unfolding is_spaced
late_not_spaced before after late = rw (lt-leb (after - before) 205 (omega (arith, late))) (and-false (leb 195 (after - before)))

-- a command as late as an answer is no second one
pub late_alone : (first r : WordRecord) → first.time.0 + due_distance ≤ r.time.0 → is_second first r ≡ false
unfolding is_second
late_alone first r late = rw (late_not_spaced first.time.0 r.time.0 late, and-false (is_command r))

pub alone_commands : (first : WordRecord) (rest : List WordRecord) → Alone first rest → commands_of first rest ≡ One (record { 0 = first.word })
alone_commands first [] alone = refl
alone_commands first (r ∷ rs) alone = rw alone

pub alone_behind : (first : WordRecord) (rest : List WordRecord) → Alone first rest → behind_of first rest ≡ rest
alone_behind first [] alone = refl
alone_behind first (r ∷ rs) alone = rw alone

-- ---- the statuses

-- data words back to back are none
pub data_statuses : (bus t : ℕ) (ds more : List WordRecord) → BackToBack bus t ds → statuses_in (ds ++ more) ≡ statuses_in more
data_statuses bus t [] more spaced = refl
data_statuses bus t (d ∷ ds) more spaced = rw (data_not_command d spaced.1) (data_statuses bus d.time.0 ds more spaced.3)

-- which one is expected
module _ (first : WordRecord) (rest : List WordRecord) (cs : Commands) (ss : Statuses) (commands : commands_of first rest ≡ cs)
    (statuses : statuses_of first rest ≡ ss) (r : WordRecord) where
  -- one of an address with a command and without a status, which is not 31
  pub is_expected : is_broadcast r.word ≡ false → is_for cs (address_of r.word) ≡ true → is_from ss (address_of r.word) ≡ false
      → expects first rest r ≡ true
  unfolding expects
  is_expected single for none = rw (commands, statuses, single, for, none)

  -- and no other
  pub not_expected : (is_broadcast r.word ≡ false → is_for cs (address_of r.word) ≡ true → is_from ss (address_of r.word) ≡ true)
      → expects first rest r ≡ false
  unfolding expects
  not_expected told = rw (commands, statuses) (go (is_broadcast r.word) (is_for cs (address_of r.word)) (is_from ss (address_of r.word)) told)
    where
      go : (a b c : Bool) → (a ≡ false → b ≡ true → c ≡ true) → (not a && b && not c) ≡ false
      go true b c told = refl
      go false true true told = refl
      go false true false told = true≢ (sym (told refl refl))
      go false false c told = refl

-- a record behind others is no second command
pub not_second : (first : WordRecord) (r : WordRecord) (n : ℕ) → (eqb (suc n) 0 && is_second first r) ≡ false
not_second first r n = rw (ne_eqb (suc n) 0 (λ z. omega (arith, z)))

-- a word with command sync that is expected belongs to the message, where it comes in time and is no second command
pub status_belongs : (first : WordRecord) (rest : List WordRecord) (r : WordRecord) → is_command first ≡ true → is_command r ≡ true
    → r.time.0 - (last_in first rest).time.0 ≤ no_response_distance
    → (eqb (length rest) 0 && is_second first r) ≡ false
    → expects first rest r ≡ true
    → belongs (part_in first rest r) ≡ true
unfolding part_in part_of is_far
status_belongs first rest r command status near other expected =
    rw (command, le-ltb 320 (r.time.0 - (last_in first rest).time.0) near, status, other, expected)

-- ---- the end of the message

neither : {A : Type 0} (f : A → Bool) (b : Bool) {x y : A} → f x ≡ false → f y ≡ false → f (cond b x y) ≡ false
neither f true p q = p
neither f false p q = q

module _ (first : WordRecord) (rest : List WordRecord) (command : is_command first ≡ true) where
  -- one that is not expected belongs to another
  pub command_closes : (r : WordRecord) → is_command r ≡ true → (eqb (length rest) 0 && is_second first r) ≡ false → expects first rest r ≡ false
      → belongs (part_in first rest r) ≡ false
  unfolding part_in part_of
  command_closes r starts other told =
      rw (command, starts, other, told) (neither belongs (is_far first rest r) refl refl)

  -- so does a record more than 320 ticks after the last
  pub far_closes : (r : WordRecord) → (last_in first rest).time.0 + no_response_distance < r.time.0 → belongs (part_in first rest r) ≡ false
  unfolding part_in part_of is_far
  far_closes r late = rw (command, lt-ltb 320 (r.time.0 - (last_in first rest).time.0) (omega (arith, late)))

  -- either closes it, once the controller has listened long enough
  closes_late : (r : WordRecord) → (last_in first rest).time.0 + listened_least ≤ r.time.0
      → (last_in first rest).time.0 + listened_least ≤ (closes_at first rest r).0
  unfolding closes_at
  closes_late r late =
      cond_cases (λ (m : Moment). (last_in first rest).time.0 + listened_least ≤ m.0) (is_far first rest r) (λ far. omega arith) (λ near. late)

  -- the message is the next entry, up to such a Q
  abbrev Ends : Moment → ℕ → List Placed → Type 0
  Ends end place ps =
      (until : Moment) × (gs : List Group)
      × (groups_from end place first rest ps ≡ record { place = place; first = first; rest = rest; until = until } ∷ gs)
      × ((last_in first rest).time.0 + listened_least ≤ until.0)

  closed_by : (end : Moment) (place : ℕ) (p : Placed) (ps : List Placed) → belongs (part_in first rest p.heard) ≡ false
      → (last_in first rest).time.0 + listened_least ≤ p.heard.time.0
      → Ends end place (p ∷ ps)
  unfolding groups_from
  closed_by end place p ps closes late =
      (closes_at first rest p.heard, groups_from end p.place p.heard [] ps, rw closes, closes_late p.heard late)

  pub closed_groups : (end : Moment) (place : ℕ) → ((r : WordRecord) → (eqb (length rest) 0 && is_second first r) ≡ false)
      → ((r : WordRecord) → expects first rest r ≡ false)
      → (ps : List Placed) (behind : List WordRecord) → heards ps ≡ behind → Closed (last_in first rest).time.0 end behind
      → Ends end place ps
  unfolding groups_from
  closed_groups end place other told [] behind e (at_end late) = (end, [], refl, late)
  closed_groups end place other told (p ∷ ps) behind e (at_end late) = absurd (omega (arith, ap length e))
  closed_groups end place other told [] behind e (by_command r rs starts late) = absurd (omega (arith, ap length e))
  closed_groups end place other told (p ∷ ps) behind e (by_command r rs starts late) =
      let same : p.heard ≡ r = cc in
      closed_by end place p ps (rw same (command_closes r starts (other r) (told r))) (rw same late)
  closed_groups end place other told [] behind e (by_far r rs late) = absurd (omega (arith, ap length e))
  closed_groups end place other told (p ∷ ps) behind e (by_far r rs late) =
      let same : p.heard ≡ r = cc in
      closed_by end place p ps (rw same (far_closes r late)) (rw same (omega (arith, late)))
