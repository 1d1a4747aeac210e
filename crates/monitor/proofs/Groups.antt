-- One bus's walk over records gives the entries of its groups. Assumes nothing.
use Rattle.std.proofs.Common.{◌≡◌, ℕ, suc, ◌+◌, ◌^◌, ◌<◌, ◌≤◌, Bool, true, false, cond, not, ◌&&◌, eqb, List, [], ◌∷◌, ◌++◌, length, sym, refl, ap, ◌∙◌, true≢false, arith, length-append, ltb-true, ne_eqb}
use Rattle.std.specs.Prelude.{Option, Some, None}
use Rattle.words.specs.Words.{since_of}
use Rattle.words.specs.declared.times.Moment.{Moment}
use Rattle.words.proofs.Sums.{plus_fits}
use Rattle.records.specs.declared.forms.WordRecord.{WordRecord}
use Rattle.monitor.specs.Entries.{is_command, is_second, last_in, is_far, expects, part_of, message_of, entry_of}
use Rattle.monitor.specs.Logs.{heard_on, part_in, belongs, closes_at, groups_from, groups_of, end_time, entries_of, entries_on}
use Rattle.monitor.specs.Machine.{next64, opened_by, walk_start, standing_from, found_where, found_at, begun_with, passed_with, joined_by, heard_as, heard_message, heard_where, heard_by}
use Rattle.monitor.specs.Theorems.{Each}
use Rattle.monitor.specs.declared.entries.Logged.{Logged}
use Rattle.monitor.specs.declared.entries.Message.{Message}
use Rattle.monitor.specs.declared.entries.Entry.TheVariants as entry
use Rattle.monitor.specs.declared.openings.Opening.{Opening}
use Rattle.monitor.specs.declared.openings.Part.{Part}
use Rattle.monitor.specs.declared.openings.Part.TheVariants.{Far, Starts, Second, Status, Other}
use Rattle.monitor.specs.declared.walks.Standing.{Standing}
use Rattle.monitor.specs.declared.walks.Standing.TheVariants as standing
use Rattle.monitor.specs.declared.walks.Walk.{Walk}
use Rattle.monitor.specs.declared.walks.Stop.TheVariants as stop
use Rattle.monitor.specs.declared.walks.Side.{Side}
use Rattle.monitor.proofs.Appends.{snoc}
use Rattle.monitor.proofs.Summaries.{opening_of, opened, next_fits, stays, joined_status, joined_other, joined_second, same_part, same_message}

-- the entry that was found
abbrev pub given : Option Logged → List Logged
given None = []
given (Some e) = e ∷ []

-- a record of either bus, and all of them up to the end
abbrev pub step_by : Walk → WordRecord → Side
step_by w r = cond (eqb r.bus w.bus) (heard_by w r) (passed_with w w.standing r)

abbrev pub walk_over : Walk → List WordRecord → List Logged
walk_over w [] = given (found_at w w.clock)
walk_over w (r ∷ rs) = given (step_by w r).found ++ walk_over (step_by w r).walk rs

-- their times fit 64 bits
abbrev pub Fit : List WordRecord → Type 0
Fit rs = Each (λ (r : WordRecord). r.time.0 < 2 ^ 64) rs

-- ---- what is known of a record by what it is to an entry

pub data Known (first : WordRecord) (rest : List WordRecord) (r : WordRecord) : Part → Type 0 where
  far : is_far first rest r ≡ true → Known first rest r Far
  starts : is_far first rest r ≡ false → Known first rest r Starts
  second : (eqb (length rest) 0 && is_second first r) ≡ true → Known first rest r Second
  status : is_command r ≡ true → (eqb (length rest) 0 && is_second first r) ≡ false → expects first rest r ≡ true → Known first rest r Status
  other : is_command r ≡ false → Known first rest r Other

pub known : (first : WordRecord) (rest : List WordRecord) (r : WordRecord) → Known first rest r (part_of first rest r)
unfolding part_of
known first rest r = by_far (is_far first rest r) refl
  where
    by_expects : is_far first rest r ≡ false → is_command r ≡ true → (eqb (length rest) 0 && is_second first r) ≡ false
        → (b : Bool) → expects first rest r ≡ b → Known first rest r (cond b Status Starts)
    by_expects f c s true e = status c s e
    by_expects f c s false e = starts f

    by_second : is_far first rest r ≡ false → is_command r ≡ true → (b : Bool) → (eqb (length rest) 0 && is_second first r) ≡ b
        → Known first rest r (cond b Second (cond (expects first rest r) Status Starts))
    by_second f c true s = second s
    by_second f c false s = by_expects f c s (expects first rest r) refl

    by_command : is_far first rest r ≡ false → (b : Bool) → is_command r ≡ b
        → Known first rest r (cond (not b) Other (cond (eqb (length rest) 0 && is_second first r) Second (cond (expects first rest r) Status Starts)))
    by_command f true c = by_second f c (eqb (length rest) 0 && is_second first r) refl
    by_command f false c = other c

    by_far : (b : Bool) → is_far first rest r ≡ b
        → Known first rest r
        (cond b Far (cond (not (is_command r)) Other (cond (eqb (length rest) 0 && is_second first r) Second (cond (expects first rest r) Status Starts))))
    by_far true f = far f
    by_far false f = by_command f (is_command r) refl

pub far_later : (first : WordRecord) (rest : List WordRecord) (r : WordRecord) → is_far first rest r ≡ true → 320 < since_of (last_in first rest).time.0 r.time.0
unfolding is_far
far_later first rest r h = ltb-true 320 (since_of (last_in first rest).time.0 r.time.0) h

-- a second command comes directly after the first
pub second_first : (first x : WordRecord) (rest : List WordRecord) (r : WordRecord) → (eqb (length (x ∷ rest)) 0 && is_second first r) ≡ true → ⊥
second_first first x rest r h = true≢false (sym h ∙ ap (λ (b : Bool). b && is_second first r) (ne_eqb (suc (length rest)) 0 (λ z. omega (arith, z))))

joined_second_any : (first : WordRecord) (rest : List WordRecord) (r : WordRecord) → (eqb (length rest) 0 && is_second first r) ≡ true
    → joined_by (opening_of first rest) Second r ≡ opening_of first (snoc rest r)
joined_second_any first [] r h = joined_second first r h
joined_second_any first (x ∷ rest) r h = absurd (second_first first x rest r h)

-- a record that is no command is no second one
pub not_second : (first : WordRecord) (rest : List WordRecord) (r : WordRecord) → is_command r ≡ false → (eqb (length rest) 0 && is_second first r) ≡ false
unfolding is_second
not_second first rest r h = rw (h) (go (eqb (length rest) 0))
  where
    go : (b : Bool) → (b && false) ≡ false
    go true = refl
    go false = refl

-- ---- what stands open for a group

abbrev pub in_message : Opening → Option Standing
in_message o = Some (standing.Message o)

abbrev pub single : WordRecord → Option Standing
single r = Some (standing.Single r)

abbrev pub standing_of : WordRecord → List WordRecord → Option Standing
standing_of first rest = cond (is_command first) (in_message (opening_of first rest)) (single first)

begins : (r : WordRecord) → Some (standing_from r) ≡ standing_of r []
unfolding standing_from
begins r = go (is_command r) ∙ ap (λ (o : Opening). cond (is_command r) (in_message o) (single r)) (opened r)
  where
    go : (b : Bool) → Some (cond b (standing.Message (opened_by r)) (standing.Single r)) ≡ cond b (in_message (opened_by r)) (single r)
    go true = refl
    go false = refl

closes : (first : WordRecord) (rest : List WordRecord) (place : ℕ) (until : Moment)
    → found_where (standing_of first rest) place until ≡ Some (record { place = place; entry = entry_of first rest until })
unfolding entry_of
closes first rest place until = go (is_command first)
  where
    go : (b : Bool)
        → found_where (cond b (in_message (opening_of first rest)) (single first)) place until
        ≡ Some (record { place = place; entry = cond b (entry.Message (message_of first rest until)) (entry.Single first) })
    go true = ap (λ (m : Message). Some (record { place = place; entry = entry.Message m })) (same_message first rest until)
    go false = refl

-- the walk with a group open
abbrev pub walk_at : ℕ → ℕ → Moment → ℕ → Option Standing → Walk
walk_at bus records clock place s = record { bus = bus; records = records; clock = clock; place = place; standing = s }

-- ---- a record of its bus

module _ (bus records : ℕ) (clock : Moment) (place : ℕ) (first : WordRecord) (rest : List WordRecord) (r : WordRecord) where
  abbrev walk : Option Standing → Walk
  walk s = walk_at bus records clock place s

  -- it begins the next entry
  abbrev next : Moment → Side
  next until = record {
    walk = walk_at bus (next64 records) r.time records (standing_of r []);
    found = Some (record { place = place; entry = entry_of first rest until });
    stop = stop.Reading;
  }

  -- it belongs to this one
  abbrev stays_open : Side
  stays_open = passed_with (walk (standing_of first rest)) (standing_of first (snoc rest r)) r

  begun : (until : Moment) → begun_with (walk (standing_of first rest)) until r ≡ next until
  unfolding begun_with found_at
  begun until = rw (begins r, closes first rest place until)

  module _ (h : is_command first ≡ true) (fits : r.time.0 < 2 ^ 64) (few : length (first ∷ rest) + 1 < 2 ^ 64) where
    opening : standing_of first rest ≡ in_message (opening_of first rest)
    opening = rw (h)

    opening_more : in_message (opening_of first (snoc rest r)) ≡ standing_of first (snoc rest r)
    opening_more = rw (h)

    begun_open : (until : Moment) → begun_with (walk (in_message (opening_of first rest))) until r ≡ next until
    begun_open until = ap (λ (s : Option Standing). begun_with (walk s) until r) (sym opening) ∙ begun until

    joins : (part : Part) → joined_by (opening_of first rest) part r ≡ opening_of first (snoc rest r)
        → passed_with (walk (in_message (opening_of first rest))) (in_message (joined_by (opening_of first rest) part r)) r ≡ stays_open
    unfolding passed_with
    joins part e = ap (λ (o : Opening). passed_with (walk (in_message (opening_of first rest))) (in_message o) r) e ∙ ap (λ (s : Option Standing). passed_with (walk (standing_of first rest)) s r) opening_more

    heard_known : (q : Part) → Known first rest r q
        → heard_as q (walk (in_message (opening_of first rest))) (opening_of first rest) r ≡ cond (belongs q) stays_open (next (closes_at first rest r))
    unfolding closes_at
    heard_known Far (far f) =
        ap (λ (k : ℕ). begun_with (walk (in_message (opening_of first rest))) (record { 0 = k }) r)
        (plus_fits (last_in first rest).time.0 320 (omega (arith, far_later first rest r f)))
        ∙ begun_open (record { 0 = (last_in first rest).time.0 + 320 })
        ∙ rw (f)
    heard_known Starts (starts f) = rw (f) (begun_open r.time)
    heard_known Second (second s) = joins Second (joined_second_any first rest r s)
    heard_known Status (status c s x) = joins Status (joined_status first rest r (stays first rest r s) few c)
    heard_known Other (other c) = joins Other (joined_other first rest r (stays first rest r (not_second first rest r c)) few c)

    heard_open : heard_by (walk (standing_of first rest)) r ≡ cond (belongs (part_in first rest r)) stays_open (next (closes_at first rest r))
    unfolding heard_by heard_message part_in
    heard_open =
        ap (λ (s : Option Standing). heard_where s (walk s) r) opening
        ∙ ap (λ (q : Part). heard_as q (walk (in_message (opening_of first rest))) (opening_of first rest) r) (same_part first rest r)
        ∙ heard_known (part_of first rest r) (known first rest r)
        ∙ rw (h)

  heard_single : is_command first ≡ false → heard_by (walk (standing_of first rest)) r ≡ cond (belongs (part_in first rest r)) stays_open (next (closes_at first rest r))
  unfolding heard_by part_in entry_of
  heard_single h =
      ap (λ (s : Option Standing). heard_where s (walk s) r) {x = standing_of first rest} {y = single first} (rw (h))
      ∙ ap (λ (s : Option Standing). begun_with (walk s) r.time r) {x = single first} {y = standing_of first rest} (rw (h))
      ∙ begun r.time
      ∙ rw (h)

  pub heard_group : r.time.0 < 2 ^ 64 → length (first ∷ rest) + 1 < 2 ^ 64
      → heard_by (walk (standing_of first rest)) r ≡ cond (belongs (part_in first rest r)) stays_open (next (closes_at first rest r))
  heard_group fits few = go (is_command first) refl
    where
      go : (b : Bool) → is_command first ≡ b → heard_by (walk (standing_of first rest)) r ≡ cond (belongs (part_in first rest r)) stays_open (next (closes_at first rest r))
      go true h = heard_open h fits few
      go false h = heard_single h

-- ---- all of them

pub walk_open : (rs : List WordRecord) (bus records : ℕ) (clock : Moment) (place : ℕ) (first : WordRecord) (rest : List WordRecord)
    → length (first ∷ rest) ≤ records → records + length rs < 2 ^ 64 → Fit rs
    → walk_over (walk_at bus records clock place (standing_of first rest)) rs ≡ entries_of (groups_from (end_time clock rs) place first rest (heard_on bus records rs))
unfolding groups_from heard_on found_at passed_with
walk_open [] bus records clock place first rest few most fit = ap given (closes first rest place clock)
walk_open (r ∷ rs) bus records clock place first rest few most fit =
    go (eqb r.bus bus) (belongs (part_in first rest r)) refl
    (λ (p : WordRecord) (ps : List WordRecord) (place : ℕ) (few : length (p ∷ ps) ≤ suc records).
    walk_open rs bus (suc records) r.time place p ps few (omega (arith, most)) fit.1)
  where
    w : Walk
    w = walk_at bus records clock place (standing_of first rest)

    one_more_lem : next64 records ≡ suc records
    one_more_lem = next_fits records (omega (arith, most)) ∙ omega arith

    heard : heard_by w r ≡ cond (belongs (part_in first rest r)) (stays_open bus records clock place first rest r) (next bus records clock place first rest r (closes_at first rest r))
    heard = heard_group bus records clock place first rest r fit.0 (omega (arith, few, most))

    go : (own joins : Bool) → belongs (part_in first rest r) ≡ joins
        → ((p : WordRecord) (ps : List WordRecord) (place : ℕ) → length (p ∷ ps) ≤ suc records
        → walk_over (walk_at bus (suc records) r.time place (standing_of p ps)) rs ≡ entries_of (groups_from (end_time r.time rs) place p ps (heard_on bus (suc records) rs)))
        → given (cond own (heard_by w r) (passed_with w (standing_of first rest) r)).found ++ walk_over (cond own (heard_by w r) (passed_with w (standing_of first rest) r)).walk rs
        ≡ entries_of
        (groups_from (end_time r.time rs) place first rest (cond own (record { place = records; heard = r } ∷ heard_on bus (suc records) rs) (heard_on bus (suc records) rs)))
    go false joins q again = ap (λ (k : ℕ). walk_over (walk_at bus k r.time place (standing_of first rest)) rs) one_more_lem ∙ again first rest place (omega (arith, few))
    go true true q again =
        rw (q)
        (ap (λ (s : Side). given s.found ++ walk_over s.walk rs) (heard ∙ ap (λ (b : Bool). cond b (stays_open bus records clock place first rest r) (next bus records clock place first rest r (closes_at first rest r))) q)
        ∙ ap (λ (k : ℕ). walk_over (walk_at bus k r.time place (standing_of first (snoc rest r))) rs) one_more_lem
        ∙ again first (snoc rest r) place (omega (arith, few, length-append rest (r ∷ []))))
    go true false q again =
        rw (q)
        (ap (λ (s : Side). given s.found ++ walk_over s.walk rs) (heard ∙ ap (λ (b : Bool). cond b (stays_open bus records clock place first rest r) (next bus records clock place first rest r (closes_at first rest r))) q)
        ∙ ap (λ (l : List Logged). record { place = place; entry = entry_of first rest (closes_at first rest r) } ∷ l)
        (ap (λ (k : ℕ). walk_over (walk_at bus k r.time records (standing_of r [])) rs) one_more_lem ∙ again r [] records (omega arith)))

pub walk_idle : (rs : List WordRecord) (bus records : ℕ) (clock : Moment) (place : ℕ) → records + length rs < 2 ^ 64 → Fit rs
    → walk_over (walk_at bus records clock place None) rs ≡ entries_of (groups_of (end_time clock rs) (heard_on bus records rs))
unfolding heard_on found_at passed_with begun_with heard_by
walk_idle [] bus records clock place most fit = refl
walk_idle (r ∷ rs) bus records clock place most fit = go (eqb r.bus bus) (walk_idle rs bus (suc records) r.time place (omega (arith, most)) fit.1)
  where
    one_more_lem : next64 records ≡ suc records
    one_more_lem = next_fits records (omega (arith, most)) ∙ omega arith

    w : Walk
    w = walk_at bus records clock place None

    go : (own : Bool)
        → walk_over (walk_at bus (suc records) r.time place None) rs ≡ entries_of (groups_of (end_time r.time rs) (heard_on bus (suc records) rs))
        → given (cond own (heard_by w r) (passed_with w None r)).found ++ walk_over (cond own (heard_by w r) (passed_with w None r)).walk rs
        ≡ entries_of (groups_of (end_time r.time rs) (cond own (record { place = records; heard = r } ∷ heard_on bus (suc records) rs) (heard_on bus (suc records) rs)))
    go false again = ap (λ (k : ℕ). walk_over (walk_at bus k r.time place None) rs) one_more_lem ∙ again
    go true again =
        ap (λ (k : ℕ). walk_over (walk_at bus k r.time records (Some (standing_from r))) rs) one_more_lem
        ∙ ap (λ (s : Option Standing). walk_over (walk_at bus (suc records) r.time records s) rs) (begins r)
        ∙ walk_open rs bus (suc records) r.time records r [] (omega arith) (omega (arith, most)) fit.1

pub walk_entries : (bus : ℕ) (rs : List WordRecord) → length rs < 2 ^ 64 → Fit rs → walk_over (walk_start bus) rs ≡ entries_on bus rs
unfolding entries_on
walk_entries bus rs few fit = walk_idle rs bus 0 (record { 0 = 0 }) 0 (omega (arith, few)) fit
