-- A second command is never a status that is expected, and an entry has at most two statuses. Assumes nothing.
use Rattle.std.proofs.Common.{◌≡◌, ℕ, ◌≤◌, Bool, true, false, cond, not, ◌&&◌, ◌||◌, eqb, ◌⊎◌, List, [], ◌∷◌, length, sym, refl, ◌∙◌, inl, inr, true≢false, arith, ne_eqb, eqb-true}
use Rattle.std.proofs.lemmas.Bool.{or_parts, or_cases, and_parts}
use borrow.Author.Tests.{eqb-false, not-true}
use Rattle.words.specs.Words.{is_spaced, address_of, count_of, is_transmit, is_mode, is_broadcast}
use Rattle.words.specs.declared.times.Moment.{Moment}
use Rattle.records.specs.declared.forms.WordRecord.{WordRecord}
use Rattle.verdict.specs.Plans.{is_pair}
use Rattle.monitor.specs.Entries.{is_command, is_second, commands_of, behind_of, statuses_in, statuses_by, statuses_of, is_for, is_from, expects, part_of}
use Rattle.monitor.specs.Logs.{Group, Placed, heard_on, part_in, belongs, closes_at, groups_from, groups_of, end_time}
use Rattle.monitor.specs.Theorems.{Each, NeverBoth, StatusesFew}
use Rattle.monitor.specs.declared.entries.Commands.{Commands}
use Rattle.monitor.specs.declared.entries.Commands.TheVariants as commands
use Rattle.monitor.specs.declared.openings.Part.{Part}
use Rattle.monitor.specs.declared.openings.Part.TheVariants.{Far, Starts, Second, Status, Other}
use Rattle.monitor.proofs.Appends.{snoc, statuses_more, statuses_same}
use Rattle.monitor.proofs.Summaries.{stays}
use Rattle.monitor.proofs.Groups.{Known, second, status, other, known, second_first, not_second}

-- ---- the second command

-- it goes to another address than the first
other_address : (first r : WordRecord) → is_second first r ≡ true → eqb (address_of r.word) (address_of first.word) ≡ false
unfolding is_second is_pair
other_address first r h =
    let four = not (is_transmit first.word) && not (is_mode first.word) && is_transmit r.word && not (is_mode r.word) in
    let other = not (eqb (address_of r.word) (address_of first.word) || is_broadcast r.word) in
    let pair = (and_parts (is_command r && is_spaced first.time.0 r.time.0) (is_pair first.word r.word) h).1 in
    let five = (and_parts (four && other) (eqb (count_of r.word) (count_of first.word)) pair).0 in
    let differ = (and_parts four other five).1 in
    (or_parts (eqb (address_of r.word) (address_of first.word)) (is_broadcast r.word) (not-true _ differ)).0

and_no : (a b c : Bool) → b ≡ false → (a && b && c) ≡ false
and_no true b c h = rw (h)
and_no false b c h = refl

pub never_both : NeverBoth
unfolding expects is_for
never_both first [] r h =
    and_no (not (is_broadcast r.word)) (eqb (address_of first.word) (address_of r.word)) _
    (ne_eqb (address_of first.word) (address_of r.word) (λ same. eqb-false (address_of r.word) (address_of first.word) (other_address first r h) (sym same)))
never_both first (x ∷ rest) r h = absurd (second_first first x rest r h)

-- ---- statuses

-- each is from another address of the commands
data Few (cs : Commands) : List WordRecord → Type 0 where
  none : Few cs []
  one : (x : WordRecord) → is_for cs (address_of x.word) ≡ true → Few cs (x ∷ [])
  two : (x y : WordRecord) → is_for cs (address_of x.word) ≡ true → is_for cs (address_of y.word) ≡ true
      → (address_of x.word ≡ address_of y.word → ⊥)
      → Few cs (x ∷ y ∷ [])

few_length : (cs : Commands) (l : List WordRecord) → Few cs l → length l ≤ 2
few_length cs l none = omega arith
few_length cs l (one x h) = omega arith
few_length cs l (two x y h k d) = omega arith

pigeon : (c d x y r : ℕ) → (x ≡ c) ⊎ (x ≡ d) → (y ≡ c) ⊎ (y ≡ d) → (r ≡ c) ⊎ (r ≡ d) → (x ≡ y → ⊥) → (x ≡ r → ⊥) → (y ≡ r → ⊥) → ⊥
pigeon c d x y r (inl a) (inl b) e xy xr yr = xy (a ∙ sym b)
pigeon c d x y r (inr a) (inr b) e xy xr yr = xy (a ∙ sym b)
pigeon c d x y r (inl a) (inr b) (inl e) xy xr yr = xr (a ∙ sym e)
pigeon c d x y r (inl a) (inr b) (inr e) xy xr yr = yr (b ∙ sym e)
pigeon c d x y r (inr a) (inl b) (inl e) xy xr yr = yr (b ∙ sym e)
pigeon c d x y r (inr a) (inl b) (inr e) xy xr yr = xr (a ∙ sym e)

abbrev first_of : Commands → ℕ
first_of (commands.One a) = address_of a.0
first_of (commands.Two a b) = address_of a.0

abbrev second_of : Commands → ℕ
second_of (commands.One a) = address_of a.0
second_of (commands.Two a b) = address_of b.0

for_either : (cs : Commands) (k : ℕ) → is_for cs k ≡ true → (k ≡ first_of cs) ⊎ (k ≡ second_of cs)
unfolding is_for
for_either (commands.One a) k h = inl (sym (eqb-true (address_of a.0) k h))
for_either (commands.Two a b) k h = go (or_cases (eqb (address_of a.0) k) (eqb (address_of b.0) k) h)
  where
    go : (eqb (address_of a.0) k ≡ true) ⊎ (eqb (address_of b.0) k ≡ true) → (k ≡ address_of a.0) ⊎ (k ≡ address_of b.0)
    go (inl e) = inl (sym (eqb-true (address_of a.0) k e))
    go (inr e) = inr (sym (eqb-true (address_of b.0) k e))

few_more : (cs : Commands) (l : List WordRecord) (r : WordRecord) → Few cs l → is_for cs (address_of r.word) ≡ true → is_from (statuses_by l) (address_of r.word) ≡ false
    → Few cs (snoc l r)
unfolding is_from
few_more cs l r none h new = one r h
few_more cs l r (one x k) h new = two x r k h (eqb-false (address_of x.word) (address_of r.word) new)
few_more cs l r (two x y k m d) h new =
    let parts = or_parts (eqb (address_of x.word) (address_of r.word)) (eqb (address_of y.word) (address_of r.word)) new in
    absurd
    (pigeon (first_of cs) (second_of cs) (address_of x.word) (address_of y.word) (address_of r.word) (for_either cs _ k) (for_either cs _ m) (for_either cs _ h) d
    (eqb-false (address_of x.word) (address_of r.word) parts.0) (eqb-false (address_of y.word) (address_of r.word) parts.1))

-- ---- of a group

abbrev FewIn : WordRecord → List WordRecord → Type 0
FewIn first rest = Few (commands_of first rest) (statuses_in (behind_of first rest))

few_as : (first : WordRecord) (rest : List WordRecord) (r : WordRecord) → FewIn first rest → (q : Part) → Known first rest r q → belongs q ≡ true → FewIn first (snoc rest r)
unfolding expects
few_as first rest r few Far k h = absurd (true≢false (sym h))
few_as first rest r few Starts k h = absurd (true≢false (sym h))
few_as first rest r few Second (second s) h = few_second rest s
  where
    few_second : (others : List WordRecord) → (eqb (length others) 0 && is_second first r) ≡ true → FewIn first (snoc others r)
    few_second [] s = rw (s) none
    few_second (x ∷ others) s = absurd (second_first first x others r s)
few_as first rest r few Status (status c s e) h =
    let still = stays first rest r s in
    let parts = and_parts (not (is_broadcast r.word) && is_for (commands_of first rest) (address_of r.word)) (not (is_from (statuses_of first rest) (address_of r.word))) e in
    let asked = and_parts (not (is_broadcast r.word)) (is_for (commands_of first rest) (address_of r.word)) parts.0 in
    rw (still.commands, still.behind, statuses_more (behind_of first rest) r c)
    (few_more (commands_of first rest) (statuses_in (behind_of first rest)) r few asked.1 (not-true (is_from (statuses_of first rest) (address_of r.word)) parts.1))
few_as first rest r few Other (other c) h =
    let still = stays first rest r (not_second first rest r c) in
    rw (still.commands, still.behind, statuses_same (behind_of first rest) r c) few

few_join : (first : WordRecord) (rest : List WordRecord) (r : WordRecord) → FewIn first rest → belongs (part_in first rest r) ≡ true → FewIn first (snoc rest r)
unfolding part_in
few_join first rest r few h = go (is_command first) h
  where
    go : (b : Bool) → belongs (cond b (part_of first rest r) Starts) ≡ true → FewIn first (snoc rest r)
    go true h = few_as first rest r few (part_of first rest r) (known first rest r) h
    go false h = absurd (true≢false (sym h))

abbrev Short : Group → Type 0
Short g = length (statuses_in (behind_of g.first g.rest)) ≤ 2

few_from : (ps : List Placed) (end : Moment) (place : ℕ) (first : WordRecord) (rest : List WordRecord) → FewIn first rest → Each Short (groups_from end place first rest ps)
unfolding groups_from
few_from [] end place first rest few = (few_length (commands_of first rest) (statuses_in (behind_of first rest)) few, tt)
few_from (p ∷ ps) end place first rest few =
    go (belongs (part_in first rest p.heard)) refl
    (λ h. few_from ps end place first (snoc rest p.heard) (few_join first rest p.heard few h))
    (few_from ps end p.place p.heard [] none)
  where
    go : (b : Bool) → belongs (part_in first rest p.heard) ≡ b
        → (belongs (part_in first rest p.heard) ≡ true → Each Short (groups_from end place first (snoc rest p.heard) ps))
        → Each Short (groups_from end p.place p.heard [] ps)
        → Each Short
        (cond b (groups_from end place first (snoc rest p.heard) ps)
        (record { place = place; first = first; rest = rest; until = closes_at first rest p.heard } ∷ groups_from end p.place p.heard [] ps))
    go true h joins begins = joins h
    go false h joins begins = (few_length (commands_of first rest) (statuses_in (behind_of first rest)) few, begins)

few_of : (end : Moment) (ps : List Placed) → Each Short (groups_of end ps)
few_of end [] = tt
few_of end (p ∷ ps) = few_from ps end p.place p.heard [] none

pub statuses_few : StatusesFew
statuses_few bus rs = few_of (end_time (record { 0 = 0 }) rs) (heard_on bus 0 rs)
