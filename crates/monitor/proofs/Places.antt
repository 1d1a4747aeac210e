-- The entries come in order of their first record. Assumes nothing.
use Rattle.std.proofs.Common.{◌≡◌, ℕ, suc, ◌+◌, ◌<◌, ◌≤◌, Bool, true, false, cond, eqb, ltb, List, [], ◌∷◌, ◌++◌, get_or, drop, sym, refl, ap, ◌∙◌, ⊎_elim, eq-or-lt_of_le, arith, drop-drop, ltb-false, ltb-true, eqb-true}
use Rattle.words.specs.declared.times.Moment.{Moment}
use Rattle.records.specs.declared.forms.WordRecord.{WordRecord}
use Rattle.monitor.specs.Logs.{Group, Placed, heard_on, part_in, belongs, closes_at, groups_from, groups_of, groups_on, end_time, entries_of, entries_on, among, merged, log_of}
use Rattle.monitor.specs.Theorems.{Rise, Each, BeginsAt, InOrder}
use Rattle.monitor.specs.declared.entries.Logged.{Logged}

-- ---- a bus's records, in order of their places

abbrev RisePlaced : ℕ → List Placed → Type 0
RisePlaced from [] = Unit {0}
RisePlaced from (p ∷ ps) = (from ≤ p.place) × RisePlaced (suc p.place) ps

less_placed : (from less : ℕ) (ps : List Placed) → less ≤ from → RisePlaced from ps → RisePlaced less ps
less_placed from less [] l rise = tt
less_placed from less (p ∷ ps) l rise = (omega (arith, rise.0), rise.1)

heard_rise : (bus : ℕ) (rs : List WordRecord) (place : ℕ) → RisePlaced place (heard_on bus place rs)
unfolding heard_on
heard_rise bus [] place = tt
heard_rise bus (r ∷ rs) place = go (eqb r.bus bus) (heard_rise bus rs (suc place))
  where
    go : (b : Bool) → RisePlaced (suc place) (heard_on bus (suc place) rs)
        → RisePlaced place (cond b (record { place = place; heard = r } ∷ heard_on bus (suc place) rs) (heard_on bus (suc place) rs))
    go true again = (omega arith, again)
    go false again = less_placed (suc place) place (heard_on bus (suc place) rs) (omega arith) again

rise_from : (ps : List Placed) (end : Moment) (place : ℕ) (first : WordRecord) (rest : List WordRecord) (from : ℕ) → from ≤ place → RisePlaced (suc place) ps
    → Rise from (entries_of (groups_from end place first rest ps))
unfolding groups_from
rise_from [] end place first rest from l rise = (l, tt)
rise_from (p ∷ ps) end place first rest from l rise =
    go (belongs (part_in first rest p.heard))
    (rise_from ps end place first (rest ++ (p.heard ∷ [])) from l (less_placed (suc p.place) (suc place) ps (omega (arith, rise.0)) rise.1))
    (rise_from ps end p.place p.heard [] (suc place) rise.0 rise.1)
  where
    go : (b : Bool) → Rise from (entries_of (groups_from end place first (rest ++ (p.heard ∷ [])) ps))
        → Rise (suc place) (entries_of (groups_from end p.place p.heard [] ps))
        → Rise from
        (entries_of
        (cond b (groups_from end place first (rest ++ (p.heard ∷ [])) ps)
        (record { place = place; first = first; rest = rest; until = closes_at first rest p.heard } ∷ groups_from end p.place p.heard [] ps)))
    go true joins begins = joins
    go false joins begins = (l, begins)

rise_of : (end : Moment) (ps : List Placed) → RisePlaced 0 ps → Rise 0 (entries_of (groups_of end ps))
rise_of end [] rise = tt
rise_of end (p ∷ ps) rise = rise_from ps end p.place p.heard [] 0 (omega arith) rise.1

rise_on : (bus : ℕ) (rs : List WordRecord) → Rise 0 (entries_on bus rs)
unfolding entries_on
rise_on bus rs = rise_of (end_time (record { 0 = 0 }) rs) (heard_on bus 0 rs) (heard_rise bus rs 0)

-- ---- the record at a place

module _ (all : List WordRecord) (bus : ℕ) where
  -- it is that one, of that bus
  abbrev pub At : ℕ → WordRecord → Type 0
  At place r = (after : List WordRecord) × (drop place all ≡ r ∷ after) × (r.bus ≡ bus)

  abbrev AtPlaced : Placed → Type 0
  AtPlaced p = At p.place p.heard

  heard_at_lem : (rs : List WordRecord) (place : ℕ) → drop place all ≡ rs → Each AtPlaced (heard_on bus place rs)
  unfolding heard_on
  heard_at_lem [] place e = tt
  heard_at_lem (r ∷ rs) place e =
      go (eqb r.bus bus) refl
      (heard_at_lem rs (suc place)
      (ap (λ (k : ℕ). drop k all) {x = suc place} {y = place + 1} (omega arith) ∙ sym (drop-drop 1 place all) ∙ ap (drop 1) e))
    where
      go : (b : Bool) → eqb r.bus bus ≡ b → Each AtPlaced (heard_on bus (suc place) rs)
          → Each AtPlaced (cond b (record { place = place; heard = r } ∷ heard_on bus (suc place) rs) (heard_on bus (suc place) rs))
      go true h again = ((rs, e, eqb-true r.bus bus h), again)
      go false h again = again

  abbrev pub AtGroup : Group → Type 0
  AtGroup g = At g.place g.first

  groups_at : (ps : List Placed) (end : Moment) (place : ℕ) (first : WordRecord) (rest : List WordRecord) → At place first → Each AtPlaced ps
      → Each AtGroup (groups_from end place first rest ps)
  unfolding groups_from
  groups_at [] end place first rest at each = (at, tt)
  groups_at (p ∷ ps) end place first rest at each =
      go (belongs (part_in first rest p.heard))
      (groups_at ps end place first (rest ++ (p.heard ∷ [])) at each.1)
      (groups_at ps end p.place p.heard [] each.0 each.1)
    where
      go : (b : Bool) → Each AtGroup (groups_from end place first (rest ++ (p.heard ∷ [])) ps) → Each AtGroup (groups_from end p.place p.heard [] ps)
          → Each AtGroup
          (cond b (groups_from end place first (rest ++ (p.heard ∷ [])) ps)
          (record { place = place; first = first; rest = rest; until = closes_at first rest p.heard } ∷ groups_from end p.place p.heard [] ps))
      go true joins begins = joins
      go false joins begins = (at, begins)

  groups_of_lem : (end : Moment) (ps : List Placed) → Each AtPlaced ps → Each AtGroup (groups_of end ps)
  groups_of_lem end [] each = tt
  groups_of_lem end (p ∷ ps) each = groups_at ps end p.place p.heard [] each.0 each.1

  pub groups_on_lem : Each AtGroup (groups_on bus all)
  groups_on_lem = groups_of_lem (end_time (record { 0 = 0 }) all) (heard_on bus 0 all) (heard_at_lem all 0 refl)

  -- so it is with the entries
  abbrev AtEntry : Logged → Type 0
  AtEntry e = (r : WordRecord) × At e.place r

  entries_at : (gs : List Group) → Each AtGroup gs → Each AtEntry (entries_of gs)
  entries_at [] each = tt
  entries_at (g ∷ gs) each = ((g.first, each.0), entries_at gs each.1)

  begins_at : (gs : List Group) → Each AtGroup gs → Each (BeginsAt all) gs
  begins_at [] each = tt
  begins_at (g ∷ gs) each = ((each.0.0, each.0.1), begins_at gs each.1)

-- ---- both together

module _ (all : List WordRecord) where
  apart : (e f : Logged) → AtEntry all 0 e → AtEntry all 1 f → e.place ≡ f.place → ⊥
  apart e f a b same =
      let one : a.0 ∷ a.1.0 ≡ b.0 ∷ b.1.0 = sym a.1.1 ∙ ap (λ (k : ℕ). drop k all) same ∙ b.1.1 in
      omega (arith, sym a.1.2 ∙ ap (λ (l : List WordRecord). (get_or l 0 a.0).bus) one ∙ b.1.2)

  -- what is merged with those after an entry rises
  abbrev Ordered : (List Logged → List Logged) → List Logged → Type 0
  Ordered after es = (fs : List Logged) (from : ℕ) → Rise from es → Rise from fs → Each (AtEntry all 1) fs → Rise from (after fs)

  rise_among : (fs : List Logged) (e : Logged) (es : List Logged) (after : List Logged → List Logged) → Ordered after es → AtEntry all 0 e
      → (from : ℕ) → Rise from (e ∷ es) → Rise from fs → Each (AtEntry all 1) fs → Rise from (among e after fs)
  rise_among [] e es after ordered at from rise rises each = (rise.0, ordered [] (suc e.place) rise.1 tt tt)
  rise_among (f ∷ fs) e es after ordered at from rise rises each =
      go (ltb e.place f.place) refl
      (λ most. rise_among fs e es after ordered at (suc f.place) (less_than most, rise.1) rises.1 each.1)
    where
      less_than : ltb e.place f.place ≡ false → f.place < e.place
      less_than most = less f.place e.place (ltb-false e.place f.place most) (λ same. apart e f at each.0 (sym same))
        where
          less : (m n : ℕ) → m ≤ n → (m ≡ n → ⊥) → m < n
          less m n l differ = ⊎_elim (λ same. absurd (differ same)) (λ below. below) (eq-or-lt_of_le l)

      go : (b : Bool) → ltb e.place f.place ≡ b → (ltb e.place f.place ≡ false → Rise (suc f.place) (among e after fs))
          → Rise from (cond b (e ∷ after (f ∷ fs)) (f ∷ among e after fs))
      go true less again =
          (rise.0, ordered (f ∷ fs) (suc e.place) rise.1 (ltb-true e.place f.place less, rises.1) each)
      go false most again = (rises.0, again most)

  rise_merged : (es : List Logged) → Each (AtEntry all 0) es → Ordered (merged es) es
  unfolding merged
  rise_merged [] ats fs from rise rises each = rises
  rise_merged (e ∷ es) ats fs from rise rises each = rise_among fs e es (merged es) (rise_merged es ats.1) ats.0 from rise rises each

pub in_order : InOrder
unfolding log_of entries_on
in_order rs = (
  rise_merged rs (entries_on 0 rs) (entries_at rs 0 (groups_on 0 rs) (groups_on_lem rs 0)) (entries_on 1 rs) 0 (rise_on 0 rs) (rise_on 1 rs)
      (entries_at rs 1 (groups_on 1 rs) (groups_on_lem rs 1)),
  λ bus. begins_at rs bus (groups_on bus rs) (groups_on_lem rs bus),
)
