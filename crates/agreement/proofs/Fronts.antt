-- A record that begins an entry anywhere in a file: what comes before it are entries of their own. Assumes nothing.
use mathlib.Core.Path.{◌≡◌, refl, sym, ap, ◌∙◌}
use Prim.Native.Nat.{ℕ, suc, ◌+◌}
use mathlib.Core.Bool.{Bool, true, false, cond}
use mathlib.Core.List.{List, [], ◌∷◌, ◌++◌}
use native.Mathlib.Omega.{arith}
use lib.Dec.{eqb}
use lib.ListN.{length}
use Rattle.words.specs.declared.times.Moment.{Moment}
use Rattle.records.specs.declared.forms.WordRecord.{WordRecord}
use Rattle.monitor.specs.Logs.{Group, Placed, heard_on, part_in, belongs, closes_at, groups_from, groups_of, logged_of, entries_of}
use Rattle.monitor.specs.declared.entries.Logged.{Logged}
use Rattle.agreement.specs.Logged.{takes}

-- ---- the records of a bus, in two parts

pub heard_append : (bus : ℕ) (more : List WordRecord) (rs : List WordRecord) (place : ℕ)
    → heard_on bus place (rs ++ more) ≡ heard_on bus place rs ++ heard_on bus (place + length rs) more
unfolding heard_on
heard_append bus more [] place = ap (λ (n : ℕ). heard_on bus n more) {x = place} {y = place + 0} (omega arith)
heard_append bus more (r ∷ rs) place =
    go (eqb r.bus bus)
    (heard_append bus more rs (suc place)
    ∙ ap (λ (n : ℕ). heard_on bus (suc place) rs ++ heard_on bus n more) {x = suc place + length rs} {y = place + suc (length rs)} (omega arith))
  where
    go : (b : Bool) → heard_on bus (suc place) (rs ++ more) ≡ heard_on bus (suc place) rs ++ heard_on bus (place + suc (length rs)) more
        → cond b (record { place = place; heard = r } ∷ heard_on bus (suc place) (rs ++ more)) (heard_on bus (suc place) (rs ++ more))
        ≡ cond b (record { place = place; heard = r } ∷ heard_on bus (suc place) rs) (heard_on bus (suc place) rs)
        ++ heard_on bus (place + suc (length rs)) more
    go true again = ap (λ (l : List Placed). record { place = place; heard = r } ∷ l) again
    go false again = again

pub entries_append : (gs hs : List Group) → entries_of (gs ++ hs) ≡ entries_of gs ++ entries_of hs
entries_append [] hs = refl
entries_append (g ∷ gs) hs = ap (λ (l : List Logged). logged_of g ∷ l) (entries_append gs hs)

-- ---- the entry that is open

-- it is the last, whichever comes before
pub takes_from : (g : Group) (r : WordRecord) (ps : List Placed) (end : Moment) (place : ℕ) (first : WordRecord) (rest : List WordRecord)
    → takes (g ∷ groups_from end place first rest ps) r ≡ takes (groups_from end place first rest ps) r
unfolding groups_from
takes_from g r [] end place first rest = refl
takes_from g r (p ∷ ps) end place first rest =
    go (belongs (part_in first rest p.heard)) (takes_from g r ps end place first (rest ++ (p.heard ∷ [])))
  where
    this : Group
    this = record { place = place; first = first; rest = rest; until = closes_at first rest p.heard }

    go : (b : Bool)
        → takes (g ∷ groups_from end place first (rest ++ (p.heard ∷ [])) ps) r ≡ takes (groups_from end place first (rest ++ (p.heard ∷ [])) ps) r
        → takes (g ∷ cond b (groups_from end place first (rest ++ (p.heard ∷ [])) ps) (this ∷ groups_from end p.place p.heard [] ps)) r
        ≡ takes (cond b (groups_from end place first (rest ++ (p.heard ∷ [])) ps) (this ∷ groups_from end p.place p.heard [] ps)) r
    go true again = again
    go false again = refl

-- where it takes none, the next record begins another
module _ (end other : Moment) (p : Placed) (qs : List Placed) where
  abbrev Begins : List Group → Type 0
  Begins all = (gs : List Group) × (all ≡ gs ++ groups_from end p.place p.heard [] qs)

  begins_from : (ps : List Placed) (place : ℕ) (first : WordRecord) (rest : List WordRecord)
      → takes (groups_from other place first rest ps) p.heard ≡ false
      → Begins (groups_from end place first rest (ps ++ (p ∷ qs)))
  unfolding groups_from
  begins_from [] place first rest none =
      (record { place = place; first = first; rest = rest; until = closes_at first rest p.heard } ∷ [], rw none)
  begins_from (q ∷ ps) place first rest none =
      go (belongs (part_in first rest q.heard)) none (begins_from ps place first (rest ++ (q.heard ∷ []))) (begins_from ps q.place q.heard [])
    where
      this : Group
      this = record { place = place; first = first; rest = rest; until = closes_at first rest q.heard }

      go : (b : Bool)
          → takes (cond b (groups_from other place first (rest ++ (q.heard ∷ [])) ps) (this ∷ groups_from other q.place q.heard [] ps)) p.heard ≡ false
          → (takes (groups_from other place first (rest ++ (q.heard ∷ [])) ps) p.heard ≡ false
          → Begins (groups_from end place first (rest ++ (q.heard ∷ [])) (ps ++ (p ∷ qs))))
          → (takes (groups_from other q.place q.heard [] ps) p.heard ≡ false → Begins (groups_from end q.place q.heard [] (ps ++ (p ∷ qs))))
          → Begins
          (cond b (groups_from end place first (rest ++ (q.heard ∷ [])) (ps ++ (p ∷ qs))) (this ∷ groups_from end q.place q.heard [] (ps ++ (p ∷ qs))))
      go true none joins begins = joins none
      go false none joins begins =
          let again = begins (sym (takes_from this p.heard ps other q.place q.heard []) ∙ none) in
          (this ∷ again.0, ap (λ (l : List Group). this ∷ l) again.1)

  pub begins_of : (ps : List Placed) → takes (groups_of other ps) p.heard ≡ false → Begins (groups_of end (ps ++ (p ∷ qs)))
  begins_of [] none = ([], refl)
  begins_of (q ∷ ps) none = begins_from ps q.place q.heard [] none
