-- A bus's entries without their places come from its own records and the time of the file's last. Assumes nothing.
use Rattle.std.proofs.Common.{◌≡◌, ℕ, Bool, true, false, cond, List, [], ◌∷◌, ◌++◌, sym, refl, ap, ◌∙◌}
use Rattle.words.specs.declared.times.Moment.{Moment}
use Rattle.records.specs.declared.forms.WordRecord.{WordRecord}
use Rattle.monitor.specs.Entries.{entry_of}
use Rattle.monitor.specs.Logs.{Placed, heard_on, part_in, belongs, closes_at, groups_from, groups_of, end_time, entries_of, entries_on}
use Rattle.monitor.specs.Theorems.{on_bus, plain, BusesApart}
use Rattle.monitor.specs.declared.entries.Entry.{Entry}
use Rattle.monitor.proofs.Counts.{heards, heards_on}

-- the entries of a bus's records alone
abbrev plain_from : Moment → WordRecord → List WordRecord → List WordRecord → List Entry
plain_from end first rest [] = entry_of first rest end ∷ []
plain_from end first rest (r ∷ rs) =
    cond (belongs (part_in first rest r)) (plain_from end first (rest ++ (r ∷ [])) rs) (entry_of first rest (closes_at first rest r) ∷ plain_from end r [] rs)

abbrev plain_of : Moment → List WordRecord → List Entry
plain_of end [] = []
plain_of end (r ∷ rs) = plain_from end r [] rs

plain_from_lem : (ps : List Placed) (end : Moment) (place : ℕ) (first : WordRecord) (rest : List WordRecord)
    → plain (entries_of (groups_from end place first rest ps)) ≡ plain_from end first rest (heards ps)
unfolding groups_from
plain_from_lem [] end place first rest = refl
plain_from_lem (p ∷ ps) end place first rest =
    go (belongs (part_in first rest p.heard)) (plain_from_lem ps end place first (rest ++ (p.heard ∷ []))) (plain_from_lem ps end p.place p.heard [])
  where
    go : (b : Bool) → plain (entries_of (groups_from end place first (rest ++ (p.heard ∷ [])) ps)) ≡ plain_from end first (rest ++ (p.heard ∷ [])) (heards ps)
        → plain (entries_of (groups_from end p.place p.heard [] ps)) ≡ plain_from end p.heard [] (heards ps)
        → plain
        (entries_of
        (cond b (groups_from end place first (rest ++ (p.heard ∷ [])) ps)
        (record { place = place; first = first; rest = rest; until = closes_at first rest p.heard } ∷ groups_from end p.place p.heard [] ps)))
        ≡ cond b (plain_from end first (rest ++ (p.heard ∷ [])) (heards ps))
        (entry_of first rest (closes_at first rest p.heard) ∷ plain_from end p.heard [] (heards ps))
    go true joins begins = joins
    go false joins begins = ap (λ (l : List Entry). entry_of first rest (closes_at first rest p.heard) ∷ l) begins

plain_of_lem : (end : Moment) (ps : List Placed) → plain (entries_of (groups_of end ps)) ≡ plain_of end (heards ps)
plain_of_lem end [] = refl
plain_of_lem end (p ∷ ps) = plain_from_lem ps end p.place p.heard []

plain_on : (bus : ℕ) (rs : List WordRecord) → plain (entries_on bus rs) ≡ plain_of (end_time (record { 0 = 0 }) rs) (on_bus bus rs)
unfolding entries_on
plain_on bus rs = plain_of_lem (end_time (record { 0 = 0 }) rs) (heard_on bus 0 rs) ∙ ap (plain_of (end_time (record { 0 = 0 }) rs)) (heards_on bus 0 rs)

pub buses_apart : BusesApart
buses_apart bus rs others own end =
    plain_on bus rs
    ∙ ap (λ (t : Moment). plain_of t (on_bus bus rs)) end
    ∙ ap (plain_of (end_time (record { 0 = 0 }) others)) own
    ∙ sym (plain_on bus others)
