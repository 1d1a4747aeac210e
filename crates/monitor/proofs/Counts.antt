-- Every record is in exactly one entry. Assumes nothing.
use Rattle.std.proofs.Common.{◌≡◌, ℕ, zero, suc, ◌+◌, ◌≤◌, Bool, true, false, cond, eqb, ltb, List, [], ◌∷◌, ◌++◌, length, drop, sym, refl, ap, ◌∙◌, true≢false, append_assoc, arith, length-append}
use Rattle.std.specs.Prelude.{Result, Ok, Err}
use Rattle.words.specs.declared.times.Moment.{Moment}
use Rattle.records.specs.Records.{last_bus}
use Rattle.records.specs.Files.{open_of}
use Rattle.words.specs.declared.refusals.Refusal.{Refusal}
use Rattle.records.specs.declared.files.Cursor.{Cursor}
use Rattle.records.specs.declared.forms.WordRecord.{WordRecord}
use Rattle.records.proofs.Ranges.{in_range_bus}
use Rattle.monitor.specs.Entries.{is_command, part_of, message_of, entry_of}
use Rattle.monitor.specs.Logs.{Placed, heard_on, part_in, belongs, closes_at, groups_from, groups_of, end_time, entries_of, entries_on, among, merged, log_of, front_of, log_at, file_log}
use Rattle.monitor.specs.Theorems.{on_bus, records_of, records_in, count_in, EveryRecordOnce, Each}
use Rattle.monitor.specs.declared.entries.Entry.TheVariants as entry
use Rattle.monitor.specs.declared.entries.Logged.{Logged}
use Rattle.monitor.specs.declared.openings.Part.TheVariants.{Starts}
use Rattle.monitor.proofs.Futures.{front_each}

-- ---- the records of the groups of a bus

abbrev pub heards : List Placed → List WordRecord
heards [] = []
heards (p ∷ ps) = p.heard ∷ heards ps

pub heards_on : (bus place : ℕ) (rs : List WordRecord) → heards (heard_on bus place rs) ≡ on_bus bus rs
unfolding heard_on
heards_on bus place [] = refl
heards_on bus place (r ∷ rs) = go (eqb r.bus bus) (heards_on bus (suc place) rs)
  where
    go : (b : Bool) → heards (heard_on bus (suc place) rs) ≡ on_bus bus rs
        → heards (cond b (record { place = place; heard = r } ∷ heard_on bus (suc place) rs) (heard_on bus (suc place) rs)) ≡ cond b (r ∷ on_bus bus rs) (on_bus bus rs)
    go true again = ap (λ (l : List WordRecord). r ∷ l) again
    go false again = again

records_from : (ps : List Placed) (end : Moment) (place : ℕ) (first : WordRecord) (rest : List WordRecord)
    → records_of (groups_from end place first rest ps) ≡ first ∷ (rest ++ heards ps)
unfolding groups_from
records_from [] end place first rest = refl
records_from (p ∷ ps) end place first rest =
    go (belongs (part_in first rest p.heard)) (records_from ps end place first (rest ++ (p.heard ∷ []))) (records_from ps end p.place p.heard [])
  where
    go : (b : Bool) → records_of (groups_from end place first (rest ++ (p.heard ∷ [])) ps) ≡ first ∷ ((rest ++ (p.heard ∷ [])) ++ heards ps)
        → records_of (groups_from end p.place p.heard [] ps) ≡ p.heard ∷ heards ps
        → records_of
        (cond b (groups_from end place first (rest ++ (p.heard ∷ [])) ps)
        (record { place = place; first = first; rest = rest; until = closes_at first rest p.heard } ∷ groups_from end p.place p.heard [] ps))
        ≡ first ∷ (rest ++ (p.heard ∷ heards ps))
    go true joins begins = joins ∙ ap (λ (l : List WordRecord). first ∷ l) (append_assoc rest (p.heard ∷ []) (heards ps))
    go false joins begins = ap (λ (l : List WordRecord). first ∷ (rest ++ l)) begins

records_of_lem : (end : Moment) (ps : List Placed) → records_of (groups_of end ps) ≡ heards ps
records_of_lem end [] = refl
records_of_lem end (p ∷ ps) = records_from ps end p.place p.heard []

-- ---- counts

-- a record that stands alone is joined by none
abbrev Alone : WordRecord → List WordRecord → Type 0
Alone first rest = is_command first ≡ false → rest ≡ []

count_entry : (first : WordRecord) (rest : List WordRecord) (until : Moment) → Alone first rest → records_in (entry_of first rest until) ≡ length (first ∷ rest)
unfolding entry_of message_of
count_entry first rest until alone = go (is_command first) refl
  where
    go : (b : Bool) → is_command first ≡ b → records_in (cond b (entry.Message (message_of first rest until)) (entry.Single first)) ≡ length (first ∷ rest)
    go true h = refl
    go false h = ap (λ (l : List WordRecord). length (first ∷ l)) {x = []} {y = rest} (sym (alone h))

joins_message : (first : WordRecord) (rest : List WordRecord) (r : WordRecord) → belongs (part_in first rest r) ≡ true → is_command first ≡ true
unfolding part_in
joins_message first rest r h = go (is_command first) h
  where
    go : (b : Bool) → belongs (cond b (part_of first rest r) Starts) ≡ true → b ≡ true
    go true h = refl
    go false h = absurd (true≢false (sym h))

count_from_lem : (ps : List Placed) (end : Moment) (place : ℕ) (first : WordRecord) (rest : List WordRecord) → Alone first rest
    → count_in (entries_of (groups_from end place first rest ps)) ≡ length (first ∷ rest) + length ps
unfolding groups_from
count_from_lem [] end place first rest alone = ap (λ (n : ℕ). n + 0) (count_entry first rest end alone)
count_from_lem (p ∷ ps) end place first rest alone =
    go (belongs (part_in first rest p.heard)) refl
    (λ h. count_from_lem ps end place first (rest ++ (p.heard ∷ [])) (λ single. absurd (true≢false (sym (joins_message first rest p.heard h) ∙ single))))
    (count_from_lem ps end p.place p.heard [] (λ single. refl))
  where
    go : (b : Bool) → belongs (part_in first rest p.heard) ≡ b
        → (belongs (part_in first rest p.heard) ≡ true
        → count_in (entries_of (groups_from end place first (rest ++ (p.heard ∷ [])) ps)) ≡ length (first ∷ (rest ++ (p.heard ∷ []))) + length ps)
        → count_in (entries_of (groups_from end p.place p.heard [] ps)) ≡ 1 + length ps
        → count_in
        (entries_of
        (cond b (groups_from end place first (rest ++ (p.heard ∷ [])) ps)
        (record { place = place; first = first; rest = rest; until = closes_at first rest p.heard } ∷ groups_from end p.place p.heard [] ps)))
        ≡ length (first ∷ rest) + length (p ∷ ps)
    go true h joins begins = joins h ∙ omega (arith, length-append rest (p.heard ∷ []))
    go false h joins begins =
        ap (λ (n : ℕ). n + count_in (entries_of (groups_from end p.place p.heard [] ps))) (count_entry first rest (closes_at first rest p.heard) alone)
        ∙ ap (λ (n : ℕ). length (first ∷ rest) + n) begins
        ∙ omega arith

count_of : (end : Moment) (ps : List Placed) → count_in (entries_of (groups_of end ps)) ≡ length ps
count_of end [] = refl
count_of end (p ∷ ps) = count_from_lem ps end p.place p.heard [] (λ single. refl) ∙ omega arith

count_among : (e : Logged) (after : List Logged → List Logged) (n : ℕ) → ((fs : List Logged) → count_in (after fs) ≡ n + count_in fs)
    → (fs : List Logged) → count_in (among e after fs) ≡ records_in e.entry + n + count_in fs
count_among e after n all [] = ap (λ (k : ℕ). records_in e.entry + k) (all []) ∙ omega arith
count_among e after n all (f ∷ fs) = go (ltb e.place f.place) (count_among e after n all fs)
  where
    go : (b : Bool) → count_in (among e after fs) ≡ records_in e.entry + n + count_in fs
        → count_in (cond b (e ∷ after (f ∷ fs)) (f ∷ among e after fs)) ≡ records_in e.entry + n + count_in (f ∷ fs)
    go true again = ap (λ (k : ℕ). records_in e.entry + k) (all (f ∷ fs)) ∙ omega arith
    go false again = ap (λ (k : ℕ). records_in f.entry + k) again ∙ omega arith

count_merged : (es fs : List Logged) → count_in (merged es fs) ≡ count_in es + count_in fs
unfolding merged
count_merged [] fs = omega arith
count_merged (e ∷ es) fs = count_among e (merged es) (count_in es) (count_merged es) fs

-- ---- of a file

-- each record is of one of the two buses
abbrev OfTwo : List WordRecord → Type 0
OfTwo rs = Each (λ (r : WordRecord). r.bus ≤ last_bus) rs

heard_all : (place other : ℕ) (rs : List WordRecord) → OfTwo rs → length (heard_on 0 place rs) + length (heard_on 1 other rs) ≡ length rs
unfolding heard_on
heard_all place other [] two = refl
heard_all place other (r ∷ rs) two = go r.bus two.0 (heard_all (suc place) (suc other) rs two.1)
  where
    go : (bus : ℕ) → bus ≤ last_bus → length (heard_on 0 (suc place) rs) + length (heard_on 1 (suc other) rs) ≡ length rs
        → length (cond (eqb bus 0) (record { place = place; heard = r } ∷ heard_on 0 (suc place) rs) (heard_on 0 (suc place) rs))
        + length (cond (eqb bus 1) (record { place = other; heard = r } ∷ heard_on 1 (suc other) rs) (heard_on 1 (suc other) rs))
        ≡ suc (length rs)
    go zero most again = omega (arith, again)
    go (suc zero) most again = omega (arith, again)
    go (suc (suc n)) most again = absurd (omega arith)

count_log : (rs : List WordRecord) → OfTwo rs → count_in (log_of rs) ≡ length rs
unfolding log_of entries_on
count_log rs two =
    let end = end_time (record { 0 = 0 }) rs in
    count_merged (entries_of (groups_of end (heard_on 0 0 rs))) (entries_of (groups_of end (heard_on 1 0 rs)))
    ∙ ap (λ (n : ℕ). n + count_in (entries_of (groups_of end (heard_on 1 0 rs)))) (count_of end (heard_on 0 0 rs))
    ∙ ap (λ (n : ℕ). length (heard_on 0 0 rs) + n) (count_of end (heard_on 1 0 rs))
    ∙ heard_all 0 0 rs two

count_at : (o : Result Cursor Refusal) (file : List ℕ) → count_in (log_at o file).entries ≡ (log_at o file).records
unfolding front_of
count_at (Err n) file = refl
count_at (Ok c) file =
    let bytes = drop c.at file in
    count_log (front_of bytes).taken (front_each (λ (r : WordRecord). r.bus ≤ last_bus) (λ r range. in_range_bus last_bus r range) (length bytes) 0 bytes)

pub every_record_once : EveryRecordOnce
unfolding file_log
every_record_once = (
  λ bus rs. records_of_lem (end_time (record { 0 = 0 }) rs) (heard_on bus 0 rs) ∙ heards_on bus 0 rs,
  λ file. count_at (open_of file) file,
)
