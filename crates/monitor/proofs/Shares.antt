-- Of the log in order, the entries of each bus are those of its walk. Assumes nothing.
use Rattle.std.proofs.Common.{◌≡◌, ℕ, Bool, true, false, cond, ltb, List, [], ◌∷◌, sym, refl, ap, ◌∙◌, arith, eq-eqb, ne_eqb}
use Rattle.words.specs.declared.times.Moment.{Moment}
use Rattle.records.specs.declared.forms.WordRecord.{WordRecord}
use Rattle.monitor.specs.Entries.{is_command, message_of, entry_of}
use Rattle.monitor.specs.Logs.{Group, groups_on, entries_of, entries_on, among, merged, log_of}
use Rattle.monitor.specs.Theorems.{bus_of, of_bus, LogOfEachBus, Each}
use Rattle.monitor.specs.declared.entries.Entry.TheVariants as entry
use Rattle.monitor.specs.declared.entries.Logged.{Logged}
use Rattle.monitor.proofs.Places.{AtGroup, groups_on_lem}

-- ---- the entries of a bus's walk are of that bus

abbrev Of : ℕ → Logged → Type 0
Of bus e = bus_of e.entry ≡ bus

bus_entry : (first : WordRecord) (rest : List WordRecord) (until : Moment) → bus_of (entry_of first rest until) ≡ first.bus
unfolding entry_of message_of
bus_entry first rest until = go (is_command first)
  where
    go : (b : Bool) → bus_of (cond b (entry.Message (message_of first rest until)) (entry.Single first)) ≡ first.bus
    go true = refl
    go false = refl

bus_groups : (all : List WordRecord) (bus : ℕ) (gs : List Group) → Each (AtGroup all bus) gs → Each (Of bus) (entries_of gs)
bus_groups all bus [] each = tt
bus_groups all bus (g ∷ gs) each = (bus_entry g.first g.rest g.until ∙ each.0.2, bus_groups all bus gs each.1)

bus_on : (bus : ℕ) (rs : List WordRecord) → Each (Of bus) (entries_on bus rs)
unfolding entries_on
bus_on bus rs = bus_groups rs bus (groups_on bus rs) (groups_on_lem rs bus)

-- ---- so they are told apart in the merged log

all_of : (bus : ℕ) (es : List Logged) → Each (Of bus) es → of_bus bus es ≡ es
all_of bus [] each = refl
all_of bus (e ∷ es) each = rw (eq-eqb (bus_of e.entry) bus each.0) (ap (λ (l : List Logged). e ∷ l) (all_of bus es each.1))

none_of : (bus other : ℕ) (es : List Logged) → (other ≡ bus → ⊥) → Each (Of other) es → of_bus bus es ≡ []
none_of bus other [] differ each = refl
none_of bus other (e ∷ es) differ each =
    rw (ne_eqb (bus_of e.entry) bus (λ same. differ (sym each.0 ∙ same))) (none_of bus other es differ each.1)

-- of the first bus
first_among : (fs : List Logged) (e : Logged) (es : List Logged) (after : List Logged → List Logged) → Of 0 e → Each (Of 1) fs
    → ((gs : List Logged) → Each (Of 1) gs → of_bus 0 (after gs) ≡ es) → of_bus 0 (among e after fs) ≡ e ∷ es
first_among [] e es after own each all = rw (eq-eqb (bus_of e.entry) 0 own) (ap (λ (l : List Logged). e ∷ l) (all [] tt))
first_among (f ∷ fs) e es after own each all = go (ltb e.place f.place) (first_among fs e es after own each.1 all)
  where
    go : (b : Bool) → of_bus 0 (among e after fs) ≡ e ∷ es → of_bus 0 (cond b (e ∷ after (f ∷ fs)) (f ∷ among e after fs)) ≡ e ∷ es
    go true again = rw (eq-eqb (bus_of e.entry) 0 own) (ap (λ (l : List Logged). e ∷ l) (all (f ∷ fs) each))
    go false again = rw (ne_eqb (bus_of f.entry) 0 (λ same. omega (arith, same, each.0))) again

first_merged : (es : List Logged) → Each (Of 0) es → (fs : List Logged) → Each (Of 1) fs → of_bus 0 (merged es fs) ≡ es
unfolding merged
first_merged [] own fs each = none_of 0 1 fs (λ same. omega (arith, same)) each
first_merged (e ∷ es) own fs each = first_among fs e es (merged es) own.0 each (first_merged es own.1)

-- and of the second
second_among : (fs : List Logged) (e : Logged) (after : List Logged → List Logged) → Of 0 e → Each (Of 1) fs
    → ((gs : List Logged) → Each (Of 1) gs → of_bus 1 (after gs) ≡ gs) → of_bus 1 (among e after fs) ≡ fs
second_among [] e after own each all = rw (ne_eqb (bus_of e.entry) 1 (λ same. omega (arith, same, own))) (all [] tt)
second_among (f ∷ fs) e after own each all = go (ltb e.place f.place) (second_among fs e after own each.1 all)
  where
    go : (b : Bool) → of_bus 1 (among e after fs) ≡ fs → of_bus 1 (cond b (e ∷ after (f ∷ fs)) (f ∷ among e after fs)) ≡ f ∷ fs
    go true again = rw (ne_eqb (bus_of e.entry) 1 (λ same. omega (arith, same, own))) (all (f ∷ fs) each)
    go false again = rw (eq-eqb (bus_of f.entry) 1 each.0) (ap (λ (l : List Logged). f ∷ l) again)

second_merged : (es : List Logged) → Each (Of 0) es → (fs : List Logged) → Each (Of 1) fs → of_bus 1 (merged es fs) ≡ fs
unfolding merged
second_merged [] own fs each = all_of 1 fs each
second_merged (e ∷ es) own fs each = second_among fs e (merged es) own.0 each (second_merged es own.1)

pub log_of_each_bus : LogOfEachBus
unfolding log_of
log_of_each_bus rs =
    (first_merged (entries_on 0 rs) (bus_on 0 rs) (entries_on 1 rs) (bus_on 1 rs), second_merged (entries_on 0 rs) (bus_on 0 rs) (entries_on 1 rs) (bus_on 1 rs))
