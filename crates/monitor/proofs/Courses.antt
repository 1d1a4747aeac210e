-- Any course of calls gives the log of the file. Assumes nothing.
use Rattle.std.proofs.Common.{◌≡◌, ℕ, ◌+◌, ◌^◌, ◌<◌, Bool, true, false, cond, ltb, ◌⊎◌, List, [], ◌∷◌, length, get_or, sym, refl, ap, ◌∙◌, subst, inl, inr, ⊎_elim, arith}
use Rattle.std.specs.Prelude.{Option, Some, None}
use Rattle.records.specs.Records.{last_bus}
use Rattle.records.specs.Files.{open_of}
use Rattle.records.specs.declared.forms.WordRecord.{WordRecord}
use Rattle.records.proofs.Ranges.{in_range_time}
use Rattle.monitor.specs.Logs.{entries_on, merged, log_of, front_of, file_log}
use Rattle.monitor.specs.Machine.{side_start, ready_with, ready_of, is_feed, given_of, wants_more, choice_alone, choice_against, choice_of}
use Rattle.monitor.specs.Theorems.{stop_of, Course, over, feed_first, end_first, give_first, feed_second, end_second, give_second, LogOfTheFile}
use Rattle.monitor.specs.declared.entries.Logged.{Logged}
use Rattle.monitor.specs.declared.walks.Stop.{Stop}
use Rattle.monitor.specs.declared.walks.Stop.TheVariants as stop
use Rattle.monitor.specs.declared.walks.Side.{Side}
use Rattle.monitor.specs.declared.sides.Ready.{Ready}
use Rattle.monitor.specs.declared.sides.Ready.TheVariants as ready
use Rattle.monitor.specs.declared.sides.Choice.{Choice}
use Rattle.monitor.specs.declared.sides.Choice.TheVariants.{FeedFirst, FeedSecond, GiveFirst, GiveSecond, Over}
use Rattle.monitor.proofs.Summaries.{next_fits}
use Rattle.monitor.proofs.Groups.{walk_entries}
use Rattle.monitor.proofs.Futures.{front_each, front_few, Told, records_after, told, told_ended, told_fed, told_given, told_over_lem}

-- ---- what a choice says of the two sides

pub data Chosen : Ready → Ready → Choice → Type 0 where
  first_feeds : (y : Ready) → Chosen ready.Feed y FeedFirst
  second_feeds : (p : ℕ) → Chosen (ready.Give p) ready.Feed FeedSecond
  second_feeds_alone : Chosen ready.Over ready.Feed FeedSecond
  first_gives : (p q : ℕ) → ltb p q ≡ true → Chosen (ready.Give p) (ready.Give q) GiveFirst
  first_gives_alone : (p : ℕ) → Chosen (ready.Give p) ready.Over GiveFirst
  second_gives : (p q : ℕ) → ltb p q ≡ false → Chosen (ready.Give p) (ready.Give q) GiveSecond
  second_gives_alone : (q : ℕ) → Chosen ready.Over (ready.Give q) GiveSecond
  both_over : Chosen ready.Over ready.Over Over

pub chosen : (x y : Ready) → Chosen x y (choice_of x y)
unfolding choice_alone choice_against
chosen ready.Feed y = first_feeds y
chosen (ready.Give p) ready.Feed = second_feeds p
chosen (ready.Give p) ready.Over = first_gives_alone p
chosen (ready.Give p) (ready.Give q) = go (ltb p q) refl
  where
    go : (b : Bool) → ltb p q ≡ b → Chosen (ready.Give p) (ready.Give q) (cond b GiveFirst GiveSecond)
    go true h = first_gives p q h
    go false h = second_gives p q h
chosen ready.Over ready.Feed = second_feeds_alone
chosen ready.Over (ready.Give q) = second_gives_alone q
chosen ready.Over ready.Over = both_over

-- the side that is fed wants more
first_wants : (x y : Ready) → Chosen x y FeedFirst → is_feed x ≡ true
first_wants x y (first_feeds k) = refl

second_wants : (x y : Ready) → Chosen x y FeedSecond → is_feed y ≡ true
second_wants x y (second_feeds p) = refl
second_wants x y second_feeds_alone = refl

-- ---- the entries in order

found_place : (s : Side) (e : Logged) → s.found ≡ Some e → ready_of s ≡ ready.Give e.place
unfolding ready_of
found_place s e h = ap (λ (f : Option Logged). ready_with f s.stop) h

-- a side that has an entry to give is to tell it first
gives : (s : Side) (us : List ℕ) (p : ℕ) → ready_of s ≡ ready.Give p → (e : Logged) × (rest : List Logged) × (e.place ≡ p) × ((told s us).entries ≡ e ∷ rest)
unfolding ready_of
gives s us p h = go s.found s.stop refl h
  where
    go : (f : Option Logged) (x : Stop) → s.found ≡ f → ready_with f x ≡ ready.Give p → (e : Logged) × (rest : List Logged) × (e.place ≡ p) × ((told s us).entries ≡ e ∷ rest)
    go (Some e) x q h = (e, (told (given_of s) us).entries, cc, ap (λ (t : Told). t.entries) (told_given s us e q))
    go None stop.Reading q h = absurd (cc)
    go None stop.Ended q h = absurd (cc)
    go None (stop.Refused n) q h = absurd (cc)
    go None (stop.Unnamed n) q h = absurd (cc)

merged_first : (e : Logged) (es fs : List Logged) → ((f : Logged) (rest : List Logged) → fs ≡ f ∷ rest → ltb e.place f.place ≡ true) → merged (e ∷ es) fs ≡ e ∷ merged es fs
unfolding merged
merged_first e es [] less = refl
merged_first e es (f ∷ fs) less = rw (less f fs refl)

merged_second : (f : Logged) (es fs : List Logged) → ((e : Logged) (rest : List Logged) → es ≡ e ∷ rest → ltb e.place f.place ≡ false) → merged es (f ∷ fs) ≡ f ∷ merged es fs
unfolding merged
merged_second f [] fs most = refl
merged_second f (e ∷ es) fs most = rw (most e es refl)

-- where the first gives, the other is over or its entry comes later; where the second gives, the first is over or its entry does not come before
first_less : (x y : Ready) → Chosen x y GiveFirst → (p : ℕ) → x ≡ ready.Give p → (y ≡ ready.Over) ⊎ ((q : ℕ) × (y ≡ ready.Give q) × (ltb p q ≡ true))
first_less x y (first_gives a b less) p e = let same : a ≡ p = cc in inr (b, refl, subst (λ (k : ℕ). ltb k b ≡ true) same less)
first_less x y (first_gives_alone a) p e = inl refl

second_most : (x y : Ready) → Chosen x y GiveSecond → (q : ℕ) → y ≡ ready.Give q → (x ≡ ready.Over) ⊎ ((p : ℕ) × (x ≡ ready.Give p) × (ltb p q ≡ false))
second_most x y (second_gives a b most) q e = let same : b ≡ q = cc in inr (a, refl, subst (λ (k : ℕ). ltb a k ≡ false) same most)
second_most x y (second_gives_alone b) q e = inl refl

both_ends : (x y : Ready) → Chosen x y Over → (x ≡ ready.Over) × (y ≡ ready.Over)
both_ends x y both_over = (refl, refl)

-- ---- any course

abbrev Ends : Side → Told → Type 0
Ends s t = (s.stop ≡ t.stop) × (s.walk.records ≡ t.records)

-- what a course comes to, from what the sides are to tell
abbrev Says : List Logged → Side → Side → Told → Told → Type 0
Says es a b t u = (es ≡ merged t.entries u.entries) × Ends a t × Ends b u

-- what is told first
none_first : (s : Side) (us : List ℕ) (f : Logged) (rest : List Logged) → ready_of s ≡ ready.Over → (told s us).entries ≡ f ∷ rest → ⊥
none_first s us f rest h e = omega (arith, ap length (sym (told_over_lem s us h).0 ∙ e))

same_place : (s : Side) (us : List ℕ) (f : Logged) (rest : List Logged) (q : ℕ) → ready_of s ≡ ready.Give q → (told s us).entries ≡ f ∷ rest → f.place ≡ q
same_place s us f rest q h e =
    let g = gives s us q h in
    let same : f ∷ rest ≡ g.0 ∷ g.1 = sym e ∙ g.3 in
    ap (λ (l : List Logged). (get_or l 0 f).place) same ∙ g.2

pub wants_first : (a b : Side) → choice_of (ready_of a) (ready_of b) ≡ FeedFirst → wants_more a ≡ true
unfolding wants_more
wants_first a b h = first_wants (ready_of a) (ready_of b) (subst (Chosen (ready_of a) (ready_of b)) h (chosen (ready_of a) (ready_of b)))

pub wants_second : (a b : Side) → choice_of (ready_of a) (ready_of b) ≡ FeedSecond → wants_more b ≡ true
unfolding wants_more
wants_second a b h = second_wants (ready_of a) (ready_of b) (subst (Chosen (ready_of a) (ready_of b)) h (chosen (ready_of a) (ready_of b)))

-- what the first gives comes before all that the second is to tell, and the other way round
given_first : (a b : Side) (us vs : List ℕ) (e : Logged) → choice_of (ready_of a) (ready_of b) ≡ GiveFirst → a.found ≡ Some e
    → merged (told a us).entries (told b vs).entries ≡ e ∷ merged (told (given_of a) us).entries (told b vs).entries
given_first a b us vs e h q =
    ap (λ (t : Told). merged t.entries (told b vs).entries) (told_given a us e q)
    ∙ merged_first e (told (given_of a) us).entries (told b vs).entries
    (λ f rest m.
    ⊎_elim
    (λ over. absurd (none_first b vs f rest over m))
    (λ later. subst (λ (k : ℕ). ltb e.place k ≡ true) (sym (same_place b vs f rest later.0 later.1 m)) later.2)
    (first_less (ready_of a) (ready_of b) (subst (Chosen (ready_of a) (ready_of b)) h (chosen (ready_of a) (ready_of b))) e.place (found_place a e q)))

given_second : (a b : Side) (us vs : List ℕ) (e : Logged) → choice_of (ready_of a) (ready_of b) ≡ GiveSecond → b.found ≡ Some e
    → merged (told a us).entries (told b vs).entries ≡ e ∷ merged (told a us).entries (told (given_of b) vs).entries
given_second a b us vs e h q =
    ap (λ (t : Told). merged (told a us).entries t.entries) (told_given b vs e q)
    ∙ merged_second e (told a us).entries (told (given_of b) vs).entries
    (λ f rest m.
    ⊎_elim
    (λ over. absurd (none_first a us f rest over m))
    (λ later. subst (λ (k : ℕ). ltb k e.place ≡ false) (sym (same_place a us f rest later.0 later.1 m)) later.2)
    (second_most (ready_of a) (ready_of b) (subst (Chosen (ready_of a) (ready_of b)) h (chosen (ready_of a) (ready_of b))) e.place (found_place b e q)))

says_over : (a b : Side) (us vs : List ℕ) → choice_of (ready_of a) (ready_of b) ≡ Over → Says [] a b (told a us) (told b vs)
unfolding merged
says_over a b us vs h =
    let ends = both_ends (ready_of a) (ready_of b) (subst (Chosen (ready_of a) (ready_of b)) h (chosen (ready_of a) (ready_of b))) in
    let first = told_over_lem a us ends.0 in
    let second = told_over_lem b vs ends.1 in
    (sym (ap (λ (l : List Logged). merged l (told b vs).entries) first.0 ∙ second.0), (first.1, first.2), (second.1, second.2))

course_says : {a b a' b' : Side} {us vs : List ℕ} {es : List Logged} → Course a us b vs es a' b' → Says es a' b' (told a us) (told b vs)
course_says {a} {b} {a'} {b'} {us} {vs} (over h) = says_over a b us vs h
course_says {a} {b} {a'} {b'} {us} {vs} {es} (feed_first chunk rest h e next) =
    subst (λ (t : Told). Says es a' b' t (told b vs)) (told_fed a chunk rest us e) (course_says next)
course_says {a} {b} {a'} {b'} {us} {vs} {es} (end_first h l next) =
    subst (λ (t : Told). Says es a' b' t (told b vs)) (told_ended a us (wants_first a b h) l) (course_says next)
course_says {a} {b} {a'} {b'} {us} {vs} (give_first e h q next) =
    let again = course_says next in (
      ap (λ (l : List Logged). e ∷ l) again.0 ∙ sym (given_first a b us vs e h q),
      subst (Ends a') (sym (told_given a us e q)) again.1,
      again.2,
    )
course_says {a} {b} {a'} {b'} {us} {vs} {es} (feed_second chunk rest h e next) =
    subst (λ (t : Told). Says es a' b' (told a us) t) (told_fed b chunk rest vs e) (course_says next)
course_says {a} {b} {a'} {b'} {us} {vs} {es} (end_second h l next) =
    subst (λ (t : Told). Says es a' b' (told a us) t) (told_ended b vs (wants_second a b h) l) (course_says next)
course_says {a} {b} {a'} {b'} {us} {vs} (give_second e h q next) =
    let again = course_says next in (
      ap (λ (l : List Logged). e ∷ l) again.0 ∙ sym (given_second a b us vs e h q),
      again.1,
      subst (Ends b') (sym (told_given b vs e q)) again.2,
    )

-- ---- from the start

records_after_lem : (rs : List WordRecord) (n : ℕ) → n + length rs < 2 ^ 64 → records_after n rs ≡ n + length rs
records_after_lem [] n few = omega arith
records_after_lem (r ∷ rs) n few =
    ap (λ (k : ℕ). records_after k rs) (next_fits n (omega (arith, few))) ∙ records_after_lem rs (n + 1) (omega (arith, few)) ∙ omega arith

from_start : (bus : ℕ) (bytes : List ℕ) → length bytes < 2 ^ 64
    → told (side_start bus) bytes
    ≡ record { entries = entries_on bus (front_of bytes).taken; stop = stop_of (front_of bytes).refusal; records = length (front_of bytes).taken }
unfolding told side_start front_of
from_start bus bytes few =
    let taken = (front_of bytes).taken in
    let most : length (front_of bytes).taken < 2 ^ 64 = omega (arith, front_few (length bytes) 0 bytes, few) in
    rw (walk_entries bus taken most (front_each (λ (r : WordRecord). r.time.0 < 2 ^ 64) (λ r range. omega (arith, in_range_time last_bus r range)) (length bytes) 0 bytes), records_after_lem taken 0 (omega (arith, most)))
    (ap (λ (k : ℕ). record { entries = entries_on bus taken; stop = stop_of (front_of bytes).refusal; records = k }) (omega arith))

pub log_of_the_file : LogOfTheFile
unfolding file_log open_of log_of
log_of_the_file bytes few es a b course =
    let says =
    subst (λ (t : Told). Says es a b t (told (side_start 1) bytes)) (from_start 0 bytes few)
    (course_says course) in
    subst (λ (t : Told). Says es a b (record { entries = entries_on 0 (front_of bytes).taken; stop = stop_of (front_of bytes).refusal; records = length (front_of bytes).taken }) t) (from_start 1 bytes few) says
