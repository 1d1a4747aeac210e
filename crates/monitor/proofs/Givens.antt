-- Each call that is asked for lessens what is left to do, so that the calls come to an end: goes_on_lem, comes_to_over, log_is_given. Assumes nothing.
use Rattle.std.proofs.Common.{◌≡◌, ℕ, zero, suc, ◌+◌, ◌<◌, ◌≤◌, Bool, true, false, cond, not, ◌&&◌, ltb, List, [], ◌∷◌, ◌++◌, length, drop, sym, refl, ap, ◌∙◌, subst, append-nil, arith, length-append, length-drop, ltb-false, ltb-true}
use Rattle.std.specs.Prelude.{Option, Some, None, Result}
use borrow.Author.Tests.{lt-leb}
use Rattle.words.specs.declared.refusals.Refusal.{Refusal}
use Rattle.words.specs.declared.refusals.Refusal.TheVariants.{ShortRecord}
use Rattle.records.specs.declared.forms.WordRecord.{WordRecord}
use Rattle.records.specs.Records.{last_bus}
use Rattle.records.proofs.Cases.{short}
use Rattle.monitor.specs.Machine.{side_start, ready_with, ready_of, is_feed, wants_more, stopped_by, read_with, read_by, fed_from, fed_of, ended_with, ended_by, given_of, choice_of}
use Rattle.monitor.specs.Theorems.{stop_of, Course, over, feed_first, end_first, give_first, feed_second, end_second, give_second, left_with, left_of, Feeds, Gives, GoesOn, Finishes, finished, feeds_first, feeds_second, gives_first, gives_second, ComesToOver, LogIsGiven}
use Rattle.monitor.specs.declared.entries.Logged.{Logged}
use Rattle.monitor.specs.declared.walks.Walk.{Walk}
use Rattle.monitor.specs.declared.walks.Stop.{Stop}
use Rattle.monitor.specs.declared.walks.Stop.TheVariants as stop
use Rattle.monitor.specs.declared.walks.Side.{Side}
use Rattle.monitor.specs.declared.sides.Fed.{Fed}
use Rattle.monitor.specs.declared.sides.Ready.{Ready}
use Rattle.monitor.specs.declared.sides.Ready.TheVariants as ready
use Rattle.monitor.specs.declared.sides.Choice.{Choice}
use Rattle.monitor.specs.declared.sides.Choice.TheVariants.{FeedFirst, FeedSecond, GiveFirst, GiveSecond, Over}
use Rattle.monitor.proofs.Feeding.{fed, fed_short, fed_one}
use Rattle.monitor.proofs.Courses.{wants_first, wants_second, Chosen, first_gives, first_gives_alone, second_gives, second_gives_alone, chosen}

-- ---- what a side has left to do

left_most : (x : Stop) (f : Option Logged) (bytes : ℕ) → left_with x f bytes ≤ bytes + 3
left_most stop.Reading None bytes = omega arith
left_most stop.Reading (Some e) bytes = omega arith
left_most stop.Ended None bytes = omega arith
left_most stop.Ended (Some e) bytes = omega arith
left_most (stop.Refused n) None bytes = omega arith
left_most (stop.Refused n) (Some e) bytes = omega arith
left_most (stop.Unnamed n) None bytes = omega arith
left_most (stop.Unnamed n) (Some e) bytes = omega arith

wanting : (f : Option Logged) (x : Stop) (bytes : ℕ) → is_feed (ready_with f x) ≡ true → left_with x f bytes ≡ bytes + 2
wanting None stop.Reading bytes h = refl
wanting None stop.Ended bytes h = absurd (cc)
wanting None (stop.Refused n) bytes h = absurd (cc)
wanting None (stop.Unnamed n) bytes h = absurd (cc)
wanting (Some e) x bytes h = absurd (cc)

left_wants : (s : Side) (us : List ℕ) → wants_more s ≡ true → left_of s us ≡ length us + 2
unfolding wants_more ready_of
left_wants s us h = wanting s.found s.stop (length us) h

-- ---- a chunk

-- no byte that was taken is given back
fed_least : (n : ℕ) (s : Side) (bytes : List ℕ) (at : ℕ) → at ≤ (fed_from n s bytes at).taken
unfolding fed_from
fed_least zero s bytes at = omega arith
fed_least (suc n) s bytes at = go (not (ltb (length bytes) 16) && wants_more s) (fed_least n (read_by s.walk bytes) (drop 16 bytes) (at + 16))
  where
    go : (b : Bool) → at + 16 ≤ (fed_from n (read_by s.walk bytes) (drop 16 bytes) (at + 16)).taken
        → at ≤ (cond b (fed_from n (read_by s.walk bytes) (drop 16 bytes) (at + 16)) (fed s at)).taken
    go true more = omega (arith, more)
    go false more = omega arith

-- of one that has a whole record at least that is taken
fed_record : (s : Side) (chunk : List ℕ) → wants_more s ≡ true → 16 ≤ length chunk → 16 ≤ (fed_of s chunk).taken
unfolding fed_of
fed_record s [] h l = absurd (omega arith)
fed_record s (u ∷ us) h l =
    subst (λ (f : Fed). 16 ≤ f.taken) (sym (fed_one (length us) s (u ∷ us) 0 l h))
    (fed_least (length us) (read_by s.walk (u ∷ us)) (drop 16 (u ∷ us)) (0 + 16))

less_fed : (s : Side) (us chunk rest : List ℕ) → wants_more s ≡ true → us ≡ chunk ++ rest → 16 ≤ length chunk
    → left_of (fed_of s chunk).side (drop (fed_of s chunk).taken us) < left_of s us
less_fed s us chunk rest h parts l =
    let f = fed_of s chunk in
    let whole : length us ≡ length chunk + length rest = ap length parts ∙ length-append chunk rest in
    omega (arith, left_most f.side.stop f.side.found (length (drop f.taken us)), length-drop f.taken us, fed_record s chunk h l, left_wants s us h, whole, l)

-- ---- the end

ended_stop : (w : Walk) (us : List ℕ) → length us < 16 → (n : Option Refusal) × ((ended_with w us).stop ≡ stop_of n)
unfolding stopped_by read_by
ended_stop w [] l = (None, refl)
ended_stop w (u ∷ us) l = (Some ShortRecord, ap (λ (g : Result WordRecord Refusal). (read_with w g).stop) (sym (short last_bus (u ∷ us) l)))

left_ended : (n : Option Refusal) (f : Option Logged) (bytes : ℕ) → left_with (stop_of n) f bytes ≤ 1
left_ended None None bytes = omega arith
left_ended None (Some e) bytes = omega arith
left_ended (Some n) None bytes = omega arith
left_ended (Some n) (Some e) bytes = omega arith

less_ended : (s : Side) (us : List ℕ) → wants_more s ≡ true → length us < 16 → left_of (ended_by s us) [] < left_of s us
unfolding ended_by
less_ended s us h l =
    let next = ended_with s.walk us in
    let ends = ended_stop s.walk us l in
    rw (lt-leb 16 (length us) l, h)
    (omega (arith, ap (λ (x : Stop). left_with x next.found 0) ends.1, left_ended ends.0 next.found 0, left_wants s us h))

feeds : (s : Side) (us : List ℕ) → wants_more s ≡ true → Feeds s us
unfolding fed_of
feeds s us h = record {
  fed = λ chunk rest. less_fed s us chunk rest h;
  ended = less_ended s us h;
  short = λ chunk few. fed_short (length chunk) s chunk 0 few;
}

-- ---- an entry

less_given : (s : Side) (us : List ℕ) (e : Logged) → s.found ≡ Some e → left_of (given_of s) us < left_of s us
unfolding given_of
less_given s us e h = subst (λ (f : Option Logged). left_with s.stop None (length us) < left_with s.stop f (length us)) (sym h) (go s.stop)
  where
    go : (x : Stop) → left_with x None (length us) < left_with x (Some e) (length us)
    go stop.Reading = omega arith
    go stop.Ended = omega arith
    go (stop.Refused n) = omega arith
    go (stop.Unnamed n) = omega arith

found_with_lem : (f : Option Logged) (x : Stop) (p : ℕ) → ready_with f x ≡ ready.Give p → (e : Logged) × (f ≡ Some e)
found_with_lem (Some e) x p h = (e, refl)
found_with_lem None stop.Reading p h = absurd (cc)
found_with_lem None stop.Ended p h = absurd (cc)
found_with_lem None (stop.Refused n) p h = absurd (cc)
found_with_lem None (stop.Unnamed n) p h = absurd (cc)

gives : (s : Side) (us : List ℕ) (p : ℕ) → ready_of s ≡ ready.Give p → Gives s us
unfolding ready_of
gives s us p h =
    let has = found_with_lem s.found s.stop p h in
    record { found = has; given = less_given s us has.0 has.1 }

-- ---- each call that is asked for

first_place_lem : (x y : Ready) → Chosen x y GiveFirst → (p : ℕ) × (x ≡ ready.Give p)
first_place_lem x y (first_gives p q less) = (p, refl)
first_place_lem x y (first_gives_alone p) = (p, refl)

second_place : (x y : Ready) → Chosen x y GiveSecond → (q : ℕ) × (y ≡ ready.Give q)
second_place x y (second_gives p q most) = (q, refl)
second_place x y (second_gives_alone q) = (q, refl)

pub goes_on_lem : GoesOn
goes_on_lem a b us vs = record {
  first_fed = λ h. feeds a us (wants_first a b h);
  second_fed = λ h. feeds b vs (wants_second a b h);
  first_given = λ h.
      let place = first_place_lem (ready_of a) (ready_of b) (subst (Chosen (ready_of a) (ready_of b)) h (chosen (ready_of a) (ready_of b))) in
      gives a us place.0 place.1;
  second_given = λ h.
      let place = second_place (ready_of a) (ready_of b) (subst (Chosen (ready_of a) (ready_of b)) h (chosen (ready_of a) (ready_of b))) in
      gives b vs place.0 place.1;
}

-- ---- so the calls come to an end

module _ (a : Side) (us : List ℕ) (b : Side) (vs : List ℕ)
    (again : (a' : Side) (us' : List ℕ) (b' : Side) (vs' : List ℕ) → left_of a' us' + left_of b' vs' < left_of a us + left_of b vs → Finishes a' us' b' vs') where
  finishes_by : (c : Choice) → choice_of (ready_of a) (ready_of b) ≡ c → Finishes a us b vs
  finishes_by FeedFirst h =
      let feeds = (goes_on_lem a b us vs).first_fed h in
      feeds_first h (λ chunk rest parts l. again (fed_of a chunk).side (drop (fed_of a chunk).taken us) b vs (omega (arith, feeds.fed chunk rest parts l)))
      (λ few. again (ended_by a us) [] b vs (omega (arith, feeds.ended few)))
  finishes_by FeedSecond h =
      let feeds = (goes_on_lem a b us vs).second_fed h in
      feeds_second h (λ chunk rest parts l. again a us (fed_of b chunk).side (drop (fed_of b chunk).taken vs) (omega (arith, feeds.fed chunk rest parts l)))
      (λ few. again a us (ended_by b vs) [] (omega (arith, feeds.ended few)))
  finishes_by GiveFirst h =
      let gives = (goes_on_lem a b us vs).first_given h in
      gives_first gives.found.0 h gives.found.1 (again (given_of a) us b vs (omega (arith, gives.given)))
  finishes_by GiveSecond h =
      let gives = (goes_on_lem a b us vs).second_given h in
      gives_second gives.found.0 h gives.found.1 (again a us (given_of b) vs (omega (arith, gives.given)))
  finishes_by Over h = finished h

finishes : (n : ℕ) (a : Side) (us : List ℕ) (b : Side) (vs : List ℕ) → left_of a us + left_of b vs < n → Finishes a us b vs
finishes zero a us b vs l = absurd (omega arith)
finishes (suc n) a us b vs l =
    finishes_by a us b vs (λ a' us' b' vs' less. finishes n a' us' b' vs' (omega (arith, l, less))) (choice_of (ready_of a) (ready_of b)) refl

pub comes_to_over : ComesToOver
comes_to_over a b us vs = finishes (suc (left_of a us + left_of b vs)) a us b vs (omega arith)

-- ---- the course

abbrev Given : Side → List ℕ → Side → List ℕ → Type 0
Given a us b vs = (es : List Logged) × (a' : Side) × (b' : Side) × Course a us b vs es a' b'

-- a whole record is left or not
by_length : {P : Type 0} (us : List ℕ) → (16 ≤ length us → P) → (length us < 16 → P) → P
by_length {P} us long short = go (ltb (length us) 16) refl
  where
    go : (few : Bool) → ltb (length us) 16 ≡ few → P
    go true e = short (ltb-true (length us) 16 e)
    go false e = long (ltb-false (length us) 16 e)

-- that of a caller who feeds all that is left
course : {a b : Side} {us vs : List ℕ} → Finishes a us b vs → Given a us b vs
course {a} {b} (finished h) = ([], a, b, over h)
course {us = us} (feeds_first h fed ended) =
    by_length us
    (λ l.
    let whole : us ≡ us ++ [] = sym (append-nil us) in
    let rest = course (fed us [] whole l) in
    (rest.0, rest.1, rest.2, feed_first us [] h whole rest.3))
    (λ l.
    let rest = course (ended l) in
    (rest.0, rest.1, rest.2, end_first h l rest.3))
course {vs = vs} (feeds_second h fed ended) =
    by_length vs
    (λ l.
    let whole : vs ≡ vs ++ [] = sym (append-nil vs) in
    let rest = course (fed vs [] whole l) in
    (rest.0, rest.1, rest.2, feed_second vs [] h whole rest.3))
    (λ l.
    let rest = course (ended l) in
    (rest.0, rest.1, rest.2, end_second h l rest.3))
course (gives_first e h q next) =
    let rest = course next in
    (e ∷ rest.0, rest.1, rest.2, give_first e h q rest.3)
course (gives_second e h q next) =
    let rest = course next in
    (e ∷ rest.0, rest.1, rest.2, give_second e h q rest.3)

pub log_is_given : LogIsGiven
log_is_given bytes = course (comes_to_over (side_start 0) (side_start 1) bytes bytes)
