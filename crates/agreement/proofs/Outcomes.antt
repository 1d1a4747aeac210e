-- The verdict that a log gives on a message: that of the controller's plan on what comes behind its own words. Assumes nothing.
use mathlib.Core.Path.{◌≡◌, refl, sym, ap, ◌∙◌}
use Prim.Native.Nat.{ℕ, suc, ◌≤◌}
use mathlib.Core.Bool.{Bool, true, false, ◌&&◌}
use mathlib.Core.List.{List, [], ◌∷◌, ◌++◌}
use native.Mathlib.Omega.{arith}
use lib.ListN.{length, take, drop, length-append}
use lib.Seq.{take-length, drop-length, take-append-le, drop-append-le}
use borrow.Author.Tests.{le-ltb, ne_eqb}
use Rattle.words.specs.Words.{is_spaced, awaited_of}
use Rattle.words.specs.declared.times.Moment.{Moment}
use Rattle.records.specs.declared.forms.WordRecord.{WordRecord}
use Rattle.history.proofs.Tests.{and_left, and_right}
use Rattle.verdict.specs.Plans.{is_pair, is_possible}
use Rattle.verdict.specs.Verdicts.{verdict_of}
use Rattle.verdict.specs.declared.plans.Plan.{Plan}
use Rattle.monitor.specs.Entries.{is_command, is_second, last_in, is_spoiled, has_twins, plan_with, outcome_in}
use Rattle.monitor.specs.declared.entries.Commands.TheVariants as commands
use Rattle.std.specs.Prelude.{Some}
use Rattle.agreement.specs.Agreement.{BackToBack}
use Rattle.agreement.proofs.Heard.{spaced_apart}
use Rattle.agreement.proofs.Joined.{Alone}

-- ---- data words back to back

pub last_append : (first : WordRecord) (rs more : List WordRecord) → last_in first (rs ++ more) ≡ last_in (last_in first rs) more
last_append first [] more = refl
last_append first (r ∷ rs) more = last_append r rs more

-- no two of them have one time
pub data_twins : (bus : ℕ) (first : WordRecord) (ds more : List WordRecord) → BackToBack bus first.time.0 ds
    → has_twins (last_in first ds) more ≡ false
    → has_twins first (ds ++ more) ≡ false
data_twins bus first [] more spaced none = none
data_twins bus first (d ∷ ds) more spaced none =
    let apart = spaced_apart first.time.0 d.time.0 spaced.2 in
    rw (ne_eqb d.time.0 first.time.0 (λ same. omega (arith, same, apart.0))) (data_twins bus d ds more spaced.3 none)

-- none is invalid or badly spaced
data_sound : (bus t : ℕ) (ds more : List WordRecord) → BackToBack bus t ds → is_spoiled (length ds) t (ds ++ more) ≡ false
data_sound bus t [] more spaced = refl
data_sound bus t (d ∷ ds) more spaced = rw (spaced.1, spaced.2) (data_sound bus d.time.0 ds more spaced.3)

-- ---- the outcome of one command

-- the plan of a message of one command, its last own word at that time
abbrev pub plan_at : WordRecord → Moment → Moment → Plan
plan_at c last until = plan_with (commands.One (record { 0 = c.word })) c.bus last until

outcome_one : (c : WordRecord) (rest : List WordRecord) (until : Moment) (n : ℕ) → Alone c rest → awaited_of c.word ≡ n
    → is_possible (plan_at c (last_in c (take n rest)).time until) ≡ true
    → is_spoiled n c.time.0 rest ≡ false
    → n ≤ length rest
    → has_twins c rest ≡ false
    → outcome_in c rest until ≡ Some (verdict_of (plan_at c (last_in c (take n rest)).time until) (drop n rest))
unfolding outcome_in
outcome_one c [] until n alone awaited possible fit all twins = rw (awaited, possible, fit, le-ltb 0 n all)
outcome_one c (r ∷ rs) until n alone awaited possible fit all twins =
    rw (alone, awaited, possible, fit, le-ltb (suc (length rs)) n all, twins)

-- with its own words in front of the returned ones
pub outcome_own : (bus : ℕ) (c : WordRecord) (ds more : List WordRecord) (until : Moment) → Alone c (ds ++ more)
    → length ds ≡ awaited_of c.word
    → BackToBack bus c.time.0 ds
    → is_possible (plan_at c (last_in c ds).time until) ≡ true
    → has_twins c (ds ++ more) ≡ false
    → outcome_in c (ds ++ more) until ≡ Some (verdict_of (plan_at c (last_in c ds).time until) more)
outcome_own bus c ds more until alone awaited spaced possible twins =
    let own : take (length ds) (ds ++ more) ≡ ds = take-append-le (length ds) ds more (omega arith) ∙ take-length ds in
    let returned : drop (length ds) (ds ++ more) ≡ more =
    drop-append-le (length ds) ds more (omega arith) ∙ ap (λ (l : List WordRecord). l ++ more) (drop-length ds) in
    outcome_one c (ds ++ more) until (length ds) alone (sym awaited) (rw own possible) (data_sound bus c.time.0 ds more spaced)
    (simp length-append (omega arith)) twins
    ∙ rw (own, returned)

-- ---- that of two

-- a second command is one, comes 195 to 205 after the first, and is a pair with it
pub second_parts : (c second : WordRecord) → is_second c second ≡ true
    → (is_command second ≡ true) × (is_spaced c.time.0 second.time.0 ≡ true) × (is_pair c.word second.word ≡ true)
unfolding is_second
second_parts c second directly =
    let spaced : Bool = is_spaced c.time.0 second.time.0 in
    let front = and_left _ _ directly in
    (and_left _ _ front, and_right (is_command second) _ front, and_right (is_command second && spaced) _ directly)

-- the controller's own words are the two
pub outcome_two : (c second : WordRecord) (rest : List WordRecord) (until : Moment) → is_second c second ≡ true → has_twins c (second ∷ rest) ≡ false
    → outcome_in c (second ∷ rest) until
    ≡ Some (verdict_of (plan_with (commands.Two (record { 0 = c.word }) (record { 0 = second.word })) c.bus second.time until) rest)
unfolding outcome_in is_possible
outcome_two c second rest until directly twins = rw (directly, (second_parts c second directly).2, le-ltb (length rest) 0 (omega arith), twins)
