-- A message on its way to its answer: what calls that may come leave as it is, and how a data word moves it on. Assumes nothing.
use mathlib.Core.Path.{◌≡◌, refl, ap, ◌∙◌}
use Prim.Native.Nat.{ℕ, ◌+◌, ◌-◌, ◌≤◌}
use mathlib.Core.Bool.{Bool, true, false}
use mathlib.Core.List.{List, ◌∷◌}
use native.Mathlib.Omega.{arith}
use lib.Dec.{leb}
use borrow.Author.Tests.{leb-true}
use Rattle.words.specs.Words.{spacing_most, is_spaced}
use Rattle.words.specs.declared.times.Moment.{Moment}
use Rattle.records.specs.declared.forms.WordRecord.{WordRecord}
use Rattle.terminal.specs.Rules.{rule4, rules3to6, faulty_of}
use Rattle.terminal.specs.Events.{time_of, passed_of, taken_of}
use Rattle.terminal.specs.declared.states.Terminal.{Terminal as State}
use Rattle.terminal.specs.declared.events.Event.{Event}
use Rattle.terminal.specs.declared.events.Event.TheVariants.{Mark, Word}
use Rattle.history.specs.Calls.{Call, set_up, event, host, clear_selftest, restart, is_accepted, is_refused, step}
use Rattle.history.specs.Courses.{is_harmless, may_come, Course, between, word}
use Rattle.history.proofs.Tests.{false≢, and_right, or_cases}
use Rattle.history.proofs.Steps.{stepped, refused_stays, refusal_keeps, not_earlier}
use Rattle.history.proofs.Moving.{rules_keep}

-- ---- the time of the last event

rules_time : (s : State) (r : WordRecord) → (rules3to6 s r).time ≡ s.time
unfolding faulty_of rule4
rules_time = rules_keep (λ (x : State). x.time) (λ x kind. refl) (λ x m. refl) (λ x w. refl)

-- an accepted event sets it
pub event_time : (s : State) (e : Event) (receive transmit : List ℕ) → is_accepted s e receive transmit ≡ true
    → (step s (event e receive transmit)).time.0 ≡ time_of e
event_time s e receive transmit ok = ap (λ (x : State). x.time.0) (stepped s e receive transmit ok) ∙ go e
  where
    go : (e : Event) → (taken_of (passed_of s (time_of e) transmit) e).time.0 ≡ time_of e
    go (Mark t) = unfold passed_of in refl
    go (Word r) = ap (λ (x : Moment). x.0) (rules_time (passed_of s r.time.0 transmit) r) ∙ (unfold passed_of in refl)

-- no call that may come sets it back
pub time_grows : (s : State) (bus : ℕ) (k : Call) → may_come s bus k ≡ true → s.time.0 ≤ (step s k).time.0
time_grows s bus k may =
    or_cases (is_refused s k) (is_harmless s.setup.own bus k) may
    (λ refusal. rw (refusal_keeps s k refusal) (omega arith))
    (λ harmless. go k harmless)
  where
    go : (k : Call) → is_harmless s.setup.own bus k ≡ true → s.time.0 ≤ (step s k).time.0
    go (set_up address receive transmit) h = false≢ h
    go (event e receive transmit) h = by (is_accepted s e receive transmit) refl
      where
        by : (b : Bool) → is_accepted s e receive transmit ≡ b → s.time.0 ≤ (step s (event e receive transmit)).time.0
        by true ok = rw (event_time s e receive transmit ok) (not_earlier s e receive transmit ok)
        by false bad = rw (refused_stays s e receive transmit bad) (omega arith)
    go (host setting) h = unfold step in omega arith
    go clear_selftest h = unfold step in omega arith
    go restart h = false≢ h

-- ---- while a word is to come, and will come in time, nothing before it is late

pub spaced_most : (last t : ℕ) → is_spaced last t ≡ true → t ≤ last + spacing_most
unfolding is_spaced
spaced_most last t h =
    let most : leb (t - last) spacing_most ≡ true = search (and_right, h) in
    omega (arith, leb-true (t - last) spacing_most most)

pub ahead : {bus last end x : ℕ} {s : State} {words : List ℕ} {ks : List Call} → Course bus s last (x ∷ words) ks end → s.time.0 ≤ last + spacing_most
ahead {bus} (between {s = s} {k = k} may before rest) = omega (arith, time_grows s bus k may, ahead rest)
ahead (word {s = s} {last = last} {r = r} {receive = receive} {transmit = transmit} next rest) =
    omega (arith, not_earlier s (Word r) receive transmit next.accepted, spaced_most last r.time.0 next.spaced)
