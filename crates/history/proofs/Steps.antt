-- A call that is accepted, and one that is refused. Assumes nothing.
use mathlib.Core.Path.{◌≡◌, refl, sym, ap, ◌∙◌}
use Prim.Native.Nat.{ℕ, ◌^◌, ◌≤◌}
use mathlib.Core.Bool.{Bool, true, false, cond, ◌&&◌}
use mathlib.Core.List.{List, [], ◌∷◌, ◌++◌}
use lib.Dec.{eqb, leb}
use lib.ListN.{length}
use borrow.Author.Tests.{leb-true, lt-ltb, not-true}
use Rattle.words.specs.Words.{on_clock}
use Rattle.records.specs.Records.{last_bus, in_range}
use Rattle.records.specs.declared.forms.WordRecord.{WordRecord}
use Rattle.records.proofs.Ranges.{in_range_time}
use Rattle.terminal.specs.States.{own_of, setup_of, fresh_of}
use Rattle.terminal.specs.Rules.{rule1_receive}
use Rattle.terminal.specs.Events.{nothing_legal, set_up_refusal, set_up_by, set_up_of, terminal_of, time_of, is_in_range, event_refusal, passed_of, taken_of, happens_of, refused_of, event_of, event_receive}
use Rattle.terminal.specs.declared.states.Terminal.{Terminal as State}
use Rattle.terminal.specs.declared.events.Event.{Event}
use Rattle.terminal.specs.declared.events.Event.TheVariants.{Mark, Word}
use Rattle.terminal.specs.declared.events.Happened.{Happened}
use Rattle.history.specs.Calls.{Call, set_up, event, host, clear_selftest, restart, is_accepted, is_set_up, is_refused, step, run}
use Rattle.history.specs.Demands.{ShowsRefusal, ShowsNumberAlone, RefusalsKeep}
use Rattle.history.proofs.Tests.{false≢}
use Rattle.std.specs.Prelude.{Option, Some, None, is_none}
use Rattle.words.specs.declared.refusals.Refusal.{Refusal}
use Rattle.words.specs.declared.refusals.Refusal.TheVariants.{TableSize, OutOfRange, OutOfOrder}

-- ---- an event
module _ (s : State) (e : Event) (receive transmit : List ℕ) where
  pub accepted : is_accepted s e receive transmit ≡ true → event_of s e receive transmit ≡ happens_of s e transmit
  unfolding event_of
  accepted ok = rw ok

  pub accepted_table : is_accepted s e receive transmit ≡ true → event_receive s e receive transmit ≡ rule1_receive s (time_of e) receive
  unfolding event_receive
  accepted_table ok = rw ok

  pub stepped : is_accepted s e receive transmit ≡ true → step s (event e receive transmit) ≡ taken_of (passed_of s (time_of e) transmit) e
  unfolding step happens_of
  stepped ok = ap (λ (h : Happened). h.terminal) (accepted ok)

  pub refused : is_accepted s e receive transmit ≡ false
      → event_of s e receive transmit ≡ refused_of s (event_refusal s e (length receive) (length transmit))
  unfolding event_of
  refused bad = rw bad

  pub refused_table : is_accepted s e receive transmit ≡ false → event_receive s e receive transmit ≡ receive
  unfolding event_receive
  refused_table bad = rw bad

  pub refused_stays : is_accepted s e receive transmit ≡ false → step s (event e receive transmit) ≡ s
  unfolding step
  refused_stays bad = ap (λ (h : Happened). h.terminal) (refused bad)

-- what an accepted event shows
pub record Shown (s : State) (e : Event) (receive transmit : List ℕ) : Type 0 where
  pub tables : (eqb (length receive) 1024 && eqb (length transmit) 1024) ≡ true
  pub ranged : is_in_range e ≡ true
  pub ordered : leb s.time.0 (time_of e) ≡ true

pub shown : (s : State) (e : Event) (receive transmit : List ℕ) → is_accepted s e receive transmit ≡ true → Shown s e receive transmit
unfolding event_refusal
shown s e receive transmit h =
    go (eqb (length receive) 1024 && eqb (length transmit) 1024) refl (is_in_range e) refl (leb s.time.0 (time_of e)) refl h
  where
    go : (a : Bool) → (eqb (length receive) 1024 && eqb (length transmit) 1024) ≡ a
        → (b : Bool) → is_in_range e ≡ b
        → (d : Bool) → leb s.time.0 (time_of e) ≡ d
        → is_none (cond a (cond b (cond d None (Some OutOfOrder)) (Some OutOfRange)) (Some TableSize)) ≡ true
        → Shown s e receive transmit
    go true p true q true l z = record { tables = p; ranged = q; ordered = l }
    go true p true q false l z = false≢ z
    go true p false q d l z = false≢ z
    go false p b q d l z = false≢ z

pub accepts : (s : State) (e : Event) (receive transmit : List ℕ) → Shown s e receive transmit → is_accepted s e receive transmit ≡ true
unfolding event_refusal
accepts s e receive transmit p = rw (p.tables, p.ranged, p.ordered)

pub not_earlier : (s : State) (e : Event) (receive transmit : List ℕ) → is_accepted s e receive transmit ≡ true → s.time.0 ≤ time_of e
not_earlier s e receive transmit ok = leb-true s.time.0 (time_of e) (shown s e receive transmit ok).ordered

-- a record that is in range has a time on the clock
pub record_on_clock : (r : WordRecord) → in_range last_bus r ≡ true → on_clock r.time.0 ≡ true
record_on_clock r h = lt-ltb r.time.0 (2 ^ 48) (in_range_time last_bus r h)

-- a time mark of the moment of an accepted record is accepted
pub mark_accepted : (s : State) (r : WordRecord) (receive transmit : List ℕ) → is_accepted s (Word r) receive transmit ≡ true
    → is_accepted s (Mark r.time) receive transmit ≡ true
mark_accepted s r receive transmit ok =
    let p = shown s (Word r) receive transmit ok in
    accepts s (Mark r.time) receive transmit (record { tables = p.tables; ranged = record_on_clock r p.ranged; ordered = p.ordered })

-- ---- a set-up
module _ (address : ℕ) (receive transmit : List ℕ) where
  -- it gives the fresh terminal of what it was lent, or that with nothing legal
  pub set_up_either : (P : State → Type 0)
      → (is_set_up address receive transmit ≡ true → P (fresh_of (setup_of (own_of address) receive transmit)))
      → (is_set_up address receive transmit ≡ false → P (fresh_of nothing_legal))
      → P (terminal_of (set_up_of address receive transmit))
  unfolding set_up_of
  set_up_either P f g = go (set_up_refusal address (length receive) (length transmit)) refl
    where
      go : (o : Option Refusal) → set_up_refusal address (length receive) (length transmit) ≡ o
          → P (terminal_of (set_up_by o (fresh_of (setup_of (own_of address) receive transmit))))
      go None is = f (ap (λ (o : Option Refusal). is_none o) is)
      go (Some refusal) is = g (ap (λ (o : Option Refusal). is_none o) is)

  pub set_up_gives : is_set_up address receive transmit ≡ true
      → terminal_of (set_up_of address receive transmit) ≡ fresh_of (setup_of (own_of address) receive transmit)
  set_up_gives ok =
      set_up_either (λ (x : State). x ≡ fresh_of (setup_of (own_of address) receive transmit)) (λ is. refl) (λ bad. false≢ (sym bad ∙ ok))

  pub set_up_refused : is_set_up address receive transmit ≡ false → terminal_of (set_up_of address receive transmit) ≡ fresh_of nothing_legal
  set_up_refused bad = set_up_either (λ (x : State). x ≡ fresh_of nothing_legal) (λ ok. false≢ (sym bad ∙ ok)) (λ is. refl)

-- ---- a refused call
pub refusal_keeps : (s : State) (k : Call) → is_refused s k ≡ true → step s k ≡ s
unfolding step
refusal_keeps s (set_up address receive transmit) h = rw (not-true (is_set_up address receive transmit) h)
refusal_keeps s (event e receive transmit) h = refused_stays s e receive transmit (not-true (is_accepted s e receive transmit) h)
refusal_keeps s (host setting) h = false≢ h
refusal_keeps s clear_selftest h = false≢ h
refusal_keeps s restart h = false≢ h

shows_refusal : (address : ℕ) (receive transmit : List ℕ) → is_set_up address receive transmit ≡ false → ShowsRefusal address receive transmit
unfolding set_up_of
shows_refusal address receive transmit = go (set_up_refusal address (length receive) (length transmit)) refl
  where
    go : (o : Option Refusal) → set_up_refusal address (length receive) (length transmit) ≡ o → is_set_up address receive transmit ≡ false
        → ShowsRefusal address receive transmit
    go None is bad = false≢ (sym bad ∙ ap (λ (o : Option Refusal). is_none o) is)
    go (Some refusal) is bad = record { refusal = refusal; number = is; alone = rw is refl }

shows_number_alone : (s : State) (k : Call) → is_refused s k ≡ true → ShowsNumberAlone s k
shows_number_alone s (set_up address receive transmit) h = shows_refusal address receive transmit (not-true (is_set_up address receive transmit) h)
shows_number_alone s (event e receive transmit) h =
    let bad = not-true (is_accepted s e receive transmit) h in
    (refused s e receive transmit bad, refused_table s e receive transmit bad)
shows_number_alone s (host setting) h = tt
shows_number_alone s clear_selftest h = tt
shows_number_alone s restart h = tt

pub run_append : (s : State) (past future : List Call) → run s (past ++ future) ≡ run (run s past) future
unfolding run
run_append s [] future = refl
run_append s (k ∷ past) future = run_append (step s k) past future

pub refusals_keep : RefusalsKeep
unfolding run
refusals_keep s past k future h = (
  run_append s past (k ∷ future) ∙ ap (λ (x : State). run x future) (refusal_keeps (run s past) k h) ∙ sym (run_append s past future),
  shows_number_alone (run s past) k h,
)
