-- A message between terminals, within the limits, is answered as any other. Assumes nothing.
use mathlib.Core.Path.{◌≡◌, refl, sym, ap, ◌∙◌}
use Prim.Native.Nat.{ℕ, ◌+◌, ◌≤◌}
use mathlib.Core.Bool.{true, false, ◌&&◌, and-false}
use mathlib.Core.List.{List, [], ◌∷◌}
use native.Mathlib.Omega.{arith}
use lib.Dec.{eqb}
use lib.ListN.{length}
use borrow.Author.Tests.{le-ltb, eq-eqb}
use Rattle.words.specs.Words.{spacing_most, address_of, is_transmit, is_mode, is_broadcast, command_sync, awaited_of}
use Rattle.records.specs.declared.forms.WordRecord.{WordRecord}
use Rattle.terminal.specs.States.{with_message, at_time}
use Rattle.terminal.specs.Commands.{is_valid_record, is_own}
use Rattle.terminal.specs.Messages.{is_under_way, is_on, is_counting, is_whole, is_due, is_over, is_sending, is_second, is_status_from}
use Rattle.terminal.specs.Rules.{first_phase, begun_of, staged_of, moved_of, next_word, rules3to6}
use Rattle.terminal.specs.Events.{time_of}
use Rattle.terminal.specs.declared.states.Own.{Own}
use Rattle.terminal.specs.declared.states.Phase.{Phase}
use Rattle.terminal.specs.declared.states.Phase.TheVariants.{First, Pledged, Confirmed}
use Rattle.terminal.specs.declared.states.Message.{Message}
use Rattle.terminal.specs.declared.states.Sending.{Sending}
use Rattle.terminal.specs.declared.states.Terminal.{Terminal as State}
use Rattle.terminal.specs.declared.events.Event.TheVariants.{Word}
use Rattle.history.specs.Calls.{Call, set_up, event, host, clear_selftest, restart, is_accepted, step, run}
use Rattle.history.specs.Exchanges.{SecondCommand, Confirms, Stage, asked, pledged, confirmed, Exchange, between, second, status, first}
use Rattle.history.specs.Demands.{InTimeIsHeard, InTimeIsHeardAfterAnyPast}
use Rattle.history.specs.Calls.{after_past}
use Rattle.history.proofs.Steps.{stepped, not_earlier}
use Rattle.history.proofs.Times.{event_time, time_grows, spaced_most}
use Rattle.history.proofs.Phases.{none_missing, not_due, over_at_lem}
use Rattle.history.proofs.Ways.{Way, Gathered, passes, InTime, call_keeps, still_answer, rules_data, staged_gathered, word_moves, word_silent}
use Rattle.history.proofs.Carrying.{Arrived, behind, carry}
use Rattle.history.proofs.Begun.{begun_way}
use Rattle.history.proofs.Answered.{arrived_carried}
use Rattle.history.proofs.Reached.{reachable}
use Rattle.std.specs.Prelude.{Option}

-- ---- how far a message between terminals has come

abbrev phase_at : Stage → Phase
phase_at asked = First
phase_at (pledged address) = Pledged address
phase_at (confirmed last) = Confirmed

-- its last word, where a data word may be next
abbrev LastAt : WordRecord → Stage → ℕ → Type 0
LastAt r asked last = last ≡ r.time.0
LastAt r (pledged address) last = Unit {0}
LastAt r (confirmed time) last = last ≡ time

-- the other terminal is another
abbrev Other : Own → Stage → Type 0
Other own asked = Unit {0}
Other own (pledged address) = (eqb address own.address ≡ false) × (eqb address 31 ≡ false)
Other own (confirmed time) = Unit {0}

record Come (own : Own) (r : WordRecord) (stage : Stage) (m : Message) : Type 0 where
  phase : m.phase ≡ phase_at stage
  last : LastAt r stage m.last.0
  other : Other own stage
  on : m.bus ≡ r.bus
  command : m.command.0 ≡ r.word
  start : m.start.0 ≡ r.time.0
  got : m.got ≡ 0
  room : length m.words ≡ 32

-- ---- no rule of time acts within the limits

abbrev Within : WordRecord → Stage → ℕ → Type 0
Within r asked t = t ≤ r.time.0 + spacing_most
Within r (pledged address) t = t ≤ r.time.0 + 750
Within r (confirmed last) t = (t ≤ last + spacing_most) × (t ≤ r.time.0 + 750)

module _ {own : Own} {r : WordRecord} {m : Message} (some : 1 ≤ awaited_of r.word) (t : ℕ) where
  missing : {stage : Stage} → Come own r stage m → is_whole m ≡ false
  missing c = none_missing m r.word c.command some c.got

  not_over : (stage : Stage) → Come own r stage m → Within r stage t → is_over m t ≡ false
  not_over asked c within = over_at_lem m (missing c) First t c.phase ∙ le-ltb (m.last.0 + 205) t (omega (arith, within, c.last))
  not_over (pledged address) c within =
      over_at_lem m (missing c) (Pledged address) t c.phase ∙ le-ltb (m.start.0 + 750) t (omega (arith, within, c.start))
  not_over (confirmed last) c within =
      over_at_lem m (missing c) Confirmed t c.phase
      ∙ rw (le-ltb (m.last.0 + 205) t (omega (arith, within.0, c.last)), le-ltb (m.start.0 + 750) t (omega (arith, within.1, c.start))) refl

  rests : (stage : Stage) → Come own r stage m → Within r stage t → (is_due m t ≡ false) × (is_over m t ≡ false)
  rests stage c within = (not_due m (missing c) t, not_over stage c within)

-- what is to come within the limits comes after what is there
earlier_within : (r : WordRecord) (stage : Stage) (t u : ℕ) → t ≤ u → Within r stage u → Within r stage t
earlier_within r asked t u before within = omega (arith, before, within)
earlier_within r (pledged address) t u before within = omega (arith, before, within)
earlier_within r (confirmed last) t u before within = (omega (arith, before, within.0), omega (arith, before, within.1))

ahead : {r : WordRecord} {stage : Stage} {s : State} {words : List ℕ} {ks : List Call} {end : ℕ} → Exchange r stage s words ks end → Within r stage s.time.0
ahead {r} {stage} (between {s = s} {k = k} may course) = earlier_within r stage s.time.0 (step s k).time.0 (time_grows s r.bus k may) (ahead course)
ahead {r} (second {s = s} {x = x} {receive = receive} {transmit = transmit} is course) =
    omega (arith, not_earlier s (Word x) receive transmit is.accepted, spaced_most r.time.0 x.time.0 is.spaced)
ahead {r} (status {s = s} {x = x} {receive = receive} {transmit = transmit} is course) =
    let later = ahead course in
    omega (arith, not_earlier s (Word x) receive transmit is.accepted, event_time s (Word x) receive transmit is.accepted, later.1)
ahead {r} (first {s = s} {last = last} {x = x} {receive = receive} {transmit = transmit} next limit course) =
    let since = not_earlier s (Word x) receive transmit next.accepted in
    (omega (arith, since, spaced_most last x.time.0 next.spaced), omega (arith, since, limit))

-- it has data words
some_words : {r : WordRecord} {stage : Stage} {s : State} {words : List ℕ} {ks : List Call} {end : ℕ} → Exchange r stage s words ks end → 1 ≤ length words
some_words (between may course) = some_words course
some_words (second is course) = some_words course
some_words (status is course) = some_words course
some_words (first next limit course) = omega arith

-- ---- a command word of another terminal moves it on

module _ (begun : State) {m : Message} {s : State} (way : Way begun m s) (stage : Stage) {r : WordRecord} (c : Come s.setup.own r stage m)
    (x : WordRecord) (receive transmit : List ℕ) (ok : is_accepted s (Word x) receive transmit ≡ true) (on : x.bus ≡ r.bus)
    (in_time_lem : (is_due m x.time.0 ≡ false) × (is_over m x.time.0 ≡ false)) where
  stage_under_way : (stage : Stage) → is_under_way (phase_at stage) ≡ true
  stage_under_way asked = refl
  stage_under_way (pledged address) = refl
  stage_under_way (confirmed last) = refl

  is_on_lem : is_on s.message x.bus ≡ true
  unfolding is_on
  is_on_lem = rw (way.message, c.phase, stage_under_way stage, c.on, eq-eqb r.bus x.bus (sym on)) refl

  not_sending : is_sending s.sending x.bus x.time.0 ≡ false
  not_sending = ap (λ (y : Option Sending). is_sending y x.bus x.time.0) way.sending ∙ (unfold is_sending in refl)

  -- one that is no own command comes to rule 5
  comes : is_own s.setup.own x ≡ false
      → step s (event (Word x) receive transmit) ≡ next_word (phase_at stage) (at_time s x.time.0) x
  comes foreign =
      let s1 : State = at_time s x.time.0 in
      stepped s (Word x) receive transmit ok
      ∙ ap (λ (y : State). rules3to6 y x) (passes begun m s way r.bus c.on x.time.0 transmit in_time_lem)
      ∙ rules_data s1 x not_sending foreign is_on_lem
      ∙ ap (λ (p : Phase). next_word p s1 x) (ap (λ (y : Message). y.phase) way.message ∙ c.phase)

  moves : (p : Phase) → step s (event (Word x) receive transmit) ≡ with_message (at_time s x.time.0) (moved_of s.message p x)
      → Way begun (moved_of m p x) (step s (event (Word x) receive transmit))
  moves p is =
      rw is (record { setup = way.setup; held = way.held; message = ap (λ (y : Message). moved_of y p x) way.message; sending = way.sending })

-- it has then come to another stage
moved_come : {own : Own} {r : WordRecord} {before : Stage} {m : Message} → Come own r before m
    → (stage : Stage) (x : WordRecord) → LastAt r stage x.time.0
    → Other own stage
    → Come own r stage (moved_of m (phase_at stage) x)
unfolding moved_of
moved_come c stage x last other = record {
  phase = refl;
  last = last;
  other = other;
  on = c.on;
  command = c.command;
  start = c.start;
  got = c.got;
  room = c.room;
}

-- a command word to another address than ours and 31 is no own command
another_foreign : (own : Own) (x : WordRecord) → eqb (address_of x.word) own.address ≡ false → is_broadcast x.word ≡ false → is_own own x ≡ false
unfolding is_own
another_foreign own x another one = rw (another, one, and-false (is_valid_record x && eqb x.sync command_sync))

module _ (begun : State) {m : Message} {s : State} (way : Way begun m s) {r : WordRecord} (some : 1 ≤ awaited_of r.word) where
  -- the second command word
  module _ (c : Come s.setup.own r asked m) (x : WordRecord) (receive transmit : List ℕ) (is : SecondCommand s r x receive transmit) where
    second_in_time : (is_due m x.time.0 ≡ false) × (is_over m x.time.0 ≡ false)
    second_in_time = rests some x.time.0 asked c (spaced_most r.time.0 x.time.0 is.spaced)

    is_second_lem : is_second s.setup.own s.message x ≡ true
    unfolding is_second
    is_second_lem =
        rw (way.message, c.last, c.command, is.valid, is.sync, is.spaced, is.transmits, is.another, is.one, is.plain, eq-eqb _ _ is.count) refl

    second_moves : Way begun (moved_of m (Pledged (address_of x.word)) x) (step s (event (Word x) receive transmit))
    unfolding next_word
    second_moves =
        moves begun way asked c x receive transmit is.accepted is.on second_in_time _
        (comes begun way asked c x receive transmit is.accepted is.on second_in_time (another_foreign s.setup.own x is.another is.one)
        ∙ rw is_second_lem refl)

    second_come : Come s.setup.own r (pledged (address_of x.word)) (moved_of m (Pledged (address_of x.word)) x)
    second_come = moved_come c (pledged (address_of x.word)) x tt (is.another, is.one)

  -- the status that it asked for
  module _ (address : ℕ) (c : Come s.setup.own r (pledged address) m) (x : WordRecord) (receive transmit : List ℕ)
      (is : Confirms s r.bus address x receive transmit) (limit : x.time.0 ≤ r.time.0 + 750) where
    status_in_time : (is_due m x.time.0 ≡ false) × (is_over m x.time.0 ≡ false)
    status_in_time = rests some x.time.0 (pledged address) c limit

    status_moves : Way begun (moved_of m Confirmed x) (step s (event (Word x) receive transmit))
    unfolding next_word is_status_from
    status_moves =
        let another : eqb (address_of x.word) s.setup.own.address ≡ false = rw is.from c.other.0 in
        let one : is_broadcast x.word ≡ false = rw is.from c.other.1 in
        moves begun way (pledged address) c x receive transmit is.accepted is.on status_in_time _
        (comes begun way (pledged address) c x receive transmit is.accepted is.on status_in_time (another_foreign s.setup.own x another one)
        ∙ rw (is.valid, is.sync, eq-eqb (address_of x.word) address is.from) refl)

    status_come : Come s.setup.own r (confirmed x.time.0) (moved_of m Confirmed x)
    status_come = moved_come c (confirmed x.time.0) x refl tt

-- after the status its data words are gathered as those of any other
come_gathered : {own : Own} {r : WordRecord} {last : ℕ} {m : Message} → Come own r (confirmed last) m → Gathered r.bus r.word last [] m
come_gathered c = record {
  counts = ap is_counting c.phase;
  on = c.on;
  asked = c.command;
  last = c.last;
  got = c.got;
  kept = refl;
  room = c.room;
}

-- ---- the whole course

in_time_between : {begun : State} {m : Message} {s : State} (way : Way begun m s) {stage : Stage} {r : WordRecord} (c : Come s.setup.own r stage m)
    → 1 ≤ awaited_of r.word
    → (k : Call) {words : List ℕ} {ks : List Call} {end : ℕ} → Exchange r stage (step s k) words ks end
    → InTime begun m s way r.bus c.on k
in_time_between {s = s} way {stage} c some (event e receive transmit) course =
    λ ok. rests some (time_of e) stage c (rw (event_time s e receive transmit ok) at (ahead course))
in_time_between way c some (set_up address receive transmit) course = tt
in_time_between way c some (host setting) course = tt
in_time_between way c some clear_selftest course = tt
in_time_between way c some restart course = tt

-- the own address stays
own_come : {begun : State} {m : Message} {s : State} (way : Way begun m s) {r : WordRecord} {stage : Stage} {x : Message} → Come begun.setup.own r stage x
    → Come s.setup.own r stage x
own_come way c = rw way.setup c

own_back : {begun : State} {m : Message} {s : State} (way : Way begun m s) {r : WordRecord} {stage : Stage} {x : Message} → Come s.setup.own r stage x
    → Come begun.setup.own r stage x
own_back way c = rw way.setup at c

enough : {r : WordRecord} {stage : Stage} {s : State} {words : List ℕ} {ks : List Call} {end : ℕ} → length words ≡ awaited_of r.word
    → Exchange r stage s words ks end
    → 1 ≤ awaited_of r.word
enough all course = omega (arith, some_words course)

exchange : (begun : State) {r : WordRecord} {stage : Stage} {s : State} {m : Message} {words : List ℕ} {ks : List Call} {end : ℕ}
    → Way begun m s
    → Come begun.setup.own r stage m
    → length words ≡ awaited_of r.word
    → Exchange r stage s words ks end
    → Arrived begun r.bus r.word end words s ks
unfolding run staged_of
exchange begun {s = s} {m = m} way c all (between {k = k} may course) =
    let here = own_come way c in
    let kept = call_keeps begun m s way _ here.on k may (in_time_between way here (enough all course) k course) in
    behind kept.1 (exchange begun kept.0 c all course)
exchange begun {s = s} way c all (second {x = x} {receive = receive} {transmit = transmit} is course) =
    let here = own_come way c in
    let some = enough all course in
    let in_time_lem = second_in_time begun way some here x receive transmit is in
    behind (still_answer s (Word x) receive transmit is.accepted (rw way.message in_time_lem.0))
    (exchange begun (second_moves begun way some here x receive transmit is) (own_back way (second_come begun way some here x receive transmit is)) all course)
exchange begun {r} {s = s} way c all (status {address = address} {x = x} {receive = receive} {transmit = transmit} is course) =
    let here = own_come way c in
    let some = enough all course in
    let limit : x.time.0 ≤ r.time.0 + 750 = omega (arith, event_time s (Word x) receive transmit is.accepted, (ahead course).1) in
    let in_time_lem = status_in_time begun way some address here x receive transmit is limit in
    behind (still_answer s (Word x) receive transmit is.accepted (rw way.message in_time_lem.0))
    (exchange begun (status_moves begun way some address here x receive transmit is limit)
    (own_back way (status_come begun way some address here x receive transmit is limit)) all course)
exchange begun {r} way c all (first {last = last} {words = more} {x = x} {receive = receive} {transmit = transmit} next limit course) =
    let g = come_gathered c in
    let some : 1 ≤ awaited_of r.word = omega arith in
    let in_time_lem = rests some x.time.0 (confirmed last) c (spaced_most last x.time.0 next.spaced, omega (arith, limit)) in
    behind (word_silent begun way g x receive transmit next more (omega (arith, all)) in_time_lem)
    (carry begun r.bus r.word (x.word ∷ [])
    (word_moves begun way g x receive transmit next more (omega (arith, all)) in_time_lem)
    (staged_gathered g x (omega arith))
    refl
    (omega arith)
    course)

-- ---- the statement

-- a receive command that is no mode command begins it
begun_come : (own : Own) (r : WordRecord) → is_transmit r.word ≡ false → is_mode r.word ≡ false → Come own r asked (begun_of r)
unfolding begun_of first_phase
begun_come own r receives plain = record {
  phase = rw (receives, plain) refl;
  last = refl;
  other = tt;
  on = refl;
  command = refl;
  start = refl;
  got = refl;
  room = refl;
}

pub in_time_is_heard : InTimeIsHeard
in_time_is_heard s few r receive transmit k receives plain words all ks end course =
    let begun : State = step s (event (Word r) receive transmit) in
    arrived_carried s few r receive transmit k words all ks end
    (exchange begun (begun_way s r receive transmit k) (begun_come begun.setup.own r receives plain) all course)

pub in_time_is_heard_after_any_past : InTimeIsHeardAfterAnyPast
in_time_is_heard_after_any_past past = in_time_is_heard (after_past past) (reachable past).address
