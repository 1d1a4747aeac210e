-- A message on its way to its answer: what calls that may come leave as it is, and how a data word moves it on. Assumes nothing.
use mathlib.Core.Path.{◌≡◌, refl, sym, ap, ◌∙◌}
use Prim.Native.Nat.{ℕ, suc, ◌+◌, ◌≤◌, ◌<◌}
use mathlib.Core.Bool.{Bool, true, false, not, ◌&&◌, and-false}
use mathlib.Core.List.{List, [], ◌∷◌, ◌++◌}
use native.Mathlib.Omega.{arith}
use lib.Dec.{eqb, ltb, leb}
use lib.ListN.{length, take, length-append, length-set}
use lib.Seq.{take-suc-set}
use borrow.Author.Tests.{le-ltb, lt-ltb, lt-leb, eq-eqb, ne_eqb, eqb-false, not-true}
use Rattle.words.specs.Words.{due_distance, spacing_most, command_sync, data_sync, awaited_of}
use Rattle.std.proofs.lemmas.Bool.{and_parts}
use Rattle.records.specs.declared.forms.WordRecord.{WordRecord}
use Rattle.terminal.specs.States.{with_selftest, no_sending, with_message, at_time}
use Rattle.terminal.specs.Commands.{is_valid_record, is_own}
use Rattle.terminal.specs.Messages.{is_under_way, is_on, is_counting, awaits_data, is_whole, is_due, is_late, is_between, awaits_first, is_overdue, is_over, is_sending, is_next_data, is_second}
use Rattle.terminal.specs.Settling.{no_answer}
use Rattle.terminal.specs.Rules.{rule1_answer, staged_of, next_data, next_word, rule5, rules3to6}
use Rattle.terminal.specs.Events.{time_of, passed_of, taken_of, happens_of, event_of}
use Rattle.terminal.specs.declared.states.Own.{Own}
use Rattle.terminal.specs.declared.states.Phase.{Phase}
use Rattle.terminal.specs.declared.states.Phase.TheVariants.{Idle, First, Pledged, Confirmed, Data}
use Rattle.terminal.specs.declared.states.Message.{Message}
use Rattle.terminal.specs.declared.states.Sending.{Sending}
use Rattle.terminal.specs.declared.states.Terminal.{Terminal as State}
use Rattle.terminal.specs.declared.events.Event.{Event}
use Rattle.terminal.specs.declared.events.Event.TheVariants.{Mark, Word}
use Rattle.terminal.specs.declared.events.Happened.{Happened}
use Rattle.history.specs.Calls.{Call, set_up, event, host, clear_selftest, restart, is_accepted, is_set_up, step, answer_in}
use Rattle.history.specs.Courses.{NextWord, is_harmless, may_come}
use Rattle.history.proofs.Tests.{false≢, or_cases}
use Rattle.history.proofs.Steps.{accepted, stepped, refused, refused_stays, refusal_keeps}
use Rattle.history.proofs.Passing.{still}
use Rattle.history.proofs.Marks.{passed_over}
use Rattle.history.proofs.Phases.{counting_under_way}
use Rattle.std.specs.Prelude.{Option}

-- the terminal as the command left it, but for the host's parts, the self-test request, the time and the message, which is now m
pub record Way (begun : State) (m : Message) (s : State) : Type 0 where
  pub setup : s.setup ≡ begun.setup
  pub held : with_selftest s.held false ≡ with_selftest begun.held false
  pub message : s.message ≡ m
  pub sending : s.sending ≡ no_sending

-- a message on that bus, begun by that command word, its last word at that time, with those data words
pub record Gathered (bus command latest : ℕ) (words : List ℕ) (m : Message) : Type 0 where
  pub counts : is_counting m.phase ≡ true
  pub on : m.bus ≡ bus
  pub asked : m.command.0 ≡ command
  pub last : m.last.0 ≡ latest
  pub got : m.got ≡ length words
  pub kept : take (length words) m.words ≡ words
  pub room : length m.words ≡ 32

-- ---- no rule of time acts before its time

-- at t: before the due time where no word is to come, within the spacing where one is
abbrev pub Calm : List ℕ → ℕ → ℕ → Type 0
Calm [] last t = t < last + due_distance
Calm (x ∷ rest) last t = t ≤ last + spacing_most

module _ {bus command latest : ℕ} {words : List ℕ} {m : Message} (g : Gathered bus command latest words m) where
  pub not_due : (rest : List ℕ) (t : ℕ) → length words + length rest ≡ awaited_of command → Calm rest latest t → is_due m t ≡ false
  unfolding is_due is_whole
  not_due [] t all calm = rw (g.last, lt-leb (latest + due_distance) t calm) (and-false (is_counting m.phase && leb (awaited_of m.command.0) m.got))
  not_due (x ∷ rest) t all calm = rw (g.counts, g.asked, g.got, lt-leb (awaited_of command) (length words) (omega arith))

  not_late : (rest : List ℕ) (t : ℕ) → length words + length rest ≡ awaited_of command → Calm rest latest t → is_late m t ≡ false
  unfolding is_late awaits_data
  not_late [] t all calm = rw (g.counts, g.asked, g.got, le-ltb (length words) (awaited_of command) (omega arith))
  not_late (x ∷ rest) t all calm = rw (g.last, le-ltb (latest + spacing_most) t calm) (and-false (is_counting m.phase && ltb m.got (awaited_of m.command.0)))

  -- nor is one overdue that awaits no first word of another terminal
  pub not_over : is_between m.phase ≡ false → (rest : List ℕ) (t : ℕ) → length words + length rest ≡ awaited_of command → Calm rest latest t
      → is_over m t ≡ false
  unfolding is_overdue awaits_first
  not_over direct rest t all calm = rw (not_late rest t all calm, direct)

pub still_answer : (s : State) (e : Event) (receive transmit : List ℕ) → is_accepted s e receive transmit ≡ true
    → is_due s.message (time_of e) ≡ false
    → (event_of s e receive transmit).answer ≡ no_answer
unfolding happens_of rule1_answer
still_answer s e receive transmit ok due = rw (accepted s e receive transmit ok, due)

-- ---- a call that may come leaves the message as it is, and carries no answer

module _ (begun : State) (m : Message) (s : State) (way : Way begun m s) (bus : ℕ) (on : m.bus ≡ bus) where
  -- a record on another bus misses it
  off : (r : WordRecord) → not (eqb r.bus bus) ≡ true → is_on s.message r.bus ≡ false
  unfolding is_on
  off r h =
      let apart : eqb bus r.bus ≡ false = ne_eqb bus r.bus (λ e. eqb-false r.bus bus (not-true (eqb r.bus bus) h) (sym e)) in
      rw (way.message, on, apart) (and-false (is_under_way m.phase))

  -- nothing is due and no time over
  abbrev pub Rests : ℕ → Type 0
  Rests t = (is_due m t ≡ false) × (is_over m t ≡ false)

  pub passes : (t : ℕ) (transmit : List ℕ) → Rests t → passed_of s t transmit ≡ at_time s t
  passes t transmit rests = still s t transmit (rw way.message rests.0) (rw way.message rests.1)

  takes : (e : Event) (receive transmit : List ℕ) → is_harmless s.setup.own bus (event e receive transmit) ≡ true
      → taken_of (at_time s (time_of e)) e ≡ at_time s (time_of e)
  takes (Mark t) receive transmit harmless = refl
  takes (Word r) receive transmit harmless =
      let own : Bool = is_own s.setup.own r in
      let parts = and_parts (not (eqb r.bus bus)) (not own) harmless in
      passed_over (at_time s r.time.0) r (not-true own parts.1) (off r parts.0)

  event_keeps : (e : Event) (receive transmit : List ℕ) → is_accepted s e receive transmit ≡ true
      → is_harmless s.setup.own bus (event e receive transmit) ≡ true
      → Rests (time_of e)
      → Way begun m (step s (event e receive transmit))
  event_keeps e receive transmit ok harmless rests =
      rw (stepped s e receive transmit ok, passes (time_of e) transmit rests, takes e receive transmit harmless)
      (record { setup = way.setup; held = way.held; message = way.message; sending = way.sending })

  -- where an accepted event comes at a time at which nothing is due and no time over
  abbrev pub InTime : Call → Type 0
  InTime (event e receive transmit) = is_accepted s e receive transmit ≡ true → Rests (time_of e)
  InTime (set_up address receive transmit) = Unit {0}
  InTime (host setting) = Unit {0}
  InTime clear_selftest = Unit {0}
  InTime restart = Unit {0}

  pub call_keeps : (k : Call) → may_come s bus k ≡ true → InTime k → Way begun m (step s k) × (answer_in s k ≡ no_answer)
  unfolding step
  call_keeps (event e receive transmit) may in_time_lem = go (is_accepted s e receive transmit) refl
    where
      go : (b : Bool) → is_accepted s e receive transmit ≡ b
          → Way begun m (step s (event e receive transmit)) × ((event_of s e receive transmit).answer ≡ no_answer)
      go true ok =
          let harmless : is_harmless s.setup.own bus (event e receive transmit) ≡ true = rw ok at may in (
            event_keeps e receive transmit ok harmless (in_time_lem ok),
            still_answer s e receive transmit ok (rw way.message (in_time_lem ok).0),
          )
      go false bad = (
        rw (refused_stays s e receive transmit bad) way,
        ap (λ (h : Happened). h.answer) (refused s e receive transmit bad),
      )
  call_keeps (set_up address receive transmit) may in_time_lem =
      (rw (refusal_keeps s (set_up address receive transmit) (or_cases (not (is_set_up address receive transmit)) false may (λ h. h) (λ h. false≢ h))) way, refl)
  call_keeps (host setting) may in_time_lem =
      (record { setup = way.setup; held = way.held; message = way.message; sending = way.sending }, refl)
  call_keeps clear_selftest may in_time_lem =
      (record { setup = way.setup; held = way.held; message = way.message; sending = way.sending }, refl)
  call_keeps restart may in_time_lem = false≢ may

-- ---- a data word moves it on

-- a word with data sync is no command: neither an own one nor a second one
data_foreign : (own : Own) (r : WordRecord) → r.sync ≡ data_sync → is_own own r ≡ false
unfolding is_own
data_foreign own r sync =
    let no_command : eqb r.sync command_sync ≡ false = rw sync in
    rw (no_command, and-false (is_valid_record r))

data_not_second : (own : Own) (m : Message) (r : WordRecord) → r.sync ≡ data_sync → is_second own m r ≡ false
unfolding is_second
data_not_second own m r sync =
    let no_command : eqb r.sync command_sync ≡ false = rw sync in
    rw (no_command, and-false (is_valid_record r))

-- rule 5 takes the next data word of a message that counts its words
rule5_data : (p : Phase) (s : State) (r : WordRecord) → is_counting p ≡ true → r.sync ≡ data_sync → awaits_data s.message ≡ true
    → is_next_data s.message r ≡ true
    → next_word p s r ≡ with_message s (staged_of s.message r)
unfolding next_word next_data
rule5_data Idle s r counts sync awaits next = false≢ counts
rule5_data (Pledged address) s r counts sync awaits next = false≢ counts
rule5_data Data s r counts sync awaits next = rw (awaits, next)
rule5_data Confirmed s r counts sync awaits next = rw (awaits, next)
rule5_data First s r counts sync awaits next = rw (data_not_second s.setup.own s.message r sync, awaits, next)

-- rules 3 to 6 come to rule 5
pub rules_data : (s : State) (r : WordRecord) → is_sending s.sending r.bus r.time.0 ≡ false → is_own s.setup.own r ≡ false
    → is_on s.message r.bus ≡ true
    → rules3to6 s r ≡ next_word s.message.phase s r
unfolding rules3to6 rule5
rules_data s r quiet foreign on = rw (quiet, foreign, on)

-- one more word
pub staged_gathered : {bus command latest : ℕ} {words : List ℕ} {m : Message} → Gathered bus command latest words m → (r : WordRecord)
    → length words < 32
    → Gathered bus command r.time.0 (words ++ (r.word ∷ [])) (staged_of m r)
unfolding staged_of
staged_gathered {words = words} {m = m} g r few =
    let longer : length (words ++ (r.word ∷ [])) ≡ suc (length words) = simp length-append (omega arith) in
    record {
      counts = refl;
      on = g.on;
      asked = g.asked;
      last = refl;
      got = rw (g.got, longer) (omega arith);
      kept = rw (longer, g.got, take-suc-set m.words (length words) r.word (rw g.room few)) (ap (λ (l : List ℕ). l ++ (r.word ∷ [])) g.kept);
      room = length-set m.words m.got r.word ∙ g.room;
    }

module _ (begun : State) {m : Message} {s : State} (way : Way begun m s) {bus command latest : ℕ} {words : List ℕ} (g : Gathered bus command latest words m)
    (r : WordRecord) (receive transmit : List ℕ) (next : NextWord s bus latest r receive transmit) (rest : List ℕ)
    (all : length words + length (r.word ∷ rest) ≡ awaited_of command)
    (in_time_lem : (is_due m r.time.0 ≡ false) × (is_over m r.time.0 ≡ false)) where
  awaits : awaits_data s.message ≡ true
  unfolding awaits_data
  awaits = rw (way.message, g.counts, g.asked, g.got, lt-ltb (length words) (awaited_of command) (omega arith))

  is_next : is_next_data s.message r ≡ true
  unfolding is_next_data
  is_next = rw (way.message, g.last, next.valid, next.sync, next.spaced)

  is_on_lem : is_on s.message r.bus ≡ true
  unfolding is_on
  is_on_lem = rw (way.message, counting_under_way m.phase g.counts, g.on, eq-eqb bus r.bus (sym next.on))

  not_sending : is_sending s.sending r.bus r.time.0 ≡ false
  not_sending = ap (λ (x : Option Sending). is_sending x r.bus r.time.0) way.sending ∙ (unfold is_sending in refl)

  moved : step s (event (Word r) receive transmit) ≡ with_message (at_time s r.time.0) (staged_of s.message r)
  moved =
      let s1 : State = at_time s r.time.0 in
      let counts : is_counting s.message.phase ≡ true = ap (λ (x : Message). is_counting x.phase) way.message ∙ g.counts in
      stepped s (Word r) receive transmit next.accepted
      ∙ ap (λ (x : State). rules3to6 x r) (passes begun m s way bus g.on r.time.0 transmit in_time_lem)
      ∙ rules_data s1 r not_sending (data_foreign s.setup.own r next.sync) is_on_lem
      ∙ rule5_data s.message.phase s1 r counts next.sync awaits is_next

  pub word_moves : Way begun (staged_of m r) (step s (event (Word r) receive transmit))
  word_moves =
      rw moved
      (record { setup = way.setup; held = way.held; message = ap (λ (x : Message). staged_of x r) way.message; sending = way.sending })

  pub word_silent : (event_of s (Word r) receive transmit).answer ≡ no_answer
  word_silent = still_answer s (Word r) receive transmit next.accepted (rw way.message in_time_lem.0)
