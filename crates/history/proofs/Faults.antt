-- `marks_fault` says it of an event exactly where its rules come to a fault. Assumes nothing.
use mathlib.Core.Path.{◌≡◌, refl, sym, ap, ◌∙◌}
use Prim.Native.Nat.{ℕ}
use mathlib.Core.Bool.{Bool, true, false, not, cond, ◌&&◌, ◌||◌, or-true}
use mathlib.Core.List.{List}
use borrow.Author.Tests.{not-true}
use Rattle.std.proofs.lemmas.Bool.{and_parts}
use Rattle.records.specs.declared.forms.WordRecord.{WordRecord}
use Rattle.terminal.specs.States.{at_time}
use Rattle.terminal.specs.Commands.{is_own, is_exempt}
use Rattle.terminal.specs.Messages.{is_under_way, is_on, awaits_data, is_whole, is_due, is_late, awaits_first, is_overdue, is_over, is_next_data, is_second}
use Rattle.terminal.specs.Rules.{settled_of, rule1, faulty_of, time_fault, rule2, rule3, first_phase, begun_of, rule4, staged_of, moved_of, fault_in, next_data, next_word, rule5, rules3to6}
use Rattle.terminal.specs.Events.{time_of, passed_of, taken_of}
use Rattle.terminal.specs.declared.states.SpacingFault.{SpacingFault}
use Rattle.terminal.specs.declared.states.Phase.{Phase}
use Rattle.terminal.specs.declared.states.Phase.TheVariants.{Idle, First, Pledged, Confirmed, Data}
use Rattle.terminal.specs.declared.states.Message.{Message}
use Rattle.terminal.specs.declared.states.Terminal.{Terminal as State}
use Rattle.terminal.specs.declared.events.Event.{Event}
use Rattle.terminal.specs.declared.events.Event.TheVariants.{Mark, Word}
use Rattle.history.specs.States.{is_next_word, is_bad_word, word_kind, EventFault, no_fault, a_fault, is_fault, word_fault, fault_of, marks_fault, MadeFaulty, ComesToFault, by_time, by_word}
use Rattle.history.specs.Demands.{FaultExactly}
use Rattle.history.proofs.Tests.{true≢, false≢, cond_cases, and_left, and_right, or_false, or_cases}
use Rattle.history.proofs.Phases.{counting_under_way, awaits_missing, over_under_way}
use Rattle.history.proofs.Passing.{still, passed_under_way}
use Rattle.history.proofs.Begun.{first_counts}
use Rattle.std.specs.Prelude.{Option}

-- ---- an event shows a fault by its time or by its word

abbrev pub has_bad_word : State → Event → Bool
has_bad_word s (Mark t) = false
has_bad_word s (Word r) = is_bad_word s r

one_if_lem : (b : Bool) (kind : Option SpacingFault) → is_fault (cond b (a_fault kind) no_fault) ≡ b
one_if_lem true kind = refl
one_if_lem false kind = refl

by_word_if : (s : State) (e : Event) → is_fault (word_fault s e) ≡ has_bad_word s e
by_word_if s (Mark t) = refl
by_word_if s (Word r) = one_if_lem (is_bad_word s r) (word_kind s.message r)

either_if : (over : Bool) (kind : Option SpacingFault) (f : EventFault) (bad : Bool) → is_fault f ≡ bad → is_fault (cond over (a_fault kind) f) ≡ (over || bad)
either_if true kind f bad h = refl
either_if false kind f bad h = h

pub fault_either : (s : State) (e : Event) (transmit : List ℕ)
    → is_fault (fault_of s e transmit) ≡ (is_over s.message (time_of e) || has_bad_word (passed_of s (time_of e) transmit) e)
fault_either s e transmit = either_if (is_over s.message (time_of e)) _ _ _ (by_word_if (passed_of s (time_of e) transmit) e)

-- ---- a marked fault comes of the rules

-- a message whose time is over is not whole, and so not due
pub over_missing : (m : Message) (t : ℕ) → is_over m t ≡ true → is_whole m ≡ false
unfolding is_late is_overdue awaits_first
over_missing m t over =
    or_cases (is_late m t) (is_overdue m t) over (λ late. awaits_missing m (search (and_left, late)))
    (λ overdue. not-true (is_whole m) (search (and_left, and_right, overdue)))

pub over_not_due : (m : Message) (t : ℕ) → is_over m t ≡ true → is_due m t ≡ false
unfolding is_due
over_not_due m t over = rw (over_missing m t over)

pub due_in_time : (m : Message) (t : ℕ) → is_due m t ≡ true → is_over m t ≡ false
due_in_time m t due = go (is_over m t) refl
  where
    go : (b : Bool) → is_over m t ≡ b → b ≡ false
    go true over = true≢ (sym due ∙ over_not_due m t over)
    go false in_time_lem = refl

-- rule 1 leaves what is not due
pub not_settled : (s : State) (t : ℕ) (transmit : List ℕ) → is_due s.message t ≡ false → rule1 s t transmit ≡ s
unfolding rule1
not_settled s t transmit not_due = rw not_due

-- by its time
pub over_faulty : (s : State) (t : ℕ) (transmit : List ℕ) → is_over s.message t ≡ true
    → (rule1 s t transmit ≡ s) × (rule2 s t ≡ faulty_of s (time_fault s.message))
unfolding rule2
over_faulty s t transmit over = (not_settled s t transmit (over_not_due s.message t over), rw over)

-- by its word
bad_next : (p : Phase) (s : State) (r : WordRecord) → is_next_word p s r ≡ false → next_word p s r ≡ faulty_of s (fault_in s.message r)
unfolding next_word next_data
bad_next Idle s r bad = true≢ bad
bad_next Data s r bad = rw bad
bad_next Confirmed s r bad = rw bad
bad_next First s r bad =
    or_false (is_second s.setup.own s.message r) (awaits_data s.message && is_next_data s.message r) bad
    (λ no_second no_data. rw (no_second, no_data))
bad_next (Pledged address) s r bad = rw bad

pub bad_faulty : (s : State) (r : WordRecord) → is_bad_word s r ≡ true → rules3to6 s r ≡ faulty_of s (fault_in s.message r)
unfolding rules3to6 rule5
bad_faulty s r bad =
    let quiet : rule3 s r ≡ false = not-true (rule3 s r) (search (and_left, and_right, bad)) in
    let foreign : is_own s.setup.own r ≡ false = not-true (is_own s.setup.own r) (search (and_left, and_right, bad)) in
    let on : is_on s.message r.bus ≡ true = unfold is_on in search (and_left, and_right, bad) in
    let wrong : is_next_word s.message.phase s r ≡ false = not-true (is_next_word s.message.phase s r) (search (and_left, and_right, bad)) in
    rw (quiet, foreign, on, bad_next s.message.phase s r wrong)

-- a bad word comes on the bus of a message that is under way, and then rules 1 and 2 did nothing
pub bad_under_way : (s : State) (r : WordRecord) → is_bad_word s r ≡ true → is_under_way s.message.phase ≡ true
bad_under_way s r bad = search (and_left, and_right, bad)

pub passed_still : (s : State) (t : ℕ) (transmit : List ℕ) → is_under_way (passed_of s t transmit).message.phase ≡ true → passed_of s t transmit ≡ at_time s t
passed_still s t transmit on = let before = passed_under_way s t transmit on in still s t transmit before.0 before.1

module _ (s : State) (transmit : List ℕ) (plain : is_exempt s.setup.own s.message.command.0 ≡ false) where
  word_comes : (e : Event) → has_bad_word (passed_of s (time_of e) transmit) e ≡ true → ComesToFault s e transmit
  word_comes (Mark t) bad = false≢ bad
  word_comes (Word r) bad =
      let x : State = passed_of s r.time.0 transmit in
      let on : is_under_way x.message.phase ≡ true = bad_under_way x r bad in
      by_word (record {
        under_way = on;
        marked = rw (passed_still s r.time.0 transmit on) plain;
        kind = fault_in x.message r;
        faulty = bad_faulty x r bad;
      })

  time_comes : (e : Event) → is_over s.message (time_of e) ≡ true → ComesToFault s e transmit
  time_comes e over =
      let faulty = over_faulty s (time_of e) transmit over in
      by_time
      (rw faulty.0 (record { under_way = over_under_way s.message (time_of e) over; marked = plain; kind = time_fault s.message; faulty = faulty.1 }))

marked_comes : (s : State) (e : Event) (transmit : List ℕ) → marks_fault s e transmit ≡ true → ComesToFault s e transmit
marked_comes s e transmit marks =
    let exempt : Bool = is_exempt s.setup.own s.message.command.0 in
    let over : Bool = is_over s.message (time_of e) in
    let bad : Bool = has_bad_word (passed_of s (time_of e) transmit) e in
    let parts = and_parts (not exempt) (over || bad) (ap (λ (b : Bool). not exempt && b) (sym (fault_either s e transmit)) ∙ marks) in
    let plain : exempt ≡ false = not-true exempt parts.0 in
    or_cases over bad parts.1 (time_comes s transmit plain e) (word_comes s transmit plain e)

-- ---- and a fault that comes of the rules is marked

-- what still has a message under way is none
no_fault_lem : {X : Type 0} (s next : State) (kind : Option SpacingFault) → is_under_way next.message.phase ≡ true → next ≡ faulty_of s kind → X
unfolding faulty_of
no_fault_lem s next kind on same = true≢ (sym on ∙ ap (λ (x : State). is_under_way x.message.phase) same)

-- by its time
by_time_over : (s : State) (t : ℕ) (transmit : List ℕ) → MadeFaulty (rule1 s t transmit) (rule2 (rule1 s t transmit) t)
    → (is_exempt s.setup.own s.message.command.0 ≡ false) × (is_over s.message t ≡ true)
unfolding rule1 rule2 settled_of
by_time_over s t transmit = go (is_due s.message t) refl
  where
    Fact : Type 0
    Fact = (is_exempt s.setup.own s.message.command.0 ≡ false) × (is_over s.message t ≡ true)

    over : (b : Bool) → is_over s.message t ≡ b → MadeFaulty s (rule2 s t) → Fact
    over true is made = (made.marked, is)
    over false is made = no_fault_lem s s made.kind made.under_way (rw is at made.faulty)

    go : (b : Bool) → is_due s.message t ≡ b → MadeFaulty (rule1 s t transmit) (rule2 (rule1 s t transmit) t) → Fact
    go true due made = false≢ (rw due at made.under_way)
    go false not_due made = over (is_over s.message t) refl (rw (not_settled s t transmit not_due) at made)

-- by its word: a next word leaves the message under way
good_next : (p : Phase) (s : State) (r : WordRecord) → is_under_way p ≡ true → is_next_word p s r ≡ true → is_under_way (next_word p s r).message.phase ≡ true
unfolding next_word next_data staged_of moved_of
good_next Idle s r on good = false≢ on
good_next Data s r on good = rw good
good_next Confirmed s r on good = rw good
good_next First s r on good =
    or_cases (is_second s.setup.own s.message r) (awaits_data s.message && is_next_data s.message r) good
    (λ second. rw second)
    (λ next. cond_cases (λ (x : State). is_under_way x.message.phase ≡ true) (is_second s.setup.own s.message r) (λ second. refl) (λ other. rw next))
good_next (Pledged address) s r on good = rw good

begun_under_way : (r : WordRecord) → is_under_way (begun_of r).phase ≡ true
unfolding begun_of
begun_under_way r = counting_under_way (first_phase r.word) (first_counts r.word)

by_word_bad : (s : State) (r : WordRecord) (kind : Option SpacingFault) → is_under_way s.message.phase ≡ true → rules3to6 s r ≡ faulty_of s kind → is_bad_word s r ≡ true
unfolding rules3to6 rule4 rule5 is_on
by_word_bad s r kind on same = go (rule3 s r) refl (is_own s.setup.own r) refl (is_on s.message r.bus) refl (is_next_word s.message.phase s r) refl
  where
    go : (a : Bool) → rule3 s r ≡ a
        → (b : Bool) → is_own s.setup.own r ≡ b
        → (c : Bool) → is_on s.message r.bus ≡ c
        → (d : Bool) → is_next_word s.message.phase s r ≡ d
        → is_bad_word s r ≡ true
    go true sending b own c here d next = no_fault_lem s s kind on (rw sending at same)
    go false quiet true own c here d next = no_fault_lem s (rule4 s r) kind (begun_under_way r) (rw (quiet, own) at same)
    go false quiet false foreign false elsewhere d next = no_fault_lem s s kind on (rw (quiet, foreign, elsewhere) at same)
    go false quiet false foreign true here true next =
        no_fault_lem s (next_word s.message.phase s r) kind (good_next s.message.phase s r on next) (rw (quiet, foreign, here) at same)
    go false quiet false foreign true here false bad = rw (quiet, foreign, here, bad)

by_event_bad : (s : State) (e : Event) (transmit : List ℕ) → MadeFaulty (passed_of s (time_of e) transmit) (taken_of (passed_of s (time_of e) transmit) e)
    → has_bad_word (passed_of s (time_of e) transmit) e ≡ true
by_event_bad s (Mark t) transmit made = no_fault_lem (passed_of s t.0 transmit) (passed_of s t.0 transmit) made.kind made.under_way made.faulty
by_event_bad s (Word r) transmit made = by_word_bad (passed_of s r.time.0 transmit) r made.kind made.under_way made.faulty

comes_marked : (s : State) (e : Event) (transmit : List ℕ) → ComesToFault s e transmit → marks_fault s e transmit ≡ true
comes_marked s e transmit (by_time made) =
    let over = by_time_over s (time_of e) transmit made in
    rw (over.0, fault_either s e transmit, over.1)
comes_marked s e transmit (by_word made) =
    let plain : is_exempt s.setup.own s.message.command.0 ≡ false = rw (passed_still s (time_of e) transmit made.under_way) at made.marked in
    rw (plain, fault_either s e transmit, by_event_bad s e transmit made) (or-true (is_over s.message (time_of e)))

pub fault_exactly : FaultExactly
fault_exactly s e transmit = (marked_comes s e transmit, comes_marked s e transmit)
