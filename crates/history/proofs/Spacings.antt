-- The kind of the last spacing fault is that which the calls set. Assumes nothing.
use mathlib.Core.Path.{◌≡◌, refl, sym, ap, ◌∙◌}
use Prim.Native.Nat.{ℕ, ◌+◌, ◌≤◌}
use mathlib.Core.Bool.{Bool, true, false, cond, ◌&&◌}
use mathlib.Core.List.{List, [], ◌∷◌}
use mathlib.Core.Logic.{dite}
use native.Mathlib.Nat.{lt_of_not-le}
use native.Mathlib.Decide.{dec_le}
use native.Mathlib.Omega.{arith}
use lib.Dec.{eqb, ltb, leb}
use borrow.Author.Tests.{eqb-true, ltb-false, le-ltb, lt-ltb, le-leb, lt-leb}
use Rattle.words.specs.Words.{since_of, spacing_least, spacing_most, spacing_of, code_of, is_mode}
use Rattle.records.specs.declared.forms.WordRecord.{WordRecord}
use Rattle.terminal.specs.States.{with_status, no_message, spacing_in}
use Rattle.terminal.specs.Commands.{is_own, is_exempt, is_legal}
use Rattle.terminal.specs.Messages.{is_under_way, is_on, is_counting, awaits_data, is_due, is_late, is_between, awaits_first, is_overdue, is_over, is_next_data, is_second}
use Rattle.terminal.specs.Effects.{effect_of, held_after}
use Rattle.terminal.specs.Rules.{settled_of, marked_of, kept_by, faulty_of, time_fault, rule3, noted_status, noted_command, rule4, fault_by, fault_in, next_data, next_word, rule5, rules3to6}
use Rattle.terminal.specs.Events.{terminal_of, time_of, set_up_of, passed_of, taken_of}
use Rattle.terminal.specs.declared.states.Own.{Own}
use Rattle.terminal.specs.declared.states.SpacingFault.{SpacingFault}
use Rattle.terminal.specs.declared.states.SpacingFault.TheVariants.{Overlapping, Separated}
use Rattle.terminal.specs.declared.states.Held.{Held}
use Rattle.terminal.specs.declared.states.Phase.{Phase}
use Rattle.terminal.specs.declared.states.Phase.TheVariants.{Idle, First, Pledged, Confirmed, Data}
use Rattle.terminal.specs.declared.states.Message.{Message}
use Rattle.terminal.specs.declared.states.Terminal.{Terminal as State}
use Rattle.terminal.specs.declared.events.Event.{Event}
use Rattle.terminal.specs.declared.events.Event.TheVariants.{Mark, Word}
use Rattle.terminal.specs.declared.events.Happened.{Happened}
use Rattle.history.specs.Calls.{Call, set_up, event, host, clear_selftest, restart, is_accepted, is_set_up, step, run}
use Rattle.history.specs.States.{is_under_way_on, is_next_word, is_bad_word, no_fault, a_fault, word_kind, word_fault, time_kind}
use Rattle.history.specs.Kinds.{Change, leaves, sets, by_fault, is_reset, by_event, change_by, after_change, last_kind, AllLeaveKind}
use Rattle.history.specs.Demands.{SpacingKept, SpacingKeptAfterAnyPast, SpacingLatest, KindAsAMark}
use Rattle.history.proofs.Tests.{true≢, false≢, cond_cases, or_false, or_cases}
use Rattle.history.proofs.Steps.{stepped, refused_stays, set_up_either}
use Rattle.history.proofs.Phases.{awaits_missing, counts_awaits}
use Rattle.history.proofs.Passing.{still, due_ends}
use Rattle.history.proofs.Marks.{as_a_mark}
use Rattle.history.proofs.Faults.{over_missing, over_not_due, due_in_time, bad_faulty, bad_under_way}
use Rattle.history.proofs.Polling.{due_or_over, due_passed, over_passed, over_ends, passed_in_time}
use Rattle.std.specs.Prelude.{Option, Some, None}

abbrev kind_in : State → Option SpacingFault
kind_in s = spacing_in s.held

-- ---- a fault

kept_kind : (h : Held) (kind : Option SpacingFault) → spacing_in (kept_by h kind) ≡ after_change (spacing_in h) (by_fault (a_fault kind))
unfolding spacing_in
kept_kind h None = refl
kept_kind h (Some Overlapping) = refl
kept_kind h (Some Separated) = refl

-- the mark leaves it
marked_kind : (own : Own) (h : Held) (w : ℕ) → spacing_in (marked_of own h w) ≡ spacing_in h
unfolding spacing_in
marked_kind own h w = cond_cases (λ (x : Held). spacing_in x ≡ spacing_in h) (is_exempt own w) (λ e. refl) (λ e. refl)

faulty_kind : (s : State) (kind : Option SpacingFault) → kind_in (faulty_of s kind) ≡ after_change (kind_in s) (by_fault (a_fault kind))
unfolding faulty_of
faulty_kind s kind =
    kept_kind _ kind ∙ ap (λ (x : Option SpacingFault). after_change x (by_fault (a_fault kind))) (marked_kind s.setup.own s.held s.message.command.0)

-- ---- a settled message

-- of the effects that of code 8 alone sets it
module _ (own : Own) (h : Held) (code : ℕ) where
  abbrev Resets : Held → Type 0
  Resets x = spacing_in x ≡ cond (eqb code 8) None (spacing_in h)

  other : (n : ℕ) → eqb n 8 ≡ false → (x y : Held) → spacing_in x ≡ spacing_in h → Resets y → Resets (cond (eqb code n) x y)
  other n differs x y same rest =
      cond_cases Resets (eqb code n)
      (λ is. same ∙ sym (ap (λ (b : Bool). cond b None (spacing_in h)) (ap (λ (c : ℕ). eqb c 8) (eqb-true code n is) ∙ differs)))
      (λ not. rest)

  reset : (x y : Held) → spacing_in x ≡ None → spacing_in y ≡ spacing_in h → Resets (cond (eqb code 8) x y)
  reset x y fresh same = go (eqb code 8)
    where
      go : (b : Bool) → spacing_in (cond b x y) ≡ cond b None (spacing_in h)
      go true = fresh
      go false = same

  effect_kind : (bus word : ℕ) → Resets (effect_of own h code bus word)
  unfolding effect_of spacing_in
  effect_kind bus word =
      other 1 refl _ _ refl
      (other 3 refl _ _ refl
      (other 4 refl _ _ refl
      (other 5 refl _ _ refl
      (other 6 refl _ _ refl
      (other 7 refl _ _ refl
      (reset _ _ refl (cond_cases (λ (x : Held). spacing_in x ≡ spacing_in h) (eqb code 17) (λ is. refl) (λ not. refl))))))))

either_kind : (b c : Bool) (x y : Held) (kind : Option SpacingFault) → spacing_in x ≡ cond c None kind → spacing_in y ≡ kind → spacing_in (cond b x y) ≡ cond (b && c) None kind
either_kind true c x y kind p q = p
either_kind false c x y kind p q = q

settled_kind : (s : State) (transmit : List ℕ) → kind_in (settled_of s transmit) ≡ cond (is_reset s) None (kind_in s)
unfolding settled_of held_after spacing_in
settled_kind s transmit =
    either_kind (is_legal s.setup s.message.command.0 && is_mode s.message.command.0) _ _ _ _
    (effect_kind s.setup.own (with_status s.held _) (code_of s.message.command.0) s.message.bus _) refl

-- ---- a record

-- an own command leaves it
begun_kind : (s : State) (r : WordRecord) → kind_in (rule4 s r) ≡ kind_in s
unfolding rule4 noted_command noted_status spacing_in
begun_kind s r =
    let own : Own = s.setup.own in
    let same : Held → Type 0 = λ h. spacing_in h ≡ kind_in s in
    cond_cases same (is_exempt own r.word && eqb (code_of r.word) 18) (λ last. noted) (λ other. noted)
  where
    noted : spacing_in (noted_status s.setup.own s.held r.word) ≡ kind_in s
    noted = cond_cases (λ (h : Held). spacing_in h ≡ kind_in s) (is_exempt s.setup.own r.word) (λ e. refl) (λ e. refl)

-- the next word leaves it
next_kind : (p : Phase) (s : State) (r : WordRecord) → is_next_word p s r ≡ true → kind_in (next_word p s r) ≡ kind_in s
unfolding next_word next_data
next_kind Idle s r good = refl
next_kind Data s r good = rw good refl
next_kind Confirmed s r good = rw good refl
next_kind First s r good =
    or_cases (is_second s.setup.own s.message r) (awaits_data s.message && is_next_data s.message r) good
    (λ second. rw second refl)
    (λ next. cond_cases (λ (x : State). kind_in x ≡ kind_in s) (is_second s.setup.own s.message r) (λ second. refl) (λ other. rw next refl))
next_kind (Pledged address) s r good = rw good refl

-- and so does any that makes no message faulty
good_kind : (s : State) (r : WordRecord) → is_bad_word s r ≡ false → kind_in (rules3to6 s r) ≡ kind_in s
unfolding rules3to6 rule5 is_on
good_kind s r good = go (rule3 s r) refl (is_own s.setup.own r) refl (is_under_way_on s.message r.bus) refl (is_next_word s.message.phase s r) refl
  where
    go : (a : Bool) → rule3 s r ≡ a
        → (b : Bool) → is_own s.setup.own r ≡ b
        → (c : Bool) → is_under_way_on s.message r.bus ≡ c
        → (d : Bool) → is_next_word s.message.phase s r ≡ d
        → kind_in (rules3to6 s r) ≡ kind_in s
    go true sending b own c here d next = rw sending refl
    go false quiet true own c here d next = rw (quiet, own) (begun_kind s r)
    go false quiet false foreign false elsewhere d next = rw (quiet, foreign, elsewhere) refl
    go false quiet false foreign true here true next = rw (quiet, foreign, here) (next_kind s.message.phase s r next)
    go false quiet false foreign true here false bad = true≢ (rw (quiet, foreign, here, bad) at good)

-- a word that is not late is overlapping or back to back
early_or_spaced : (last t : ℕ) → t ≤ last + spacing_most → fault_by (spacing_of last t) ≡ cond (ltb (since_of last t) spacing_least) (Some Overlapping) None
unfolding spacing_of
early_or_spaced last t in_time_lem = go (ltb (since_of last t) spacing_least) refl
  where
    go : (b : Bool) → ltb (since_of last t) spacing_least ≡ b → fault_by (spacing_of last t) ≡ cond b (Some Overlapping) None
    go true early = rw early refl
    go false not_early = rw (not_early, le-leb (since_of last t) spacing_most (omega (arith, in_time_lem))) refl

-- the kind of a bad word is the terminal's own, where nothing is late
word_kinds : (m : Message) (r : WordRecord) → is_late m r.time.0 ≡ false → fault_in m r ≡ word_kind m r
unfolding fault_in is_late
word_kinds m r in_time_lem = go (awaits_data m) refl
  where
    go : (b : Bool) → awaits_data m ≡ b → fault_in m r ≡ word_kind m r
    go true awaits =
        let late : ltb (m.last.0 + spacing_most) r.time.0 ≡ false = rw awaits at in_time_lem in
        rw awaits (early_or_spaced m.last.0 r.time.0 (ltb-false (m.last.0 + spacing_most) r.time.0 late))
    go false idle = rw idle refl

word_kind_lem : (s : State) (r : WordRecord) → is_over s.message r.time.0 ≡ false
    → kind_in (rules3to6 s r) ≡ after_change (kind_in s) (by_fault (word_fault s (Word r)))
word_kind_lem s r in_time_lem = go (is_bad_word s r) refl
  where
    go : (b : Bool) → is_bad_word s r ≡ b → kind_in (rules3to6 s r) ≡ after_change (kind_in s) (by_fault (cond b (a_fault (word_kind s.message r)) no_fault))
    go true bad =
        ap kind_in (bad_faulty s r bad) ∙ faulty_kind s (fault_in s.message r)
        ∙ ap (λ (kind : Option SpacingFault). after_change (kind_in s) (by_fault (a_fault kind))) (or_false (is_late s.message r.time.0) (is_overdue s.message r.time.0) in_time_lem (λ not_late not_overdue. word_kinds s.message r not_late))
    go false good = good_kind s r good

taken_kind : (s : State) (e : Event) → is_over s.message (time_of e) ≡ false → kind_in (taken_of s e) ≡ after_change (kind_in s) (by_fault (word_fault s e))
taken_kind s (Mark t) in_time_lem = refl
taken_kind s (Word r) in_time_lem = word_kind_lem s r in_time_lem

-- where no message is under way no word makes one faulty
idle_sound : (s : State) (e : Event) → s.message ≡ no_message → word_fault s e ≡ no_fault
idle_sound s (Mark t) idle = refl
idle_sound s (Word r) idle = go (is_bad_word s r) refl
  where
    go : (b : Bool) → is_bad_word s r ≡ b → cond b (a_fault (word_kind s.message r)) no_fault ≡ no_fault
    go true bad = false≢ (ap (λ (m : Message). is_under_way m.phase) (sym idle) ∙ bad_under_way s r bad)
    go false good = refl

-- ---- time

-- one that awaits a data word, and no first one of another terminal, is late and not overdue
direct_kind : (m : Message) → awaits_data m ≡ true → is_between m.phase ≡ false → time_fault m ≡ Some Separated
unfolding time_fault is_overdue awaits_first
direct_kind m awaits direct = rw (awaits, direct)

-- one that awaits a first one of another terminal: the limit that was passed first
first_kind : (m : Message) → awaits_data m ≡ true → is_between m.phase ≡ true
    → time_fault m ≡ cond (leb (m.last.0 + 206) (m.start.0 + 751)) (Some Separated) None
unfolding time_fault is_overdue awaits_first
first_kind m awaits between =
    rw (awaits, between, awaits_missing m awaits)
    (dite (dec_le (m.last.0 + 206) (m.start.0 + 751))
    (λ h. rw (le-leb (m.last.0 + 206) (m.start.0 + 751) h, le-ltb (m.start.0 + 750) (m.last.0 + 205) (omega (arith, h))) refl)
    (λ h. rw (lt-leb (m.last.0 + 206) (m.start.0 + 751) (lt_of_not-le h), lt-ltb (m.start.0 + 750) (m.last.0 + 205) (omega (arith, lt_of_not-le h))) refl))

-- the kind of a fault by time is the terminal's own
time_kinds : (m : Message) (t : ℕ) → is_over m t ≡ true → time_fault m ≡ time_kind m.phase m
unfolding time_fault awaits_data
time_kinds m t over = go m.phase refl
  where
    counts : (p : Phase) → m.phase ≡ p → is_counting p ≡ true → awaits_data m ≡ true
    counts p is h = counts_awaits m (over_missing m t over) (ap is_counting is ∙ h)

    go : (p : Phase) → m.phase ≡ p → time_fault m ≡ time_kind p m
    go Idle is = rw is refl
    go First is = direct_kind m (counts First is refl) (ap is_between is)
    go (Pledged address) is = rw is refl
    go Confirmed is = first_kind m (counts Confirmed is refl) (ap is_between is)
    go Data is = direct_kind m (counts Data is refl) (ap is_between is)

-- ---- an event

reset_if : (b : Bool) (kind : Option SpacingFault) → after_change kind (cond b (sets None) leaves) ≡ cond b None kind
reset_if true kind = refl
reset_if false kind = refl

event_kind : (s : State) (e : Event) (transmit : List ℕ)
    → kind_in (taken_of (passed_of s (time_of e) transmit) e) ≡ after_change (kind_in s) (by_event s e transmit)
event_kind s e transmit = taken_kind (passed_of s (time_of e) transmit) e (passed_in_time s transmit (time_of e)) ∙ due_or_over s.message (time_of e) settles faults waits
  where
    Fact : Type 0
    Fact = after_change (kind_in (passed_of s (time_of e) transmit)) (by_fault (word_fault (passed_of s (time_of e) transmit) e))
        ≡ after_change (kind_in s) (by_event s e transmit)

    settles : is_due s.message (time_of e) ≡ true → Fact
    settles due =
        let nothing = idle_sound (passed_of s (time_of e) transmit) e (due_ends s (time_of e) transmit due) in
        rw (nothing, due, due_in_time s.message (time_of e) due)
        (ap kind_in (due_passed s transmit (time_of e) due) ∙ settled_kind s transmit ∙ sym (reset_if (is_reset s) (kind_in s)))

    faults : is_over s.message (time_of e) ≡ true → Fact
    faults over =
        let nothing = idle_sound (passed_of s (time_of e) transmit) e (over_ends s transmit (time_of e) over) in
        rw (nothing, over_not_due s.message (time_of e) over, over)
        (ap kind_in (over_passed s transmit (time_of e) over) ∙ faulty_kind s (time_fault s.message)
        ∙ ap (λ (kind : Option SpacingFault). after_change (kind_in s) (by_fault (a_fault kind))) (time_kinds s.message (time_of e) over))

    waits : is_due s.message (time_of e) ≡ false → is_over s.message (time_of e) ≡ false → Fact
    waits not_due in_time_lem = rw (not_due, in_time_lem) (ap (λ (y : State). after_change (kind_in y) (by_fault (word_fault (passed_of s (time_of e) transmit) e))) (still s (time_of e) transmit not_due in_time_lem))

-- ---- a call, and any calls

set_up_fresh : (address : ℕ) (receive transmit : List ℕ) → kind_in (terminal_of (set_up_of address receive transmit)) ≡ None
unfolding spacing_in
set_up_fresh address receive transmit = set_up_either address receive transmit (λ (x : State). kind_in x ≡ None) (λ set. refl) (λ bad. refl)

call_kind : (s : State) (k : Call) → kind_in (step s k) ≡ after_change (kind_in s) (change_by s k)
unfolding step spacing_in
call_kind s (set_up address receive transmit) = go (is_set_up address receive transmit)
  where
    go : (b : Bool) → kind_in (cond b (terminal_of (set_up_of address receive transmit)) s) ≡ after_change (kind_in s) (cond b (sets None) leaves)
    go true = set_up_fresh address receive transmit
    go false = refl
call_kind s (event e receive transmit) = go (is_accepted s e receive transmit) refl
  where
    go : (b : Bool) → is_accepted s e receive transmit ≡ b
        → kind_in (step s (event e receive transmit)) ≡ after_change (kind_in s) (cond b (by_event s e transmit) leaves)
    go true ok = ap kind_in (stepped s e receive transmit ok) ∙ event_kind s e transmit
    go false bad = ap kind_in (refused_stays s e receive transmit bad)
call_kind s (host setting) = refl
call_kind s clear_selftest = refl
call_kind s restart = refl

pub spacing_kept : SpacingKept
unfolding run
spacing_kept s [] = refl
spacing_kept s (k ∷ ks) = spacing_kept (step s k) ks ∙ ap (λ (kind : Option SpacingFault). last_kind (step s k) kind ks) (call_kind s k)

pub spacing_kept_after_any_past : SpacingKeptAfterAnyPast
spacing_kept_after_any_past past =
    let s : State = (terminal_of (set_up_of past.address past.receive past.transmit)) in
    spacing_kept s past.calls
    ∙ ap (λ (kind : Option SpacingFault). last_kind s kind past.calls) (set_up_fresh past.address past.receive past.transmit)

-- calls that do nothing to it leave it
stays : (s : State) (kind : Option SpacingFault) (ks : List Call) → AllLeaveKind s ks → last_kind s kind ks ≡ kind
stays s kind [] all = refl
stays s kind (k ∷ ks) all = ap (λ (c : Change). last_kind (step s k) (after_change kind c) ks) all.0 ∙ stays (step s k) kind ks all.1

pub spacing_latest : SpacingLatest
spacing_latest s k kind sets_it ks all =
    spacing_kept (step s k) ks ∙ stays (step s k) _ ks all ∙ call_kind s k ∙ ap (after_change (kind_in s)) sets_it

pub kind_as_a_mark : KindAsAMark
unfolding step
kind_as_a_mark s r receive transmit ok foreign off = ap (λ (h : Happened). kind_in h.terminal) (as_a_mark s r receive transmit ok foreign off).0
