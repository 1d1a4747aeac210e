-- A time mark directly before an event is not seen after it. Assumes nothing.
use mathlib.Core.Path.{◌≡◌, refl, sym, ap, ◌∙◌}
use Prim.Native.Nat.{ℕ, ◌+◌, ◌≤◌}
use mathlib.Core.Bool.{Bool, true, false, or-true}
use mathlib.Core.List.{List}
use mathlib.Core.Logic.{◌⊎◌, inl, inr}
use native.Mathlib.Omega.{arith}
use lib.Dec.{eqb, ltb, leb}
use lib.ListN.{length}
use lib.Seq.{length-paste}
use borrow.Author.Tests.{leb-true, le-leb, ltb-true, lt-ltb, eqb-true, eq-eqb}
use Rattle.words.specs.Words.{due_distance, spacing_most, words_of}
use Rattle.words.specs.declared.times.Moment.{Moment}
use Rattle.std.proofs.lemmas.Bool.{and_parts}
use Rattle.words.proofs.Counts.{words_most}
use Rattle.terminal.specs.States.{no_message, at_time}
use Rattle.terminal.specs.Messages.{is_under_way, awaits_data, is_whole, is_due, is_late, first_word_distance, awaits_first, is_overdue, is_over}
use Rattle.terminal.specs.Settling.{settled_status, mode_words, legal_reply, reply_of, stores_data, first_place, stored_of, is_withheld, no_answer, answer_of, sending_of}
use Rattle.terminal.specs.Effects.{held_after}
use Rattle.terminal.specs.Rules.{status_now, reply_now, rule1_answer, rule1_receive, settled_of, rule1, faulty_of, time_fault, rule2}
use Rattle.terminal.specs.Events.{time_of, passed_of, taken_of, cut_of, happens_of, event_of, event_receive}
use Rattle.terminal.specs.declared.states.Message.{Message}
use Rattle.terminal.specs.declared.states.Terminal.{Terminal as State}
use Rattle.terminal.specs.declared.events.Event.{Event}
use Rattle.terminal.specs.declared.events.Event.TheVariants.{Mark}
use Rattle.terminal.specs.declared.events.Happened.{Happened}
use Rattle.history.specs.Calls.{is_accepted}
use Rattle.history.specs.Demands.{Unseen, MarksDoNotMatter}
use Rattle.history.proofs.Tests.{cond_cases, or_cases}
use Rattle.history.proofs.Phases.{due_under_way}
use Rattle.history.proofs.Steps.{accepted, accepted_table, refused, refused_table, shown, accepts}
use Rattle.history.proofs.Passing.{still, due_ends}
use Rattle.history.proofs.Faults.{over_not_due, over_faulty}

-- ---- what is due, or over, is so later too

due_later : (m : Message) (t u : ℕ) → t ≤ u → is_due m t ≡ true → is_due m u ≡ true
unfolding is_due
due_later m t u later due =
    let parts = and_parts (is_whole m) (leb (m.last.0 + due_distance) t) due in
    let reached = leb-true (m.last.0 + due_distance) t parts.1 in
    rw (parts.0, le-leb (m.last.0 + due_distance) u (omega (arith, reached, later)))

late_later : (m : Message) (t u : ℕ) → t ≤ u → is_late m t ≡ true → is_late m u ≡ true
unfolding is_late
late_later m t u later late =
    let parts = and_parts (awaits_data m) (ltb (m.last.0 + spacing_most) t) late in
    let passed = ltb-true (m.last.0 + spacing_most) t parts.1 in
    rw (parts.0, lt-ltb (m.last.0 + spacing_most) u (omega (arith, passed, later)))

overdue_later : (m : Message) (t u : ℕ) → t ≤ u → is_overdue m t ≡ true → is_overdue m u ≡ true
unfolding is_overdue
overdue_later m t u later overdue =
    let parts = and_parts (awaits_first m) (ltb (m.start.0 + first_word_distance) t) overdue in
    let passed = ltb-true (m.start.0 + first_word_distance) t parts.1 in
    rw (parts.0, lt-ltb (m.start.0 + first_word_distance) u (omega (arith, passed, later)))

over_later : (m : Message) (t u : ℕ) → t ≤ u → is_over m t ≡ true → is_over m u ≡ true
over_later m t u later over =
    or_cases (is_late m t) (is_overdue m t) over
    (λ late. rw (late_later m t u later late))
    (λ overdue. rw (overdue_later m t u later overdue) (or-true (is_late m u)))

-- a message is due, or its time is over, or neither
pub due_or_over : {P : Type 0} (m : Message) (t : ℕ) → (is_due m t ≡ true → P) → (is_over m t ≡ true → P)
    → (is_due m t ≡ false → is_over m t ≡ false → P)
    → P
due_or_over {P} m t settles faults waits = go (is_due m t) refl (is_over m t) refl
  where
    go : (a : Bool) → is_due m t ≡ a → (b : Bool) → is_over m t ≡ b → P
    go true due b over = settles due
    go false not_due true over = faults over
    go false not_due false in_time_lem = waits not_due in_time_lem

-- where none is under way nothing is due or over, and time alone passes
none_due : (m : Message) (u : ℕ) → m ≡ no_message → is_due m u ≡ false
unfolding is_due is_whole
none_due m u idle = ap (λ (x : Message). is_due x u) idle

none_over : (m : Message) (u : ℕ) → m ≡ no_message → is_over m u ≡ false
unfolding is_late awaits_data is_overdue awaits_first
none_over m u idle = ap (λ (x : Message). is_over x u) idle

idle_passed : (x : State) (t u : ℕ) (transmit : List ℕ) → x.message ≡ no_message → passed_of (at_time x t) u transmit ≡ at_time x u
idle_passed x t u transmit idle = still (at_time x t) u transmit (none_due x.message u idle) (none_over x.message u idle)

-- ---- rules 1 and 2, once and again

module _ (s : State) (transmit : List ℕ) where
  pub due_passed : (t : ℕ) → is_due s.message t ≡ true → passed_of s t transmit ≡ at_time (settled_of s transmit) t
  unfolding passed_of rule1 rule2 settled_of is_late awaits_data is_overdue awaits_first
  due_passed t due = rw due

  pub over_passed : (t : ℕ) → is_over s.message t ≡ true → passed_of s t transmit ≡ at_time (faulty_of s (time_fault s.message)) t
  unfolding passed_of
  over_passed t over = let faulty = over_faulty s t transmit over in rw (faulty.0, faulty.1)

  -- nothing is under way after the one or the other
  settled_idle : (settled_of s transmit).message ≡ no_message
  unfolding settled_of
  settled_idle = refl

  faulty_idle : (faulty_of s (time_fault s.message)).message ≡ no_message
  unfolding faulty_of
  faulty_idle = refl

  pub over_ends : (t : ℕ) → is_over s.message t ≡ true → (passed_of s t transmit).message ≡ no_message
  over_ends t over = ap (λ (x : State). x.message) (over_passed t over) ∙ faulty_idle

  -- and the time of what is under way after both is not over
  pub passed_in_time : (t : ℕ) → is_over (passed_of s t transmit).message t ≡ false
  passed_in_time t =
      due_or_over s.message t
      (λ due. none_over _ t (due_ends s t transmit due))
      (λ over. none_over _ t (over_ends t over))
      (λ not_due in_time_lem. ap (λ (x : State). is_over x.message t) (still s t transmit not_due in_time_lem) ∙ in_time_lem)

  -- what they do does not look at the time of the last event
  settled_same : (t u : ℕ) → at_time (settled_of (at_time s t) transmit) u ≡ at_time (settled_of s transmit) u
  unfolding settled_of held_after sending_of is_withheld settled_status reply_of legal_reply mode_words
  settled_same t u = refl

  faulty_same : (t u : ℕ) → at_time (faulty_of (at_time s t) (time_fault s.message)) u ≡ at_time (faulty_of s (time_fault s.message)) u
  unfolding faulty_of
  faulty_same t u = refl

module _ (s : State) (transmit : List ℕ) where
  again : (t u : ℕ) → passed_of (at_time s t) u transmit ≡ passed_of s u transmit
  again t u =
      due_or_over s.message u
      (λ due. due_passed (at_time s t) transmit u due ∙ settled_same s transmit t u ∙ sym (due_passed s transmit u due))
      (λ over. over_passed (at_time s t) transmit u over ∙ faulty_same s transmit t u ∙ sym (over_passed s transmit u over))
      (λ not_due in_time_lem. still (at_time s t) u transmit not_due in_time_lem ∙ sym (still s u transmit not_due in_time_lem))

module _ (s : State) (transmit : List ℕ) (t u : ℕ) (later : t ≤ u) where
  abbrev passed : State
  passed = passed_of s t transmit

  passed_twice : passed_of (passed_of s t transmit) u transmit ≡ passed_of s u transmit
  passed_twice =
      due_or_over s.message t
      (λ due.
      ap (λ (x : State). passed_of x u transmit) (due_passed s transmit t due) ∙ idle_passed (settled_of s transmit) t u transmit (settled_idle s transmit)
      ∙ sym (due_passed s transmit u (due_later s.message t u later due)))
      (λ over.
      ap (λ (x : State). passed_of x u transmit) (over_passed s transmit t over) ∙ idle_passed (faulty_of s (time_fault s.message)) t u transmit (faulty_idle s transmit)
      ∙ sym (over_passed s transmit u (over_later s.message t u later over)))
      (λ not_due in_time_lem. ap (λ (x : State). passed_of x u transmit) (still s t transmit not_due in_time_lem) ∙ again s transmit t u)

  -- a message whose time is over is not due then, nor later
  over_silent : is_over s.message t ≡ true → is_due s.message u ≡ false
  over_silent over = over_not_due s.message u (over_later s.message t u later over)

  -- ---- the answer is carried once

  given : (v : ℕ) → is_due s.message v ≡ true → rule1_answer s v transmit ≡ answer_of s (status_now s) (reply_now s transmit)
  unfolding rule1_answer
  given v due = rw due

  silent : (x : State) (v : ℕ) → is_due x.message v ≡ false → rule1_answer x v transmit ≡ no_answer
  unfolding rule1_answer
  silent x v not_due = rw not_due

  same_answer : rule1_answer (at_time s t) u transmit ≡ rule1_answer s u transmit
  unfolding rule1_answer answer_of is_withheld settled_status reply_of legal_reply mode_words
  same_answer = refl

  abbrev Once : Type 0
  Once =
      ((rule1_answer s t transmit ≡ no_answer) × (rule1_answer (passed_of s t transmit) u transmit ≡ rule1_answer s u transmit))
      ⊎ ((rule1_answer s t transmit ≡ rule1_answer s u transmit) × (rule1_answer (passed_of s t transmit) u transmit ≡ no_answer))

  once : Once
  once =
      due_or_over s.message t
      (λ due. inr (given t due ∙ sym (given u (due_later s.message t u later due)), silent passed u (none_due _ u (due_ends s t transmit due))))
      (λ over.
      inl (silent s t (over_not_due s.message t over), silent passed u (none_due _ u (over_ends s transmit t over)) ∙ sym (silent s u (over_silent over))))
      (λ not_due in_time_lem.
      inl (silent s t not_due, ap (λ (x : State). rule1_answer x u transmit) (still s t transmit not_due in_time_lem) ∙ same_answer))

  -- ---- the receive table is written once

  module _ (receive : List ℕ) where
    written : (v : ℕ) → is_due s.message v ≡ true → rule1_receive s v receive ≡ stored_of s receive
    unfolding rule1_receive
    written v due = rw due

    same_table : rule1_receive (at_time s t) u receive ≡ rule1_receive s u receive
    unfolding rule1_receive stored_of stores_data
    same_table = refl

  unwritten : (x : State) (v : ℕ) (receive : List ℕ) → is_due x.message v ≡ false → rule1_receive x v receive ≡ receive
  unfolding rule1_receive
  unwritten x v receive not_due = rw not_due

  table_twice : (receive : List ℕ) → rule1_receive (passed_of s t transmit) u (rule1_receive s t receive) ≡ rule1_receive s u receive
  table_twice receive =
      due_or_over s.message t
      (λ due.
      unwritten passed u _ (none_due _ u (due_ends s t transmit due)) ∙ written receive t due ∙ sym (written receive u (due_later s.message t u later due)))
      (λ over.
      unwritten passed u _ (none_due _ u (over_ends s transmit t over)) ∙ unwritten s t receive (over_not_due s.message t over)
      ∙ sym (unwritten s u receive (over_silent over)))
      (λ not_due in_time_lem.
      ap (rule1_receive passed u) (unwritten s t receive not_due)
      ∙ ap (λ (x : State). rule1_receive x u receive) (still s t transmit not_due in_time_lem) ∙ same_table receive)

-- it stays as long as it is
table_long : (s : State) (t : ℕ) (receive : List ℕ) → (is_under_way s.message.phase ≡ true → length s.message.words ≡ 32) → length receive ≡ 1024
    → length (rule1_receive s t receive) ≡ 1024
unfolding rule1_receive stored_of
table_long s t receive places long =
    cond_cases (λ (table : List ℕ). length table ≡ 1024) (is_due s.message t)
    (λ due.
    let w : ℕ = s.message.command.0 in
    cond_cases (λ (table : List ℕ). length table ≡ 1024) (stores_data s w)
    (λ stores.
    let few = words_most w in
    let place : first_place w ≤ 992 = omega arith in
    length-paste receive (first_place w) s.message.words (words_of w) (omega (arith, few, place, long)) (omega (arith, few, places (due_under_way s.message t due)))
    ∙ long)
    (λ other. long))
    (λ not_due. long)

-- ---- the statement

-- one that is accepted: the event still is
then_accepted : (s : State) (t : Moment) (e : Event) (receive transmit : List ℕ)
    → (is_under_way s.message.phase ≡ true → length s.message.words ≡ 32)
    → is_accepted s e receive transmit ≡ true
    → t.0 ≤ time_of e
    → is_accepted (passed_of s t.0 transmit) e (rule1_receive s t.0 receive) transmit ≡ true
unfolding passed_of
then_accepted s t e receive transmit places ok later =
    let p = shown s e receive transmit ok in
    let lengths = and_parts (eqb (length receive) 1024) (eqb (length transmit) 1024) p.tables in
    let long = table_long s t.0 receive places (eqb-true (length receive) 1024 lengths.0) in
    accepts (passed_of s t.0 transmit) e (rule1_receive s t.0 receive) transmit
    (record {
      tables = rw (eq-eqb (length (rule1_receive s t.0 receive)) 1024 long, lengths.1);
      ranged = p.ranged;
      ordered = le-leb t.0 (time_of e) later;
    })

pub marks_do_not_matter : MarksDoNotMatter
unfolding happens_of
marks_do_not_matter s places t e receive transmit ok later = go (is_accepted s (Mark t) receive transmit) refl
  where
    marked : Happened
    marked = event_of s (Mark t) receive transmit

    table : List ℕ
    table = event_receive s (Mark t) receive transmit

    go : (b : Bool) → is_accepted s (Mark t) receive transmit ≡ b
        → Unseen marked (event_of marked.terminal e table transmit) (event_receive marked.terminal e table transmit) (event_of s e receive transmit)
        (event_receive s e receive transmit)
    go true mark =
        let x : State = passed_of s t.0 transmit in
        let after : List ℕ = rule1_receive s t.0 receive in
        let then = then_accepted s t e receive transmit places ok later in
        rw
        (accepted s (Mark t) receive transmit mark, accepted_table s (Mark t) receive transmit mark, accepted s e receive transmit ok, accepted_table s e receive transmit ok, accepted x e after transmit then, accepted_table x e after transmit then)
        (record {
          accepted = refl;
          terminal = ap (λ (y : State). taken_of y e) (passed_twice s transmit t.0 (time_of e) later);
          receive = table_twice s transmit t.0 (time_of e) later receive;
          cut = ap (λ (y : State). cut_of y e) (passed_twice s transmit t.0 (time_of e) later);
          once = once s transmit t.0 (time_of e) later;
        })
    go false bad =
        rw (refused s (Mark t) receive transmit bad, refused_table s (Mark t) receive transmit bad, accepted s e receive transmit ok)
        (record { accepted = refl; terminal = refl; receive = refl; cut = refl; once = inl (refl, refl) })
