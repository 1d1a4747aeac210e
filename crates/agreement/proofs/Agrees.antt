-- The two halves agree: agrees, agrees_illegal, agrees_between, agrees_broadcast, agrees_broadcast_between. Assumes nothing.
use mathlib.Core.Path.{◌≡◌, refl, sym, ap, subst, ◌∙◌}
use Prim.Native.Nat.{ℕ, ◌+◌, ◌*◌, ◌^◌, ◌≤◌}
use mathlib.Core.Bool.{true, false}
use mathlib.Core.List.{List, [], ◌∷◌, ◌++◌, append-nil}
use native.Mathlib.Omega.{arith}
use lib.Dec.{eqb}
use lib.ListN.{length, take, length-take}
use borrow.Author.Tests.{le-ltb, ltb-true, eqb-true}
use Rattle.words.specs.Words.{on_clock, since_of, word_ticks, due_distance, address_of, is_broadcast}
use Rattle.words.specs.Refusals.{not_refused}
use Rattle.words.specs.declared.times.Moment.{Moment}
use Rattle.records.specs.declared.forms.WordRecord.{WordRecord}
use Rattle.terminal.specs.Commands.{is_legal}
use Rattle.terminal.specs.Messages.{is_due}
use Rattle.terminal.specs.Settling.{is_shut, is_withheld, no_words, no_answer, reply_of, answer_of}
use Rattle.terminal.specs.Rules.{status_now, reply_now, rule1_answer}
use Rattle.terminal.specs.declared.states.Terminal.{Terminal as State}
use Rattle.terminal.specs.declared.answers.Answer.{Answer}
use Rattle.terminal.specs.declared.answers.Reply.{Reply}
use Rattle.history.specs.States.{Waiting, Sound}
use Rattle.history.proofs.Tests.{true≢, cond_same, or_false, or_cases}
use Rattle.history.proofs.Phases.{due_under_way}
use Rattle.history.proofs.Reached.{reachable}
use Rattle.verdict.specs.Plans.{is_single, is_possible, plan_checks, plan_refusal, is_unjudged, part_of, back_of, expected_of}
use Rattle.std.specs.Prelude.{Option, Some, unwrap_or, Ok}
use Rattle.verdict.specs.declared.verdicts.Verdict.{Verdict}
use Rattle.verdict.specs.declared.verdicts.Verdict.TheVariants as verdict
use Rattle.verdict.specs.Facts.{listened_least, end_of}
use Rattle.verdict.specs.Verdicts.{returned_from, returned_of, finding, finding_over, finding_of, verdict_of, judged_with, judged_of}
use Rattle.verdict.specs.declared.plans.Plan.{Plan}
use Rattle.verdict.specs.declared.judges.Finding.{Finding}
use Rattle.verdict.proofs.Findings.{verdict_over, verdict_of_lem}
use Rattle.verdict.proofs.Refusals.{plan_accepted}
use Rattle.agreement.specs.Agreement.{status_heard, answer_heard, plan_for, Accepted, shown_by, JudgedAs, Agrees, AgreesAfterAnyPast, AgreesIllegal, plan_between, Sent, AgreesBetween, AgreesBetweenAfterAnyPast, AgreesBroadcast, AgreesBroadcastBetween}
use Rattle.agreement.proofs.Replies.{legal_single, reply_sends, receive_alone}
use Rattle.agreement.proofs.Heard.{status_verdict, answer_verdict, answer_taken}
use Rattle.agreement.proofs.Pairs.{pair_parts, receiver_sends, pair_expects, sent_passed, sent_later, sent_taken}
use Rattle.agreement.proofs.Statuses.{address_settled, good_ready, error_settled}

-- a plan of one command that is not to all terminals expects its status and its data words
pub single_expects : (s : State) (until : Moment) → is_broadcast s.message.command.0 ≡ false
    → expected_of (plan_for s until) ≡ part_of s.message.command.0
unfolding expected_of back_of
single_expects s until one = rw one

-- ---- a sound terminal with a message that is due

module _ (s : State) (sound : Sound s) (t : ℕ) (due : is_due s.message t ≡ true) where
  -- its message is under way
  waits : Waiting s.setup.own s.time.0 s.message
  waits = sound.message (due_under_way s.message t due)

  -- a plan that is possible, on its bus, up to a Q on the clock, is not refused
  plan_taken : (plan : Plan) → plan.bus ≡ s.message.bus → is_possible plan ≡ true → on_clock plan.until.0 ≡ true → plan.last.0 ≤ plan.until.0
      → plan_refusal plan ≡ not_refused
  plan_taken plan own possible clock later =
      let waiting = waits in
      plan_accepted plan possible (omega (arith, own, waiting.bus)) later (ltb-true plan.until.0 (2 ^ 48) clock)

  single_taken : (until : Moment) → is_single s.message.command.0 ≡ true → on_clock until.0 ≡ true → s.message.last.0 ≤ until.0
      → plan_refusal (plan_for s until) ≡ not_refused
  unfolding is_possible
  single_taken until single = plan_taken (plan_for s until) refl single

  pair_taken : (second status : WordRecord) (ds : List WordRecord) → Sent s second status ds → (until : Moment) → on_clock until.0 ≡ true
      → second.time.0 ≤ until.0
      → plan_refusal (plan_between s second until) ≡ not_refused
  unfolding is_possible
  pair_taken second status ds sent until = plan_taken (plan_between s second until) refl sent.pair

-- ---- its answer, where none is withheld

module _ (s : State) (sound : Sound s) (t : ℕ) (transmit : List ℕ) (due : is_due s.message t ≡ true) (shown : is_withheld s ≡ false) where
  -- the command
  abbrev w : ℕ
  w = s.message.command.0

  -- it is not to all terminals
  pub not_broadcast : is_broadcast w ≡ false
  unfolding is_withheld
  not_broadcast = or_false (is_broadcast w) (is_shut s.held s.message.bus) shown (λ one on. one)

  -- so it is to the own address
  own : address_of w ≡ s.setup.own.address
  own =
      or_cases (eqb (address_of w) s.setup.own.address) (is_broadcast w) (waits s sound t due).command
      (eqb-true (address_of w) s.setup.own.address)
      (λ all. true≢ (sym all ∙ not_broadcast))

  -- and its status is from there
  pub from_own : address_of (status_now s) ≡ address_of w
  from_own = address_settled s w sound ∙ sym own

  -- the answer, part by part
  abbrev reply : Reply
  reply = reply_now s transmit

  abbrev pub answer : Answer
  answer = record {
    bus = s.message.bus;
    due = record { 0 = s.message.last.0 + due_distance };
    status = record { 0 = status_now s };
    count = reply.count;
    words = reply.words;
  }

  -- it is the one that is given
  pub answer_given : rule1_answer s t transmit ≡ Some answer
  unfolding rule1_answer answer_of
  answer_given = rw (due, shown)

  -- to an illegal command it shows message error
  pub error_shown : is_legal s.setup w ≡ false → is_unjudged w ≡ false → shown_by s answer ≡ verdict.MessageError
  error_shown illegal flags = error_settled s w illegal flags (status_heard answer) refl

  -- its words
  abbrev words : List ℕ
  words = take answer.count answer.words

  -- the answer to a legal command, heard out, is judged by its status
  pub answer_judged : length transmit ≡ 1024 → is_legal s.setup w ≡ true → (until : ℕ) → answer.due.0 + word_ticks * length words + listened_least ≤ until
      → verdict_over (part_of w) s.message.last.0 until (answer_heard answer) ≡ shown_by s answer
  answer_judged sized legal until listened =
      answer_verdict w s.message.bus s.message.last.0 until (status_now s) words from_own listened
      (λ clear. reply_sends s w transmit sized legal (good_ready s w legal (status_heard answer) refl clear))

  -- that to an illegal one, a status alone, is as soon as it is heard
  error_alone : is_legal s.setup w ≡ false → words ≡ []
  unfolding reply_of
  error_alone illegal = rw illegal

  pub error_judged : is_legal s.setup w ≡ false → is_unjudged w ≡ false → (until : ℕ)
      → verdict_over (part_of w) s.message.last.0 until (answer_heard answer) ≡ shown_by s answer
  error_judged illegal flags until =
      status_verdict w s.message.bus s.message.last.0 until (status_now s) _ from_own
      (λ clear.
      let other : ◌≡◌ {A = Verdict} verdict.Good verdict.MessageError =
      sym (ap (λ (o : Option Verdict). unwrap_or o verdict.Good) clear) ∙ error_shown illegal flags in
      absurd (cc))

  module _ (until : Moment) (clock : on_clock until.0 ≡ true) where
    -- the words are taken, where the last comes before Q
    judged_as : is_single w ≡ true → answer.due.0 + word_ticks * length words ≤ until.0
        → verdict_over (part_of w) s.message.last.0 until.0 (answer_heard answer) ≡ shown_by s answer
        → JudgedAs (plan_for s until) (answer_heard answer) (shown_by s answer)
    judged_as single heard verdict =
        let waiting = waits s sound t due in
        record {
          unrefused = single_taken s sound t due until single clock (omega (arith, heard));
          accepted = answer_taken (plan_for s until) waiting.bus clock s.message.last.0 (status_now s) words (omega (arith, heard));
          judged = verdict_of_lem (plan_for s until) (part_of w) (single_expects s until not_broadcast) (answer_heard answer) ∙ verdict;
        }

    legal_judged : length transmit ≡ 1024 → is_legal s.setup w ≡ true
        → answer.due.0 + word_ticks * answer.count + listened_least ≤ until.0
        → JudgedAs (plan_for s until) (answer_heard answer) (shown_by s answer)
    legal_judged sized legal enough =
        let few : length words ≤ answer.count = simp length-take (omega arith) in
        (judged_as (legal_single s.setup w legal) (omega (arith, few, enough)) (answer_judged sized legal until.0 (omega (arith, few, enough))))

    illegal_judged : is_single w ≡ true → is_legal s.setup w ≡ false → is_unjudged w ≡ false → answer.due.0 ≤ until.0
        → JudgedAs (plan_for s until) (answer_heard answer) verdict.MessageError
    illegal_judged single illegal flags in_time_lem =
        let none : words ≡ [] = error_alone illegal in
        (subst (JudgedAs (plan_for s until) (answer_heard answer)) (error_shown illegal flags)
        (judged_as single (omega (arith, ap length none, in_time_lem)) (error_judged illegal flags until.0)))

pub agrees : Agrees
agrees s sound t transmit sized due legal shown = (
  answer s sound t transmit due shown,
  answer_given s sound t transmit due shown,
  λ until clock. legal_judged s sound t transmit due shown until clock sized legal,
)

-- ---- any past

pub agrees_after_any_past : AgreesAfterAnyPast
agrees_after_any_past past = agrees _ (reachable past)

-- ---- an illegal command

pub agrees_illegal : AgreesIllegal
agrees_illegal s sound t transmit due single illegal flags shown = (
  answer s sound t transmit due shown,
  answer_given s sound t transmit due shown,
  λ until clock. illegal_judged s sound t transmit due shown until clock single illegal flags,
)

-- ---- between terminals

module _ (s : State) (sound : Sound s) (t : ℕ) (transmit : List ℕ) (due : is_due s.message t ≡ true) (shown : is_withheld s ≡ false)
    (second status : WordRecord) (ds : List WordRecord) (sent : Sent s second status ds) where
  abbrev a : Answer
  a = answer s sound t transmit due shown

  -- the answer is a status alone
  pub between_alone : reply_now s transmit ≡ no_words
  between_alone =
      let parts = pair_parts s.message.command.0 second.word sent.pair in
      receive_alone s s.message.command.0 transmit parts.plain parts.receives

  no_words_lem : take a.count a.words ≡ []
  no_words_lem = rw between_alone

  -- behind the transmitter's part it is judged by that
  pub between_judged : (until : Moment) → a.due.0 + listened_least ≤ until.0
      → verdict_of (plan_between s second until) (status ∷ (ds ++ answer_heard a)) ≡ shown_by s a
  between_judged until listened =
      verdict_of_lem (plan_between s second until) _ (pair_expects s second until (not_broadcast s sound t transmit due shown)) _
      ∙ sent_passed s second status ds sent (part_of s.message.command.0) until.0 (answer_heard a)
      ∙ answer_verdict s.message.command.0 s.message.bus s.message.last.0 until.0 (status_now s) (take a.count a.words)
      (from_own s sound t transmit due shown) (omega (arith, ap length no_words_lem, listened))
      (λ clear. ap length no_words_lem ∙ sym (receiver_sends s.message.command.0 second.word sent.pair))

  between_so : (until : Moment) → on_clock until.0 ≡ true → a.due.0 + listened_least ≤ until.0
      → JudgedAs (plan_between s second until) (status ∷ (ds ++ answer_heard a)) (shown_by s a)
  between_so until clock listened =
      let waiting = waits s sound t due in
      let later = sent_later s second status ds sent in
      record {
        unrefused = pair_taken s sound t due second status ds sent until clock (omega (arith, later, listened));
        accepted = sent_taken s second status ds sent until (answer_heard a) waiting.bus clock (omega (arith, listened))
            (answer_taken (plan_between s second until) waiting.bus clock s.message.last.0 (status_now s) (take a.count a.words)
            (omega (arith, ap length no_words_lem, listened)));
        judged = between_judged until listened;
      }

  -- to an illegal command it shows message error
  pub between_error : is_legal s.setup s.message.command.0 ≡ false → shown_by s a ≡ verdict.MessageError
  unfolding is_unjudged
  between_error illegal =
      error_shown s sound t transmit due shown illegal (rw (pair_parts s.message.command.0 second.word sent.pair).plain)

pub agrees_between : AgreesBetween
agrees_between s sound t transmit due shown = (
  answer s sound t transmit due shown,
  answer_given s sound t transmit due shown,
  λ second status ds sent until clock enough. (
    between_so s sound t transmit due shown second status ds sent until clock enough,
    ap (λ (r : Reply). r.count) (between_alone s sound t transmit due shown second status ds sent),
    between_error s sound t transmit due shown second status ds sent,
  ),
)

pub agrees_between_after_any_past : AgreesBetweenAfterAnyPast
agrees_between_after_any_past past = agrees_between _ (reachable past)

-- ---- to all terminals

-- nothing heard is judged good, after enough time
none_good : (s : State) (until : Moment) → is_broadcast s.message.command.0 ≡ true → s.message.last.0 + listened_least ≤ until.0
    → finding_of (plan_for s until) [] ≡ finding verdict.Good 0
unfolding finding_of finding_over expected_of back_of end_of
none_good s until all listened = rw (all, le-ltb (since_of s.message.last.0 until.0) listened_least (omega arith))

-- nothing is answered
none_answered : (s : State) (t : ℕ) (transmit : List ℕ) → is_broadcast s.message.command.0 ≡ true → rule1_answer s t transmit ≡ no_answer
unfolding rule1_answer answer_of is_withheld
none_answered s t transmit all = rw all (cond_same (is_due s.message t) no_answer)

pub agrees_broadcast : AgreesBroadcast
unfolding judged_of returned_of returned_from
agrees_broadcast s t transmit all until listened = record {
  silent = none_answered s t transmit all;
  judged = ap (λ (f : Finding). judged_with (plan_checks (plan_for s until)) (Ok f)) (none_good s until all listened);
  unrefused = λ sound due single clock. single_taken s sound t due until single clock (omega (arith, listened));
}

-- between terminals the transmitter's part is all
all_good : (s : State) (second status : WordRecord) (ds : List WordRecord) → Sent s second status ds → (until : Moment)
    → is_broadcast s.message.command.0 ≡ true
    → s.message.last.0 + listened_least ≤ until.0
    → verdict_of (plan_between s second until) (status ∷ ds) ≡ verdict.Good
unfolding expected_of back_of finding_over end_of
all_good s second status ds sent until all listened =
    verdict_of_lem (plan_between s second until) (part_of second.word ++ []) (rw all) (status ∷ ds)
    ∙ ap (λ (l : List WordRecord). verdict_over (part_of second.word ++ []) second.time.0 until.0 (status ∷ l)) (sym (append-nil ds))
    ∙ sent_passed s second status ds sent [] until.0 []
    ∙ rw (le-ltb (since_of s.message.last.0 until.0) listened_least (omega arith))

pub agrees_broadcast_between : AgreesBroadcastBetween
agrees_broadcast_between s sound t transmit due all second status ds sent until clock listened =
    let later = sent_later s second status ds sent in
    let taken =
    sent_taken s second status ds sent until [] (waits s sound t due).bus clock (omega (arith, listened)) tt in (
      none_answered s t transmit all,
      record {
        unrefused = pair_taken s sound t due second status ds sent until clock (omega (arith, later, listened));
        accepted = subst (λ (l : List WordRecord). Accepted (plan_between s second until) second.time.0 (status ∷ l)) (append-nil ds) taken;
        judged = all_good s second status ds sent until all listened;
      },
    )
