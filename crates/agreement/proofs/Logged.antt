-- The terminal in a log: terminal_is_good, terminal_is_error, terminal_receives, and each after any past. Assumes nothing.
use mathlib.Core.Path.{◌≡◌, refl, sym, ap, subst, ◌∙◌}
use Prim.Native.Nat.{ℕ, suc, ◌+◌, ◌-◌, ◌*◌, ◌≤◌}
use mathlib.Core.Bool.{true, false, cond, ◌&&◌, or-true}
use mathlib.Core.List.{List, [], ◌∷◌, ◌++◌, append-nil}
use native.Mathlib.Omega.{arith}
use lib.Dec.{eqb}
use lib.ListN.{length, take}
use borrow.Author.Tests.{ne_eqb, eq-eqb, eqb-true, le-ltb}
use Rattle.words.specs.Words.{word_ticks, due_distance, address_of, is_broadcast, command_sync}
use Rattle.words.specs.declared.times.Moment.{Moment}
use Rattle.records.specs.declared.forms.WordRecord.{WordRecord}
use Rattle.terminal.specs.Messages.{is_due}
use Rattle.terminal.specs.Settling.{is_withheld}
use Rattle.terminal.specs.declared.states.Terminal.{Terminal as State}
use Rattle.terminal.specs.declared.answers.Answer.{Answer}
use Rattle.history.specs.States.{Sound}
use Rattle.history.proofs.Tests.{or_cases}
use Rattle.history.proofs.Reached.{reachable}
use Rattle.verdict.specs.Plans.{is_single, is_possible, part_of}
use Rattle.verdict.specs.Facts.{listened_least}
use Rattle.verdict.specs.Verdicts.{verdict_of}
use Rattle.verdict.specs.declared.plans.Plan.{Plan}
use Rattle.verdict.proofs.Findings.{verdict_over, verdict_of_lem}
use Rattle.monitor.specs.Entries.{is_command, is_second, commands_of, statuses_in, statuses_by, statuses_of, is_for, is_from, expects, last_in, is_far, part_of as kind_of, has_twins, outcome_in, message_of, entry_of}
use Rattle.monitor.specs.Logs.{Group, Placed, heard_on, part_in, belongs, groups_of, groups_on, end_time, entries_of, entries_on}
use Rattle.monitor.specs.declared.entries.Commands.TheVariants.{Two}
use Rattle.monitor.specs.declared.entries.Statuses.TheVariants as shown
use Rattle.std.specs.Prelude.{Some}
use Rattle.verdict.specs.declared.verdicts.Verdict.{Verdict}
use Rattle.monitor.proofs.Appends.{snoc, last_snoc, last_time}
use Rattle.monitor.proofs.Counts.{heards_on}
use Rattle.agreement.specs.Agreement.{data_from, status_heard, answer_heard, BackToBack, plan_for, shown_by, plan_between, Sent}
use Rattle.agreement.specs.Logged.{Asked, AskedBetween, EntryIs, LoggedAs, TerminalIsGood, TerminalIsGoodAfterAnyPast, TerminalIsError, TerminalIsErrorAfterAnyPast, TerminalReceives, TerminalReceivesAfterAnyPast}
use Rattle.agreement.proofs.Agrees.{not_broadcast, from_own, answer, answer_given, single_expects, answer_judged, error_shown, error_judged, between_judged}
use Rattle.agreement.proofs.Fronts.{heard_append, entries_append, begins_of}
use Rattle.agreement.proofs.Heard.{heard_valid, spaced_apart, answer_spaced, answer_last}
use Rattle.agreement.proofs.Joined.{Joins, joined_groups, data_joins, Alone, data_alone, late_alone, alone_commands, alone_behind, data_statuses, is_expected, not_expected, not_second, status_belongs, closed_groups}
use Rattle.agreement.proofs.Outcomes.{last_append, data_twins, plan_at, outcome_own, second_parts, outcome_two}
use Rattle.agreement.proofs.Pairs.{Parts, pair_parts}
use Rattle.agreement.proofs.Replies.{legal_single}
use Rattle.monitor.specs.Entries.{is_word}

-- ---- a whole message, and its entry

-- a command and records behind it that belong to it, so that it expects no status more, with that verdict where the controller listens long enough
record Whole (bus : ℕ) (c : WordRecord) (rest : List WordRecord) (given : Verdict) : Type 0 where
  command : is_command c ≡ true
  own : c.bus ≡ bus
  joins : Joins c [] rest
  other : (r : WordRecord) → (eqb (length rest) 0 && is_second c r) ≡ false
  told : (r : WordRecord) → expects c rest r ≡ false
  judged : (until : Moment) → (last_in c rest).time.0 + listened_least ≤ until.0 → outcome_in c rest until ≡ Some given

-- the records of its bus behind a command
heard_command : (bus place : ℕ) (c : WordRecord) (after : List WordRecord) → c.bus ≡ bus
    → heard_on bus place (c ∷ after) ≡ record { place = place; heard = c } ∷ heard_on bus (suc place) after
unfolding heard_on
heard_command bus place c after own = rw (eq-eqb c.bus bus own)

-- a group that a command begins is such an entry
group_logged : (bus : ℕ) (rs : List WordRecord) (before behind : List Group) (g : Group) (given : Verdict) → groups_on bus rs ≡ before ++ (g ∷ behind)
    → is_command g.first ≡ true
    → outcome_in g.first g.rest g.until ≡ Some given
    → EntryIs (entries_on bus rs) g.place (length (g.first ∷ g.rest)) given
unfolding entries_on entry_of message_of
group_logged bus rs before behind g given groups command judged = record {
  message = message_of g.first g.rest g.until;
  before = entries_of before;
  behind = entries_of behind;
  entries = ap entries_of groups ∙ entries_append before (g ∷ behind) ∙ rw command;
  number = refl;
  judged = judged;
}

-- the message is logged so, anywhere
whole_logged : (bus : ℕ) (c : WordRecord) (rest : List WordRecord) (given : Verdict) → Whole bus c rest given → LoggedAs bus c rest given
whole_logged bus c rest given whole front after behind begins records closed =
    let end : Moment = end_time (record { 0 = 0 }) (front ++ (c ∷ after)) in
    let place : ℕ = length front in
    let p : Placed = record { place = place; heard = c } in
    let qs : List Placed = heard_on bus (suc place) after in
    let file : heard_on bus 0 (front ++ (c ∷ after)) ≡ heard_on bus 0 front ++ (p ∷ qs) =
    heard_append bus (c ∷ after) front 0
    ∙ ap (λ (n : ℕ). heard_on bus 0 front ++ heard_on bus n (c ∷ after)) {x = 0 + place} {y = place} (omega arith)
    ∙ ap (λ (l : List Placed). heard_on bus 0 front ++ l) (heard_command bus place c after whole.own) in
    let split = begins_of end (end_time (record { 0 = 0 }) front) p qs (heard_on bus 0 front) begins in
    let joined = joined_groups end place c rest [] behind qs (heards_on bus (suc place) after ∙ records) whole.joins in
    let ends = closed_groups c rest whole.command end place whole.other whole.told joined.0 behind joined.1 closed in
    group_logged bus (front ++ (c ∷ after)) split.0 ends.1 (record { place = place; first = c; rest = rest; until = ends.0 }) given
    (ap (groups_of end) file ∙ split.1 ∙ ap (λ (l : List Group). split.0 ++ l) (joined.2 ∙ ends.2))
    whole.command
    (whole.judged ends.0 ends.3)

-- ---- an answer, and what the log needs of it

-- an answer to the message: due 260 after its last word, on its bus, from the command's address, which is not 31
record Fits (s : State) (a : Answer) : Type 0 where
  bus : a.bus ≡ s.message.bus
  due : a.due.0 ≡ s.message.last.0 + due_distance
  from : address_of a.status.0 ≡ address_of s.message.command.0
  alone : is_broadcast s.message.command.0 ≡ false

module _ (s : State) (a : Answer) (fits : Fits s a) where
  -- the words of the answer behind its status
  abbrev sent : List WordRecord
  sent = data_from (a.due.0 + word_ticks) a.bus (take a.count a.words)

  -- the status is a valid word with command sync
  status_command : is_command (status_heard a) ≡ true
  unfolding is_word
  status_command = rw (heard_valid command_sync a.status.0 refl)

  -- the words behind it come back to back
  sent_spaced : BackToBack s.message.bus a.due.0 sent
  sent_spaced = rw (← fits.bus) (answer_spaced a.bus (take a.count a.words) a.due.0)

  -- they belong to a message, once the status does
  answer_joins : (c : WordRecord) (rest : List WordRecord) → is_command c ≡ true → (eqb (length rest) 0 && is_second c (status_heard a)) ≡ false
      → (last_in c rest).time.0 ≡ s.message.last.0
      → expects c rest (status_heard a) ≡ true
      → Joins c rest (answer_heard a)
  answer_joins c rest command other last expected = (
    status_belongs c rest (status_heard a) command status_command (omega (arith, fits.due, last)) other expected,
    subst (λ (l : List WordRecord). Joins c (snoc rest (status_heard a)) l) (append-nil sent)
        (data_joins s.message.bus c command sent (snoc rest (status_heard a)) []
        (subst (λ (r : WordRecord). BackToBack s.message.bus r.time.0 sent) (sym (last_snoc c rest (status_heard a))) sent_spaced)
        tt),
  )

  -- no two records from the last word of the message on have one time
  answer_twins : (last : WordRecord) → last.time.0 ≡ s.message.last.0 → has_twins last (answer_heard a) ≡ false
  answer_twins last same =
      let behind : has_twins (status_heard a) sent ≡ false =
      ap (λ (l : List WordRecord). has_twins (status_heard a) l) (sym (append-nil sent))
      ∙ data_twins s.message.bus (status_heard a) sent [] sent_spaced refl in
      rw (ne_eqb a.due.0 last.time.0 (λ e. omega (arith, e, same, fits.due)), behind)

  -- the time of the last
  answer_end : (first : WordRecord) (rest : List WordRecord)
      → (last_in first (rest ++ answer_heard a)).time.0 ≡ a.due.0 + word_ticks * length (take a.count a.words)
  answer_end first rest =
      ap (λ (r : WordRecord). r.time.0) (last_append first rest (answer_heard a))
      ∙ last_time (status_heard a) sent
      ∙ answer_last a.bus (take a.count a.words) a.due.0

  -- the statuses of a message up to it
  answer_statuses : (rest : List WordRecord) → statuses_in (rest ++ answer_heard a) ≡ statuses_in (rest ++ (status_heard a ∷ []))
  answer_statuses [] =
      rw status_command
      (ap (λ (l : List WordRecord). status_heard a ∷ statuses_in l) (sym (append-nil sent))
      ∙ ap (λ (l : List WordRecord). status_heard a ∷ l) (data_statuses s.message.bus a.due.0 sent [] sent_spaced))
  answer_statuses (r ∷ rest) = ap (λ (l : List WordRecord). cond (is_command r) (r ∷ l) l) (answer_statuses rest)

  -- ---- behind a message of one command

  module _ (c : WordRecord) (ds : List WordRecord) (asked : Asked s c ds) (single : is_single s.message.command.0 ≡ true)
      (judged : (until : ℕ) → a.due.0 + word_ticks * length (take a.count a.words) + listened_least ≤ until
      → verdict_over (part_of s.message.command.0) s.message.last.0 until (answer_heard a) ≡ shown_by s a) where
    -- the last of the command's own words is the last that the message holds
    own_last_lem : (last_in c ds).time.0 ≡ s.message.last.0
    own_last_lem = ap (λ (m : Moment). m.0) asked.last

    -- the command is from the same address, and not to all terminals
    own_from : address_of a.status.0 ≡ address_of c.word
    own_from = fits.from ∙ ap address_of (sym asked.word)

    own_single : is_broadcast a.status.0 ≡ false
    own_single = rw fits.from fits.alone

    -- no record behind it is a second command
    one_other : (ds : List WordRecord) → (last_in c ds).time.0 ≡ s.message.last.0 → (eqb (length ds) 0 && is_second c (status_heard a)) ≡ false
    one_other [] last = late_alone c (status_heard a) (omega (arith, fits.due, last))
    one_other (d ∷ ds) last = not_second c (status_heard a) (length ds)

    all_other : (ds : List WordRecord) (r : WordRecord) → (eqb (length (ds ++ answer_heard a)) 0 && is_second c r) ≡ false
    all_other [] r = not_second c r (length sent)
    all_other (d ∷ ds) r = not_second c r (length (ds ++ answer_heard a))

    alone_all : (ds : List WordRecord) → BackToBack s.message.bus c.time.0 ds → (last_in c ds).time.0 ≡ s.message.last.0
        → Alone c (ds ++ answer_heard a)
    alone_all [] spaced last = late_alone c (status_heard a) (omega (arith, fits.due, last))
    alone_all (d ∷ ds) spaced last = data_alone s.message.bus c.time.0 c (d ∷ ds) spaced

    -- no status has come before the answer, and with it the one that is expected
    none_yet : statuses_of c ds ≡ shown.None
    none_yet =
        ap (λ (l : List WordRecord). statuses_by (statuses_in l))
        (alone_behind c ds (data_alone s.message.bus c.time.0 c ds asked.spaced) ∙ sym (append-nil ds))
        ∙ ap statuses_by (data_statuses s.message.bus c.time.0 ds [] asked.spaced)

    one_told : statuses_of c (ds ++ answer_heard a) ≡ shown.One (record { 0 = a.status.0 })
    one_told =
        ap (λ (l : List WordRecord). statuses_by (statuses_in l)) (alone_behind c (ds ++ answer_heard a) (alone_all ds asked.spaced own_last_lem))
        ∙ ap statuses_by (answer_statuses ds ∙ data_statuses s.message.bus c.time.0 ds (status_heard a ∷ []) asked.spaced)
        ∙ rw status_command

    one_joins : Joins c [] (ds ++ answer_heard a)
    unfolding is_for is_from
    one_joins =
        data_joins s.message.bus c asked.command ds [] (answer_heard a) asked.spaced
        (answer_joins c ds asked.command (one_other ds own_last_lem) own_last_lem
        (is_expected c ds _ _ (alone_commands c ds (data_alone s.message.bus c.time.0 c ds asked.spaced)) none_yet (status_heard a) own_single
        (eq-eqb (address_of c.word) (address_of a.status.0) (sym own_from)) refl))

    one_twins : has_twins c (ds ++ answer_heard a) ≡ false
    one_twins = data_twins s.message.bus c ds (answer_heard a) asked.spaced (answer_twins (last_in c ds) own_last_lem)

    -- the log's plan is the controller's
    same_plan : (until : Moment) → plan_at c (last_in c ds).time until ≡ plan_for s until
    same_plan until = rw (asked.last, asked.word, asked.bus)

    one_possible : (until : Moment) → is_possible (plan_at c (last_in c ds).time until) ≡ true
    unfolding is_possible
    one_possible until = rw asked.word single

    one_whole : Whole s.message.bus c (ds ++ answer_heard a) (shown_by s a)
    unfolding is_for is_from
    one_whole = record {
      command = asked.command;
      own = asked.bus;
      joins = one_joins;
      other = all_other ds;
      told = λ r.
          not_expected c (ds ++ answer_heard a) _ _ (alone_commands c (ds ++ answer_heard a) (alone_all ds asked.spaced own_last_lem)) one_told r
          (λ single for. eq-eqb (address_of a.status.0) (address_of r.word) (own_from ∙ eqb-true (address_of c.word) (address_of r.word) for));
      judged = λ until listened.
          outcome_own s.message.bus c ds (answer_heard a) until (alone_all ds asked.spaced own_last_lem) asked.awaited asked.spaced (one_possible until)
          one_twins
          ∙ ap (λ (plan : Plan). Some (verdict_of plan (answer_heard a))) (same_plan until)
          ∙ ap (λ (v : Verdict). Some v)
          (verdict_of_lem (plan_for s until) (part_of s.message.command.0) (single_expects s until fits.alone) (answer_heard a)
          ∙ judged until.0 (omega (arith, listened, answer_end c ds)));
    }

  -- ---- behind a message of two

  module _ (c second status : WordRecord) (ds : List WordRecord) (asked : AskedBetween s c second status ds)
      (judged : (until : Moment) → a.due.0 + listened_least ≤ until.0
      → verdict_of (plan_between s second until) (status ∷ (ds ++ answer_heard a)) ≡ shown_by s a) where
    -- the pair, and the transmitter's part
    parts : Parts s.message.command.0 second.word
    parts = pair_parts s.message.command.0 second.word asked.sent.pair

    heard : Sent s second status ds
    heard = asked.sent

    between_last : (last_in status ds).time.0 ≡ s.message.last.0
    between_last = ap (λ (m : Moment). m.0) heard.last

    first_command : is_command status ≡ true
    unfolding is_word
    first_command = rw (heard.answered.valid, heard.answered.sync)

    -- the commands and the statuses, from each record on
    both : (rest : List WordRecord) → commands_of c (second ∷ rest) ≡ Two (record { 0 = c.word }) (record { 0 = second.word })
    both rest = rw asked.directly

    behind_both : (rest : List WordRecord) → statuses_of c (second ∷ rest) ≡ statuses_by (statuses_in rest)
    behind_both rest = rw asked.directly

    first_told : statuses_of c (second ∷ status ∷ ds) ≡ shown.One (record { 0 = status.word })
    first_told =
        behind_both (status ∷ ds)
        ∙ rw first_command
        (ap (λ (l : List WordRecord). statuses_by (status ∷ statuses_in l)) (sym (append-nil ds))
        ∙ ap (λ (l : List WordRecord). statuses_by (status ∷ l)) (data_statuses s.message.bus status.time.0 ds [] heard.spaced))

    both_told : statuses_of c (second ∷ status ∷ (ds ++ answer_heard a)) ≡ shown.Two (record { 0 = status.word }) (record { 0 = a.status.0 })
    both_told =
        behind_both (status ∷ (ds ++ answer_heard a))
        ∙ rw first_command
        (ap (λ (l : List WordRecord). statuses_by (status ∷ l))
        (answer_statuses ds ∙ data_statuses s.message.bus status.time.0 ds (status_heard a ∷ []) heard.spaced)
        ∙ rw status_command)

    -- the second command belongs to the message, and each status
    second_belongs : belongs (part_in c [] second) ≡ true
    unfolding part_in kind_of is_far
    second_belongs =
        let directly = second_parts c second asked.directly in
        let near = spaced_apart c.time.0 second.time.0 directly.1 in
        rw (asked.command, le-ltb 320 (second.time.0 - c.time.0) (omega (arith, near.1)), directly.0, asked.directly)

    first_belongs : belongs (part_in c (second ∷ []) status) ≡ true
    unfolding is_for is_from
    first_belongs =
        status_belongs c (second ∷ []) status asked.command first_command (omega (arith, heard.answered.not_late)) (not_second c status 0)
        (is_expected c (second ∷ []) _ _ (both []) (behind_both []) status (rw heard.answered.from parts.single)
        (rw (eq-eqb (address_of second.word) (address_of status.word) (sym heard.answered.from))
        (or-true (eqb (address_of c.word) (address_of status.word)))) refl)

    answer_expected : expects c (second ∷ status ∷ ds) (status_heard a) ≡ true
    unfolding is_for is_from
    answer_expected =
        is_expected c (second ∷ status ∷ ds) _ _ (both (status ∷ ds)) first_told (status_heard a) (rw fits.from fits.alone)
        (rw (eq-eqb (address_of c.word) (address_of a.status.0) (ap address_of asked.word ∙ sym fits.from)))
        (rw (heard.answered.from, fits.from) parts.apart)

    two_joins : Joins c [] (second ∷ status ∷ (ds ++ answer_heard a))
    two_joins =
        let behind =
        data_joins s.message.bus c asked.command ds (second ∷ status ∷ []) (answer_heard a) heard.spaced
        (answer_joins c (second ∷ status ∷ ds) asked.command (not_second c (status_heard a) (length (status ∷ ds))) between_last answer_expected) in
        (second_belongs, (first_belongs, behind))

    -- no two records have one time
    two_twins : has_twins c (second ∷ status ∷ (ds ++ answer_heard a)) ≡ false
    two_twins =
        let near = spaced_apart c.time.0 second.time.0 (second_parts c second asked.directly).1 in
        rw (
          ne_eqb second.time.0 c.time.0 (λ e. omega (arith, e, near.0)),
          ne_eqb status.time.0 second.time.0 (λ e. omega (arith, e, heard.answered.not_early)),
          data_twins s.message.bus status ds (answer_heard a) heard.spaced (answer_twins (last_in status ds) between_last),
        )

    two_whole : Whole s.message.bus c (second ∷ status ∷ (ds ++ answer_heard a)) (shown_by s a)
    unfolding is_for is_from
    two_whole = record {
      command = asked.command;
      own = asked.bus;
      joins = two_joins;
      other = λ r. not_second c r (length (status ∷ (ds ++ answer_heard a)));
      told = λ r.
          not_expected c (second ∷ status ∷ (ds ++ answer_heard a)) _ _ (both (status ∷ (ds ++ answer_heard a))) both_told r
          (λ single for.
          or_cases (eqb (address_of c.word) (address_of r.word)) (eqb (address_of second.word) (address_of r.word)) for
          (λ first.
          rw
          (eq-eqb (address_of a.status.0) (address_of r.word)
          (fits.from ∙ ap address_of (sym asked.word) ∙ eqb-true (address_of c.word) (address_of r.word) first))
          (or-true (eqb (address_of status.word) (address_of r.word))))
          (λ other.
          rw
          (eq-eqb (address_of status.word) (address_of r.word)
          (heard.answered.from ∙ eqb-true (address_of second.word) (address_of r.word) other))));
      judged = λ until listened.
          outcome_two c second (status ∷ (ds ++ answer_heard a)) until asked.directly two_twins
          ∙ rw (asked.word, asked.bus)
          (ap (λ (v : Verdict). Some v) (judged until (omega (arith, listened, answer_end status ds))));
    }

-- ---- the answer of the terminal

module _ (s : State) (sound : Sound s) (t : ℕ) (transmit : List ℕ) (due : is_due s.message t ≡ true) (shows : is_withheld s ≡ false) where
  answer_fits : Fits s (answer s sound t transmit due shows)
  answer_fits = record { bus = refl; due = refl; from = from_own s sound t transmit due shows; alone = not_broadcast s sound t transmit due shows }

pub terminal_is_good : TerminalIsGood
terminal_is_good s sound t transmit sized due legal shows = (
  answer s sound t transmit due shows,
  answer_given s sound t transmit due shows,
  λ c ds asked.
      whole_logged s.message.bus c _ _
      (one_whole s (answer s sound t transmit due shows) (answer_fits s sound t transmit due shows) c ds asked
      (legal_single s.setup s.message.command.0 legal) (answer_judged s sound t transmit due shows sized legal)),
)

pub terminal_is_good_after_any_past : TerminalIsGoodAfterAnyPast
terminal_is_good_after_any_past past = terminal_is_good _ (reachable past)

-- ---- its answer to an illegal command

pub terminal_is_error : TerminalIsError
terminal_is_error s sound t transmit due single illegal flags shows = (
  answer s sound t transmit due shows,
  answer_given s sound t transmit due shows,
  λ c ds asked.
      subst (LoggedAs s.message.bus c (ds ++ answer_heard (answer s sound t transmit due shows))) (error_shown s sound t transmit due shows illegal flags)
      (whole_logged s.message.bus c _ _
      (one_whole s (answer s sound t transmit due shows) (answer_fits s sound t transmit due shows) c ds asked single
      (λ until heard. error_judged s sound t transmit due shows illegal flags until))),
)

pub terminal_is_error_after_any_past : TerminalIsErrorAfterAnyPast
terminal_is_error_after_any_past past = terminal_is_error _ (reachable past)

-- ---- its answer between terminals

pub terminal_receives : TerminalReceives
terminal_receives s sound t transmit due shows = (
  answer s sound t transmit due shows,
  answer_given s sound t transmit due shows,
  λ c second status ds asked.
      whole_logged s.message.bus c _ _
      (two_whole s (answer s sound t transmit due shows) (answer_fits s sound t transmit due shows) c second status ds asked
      (between_judged s sound t transmit due shows second status ds asked.sent)),
)

pub terminal_receives_after_any_past : TerminalReceivesAfterAnyPast
terminal_receives_after_any_past past = terminal_receives _ (reachable past)
