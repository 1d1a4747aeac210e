-- A file worked out, by computation, and by `terminal_receives`. Assumes nothing.
use mathlib.Core.Path.{◌≡◌, refl, sym, subst, ◌∙◌}
use mathlib.Core.List.{[], ◌∷◌, ◌++◌}
use lib.Dec.{lit≤}
use lib.ListN.{length}
use Rattle.terminal.specs.Events.{set_up_refusal, set_up_of}
use Rattle.terminal.specs.Cards.{zeros}
use Rattle.terminal.proofs.Bench.{whole}
use Rattle.history.specs.Calls.{step, run}
use Rattle.history.specs.Witnesses.{hears, all_legal, bench_after}
use Rattle.verdict.specs.Plans.{is_pair, is_unjudged}
use Rattle.verdict.specs.Facts.{flag_fact}
use Rattle.monitor.specs.Entries.{is_second, is_for, is_from, expects, is_far, part_of, last_in}
use Rattle.monitor.specs.Logs.{heard_on, part_in, groups_from, end_time, entries_on}
use Rattle.monitor.specs.Theorems.{on_bus}
use Rattle.terminal.specs.declared.answers.Answer.{Answer}
use Rattle.agreement.specs.Agreement.{data_from, answer_heard, shown_by}
use Rattle.agreement.specs.Logged.{Closed, by_command, EntryIs}
use Rattle.agreement.specs.Worked.{front, first, second, noise, status, words, answer, next, after, heard_by, past, terminal, reply, Met, Worked}
use Rattle.agreement.proofs.Logged.{terminal_receives_after_any_past}
use Rattle.history.proofs.Tests.{some_same}
use Rattle.monitor.specs.Entries.{is_word}

-- every definition that the file runs through
unfoldable worked_out : Unit {0}
unfolding whole set_up_refusal set_up_of step run hears all_legal bench_after is_pair is_unjudged flag_fact is_word is_second is_for is_from expects is_far part_of heard_on part_in groups_from data_from front first second noise status words answer next after heard_by past terminal reply
worked_out = tt

pub met : Met
unfolding worked_out
met = record {
  due = refl;
  shown = refl;
  given = refl;
  asked = record {
    command = refl;
    word = refl;
    bus = refl;
    directly = refl;
    sent = record {
      pair = refl;
      bus = refl;
      answered = record { not_early = lit≤ tt; not_late = lit≤ tt; valid = refl; sync = refl; from = refl; flags = λ e. (refl, refl) };
      number = refl;
      spaced = (refl, refl, refl, (refl, refl, refl, tt));
      last = refl;
    };
  };
  begins = refl;
  records = refl;
  closed = by_command next [] refl (lit≤ tt);
}

pub worked : Worked
unfolding worked_out
worked =
    let told = terminal_receives_after_any_past (record { address = 5; receive = all_legal; transmit = all_legal; accepted = refl; calls = past }) 2120 zeros met.due met.shown in
    let same : reply ≡ told.0 = some_same reply told.0 (sym met.given ∙ told.1) in
    subst
    (λ (a : Answer).
    EntryIs (entries_on 0 (front ++ (first ∷ after))) (length front) (length (first ∷ second ∷ status ∷ (words ++ answer_heard a))) (shown_by terminal a))
    (sym same)
    (told.2 first second status words met.asked front after (next ∷ []) met.begins
    (subst (λ (a : Answer). on_bus 0 after ≡ (second ∷ status ∷ (words ++ answer_heard a)) ++ (next ∷ [])) same met.records)
    (subst
    (λ (a : Answer).
    Closed (last_in first (second ∷ status ∷ (words ++ answer_heard a))).time.0 (end_time (record { 0 = 0 }) (front ++ (first ∷ after))) (next ∷ []))
    same met.closed))
