-- What an entry has, it has of its records: their times, buses and words; and it counts no more than they are. Assumes nothing.
use mathlib.Core.Bool.{Bool, true, false, cond, not, ◌||◌}
use Prim.Native.Nat.{ℕ, ◌+◌, ◌-◌, ◌≤◌}
use native.Mathlib.Omega.{arith}
use mathlib.Core.List.{List, [], ◌∷◌}
use lib.Dec.{leb}
use lib.ListN.{length}
use Rattle.words.specs.Words.{since_of, parity_middle}
use Rattle.words.specs.declared.times.Moment.{Moment}
use Rattle.records.specs.Records.{last_bus}
use Rattle.records.specs.Theorems as records
use Rattle.records.proofs.Ranges.{in_range_all}
use Rattle.records.specs.declared.forms.WordRecord.{WordRecord}
use Rattle.verdict.specs.Plans.{is_possible}
use Rattle.verdict.specs.Verdicts.{verdict_of}
use Rattle.verdict.proofs.Ranges.{verdict_range}
use Rattle.monitor.specs.Entries.{is_command, is_data_word, is_second, commands_of, behind_of, statuses_in, statuses_by, own_bad, returned_in, has_twins, plan_of, outcome_in, gap_from, gap_before, data_words, last_command, message_of, entry_of}
use Rattle.monitor.specs.declared.entries.Commands.TheVariants as commands
use Rattle.monitor.specs.declared.entries.Gap.TheVariants as gap
use Rattle.std.proofs.Common.{None, Some}
use Rattle.monitor.specs.declared.entries.Entry.TheVariants as entry
use Rattle.texts.specs.Theorems.{Number, CommandsFit, StatusesFit, GapFits, OutcomeFits, SingleFits, Fits, EntryFits}

record_fits : (r : WordRecord) → records.Fits last_bus r → SingleFits r
record_fits r f =
    let ranged = in_range_all last_bus r f.ranged in
    record {
      time = omega (arith, ranged.time);
      bus = ranged.bus;
      sync = omega (arith, ranged.sync);
      faults = omega (arith, ranged.faults);
      word = f.sixteen;
      parity = omega (arith, ranged.parity);
    }

module _ (first : WordRecord) where
  commands_fit : (rest : List WordRecord) → records.AllFit last_bus (first ∷ rest) → CommandsFit (commands_of first rest)
  commands_fit [] f = f.0.sixteen
  commands_fit (r ∷ rest) f = by (is_second first r)
    where
      by : (b : Bool) → CommandsFit (cond b (commands.Two (record { 0 = first.word }) (record { 0 = r.word })) (commands.One (record { 0 = first.word })))
      by true = (f.0.sixteen, f.1.0.sixteen)
      by false = f.0.sixteen

  behind_fit : (rest : List WordRecord) → records.AllFit last_bus rest → records.AllFit last_bus (behind_of first rest)
  behind_fit [] f = f
  behind_fit (r ∷ rest) f = by (is_second first r)
    where
      by : (b : Bool) → records.AllFit last_bus (cond b rest (r ∷ rest))
      by true = f.1
      by false = f

statuses_in_lem : (rs : List WordRecord) → records.AllFit last_bus rs → records.AllFit last_bus (statuses_in rs)
statuses_in_lem [] f = f
statuses_in_lem (r ∷ rs) f = by (is_command r) (statuses_in_lem rs f.1)
  where
    by : (b : Bool) → records.AllFit last_bus (statuses_in rs) → records.AllFit last_bus (cond b (r ∷ statuses_in rs) (statuses_in rs))
    by true more = (f.0, more)
    by false more = more

statuses_fit : (rs : List WordRecord) → records.AllFit last_bus rs → StatusesFit (statuses_by rs)
statuses_fit [] f = tt
statuses_fit (r ∷ []) f = f.0.sixteen
statuses_fit (r ∷ s ∷ rs) f = (f.0.sixteen, f.1.0.sixteen)

gap_from_lem : (before after : ℕ) → Number after → GapFits (Some (gap_from before after))
unfolding gap_from
gap_from_lem before after l = by (leb parity_middle (since_of before after))
  where
    by : (b : Bool)
        → GapFits (Some (cond b (gap.Apart (record { 0 = since_of before after - parity_middle })) (gap.Overlap (record { 0 = parity_middle - since_of before after }))))
    by true = omega (arith, l)
    by false = omega arith

gap_fits : (before : ℕ) (rs : List WordRecord) → records.AllFit last_bus rs → GapFits (gap_before before rs)
gap_fits before [] f = tt
gap_fits before (r ∷ rs) f = by (is_command r) (gap_from_lem before r.time.0 (record_fits r f.0).time) (gap_fits r.time.0 rs f.1)
  where
    by : (b : Bool) → GapFits (Some (gap_from before r.time.0)) → GapFits (gap_before r.time.0 rs) → GapFits (cond b (Some (gap_from before r.time.0)) (gap_before r.time.0 rs))
    by true here later = here
    by false here later = later

words_most : (rs : List WordRecord) → data_words rs ≤ length rs
words_most [] = omega arith
words_most (r ∷ rs) = by (is_data_word r) (words_most rs)
  where
    by : (b : Bool) → data_words rs ≤ length rs → cond b 1 0 + data_words rs ≤ length (r ∷ rs)
    by true l = omega (arith, l)
    by false l = omega (arith, l)

outcome_fits : (first : WordRecord) (rest : List WordRecord) (until : Moment) → OutcomeFits (outcome_in first rest until)
unfolding outcome_in
outcome_fits first rest until = by (not (is_possible (plan_of first rest until)) || own_bad first rest || has_twins first rest)
  where
    by : (b : Bool) → OutcomeFits (cond b None (Some (verdict_of (plan_of first rest until) (returned_in first rest))))
    by true = tt
    by false = omega (arith, verdict_range (plan_of first rest until) (returned_in first rest))

pub entry_fits : EntryFits
unfolding entry_of message_of
entry_fits first rest until f l = by (is_command first)
  where
    by : (b : Bool) → Fits (cond b (entry.Message (message_of first rest until)) (entry.Single first))
    by false = record_fits first f.0
    by true =
        let own = record_fits first f.0 in
        let behind = behind_fit first rest f.1 in
        record {
          time = own.time;
          bus = own.bus;
          commands = commands_fit first rest f;
          statuses = statuses_fit (statuses_in (behind_of first rest)) (statuses_in_lem (behind_of first rest) behind);
          words = omega (arith, words_most rest, l);
          records = l;
          gap = gap_fits (last_command first rest).time.0 (behind_of first rest) behind;
          outcome = outcome_fits first rest until;
        }
