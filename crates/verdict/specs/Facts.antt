-- Document 01, "Controller verdicts", and 02 i: "First fact found decides". Assumes nothing.
use Rattle.std.specs.Prelude.{ℕ, Bool, not, cond, eqb, ltb, leb, Option, Some, None}
use Rattle.words.specs.Words.{since_of, gap_of, spacing_of, spacing_most, no_response_distance, address_of, has_flag, is_valid, command_sync, data_sync}
use Rattle.words.specs.declared.times.Spacing.{Spacing}
use Rattle.words.specs.declared.times.Spacing.TheVariants.{Overlapping, BackToBack, Separated}
use Rattle.words.specs.declared.statuses.Flag.TheVariants.{MessageError, Busy}
use Rattle.records.specs.declared.forms.WordRecord.{WordRecord}
use Rattle.verdict.specs.declared.verdicts.Verdict.{Verdict}
use Rattle.verdict.specs.declared.verdicts.Verdict.TheVariants as verdict
use Rattle.verdict.specs.declared.plans.Expected.{Expected}
use Rattle.verdict.specs.declared.plans.Expected.TheVariants.{Status, Data}

-- ---- distances

-- "nothing with a gap up to 140", "Gap below 40", "Above 120" (003 7.3.3.8, 7.3.3.9; 002 2.8)
abbrev pub response_most : ℕ
response_most = 140

abbrev pub gap_least : ℕ
gap_least = 40

abbrev pub gap_most : ℕ
gap_most = 120

-- "2 if Q is below the last word plus 220"
abbrev pub listened_least : ℕ
listened_least = 220

-- ---- a fact of a record: the verdict that it decides, none where it shows none

-- "Message error: 8. Busy: 9."
unfoldable pub flag_fact : WordRecord → Option Verdict
flag_fact r = cond (has_flag MessageError r.word) (Some verdict.MessageError) (cond (has_flag Busy r.word) (Some verdict.Busy) None)

-- "Status: nothing with a gap up to 140: 1 no response if .. a record came later .. Gap below 40: 3 early. Above 120: 4 late. Not valid, sync 2
-- included: 5. Data sync: 6. Wrong address: 7. Message error: 8. Busy: 9. The last two aren't given for mode codes 2 and 18." A gap that would be
-- negative is 0, and below 40.
unfoldable pub status_fact : ℕ → Bool → ℕ → WordRecord → Option Verdict
status_fact address unjudged last r =
    cond (ltb response_most (gap_of last r.time.0)) (Some verdict.NoResponse)
    (cond (ltb (gap_of last r.time.0) gap_least) (Some verdict.Early)
    (cond (ltb gap_most (gap_of last r.time.0)) (Some verdict.Late)
    (cond (not (is_valid r.sync r.faults r.word r.parity)) (Some verdict.NotValid)
    (cond (eqb r.sync data_sync) (Some verdict.WrongSync)
    (cond (not (eqb (address_of r.word) address)) (Some verdict.WrongAddress) (cond unjudged None (flag_fact r)))))))

-- "the verdict splits 10 into 10 separated or missing and 12 overlapping" (02 i); back to back, what comes "then" decides
abbrev pub spacing_fact : Spacing → Option Verdict → Option Verdict
spacing_fact (Overlapping distance) next = Some verdict.Overlapping
spacing_fact (BackToBack distance) next = next
spacing_fact (Separated distance) next = Some verdict.Separated

-- "Data: not 195 to 205 after the last word ..: 10 .. Then not valid: 5. Command sync: 6.", with 10 split
unfoldable pub data_fact : ℕ → WordRecord → Option Verdict
data_fact last r =
    spacing_fact (spacing_of last r.time.0)
    (cond (not (is_valid r.sync r.faults r.word r.parity)) (Some verdict.NotValid) (cond (eqb r.sync command_sync) (Some verdict.WrongSync) None))

-- of a record where that is expected, none where nothing more is, the last word at that time; "A record left over: 11."
unfoldable pub fact_of : Option Expected → ℕ → WordRecord → Option Verdict
fact_of (Some (Status address unjudged)) last r = status_fact address unjudged last r
fact_of (Some Data) last r = data_fact last r
fact_of None last r = Some verdict.LeftOver

-- ---- where no record is left

-- "1 no response if Q is at least 320 past the last word .., else 2 still waiting"; "missing with Q more than 205 past it: 10; missing otherwise: 2",
-- "10 separated or missing" (02 i); "Then 2 if Q is below the last word plus 220, else 0 good."
unfoldable pub end_of : Option Expected → ℕ → ℕ → Verdict
end_of (Some (Status address unjudged)) last until = cond (leb no_response_distance (since_of last until)) verdict.NoResponse verdict.Waiting
end_of (Some Data) last until = cond (ltb spacing_most (since_of last until)) verdict.Separated verdict.Waiting
end_of None last until = cond (ltb (since_of last until) listened_least) verdict.Waiting verdict.Good
