-- What is proved of the log (02 a). Each is proved in proofs/ under the name at its side. Assumes nothing.
use Rattle.std.specs.Prelude.{◌≡◌, ℕ, suc, ◌+◌, ◌^◌, ◌<◌, ◌≤◌, true, false, cond, ◌&&◌, List, [], ◌∷◌, ◌++◌, length, drop, ◌==◌, Option, Some, None, Ok, Err}
use Rattle.words.specs.declared.refusals.Refusal.{Refusal}
use Rattle.words.specs.declared.refusals.Refusal.TheVariants.{OutOfOrder}
use Rattle.records.specs.Records.{record_bytes, last_bus, read_of}
use Rattle.records.specs.Files.{version, forms_of, file_of}
use Rattle.records.specs.Theorems.{Fits}
use Rattle.records.specs.declared.forms.WordRecord.{WordRecord}
use Rattle.verdict.specs.Verdicts.{judged_of}
use Rattle.verdict.specs.declared.verdicts.Verdict.{Verdict}
use Rattle.verdict.specs.declared.judges.Finding.{Finding}
use Rattle.monitor.specs.Entries.{is_second, behind_of, statuses_in, expects, returned_in, plan_of, outcome_in}
use Rattle.monitor.specs.Logs.{Group, groups_on, end_time, entries_on, log_of, FileLog, file_log}
use Rattle.monitor.specs.Machine.{side_start, ready_of, fed_of, ended_by, given_of, choice_of}
use Rattle.monitor.specs.declared.entries.Entry.{Entry}
use Rattle.monitor.specs.declared.entries.Entry.TheVariants as entry
use Rattle.monitor.specs.declared.entries.Logged.{Logged}
use Rattle.monitor.specs.declared.walks.Stop.{Stop}
use Rattle.monitor.specs.declared.walks.Stop.TheVariants as stop
use Rattle.monitor.specs.declared.walks.Side.{Side}
use Rattle.monitor.specs.declared.sides.Choice.TheVariants.{FeedFirst, FeedSecond, GiveFirst, GiveSecond, Over}

-- ---- the machine gives the log

-- A course of calls: two sides, each with the bytes of the file that it has not taken; the caller does what `choose` says, feeding any chunk of them, and
-- the entries are given one by one up to where the log is over, with the sides as they are then.
pub data Course : Side → List ℕ → Side → List ℕ → List Logged → Side → Side → Type 0 where
  over : {a b : Side} {us vs : List ℕ} → choice_of (ready_of a) (ready_of b) ≡ Over → Course a us b vs [] a b
  feed_first : {a b a' b' : Side} {us vs : List ℕ} {es : List Logged} (chunk rest : List ℕ)
      → choice_of (ready_of a) (ready_of b) ≡ FeedFirst
      → us ≡ chunk ++ rest
      → Course (fed_of a chunk).side (drop (fed_of a chunk).taken us) b vs es a' b'
      → Course a us b vs es a' b'
  end_first : {a b a' b' : Side} {us vs : List ℕ} {es : List Logged}
      → choice_of (ready_of a) (ready_of b) ≡ FeedFirst
      → length us < record_bytes
      → Course (ended_by a us) [] b vs es a' b'
      → Course a us b vs es a' b'
  give_first : {a b a' b' : Side} {us vs : List ℕ} {es : List Logged} (e : Logged)
      → choice_of (ready_of a) (ready_of b) ≡ GiveFirst
      → a.found ≡ Some e
      → Course (given_of a) us b vs es a' b'
      → Course a us b vs (e ∷ es) a' b'
  feed_second : {a b a' b' : Side} {us vs : List ℕ} {es : List Logged} (chunk rest : List ℕ)
      → choice_of (ready_of a) (ready_of b) ≡ FeedSecond
      → vs ≡ chunk ++ rest
      → Course a us (fed_of b chunk).side (drop (fed_of b chunk).taken vs) es a' b'
      → Course a us b vs es a' b'
  end_second : {a b a' b' : Side} {us vs : List ℕ} {es : List Logged}
      → choice_of (ready_of a) (ready_of b) ≡ FeedSecond
      → length vs < record_bytes
      → Course a us (ended_by b vs) [] es a' b'
      → Course a us b vs es a' b'
  give_second : {a b a' b' : Side} {us vs : List ℕ} {es : List Logged} (e : Logged)
      → choice_of (ready_of a) (ready_of b) ≡ GiveSecond
      → b.found ≡ Some e
      → Course a us (given_of b) vs es a' b'
      → Course a us b vs (e ∷ es) a' b'

-- how a side stops with a refusal, and without one
abbrev pub stop_of : Option Refusal → Stop
stop_of None = stop.Ended
stop_of (Some n) = stop.Refused n

-- a side that has ended as the file does
abbrev pub EndsAs : FileLog → Side → Type 0
EndsAs log s = (s.stop ≡ stop_of log.refusal) × (s.walk.records ≡ log.records)

-- Of a file of fewer than 2^64 bytes, in whatever chunks, the entries given are those of the definition, in order, and both sides end with its refusal and
-- its number of records: log_of_the_file
abbrev pub LogOfTheFile : Type 0
LogOfTheFile =
    (bytes : List ℕ) → length bytes < 2 ^ 64
    → (es : List Logged) (a b : Side) → Course (side_start 0) bytes (side_start 1) bytes es a b
    → (es ≡ (file_log (version ∷ bytes)).entries) × EndsAs (file_log (version ∷ bytes)) a × EndsAs (file_log (version ∷ bytes)) b

-- What is left to do of a side: of one that reads on, its bytes and two steps more; of one that has ended, none; and one where it has an entry to give.
abbrev pub left_with : Stop → Option Logged → ℕ → ℕ
left_with stop.Reading None bytes = bytes + 2
left_with stop.Reading (Some e) bytes = bytes + 3
left_with stop.Ended None bytes = 0
left_with stop.Ended (Some e) bytes = 1
left_with (stop.Refused n) None bytes = 0
left_with (stop.Refused n) (Some e) bytes = 1
left_with (stop.Unnamed n) None bytes = 0
left_with (stop.Unnamed n) (Some e) bytes = 1

abbrev pub left_of : Side → List ℕ → ℕ
left_of s us = left_with s.stop s.found (length us)

-- A side that is to be fed: less is left after any chunk of its bytes that has a whole record, and after the end where fewer than 16 are left. A shorter
-- chunk changes nothing, and no byte of it is taken.
pub record Feeds (s : Side) (us : List ℕ) : Type 0 where
  pub fed : (chunk rest : List ℕ) → us ≡ chunk ++ rest → record_bytes ≤ length chunk → left_of (fed_of s chunk).side (drop (fed_of s chunk).taken us) < left_of s us
  pub ended : length us < record_bytes → left_of (ended_by s us) [] < left_of s us
  pub short : (chunk : List ℕ) → length chunk < record_bytes → fed_of s chunk ≡ record { side = s; taken = 0 }

-- A side that is to give: it has an entry, and less is left after it.
pub record Gives (s : Side) (us : List ℕ) : Type 0 where
  pub found : (e : Logged) × (s.found ≡ Some e)
  pub given : left_of (given_of s) us < left_of s us

-- Each call that `choose` asks for lessens what is left of its side: goes_on_lem
pub record Advances (a : Side) (us : List ℕ) (b : Side) (vs : List ℕ) : Type 0 where
  pub first_fed : choice_of (ready_of a) (ready_of b) ≡ FeedFirst → Feeds a us
  pub second_fed : choice_of (ready_of a) (ready_of b) ≡ FeedSecond → Feeds b vs
  pub first_given : choice_of (ready_of a) (ready_of b) ≡ GiveFirst → Gives a us
  pub second_given : choice_of (ready_of a) (ready_of b) ≡ GiveSecond → Gives b vs

abbrev pub GoesOn : Type 0
GoesOn = (a b : Side) (us vs : List ℕ) → Advances a us b vs

-- The calls come to Over, whichever chunks the caller feeds, if only each has a whole record while there is one.
pub data Finishes : Side → List ℕ → Side → List ℕ → Type 0 where
  finished : {a b : Side} {us vs : List ℕ} → choice_of (ready_of a) (ready_of b) ≡ Over → Finishes a us b vs
  feeds_first : {a b : Side} {us vs : List ℕ} → choice_of (ready_of a) (ready_of b) ≡ FeedFirst
      → ((chunk rest : List ℕ) → us ≡ chunk ++ rest → record_bytes ≤ length chunk → Finishes (fed_of a chunk).side (drop (fed_of a chunk).taken us) b vs)
      → (length us < record_bytes → Finishes (ended_by a us) [] b vs)
      → Finishes a us b vs
  feeds_second : {a b : Side} {us vs : List ℕ} → choice_of (ready_of a) (ready_of b) ≡ FeedSecond
      → ((chunk rest : List ℕ) → vs ≡ chunk ++ rest → record_bytes ≤ length chunk → Finishes a us (fed_of b chunk).side (drop (fed_of b chunk).taken vs))
      → (length vs < record_bytes → Finishes a us (ended_by b vs) [])
      → Finishes a us b vs
  gives_first : {a b : Side} {us vs : List ℕ} (e : Logged) → choice_of (ready_of a) (ready_of b) ≡ GiveFirst → a.found ≡ Some e
      → Finishes (given_of a) us b vs
      → Finishes a us b vs
  gives_second : {a b : Side} {us vs : List ℕ} (e : Logged) → choice_of (ready_of a) (ready_of b) ≡ GiveSecond → b.found ≡ Some e
      → Finishes a us (given_of b) vs
      → Finishes a us b vs

-- So they do, from any two sides and any bytes: comes_to_over
abbrev pub ComesToOver : Type 0
ComesToOver = (a b : Side) (us vs : List ℕ) → Finishes a us b vs

-- So there is a course for every file, and the log is given to its end: log_is_given
abbrev pub LogIsGiven : Type 0
LogIsGiven = (bytes : List ℕ) → (es : List Logged) × (a : Side) × (b : Side) × Course (side_start 0) bytes (side_start 1) bytes es a b

-- ---- "every record is in exactly one entry"

-- the records of that bus
abbrev pub on_bus : ℕ → List WordRecord → List WordRecord
on_bus bus [] = []
on_bus bus (r ∷ rs) = cond (r.bus == bus) (r ∷ on_bus bus rs) (on_bus bus rs)

-- the records of some groups, one after the other
abbrev pub records_of : List Group → List WordRecord
records_of [] = []
records_of (g ∷ gs) = g.first ∷ (g.rest ++ records_of gs)

-- how many records some entries have
abbrev pub records_in : Entry → ℕ
records_in (entry.Message m) = m.records
records_in (entry.Single r) = 1

abbrev pub count_in : List Logged → ℕ
count_in [] = 0
count_in (e ∷ es) = records_in e.entry + count_in es

-- The entries of a bus are all its records, each once, and the counts of a file's entries add up to the number of its records: every_record_once
abbrev pub EveryRecordOnce : Type 0
EveryRecordOnce =
    ((bus : ℕ) (rs : List WordRecord) → records_of (groups_on bus rs) ≡ on_bus bus rs)
    × ((file : List ℕ) → count_in (file_log file).entries ≡ (file_log file).records)

-- ---- "groups the words of each bus, apart from the other bus"

-- some entries without their places
abbrev pub plain : List Logged → List Entry
plain [] = []
plain (e ∷ es) = e.entry ∷ plain es

-- the bus of an entry, and the entries of that bus
abbrev pub bus_of : Entry → ℕ
bus_of (entry.Message m) = m.bus
bus_of (entry.Single r) = r.bus

abbrev pub of_bus : ℕ → List Logged → List Logged
of_bus bus [] = []
of_bus bus (e ∷ es) = cond (bus_of e.entry == bus) (e ∷ of_bus bus es) (of_bus bus es)

-- The log of some records has the entries of each of the two buses, and in their order: log_of_each_bus
abbrev pub LogOfEachBus : Type 0
LogOfEachBus = (rs : List WordRecord) → (of_bus 0 (log_of rs) ≡ entries_on 0 rs) × (of_bus 1 (log_of rs) ≡ entries_on 1 rs)

-- A bus's entries do not depend on the other bus's records but for the time of the file's last record: buses_apart
abbrev pub BusesApart : Type 0
BusesApart =
    (bus : ℕ) (rs others : List WordRecord) → on_bus bus rs ≡ on_bus bus others → end_time (record { 0 = 0 }) rs ≡ end_time (record { 0 = 0 }) others
    → plain (entries_on bus rs) ≡ plain (entries_on bus others)

-- ---- "Entries come in order of their first record in the file."

-- their places rise, from one on
abbrev pub Rise : ℕ → List Logged → Type 0
Rise from [] = Unit {0}
Rise from (e ∷ es) = (from ≤ e.place) × Rise (suc e.place) es

-- each of some has a property
abbrev pub Each : {A : Type 0} → (A → Type 0) → List A → Type 0
Each P [] = Unit {0}
Each P (x ∷ xs) = P x × Each P xs

-- the record at its place in the file is its first
abbrev pub BeginsAt : List WordRecord → Group → Type 0
BeginsAt rs g = (after : List WordRecord) × (drop g.place rs ≡ g.first ∷ after)

-- in_order
abbrev pub InOrder : Type 0
InOrder = (rs : List WordRecord) → Rise 0 (log_of rs) × ((bus : ℕ) → Each (BeginsAt rs) (groups_on bus rs))

-- ---- "A record earlier than the one before is refused with 6; the log stays."

-- records that can be written, none earlier than the one before it
abbrev pub Written : ℕ → List WordRecord → Type 0
Written before [] = Unit {0}
Written before (r ∷ rs) = Fits last_bus r × (before ≤ r.time.0) × Written r.time.0 rs

-- what stands behind a record of that time, and the refusal that ends the log there: no byte; bytes that the reader refuses; a record that is earlier
pub data EndsBy (before : ℕ) : List ℕ → Option Refusal → Type 0 where
  at_end : EndsBy before [] None
  unread : {bytes : List ℕ} (n : Refusal) → 0 < length bytes → read_of last_bus bytes ≡ Err n → EndsBy before bytes (Some n)
  earlier : {bytes : List ℕ} (r : WordRecord) → read_of last_bus bytes ≡ Ok r → r.time.0 < before → EndsBy before bytes (Some OutOfOrder)

-- A file gives the log of the records before the first that is refused, whatever stands behind them: log_stays
abbrev pub LogStays : Type 0
LogStays =
    (rs : List WordRecord) → Written 0 rs
    → (bytes : List ℕ) (n : Option Refusal) → EndsBy (end_time (record { 0 = 0 }) rs).0 bytes n
    → file_log (file_of rs ++ bytes) ≡ record { entries = log_of rs; records = length rs; refusal = n }

-- ---- "the verdict that the controller rules give"

-- Where an entry has a verdict, it is what document 01 gives for its plan and all its returned records, handed over as bytes
abbrev pub ByTheRules : Group → Type 0
ByTheRules g =
    (v : Verdict) → outcome_in g.first g.rest g.until ≡ Some v
    → (f : Finding)
    × (judged_of (plan_of g.first g.rest g.until) (forms_of (returned_in g.first g.rest)) ≡ Ok f)
    × (f.verdict ≡ v)

-- verdict_of_the_rules
abbrev pub VerdictOfTheRules : Type 0
VerdictOfTheRules = (rs : List WordRecord) → Written 0 rs → (bus : ℕ) → Each ByTheRules (groups_on bus rs)

-- ---- two facts that make the definitions plain

-- A word that fits as the second command is never one whose status is expected: which of the two is tried first changes no entry: never_both
abbrev pub NeverBoth : Type 0
NeverBoth = (first : WordRecord) (rest : List WordRecord) (r : WordRecord) → (length rest == 0 && is_second first r) ≡ true → expects first rest r ≡ false

-- An entry has at most two statuses, so that none is left out of it: statuses_few
abbrev pub StatusesFew : Type 0
StatusesFew = (bus : ℕ) (rs : List WordRecord) → Each (λ (g : Group). length (statuses_in (behind_of g.first g.rest)) ≤ 2) (groups_on bus rs)
