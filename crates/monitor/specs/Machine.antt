-- The machine that makes the log (02 a): what an open message comes to, one bus's walk, the side that is fed chunk by chunk, and the choice between two
-- sides. That together they give what Logs.antt says of the whole file, whatever the chunks, is `log_of_the_file`. Assumes nothing.
use Rattle.std.specs.Prelude.{ℕ, zero, suc, ◌+◌, ◌-◌, Bool, true, false, cond, not, ◌&&◌, ◌||◌, List, [], ◌∷◌, length, drop, ◌==◌, nat_le, nat_lt, Option, Some, None, Result, Ok, Err}
use Rattle.words.specs.Words.{plus_of, since_of, is_spaced, no_response_distance, address_of, awaited_of, is_broadcast}
use Rattle.words.specs.Counts.{sum64}
use Rattle.words.specs.declared.times.Moment.{Moment}
use Rattle.words.specs.declared.commands.CommandWord.{CommandWord}
use Rattle.words.specs.declared.statuses.StatusWord.{StatusWord}
use Rattle.words.specs.declared.refusals.Refusal.{Refusal}
use Rattle.words.specs.declared.refusals.Refusal.TheVariants.{OutOfOrder}
use Rattle.records.specs.Records.{record_bytes, last_bus, read_of}
use Rattle.records.specs.declared.forms.WordRecord.{WordRecord}
use Rattle.verdict.specs.Plans.{is_pair, is_possible}
use Rattle.verdict.specs.Verdicts.{finish_of, found_or_shown}
use Rattle.verdict.specs.declared.verdicts.Verdict.{Verdict}
use Rattle.monitor.specs.Entries.{is_command, is_data_word, is_for, is_from, plan_with, gap_from}
use Rattle.monitor.specs.declared.entries.Commands.{Commands}
use Rattle.monitor.specs.declared.entries.Commands.TheVariants as commands
use Rattle.monitor.specs.declared.entries.Statuses.{Statuses}
use Rattle.monitor.specs.declared.entries.Statuses.TheVariants as statuses
use Rattle.monitor.specs.declared.entries.Gap.{Gap}
use Rattle.monitor.specs.declared.entries.Message.{Message}
use Rattle.monitor.specs.declared.entries.Logged.{Logged}
use Rattle.monitor.specs.declared.entries.Entry.TheVariants as entry
use Rattle.monitor.specs.declared.openings.Heads.{Heads}
use Rattle.monitor.specs.declared.openings.Opening.{Opening}
use Rattle.monitor.specs.declared.openings.Part.{Part}
use Rattle.monitor.specs.declared.openings.Part.TheVariants.{Far, Starts, Second, Status, Other}
use Rattle.monitor.specs.declared.walks.Standing.{Standing}
use Rattle.monitor.specs.declared.walks.Standing.TheVariants as standing
use Rattle.monitor.specs.declared.walks.Walk.{Walk}
use Rattle.monitor.specs.declared.walks.Stop.{Stop}
use Rattle.monitor.specs.declared.walks.Stop.TheVariants as stop
use Rattle.monitor.specs.declared.walks.Side.{Side}
use Rattle.monitor.specs.declared.sides.Fed.{Fed}
use Rattle.monitor.specs.declared.sides.Ready.{Ready}
use Rattle.monitor.specs.declared.sides.Ready.TheVariants as ready
use Rattle.monitor.specs.declared.sides.Choice.{Choice}
use Rattle.monitor.specs.declared.sides.Choice.TheVariants.{FeedFirst, FeedSecond, GiveFirst, GiveSecond, Over}

-- One more, as the machine counts.
abbrev pub next64 : ℕ → ℕ
next64 n = sum64 n 1

-- ---- a message that is open

-- One status more; no message has a third.
unfoldable pub with_status : Statuses → StatusWord → Statuses
with_status statuses.None status = statuses.One status
with_status (statuses.One first) status = statuses.Two first status
with_status (statuses.Two first second) status = statuses.Two first second

-- The message that a command word opens.
unfoldable pub opened_by : WordRecord → Opening
opened_by r = record {
  bus = r.bus;
  time = r.time;
  heads = record { commands = commands.One (record { 0 = r.word }); statuses = statuses.None; gap = None };
  words = 0;
  records = 1;
  last = r.time;
  left = awaited_of r.word;
  spoiled = false;
  twins = false;
  returned = 0;
  found = None;
}

abbrev pub awaits_with : Commands → Opening → WordRecord → Bool
awaits_with (commands.One first) o r = o.records == 1 && is_spaced o.last.0 r.time.0 && is_pair first.0 r.word
awaits_with (commands.Two first second) o r = false

unfoldable pub awaits_second : Opening → WordRecord → Bool
awaits_second o r = awaits_with o.heads.commands o r

unfoldable pub expects_from : Opening → WordRecord → Bool
expects_from o r =
    not (is_broadcast r.word) && is_for o.heads.commands (address_of r.word) && not (is_from o.heads.statuses (address_of r.word))

unfoldable pub part_for : Opening → WordRecord → Part
part_for o r =
    cond (nat_lt no_response_distance (since_of o.last.0 r.time.0)) Far
    (cond (not (is_command r)) Other (cond (awaits_second o r) Second (cond (expects_from o r) Status Starts)))

-- ---- with a record more

unfoldable pub with_second : Commands → CommandWord → Commands
with_second (commands.One first) second = commands.Two first second
with_second (commands.Two first other) second = commands.Two first second

unfoldable pub heads_second : Heads → CommandWord → Heads
heads_second h second = record { commands = with_second h.commands second; statuses = h.statuses; gap = h.gap }

-- The second command: none of the controller's data words follow it.
unfoldable pub heard_second : Opening → WordRecord → Opening
heard_second o r = record {
  bus = o.bus;
  time = o.time;
  heads = heads_second o.heads (record { 0 = r.word });
  words = o.words;
  records = o.records;
  last = o.last;
  left = 0;
  spoiled = o.spoiled;
  twins = o.twins;
  returned = o.returned;
  found = o.found;
}

-- Before the first status the gap.
abbrev pub gap_with : Statuses → Option Gap → Moment → Moment → Option Gap
gap_with statuses.None before last time = Some (gap_from last.0 time.0)
gap_with (statuses.One first) before last time = before
gap_with (statuses.Two first second) before last time = before

unfoldable pub gap_after : Heads → Moment → Moment → Option Gap
gap_after h last time = gap_with h.statuses h.gap last time

unfoldable pub heads_status : Heads → Moment → WordRecord → Heads
heads_status h last r = record {
  commands = h.commands;
  statuses = with_status h.statuses (record { 0 = r.word });
  gap = gap_after h last r.time;
}

unfoldable pub heard_status : Opening → WordRecord → Opening
heard_status o r = record {
  bus = o.bus;
  time = o.time;
  heads = heads_status o.heads o.last r;
  words = o.words;
  records = o.records;
  last = o.last;
  left = o.left;
  spoiled = o.spoiled;
  twins = o.twins;
  returned = o.returned;
  found = o.found;
}

-- Where one of the controller's own data words is to come.
unfoldable pub heard_own : Opening → WordRecord → Opening
heard_own o r = record {
  bus = o.bus;
  time = o.time;
  heads = o.heads;
  words = o.words;
  records = o.records;
  last = o.last;
  left = o.left - 1;
  spoiled = o.spoiled || not (is_data_word r && is_spaced o.last.0 r.time.0);
  twins = o.twins;
  returned = o.returned;
  found = o.found;
}

-- The fact that is found, or else what the record shows at its place.
abbrev pub found_with : Opening → WordRecord → Option Verdict
found_with o r = found_or_shown o.found (plan_with o.heads.commands o.bus o.last r.time) o.returned o.last.0 r

unfoldable pub heard_returned : Opening → WordRecord → Opening
heard_returned o r = record {
  bus = o.bus;
  time = o.time;
  heads = o.heads;
  words = o.words;
  records = o.records;
  last = o.last;
  left = o.left;
  spoiled = o.spoiled;
  twins = o.twins;
  returned = next64 o.returned;
  found = found_with o r;
}

unfoldable pub heard_word : Opening → WordRecord → Opening
heard_word o r = cond (o.left == 0) (heard_returned o r) (heard_own o r)

-- What every record counts for.
unfoldable pub counted : Opening → WordRecord → Opening
counted o r = record {
  bus = o.bus;
  time = o.time;
  heads = o.heads;
  words = sum64 o.words (cond (is_data_word r) 1 0);
  records = next64 o.records;
  last = r.time;
  left = o.left;
  spoiled = o.spoiled;
  twins = o.twins || (r.time.0 == o.last.0);
  returned = o.returned;
  found = o.found;
}

unfoldable pub joined_by : Opening → Part → WordRecord → Opening
joined_by o Far r = o
joined_by o Starts r = o
joined_by o Second r = counted (heard_second o r) r
joined_by o Status r = counted (heard_word (heard_status o r) r) r
joined_by o Other r = counted (heard_word o r) r

-- ---- closed at Q

unfoldable pub outcome_of : Opening → Moment → Option Verdict
outcome_of o until =
    cond (o.spoiled || o.twins || not (o.left == 0) || not (is_possible (plan_with o.heads.commands o.bus o.last until))) None
    (Some (finish_of (plan_with o.heads.commands o.bus o.last until) o.found o.returned o.last.0))

unfoldable pub closed_at : Opening → Moment → Message
closed_at o until = record {
  bus = o.bus;
  time = o.time;
  commands = o.heads.commands;
  statuses = o.heads.statuses;
  words = o.words;
  records = o.records;
  gap = o.heads.gap;
  outcome = outcome_of o until;
}

-- ---- one bus's walk

abbrev pub walk_start : ℕ → Walk
walk_start bus = record { bus = bus; records = 0; clock = record { 0 = 0 }; place = 0; standing = None }

unfoldable pub standing_from : WordRecord → Standing
standing_from r = cond (is_command r) (standing.Message (opened_by r)) (standing.Single r)

abbrev pub found_where : Option Standing → ℕ → Moment → Option Logged
found_where None place until = None
found_where (Some (standing.Single r)) place until = Some (record { place = place; entry = entry.Single r })
found_where (Some (standing.Message o)) place until = Some (record { place = place; entry = entry.Message (closed_at o until) })

-- the standing entry, closed at Q
unfoldable pub found_at : Walk → Moment → Option Logged
found_at w until = found_where w.standing w.place until

abbrev pub reading : Walk → Option Logged → Side
reading w f = record { walk = w; found = f; stop = stop.Reading }

-- A record begins an entry: the one before it is closed at Q.
unfoldable pub begun_with : Walk → Moment → WordRecord → Side
begun_with w until r =
    reading (record { bus = w.bus; records = next64 w.records; clock = r.time; place = w.records; standing = Some (standing_from r) }) (found_at w until)

-- It begins none.
unfoldable pub passed_with : Walk → Option Standing → WordRecord → Side
passed_with w s r = reading (record { bus = w.bus; records = next64 w.records; clock = r.time; place = w.place; standing = s }) None

abbrev pub heard_as : Part → Walk → Opening → WordRecord → Side
heard_as Far w o r = begun_with w (record { 0 = plus_of o.last.0 no_response_distance }) r
heard_as Starts w o r = begun_with w r.time r
heard_as Second w o r = passed_with w (Some (standing.Message (joined_by o Second r))) r
heard_as Status w o r = passed_with w (Some (standing.Message (joined_by o Status r))) r
heard_as Other w o r = passed_with w (Some (standing.Message (joined_by o Other r))) r

unfoldable pub heard_message : Walk → Opening → WordRecord → Side
heard_message w o r = heard_as (part_for o r) w o r

abbrev pub heard_where : Option Standing → Walk → WordRecord → Side
heard_where None w r = begun_with w r.time r
heard_where (Some (standing.Single s)) w r = begun_with w r.time r
heard_where (Some (standing.Message o)) w r = heard_message w o r

-- A record of its bus.
unfoldable pub heard_by : Walk → WordRecord → Side
heard_by w r = heard_where w.standing w r

-- The end, of the file or by a refusal: the standing entry is closed at the time of the last record.
unfoldable pub stopped_by : Walk → Stop → Side
stopped_by w ends = record {
  walk = record { bus = w.bus; records = w.records; clock = w.clock; place = w.place; standing = None };
  found = found_at w w.clock;
  stop = ends;
}

-- A record of either bus.
unfoldable pub taken_by : Walk → WordRecord → Side
taken_by w r =
    cond (nat_lt r.time.0 w.clock.0) (stopped_by w (stop.Refused OutOfOrder))
    (cond (r.bus == w.bus) (heard_by w r) (passed_with w w.standing r))

abbrev pub read_with : Walk → Result WordRecord Refusal → Side
read_with w (Ok r) = taken_by w r
read_with w (Err n) = stopped_by w (stop.Refused n)

unfoldable pub read_by : Walk → List ℕ → Side
read_by w bytes = read_with w (read_of last_bus bytes)

-- ---- a side, fed chunk by chunk

unfoldable pub side_start : ℕ → Side
side_start bus = reading (walk_start bus) None

abbrev pub ready_with : Option Logged → Stop → Ready
ready_with (Some e) s = ready.Give e.place
ready_with None stop.Reading = ready.Feed
ready_with None stop.Ended = ready.Over
ready_with None (stop.Refused n) = ready.Over
ready_with None (stop.Unnamed n) = ready.Over

unfoldable pub ready_of : Side → Ready
ready_of s = ready_with s.found s.stop

abbrev pub is_feed : Ready → Bool
is_feed ready.Feed = true
is_feed (ready.Give place) = false
is_feed ready.Over = false

unfoldable pub wants_more : Side → Bool
wants_more s = is_feed (ready_of s)

-- It reads on while it wants more and 16 bytes are left; at most so many records.
unfoldable pub fed_from : ℕ → Side → List ℕ → ℕ → Fed
fed_from zero s bytes at = record { side = s; taken = at }
fed_from (suc n) s bytes at =
    cond (not (nat_lt (length bytes) record_bytes) && wants_more s) (fed_from n (read_by s.walk bytes) (drop record_bytes bytes) (at + record_bytes))
    (record { side = s; taken = at })

unfoldable pub fed_of : Side → List ℕ → Fed
fed_of s bytes = fed_from (length bytes) s bytes 0

-- "no byte left is its end" (01 Numbers for a refused call)
abbrev pub ended_with : Walk → List ℕ → Side
ended_with w [] = stopped_by w stop.Ended
ended_with w (byte ∷ rest) = read_by w (byte ∷ rest)

-- while 16 bytes or more are left it is too early
unfoldable pub ended_by : Side → List ℕ → Side
ended_by s tail = cond (nat_le record_bytes (length tail) || not (wants_more s)) s (ended_with s.walk tail)

unfoldable pub given_of : Side → Side
given_of s = record { walk = s.walk; found = None; stop = s.stop }

-- ---- two sides

unfoldable pub choice_alone : Ready → Choice
choice_alone ready.Feed = FeedSecond
choice_alone (ready.Give place) = GiveSecond
choice_alone ready.Over = Over

unfoldable pub choice_against : ℕ → Ready → Choice
choice_against place ready.Feed = FeedSecond
choice_against place (ready.Give other) = cond (nat_lt place other) GiveFirst GiveSecond
choice_against place ready.Over = GiveFirst

abbrev pub choice_of : Ready → Ready → Choice
choice_of ready.Feed second = FeedFirst
choice_of (ready.Give place) second = choice_against place second
choice_of ready.Over second = choice_alone second
