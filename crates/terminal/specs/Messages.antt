-- Document 01, "The terminal": the message under way, the sending, and the next moment. Assumes nothing.
use Rattle.std.specs.Prelude.{ℕ, ◌+◌, ◌*◌, Bool, true, false, not, cond, ◌&&◌, ◌||◌, eqb, ltb, leb, Option, Some, None}
use Rattle.words.specs.declared.times.Moment.{Moment}
use Rattle.words.specs.Words.{plus_of, due_distance, spacing_most, word_ticks, address_of, count_of, is_transmit, is_mode, is_broadcast, is_spaced, command_sync, data_sync, awaited_of}
use Rattle.records.specs.declared.forms.WordRecord.{WordRecord}
use Rattle.terminal.specs.Commands.{is_valid_record}
use Rattle.terminal.specs.declared.states.Own.{Own}
use Rattle.terminal.specs.declared.states.Phase.{Phase}
use Rattle.terminal.specs.declared.states.Phase.TheVariants.{Idle, First, Pledged, Confirmed, Data}
use Rattle.terminal.specs.declared.states.Message.{Message}
use Rattle.terminal.specs.declared.states.Sending.{Sending}

-- A message is under way; it is, on that bus.
abbrev pub is_under_way : Phase → Bool
is_under_way Idle = false
is_under_way First = true
is_under_way (Pledged address) = true
is_under_way Confirmed = true
is_under_way Data = true

unfoldable pub is_on : Message → ℕ → Bool
is_on m bus = is_under_way m.phase && eqb m.bus bus

-- What comes next is a data word, or nothing: not while a status between terminals is awaited ("rule 2 does not apply meanwhile").
abbrev pub is_counting : Phase → Bool
is_counting Idle = false
is_counting First = true
is_counting (Pledged address) = false
is_counting Confirmed = true
is_counting Data = true

-- "still awaits a data word"
unfoldable pub awaits_data : Message → Bool
awaits_data m = is_counting m.phase && ltb m.got (awaited_of m.command.0)

-- "all the words it awaits have come"
unfoldable pub is_whole : Message → Bool
is_whole m = is_counting m.phase && leb (awaited_of m.command.0) m.got

-- "A message has a due time only once all the words it awaits have come: the last word's time plus 260, a gap of 80 (8.0 microseconds; ..)."
unfoldable pub is_due : Message → ℕ → Bool
is_due m t = is_whole m && leb (m.last.0 + due_distance) t

-- "A message that still awaits a data word with t more than 205 past its last word"
unfoldable pub is_late : Message → ℕ → Bool
is_late m t = awaits_data m && ltb (m.last.0 + spacing_most) t

-- Between terminals the first data word is awaited from the second command word on, before and after the status of the other terminal: no longer "for any
-- length of time" (01), since 02 b.
abbrev pub is_between : Phase → Bool
is_between Idle = false
is_between First = false
is_between (Pledged address) = true
is_between Confirmed = true
is_between Data = false

-- What has all its words awaits none: so much is true of every state (DECISIONS 79).
unfoldable pub awaits_first : Message → Bool
awaits_first m = is_between m.phase && not (is_whole m)

-- "the first data word must come within 57 .. microseconds of the parity bit of the receive command. We take 57.0": a gap of 570, 180 past the command's
-- time (02 b). (003 A.3.9)
abbrev pub first_word_distance : ℕ
first_word_distance = 750

-- "a first data word with a gap above 570, or time passing the receive command by more than 750 without it": the same moment (02 b)
unfoldable pub is_overdue : Message → ℕ → Bool
is_overdue m t = awaits_first m && ltb (m.start.0 + first_word_distance) t

-- By the one limit or the other the time of the message is over.
abbrev pub is_over : Message → ℕ → Bool
is_over m t = is_late m t || is_overdue m t

-- "a bus on which the terminal is sending (due time D up to, not including, D + 200 times the words sent)"
unfoldable pub is_sent : Sending → ℕ → ℕ → Bool
is_sent s bus t = eqb s.bus bus && leb s.from.0 t && ltb t (s.from.0 + word_ticks * s.words)

unfoldable pub is_sending : Option Sending → ℕ → ℕ → Bool
is_sending None bus t = false
is_sending (Some s) bus t = is_sent s bus t

-- "its next word: valid, data sync, 195 to 205 after the one before"
unfoldable pub is_next_data : Message → WordRecord → Bool
is_next_data m r = is_valid_record r && eqb r.sync data_sync && is_spaced m.last.0 r.time.0

-- "directly after a receive command that is no mode command, within 195 to 205, a valid command word may come that transmits, to another
-- address than ours and 31, no mode command, equal count field." (003 7.3.3.6.3, 002 2.7.1)
unfoldable pub is_second : Own → Message → WordRecord → Bool
is_second own m r =
    is_valid_record r
    && eqb r.sync command_sync
    && is_spaced m.last.0 r.time.0
    && is_transmit r.word
    && not (eqb (address_of r.word) own.address || is_broadcast r.word)
    && not (is_mode r.word)
    && eqb (count_of r.word) (count_of m.command.0)

-- "Then a valid status from that address is awaited": no other bit is judged, and no distance but that of `is_overdue` (DECISIONS 6). (003 A.3.9)
unfoldable pub is_status_from : ℕ → WordRecord → Bool
is_status_from address r = is_valid_record r && eqb r.sync command_sync && eqb (address_of r.word) address

-- ---- next moment

-- "The host may ask for the next moment at which time alone matters: the due time, or last word plus 206 while a data word is awaited, or none."
-- It may lie past the clock (DECISIONS 5); a sum past 64 bits stays at their last number (DECISIONS 9).
abbrev pub late_distance : ℕ
late_distance = 206

-- "Until that word comes the next moment is at most the receive command plus 751." (02 b)
abbrev pub overdue_distance : ℕ
overdue_distance = 751

abbrev pub late_moment : Message → ℕ
late_moment m = plus_of m.last.0 late_distance

abbrev pub overdue_moment : Message → ℕ
overdue_moment m = plus_of m.start.0 overdue_distance

abbrev pub earlier_of : ℕ → ℕ → ℕ
earlier_of a b = cond (leb a b) a b

-- while a word is awaited
abbrev pub awaited_moment : Phase → Message → Option Moment
awaited_moment Idle m = None
awaited_moment First m = Some (record { 0 = late_moment m })
awaited_moment (Pledged address) m = Some (record { 0 = overdue_moment m })
awaited_moment Confirmed m = Some (record { 0 = earlier_of (late_moment m) (overdue_moment m) })
awaited_moment Data m = Some (record { 0 = late_moment m })

unfoldable pub next_moment_of : Message → Option Moment
next_moment_of m = cond (is_whole m) (Some (record { 0 = plus_of m.last.0 due_distance })) (awaited_moment m.phase m)
