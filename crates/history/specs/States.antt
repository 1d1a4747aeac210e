-- Faults as they are marked, what stands, and what every terminal that can be reached is like. Assumes nothing.
use Rattle.std.specs.Prelude.{◌≡◌, ℕ, ◌+◌, ◌≤◌, Bool, true, false, not, cond, ◌&&◌, ◌||◌, List, eqb, ltb, leb, length, Option, Some, None}
use Rattle.words.specs.Words.{on_clock, since_of, spacing_least, address_of, is_broadcast, is_transmit, is_mode, has_no_other, awaited_of}
use Rattle.records.specs.Records.{last_bus}
use Rattle.records.specs.declared.forms.WordRecord.{WordRecord}
use Rattle.terminal.specs.Commands.{is_own, is_exempt}
use Rattle.terminal.specs.Messages.{is_under_way, awaits_data, is_over, is_next_data, is_second, is_status_from}
use Rattle.terminal.specs.Rules.{rule1, faulty_of, rule2, rule3}
use Rattle.terminal.specs.Events.{time_of, passed_of, taken_of}
use Rattle.terminal.specs.declared.states.Own.{Own}
use Rattle.terminal.specs.declared.states.SpacingFault.{SpacingFault}
use Rattle.terminal.specs.declared.states.SpacingFault.TheVariants.{Overlapping, Separated}
use Rattle.terminal.specs.declared.states.Held.{Held}
use Rattle.terminal.specs.declared.states.Phase.{Phase}
use Rattle.terminal.specs.declared.states.Phase.TheVariants.{Idle, First, Pledged, Confirmed, Data}
use Rattle.terminal.specs.declared.states.Message.{Message}
use Rattle.terminal.specs.declared.states.Sending.{Sending}
use Rattle.terminal.specs.declared.states.Terminal.{Terminal as State}
use Rattle.terminal.specs.declared.events.Event.{Event}
use Rattle.terminal.specs.declared.events.Event.TheVariants.{Mark, Word}

-- ---- a word that makes a message faulty

-- A message is under way on that bus. The terminal has its own test of it (`is_on`): one that took words of the other bus for its own is seen here.
abbrev pub is_under_way_on : Message → ℕ → Bool
is_under_way_on m bus = is_under_way m.phase && eqb m.bus bus

-- "Any other record on the bus of a message under way must be its next word"
abbrev pub is_next_word : Phase → State → WordRecord → Bool
is_next_word Idle s r = true
is_next_word Data s r = awaits_data s.message && is_next_data s.message r
is_next_word First s r = is_second s.setup.own s.message r || (awaits_data s.message && is_next_data s.message r)
is_next_word (Pledged address) s r = is_status_from address r
is_next_word Confirmed s r = awaits_data s.message && is_next_data s.message r

-- "Otherwise the message is faulty, also when all its words had come."
abbrev pub is_bad_word : State → WordRecord → Bool
is_bad_word s r =
    not (rule3 s r) && not (is_own s.setup.own r) && is_under_way_on s.message r.bus && not (is_next_word s.message.phase s r)

-- ---- the fault that an event shows

-- none, or one and its kind where it is a spacing fault (02 i)
pub data EventFault : Type 0 where
  no_fault : EventFault
  a_fault : Option SpacingFault → EventFault

abbrev pub is_fault : EventFault → Bool
is_fault no_fault = false
is_fault (a_fault kind) = true

-- The kind of a bad word, said apart from the terminal's own (`fault_in`): "overlapping (below 195)" where a data word is awaited; above 205 rule 2 was
-- first (02 i; DECISIONS 74).
abbrev pub word_kind : Message → WordRecord → Option SpacingFault
word_kind m r = cond (awaits_data m && ltb (since_of m.last.0 r.time.0) spacing_least) (Some Overlapping) None

-- by its word, rule 5
abbrev pub word_fault : State → Event → EventFault
word_fault s (Mark t) = no_fault
word_fault s (Word r) = cond (is_bad_word s r) (a_fault (word_kind s.message r)) no_fault

-- The kind of a fault by time, said apart from the terminal's own (`time_fault`): "separated (above 205)" by rule 2 (02 i), none by the limit of 02 b.
-- After the status of another terminal both hold, and the one whose moment came first counts (DECISIONS 78).
abbrev pub time_kind : Phase → Message → Option SpacingFault
time_kind Idle m = None
time_kind First m = Some Separated
time_kind (Pledged address) m = None
time_kind Confirmed m = cond (leb (m.last.0 + 206) (m.start.0 + 751)) (Some Separated) None
time_kind Data m = Some Separated

-- by its time, rule 2 and the limit of 02 b, or by its word
abbrev pub fault_of : State → Event → List ℕ → EventFault
fault_of s e transmit =
    cond (is_over s.message (time_of e)) (a_fault (time_kind s.message.phase s.message)) (word_fault (passed_of s (time_of e) transmit) e)

-- An event marks it; "(not for the two exempt commands)".
abbrev pub marks_fault : State → Event → List ℕ → Bool
marks_fault s e transmit = not (is_exempt s.setup.own s.message.command.0) && is_fault (fault_of s e transmit)

-- A message under way is made faulty, of a command that is not exempt: what comes of the state is `faulty_of` of it and of some kind.
pub record MadeFaulty (s next : State) : Type 0 where
  pub under_way : is_under_way s.message.phase ≡ true
  pub marked : is_exempt s.setup.own s.message.command.0 ≡ false
  pub kind : Option SpacingFault
  pub faulty : next ≡ faulty_of s kind

-- The rules of an event come to it: rule 2 at its time, once rule 1 is done, or its record, once rules 1 and 2 are done.
pub data ComesToFault (s : State) (e : Event) (transmit : List ℕ) : Type 0 where
  by_time : MadeFaulty (rule1 s (time_of e) transmit) (rule2 (rule1 s (time_of e) transmit) (time_of e)) → ComesToFault s e transmit
  by_word : MadeFaulty (passed_of s (time_of e) transmit) (taken_of (passed_of s (time_of e) transmit) e) → ComesToFault s e transmit

-- ---- a terminal at rest

-- nothing is under way but one of the two exempt commands; it may be sending
abbrev pub AtRest : State → Type 0
AtRest s = is_under_way s.message.phase ≡ true → is_exempt s.setup.own s.message.command.0 ≡ true

-- ---- what can be reached

-- a command "to the own address or 31"
abbrev pub is_to : Own → ℕ → Bool
is_to own word = eqb (address_of word) own.address || is_broadcast word

-- before the first data word of a message: a second command word may come, or has come, and after it a status
abbrev pub is_opening : Phase → Bool
is_opening Idle = false
is_opening First = true
is_opening (Pledged address) = true
is_opening Confirmed = true
is_opening Data = false

-- what is held, by a terminal of that own address
pub record Holding (own : Own) (h : Held) : Type 0 where
  -- the stored status has the own address and none of the bits 02E2: "instrumentation 0200 (always 0), .. reserved 00E0 (0), .. bus control
  -- acceptance 0002 (always 0, house)"
  pub status : address_of h.status.0 ≡ own.address
  pub spare : has_no_other h.status.0 ≡ true
  -- the last command is an own one or 0
  pub command : (eqb h.command.0 0 || is_to own h.command.0) ≡ true
  -- one transmitter for each bus
  pub shut : length h.shut ≡ 2
  -- the last spacing fault was of one kind
  pub spacing : (h.overlapping && h.separated) ≡ false

-- a message under way, of a terminal of that own address whose last event had that time
pub record Waiting (own : Own) (now : ℕ) (m : Message) : Type 0 where
  -- "bus (1: 0 is A, 1 is B)"
  pub bus : m.bus ≤ last_bus
  -- begun by an own command
  pub command : is_to own m.command.0 ≡ true
  -- no word of it is later than the last event
  pub last : m.last.0 ≤ now
  -- no more words than are awaited, and never more than 32
  pub got : m.got ≤ awaited_of m.command.0
  pub most : awaited_of m.command.0 ≤ 32
  pub words : length m.words ≡ 32
  -- before its first data word: a second command word comes "directly after a receive command that is no mode command", the status after that
  pub directly : is_opening m.phase ≡ true → m.got ≡ 0
  pub receives : is_opening m.phase ≡ true → (is_transmit m.command.0 ≡ false) × (is_mode m.command.0 ≡ false)

-- a sending: "due time D up to, not including, D + 200 times the words sent", a status word and at most 32 data words
pub record Window (now : ℕ) (w : Sending) : Type 0 where
  pub bus : w.bus ≤ last_bus
  pub from : w.from.0 ≤ now
  pub least : 1 ≤ w.words
  pub most : w.words ≤ 33

pub record Sound (s : State) : Type 0 where
  -- "an own address 0 to 30 and two tables of 32 masks"
  pub address : s.setup.own.address ≤ 30
  pub receive : length s.setup.receive ≡ 32
  pub transmit : length s.setup.transmit ≡ 32
  -- "0 to 2^48 - 1"
  pub time : on_clock s.time.0 ≡ true
  pub held : Holding s.setup.own s.held
  pub message : is_under_way s.message.phase ≡ true → Waiting s.setup.own s.time.0 s.message
  pub sending : (w : Sending) → s.sending ≡ Some w → Window s.time.0 w
  -- an own command ends any sending
  pub alone : is_under_way s.message.phase ≡ true → s.sending ≡ None
