-- A message under way stays as `Waiting` says, and its answer is sent as `Window` says. Assumes nothing.
use mathlib.Core.Path.{◌≡◌}
use Prim.Native.Nat.{ℕ, ◌+◌, ◌≤◌}
use mathlib.Core.Bool.{true, false}
use native.Mathlib.Omega.{arith}
use lib.ListN.{length-set}
use borrow.Author.Tests.{ltb-true}
use Rattle.words.specs.Words.{is_transmit, is_mode, due_distance, awaited_of}
use Rattle.records.specs.Records.{last_bus, in_range}
use Rattle.records.specs.declared.forms.WordRecord.{WordRecord}
use Rattle.records.proofs.Ranges.{in_range_bus}
use Rattle.terminal.specs.Messages.{awaits_data}
use Rattle.terminal.specs.Settling.{is_withheld, sending_of}
use Rattle.terminal.specs.Rules.{first_phase, begun_of, staged_of, moved_of}
use Rattle.terminal.specs.declared.states.Own.{Own}
use Rattle.terminal.specs.declared.states.Phase.{Phase}
use Rattle.terminal.specs.declared.states.Message.{Message}
use Rattle.terminal.specs.declared.states.Sending.{Sending}
use Rattle.terminal.specs.declared.states.Terminal.{Terminal as State}
use Rattle.terminal.proofs.Counts.{awaited_most}
use Rattle.history.specs.States.{is_to, is_opening, Waiting, Window}
use Rattle.history.proofs.Tests.{false≢, none≢, some_same, cond_cases, and_right}
use Rattle.std.specs.Prelude.{Option, Some}

-- ---- at a later time

module _ (before after : ℕ) (later : before ≤ after) where
  -- a message waits on
  pub waiting_later : (own : Own) (m : Message) → Waiting own before m → Waiting own after m
  waiting_later own m w = let last : m.last.0 ≤ after = omega arith in search

  -- a sending has begun
  pub window_later : (w : Sending) → Window before w → Window after w
  window_later w v = omega arith

-- ---- begun by an own command, and after its next word

-- only a receive command that is no mode command may be followed by a second command word
first_opening : (word : ℕ) → is_opening (first_phase word) ≡ true → (is_transmit word ≡ false) × (is_mode word ≡ false)
unfolding first_phase
first_opening word = cond_cases P (is_transmit word) (λ e. false≢) (λ e. cond_cases P (is_mode word) (λ f. false≢) (λ f h. (e, f)))
  where
    P : Phase → Type 0
    P p = is_opening p ≡ true → (is_transmit word ≡ false) × (is_mode word ≡ false)

module _ (own : Own) (now : ℕ) (r : WordRecord) (at : r.time.0 ≤ now) where
  -- begun by an own command
  pub waiting_begun : in_range last_bus r ≡ true → is_to own r.word ≡ true → Waiting own now (begun_of r)
  unfolding begun_of
  waiting_begun ranged to =
      let bus = in_range_bus last_bus r ranged in
      search (first_opening, awaited_most, arith)

  module _ (m : Message) (w : Waiting own now m) where
    -- with its next data word
    pub waiting_staged : awaits_data m ≡ true → Waiting own now (staged_of m r)
    unfolding awaits_data staged_of
    waiting_staged awaits =
        let less = ltb-true m.got (awaited_of m.command.0) (search (and_right, awaits)) in
        let more : m.got + 1 ≤ awaited_of m.command.0 = omega arith in
        search (length-set, false≢)

    -- after a second command word, and after the status that it asked for
    pub waiting_moved : (p : Phase) → is_opening m.phase ≡ true → Waiting own now (moved_of m p r)
    unfolding moved_of
    waiting_moved p early = search (w.directly, w.receives)

-- ---- the sending of its answer, once it is due

-- it begins at the due time, and has a status word and the data words
pub window_settled : (s : State) (own : Own) (t count : ℕ) → Waiting own t s.message → s.message.last.0 + due_distance ≤ t → count ≤ 32
    → (v : Sending) → sending_of s count ≡ Some v
    → Window t v
unfolding sending_of
window_settled s own t count w due few =
    cond_cases (λ (o : Option Sending). (v : Sending) → o ≡ Some v → Window t v) (is_withheld s) (λ e v. none≢)
    (λ e v is.
    let sent : Sending = record { from = record { 0 = s.message.last.0 + due_distance }; words = count + 1; bus = s.message.bus } in
    let begins : Window t sent = omega arith in
    rw (some_same sent v is) at begins)
