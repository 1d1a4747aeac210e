-- What an own command does to a message under way and to a sending. Assumes nothing.
use mathlib.Core.Path.{◌≡◌, refl, sym, ap, ◌∙◌}
use Prim.Native.Nat.{ℕ, ◌/◌, ◌%◌}
use mathlib.Core.Bool.{Bool, true, false, ◌&&◌}
use mathlib.Core.List.{List}
use native.Mathlib.Omega.{arith}
use lib.Dec.{eqb}
use borrow.Author.Tests.{eqb-true, eqb-false, ne_eqb}
use Rattle.words.specs.Words.{code_of, status_of, is_broadcast, has_flag, with_flag}
use Rattle.words.specs.declared.statuses.Flag.TheVariants.{MessageError, BroadcastReceived}
use Rattle.words.proofs.Flags.{flag_alone}
use Rattle.records.specs.declared.forms.WordRecord.{WordRecord}
use Rattle.terminal.specs.Commands.{is_own, is_exempt}
use Rattle.terminal.specs.Messages.{is_sent, is_sending}
use Rattle.terminal.specs.Settling.{other_bus}
use Rattle.terminal.specs.Rules.{rule1_answer, rule1_receive, rule3, noted_status, noted_command, rule4, cuts_sending}
use Rattle.terminal.specs.Events.{passed_of, happens_of, event_of}
use Rattle.terminal.specs.declared.states.Own.{Own}
use Rattle.terminal.specs.declared.states.Held.{Held}
use Rattle.terminal.specs.declared.states.Sending.{Sending}
use Rattle.terminal.specs.declared.states.Terminal.{Terminal as State}
use Rattle.terminal.specs.declared.events.Event.{Event}
use Rattle.terminal.specs.declared.events.Event.TheVariants.{Mark, Word}
use Rattle.terminal.specs.declared.events.Happened.{Happened}
use Rattle.history.specs.Calls.{event, is_accepted, step, brings_own}
use Rattle.history.specs.Demands.{Begins, Replaced, Cut, CutExactly, CutByOwnAlone}
use Rattle.history.proofs.Tests.{false≢, cond_cases, and_left, and_right}
use Rattle.history.proofs.Passing.{passed_own, passed_under_way, still}
use Rattle.history.proofs.Steps.{accepted, accepted_table}
use Rattle.history.proofs.Begun.{own_step}
use Rattle.std.specs.Prelude.{Option, Some, None}

-- ---- the stored status of an own command

-- an address alone has no message error
address_no_error : (own : ℕ) → has_flag MessageError (status_of own 0) ≡ false
unfolding has_flag
address_no_error own =
    let even : status_of own 0 / 0x0400 % 2 ≡ 0 = omega arith in
    rw even

-- nor has one with broadcast received
broadcast_no_error : (own : ℕ) → has_flag MessageError (with_flag BroadcastReceived (status_of own 0)) ≡ false
unfolding has_flag
broadcast_no_error own =
    ap (λ (bit : ℕ). eqb bit 1) ((flag_alone BroadcastReceived (status_of own 0)).1 10 (λ e. omega arith)) ∙ address_no_error own

module _ (own : Own) (h : Held) (word : ℕ) where
  -- the last command changes no status
  command_noted : (noted_command own h word).status ≡ h.status
  unfolding noted_command
  command_noted = cond_cases (λ (x : Held). x.status ≡ h.status) (is_exempt own word && eqb (code_of word) 18) (λ e. refl) (λ e. refl)

  -- message error stays only by an exempt command
  status_noted : has_flag MessageError (noted_status own h word).status.0 ≡ (is_exempt own word && has_flag MessageError h.status.0)
  unfolding noted_status
  status_noted = go (is_exempt own word) refl
    where
      go : (exempt : Bool) → is_exempt own word ≡ exempt
          → has_flag MessageError (noted_status own h word).status.0 ≡ (exempt && has_flag MessageError h.status.0)
      go true e = rw e
      go false e =
          rw e
          (cond_cases (λ (w : ℕ). has_flag MessageError w ≡ false) (is_broadcast word) (λ b. broadcast_no_error own.address)
          (λ b. address_no_error own.address))

-- ---- rule 4

-- it begins the command's message and ends any sending
rule4_begins : (s : State) (r : WordRecord) → Begins s r (rule4 s r)
unfolding rule4
rule4_begins s r =
    let own = s.setup.own in
    record {
      message = refl;
      sending = refl;
      fault = rw (command_noted own (noted_status own s.held r.word) r.word) (status_noted own s.held r.word);
    }

-- an accepted own command on a bus on which the terminal is not sending begins its message
pub own_begins : (s : State) (r : WordRecord) (receive transmit : List ℕ) → is_accepted s (Word r) receive transmit ≡ true
    → is_own s.setup.own r ≡ true
    → rule3 (passed_of s r.time.0 transmit) r ≡ false
    → Begins (passed_of s r.time.0 transmit) r (event_of s (Word r) receive transmit).terminal
unfolding step
own_begins s r receive transmit ok own quiet = rw (own_step s r receive transmit ok own quiet) (rule4_begins (passed_of s r.time.0 transmit) r)

-- the message under way is left as it is by rules 1 and 2, then its place is taken
pub replaced : Replaced
unfolding happens_of rule1_answer rule1_receive
replaced s r receive transmit ok own under quiet =
    let time = r.time.0 in
    let before = passed_under_way s time transmit under in
    let begins = rw (still s time transmit before.0 before.1) at (own_begins s r receive transmit ok own quiet) in (
      rw (accepted s (Word r) receive transmit ok, before.0),
      rw (accepted_table s (Word r) receive transmit ok, before.0),
      record { message = begins.message; sending = begins.sending; fault = begins.fault },
    )

-- ---- a sending is on one bus

-- the other bus is another
other_apart : (bus : ℕ) → other_bus bus ≡ bus → ⊥
unfolding other_bus
other_apart bus =
    cond_cases (λ (other : ℕ). other ≡ bus → ⊥) (eqb bus 0) (λ e h. omega (arith, eqb-true bus 0 e)) (λ e h. eqb-false bus 0 e (sym h))

-- sending on the other bus is not sending on this one
sending_on_one : (o : Option Sending) (bus t : ℕ) → is_sending o (other_bus bus) t ≡ true → is_sending o bus t ≡ false
unfolding is_sending is_sent
sending_on_one None bus t h = refl
sending_on_one (Some w) bus t h =
    let there : eqb w.bus (other_bus bus) ≡ true = search (and_left, and_right, h) in
    let elsewhere = ne_eqb w.bus bus (λ e. other_apart bus (sym (eqb-true w.bus (other_bus bus) there) ∙ e)) in
    rw elsewhere refl

-- so rule 3 does not ignore a command that cuts
pub cut : Cut
unfolding happens_of cuts_sending
cut s r receive transmit ok own sending = (
  rw (accepted s (Word r) receive transmit ok, passed_own s r.time.0 transmit r, own, sending),
  own_begins s r receive transmit ok own (sending_on_one (passed_of s r.time.0 transmit).sending r.bus r.time.0 sending),
)

pub cut_exactly : CutExactly
unfolding happens_of cuts_sending
cut_exactly s r receive transmit ok own = rw (accepted s (Word r) receive transmit ok, passed_own s r.time.0 transmit r, own)

-- ---- what cuts a sending

-- of what is accepted, only an own command
cuts_own : (s : State) (e : Event) (receive transmit : List ℕ) → is_accepted s e receive transmit ≡ true
    → (happens_of s e transmit).cut ≡ true
    → brings_own s (event e receive transmit) ≡ true
unfolding happens_of cuts_sending
cuts_own s (Mark t) receive transmit ok h = h
cuts_own s (Word r) receive transmit ok h =
    let own : is_own s.setup.own r ≡ true = and_left _ _ (rw (passed_own s r.time.0 transmit r) at h) in
    rw (ok, own)

-- and nothing that is refused
pub cut_by_own_alone : CutByOwnAlone
unfolding event_of
cut_by_own_alone s e receive transmit =
    cond_cases (λ (x : Happened). x.cut ≡ true → brings_own s (event e receive transmit) ≡ true) (is_accepted s e receive transmit)
    (cuts_own s e receive transmit)
    (λ bad h. false≢ h)
