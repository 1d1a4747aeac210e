-- A command to the own address begins its message. Assumes nothing.
use mathlib.Core.Path.{◌≡◌, refl, ap, ◌∙◌}
use Prim.Native.Nat.{ℕ}
use mathlib.Core.Bool.{true, false, ◌&&◌}
use mathlib.Core.List.{List, []}
use lib.Dec.{eqb}
use borrow.Author.Tests.{eq-eqb}
use Rattle.words.specs.Words.{address_of, code_of, is_transmit, is_mode, command_sync}
use Rattle.records.specs.declared.forms.WordRecord.{WordRecord}
use Rattle.terminal.specs.Commands.{is_valid_record, is_own, is_exempt}
use Rattle.terminal.specs.Messages.{is_counting, is_between, is_sending}
use Rattle.terminal.specs.Settling.{is_shut}
use Rattle.terminal.specs.Rules.{rule1, rule3, noted_status, noted_command, first_phase, begun_of, rule4, rules3to6}
use Rattle.terminal.specs.Events.{passed_of}
use Rattle.terminal.specs.declared.states.Own.{Own}
use Rattle.terminal.specs.declared.states.Held.{Held}
use Rattle.terminal.specs.declared.states.Phase.{Phase}
use Rattle.terminal.specs.declared.states.Sending.{Sending}
use Rattle.terminal.specs.declared.states.Terminal.{Terminal as State}
use Rattle.terminal.specs.declared.events.Event.TheVariants.{Word}
use Rattle.history.specs.Calls.{event, is_accepted, step}
use Rattle.history.specs.Courses.{Command}
use Rattle.history.proofs.Tests.{cond_cases}
use Rattle.history.proofs.Steps.{stepped}
use Rattle.history.proofs.Passing.{passed_own, passed_sending, passed_shut}
use Rattle.history.proofs.Ways.{Way, Gathered}
use Rattle.std.specs.Prelude.{Option}

-- rule 4 shuts and opens none
noted_shut : (own : Own) (h : Held) (word : ℕ) → (noted_command own (noted_status own h word) word).shut ≡ h.shut
unfolding noted_command noted_status
noted_shut own h word =
    let same : Held → Type 0 = λ x. x.shut ≡ h.shut in
    let first : (noted_status own h word).shut ≡ h.shut = cond_cases same (is_exempt own word) (λ exempt. refl) (λ other. refl) in
    cond_cases same (is_exempt own word && eqb (code_of word) 18) (λ last. first) (λ other. first)

pub first_counts : (word : ℕ) → is_counting (first_phase word) ≡ true
unfolding first_phase
first_counts word =
    let counts : Phase → Type 0 = λ p. is_counting p ≡ true in
    cond_cases counts (is_transmit word) (λ transmits. refl) (λ receives. cond_cases counts (is_mode word) (λ mode. refl) (λ other. refl))

first_direct : (word : ℕ) → is_between (first_phase word) ≡ false
unfolding first_phase
first_direct word =
    let direct : Phase → Type 0 = λ p. is_between p ≡ false in
    cond_cases direct (is_transmit word) (λ transmits. refl) (λ receives. cond_cases direct (is_mode word) (λ mode. refl) (λ other. refl))

pub begun_direct : (r : WordRecord) → is_between (begun_of r).phase ≡ false
unfolding begun_of
begun_direct r = first_direct r.word

pub begun_gathered : (r : WordRecord) → Gathered r.bus r.word r.time.0 [] (begun_of r)
unfolding begun_of
begun_gathered r = record { counts = first_counts r.word; on = refl; asked = refl; last = refl; got = refl; kept = refl; room = refl }

pub own_command : (own : Own) (r : WordRecord) → is_valid_record r ≡ true → r.sync ≡ command_sync → address_of r.word ≡ own.address → is_own own r ≡ true
unfolding is_own
own_command own r valid sync to =
    let command : eqb r.sync command_sync ≡ true = rw sync in
    rw (valid, command, eq-eqb (address_of r.word) own.address to)

rules_own : (s : State) (r : WordRecord) → rule3 s r ≡ false → is_own s.setup.own r ≡ true → rules3to6 s r ≡ rule4 s r
unfolding rules3to6
rules_own s r quiet own = rw (quiet, own)

-- an accepted own command on a bus on which the terminal is not sending
pub own_step : (s : State) (r : WordRecord) (receive transmit : List ℕ) → is_accepted s (Word r) receive transmit ≡ true
    → is_own s.setup.own r ≡ true
    → rule3 (passed_of s r.time.0 transmit) r ≡ false
    → step s (event (Word r) receive transmit) ≡ rule4 (passed_of s r.time.0 transmit) r
own_step s r receive transmit ok own quiet =
    stepped s (Word r) receive transmit ok
    ∙ rules_own (passed_of s r.time.0 transmit) r quiet (passed_own s r.time.0 transmit r ∙ own)

module _ (s : State) (r : WordRecord) (receive transmit : List ℕ) (k : Command s r receive transmit) where
  pub begun_step : step s (event (Word r) receive transmit) ≡ rule4 (passed_of s r.time.0 transmit) r
  begun_step =
      own_step s r receive transmit k.accepted (own_command s.setup.own r k.valid k.sync k.own)
      (ap (λ (y : Option Sending). is_sending y r.bus r.time.0) (passed_sending s r.time.0 transmit) ∙ k.quiet)

  pub begun_way : Way (step s (event (Word r) receive transmit)) (begun_of r) (step s (event (Word r) receive transmit))
  unfolding rule4
  begun_way =
      record {
        setup = refl;
        held = refl;
        message = ap (λ (y : State). y.message) begun_step;
        sending = ap (λ (y : State). y.sending) begun_step;
      }

  pub begun_on : is_shut (step s (event (Word r) receive transmit)).held r.bus ≡ false
  unfolding rule4
  begun_on =
      let x : State = passed_of s r.time.0 transmit in
      let same : (step s (event (Word r) receive transmit)).held.shut ≡ (rule1 s r.time.0 transmit).held.shut =
      ap (λ (y : State). y.held.shut) begun_step ∙ noted_shut x.setup.own x.held r.word ∙ passed_shut s r.time.0 transmit in
      rw same k.transmitter
