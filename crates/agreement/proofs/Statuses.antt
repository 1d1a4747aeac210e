-- The status of an answer: its address, the flag of a busy terminal, that of an illegal command. Assumes nothing.
use mathlib.Core.Path.{◌≡◌, refl, sym}
use Prim.Native.Nat.{ℕ, ◌^◌}
use mathlib.Core.Bool.{Bool, true, false, not, cond, ◌&&◌, ◌||◌, and-false}
use native.Mathlib.Omega.{arith}
use lib.Dec.{eqb}
use Rattle.words.specs.Words.{address_of, code_of, bit_of, has_flag, is_transmit, is_mode}
use Rattle.words.specs.declared.statuses.Flag.{Flag}
use Rattle.words.specs.declared.statuses.Flag.TheVariants.{MessageError, Subsystem, Terminal, Busy}
use Rattle.words.proofs.Flags.{flag_alone}
use Rattle.records.specs.declared.forms.WordRecord.{WordRecord}
use Rattle.terminal.specs.Commands.{is_exempt, is_legal}
use Rattle.terminal.specs.Settling.{with_if, settled_status}
use Rattle.terminal.specs.declared.states.Terminal.{Terminal as State}
use Rattle.history.specs.States.{Sound}
use Rattle.history.proofs.Tests.{none≢, cond_cases}
use Rattle.history.proofs.Holdings.{status_settled}
use Rattle.verdict.specs.Plans.{is_unjudged}
use Rattle.std.specs.Prelude.{Option, None, unwrap_or}
use Rattle.verdict.specs.declared.verdicts.Verdict.{Verdict}
use Rattle.verdict.specs.declared.verdicts.Verdict.TheVariants as verdict
use Rattle.verdict.specs.Facts.{flag_fact}

-- a status with busy in it shows a fact
busy_judged : (r : WordRecord) → has_flag Busy r.word ≡ true → flag_fact r ≡ None → ⊥
unfolding flag_fact
busy_judged r busy =
    rw busy (cond_cases (λ (o : Option Verdict). o ≡ None → ⊥) (has_flag MessageError r.word) (λ e h. none≢ (sym h)) (λ e h. none≢ (sym h)))

-- another flag, on or not, leaves busy there
busy_kept : (on : Bool) (flag : Flag) (n : ℕ) → (2 ^ 3 ≡ bit_of flag → ⊥) → has_flag Busy n ≡ true → has_flag Busy (with_if on flag n) ≡ true
unfolding has_flag
busy_kept true flag n apart busy = rw ((flag_alone flag n).1 3 apart) busy
busy_kept false flag n apart busy = busy

module _ (s : State) (w : ℕ) where
  -- the address is the own one
  pub address_settled : Sound s → address_of (settled_status s w) ≡ s.setup.own.address
  address_settled sound = (status_settled s sound.address sound.held w).status

  -- a busy terminal says so, to a legal command that is no mode command
  busy_settled : is_legal s.setup w ≡ true → is_mode w ≡ false → s.host.busy ≡ true → has_flag Busy (settled_status s w) ≡ true
  unfolding settled_status is_exempt
  busy_settled legal plain busy =
      let exempt : is_exempt s.setup.own w ≡ false = rw (plain, and-false) in
      rw (exempt, legal, busy)
      (busy_kept (s.host.defect && not s.held.inhibit) Terminal _ (omega arith)
      (busy_kept s.host.subsystem Subsystem _ (omega arith) (flag_alone Busy _).0))

  -- so where its status is judged good it is not busy
  pub good_ready : is_legal s.setup w ≡ true → (r : WordRecord) → r.word ≡ settled_status s w
      → cond (is_unjudged w) None (flag_fact r) ≡ None
      → is_mode w ≡ false
      → s.host.busy ≡ false
  unfolding is_unjudged
  good_ready legal r is clear plain = go s.host.busy refl
    where
      go : (b : Bool) → s.host.busy ≡ b → b ≡ false
      go true busy = absurd (busy_judged r (rw is (busy_settled legal plain busy)) (rw plain at clear))
      go false ready = refl

  -- a command whose flags are judged is not exempt
  judged_not_exempt : is_unjudged w ≡ false → is_exempt s.setup.own w ≡ false
  unfolding is_unjudged is_exempt
  judged_not_exempt = go (eqb (address_of w) s.setup.own.address && is_transmit w)
    where
      go : (own : Bool) → (is_mode w && (eqb (code_of w) 2 || eqb (code_of w) 18)) ≡ false
          → (own && is_mode w && (eqb (code_of w) 2 || eqb (code_of w) 18)) ≡ false
      go true none = none
      go false none = refl

  -- so where it is illegal its status is judged a message error
  pub error_settled : is_legal s.setup w ≡ false → is_unjudged w ≡ false → (r : WordRecord) → r.word ≡ settled_status s w
      → unwrap_or (cond (is_unjudged w) None (flag_fact r)) verdict.Good ≡ verdict.MessageError
  unfolding settled_status flag_fact
  error_settled illegal flags r is = rw (flags, is, judged_not_exempt flags, illegal, (flag_alone MessageError _).0)
