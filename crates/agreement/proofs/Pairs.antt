-- A pair of commands between terminals, and the transmitter's part as it is heard. Assumes nothing.
use mathlib.Core.Path.{◌≡◌, sym, ap, subst, ◌∙◌}
use Prim.Native.Nat.{ℕ, ◌≤◌}
use mathlib.Core.Bool.{Bool, true, false, not, ◌&&◌}
use mathlib.Core.List.{List, ◌∷◌, ◌++◌}
use native.Mathlib.Omega.{arith}
use lib.Dec.{eqb}
use lib.ListN.{replicate}
use borrow.Author.Tests.{not-true}
use Rattle.words.specs.Words.{on_clock, address_of, words_of, is_transmit, is_mode, is_broadcast}
use Rattle.words.specs.declared.times.Moment.{Moment}
use Rattle.records.specs.Records.{last_bus}
use Rattle.records.specs.declared.forms.WordRecord.{WordRecord}
use Rattle.terminal.specs.declared.states.Terminal.{Terminal as State}
use Rattle.history.proofs.Tests.{and_left, and_right, or_false}
use Rattle.verdict.specs.Plans.{is_pair, is_unjudged, status_for, sent_of, part_of, back_of, expected_of}
use Rattle.verdict.specs.Facts.{fact_of}
use Rattle.verdict.specs.Theorems.{last_after}
use Rattle.verdict.specs.declared.plans.Plan.{Plan}
use Rattle.verdict.specs.declared.plans.Expected.{Expected}
use Rattle.verdict.specs.declared.plans.Expected.TheVariants.{Data}
use Rattle.verdict.proofs.Findings.{verdict_over, verdict_passed}
use Rattle.verdict.proofs.Goods.{good_status}
use Rattle.monitor.proofs.Appends.{last_time}
use Rattle.agreement.specs.Agreement.{plan_between, Sent, Accepted}
use Rattle.agreement.proofs.Heard.{words_passed, words_later, word_taken, words_taken}

-- ---- the two commands

-- the first receives, the second transmits, neither is a mode command, and they are to two addresses, the second not to all terminals
pub record Parts (first second : ℕ) : Type 0 where
  pub receives : is_transmit first ≡ false
  pub plain : is_mode first ≡ false
  pub transmits : is_transmit second ≡ true
  pub plain_second : is_mode second ≡ false
  pub apart : eqb (address_of second) (address_of first) ≡ false
  pub single : is_broadcast second ≡ false

pub pair_parts : (first second : ℕ) → is_pair first second ≡ true → Parts first second
unfolding is_pair
pair_parts first second pair =
    let receives : Bool = not (is_transmit first) in
    let takes : Bool = receives && not (is_mode first) in
    let transmits : Bool = takes && is_transmit second in
    let sends : Bool = transmits && not (is_mode second) in
    let five = and_left _ _ pair in
    let four = and_left _ _ five in
    let three = and_left _ _ four in
    let two = and_left _ _ three in
    let other = not-true _ (and_right sends _ five) in
    record {
      receives = not-true _ (and_left _ _ two);
      plain = not-true _ (and_right receives _ two);
      transmits = and_right takes _ three;
      plain_second = not-true _ (and_right transmits _ four);
      apart = or_false (eqb (address_of second) (address_of first)) (is_broadcast second) other (λ apart single. apart);
      single = or_false (eqb (address_of second) (address_of first)) (is_broadcast second) other (λ apart single. single);
    }

module _ (first second : ℕ) (pair : is_pair first second ≡ true) where
  -- no data word is expected of the receiver, and of the transmitter as many as its command asks for
  pub receiver_sends : sent_of first ≡ 0
  unfolding sent_of
  receiver_sends = let parts = pair_parts first second pair in rw (parts.plain, parts.receives)

  transmitter_sends : sent_of second ≡ words_of second
  unfolding sent_of
  transmitter_sends = let parts = pair_parts first second pair in rw (parts.plain_second, parts.transmits)

  transmitter_judged : is_unjudged second ≡ false
  unfolding is_unjudged
  transmitter_judged = rw (pair_parts first second pair).plain_second

-- the plan expects the transmitter's part, then the receiver's
pub pair_expects : (s : State) (second : WordRecord) (until : Moment) → is_broadcast s.message.command.0 ≡ false
    → expected_of (plan_between s second until) ≡ part_of second.word ++ part_of s.message.command.0
unfolding expected_of back_of
pair_expects s second until one = rw one

-- ---- the transmitter's part

module _ (s : State) (second status : WordRecord) (ds : List WordRecord) (sent : Sent s second status ds) where
  -- its last word is the last that the terminal heard
  sent_last : last_after status.time.0 ds ≡ s.message.last.0
  sent_last = sym (last_time status ds) ∙ ap (λ (m : Moment). m.0) sent.last

  -- it shows nothing: what comes behind decides
  pub sent_passed : (es : List Expected) (until : ℕ) (rs : List WordRecord)
      → verdict_over (part_of second.word ++ es) second.time.0 until (status ∷ (ds ++ rs)) ≡ verdict_over es s.message.last.0 until rs
  unfolding fact_of
  sent_passed es until rs =
      verdict_passed (status_for second.word) (replicate (sent_of second.word) Data ++ es) second.time.0 until status (ds ++ rs)
      (rw (transmitter_judged s.message.command.0 second.word sent.pair)
      (good_status (address_of second.word) false second.time.0 status sent.answered))
      ∙ (words_passed s.message.bus es until rs ds (sent_of second.word) status.time.0
      (sent.number ∙ sym (transmitter_sends s.message.command.0 second.word sent.pair)) sent.spaced
      ∙ ap (λ (n : ℕ). verdict_over es n until rs) sent_last)

  -- it comes after the second command, and its last word not before its status
  pub sent_later : second.time.0 ≤ s.message.last.0
  sent_later = omega (arith, sent_last, words_later s.message.bus ds status.time.0 sent.spaced, sent.answered.not_early)

  -- its words are taken, where those behind are
  pub sent_taken : (until : Moment) (rs : List WordRecord) → s.message.bus ≤ last_bus → on_clock until.0 ≡ true → s.message.last.0 ≤ until.0
      → Accepted (plan_between s second until) s.message.last.0 rs
      → Accepted (plan_between s second until) second.time.0 (status ∷ (ds ++ rs))
  sent_taken until rs bus clock in_time_lem taken =
      let plan : Plan = plan_between s second until in
      let later = words_later s.message.bus ds status.time.0 sent.spaced in
      let first =
      word_taken plan bus clock second.time.0 status sent.answered.valid sent.bus (omega (arith, sent.answered.not_early))
      (omega (arith, later, sent_last, in_time_lem)) in (
        first.0,
        first.1,
        words_taken plan bus clock ds status.time.0 rs sent.spaced (omega (arith, sent_last, in_time_lem))
            (subst (λ (n : ℕ). Accepted plan n rs) (sym sent_last) taken),
      )
