-- What is left of the chunk, fed to the reading so far, comes to what all of it does. Assumes nothing.
use Rattle.std.proofs.Common.{refl, ◌∙◌, arith}
use borrow.Author.Tests.{not-true, not-false}
use Rattle.plans.proofs.Feeds.{fed_over, fed_all_lem, line_bad, line_good, byte_bad, byte_good, fed_begun}
use Rattle.plans.proofs.readings.Reading.take.Goals as goal
use Rattle.plans.proofs.readings.Reading.take.Goals.{then-byte-eq10+else-is_bad, else-byte-eq10+else-is_bad-2}

pub returns-then-not-self : goal.returns-then-not-self
returns-then-not-self c = record { reading = fed_over _ _ (not-true _ c.if-not-self.true) }

pub loop-byte-init : goal.loop-byte-init
loop-byte-init c = refl

pub returns-then-is_bad : goal.returns-then-is_bad
returns-then-is_bad c =
    record {
      reading = let l = c.loop-byte in
          line_bad _ _ _ _ _ l.invariant c.loop-byte-test.true (omega arith) _ c.take_line.ensures.draft _ c.is_bad.ensures.answer c.if-is_bad.true
          ∙ fed_begun c.args.self _ (not-false _ c.if-not-self.false);
    }

pub returns-then-is_bad-2 : goal.returns-then-is_bad-2
returns-then-is_bad-2 c =
    record {
      reading = let l = c.loop-byte in
          byte_bad _ _ _ _ _ l.invariant c.loop-byte-test.true c.if-byte-eq10.false _ c.take-gathering.ensures.line _ c.is_bad-else-byte-eq10.ensures.answer c.if-is_bad-2.true _
          c.take_line-then-is_bad-2.ensures.draft
          ∙ fed_begun c.args.self _ (not-false _ c.if-not-self.false);
    }

pub loop-byte-preserved : goal.loop-byte-preserved
loop-byte-preserved c =
    let l = c.loop-byte in
    let test = c.loop-byte-test.true in
    elim c.if-byte-eq10.branch [
      | then-byte-eq10+else-is_bad w ↦
          rw (w.draft-is, w.gathering-is)
          (line_good _ _ _ _ _ l.invariant test w.if-byte-eq10.true _ w.take_line.ensures.draft _ w.is_bad.ensures.answer w.if-is_bad.false _ w.next-gathering.ensures.line)
      | else-byte-eq10+else-is_bad-2 w ↦
          rw (w.draft-is, w.gathering-is)
          (byte_good _ _ _ _ _ l.invariant test w.if-byte-eq10.false _ w.take-gathering.ensures.line _ w.is_bad-else-byte-eq10.ensures.answer w.if-is_bad-2.false)
    ]

pub returns : goal.returns
returns c = record { reading = fed_all_lem _ _ _ _ _ c.loop-byte.invariant c.loop-byte-test.false ∙ fed_begun c.args.self _ (not-false _ c.if-not-self.false) }
