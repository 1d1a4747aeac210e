-- By whether the message is due. Assumes nothing.
use mathlib.Core.Path.{refl, sym, ◌∙◌}
use native.Mathlib.Omega.{arith}
use Rattle.terminal.specs.Rules.{rule1_answer, rule1_receive}
use Rattle.terminal.proofs.Counts.{due_most}
use Rattle.terminal.proofs.Works.{passed_settled, passed_waiting}
use borrow.Author.Rules.{rules}
use Rattle.terminal.proofs.states.Terminal.pass.Goals as goal

pub settle-requires : goal.settle-requires
settle-requires c = (search rules, search rules, omega (arith, due_most c.args.self.message c.args.time.0 (sym c.is_due.ensures.answer ∙ c.if-is_due.true)))

pub returns-then-is_due : goal.returns-then-is_due
unfolding rule1_answer rule1_receive
returns-then-is_due c =
    let due = sym c.is_due.ensures.answer ∙ c.if-is_due.true in
    let gave = c.settle.ensures in
    record { work = gave.work ∙ sym (passed_settled _ _ _ due); answer = rw due gave.answer; receive = rw due gave.receive }

pub returns : goal.returns
unfolding rule1_answer rule1_receive
returns c =
    let due = sym c.is_due.ensures.answer ∙ c.if-is_due.false in
    record {
      work = rw (c.rule2-work.ensures.work, c.work-before.ensures.work) (sym (passed_waiting _ _ _ due));
      answer = rw due refl;
      receive = rw due refl;
    }
