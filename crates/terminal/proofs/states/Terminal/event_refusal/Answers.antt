-- By the tables' lengths, by the ranges, by the time. Assumes nothing.
use mathlib.Core.Path.{sym, ◌∙◌}
use Rattle.words.proofs.Orders.{lt_test}
use Rattle.terminal.specs.Events.{event_refusal}
use Rattle.terminal.proofs.Accepted.{sizes_wrong, sizes_right, turned_true, turned_false}
use Rattle.terminal.proofs.Moments.{not_most}
use Rattle.terminal.proofs.states.Terminal.event_refusal.Goals as goal

pub returns-then-receive-transmit : goal.returns-then-receive-transmit
unfolding event_refusal
returns-then-receive-transmit c = record { refusal = rw (sizes_wrong _ _ c.if-receive-transmit.true) }

pub returns-then-not-in_range : goal.returns-then-not-in_range
unfolding event_refusal
returns-then-not-in_range c = record { refusal = rw (sizes_right _ _ c.if-receive-transmit.false, sym c.in_range.ensures.answer ∙ c.if-not-in_range.true) }

pub returns-then-lt : goal.returns-then-lt
unfolding event_refusal
returns-then-lt c =
    let a = c.args in
    record {
      refusal = rw (sizes_right _ _ c.if-receive-transmit.false, sym c.in_range.ensures.answer ∙ c.if-not-in_range.false, turned_true _ (sym (not_most a.self.time.0 a.heard.time.0) ∙ sym (lt_test _ _) ∙ sym c.lt.ensures ∙ c.if-lt.true));
    }

pub returns : goal.returns
unfolding event_refusal
returns c =
    let a = c.args in
    record {
      refusal = rw (sizes_right _ _ c.if-receive-transmit.false, sym c.in_range.ensures.answer ∙ c.if-not-in_range.false, turned_false _ (sym (not_most a.self.time.0 a.heard.time.0) ∙ sym (lt_test _ _) ∙ sym c.lt.ensures ∙ c.if-lt.false));
    }
