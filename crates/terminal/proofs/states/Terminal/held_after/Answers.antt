-- By whether it is a legal mode command. Assumes nothing.
use Rattle.terminal.specs.Effects.{held_after}
use Rattle.terminal.proofs.Awaited.{awaited_effect}
use Rattle.terminal.proofs.states.Terminal.held_after.Goals as goal

pub returns-then-legal-is_mode : goal.returns-then-legal-is_mode
unfolding held_after
returns-then-legal-is_mode c =
    record {
      held = let s = c.args.self in
          let legal = c.requires in
          let mode = c.is_mode.ensures.answer in
          rw (← awaited_effect s.setup s.setup.own _ s.message s.message.bus (rw (← legal, ← mode) c.if-legal-is_mode.true), ← legal, ← mode, c.if-legal-is_mode.true, c.effect.ensures.held, c.count.ensures.field, c.with_status-stored.ensures.held, c.last_awaited-word.ensures.word);
    }

pub returns : goal.returns
unfolding held_after
returns c = record { held = rw (← c.requires, ← c.is_mode.ensures.answer, c.if-legal-is_mode.false, c.with_status-stored.ensures.held) }
