-- By whether it is refused. Assumes nothing.
use mathlib.Core.Path.{sym, ◌∙◌}
use Rattle.terminal.specs.Events.{set_up_of}
use Rattle.terminal.proofs.Accepted.{set_up_tables}
use Rattle.terminal.proofs.setups.set_up.Goals as goal

pub masks-received-requires : goal.masks-received-requires
masks-received-requires c = (set_up_tables c.args.address _ _ (sym c.set_up_refusal.ensures.refusal ∙ c.in_default.is)).0

pub masks-transmitted-requires : goal.masks-transmitted-requires
masks-transmitted-requires c = (set_up_tables c.args.address _ _ (sym c.set_up_refusal.ensures.refusal ∙ c.in_default.is)).1

pub returns-in-Some : goal.returns-in-Some
unfolding set_up_of
returns-in-Some c = record { setup = rw (sym c.set_up_refusal.ensures.refusal ∙ c.in-Some.is, c.fresh-terminal.ensures.terminal, c.build-setup.ensures.setup) }

pub returns : goal.returns
unfolding set_up_of
returns c = record { setup = rw (sym c.set_up_refusal.ensures.refusal ∙ c.in_default.is, c.fresh.ensures.terminal, c.build-setup-2.ensures.setup, c.masks-transmitted.ensures.masks, c.masks-received.ensures.masks) }
