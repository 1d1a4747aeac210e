-- By the tables' lengths, then by the address. Assumes nothing.
use borrow.Author.Tests.{le-leb, lt-leb}
use Rattle.terminal.specs.Events.{set_up_refusal}
use Rattle.terminal.proofs.Accepted.{sizes_wrong, sizes_right}
use Rattle.terminal.proofs.setups.set_up_refusal.Goals as goal

pub returns-then-receive-transmit : goal.returns-then-receive-transmit
unfolding set_up_refusal
returns-then-receive-transmit c = record { refusal = rw (sizes_wrong _ _ c.if-receive-transmit.true) }

pub returns-then-address-gt-LAST_ADDRESS : goal.returns-then-address-gt-LAST_ADDRESS
unfolding set_up_refusal
returns-then-address-gt-LAST_ADDRESS c = record { refusal = rw (sizes_right _ _ c.if-receive-transmit.false, lt-leb _ _ c.if-address-gt-LAST_ADDRESS.true) }

pub returns : goal.returns
unfolding set_up_refusal
returns c = record { refusal = rw (sizes_right _ _ c.if-receive-transmit.false, le-leb _ _ c.if-address-gt-LAST_ADDRESS.false) }
