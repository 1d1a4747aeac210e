-- What holds of the terminal beyond each function's own promise, proved in proofs/ under the name at its side. What holds after any past
-- (demand 3) is the crate `history`. Assumes nothing.
use Rattle.std.specs.Prelude.{T}
use Rattle.terminal.specs.Cards.{cards, all_hold}

-- Every bench card of document 01, starred or not, holds: cards_hold
abbrev pub CardsHold : Type 0
CardsHold = T (all_hold cards)
