-- The shift brings the code's bit to the end; a mask has no bit at 32 or above. Assumes nothing.
use Prim.Native.Nat.{◌/◌, ◌^◌}
use lib.Bits.{and_mask}
use Rattle.words.specs.Masks.{mask_allows}
use Rattle.words.proofs.Bits.{bit_past}
use borrow.Author.Rules.{rules}
use Rattle.words.proofs.masks.mask_allows.Goals as goal

pub returns-then-code-lt32 : goal.returns-then-code-lt32
unfolding mask_allows
returns-then-code-lt32 c = record { answer = rw (and_mask (c.args.mask / 2 ^ c.args.code) 1) }

pub returns-else-code-lt32 : goal.returns-else-code-lt32
unfolding mask_allows
returns-else-code-lt32 c = record { answer = rw (bit_past 32 c.args.code c.args.mask (search rules) (search rules)) }
