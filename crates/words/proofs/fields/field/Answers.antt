-- The shift brings the field's lowest bit to the end, and the mask keeps its width. Assumes nothing.
use Prim.Native.Nat.{◌/◌, ◌^◌}
use lib.Bits.{and_mask}
use Rattle.words.proofs.fields.field.Goals as goal

pub returns : goal.returns
returns c = record { field = rw c.mask.ensures.mask (and_mask (c.args.word / 2 ^ c.args.place) c.args.width) }
