-- Bytes put behind others in a room. Assumes nothing.
use mathlib.Core.Path.{◌≡◌, ap}
use Prim.Native.Nat.{ℕ, ◌+◌}
use mathlib.Core.List.{List, ◌++◌}
use lib.ListN.{take, drop}
use lib.Seq.{drop-drop}
use borrow.Rule.Slice.PartMut.{put_mid}

-- r bytes of the chunk were copied into the part of the room from a place on
pub filled : (room chunk last : List ℕ) (at r n : ℕ) → n ≡ r → last ≡ take r chunk → put_mid at n room last ≡ take at room ++ (take r chunk ++ drop (at + r) room)
filled room chunk last at r n m q = rw (q, m) (ap (λ (z : List ℕ). take at room ++ (take r chunk ++ z)) (drop-drop r at room))
