-- No load is large: 64 messages load a frame with less than half a million ticks, so no sum wraps. Assumes nothing.
use mathlib.Core.Bool.{◌&&◌}
use mathlib.Core.List.{List, [], ◌∷◌}
use Prim.Native.Nat.{ℕ, ◌*◌, ◌≤◌}
use native.Mathlib.Omega.{arith}
use lib.Dec.{eqb, leb}
use lib.ListN.{length}
use Rattle.words.specs.Words.{code_of, is_mode, is_broadcast}
use Rattle.words.proofs.Counts.{words_most}
use Rattle.words.proofs.Truth.{cond_most}
use Rattle.schedule.specs.Messages.{mode_data_of, data_of, single_load, pair_load, load_of}
use Rattle.schedule.specs.Frames.{Placed, comes_in, part_in, frame_load}
use Rattle.schedule.specs.declared.messages.Message.{Message}

pub data_most : (word : ℕ) → data_of word ≤ 32
unfolding data_of mode_data_of
data_most word =
    let one = cond_most 32 (leb 16 (code_of word) && leb (code_of word) 21) 1 0 (omega arith) (omega arith) in
    cond_most 32 (is_mode word) _ _ one (words_most word)

pub single_most : (word : ℕ) → single_load word ≤ 7400
unfolding single_load
single_most word = let few = data_most word in cond_most 7400 (is_broadcast word) _ _ (omega arith) (omega arith)

pub pair_most : (word : ℕ) → pair_load word ≤ 7400
unfolding pair_load
pair_most word = let few = data_most word in cond_most 7400 (is_broadcast word) _ _ (omega arith) (omega arith)

pub load_most : (message : Message) → load_of message ≤ 7420
unfolding load_of
load_most message =
    let most = cond_most 7400 (eqb message.commands 1) _ _ (single_most message.first.0) (pair_most message.first.0) in
    omega arith

pub part_most : (frame : ℕ) (placed : Placed) → part_in frame placed ≤ 7420
unfolding part_in
part_most frame placed = cond_most 7420 (comes_in frame placed) _ 0 (load_most placed.message) (omega arith)

pub frame_load_most : (frame : ℕ) (placed : List Placed) → frame_load frame placed ≤ 7420 * length placed
unfolding frame_load
frame_load_most frame [] = omega arith
frame_load_most frame (p ∷ ps) = let one = part_most frame p in let rest = frame_load_most frame ps in omega arith
