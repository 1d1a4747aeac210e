-- What `all` says of the capacities. Assumes nothing.
use mathlib.Core.Path.{◌∙◌}
use Prim.Native.Nat.{ℕ}
use lib.Dec.{eqb}
use lib.ListN.{get_or}
use Rattle.std.proofs.Common.{rules, tests}
use Rattle.std.proofs.lemmas.Iterator.{YieldsList-from_slice}
use Rattle.std.proofs.lemmas.Iterator.Search.{all_from_yields_List}
use Rattle.texts.proofs.Lines.{all_same}
use Rattle.texts.proofs.writings.is_even.Goals as goal

pub returns : goal.returns
returns c =
    let found =
    all_from_yields_List (λ (n : ℕ). eqb n (get_or c.args.capacities.now 0 0)) _ _ c.all.result c.all.ensures.ran (YieldsList-from_slice _ c.iter.ensures.rest) (λ x b q k. search (rules, tests)) in
    record { answer = found ∙ all_same _ _ }
