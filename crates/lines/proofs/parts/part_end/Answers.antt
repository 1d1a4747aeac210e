-- What `position` says of the first space. Assumes nothing.
use mathlib.Core.Path.{◌≡◌, sym, ap, ◌∙◌}
use mathlib.Core.Logic.{◌≢◌}
use Prim.Native.Nat.{ℕ}
use lib.ListN.{drop}
use Rattle.std.proofs.Common.{rules, tests}
use Rattle.std.proofs.lemmas.Iterator.{IsFirst-from_position, YieldsList-from_slice}
use Rattle.std.proofs.lemmas.List.{take_rest}
use Rattle.lines.specs.Parts.{before_space}
use Rattle.lines.proofs.Partings.{before_found, end_is}
use Rattle.lines.proofs.parts.part_end.Goals as goal

pub returns : goal.returns
returns c =
    let found =
    before_found _ _
    (IsFirst-from_position _ _ c.position.result (λ (b : ℕ). b ≡ 32) (λ (b : ℕ). b ≢ 32) c.position.ensures.ran (YieldsList-from_slice _ c.iter.ensures.rest)
    (λ x q k. search (rules, tests)) (λ x q k. search (rules, tests))) in
    let place : c.unwrap_or.result ≡ before_space (drop c.min-from.result c.args.text.now) =
    c.unwrap_or.ensures ∙ sym found ∙ ap before_space (take_rest c.args.text.now c.min-from.result) in
    record { place = end_is _ _ _ _ c.min-from.ensures place }
