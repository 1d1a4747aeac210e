-- The part is that of the pieces that the spaces cut. Assumes nothing.
use Rattle.std.proofs.Common.{eqb, ap, refl, ◌∙◌, rules, tests}
use Rattle.std.proofs.lemmas.Iterator.Consumers.{nth_from_yields_List}
use Rattle.std.proofs.lemmas.Iterator.Splits.{YieldsList-from_slice_split}
use Rattle.plans.proofs.Splits.{piece_is}
use Rattle.plans.proofs.parts.part.Goals as goal

pub returns : goal.returns
returns c =
    let piece = nth_from_yields_List c.nth.result _ c.args.before c.nth.ensures.ran
    (YieldsList-from_slice_split _ (λ byte. eqb byte 32) c.args.line.now c.split.ensures.rest c.split.ensures.done c.split.ensures.closure (λ x b q k. search (rules, tests))) in
    record { bytes = ap (λ r. r.now) c.unwrap_or.ensures ∙ piece_is c.args.line.now c.args.before c.nth.result _ refl piece }
