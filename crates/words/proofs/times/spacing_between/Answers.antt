-- By the distance that `since` gives, told whole. Assumes nothing.
use mathlib.Core.Path.{sym, ◌∙◌}
use Rattle.std.proofs.lemmas.Bool.{ltb-true, ltb-false, leb-true, leb-false}
use Rattle.words.proofs.Orders.{lt_test, le_test}
use Rattle.words.proofs.Spacings.{overlaps, follows, separates}
use Rattle.words.proofs.times.spacing_between.Goals as goal

pub returns-then-lt : goal.returns-then-lt
returns-then-lt c = record { spacing = overlaps _ _ _ c.since-distance.ensures.distance (ltb-true _ _ (sym (lt_test _ _) ∙ sym c.lt.ensures ∙ c.if-lt.true)) }

pub returns-then-le : goal.returns-then-le
returns-then-le c =
    record {
      spacing = follows _ _ _ c.since-distance.ensures.distance
          (ltb-false _ _ (sym (lt_test _ _) ∙ sym c.lt.ensures ∙ c.if-lt.false))
          (leb-true _ _ (sym (le_test _ _) ∙ sym c.le.ensures ∙ c.if-le.true));
    }

pub returns : goal.returns
returns c =
    record {
      spacing = separates _ _ _ c.since-distance.ensures.distance
          (ltb-false _ _ (sym (lt_test _ _) ∙ sym c.lt.ensures ∙ c.if-lt.false))
          (leb-false _ _ (sym (le_test _ _) ∙ sym c.le.ensures ∙ c.if-le.false));
    }
