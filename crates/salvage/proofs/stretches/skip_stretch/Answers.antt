-- The loop's invariant: what is left of the bytes, with the bytes so far, is what the whole gives. Assumes nothing.
use Rattle.std.proofs.Common.{drop, length, ap, ◌∙◌, drop-drop, arith}
use Rattle.std.specs.Slice.Iter.{windows_rest, windows_size}
use Rattle.salvage.specs.Machine.{place_of}
use Rattle.salvage.proofs.Loops.{whole_size, window_long, window_front, skipping_start, skipping_stop, skipping_next, skipping_short, stray_fits, place_fits}
use Rattle.salvage.proofs.stretches.skip_stretch.Goals as goal

pub loop-place-init : goal.loop-place-init
loop-place-init c =
    let same = c.into_iter-place-iterator.ensures.into_iter_gives in
    record {
      size = ap windows_size same ∙ c.windows-place-items.ensures.size;
      left = ap windows_rest same ∙ c.windows-place-items.ensures.rest;
      skipping = skipping_start _ _;
    }

pub returns-in_default : goal.returns-in_default
returns-in_default c =
    let before = c.loop-place.invariant in
    let steps = c.in-Some.ensures.steps in
    record {
      skipped = skipping_stop _ _ _ _ before.skipping (window_long _ _ _ before.size before.left steps.1.0) _
          (c.in_default.ensures.place ∙ ap (place_of c.args.last) (window_front _ _ _ _ before.size before.left steps.1.1));
    }

pub overflow_add-strays : goal.overflow_add-strays
overflow_add-strays c =
    let before = c.loop-place.invariant in
    let steps = c.in-Some.ensures.steps in
    omega (
      arith,
      stray_fits _ _ _ _ before.skipping (window_long _ _ _ before.size before.left steps.1.0) _
          (c.in-Err.ensures.place ∙ ap (place_of c.args.last) (window_front _ _ _ _ before.size before.left steps.1.1)),
    )

pub overflow_add-at : goal.overflow_add-at
overflow_add-at c =
    let before = c.loop-place.invariant in
    let steps = c.in-Some.ensures.steps in
    omega (arith, place_fits _ _ _ _ before.skipping (window_long _ _ _ before.size before.left steps.1.0))

pub loop-place-preserved : goal.loop-place-preserved
loop-place-preserved c =
    let before = c.loop-place.invariant in
    let steps = c.in-Some.ensures.steps in
    record {
      size = steps.0 ∙ before.size;
      left = steps.1.2 ∙ ap (drop 1) before.left ∙ drop-drop 1 c.loop-place.at c.args.bytes.now;
      skipping = skipping_next _ _ _ _ before.skipping (window_long _ _ _ before.size before.left steps.1.0) _
          (c.in-Err.ensures.place ∙ ap (place_of c.args.last) (window_front _ _ _ _ before.size before.left steps.1.1));
    }

pub returns : goal.returns
returns c =
    let before = c.loop-place.invariant in
    let short = whole_size _ _ before.size c.in-None.ensures.steps.1.0 in
    record { skipped = skipping_short _ _ _ _ before.skipping (omega (arith, short, ap length before.left)) }
