-- The loop's invariant: the frames up to the place have their loads. Assumes nothing.
use mathlib.Core.Path.{◌∙◌, sym}
use Prim.Native.Nat.{◌<◌}
use native.Mathlib.Omega.{arith}
use lib.ListN.{length-set}
use Rattle.schedule.specs.Frames.{placed_of, loads_of, frames_all}
use Rattle.schedule.proofs.Fills.{load_at_lem, loads_all, fill_on, fill_all}
use Rattle.schedule.proofs.Chains.{loads_together, load_fits}
use Rattle.schedule.proofs.schedules.fill.Goals as goal

pub frame_load-requires : goal.frame_load-requires
frame_load-requires c = record { fits = load_fits _ _ _ c.requires.few }

pub loop-frame-preserved : goal.loop-frame-preserved
loop-frame-preserved c =
    let l = c.loop-frame in
    let a = c.args in
    let ps = placed_of a.messages.now a.firsts.now in
    let inside : l.frame < frames_all = omega arith in
    let is = c.frame_load.ensures.ticks ∙ loads_together l.frame a.messages.now a.firsts.now ∙ sym (load_at_lem l.frame ps inside) in
    (simp length-set l.invariant.0, fill_on l.loads (loads_of ps) l.frame _ (omega (arith, l.invariant)) (omega (arith, loads_all ps)) l.invariant.1 is)

pub returns : goal.returns
returns c =
    let l = c.loop-frame in
    let ps = placed_of c.args.messages.now c.args.firsts.now in
    record { loads = fill_all l.loads (loads_of ps) l.frame (omega (arith, l.invariant)) (omega (arith, loads_all ps)) l.invariant.1 }
