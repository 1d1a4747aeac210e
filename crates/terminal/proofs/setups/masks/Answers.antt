-- The loop's invariant: the first i masks are those of the table, the rest zeros. Assumes nothing.
use mathlib.Core.Path.{◌≡◌, refl, ap, ◌∙◌}
use native.Mathlib.Omega.{arith}
use lib.ListN.{replicate, length-set}
use lib.Seq.{paste, paste-zero}
use Rattle.terminal.proofs.Copies.{copy_suc, copy_all}
use Rattle.terminal.proofs.setups.masks.Goals as goal

pub loop-i-init : goal.loop-i-init
loop-i-init c = (omega arith, refl, paste-zero (replicate 32 0) 0 c.args.table.now)

pub bounds-table-i : goal.bounds-table-i
bounds-table-i c = omega arith

pub bounds-copy-i : goal.bounds-copy-i
bounds-copy-i c = omega arith

pub overflow_add-i : goal.overflow_add-i
overflow_add-i c = omega arith

pub loop-i-smaller : goal.loop-i-smaller
loop-i-smaller c = omega arith

pub loop-i-preserved : goal.loop-i-preserved
loop-i-preserved c =
    let l = c.loop-i in
    let a = c.args in
    (omega arith, simp length-set l.invariant.1, rw l.invariant.2 (copy_suc (replicate 32 0) a.table.now l.i (omega arith) (omega arith)))

pub returns : goal.returns
returns c =
    record {
      masks = let all : c.loop-i.i ≡ 32 = omega arith in
          c.loop-i.invariant.2
          ∙ ap (paste (replicate 32 0) 0 c.args.table.now) all
          ∙ copy_all (replicate 32 0) c.args.table.now 32 (omega arith) (omega arith);
    }
