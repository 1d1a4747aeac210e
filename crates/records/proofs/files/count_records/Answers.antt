-- By how the file opens. Assumes nothing.
use mathlib.Core.Path.{refl}
use native.Mathlib.Omega.{arith}
use Rattle.std.proofs.lemmas.Result.{err_from_is_err_and}
use Rattle.records.proofs.Walks.{not_opened, opened_at, opened_whole}
use borrow.Author.Rules.{rules}
use Rattle.records.proofs.files.count_records.Goals as goal

pub returns-in_err-start : goal.returns-in_err-start
returns-in_err-start c =
    let p = err_from_is_err_and c.from_residual.result c.from_residual.ensures.1 in
    rw (p.1, p.2) (record { counted = not_opened _ _ c.open_file.ensures.opened _ c.in_err-start.was })

pub slice_bounds-count_in-count : goal.slice_bounds-count_in-count
slice_bounds-count_in-count c =
    let behind = opened_at _ _ c.open_file.ensures.opened _ c.in_ok-start.was in
    omega (arith, behind.0, behind.1)

pub slice_bounds-count_in-start : goal.slice_bounds-count_in-start
slice_bounds-count_in-start c =
    let behind = opened_at _ _ c.open_file.ensures.opened _ c.in_ok-start.was in
    search (behind, rules)

pub returns : goal.returns
returns c = record { counted = opened_whole _ _ c.open_file.ensures.opened _ _ _ c.in_ok-start.was refl c.count_in.ensures.counted }
