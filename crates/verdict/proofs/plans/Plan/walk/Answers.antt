-- The loop's invariant: what is left, with the fact found and the number looked at so far, is what the whole comes to. Assumes nothing.
use mathlib.Core.Path.{◌≡◌, sym, ap, ◌∙◌}
use native.Mathlib.Omega.{arith}
use Rattle.std.proofs.Common.{rules}
use Rattle.std.proofs.lemmas.Result.{err_from_is_err_and, MatchResult-at_err}
use Rattle.std.specs.Prelude.{true, false, is_none, length, Ok}
use Rattle.std.specs.Slice.Iter.{chunks_rest}
use Rattle.verdict.proofs.Ranges.{looked_fits}
use Rattle.verdict.specs.Verdicts.{returned_of, finding}
use Rattle.verdict.specs.declared.verdicts.Verdict.{Verdict}
use Rattle.verdict.proofs.Walks.{start, stop, next_of, unread, refused, look_on, pass_on}
use Rattle.verdict.proofs.plans.Plan.walk.Goals as goal
use Rattle.verdict.proofs.plans.Plan.walk.Goals.{then-is_none, else-is_none}

pub loop-bytes-init : goal.loop-bytes-init
loop-bytes-init c =
    record {
      size = search rules;
      left = rw (c.into_iter-bytes-iterator.ensures.into_iter_gives, c.chunks-bytes-items.ensures.rest) (start c.args.self c.args.records.now);
    }

pub returns-in_default : goal.returns-in_default
returns-in_default c =
    let next = next_of _ c.loop-bytes.invariant.size _ _ _ c.in-Some.ensures.steps.1 in
    let passed = MatchResult-at_err _ _ _ c.in_default.is c.map.ensures.cases in
    record { judged = passed ∙ unread _ _ _ _ _ _ c.loop-bytes.invariant.left _ _ next _ (sym c.read_record-read.ensures.read ∙ c.in_default.is) }

pub returns-in_err-check_record : goal.returns-in_err-check_record
returns-in_err-check_record c =
    let p = err_from_is_err_and c.from_residual.result c.from_residual.ensures.1 in
    let next = next_of _ c.loop-bytes.invariant.size _ _ _ c.in-Some.ensures.steps.1 in
    let read = sym c.read_record-read.ensures.read ∙ c.in-Ok.is in
    rw (p.1, p.2)
    (record { judged = refused _ _ _ _ _ _ c.loop-bytes.invariant.left _ _ next _ read _ (sym c.check_record.ensures.checks ∙ c.in_err-check_record.was) })

pub loop-bytes-preserved : goal.loop-bytes-preserved
loop-bytes-preserved c =
    let next = next_of _ c.loop-bytes.invariant.size _ _ _ c.in-Some.ensures.steps.1 in
    let read = sym c.read_record-read.ensures.read ∙ c.in-Ok.is in
    let ok = sym c.check_record.ensures.checks ∙ c.in_ok-check_record.was in
    record {
      size = c.in-Some.ensures.steps.0 ∙ c.loop-bytes.invariant.size;
      left =
          elim c.if-is_none.branch [
            | then-is_none w ↦
                let none : is_none c.loop-bytes.found ≡ true = search rules in
                rw (w.looked-is, w.found-is ∙ w.look-found.ensures.fact) (look_on _ _ _ _ _ _ c.loop-bytes.invariant.left _ _ next _ read none ok)
            | else-is_none w ↦
                let some : is_none c.loop-bytes.found ≡ false = search rules in
                rw (w.looked-is, w.found-is) (pass_on _ _ _ _ _ _ c.loop-bytes.invariant.left _ _ next _ read some ok)
          ];
    }

pub overflow_cast-result : goal.overflow_cast-result
overflow_cast-result c =
    let empty : length (chunks_rest c.loop-bytes.bytes-iterator) ≡ 0 = c.in-None.ensures.steps.1.0 in
    omega (arith, looked_fits c.args.self (returned_of c.args.self c.args.records.now) _ (stop _ _ _ _ _ _ c.loop-bytes.invariant.left empty))

pub returns : goal.returns
returns c =
    let empty : length (chunks_rest c.loop-bytes.bytes-iterator) ≡ 0 = c.in-None.ensures.steps.1.0 in
    record {
      judged = ap (λ (v : Verdict). Ok (finding v c.loop-bytes.looked)) c.finish-verdict.ensures.verdict
          ∙ stop _ _ _ _ _ _ c.loop-bytes.invariant.left empty;
    }
