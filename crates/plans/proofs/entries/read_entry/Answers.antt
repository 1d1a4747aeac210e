-- One law for each name. Assumes nothing.
use Rattle.std.proofs.Common.{◌≡◌, Ok, Err, length, sym, ◌∙◌, rules, tests}
use Rattle.std.proofs.lemmas.Result.{err_from_is_err_and}
use Rattle.plans.proofs.Sayings.{says_nothing_at_all, message_named, capacity_named, not_named}
use Rattle.plans.proofs.entries.read_entry.Goals as goal

pub returns-then-is_empty : goal.returns-then-is_empty
returns-then-is_empty c = let none : length c.args.line.now ≡ 0 = search (rules, tests) in record { entry = says_nothing_at_all _ none }

pub returns-then-is_same : goal.returns-then-is_same
returns-then-is_same c =
    let some : length c.args.line.now ≡ 0 → ⊥ = search (rules, tests) in
    record { entry = message_named _ some _ c.part-name.ensures.bytes _ c.is_same.ensures.answer c.if-is_same.true (Ok _) c.in_ok-read_message.ensures.entry }

pub returns-in_err-read_message : goal.returns-in_err-read_message
returns-in_err-read_message c =
    let some : length c.args.line.now ≡ 0 → ⊥ = search (rules, tests) in
    let p = err_from_is_err_and c.from_residual.result c.from_residual.ensures.1 in
    rw (p.1, p.2)
    (record { entry = message_named _ some _ c.part-name.ensures.bytes _ c.is_same.ensures.answer c.if-is_same.true (Err _) (sym c.in_err-read_message.was ∙ c.read_message.ensures.entry) })

pub returns-then-is_same-2 : goal.returns-then-is_same-2
returns-then-is_same-2 c =
    let some : length c.args.line.now ≡ 0 → ⊥ = search (rules, tests) in
    record {
      entry = capacity_named _ some _ c.part-name.ensures.bytes _ c.is_same.ensures.answer _ c.is_same-2.ensures.answer c.if-is_same.false c.if-is_same-2.true (Ok _)
          c.in_ok-read_capacity.ensures.entry;
    }

pub returns-in_err-read_capacity : goal.returns-in_err-read_capacity
returns-in_err-read_capacity c =
    let some : length c.args.line.now ≡ 0 → ⊥ = search (rules, tests) in
    let p = err_from_is_err_and c.from_residual-in_err-read_capacity.result c.from_residual-in_err-read_capacity.ensures.1 in
    rw (p.1, p.2)
    (record {
      entry = capacity_named _ some _ c.part-name.ensures.bytes _ c.is_same.ensures.answer _ c.is_same-2.ensures.answer c.if-is_same.false c.if-is_same-2.true (Err _)
          (sym c.in_err-read_capacity.was ∙ c.read_capacity.ensures.entry);
    })

pub returns : goal.returns
returns c =
    let some : length c.args.line.now ≡ 0 → ⊥ = search (rules, tests) in
    record { entry = not_named _ some _ c.part-name.ensures.bytes _ c.is_same.ensures.answer _ c.is_same-2.ensures.answer c.if-is_same.false c.if-is_same-2.false }
