-- One law for each way out: what reading gives of the first 16 bytes it gives of all. Assumes nothing.
use mathlib.Core.Path.{◌∙◌}
use Rattle.records.proofs.Cases.{short, bad_length, bad_field, good}
use Rattle.records.proofs.Theorems.{front_long, front_read}
use Rattle.records.proofs.forms.read_record.Goals as goal

pub returns-in_default : goal.returns-in_default
returns-in_default c = record { read = short _ _ c.in_default.ensures.cases }

pub returns-then-length_in-ne-LENGTH : goal.returns-then-length_in-ne-LENGTH
returns-then-length_in-ne-LENGTH c =
    let front = c.in-Some.ensures.cases in
    record { read = bad_length _ _ (front_long _ _ front) c.length_in.ensures.number c.if-length_in-ne-LENGTH.true ∙ front_read _ _ front _ }

pub returns-then-not-in_range : goal.returns-then-not-in_range
returns-then-not-in_range c =
    let front = c.in-Some.ensures.cases in
    record {
      read = bad_field _ _ (front_long _ _ front) c.length_in.ensures.number c.if-length_in-ne-LENGTH.false c.spelled-record.ensures.record c.in_range.ensures.answer c.if-not-in_range.true
          ∙ front_read _ _ front _;
    }

pub returns : goal.returns
returns c =
    let front = c.in-Some.ensures.cases in
    record {
      read = good _ _ (front_long _ _ front) c.length_in.ensures.number c.if-length_in-ne-LENGTH.false c.spelled-record.ensures.record c.in_range.ensures.answer c.if-not-in_range.false
          ∙ front_read _ _ front _;
    }
