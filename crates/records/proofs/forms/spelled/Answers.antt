-- Each field is the number that its bytes spell. Assumes nothing.
use mathlib.Core.Path.{◌∙◌}
use native.Mathlib.Omega.{arith}
use Rattle.records.proofs.Digits.{two_at, eight_at}
use Rattle.records.proofs.forms.spelled.Goals as goal

pub returns : goal.returns
returns c =
    record {
      «record» = let bytes = c.args.form.now in
          rw (c.from_be_bytes.ensures ∙ eight_at 2 bytes (omega arith), c.from_be_bytes-2.ensures ∙ two_at 13 bytes (omega arith));
    }
