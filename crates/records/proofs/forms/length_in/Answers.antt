-- The number of the first two bytes. Assumes nothing.
use mathlib.Core.Path.{◌∙◌}
use native.Mathlib.Omega.{arith}
use Rattle.records.proofs.Digits.{two_at}
use Rattle.records.proofs.forms.length_in.Goals as goal

pub returns : goal.returns
returns c = record { number = c.from_be_bytes.ensures ∙ two_at 0 c.args.form.now (omega arith) }
