-- What is the same as a text of at most 11 bytes has no more. Assumes nothing.
use mathlib.Core.Path.{sym, subst, ◌∙◌}
use native.Mathlib.Omega.{arith}
use Prim.Native.Nat.{ℕ, ◌≤◌}
use mathlib.Core.List.{List}
use lib.ListN.{length, length-take}
use Rattle.lines.proofs.Namings.{same_text_lem}
use Rattle.status.specs.Arguments.{wanted_most}
use Rattle.status.proofs.arguments.is_at.Goals as goal

pub returns : goal.returns
returns c =
    record {
      short = λ h.
          subst (λ (t : List ℕ). length t ≤ wanted_most) (same_text_lem _ _ (sym c.is_same.ensures.answer ∙ h))
          (omega (arith, length-take {A = ℕ} c.unwrap_or-length.result c.ask.new.text, c.ask.auto.text));
    }
