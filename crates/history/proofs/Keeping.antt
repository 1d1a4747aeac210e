-- What a fault keeps of what is held, beside the mark. Assumes nothing.
use mathlib.Core.Path.{◌≡◌, refl}
use mathlib.Core.Bool.{Bool, true, false}
use Rattle.terminal.specs.States.{with_spacing}
use Rattle.terminal.specs.Rules.{kept_by}
use Rattle.terminal.specs.declared.states.SpacingFault.{SpacingFault}
use Rattle.terminal.specs.declared.states.SpacingFault.TheVariants.{Overlapping, Separated}
use Rattle.terminal.specs.declared.states.Held.{Held}
use Rattle.std.specs.Prelude.{Option, Some, None}

-- all but the kind
pub kept_same : {A : Type 0} (part : Held → A) → ((h : Held) (overlapping separated : Bool) → part (with_spacing h overlapping separated) ≡ part h)
    → (h : Held) (kind : Option SpacingFault)
    → part (kept_by h kind) ≡ part h
kept_same part same h None = refl
kept_same part same h (Some Overlapping) = same h true false
kept_same part same h (Some Separated) = same h false true
