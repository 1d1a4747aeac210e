-- How a tool's run ended (docs/LINES.md, "The status"; the form is the house's). Assumes nothing.
use Rattle.std.specs.Prelude.{ℕ, Bool, true, false}
use Rattle.status.specs.declared.statuses.Status.{Status}
use Rattle.status.specs.declared.statuses.Status.TheVariants.{Good, Failed, Usage}

-- "0 where all is well, 1 where the tool says refused, rejected, none or error or could not write, 2 where it was called wrongly": the digits 0, 1 and 2 as bytes
abbrev pub digit_of : Status → ℕ
digit_of Good = 48
digit_of Failed = 49
digit_of Usage = 50

-- A run, or a part of it, that went well or did not.
abbrev pub status_of : Bool → Status
status_of true = Good
status_of false = Failed

-- Two parts, one after the other: the first that went wrong is that of both.
abbrev pub worse_of : Status → Status → Status
worse_of Good next = next
worse_of Failed next = Failed
worse_of Usage next = Usage
