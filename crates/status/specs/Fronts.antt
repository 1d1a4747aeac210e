-- The front of a call: whether the run's end is told, to which descriptor, and what is said of a wrong call (docs/LINES.md, "The status"; the form is the house's). What the
-- system hands out and takes no definition can say. Assumes nothing.
use Rattle.std.specs.Prelude.{ℕ, Bool, true, false, cond, List, leb, ℤ, pos, negsuc, Option, None, Some, Result, Ok, Err}
use Rattle.lines.specs.Numbers.{number_read}
use Rattle.status.specs.Statuses.{status_of}
use Rattle.status.specs.declared.statuses.Status.{Status}
use Rattle.status.specs.declared.statuses.Status.TheVariants.{Usage}
use Rattle.status.specs.declared.fronts.Front.{Front}

-- The number that a text spells, where the system could have such a descriptor.
abbrev pub descriptor_in : Option ℕ → Option ℤ
descriptor_in (Some n) = cond (leb n 2147483647) (Some (pos n)) None
descriptor_in None = None

abbrev pub descriptor_of : List ℕ → Option ℤ
descriptor_of text = descriptor_in (number_read text)

-- No descriptor is below 0.
abbrev pub is_number : ℤ → Bool
is_number (pos n) = true
is_number (negsuc n) = false

-- Where the end is told to a descriptor, the arguments begin behind `--status-fd N`; else they begin at the first.
abbrev pub front_of : Option ℤ → Front
front_of (Some fd) = record { fd = Some fd; first = 3 }
front_of None = record { fd = None; first = 1 }

-- The front of what was begun.
abbrev pub front_in : Result Front (Front × Status) → Front
front_in (Ok front) = front
front_in (Err over) = over.0

-- The usage that is asked for goes well or does not; one that is shown for a wrong call is the end of it, however that goes.
abbrev pub usage_of : Bool → Bool → Status
usage_of true well = status_of well
usage_of false well = Usage
