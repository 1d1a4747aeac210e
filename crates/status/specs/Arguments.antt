-- Arguments that all tools read alike (docs/LINES.md; the form is the house's). Which ones there are the system hands out, and no definition can say. Assumes nothing.
use Rattle.std.specs.Prelude.{ℕ, ◌-◌, Bool, cond, ◌&&◌, ◌||◌, List, [], ◌∷◌, leb, eqb, length, get_or}
use Rattle.lines.specs.Names.{same_text}

-- The bytes of the longest text that an argument is held to: "--status-fd".
abbrev pub wanted_most : ℕ
wanted_most = 11

-- "--help"
abbrev pub help_text : List ℕ
help_text = 45 ∷ 45 ∷ 104 ∷ 101 ∷ 108 ∷ 112 ∷ []

-- "-h"
abbrev pub short_text : List ℕ
short_text = 45 ∷ 104 ∷ []

-- Either asks for help.
abbrev pub is_help : List ℕ → Bool
is_help text = same_text text help_text || same_text text short_text

-- A dash, and more behind it: no name, unless it stands behind `--`.
abbrev pub is_option : List ℕ → Bool
is_option text = leb 2 (length text) && eqb (get_or text 0 0) 45

-- The number of the argument at a place as it was typed: where `--status-fd N` stands in front of all others, those two are not counted.
abbrev pub typed_of : Bool → ℕ → ℕ
typed_of told place = cond (told && leb 3 place) (place - 2) place
