-- The parts of a line of a plan (docs/LINES.md, busplan FILE; 02 j). Assumes nothing.
use Rattle.std.specs.Prelude.{ℕ, suc, Bool, true, false, cond, not, ◌&&◌, ◌||◌, List, [], ◌∷◌, ◌++◌, length, ◌==◌, nat_lt}

-- ---- "`#` begins a comment, anywhere in a line."

unfoldable pub before_remark : List ℕ → List ℕ
before_remark [] = []
before_remark (byte ∷ bytes) = cond (byte == 35) [] (byte ∷ before_remark bytes)

-- ---- "A tab or a carriage return is no space"

-- A byte that is no sign.
abbrev pub is_control : ℕ → Bool
is_control byte = nat_lt byte 32 || byte == 127

unfoldable pub has_control : List ℕ → Bool
has_control [] = false
has_control (byte ∷ bytes) = is_control byte || has_control bytes

-- The bytes before the first one.
unfoldable pub before_control : List ℕ → List ℕ
before_control [] = []
before_control (byte ∷ bytes) = cond (is_control byte) [] (byte ∷ before_control bytes)

-- ---- "Parts of a line are one or more spaces apart."

-- The space that stands before the next part: none in front of the first.
abbrev pub apart : List ℕ → Bool → List ℕ
apart before spaced = cond (spaced && not (length before == 0)) (32 ∷ []) []

-- With one space between parts, none in front and none at the end: `before` stands so already, and a space came behind it or did not.
unfoldable pub tight_from : List ℕ → Bool → List ℕ → List ℕ
tight_from before spaced [] = before
tight_from before spaced (byte ∷ bytes) =
    cond (byte == 32) (tight_from before true bytes) (tight_from (before ++ (apart before spaced ++ (byte ∷ []))) false bytes)

abbrev pub tight : List ℕ → List ℕ
tight bytes = tight_from [] false bytes

-- The parts of such a text, the first of which begins with some bytes.
unfoldable pub split_from : List ℕ → List ℕ → List (List ℕ)
split_from part [] = part ∷ []
split_from part (byte ∷ bytes) = cond (byte == 32) (part ∷ split_from [] bytes) (split_from (part ++ (byte ∷ [])) bytes)

-- A text of no byte has no part.
unfoldable pub parts_of : List ℕ → List (List ℕ)
parts_of text = cond (length text == 0) [] (split_from [] text)

-- ---- as the code finds them

-- How many parts stand behind the first.
unfoldable pub parts_behind : List ℕ → ℕ
parts_behind [] = 0
parts_behind (byte ∷ bytes) = cond (byte == 32) (suc (parts_behind bytes)) (parts_behind bytes)
