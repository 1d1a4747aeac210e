-- The parts of a line, which stand apart by spaces (01 Bench cards; 02 j). Assumes nothing.
use Rattle.std.specs.Prelude.{ℕ, suc, ◌+◌, ◌-◌, cond, ◌&&◌, List, [], ◌∷◌, leb, eqb, length, take, drop}

-- The bytes from a start to an end, none where these are no places of the text.
unfoldable pub between_of : List ℕ → ℕ → ℕ → List ℕ
between_of text start end = cond (leb start end && leb end (length text)) (take (end - start) (drop start text)) []

-- How many bytes stand before the first space: all where there is none.
unfoldable pub before_space : List ℕ → ℕ
before_space [] = 0
before_space (byte ∷ bytes) = cond (eqb byte 32) 0 (suc (before_space bytes))

-- The place of the first space from a start on, or the length of the text: where no space comes, or the start is past the text.
unfoldable pub part_end : List ℕ → ℕ → ℕ
part_end text start = cond (leb start (length text)) (start + before_space (drop start text)) (length text)
