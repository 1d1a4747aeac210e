-- Document 01, "The terminal": one bit of a legality mask. Which mask is asked is the terminal's to say. Assumes nothing.
use Rattle.std.specs.Prelude.{ℕ, ◌/◌, ◌%◌, ◌^◌, Bool, eqb}

-- "bit n of the mask of a subaddress says that count code n is legal"
unfoldable pub mask_allows : ℕ → ℕ → Bool
mask_allows mask code = eqb (mask / 2 ^ code % 2) 1
