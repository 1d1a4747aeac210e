-- Names of files and other arguments: whether one is a wanted text, and what waits in a sink after one was put (02 a, c, j; the form is the house's). Assumes nothing.
use Rattle.std.specs.Prelude.{ℕ, Bool, true, false, cond, ◌&&◌, ◌||◌, List, [], ◌∷◌, ◌++◌, ltb, eqb, length}
use Rattle.lines.specs.Sinks.{place_after, block_after, goes_out}

-- Whether two texts have the same bytes.
unfoldable pub same_text : List ℕ → List ℕ → Bool
same_text [] [] = true
same_text [] (want ∷ wants) = false
same_text (byte ∷ bytes) [] = false
same_text (byte ∷ bytes) (want ∷ wants) = eqb byte want && same_text bytes wants

-- A dash alone.
abbrev pub dash_text : List ℕ
dash_text = 45 ∷ []

-- ---- as they are shown

-- A byte of a name as it is shown: a question mark for a control character.
unfoldable pub shown_of : ℕ → ℕ
shown_of byte = cond (ltb byte 32 || eqb byte 127) 63 byte

-- Its bytes, each as it is shown.
unfoldable pub shown_name : List ℕ → List ℕ
shown_name [] = []
shown_name (byte ∷ bytes) = shown_of byte ∷ shown_name bytes

-- A name is put byte by byte: the place behind it.
unfoldable pub place_after_name : ℕ → List ℕ → ℕ
place_after_name at [] = at
place_after_name at (byte ∷ bytes) = place_after_name (place_after at 1) bytes

-- The block with its bytes, each as it is shown, where they wait.
unfoldable pub block_after_name : List ℕ → ℕ → List ℕ → List ℕ
block_after_name block at [] = block
block_after_name block at (byte ∷ bytes) = block_after_name (block_after block at (shown_of byte ∷ [])) (place_after at 1) bytes

-- What goes out with it, in this order, where no write fails (as `goes_out` of a text).
unfoldable pub goes_out_name : List ℕ → ℕ → List ℕ → List ℕ
goes_out_name block at [] = []
goes_out_name block at (byte ∷ bytes) =
    goes_out block at (shown_of byte ∷ []) ++ goes_out_name (block_after block at (shown_of byte ∷ [])) (place_after at 1) bytes

-- ---- a line that ends in a name

-- The place behind a text, then a name.
unfoldable pub place_before : ℕ → List ℕ → List ℕ → ℕ
place_before at begin name = place_after_name (place_after at (length begin)) name

-- The place behind both and the end of the line.
unfoldable pub place_after_named : ℕ → List ℕ → List ℕ → ℕ
place_after_named at begin name = place_after (place_before at begin name) 1

-- The block with them where they wait.
unfoldable pub block_after_named : List ℕ → ℕ → List ℕ → List ℕ → List ℕ
block_after_named block at begin name =
    block_after (block_after_name (block_after block at begin) (place_after at (length begin)) name) (place_before at begin name) (10 ∷ [])

-- "# error ", with which the line of a file that failed begins.
abbrev pub error_text : List ℕ
error_text = 35 ∷ 32 ∷ 101 ∷ 114 ∷ 114 ∷ 111 ∷ 114 ∷ 32 ∷ []

-- ---- a sentence on standard error

-- What stands between the program and the name.
abbrev pub colon_text : List ℕ
colon_text = 58 ∷ 32 ∷ []

-- The place behind the program and that.
unfoldable pub place_behind_program : ℕ → List ℕ → ℕ
place_behind_program at program = place_after (place_after at (length program)) 2

-- The place behind "PROGRAM: NAME".
unfoldable pub place_after_sentence : ℕ → List ℕ → List ℕ → ℕ
place_after_sentence at program name = place_after_name (place_behind_program at program) name

-- The block with it where it waits.
unfoldable pub block_after_sentence : List ℕ → ℕ → List ℕ → List ℕ → List ℕ
block_after_sentence block at program name =
    block_after_name (block_after (block_after block at program) (place_after at (length program)) colon_text) (place_behind_program at program) name
