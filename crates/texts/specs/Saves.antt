-- docs/LINES.md, "bussave DAMAGED CLEAN": its lines (02 c). Assumes nothing.
use Rattle.std.specs.Prelude.{ℕ, cond, List, [], ◌++◌, eqb}
use Rattle.salvage.specs.Machine.{is_changed}
use Rattle.salvage.specs.declared.salvages.First.{First}
use Rattle.salvage.specs.declared.salvages.Run.{Run}
use Rattle.salvage.specs.declared.salvages.Totals.{Totals}
use Rattle.lines.specs.Spells.{text_of, number_text}
use Rattle.texts.specs.Entries.{line_of}

-- "`skip`: a run of bytes that are skipped ... `byte` is the place of the first in DAMAGED, counted from 0.": "skip byte=113 length=25"
abbrev pub run_text : Run → List ℕ
run_text run = number_text (text_of "skip byte=") run.place ++ number_text (text_of " length=") run.length

-- A run without a byte is none, and has no line.
unfoldable pub run_line : Run → List ℕ
run_line run = cond (eqb run.length 0) [] (line_of (run_text run))

-- "`first=changed` where the first byte of DAMAGED was not 1 or is missing, else `first=kept`"
unfoldable pub first_text : First → List ℕ
first_text first = cond (is_changed first) (text_of "changed") (text_of "kept")

-- "`records` that CLEAN has; bytes `skipped`; `bytes` of DAMAGED.": "# end first=kept records=26 skipped=49 bytes=466"
abbrev pub save_end_text : Totals → List ℕ
save_end_text t =
    text_of "# end first="
    ++ (first_text t.first
    ++ (number_text (text_of " records=") t.records ++ (number_text (text_of " skipped=") t.skipped ++ number_text (text_of " bytes=") t.bytes)))
