-- Document 01, "The terminal": what a command is to the terminal. Assumes nothing.
use Rattle.std.specs.Prelude.{ℕ, Bool, not, cond, ◌&&◌, ◌||◌, eqb, get_or}
use Rattle.words.specs.Words.{address_of, subaddress_of, count_of, code_of, is_transmit, is_mode, is_broadcast, is_valid, command_sync}
use Rattle.words.specs.Modes.{is_allowed}
use Rattle.words.specs.Masks.{mask_allows}
use Rattle.records.specs.declared.forms.WordRecord.{WordRecord}
use Rattle.terminal.specs.declared.states.Own.{Own}
use Rattle.terminal.specs.declared.states.Setup.{Setup}

-- "A word is valid if .." (01 Time and words), of a record.
abbrev pub is_valid_record : WordRecord → Bool
is_valid_record r = is_valid r.sync r.faults r.word r.parity

-- ""Own command" means a valid word with command sync to the own address or 31."
unfoldable pub is_own : Own → WordRecord → Bool
is_own own r = is_valid_record r && eqb r.sync command_sync && (eqb (address_of r.word) own.address || is_broadcast r.word)

-- "Transmit status word and transmit last command (to the own address)": the two exempt commands, whatever a mask says (DECISIONS 2).
-- (003 7.3.3.5.4, 002 2.6.5)
unfoldable pub is_exempt : Own → ℕ → Bool
is_exempt own word = eqb (address_of word) own.address && is_transmit word && is_mode word && (eqb (code_of word) 2 || eqb (code_of word) 18)

-- "two tables of 32 masks: bit n of the mask of a subaddress says that count code n is legal, one table for receive (broadcast too), one for
-- transmit"
unfoldable pub mask_of : Setup → ℕ → ℕ
mask_of setup word = cond (is_transmit word) (get_or setup.transmit (subaddress_of word) 0) (get_or setup.receive (subaddress_of word) 0)

-- "The terminal holds 20 and 21 and everything reserved illegal." (01 Mode codes); "a mode command that the code table does not allow" is
-- illegal too, as one to 31 that may not be broadcast.
unfoldable pub is_held_illegal : ℕ → Bool
is_held_illegal word = eqb (code_of word) 20 || eqb (code_of word) 21 || not (is_allowed word)

-- By the mask, mode commands too (DECISIONS 1), and: "A broadcast transmit that is no mode command is illegal, as is a mode command that the
-- code table does not allow." (003 7.4.3.4, 002 3.6)
unfoldable pub is_legal : Setup → ℕ → Bool
is_legal setup word =
    mask_allows (mask_of setup word) (count_of word)
    && not (cond (is_mode word) (is_held_illegal word) (is_transmit word && is_broadcast word))
