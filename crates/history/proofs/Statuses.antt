-- A flag changes neither the address of a status nor its spare bits. Assumes nothing.
use mathlib.Core.Path.{◌≡◌}
use Prim.Native.Nat.{ℕ, ◌/◌, ◌^◌}
use native.Mathlib.Omega.{arith}
use lib.Bits.{or_shr, or_mod, or_zero_r}
use Rattle.words.specs.Words.{field_of, address_of, bit_of, with_flag, has_no_other}
use Rattle.words.specs.declared.statuses.Flag.{Flag}
use Rattle.words.specs.declared.statuses.Flag.TheVariants.{MessageError, ServiceRequest, BroadcastReceived, Busy, Subsystem, Terminal}
use Rattle.words.proofs.Flags.{flag_set}

-- a field in which the flag has no bit stays
field_kept : (flag : Flag) (word place width : ℕ) → field_of place width (bit_of flag) ≡ 0
    → field_of place width (with_flag flag word) ≡ field_of place width word
field_kept flag word place width none =
    rw (← flag_set flag word, or_shr word (bit_of flag) place, or_mod (word / 2 ^ place) (bit_of flag / 2 ^ place) width, none, or_zero_r)

-- a word has 0 for its address and at its spare bits
record Clear (word : ℕ) : Type 0 where
  address : field_of 11 5 word ≡ 0
  high : field_of 9 1 word ≡ 0
  middle : field_of 5 3 word ≡ 0
  low : field_of 1 1 word ≡ 0

-- every flag has
flag_clear : (flag : Flag) → Clear (bit_of flag)
flag_clear MessageError = omega arith
flag_clear ServiceRequest = omega arith
flag_clear BroadcastReceived = omega arith
flag_clear Busy = omega arith
flag_clear Subsystem = omega arith
flag_clear Terminal = omega arith

-- so a word with a flag has the address and the spare bits that it had
module _ (flag : Flag) (word : ℕ) where
  pub address_kept : address_of (with_flag flag word) ≡ address_of word
  address_kept = field_kept flag word 11 5 (flag_clear flag).address

  pub spare_kept : has_no_other (with_flag flag word) ≡ has_no_other word
  spare_kept =
      let c = flag_clear flag in
      rw (field_kept flag word 9 1 c.high, field_kept flag word 5 3 c.middle, field_kept flag word 1 1 c.low)
