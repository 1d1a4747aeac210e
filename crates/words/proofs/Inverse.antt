-- Taking words apart and putting them together are inverse, both ways. Assumes nothing.
use mathlib.Core.Path.{◌≡◌, sym, ap, ◌∙◌}
use mathlib.Core.Bool.{true, ◌&&◌}
use Prim.Native.Nat.{ℕ, ◌+◌, ◌*◌, ◌/◌, ◌%◌, ◌^◌, ◌<◌}
use native.Mathlib.Nat.{zero-mul, mod-lt, mod-eq_of_lt}
use native.Mathlib.Omega.{arith}
use lib.Dec.{eqb}
use lib.Pow.{pow_pos, mod-pow-add}
use borrow.Author.Tests.{eqb-true}
use Rattle.words.specs.Words.{field_of, placed_of, address_of, kept_of, flags_of, has_no_other}
use Rattle.words.specs.Theorems.{Gaps, FieldsBuilt, BuiltFields, StatusFieldsBuilt, StatusBuiltFields}
use Rattle.words.specs.declared.statuses.Flag.TheVariants.{MessageError, ServiceRequest, BroadcastReceived, Busy, Subsystem, Terminal}
use Rattle.std.proofs.lemmas.Bool.{and_parts}

pub gaps : Gaps
gaps moment = (omega arith, omega arith, omega arith)

-- ---- command words

pub fields_built : FieldsBuilt
fields_built a t s n ha ht hs hn = (omega arith, omega arith, omega arith, omega arith)

-- a field put back where it was
placed_field : (place width word : ℕ) → placed_of place width (field_of place width word) ≡ field_of place width word * 2 ^ place
placed_field place width word = ap (λ (x : ℕ). x * 2 ^ place) (mod-eq_of_lt (mod-lt (word / 2 ^ place) (pow_pos width)))

-- what is left below each field, from the highest
fields_sum : (w r11 r10 r5 r0 a t s n : ℕ) → w ≡ a + r11 → r11 ≡ t + r10 → r10 ≡ s + r5 → r5 ≡ n + r0 → r0 ≡ 0 → a + t + s + n ≡ w
fields_sum w r11 r10 r5 r0 a t s n e11 e10 e5 e0 z = omega arith

pub built_fields : BuiltFields
built_fields word h =
    rw (placed_field 11 5 word, placed_field 10 1 word, placed_field 5 5 word, placed_field 0 5 word)
    (fields_sum
    word
    (word % 2 ^ 11)
    (word % 2 ^ 10)
    (word % 2 ^ 5)
    (word % 2 ^ 0)
    (field_of 11 5 word * 2 ^ 11)
    (field_of 10 1 word * 2 ^ 10)
    (field_of 5 5 word * 2 ^ 5)
    (field_of 0 5 word * 2 ^ 0)
    (sym (mod-eq_of_lt h) ∙ mod-pow-add word 5 11)
    (mod-pow-add word 1 10)
    (mod-pow-add word 5 5)
    (mod-pow-add word 5 0)
    (omega arith))

-- ---- status words

-- the word has that address and those flags, and 0 at its other bits
record Parts (address flags word : ℕ) : Type 0 where
  address_is : address < 32 → address_of word ≡ address
  flags_are : flags_of word ≡ flags
  no_other : has_no_other word ≡ true

-- the six flags, each a number, so that each place is one step of arithmetic
six : ℕ → ℕ → ℕ → ℕ → ℕ → ℕ → ℕ
six e s b y u t = e * 0x0400 + s * 0x0100 + b * 0x0010 + y * 0x0008 + u * 0x0004 + t * 0x0001

module _ (a e s b y u t : ℕ) (he : e < 2) (hs : s < 2) (hb : b < 2) (hy : y < 2) (hu : u < 2) (ht : t < 2) where
  six_flags : flags_of (a * 2 ^ 11 + six e s b y u t) ≡ six e s b y u t
  unfolding six
  six_flags =
      let w = a * 2 ^ 11 + six e s b y u t in
      let at_e : w / 0x0400 % 2 ≡ e = omega arith in
      let at_s : w / 0x0100 % 2 ≡ s = omega arith in
      let at_b : w / 0x0010 % 2 ≡ b = omega arith in
      let at_y : w / 0x0008 % 2 ≡ y = omega arith in
      let at_u : w / 0x0004 % 2 ≡ u = omega arith in
      let at_t : w / 0x0001 % 2 ≡ t = omega arith in
      rw (at_e, at_s, at_b, at_y, at_u, at_t)

  six_no_other : has_no_other (a * 2 ^ 11 + six e s b y u t) ≡ true
  unfolding six
  six_no_other =
      let w = a * 2 ^ 11 + six e s b y u t in
      let at_9 : field_of 9 1 w ≡ 0 = omega arith in
      let at_5 : field_of 5 3 w ≡ 0 = omega arith in
      let at_1 : field_of 1 1 w ≡ 0 = omega arith in
      rw (at_9, at_5, at_1)

  six_parts : Parts a (six e s b y u t) (a * 2 ^ 11 + six e s b y u t)
  unfolding six
  six_parts = record { address_is = λ h. omega arith; flags_are = six_flags; no_other = six_no_other }

bit_lt : (p word : ℕ) → word / p % 2 < 2
bit_lt p word = mod-lt (word / p) (pow_pos 1)

status_parts : (address flags : ℕ) → Parts address (flags_of flags) (address * 2 ^ 11 + flags_of flags)
unfolding six
status_parts address f =
    six_parts
    address
    (f / 0x0400 % 2)
    (f / 0x0100 % 2)
    (f / 0x0010 % 2)
    (f / 0x0008 % 2)
    (f / 0x0004 % 2)
    (f / 0x0001 % 2)
    (bit_lt 0x0400 f)
    (bit_lt 0x0100 f)
    (bit_lt 0x0010 f)
    (bit_lt 0x0008 f)
    (bit_lt 0x0004 f)
    (bit_lt 0x0001 f)

pub status_fields_built : StatusFieldsBuilt
status_fields_built address flags h =
    let parts = status_parts address flags in
    rw (mod-eq_of_lt {n = address} {m = 32} h) (parts.address_is h, parts.flags_are, parts.no_other)

-- what is left below each field, from the highest; those at 9, 5 and 1 are 0
status_sum :
    (w r11 r10 r9 r8 r5 r4 r3 r2 r1 r0 a e i s v b y u c t : ℕ)
    → w ≡ a + r11 → r11 ≡ e + r10 → r10 ≡ i + r9 → r9 ≡ s + r8 → r8 ≡ v + r5 → r5 ≡ b + r4 → r4 ≡ y + r3 → r3 ≡ u + r2 → r2 ≡ c + r1
    → r1 ≡ t + r0 → r0 ≡ 0 → i ≡ 0 → v ≡ 0 → c ≡ 0 → a + (e + s + b + y + u + t) ≡ w
status_sum w r11 r10 r9 r8 r5 r4 r3 r2 r1 r0 a e i s v b y u c t h11 h10 h9 h8 h5 h4 h3 h2 h1 h0 z hi hv hc = omega arith

pub status_built_fields : StatusBuiltFields
status_built_fields word h other =
    let flags_again : flags_of (flags_of word) ≡ flags_of word = ap flags_of (omega arith) ∙ (status_parts 0 word).flags_are in
    let outer = and_parts (eqb (field_of 9 1 word) 0 && eqb (field_of 5 3 word) 0) (eqb (field_of 1 1 word) 0) other in
    let inner = and_parts (eqb (field_of 9 1 word) 0) (eqb (field_of 5 3 word) 0) outer.0 in
    let none : (k j : ℕ) → eqb (field_of k j word) 0 ≡ true → field_of k j word * 2 ^ k ≡ 0 =
    λ k j e. ap (λ (x : ℕ). x * 2 ^ k) (eqb-true (field_of k j word) 0 e) ∙ zero-mul (2 ^ k) in
    rw (placed_field 11 5 word, flags_again)
    (status_sum
    word
    (word % 2 ^ 11)
    (word % 2 ^ 10)
    (word % 2 ^ 9)
    (word % 2 ^ 8)
    (word % 2 ^ 5)
    (word % 2 ^ 4)
    (word % 2 ^ 3)
    (word % 2 ^ 2)
    (word % 2 ^ 1)
    (word % 2 ^ 0)
    (address_of word * 2 ^ 11)
    (kept_of MessageError word)
    (field_of 9 1 word * 2 ^ 9)
    (kept_of ServiceRequest word)
    (field_of 5 3 word * 2 ^ 5)
    (kept_of BroadcastReceived word)
    (kept_of Busy word)
    (kept_of Subsystem word)
    (field_of 1 1 word * 2 ^ 1)
    (kept_of Terminal word)
    (sym (mod-eq_of_lt h) ∙ mod-pow-add word 5 11)
    (mod-pow-add word 1 10)
    (mod-pow-add word 1 9)
    (mod-pow-add word 1 8)
    (mod-pow-add word 3 5)
    (mod-pow-add word 1 4)
    (mod-pow-add word 1 3)
    (mod-pow-add word 1 2)
    (mod-pow-add word 1 1)
    (mod-pow-add word 1 0)
    (omega arith)
    (none 9 1 inner.0)
    (none 5 3 inner.1)
    (none 1 1 outer.1))
