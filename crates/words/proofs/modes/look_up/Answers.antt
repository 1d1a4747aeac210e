-- The letter at the place of the T/R bit and the code is taken for its listing. Assumes nothing.
use mathlib.Core.Path.{◌≡◌}
use Prim.Native.Nat.{ℕ, ◌+◌, ◌*◌}
use native.Mathlib.Omega.{arith}
use lib.ListN.{get_or}
use Rattle.words.specs.Words.{transmit_of, count_of}
use Rattle.words.specs.Modes.{listing_of}
use Rattle.words.proofs.Table.{letters, read_as, table_right}
use Rattle.words.proofs.modes.look_up.Goals as goal

-- the letter that the code reads, and what it is taken for
taken : (word t c : ℕ) → t ≡ transmit_of word → c ≡ count_of word → read_as (get_or letters (t * 32 + c) 0) ≡ listing_of word
unfolding listing_of
taken word t c et ec = rw (et, ec) (table_right (transmit_of word) (count_of word) (omega arith) (omega arith))

pub returns-in-110 : goal.returns-in-110
unfolding read_as
returns-in-110 c = record { listing = rw (← taken _ _ _ c.transmit.ensures.field c.count.ensures.field, c.in-110.is) }

pub returns-in-98 : goal.returns-in-98
unfolding read_as
returns-in-98 c = record { listing = rw (← taken _ _ _ c.transmit.ensures.field c.count.ensures.field, c.in-98.is) }

pub returns-in-115 : goal.returns-in-115
unfolding read_as
returns-in-115 c = record { listing = rw (← taken _ _ _ c.transmit.ensures.field c.count.ensures.field, c.in-115.is) }

pub returns-in-114 : goal.returns-in-114
unfolding read_as
returns-in-114 c = record { listing = rw (← taken _ _ _ c.transmit.ensures.field c.count.ensures.field, c.in-114.is) }

pub returns-in_default : goal.returns-in_default
unfolding read_as
returns-in_default c =
    record {
      listing = rw (← taken _ _ _ c.transmit.ensures.field c.count.ensures.field) (grind arith);
    }
