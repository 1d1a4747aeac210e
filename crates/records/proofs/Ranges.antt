-- Laws of the range of a record, for any last bus. Assumes nothing.
use mathlib.Core.Path.{◌≡◌}
use mathlib.Core.Bool.{true, ◌&&◌}
use Prim.Native.Nat.{ℕ, ◌^◌, ◌<◌, ◌≤◌}
use lib.Dec.{leb}
use borrow.Author.Tests.{ltb-true, leb-true, lt-ltb, le-leb}
use Rattle.words.specs.Words.{on_clock}
use Rattle.std.proofs.lemmas.Bool.{and_parts}
use Rattle.records.specs.Records.{in_range}
use Rattle.records.specs.declared.forms.WordRecord.{WordRecord}

-- what a record in range shows of its time and of each field
pub record Ranged (last : ℕ) (r : WordRecord) : Type 0 where
  pub time : r.time.0 < 2 ^ 48
  pub bus : r.bus ≤ last
  pub sync : r.sync ≤ 2
  pub faults : r.faults ≤ 3
  pub parity : r.parity ≤ 1

pub in_range_all : (last : ℕ) (r : WordRecord) → in_range last r ≡ true → Ranged last r
in_range_all last r h =
    let clock = on_clock r.time.0 in
    let to-parity = and_parts (clock && leb r.bus last && leb r.sync 2 && leb r.faults 3) (leb r.parity 1) h in
    let to-faults = and_parts (clock && leb r.bus last && leb r.sync 2) (leb r.faults 3) to-parity.0 in
    let to-sync = and_parts (clock && leb r.bus last) (leb r.sync 2) to-faults.0 in
    let to-bus = and_parts clock (leb r.bus last) to-sync.0 in
    record {
      time = ltb-true r.time.0 (2 ^ 48) to-bus.0;
      bus = leb-true r.bus last to-bus.1;
      sync = leb-true r.sync 2 to-sync.1;
      faults = leb-true r.faults 3 to-faults.1;
      parity = leb-true r.parity 1 to-parity.1;
    }

pub in_range_time : (last : ℕ) (r : WordRecord) → in_range last r ≡ true → r.time.0 < 2 ^ 48
in_range_time last r h = (in_range_all last r h).time

pub in_range_bus : (last : ℕ) (r : WordRecord) → in_range last r ≡ true → r.bus ≤ last
in_range_bus last r h = (in_range_all last r h).bus

-- and a record of which all this holds is in range
pub ranged_in : (last : ℕ) (r : WordRecord) → Ranged last r → in_range last r ≡ true
ranged_in last r fits =
    rw (lt-ltb _ _ fits.time, le-leb _ _ fits.bus, le-leb _ _ fits.sync, le-leb _ _ fits.faults, le-leb _ _ fits.parity)
