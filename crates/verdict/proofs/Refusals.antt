-- What is not refused. Assumes nothing.
use mathlib.Core.Path.{◌≡◌, refl}
use Prim.Native.Nat.{◌^◌, ◌≤◌, ◌<◌}
use mathlib.Core.Bool.{true}
use native.Mathlib.Omega.{arith}
use borrow.Author.Tests.{le-leb, lt-ltb}
use Rattle.std.specs.Prelude.{⊤, Result, Ok, Err}
use Rattle.words.specs.Refusals.{not_refused}
use Rattle.words.specs.declared.refusals.Refusal.{Refusal}
use Rattle.words.specs.declared.refusals.Refusal.TheVariants.{TableSize, OwnAddress, ShortRecord, RecordLength, OutOfRange, OutOfOrder, ImpossiblePlan, WrongVersion, NoRoom, Schedule}
use Rattle.records.specs.Records.{last_bus, refusal_of}
use Rattle.verdict.specs.Plans.{is_possible, plan_checks, plan_refusal}
use Rattle.verdict.specs.declared.plans.Plan.{Plan}

-- a check that has no number passed
pub not_refused_ok : (c : Result ⊤ Refusal) → refusal_of c ≡ not_refused → c ≡ Ok tt
not_refused_ok (Ok _) h = refl
not_refused_ok (Err TableSize) h = absurd (omega arith)
not_refused_ok (Err OwnAddress) h = absurd (omega arith)
not_refused_ok (Err ShortRecord) h = absurd (omega arith)
not_refused_ok (Err RecordLength) h = absurd (omega arith)
not_refused_ok (Err OutOfRange) h = absurd (omega arith)
not_refused_ok (Err OutOfOrder) h = absurd (omega arith)
not_refused_ok (Err ImpossiblePlan) h = absurd (omega arith)
not_refused_ok (Err WrongVersion) h = absurd (omega arith)
not_refused_ok (Err NoRoom) h = absurd (omega arith)
not_refused_ok (Err Schedule) h = absurd (omega arith)

pub plan_accepted : (plan : Plan) → is_possible plan ≡ true → plan.bus ≤ last_bus → plan.last.0 ≤ plan.until.0 → plan.until.0 < 2 ^ 48
    → plan_refusal plan ≡ not_refused
unfolding plan_checks
plan_accepted plan possible bus order clock =
    rw (possible, le-leb plan.bus last_bus bus, lt-ltb plan.last.0 (2 ^ 48) (omega arith), lt-ltb plan.until.0 (2 ^ 48) clock, le-leb plan.last.0 plan.until.0 order)
