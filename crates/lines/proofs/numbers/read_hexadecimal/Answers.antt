-- Each answer has the law of the tests before it; what a digit more gives says whether it goes on. Assumes nothing.
use Prim.Native.Nat.{◌<◌}
use mathlib.Core.Path.{◌≡◌}
use native.Mathlib.Omega.{arith}
use Rattle.std.proofs.Common.{rules}
use Rattle.lines.proofs.Hexadecimals.{none_other, none_zero, none_many, value_below, so_far_fits, so_far_more, hexadecimal_stopped, hexadecimal_turned, hexadecimal_ended}
use Rattle.lines.proofs.numbers.read_hexadecimal.Goals as goal
use Rattle.lines.proofs.numbers.read_hexadecimal.Goals.{then-text-digits-via-then-text-digits, then-text-digits-via-else-text-digits+then-digits-eq0, then-text-digits-via-else-text-digits+else-digits-eq0+then-digits-gt-HEXADECIMAL_MOST}

pub returns-then-text-digits : goal.returns-then-text-digits
returns-then-text-digits c =
    elim c.then-text-digits.branch [
      | then-text-digits-via-then-text-digits w ↦ record { number = search (none_other, rules) }
      | then-text-digits-via-else-text-digits+then-digits-eq0 w ↦ record { number = search (none_zero, rules) }
      | then-text-digits-via-else-text-digits+else-digits-eq0+then-digits-gt-HEXADECIMAL_MOST w ↦ record { number = search (none_many, rules) }
    ]

pub overflow_mul-value : goal.overflow_mul-value
overflow_mul-value c = omega (arith, so_far_fits _ _ c.loop-byte.invariant.0 (omega arith))

pub returns-in_err-digit : goal.returns-in_err-digit
returns-in_err-digit c = record { number = search (hexadecimal_stopped, rules) }

pub overflow_add-value : goal.overflow_add-value
overflow_add-value c =
    let below : c.in_ok-digit.digit < 16 = search (value_below, rules) in
    omega (arith, so_far_fits _ _ c.loop-byte.invariant.0 (omega arith), c.from.ensures)

pub loop-byte-preserved : goal.loop-byte-preserved
loop-byte-preserved c =
    let below : c.in_ok-digit.digit < 16 = search (value_below, rules) in
    let same : c.from.result ≡ c.in_ok-digit.digit = search rules in
    rw same (
      so_far_more _ _ c.loop-byte.invariant.0 _ below,
      hexadecimal_turned _ _ _ _ c.loop-byte.invariant.1 c.loop-byte-test.true c.in_ok-digit.ensures.value,
    )

pub returns : goal.returns
returns c = record { number = search (hexadecimal_ended, rules) }
