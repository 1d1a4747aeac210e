-- Laws of the derived order of moments and of lengths of time: what `<` and `<=` answer is the test of their numbers. Assumes nothing.
use Rattle.std.proofs.Common.{◌≡◌, ℕ, is_lt, is_le, nat_cmp, arith}
use Rattle.std.specs.Prelude.{ltb, leb}
use Rattle.std.proofs.lemmas.Bool.Decides.{nat_tests}

pub lt_test : (a b : ℕ) → is_lt (nat_cmp a b) ≡ ltb a b
lt_test a b = grind (arith, nat_tests)

pub le_test : (a b : ℕ) → is_le (nat_cmp a b) ≡ leb a b
le_test a b = grind (arith, nat_tests)
