-- Counts, as the machines that read a file keep them (house). Assumes nothing.
use Rattle.std.specs.Prelude.{ℕ, ◌+◌, ◌%◌, ◌^◌}

-- A sum in 64 bits: exact for every file of fewer than 2^64 bytes.
abbrev pub sum64 : ℕ → ℕ → ℕ
sum64 a b = (a + b) % 2 ^ 64
