-- A wrapped number is the one that its number makes. Assumes nothing.
use mathlib.Core.Path.{◌≡◌, ap}
use Prim.Native.Nat.{ℕ}
use Rattle.words.specs.declared.statuses.StatusWord.{StatusWord}
use Rattle.words.specs.declared.times.Moment.{Moment}

pub status_is_lem : (s : StatusWord) (n : ℕ) → s.0 ≡ n → s ≡ record { 0 = n }
status_is_lem s n h = ap {B = StatusWord} (λ (k : ℕ). record { 0 = k }) h

pub moment_is : (m : Moment) (n : ℕ) → m.0 ≡ n → m ≡ record { 0 = n }
moment_is m n h = ap {B = Moment} (λ (k : ℕ). record { 0 = k }) h
