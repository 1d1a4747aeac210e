-- A message comes in the frames whose remainder by its period is its first frame, so once in a period. Assumes nothing.
use mathlib.Core.Path.{◌≡◌, refl, sym, ap, ◌∙◌}
use mathlib.Core.Bool.{Bool, true, false, ◌&&◌}
use mathlib.Core.Logic.{dite}
use Prim.Native.Nat.{ℕ, suc, ◌+◌, ◌-◌, ◌*◌, ◌/◌, ◌%◌, ◌≤◌, ◌<◌}
use native.Mathlib.Omega.{arith}
use native.Mathlib.Decide.{dec_le}
use native.Mathlib.Nat.{mod-lt, mod-eq_of_lt, div-add-mod', mul-add-mod_self_right, mul-mod_left, mul-le-mul_right, suc-mul}
use lib.Dec.{eqb, leb}
use borrow.Author.Tests.{le-leb, lt-leb, eqb-true, eqb-false, eq-eqb, ne_eqb}
use Rattle.schedule.specs.Frames.{comes_in}
use Rattle.schedule.specs.Theorems.{ComesByRemainder, OnceAPeriod}

-- two tests of numbers that pass together are the same test
eqb_same : (a b c d : ℕ) → (a ≡ b → c ≡ d) → (c ≡ d → a ≡ b) → eqb a b ≡ eqb c d
eqb_same a b c d there back = go (eqb a b) refl
  where
    go : (t : Bool) → eqb a b ≡ t → t ≡ eqb c d
    go true e = sym (eq-eqb c d (there (eqb-true a b e)))
    go false e = sym (ne_eqb c d (λ same. eqb-false a b e (back same)))

-- ---- the frames of a message, by its period and its first frame

module _ (period first : ℕ) (h : first < period) where
  -- so many whole periods behind the first frame, the remainder is the first frame
  leaves : (n q : ℕ) → n ≡ q * period + first → n % period ≡ first
  leaves n q e = rw (e, mul-add-mod_self_right q period first) (mod-eq_of_lt h)

  from_first : (frame : ℕ) → first ≤ frame → (frame - first) % period ≡ 0 → frame % period ≡ first
  from_first frame k e = leaves frame ((frame - first) / period) (omega (arith, div-add-mod' (frame - first) period))

  to_first : (frame : ℕ) → first ≤ frame → frame % period ≡ first → (frame - first) % period ≡ 0
  to_first frame k e =
      let whole : frame - first ≡ frame / period * period = omega (arith, div-add-mod' frame period) in
      rw whole (mul-mod_left (frame / period) period)

  by_remainder : (frame : ℕ) → (leb first frame && eqb ((frame - first) % period) 0) ≡ eqb (frame % period) first
  by_remainder frame =
      dite (dec_le first frame)
      (λ k. rw (le-leb first frame k) (eqb_same ((frame - first) % period) 0 (frame % period) first (from_first frame k) (to_first frame k)))
      (λ k.
      let early : frame < first = omega arith in
      let small : frame % period ≡ frame = mod-eq_of_lt (omega arith) in
      rw (lt-leb first frame early, small) (sym (ne_eqb frame first (λ same. omega arith))))

  -- from any frame there is one less than a period on
  one_on : (from : ℕ) → (n : ℕ) × (n < period) × ((from + n) % period ≡ first)
  one_on from =
      let whole = div-add-mod' from period in
      let rest : from % period < period = mod-lt from (omega arith) in
      dite (dec_le (from % period) first)
      (λ k. (first - from % period, omega arith, leaves _ (from / period) (omega arith)))
      (λ k. (first + period - from % period, omega arith, leaves _ (suc (from / period)) (omega (arith, suc-mul (from / period) period))))

  -- and no other
  no_other : (from m n : ℕ) → m < period → n < period → (from + m) % period ≡ first → (from + n) % period ≡ first → m ≡ n
  no_other from m n k l e f =
      let a : ℕ = (from + m) / period in
      let b : ℕ = (from + n) / period in
      let one = div-add-mod' (from + m) period in
      let other = div-add-mod' (from + n) period in
      dite (dec_le (suc a) b)
      (λ less. absurd (omega (arith, mul-le-mul_right period less, suc-mul a period)))
      (λ no_less.
      dite (dec_le (suc b) a)
      (λ more. absurd (omega (arith, mul-le-mul_right period more, suc-mul b period)))
      (λ no_more. let same : a * period ≡ b * period = ap (λ (c : ℕ). c * period) (omega arith) in omega arith))

pub comes_by_remainder : ComesByRemainder
unfolding comes_in
comes_by_remainder p h frame = by_remainder p.message.period p.start h frame

pub once_a_period : OnceAPeriod
once_a_period p h from =
    let one = one_on p.message.period p.start h from in (
      one.0,
      one.1,
      comes_by_remainder p h (from + one.0) ∙ eq-eqb _ _ one.2,
      λ m k comes. no_other p.message.period p.start h from m one.0 k one.1 (eqb-true _ _ (sym (comes_by_remainder p h (from + m)) ∙ comes)) one.2,
    )
