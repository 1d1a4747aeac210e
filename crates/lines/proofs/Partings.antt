-- Parts of a line: what the library's methods say is what the definitions say. Assumes nothing.
use mathlib.Core.Path.{◌≡◌, refl, ap, ◌∙◌}
use mathlib.Core.Bool.{and-false}
use mathlib.Core.Logic.{◌≢◌, ◌⊎◌, dite}
use Prim.Native.Nat.{ℕ, ◌+◌, ◌≤◌, ◌<◌, min}
use native.Mathlib.Nat.{lt_of_not-le}
use native.Mathlib.Omega.{arith}
use native.Mathlib.Decide.{dec_le}
use mathlib.Core.List.{List, []}
use denote.Ref.{Bor}
use lib.ListN.{length, drop, drop_of_length-le}
use borrow.Author.Tests.{le-leb, lt-leb, eq-eqb, ne_eqb}
use Rattle.std.proofs.Common.{Option, None, Some, inl, inr}
use Rattle.std.specs.Option.{MatchOption, unwrap_or}
use Rattle.std.specs.List.{AllWithin, HoldsAt, slice_range}
use Rattle.std.proofs.lemmas.Iterator.{index_from_first}
use Rattle.lines.specs.Parts.{between_of, before_space, part_end}

-- ---- from a start to an end

-- what `get` gives of two places, and nothing where they are none
pub between_is : (text : List ℕ) (start end : ℕ) (got : Option (Bor (List ℕ))) (none result : Bor (List ℕ)) → none.now ≡ []
    → MatchOption got ((end < start) ⊎ (length text < end)) (λ x. (start ≤ end) × (end ≤ length text) × (x.now ≡ slice_range text start end) × (length x.now + start ≡ end))
    → result ≡ unwrap_or got none → result.now ≡ between_of text start end
unfolding between_of
between_is text start end None none result e (inl l) is = rw (lt-leb start end l) (ap (λ (b : Bor (List ℕ)). b.now) is ∙ e)
between_is text start end None none result e (inr l) is = rw (lt-leb end (length text) l, and-false) (ap (λ (b : Bor (List ℕ)). b.now) is ∙ e)
between_is text start end (Some x) none result e found is = rw (le-leb start end found.0, le-leb end (length text) found.1) (ap (λ (b : Bor (List ℕ)). b.now) is ∙ found.2)

-- ---- the end of a part

-- the place of the first space, as `position` finds it
pub before_found : (rest : List ℕ) (r : Option ℕ)
    → MatchOption r (AllWithin (λ (b : ℕ). b ≢ 32) rest 0 (length rest)) (λ i. (i < length rest) × HoldsAt (λ (b : ℕ). b ≡ 32) rest i × AllWithin (λ (b : ℕ). b ≢ 32) rest 0 i)
    → before_space rest ≡ unwrap_or r (length rest)
unfolding before_space
before_found rest r found =
    index_from_first before_space (λ (b : ℕ). b ≡ 32) (λ (b : ℕ). b ≢ 32) refl (λ x xs e. rw (eq-eqb x 32 e)) (λ x xs other. rw (ne_eqb x 32 other) (omega arith)) rest r found

pub end_is : (text : List ℕ) (start from n : ℕ) → from ≡ min start (length text) → n ≡ before_space (drop from text) → from + n ≡ part_end text start
unfolding part_end before_space
end_is text start from n f e =
    dite (dec_le start (length text))
    (λ inside.
    let same : from ≡ start = omega arith in
    rw (le-leb start (length text) inside, e, same))
    (λ past.
    let behind = lt_of_not-le past in
    let all : from ≡ length text = omega arith in
    let none : before_space (drop from text) ≡ 0 = ap before_space (drop_of_length-le text {i = from} (omega arith)) in
    rw (lt-leb start (length text) behind) (omega (arith, e, none)))
