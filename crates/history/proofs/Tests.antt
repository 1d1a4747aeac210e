-- What a test that passed, or failed, says. Assumes nothing.
use mathlib.Core.Path.{◌≡◌, refl, sym, ap}
use mathlib.Core.Bool.{Bool, true, false, cond, ◌&&◌, ◌||◌, true≢false}
use Rattle.std.proofs.lemmas.Bool.{and_parts, or_parts}
use Rattle.std.specs.Prelude.{Option, Some, None, is_some}

-- a test does not go both ways
pub true≢ : {X : Type 0} → true ≡ false → X
true≢ h = absurd (true≢false h)

pub false≢ : {X : Type 0} → false ≡ true → X
false≢ h = true≢ (sym h)

-- what there is, is one thing, and is not nothing
abbrev value_or : {A : Type 0} → A → Option A → A
value_or x None = x
value_or x (Some y) = y

pub some_same : {A : Type 0} (x y : A) → Some x ≡ Some y → x ≡ y
some_same x y h = ap (value_or x) h

pub none≢ : {X A : Type 0} {x : A} → None ≡ Some x → X
none≢ {A = A} h = false≢ (ap (λ (o : Option A). is_some o) h)

-- a choice has what both sides have, each where its test goes that way
pub cond_cases : {A : Type 0} (P : A → Type 0) (b : Bool) {x y : A} → (b ≡ true → P x) → (b ≡ false → P y) → P (cond b x y)
cond_cases P true p q = p refl
cond_cases P false p q = q refl

pub cond_same : {A : Type 0} (b : Bool) (x : A) → cond b x x ≡ x
cond_same true x = refl
cond_same false x = refl

pub and_left : (a b : Bool) → (a && b) ≡ true → a ≡ true
and_left a b h = (and_parts a b h).0

pub and_right : (a b : Bool) → (a && b) ≡ true → b ≡ true
and_right a b h = (and_parts a b h).1

pub or_false : {P : Type 0} (a b : Bool) → (a || b) ≡ false → (a ≡ false → b ≡ false → P) → P
or_false a b h p = p (or_parts a b h).0 (or_parts a b h).1

pub or_cases : {P : Type 0} (a b : Bool) → (a || b) ≡ true → (a ≡ true → P) → (b ≡ true → P) → P
or_cases true b h p q = p refl
or_cases false b h p q = q h
