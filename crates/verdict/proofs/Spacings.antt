-- The numbers of a badly spaced data word. Assumes nothing.
use mathlib.Core.Path.{◌≡◌, refl, ◌∙◌}
use mathlib.Core.Bool.{Bool, true, false, not, cond}
use Prim.Native.Nat.{ℕ}
use lib.Dec.{eqb}
use Rattle.std.specs.Prelude.{Option, Some, None}
use Rattle.words.specs.Words.{spacing_of, is_overlapping, is_separated, is_valid, command_sync}
use Rattle.words.specs.declared.times.Spacing.{Spacing}
use Rattle.words.specs.declared.times.Spacing.TheVariants.{Overlapping, BackToBack, Separated}
use Rattle.words.proofs.Spacings.{kinds_exact}
use Rattle.verdict.specs.Numbers.{good, not_valid, wrong_sync, fact_number}
use Rattle.verdict.specs.Facts.{spacing_fact, data_fact}
use Rattle.verdict.specs.Theorems.{SpacingFacts}
use Rattle.verdict.specs.declared.verdicts.Verdict.{Verdict}
use Rattle.verdict.specs.declared.verdicts.Verdict.TheVariants as verdict

by_kind : (kind : Spacing) (next : Option Verdict) → eqb (fact_number next) 12 ≡ false → eqb (fact_number next) 10 ≡ false
    → (eqb (fact_number (spacing_fact kind next)) 12 ≡ is_overlapping kind) × (eqb (fact_number (spacing_fact kind next)) 10 ≡ is_separated kind)
by_kind (Overlapping distance) next not12 not10 = (refl, refl)
by_kind (BackToBack distance) next not12 not10 = (not12, not10)
by_kind (Separated distance) next not12 not10 = (refl, refl)

-- no other fact of a data word has a number that the three have not
others : (n : ℕ) → eqb not_valid n ≡ false → eqb wrong_sync n ≡ false → eqb good n ≡ false
    → (invalid command : Bool)
    → eqb (fact_number (cond invalid (Some verdict.NotValid) (cond command (Some verdict.WrongSync) None))) n ≡ false
others n a b c true command = a
others n a b c false true = b
others n a b c false false = c

pub spacing_facts : SpacingFacts
unfolding data_fact
spacing_facts last r =
    let invalid : Bool = not (is_valid r.sync r.faults r.word r.parity) in
    let command : Bool = eqb r.sync command_sync in
    let facts = by_kind (spacing_of last r.time.0) _ (others 12 refl refl refl invalid command) (others 10 refl refl refl invalid command) in
    let kinds = kinds_exact last r.time.0 in
    (facts.0 ∙ kinds.0, facts.1 ∙ kinds.2)
