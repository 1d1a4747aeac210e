-- The parts of a text, as the code finds them. Assumes nothing.
use Rattle.std.proofs.Common.{◌≡◌, ℕ, zero, suc, Bool, true, false, cond, eqb, List, [], ◌∷◌, ◌++◌, length, get_or, sym, refl, ap, ap₂, ◌∙◌, append_assoc, append-nil, arith, ne_eqb, eqb-true}
use Rattle.std.specs.List.{count_by, slice_split, onto_first, slice_get}
use Rattle.std.specs.Option.{option_map, unwrap_or}
use Rattle.std.specs.Prelude.{Option, None, Some}
use denote.Ref.{Bor}
use Rattle.std.proofs.lemmas.List.Recursion.{is_count_by}
use Rattle.std.proofs.lemmas.Option.{get_or_from_slice_get, unwrap_or-slice_get}
use Rattle.plans.specs.Parts.{split_from, parts_of, parts_behind}

-- ---- how many

-- a text has one part more than it has behind the first
split_count : (part text : List ℕ) → length (split_from part text) ≡ suc (parts_behind text)
unfolding split_from parts_behind
split_count part [] = refl
split_count part (byte ∷ bytes) = by (eqb byte 32) (split_count [] bytes) (split_count (part ++ (byte ∷ [])) bytes)
  where
    by : (b : Bool) → length (split_from [] bytes) ≡ suc (parts_behind bytes) → length (split_from (part ++ (byte ∷ [])) bytes) ≡ suc (parts_behind bytes)
        → length (cond b (part ∷ split_from [] bytes) (split_from (part ++ (byte ∷ [])) bytes)) ≡ suc (cond b (suc (parts_behind bytes)) (parts_behind bytes))
    by true p q = ap suc p
    by false p q = q

pub parts_count : (text : List ℕ) → (length text ≡ 0 → ⊥) → length (parts_of text) ≡ suc (parts_behind text)
unfolding parts_of
parts_count text some = rw (ne_eqb (length text) 0 some) (split_count [] text)

pub behind_counts : (text : List ℕ) → count_by (λ byte. eqb byte 32) text ≡ parts_behind text
unfolding parts_behind
behind_counts text =
    sym (is_count_by parts_behind (λ byte. eqb byte 32) refl (λ byte bytes. ap (λ (n : ℕ). cond (eqb byte 32) n (parts_behind bytes)) (omega arith)) text)

-- ---- which

-- more in front of the first part
front : List ℕ → List (List ℕ) → List (List ℕ)
front more [] = more ∷ []
front more (part ∷ parts) = (more ++ part) ∷ parts

abbrev split : List ℕ → List (List ℕ)
split text = slice_split (λ byte. eqb byte 32) text

front_none : (text : List ℕ) → front [] (split text) ≡ split text
unfolding front
front_none [] = refl
front_none (byte ∷ bytes) = by (eqb byte 32) (split bytes)
  where
    by : (b : Bool) (parts : List (List ℕ)) → front [] (cond b ([] ∷ parts) (onto_first byte parts)) ≡ cond b ([] ∷ parts) (onto_first byte parts)
    by true parts = refl
    by false [] = refl
    by false (part ∷ parts) = refl

split_front : (part text : List ℕ) → split_from part text ≡ front part (split text)
unfolding split_from front
split_front part [] = ap (λ (p : List ℕ). p ∷ []) (sym (append-nil part))
split_front part (byte ∷ bytes) = by (eqb byte 32) (split bytes) (split_front [] bytes ∙ front_none bytes) (split_front (part ++ (byte ∷ [])) bytes)
  where
    by : (b : Bool) (parts : List (List ℕ)) → split_from [] bytes ≡ parts → split_from (part ++ (byte ∷ [])) bytes ≡ front (part ++ (byte ∷ [])) parts
        → cond b (part ∷ split_from [] bytes) (split_from (part ++ (byte ∷ [])) bytes) ≡ front part (cond b ([] ∷ parts) (onto_first byte parts))
    by true parts p q = ap₂ (λ (x : List ℕ) (xs : List (List ℕ)). x ∷ xs) (sym (append-nil part)) p
    by false [] p q = q
    by false (first ∷ parts) p q = q ∙ ap (λ (x : List ℕ). x ∷ parts) (append_assoc part (byte ∷ []) first)

-- a text of no byte has no part
split_none : (text : List ℕ) (k : ℕ) → length text ≡ 0 → get_or (split_from [] text) k [] ≡ []
unfolding split_from
split_none [] zero z = refl
split_none [] (suc k) z = refl
split_none (x ∷ xs) k z = absurd (omega (arith, z))

parts_split : (text : List ℕ) (k : ℕ) → get_or (split_from [] text) k [] ≡ get_or (parts_of text) k []
unfolding parts_of
parts_split text k = by (eqb (length text) 0) refl
  where
    by : (c : Bool) → eqb (length text) 0 ≡ c → get_or (split_from [] text) k [] ≡ get_or (cond c [] (split_from [] text)) k []
    by false q = refl
    by true q = split_none text k (eqb-true (length text) 0 q)

pub part_is : (text : List ℕ) (k : ℕ) → get_or (split text) k [] ≡ get_or (parts_of text) k []
part_is text k = ap (λ (parts : List (List ℕ)). get_or parts k []) (sym (split_front [] text ∙ front_none text)) ∙ parts_split text k

get_or_is : (text : List ℕ) (k : ℕ) (piece : List ℕ) → Some piece ≡ slice_get (split text) k → piece ≡ get_or (parts_of text) k []
get_or_is text k piece e = sym (get_or_from_slice_get (split text) k piece [] (sym e)) ∙ part_is text k

-- the piece at a place, or no bytes
pub piece_is : (text : List ℕ) (k : ℕ) (r : Option (Bor (List ℕ))) (none : Bor (List ℕ)) → none.now ≡ [] → option_map (λ p. p.now) r ≡ slice_get (split text) k
    → (unwrap_or r none).now ≡ get_or (parts_of text) k []
piece_is text k None none empty e = empty ∙ ap (λ (o : Option (List ℕ)). unwrap_or o []) e ∙ unwrap_or-slice_get (split text) k [] ∙ part_is text k
piece_is text k (Some piece) none empty e = get_or_is text k piece.now e
