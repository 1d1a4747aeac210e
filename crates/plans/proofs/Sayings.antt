-- What the parts behind the first say: one law for each number of them. Assumes nothing.
use Rattle.std.specs.Prelude.{None, Result, Ok, Err}
use Rattle.plans.specs.declared.entries.Fault.{Fault}
use Rattle.std.proofs.Common.{◌≡◌, ℕ, suc, Bool, true, false, cond, eqb, List, [], ◌∷◌, length, get_or, drop, sym, refl, ap, ◌∙◌, arith, eq-eqb, eqb-true}
use borrow.Author.Tests.{eqb-false}
use Rattle.lines.specs.Names.{same_text}
use Rattle.plans.specs.declared.entries.Fault.TheVariants as fault
use Rattle.plans.specs.declared.entries.Entry.{Entry}
use Rattle.plans.specs.Parts.{parts_of, parts_behind}
use Rattle.plans.specs.Entries.{entered, capacity_text, capacities_of, capacity_of, capacity_entry, message_text, is_command, single_of, pair_of, message_entry, parts_entry}
use Rattle.plans.proofs.Splits.{parts_count}

-- ---- of a list of parts

one_capacity : (parts : List (List ℕ)) → length (drop 1 parts) ≡ 1 → capacity_entry (drop 1 parts) ≡ capacities_of (get_or parts 1 [])
unfolding capacity_entry
one_capacity [] h = absurd (omega (arith, h))
one_capacity (x ∷ []) h = absurd (omega (arith, h))
one_capacity (x ∷ a ∷ []) h = refl
one_capacity (x ∷ a ∷ b ∷ rest) h = absurd (omega (arith, h))

two_capacity : (parts : List (List ℕ)) → length (drop 1 parts) ≡ 2 → capacity_entry (drop 1 parts) ≡ capacity_of (get_or parts 1 []) (get_or parts 2 [])
unfolding capacity_entry
two_capacity [] h = absurd (omega (arith, h))
two_capacity (x ∷ []) h = absurd (omega (arith, h))
two_capacity (x ∷ a ∷ []) h = absurd (omega (arith, h))
two_capacity (x ∷ a ∷ b ∷ []) h = refl
two_capacity (x ∷ a ∷ b ∷ d ∷ rest) h = absurd (omega (arith, h))

other_capacity : (parts : List (List ℕ)) → (length (drop 1 parts) ≡ 1 → ⊥) → (length (drop 1 parts) ≡ 2 → ⊥) → capacity_entry (drop 1 parts) ≡ Err fault.CapacityParts
unfolding capacity_entry
other_capacity [] h i = refl
other_capacity (x ∷ []) h i = refl
other_capacity (x ∷ a ∷ []) h i = absurd (h refl)
other_capacity (x ∷ a ∷ b ∷ []) h i = absurd (i refl)
other_capacity (x ∷ a ∷ b ∷ d ∷ rest) h i = refl

two_message : (parts : List (List ℕ)) → length (drop 1 parts) ≡ 2 → message_entry (drop 1 parts) ≡ single_of (get_or parts 1 []) (get_or parts 2 []) (get_or parts 3 [])
unfolding message_entry
two_message [] h = absurd (omega (arith, h))
two_message (x ∷ []) h = absurd (omega (arith, h))
two_message (x ∷ a ∷ []) h = absurd (omega (arith, h))
two_message (x ∷ a ∷ b ∷ []) h = refl
two_message (x ∷ a ∷ b ∷ d ∷ rest) h = absurd (omega (arith, h))

three_message : (parts : List (List ℕ)) → length (drop 1 parts) ≡ 3
    → message_entry (drop 1 parts)
    ≡ cond (is_command (get_or parts 2 [])) (pair_of (get_or parts 1 []) (get_or parts 2 []) (get_or parts 3 []) (get_or parts 4 [])) (single_of (get_or parts 1 []) (get_or parts 2 []) (get_or parts 3 []))
unfolding message_entry
three_message [] h = absurd (omega (arith, h))
three_message (x ∷ []) h = absurd (omega (arith, h))
three_message (x ∷ a ∷ []) h = absurd (omega (arith, h))
three_message (x ∷ a ∷ b ∷ []) h = absurd (omega (arith, h))
three_message (x ∷ a ∷ b ∷ d ∷ []) h = refl
three_message (x ∷ a ∷ b ∷ d ∷ e ∷ rest) h = absurd (omega (arith, h))

four_message : (parts : List (List ℕ)) → length (drop 1 parts) ≡ 4
    → message_entry (drop 1 parts) ≡ pair_of (get_or parts 1 []) (get_or parts 2 []) (get_or parts 3 []) (get_or parts 4 [])
unfolding message_entry
four_message [] h = absurd (omega (arith, h))
four_message (x ∷ []) h = absurd (omega (arith, h))
four_message (x ∷ a ∷ []) h = absurd (omega (arith, h))
four_message (x ∷ a ∷ b ∷ []) h = absurd (omega (arith, h))
four_message (x ∷ a ∷ b ∷ d ∷ []) h = absurd (omega (arith, h))
four_message (x ∷ a ∷ b ∷ d ∷ e ∷ []) h = refl
four_message (x ∷ a ∷ b ∷ d ∷ e ∷ f ∷ rest) h = absurd (omega (arith, h))

other_message : (parts : List (List ℕ)) → (length (drop 1 parts) ≡ 2 → ⊥) → (length (drop 1 parts) ≡ 3 → ⊥) → (length (drop 1 parts) ≡ 4 → ⊥)
    → message_entry (drop 1 parts) ≡ Err fault.MessageParts
unfolding message_entry
other_message [] h i j = refl
other_message (x ∷ []) h i j = refl
other_message (x ∷ a ∷ []) h i j = refl
other_message (x ∷ a ∷ b ∷ []) h i j = absurd (h refl)
other_message (x ∷ a ∷ b ∷ d ∷ []) h i j = absurd (i refl)
other_message (x ∷ a ∷ b ∷ d ∷ e ∷ []) h i j = absurd (j refl)
other_message (x ∷ a ∷ b ∷ d ∷ e ∷ f ∷ rest) h i j = refl

-- ---- of a line: n parts stand behind the first, and p, q, .. are the parts that the code took; r is what it gave

behind_none : (text : List ℕ) → length text ≡ 0 → length (drop 1 (parts_of text)) ≡ parts_behind text
unfolding parts_of parts_behind
behind_none [] z = refl
behind_none (x ∷ xs) z = absurd (omega (arith, z))

one_fewer : (parts : List (List ℕ)) (n : ℕ) → length parts ≡ suc n → length (drop 1 parts) ≡ n
one_fewer [] n e = absurd (omega (arith, e))
one_fewer (x ∷ xs) n e = omega (arith, e)

behind_all : (text : List ℕ) → length (drop 1 (parts_of text)) ≡ parts_behind text
behind_all text = by (eqb (length text) 0) refl
  where
    by : (b : Bool) → eqb (length text) 0 ≡ b → length (drop 1 (parts_of text)) ≡ parts_behind text
    by true h = behind_none text (eqb-true (length text) 0 h)
    by false h = one_fewer (parts_of text) (parts_behind text) (parts_count text (eqb-false (length text) 0 h))

module _ (text : List ℕ) (n : ℕ) (count : n ≡ parts_behind text) where
  this_many : (k : ℕ) → n ≡ k → length (drop 1 (parts_of text)) ≡ k
  this_many k h = behind_all text ∙ sym count ∙ h

  not_so_many : (k : ℕ) → (n ≡ k → ⊥) → length (drop 1 (parts_of text)) ≡ k → ⊥
  not_so_many k h e = h (count ∙ sym (behind_all text) ∙ e)

  pub capacity_wrong : (n ≡ 1 → ⊥) → (n ≡ 2 → ⊥) → Err fault.CapacityParts ≡ capacity_entry (drop 1 (parts_of text))
  capacity_wrong h i = sym (other_capacity (parts_of text) (not_so_many 1 h) (not_so_many 2 i))

  pub message_wrong : (n ≡ 2 → ⊥) → (n ≡ 3 → ⊥) → (n ≡ 4 → ⊥) → Err fault.MessageParts ≡ message_entry (drop 1 (parts_of text))
  message_wrong h i j = sym (other_message (parts_of text) (not_so_many 2 h) (not_so_many 3 i) (not_so_many 4 j))

  module _ (r : Result Entry Fault) (p : List ℕ) (ep : p ≡ get_or (parts_of text) 1 []) where
    pub capacities_said : n ≡ 1 → r ≡ capacities_of p → r ≡ capacity_entry (drop 1 (parts_of text))
    capacities_said h e = rw (one_capacity (parts_of text) (this_many 1 h), ← ep) e

    module _ (q : List ℕ) (eq : q ≡ get_or (parts_of text) 2 []) where
      pub capacity_said : n ≡ 2 → r ≡ capacity_of p q → r ≡ capacity_entry (drop 1 (parts_of text))
      capacity_said h e = rw (two_capacity (parts_of text) (this_many 2 h), ← ep, ← eq) e

      module _ (s : List ℕ) (es : s ≡ get_or (parts_of text) 3 []) where
        pub single_said : n ≡ 2 → r ≡ single_of p q s → r ≡ message_entry (drop 1 (parts_of text))
        single_said h e = rw (two_message (parts_of text) (this_many 2 h), ← ep, ← eq, ← es) e

        pub placed_said : n ≡ 3 → (b : Bool) → b ≡ is_command q → b ≡ false → r ≡ single_of p q s → r ≡ message_entry (drop 1 (parts_of text))
        placed_said h b eb other e = rw (three_message (parts_of text) (this_many 3 h), ← eq, ← eb, other, ← ep, ← es) e

        module _ (t : List ℕ) (et : t ≡ get_or (parts_of text) 4 []) where
          pub pair_said : n ≡ 3 → (b : Bool) → b ≡ is_command q → b ≡ true → r ≡ pair_of p q s t → r ≡ message_entry (drop 1 (parts_of text))
          pair_said h b eb holds e = rw (three_message (parts_of text) (this_many 3 h), ← eq, ← eb, holds, ← ep, ← es, ← et) e

          pub placed_pair_said : n ≡ 4 → r ≡ pair_of p q s t → r ≡ message_entry (drop 1 (parts_of text))
          placed_pair_said h e = rw (four_message (parts_of text) (this_many 4 h), ← ep, ← eq, ← es, ← et) e

-- ---- of a whole line: its first part is a name

nothing_said : (text : List ℕ) → length text ≡ 0 → parts_of text ≡ []
unfolding parts_of
nothing_said text h = rw (eq-eqb (length text) 0 h)

pub says_nothing_at_all : (text : List ℕ) → length text ≡ 0 → Ok None ≡ parts_entry (parts_of text)
unfolding parts_entry
says_nothing_at_all text h = rw (nothing_said text h)

named : (parts : List (List ℕ)) (n : ℕ) → length parts ≡ suc n
    → parts_entry parts
    ≡ cond (same_text (get_or parts 0 []) message_text) (entered (message_entry (drop 1 parts)))
    (cond (same_text (get_or parts 0 []) capacity_text) (entered (capacity_entry (drop 1 parts))) (Err fault.Unknown))
unfolding parts_entry
named [] n h = absurd (omega (arith, h))
named (x ∷ xs) n h = refl

module _ (text : List ℕ) (some : length text ≡ 0 → ⊥) (name : List ℕ) (en : name ≡ get_or (parts_of text) 0 []) (b : Bool) (eb : b ≡ same_text name message_text) where
  pub message_named : b ≡ true → (r : Result Entry Fault) → r ≡ message_entry (drop 1 (parts_of text)) → entered r ≡ parts_entry (parts_of text)
  message_named h r e = rw (named (parts_of text) (parts_behind text) (parts_count text some), ← en, ← eb, h) (ap entered e)

  module _ (d : Bool) (ed : d ≡ same_text name capacity_text) where
    pub capacity_named : b ≡ false → d ≡ true → (r : Result Entry Fault) → r ≡ capacity_entry (drop 1 (parts_of text)) → entered r ≡ parts_entry (parts_of text)
    capacity_named h i r e = rw (named (parts_of text) (parts_behind text) (parts_count text some), ← en, ← eb, h, ← ed, i) (ap entered e)

    pub not_named : b ≡ false → d ≡ false → Err fault.Unknown ≡ parts_entry (parts_of text)
    not_named h i = rw (named (parts_of text) (parts_behind text) (parts_count text some), ← en, ← eb, h, ← ed, i)
