-- What is held stays as `Holding` says. Assumes nothing.
use mathlib.Core.Path.{◌≡◌, refl, ◌∙◌}
use Prim.Native.Nat.{ℕ, ◌≤◌}
use mathlib.Core.Bool.{Bool, true, cond, ◌||◌, or-true}
use native.Mathlib.Omega.{arith}
use lib.Dec.{eqb}
use lib.ListN.{length-set}
use Rattle.words.specs.Words.{with_flag}
use Rattle.words.specs.declared.statuses.Flag.{Flag}
use Rattle.words.proofs.Inverse.{status_fields_built}
use Rattle.terminal.specs.States.{fresh_held, with_status}
use Rattle.terminal.specs.Settling.{settled_status}
use Rattle.terminal.specs.Effects.{effect_of, held_after}
use Rattle.terminal.specs.Rules.{kept_by, noted_status, noted_command}
use Rattle.terminal.specs.declared.states.Own.{Own}
use Rattle.terminal.specs.declared.states.SpacingFault.{SpacingFault}
use Rattle.terminal.specs.declared.states.SpacingFault.TheVariants.{Overlapping, Separated}
use Rattle.terminal.specs.declared.states.Held.{Held}
use Rattle.terminal.specs.declared.states.Terminal.{Terminal as State}
use Rattle.history.specs.States.{is_to, Holding}
use Rattle.history.proofs.Tests.{cond_cases}
use Rattle.history.proofs.Statuses.{address_kept, spare_kept}
use Rattle.std.specs.Prelude.{Option, Some, None}

-- a choice of two, each as it should be
pub held_either : (own : Own) (b : Bool) (x y : Held) → Holding own x → Holding own y → Holding own (cond b x y)
held_either own b x y p q = cond_cases (Holding own) b (λ e. p) (λ e. q)

module _ (own : Own) (h : Held) where
  -- with a choice of two statuses
  status_either : (b : Bool) (x y : ℕ) → Holding own (with_status h x) → Holding own (with_status h y) → Holding own (with_status h (cond b x y))
  status_either b x y p q = cond_cases (λ (n : ℕ). Holding own (with_status h n)) b (λ e. p) (λ e. q)

  -- with a flag in the status
  pub status_flag : (flag : Flag) (n : ℕ) → Holding own (with_status h n) → Holding own (with_status h (with_flag flag n))
  status_flag flag n k =
      record { status = address_kept flag n ∙ k.status; spare = spare_kept flag n ∙ k.spare; command = k.command; shut = k.shut; spacing = k.spacing }

-- with the kind of a spacing fault
pub held_kept : (own : Own) (h : Held) (kind : Option SpacingFault) → Holding own h → Holding own (kept_by h kind)
held_kept own h None k = k
held_kept own h (Some Overlapping) k = record { status = k.status; spare = k.spare; command = k.command; shut = k.shut; spacing = refl }
held_kept own h (Some Separated) k = record { status = k.status; spare = k.spare; command = k.command; shut = k.shut; spacing = refl }

module _ (own : Own) (small : own.address ≤ 30) where
  -- fresh
  pub held_fresh : Holding own (fresh_held own)
  held_fresh = let built = status_fields_built own.address 0 (omega arith) in search

  -- after the effect of a mode command
  held_effect : (h : Held) (code bus word : ℕ) → Holding own h → Holding own (effect_of own h code bus word)
  unfolding effect_of
  held_effect h code bus word k = search (held_either, length-set, held_fresh) depth 10

  -- with the status that an own command leaves
  status_noted : (h : Held) (word : ℕ) → Holding own h → Holding own (noted_status own h word)
  unfolding noted_status
  status_noted h word k = let built = status_fields_built own.address 0 (omega arith) in search (held_either, status_either, status_flag)

  -- with that status and the own command as the last command
  pub command_noted : (h : Held) (word : ℕ) → is_to own word ≡ true → Holding own h
      → Holding own (noted_command own (noted_status own h word) word)
  unfolding noted_command
  command_noted h word to k =
      let named : (eqb word 0 || is_to own word) ≡ true = rw to (or-true (eqb word 0)) in
      let noted = status_noted h word k in
      search held_either

module _ (s : State) (small : s.setup.own.address ≤ 30) (k : Holding s.setup.own s.held) where
  -- with the status that settling leaves
  pub status_settled : (word : ℕ) → Holding s.setup.own (with_status s.held (settled_status s word))
  unfolding settled_status
  status_settled word = search (status_either, status_flag) depth 11

  -- after a message is settled
  pub held_settled : (word : ℕ) → Holding s.setup.own (held_after s (settled_status s word))
  unfolding held_after
  held_settled word = let settled = status_settled word in search (held_either, held_effect)
