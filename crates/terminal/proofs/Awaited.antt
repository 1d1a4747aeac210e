-- The data word of a mode command. Assumes nothing.
use mathlib.Core.Path.{◌≡◌, refl, sym, ap, ap₂, ◌∙◌}
use mathlib.Core.Bool.{Bool, true, false, not, cond, ◌&&◌, ◌||◌, true≢false}
use Prim.Native.Nat.{ℕ}
use lib.Dec.{eqb}
use lib.ListN.{get_or}
use borrow.Author.Tests.{eqb-true}
use Rattle.words.specs.Words.{transmit_of, code_of, is_transmit, is_mode, is_broadcast, awaited_of}
use Rattle.words.specs.Modes.{rows, found, listing_of, allows, is_allowed}
use Rattle.std.proofs.lemmas.Bool.{and_parts}
use Rattle.words.specs.Masks.{mask_allows}
use Rattle.words.specs.Words.{count_of}
use Rattle.terminal.specs.Commands.{mask_of, is_held_illegal, is_legal}
use Rattle.terminal.specs.Effects.{effect_of}
use Rattle.terminal.specs.Works.{last_awaited}
use Rattle.terminal.specs.States.{with_sync_word}
use Rattle.terminal.specs.declared.states.Own.{Own}
use Rattle.terminal.specs.declared.states.Setup.{Setup}
use Rattle.terminal.specs.declared.states.Held.{Held}
use Rattle.terminal.specs.declared.states.Message.{Message}

-- the table has code 17 with T/R 0 alone
received : (word : ℕ) → code_of word ≡ 17 → is_allowed word ≡ true → is_transmit word ≡ false
unfolding is_allowed listing_of found rows allows
received word code allowed = go (is_transmit word) refl
  where
    go : (b : Bool) → is_transmit word ≡ b → b ≡ false
    go true sent =
        absurd (true≢false (sym allowed ∙ ap₂ (λ (t c : ℕ). allows (found t c rows) (is_broadcast word)) (eqb-true (transmit_of word) 1 sent) code))
    go false sent = refl

-- a legal mode command is in the table
allowed_legal : (setup : Setup) (word : ℕ) → (is_legal setup word && is_mode word) ≡ true → is_allowed word ≡ true
unfolding is_legal is_held_illegal
allowed_legal setup word h =
    let both = and_parts (is_legal setup word) (is_mode word) h in
    let rest = (and_parts (mask_allows (mask_of setup word) (count_of word)) (not (cond (is_mode word) (is_held_illegal word) (is_transmit word && is_broadcast word))) both.0).1 in
    go (eqb (code_of word) 20) (eqb (code_of word) 21) (is_allowed word) (rw both.1 at rest)
  where
    go : (a b x : Bool) → not (a || b || not x) ≡ true → x ≡ true
    go a b true e = refl
    go true b false e = e
    go false true false e = e
    go false false false e = e

only_word : (m : Message) → code_of m.command.0 ≡ 17 → is_mode m.command.0 ≡ true → is_transmit m.command.0 ≡ false → get_or m.words 0 0 ≡ last_awaited m
unfolding last_awaited awaited_of
only_word m code mode sent = rw (sent, mode, code) refl

-- only code 17 asks for the word
effect_word : (own : Own) (h : Held) (code bus a b : ℕ) → (code ≡ 17 → a ≡ b) → effect_of own h code bus a ≡ effect_of own h code bus b
unfolding effect_of
effect_word own h code bus a b same =
    past (eqb code 1) _ _ _
    (past (eqb code 3) _ _ _
    (past (eqb code 4) _ _ _
    (past (eqb code 5) _ _ _
    (past (eqb code 6) _ _ _ (past (eqb code 7) _ _ _ (past (eqb code 8) _ _ _ (go (eqb code 17) refl)))))))
  where
    past : (t : Bool) (x y z : Held) → y ≡ z → cond t x y ≡ cond t x z
    past true x y z e = refl
    past false x y z e = e

    go : (t : Bool) → eqb code 17 ≡ t → cond t (with_sync_word h a) h ≡ cond t (with_sync_word h b) h
    go true e = ap (with_sync_word h) (same (eqb-true code 17 e))
    go false e = refl

pub awaited_effect : (setup : Setup) (own : Own) (h : Held) (m : Message) (bus : ℕ) → (is_legal setup m.command.0 && is_mode m.command.0) ≡ true → effect_of own h (code_of m.command.0) bus (last_awaited m) ≡ effect_of own h (code_of m.command.0) bus (get_or m.words 0 0)
awaited_effect setup own h m bus legal =
    let word = m.command.0 in
    effect_word own h (code_of word) bus (last_awaited m) (get_or m.words 0 0)
    (λ code. sym (only_word m code (and_parts (is_legal setup word) (is_mode word) legal).1 (received word code (allowed_legal setup word legal))))
