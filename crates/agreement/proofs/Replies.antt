-- A legal command is one that a plan may have, and the reply to it has as many data words as the plan expects. Assumes nothing.
use mathlib.Core.Path.{◌≡◌, refl, sym, ◌∙◌}
use Prim.Native.Nat.{ℕ, ◌≤◌}
use mathlib.Core.Bool.{Bool, true, false, not, cond, ◌&&◌, ◌||◌, and-true}
use mathlib.Core.List.{List, [], ◌∷◌}
use native.Mathlib.Omega.{arith}
use lib.Dec.{eqb}
use lib.ListN.{length, take, drop, replicate, length-drop}
use lib.Seq.{length-take-le, length-paste}
use borrow.Author.Tests.{eqb-true, not-true, not-false}
use Rattle.words.specs.Words.{transmit_of, code_of, words_of, is_transmit, is_mode, is_broadcast}
use Rattle.words.specs.Modes.{Row, row, rows, found, listing_of, allows, is_allowed}
use Rattle.words.specs.declared.modes.Listing.{Listing}
use Rattle.std.specs.Prelude.{Option, Some}
use Rattle.terminal.specs.Commands.{is_held_illegal, is_legal}
use Rattle.terminal.specs.Settling.{first_place, no_words, table_words, mode_words, legal_reply, reply_of}
use Rattle.terminal.specs.declared.states.Setup.{Setup}
use Rattle.terminal.specs.declared.states.Terminal.{Terminal as State}
use Rattle.terminal.specs.declared.answers.Reply.{Reply}
use Rattle.words.proofs.Counts.{words_most}
use Rattle.history.proofs.Tests.{false≢, cond_cases, cond_same, and_left, and_right, or_false}
use Rattle.verdict.specs.Plans.{is_single, sent_by, sent_of}

-- ---- a legal command

-- is one that a plan may have
pub legal_single : (setup : Setup) (w : ℕ) → is_legal setup w ≡ true → is_single w ≡ true
unfolding is_legal is_single is_held_illegal
legal_single setup w legal = go (is_mode w) (search (and_right, legal))
  where
    go : (mode : Bool) → not (cond mode (is_held_illegal w) (is_transmit w && is_broadcast w)) ≡ true
        → cond mode (is_allowed w) (not (is_transmit w && is_broadcast w)) ≡ true
    go true fit =
        or_false (eqb (code_of w) 20 || eqb (code_of w) 21) (not (is_allowed w)) (not-true (is_held_illegal w) fit)
        (λ held outside. not-false (is_allowed w) outside)
    go false fit = fit

-- ---- the code table

-- the data words that the terminal sends for a code
asked : ℕ → ℕ
asked code = cond (eqb code 16) 1 (cond (eqb code 18) 1 (cond (eqb code 19) 1 0))

-- rows have that number in their last column
are_asked : List Row → Bool
are_asked [] = true
are_asked (row code transmit broadcast word ∷ rest) = eqb (sent_by (Some (record { broadcast = broadcast; word = word }))) (asked code) && are_asked rest

-- those of document 01 have
rows_asked : are_asked rows ≡ true
unfolding are_asked asked rows
rows_asked = refl

-- what is found in such rows has it
found_asked : (t c : ℕ) (to_all : Bool) (rs : List Row) → are_asked rs ≡ true → allows (found t c rs) to_all ≡ true → sent_by (found t c rs) ≡ asked c
unfolding are_asked found allows
found_asked t c to_all [] all = false≢
found_asked t c to_all (row code transmit broadcast word ∷ rest) all =
    cond_cases (λ (l : Option Listing). allows l to_all ≡ true → sent_by l ≡ asked c) (eqb code c && eqb transmit t)
    (λ here allowed.
    let same : code ≡ c = search (eqb-true, and_left, here) in
    rw (← same) (search (eqb-true, and_left, all)))
    (λ other. found_asked t c to_all rest (search (and_right, all)))

-- so has what the table says of a mode command that it allows
mode_asked : (w : ℕ) → is_allowed w ≡ true → sent_by (listing_of w) ≡ asked (code_of w)
unfolding is_allowed listing_of
mode_asked w allowed = found_asked (transmit_of w) (code_of w) (is_broadcast w) rows rows_asked allowed

-- ---- the reply

-- a reply sends so many data words
abbrev Sends : ℕ → Reply → Type 0
Sends n reply = length (take reply.count reply.words) ≡ n

-- two choices by one test have what both sides have
both_cases : {A B : Type 0} (P : A → B → Type 0) (b : Bool) {m n : A} {x y : B} → (b ≡ true → P m x) → (b ≡ false → P n y)
    → P (cond b m n) (cond b x y)
both_cases P true p q = p refl
both_cases P false p q = q refl

module _ (s : State) (w : ℕ) where
  -- that to a mode command
  mode_sends : Sends (asked (code_of w)) (mode_words s w)
  unfolding asked mode_words
  mode_sends =
      both_cases Sends (eqb (code_of w) 16) (λ e. refl)
      (λ e. both_cases Sends (eqb (code_of w) 18) (λ e. refl) (λ e. both_cases Sends (eqb (code_of w) 19) (λ e. refl) (λ e. refl)))

  -- to a receive command that is no mode command a status alone
  pub receive_alone : (transmit : List ℕ) → is_mode w ≡ false → is_transmit w ≡ false → reply_of s w transmit ≡ no_words
  unfolding reply_of legal_reply
  receive_alone transmit plain receives = rw (plain, receives) (cond_same (is_legal s.setup w) no_words)

  module _ (transmit : List ℕ) (sized : length transmit ≡ 1024) where
    -- that from the transmit table, whose words from a subaddress on are at least 32
    table_sends : Sends (words_of w) (table_words transmit w)
    table_sends =
        let few : words_of w ≤ 32 = words_most w in
        let room : words_of w ≤ length (drop (first_place w) transmit) = simp length-drop (omega arith) in
        let long = length-paste (replicate 32 0) 0 (drop (first_place w) transmit) (words_of w) (omega arith) room in
        length-take-le (words_of w) _ (omega arith)

    -- that to any legal command, by a terminal that is not busy, or for a mode command
    pub reply_sends : is_legal s.setup w ≡ true → (is_mode w ≡ false → s.host.busy ≡ false) → Sends (sent_of w) (reply_of s w transmit)
    unfolding sent_of reply_of legal_reply is_single
    reply_sends legal ready =
        let single = legal_single s.setup w legal in
        rw legal
        (both_cases Sends (is_mode w)
        (λ mode. mode_sends ∙ sym (mode_asked w (rw mode at single)))
        (λ plain. rw (ready plain, and-true (is_transmit w)) (both_cases Sends (is_transmit w) (λ e. table_sends) (λ e. refl))))
