-- A terminal with an own address above 30 never answers: its own commands are broadcasts. What a refused set-up gives is one. Assumes nothing.
use mathlib.Core.Path.{◌≡◌, refl, sym, ap, ◌∙◌}
use Prim.Native.Nat.{ℕ, ◌≤◌}
use mathlib.Core.Bool.{Bool, true, false}
use mathlib.Core.List.{List, [], ◌∷◌}
use native.Mathlib.Omega.{arith}
use lib.Dec.{eqb}
use lib.ListN.{replicate, get_or, get_or-replicate}
use borrow.Author.Tests.{eqb-true, eq-eqb, le-leb}
use Rattle.words.specs.Words.{address_of, subaddress_of, count_of, is_broadcast, is_transmit}
use Rattle.words.specs.Masks.{mask_allows}
use Rattle.words.proofs.Bits.{bit_past}
use Rattle.records.specs.declared.forms.WordRecord.{WordRecord}
use Rattle.terminal.specs.States.{no_message, fresh_of}
use Rattle.terminal.specs.Commands.{is_own, mask_of, is_legal}
use Rattle.terminal.specs.Messages.{is_under_way, is_due}
use Rattle.terminal.specs.Settling.{is_withheld, no_answer, stores_data, stored_of}
use Rattle.terminal.specs.Rules.{rule1_receive, faulty_of, begun_of, rule4, staged_of, moved_of, rules3to6}
use Rattle.terminal.specs.Events.{terminal_of, time_of, nothing_legal, set_up_refusal, set_up_of, passed_of, taken_of, event_receive}
use Rattle.terminal.specs.declared.states.Own.{Own}
use Rattle.terminal.specs.declared.states.Message.{Message}
use Rattle.terminal.specs.declared.states.Setup.{Setup}
use Rattle.terminal.specs.declared.states.Terminal.{Terminal as State}
use Rattle.terminal.specs.declared.answers.Answer.{Answer}
use Rattle.terminal.specs.declared.events.Event.{Event}
use Rattle.terminal.specs.declared.events.Event.TheVariants.{Mark, Word}
use Rattle.history.specs.Calls.{Call, set_up, event, host, clear_selftest, restart, is_accepted, is_set_up, step, run, Past, answer_in, sets_up}
use Rattle.history.specs.Courses.{NoSetUp}
use Rattle.history.specs.Demands.{RefusedSilent, FreshSilent, FreshBegins, SetUpBegins}
use Rattle.history.proofs.Tests.{true≢, false≢, cond_cases, cond_same, and_right, or_cases}
use Rattle.history.proofs.Steps.{stepped, refused_stays, set_up_gives, set_up_refused, run_append}
use Rattle.history.proofs.Passing.{passed_setup, passed_message}
use Rattle.history.proofs.Moving.{rules_keep, asking_under_way, rules_hold}
use Rattle.history.proofs.Givens.{Given, none, some, answer_cases}
use Rattle.std.specs.Prelude.{Option}

-- ---- the set-up stays

rules_setup : (s : State) (r : WordRecord) → (rules3to6 s r).setup ≡ s.setup
unfolding faulty_of rule4
rules_setup = rules_keep (λ (x : State). x.setup) (λ x kind. refl) (λ x m. refl) (λ x w. refl)

taken_setup : (s : State) (e : Event) (transmit : List ℕ) → (taken_of (passed_of s (time_of e) transmit) e).setup ≡ s.setup
taken_setup s (Mark t) transmit = passed_setup s t.0 transmit
taken_setup s (Word r) transmit = rules_setup (passed_of s r.time.0 transmit) r ∙ passed_setup s r.time.0 transmit

call_setup : (s : State) (k : Call) → sets_up k ≡ false → (step s k).setup ≡ s.setup
unfolding step
call_setup s (set_up address receive transmit) unset = rw unset
call_setup s (event e receive transmit) unset = go (is_accepted s e receive transmit) refl
  where
    go : (b : Bool) → is_accepted s e receive transmit ≡ b → (step s (event e receive transmit)).setup ≡ s.setup
    go true ok = ap (λ (x : State). x.setup) (stepped s e receive transmit ok) ∙ taken_setup s e transmit
    go false bad = ap (λ (x : State). x.setup) (refused_stays s e receive transmit bad)
call_setup s (host setting) unset = refl
call_setup s clear_selftest unset = refl
call_setup s restart unset = refl

run_setup : (s : State) (ks : List Call) → NoSetUp s ks → (run s ks).setup ≡ s.setup
unfolding run
run_setup s [] unset = refl
run_setup s (k ∷ ks) unset = run_setup (step s k) ks unset.1 ∙ call_setup s k unset.0

-- ---- a message under way is a broadcast

abbrev ToAll : Message → Type 0
ToAll m = is_under_way m.phase ≡ true → is_broadcast m.command.0 ≡ true

none_to_all : ToAll no_message
none_to_all on = false≢ on

own_to_all : (own : Own) (r : WordRecord) → 31 ≤ own.address → is_own own r ≡ true → is_broadcast r.word ≡ true
unfolding is_own
own_to_all own r above is-own =
    or_cases (eqb (address_of r.word) own.address) (is_broadcast r.word) (search (and_right, is-own))
    (λ same. eq-eqb (address_of r.word) 31 (omega (arith, above, eqb-true (address_of r.word) own.address same)))
    (λ h. h)

word_to_all : (s : State) (r : WordRecord) → 31 ≤ s.setup.own.address → ToAll s.message → ToAll (rules3to6 s r).message
unfolding begun_of staged_of moved_of
word_to_all s r above h =
    rules_hold ToAll none_to_all r (λ m under to on. to under) (λ m p between asking to on. to (asking_under_way m.phase asking)) s h (λ own on. own_to_all s.setup.own r above own)

event_to_all : (s : State) (e : Event) (transmit : List ℕ) → 31 ≤ s.setup.own.address → ToAll s.message
    → ToAll (taken_of (passed_of s (time_of e) transmit) e).message
event_to_all s e transmit above h = go e
  where
    passed : (t : ℕ) → ToAll (passed_of s t transmit).message
    passed t = passed_message ToAll none_to_all s t transmit h

    go : (e : Event) → ToAll (taken_of (passed_of s (time_of e) transmit) e).message
    go (Mark t) = passed t.0
    go (Word r) = word_to_all (passed_of s r.time.0 transmit) r (rw (passed_setup s r.time.0 transmit) above) (passed r.time.0)

call_to_all : (s : State) (k : Call) → 31 ≤ s.setup.own.address → sets_up k ≡ false → ToAll s.message → ToAll (step s k).message
unfolding step
call_to_all s (set_up address receive transmit) above unset h = rw unset h
call_to_all s (event e receive transmit) above unset h = go (is_accepted s e receive transmit) refl
  where
    go : (b : Bool) → is_accepted s e receive transmit ≡ b → ToAll (step s (event e receive transmit)).message
    go true ok = rw (stepped s e receive transmit ok) (event_to_all s e transmit above h)
    go false bad = rw (refused_stays s e receive transmit bad) h
call_to_all s (host setting) above unset h = h
call_to_all s clear_selftest above unset h = h
call_to_all s restart above unset h = none_to_all

run_to_all : (s : State) (ks : List Call) → 31 ≤ s.setup.own.address → NoSetUp s ks → ToAll s.message → ToAll (run s ks).message
unfolding run
run_to_all s [] above unset h = h
run_to_all s (k ∷ ks) above unset h =
    run_to_all (step s k) ks (rw (call_setup s k unset.0) above) unset.1 (call_to_all s k above unset.0 h)

-- ---- so it is not answered

withheld_answer : (s : State) (k : Call) → ToAll s.message → answer_in s k ≡ no_answer
withheld_answer s k h = go (answer_cases s k)
  where
    go : {o : Option Answer} → Given s o → o ≡ no_answer
    go none = refl
    go (some of) = unfold is_withheld in true≢ (rw (h of.under_way) at of.shown)

pub fresh_silent : FreshSilent
fresh_silent setup above ks unset k = withheld_answer (run (fresh_of setup) ks) k (run_to_all (fresh_of setup) ks above unset none_to_all)

-- ---- and where nothing is legal nothing is stored

masked : (masks : List ℕ) (word : ℕ) → masks ≡ replicate 32 0 → get_or masks (subaddress_of word) 0 ≡ 0
masked masks word same = rw same (get_or-replicate 32 (subaddress_of word) 0 0 (omega arith))

nothing_legal_lem : (word : ℕ) → is_legal nothing_legal word ≡ false
unfolding is_legal mask_allows mask_of
nothing_legal_lem word =
    rw (masked (replicate 32 0) word refl, cond_same {A = ℕ} (is_transmit word) 0, bit_past 0 (count_of word) 0 (omega arith) (omega arith))

nothing_stored : (s : State) (e : Event) (receive transmit : List ℕ) → s.setup ≡ nothing_legal → event_receive s e receive transmit ≡ receive
unfolding event_receive rule1_receive stored_of stores_data
nothing_stored s e receive transmit same =
    let illegal : is_legal s.setup s.message.command.0 ≡ false = ap (λ (x : Setup). is_legal x s.message.command.0) same ∙ nothing_legal_lem s.message.command.0 in
    let stays : List ℕ → Type 0 = λ table. table ≡ receive in
    cond_cases stays (is_accepted s e receive transmit)
    (λ ok. cond_cases stays (is_due s.message (time_of e)) (λ due. rw illegal) (λ not_due. refl))
    (λ bad. refl)

-- ---- the statements

pub refused_silent : RefusedSilent
refused_silent address receive transmit bad =
    rw (set_up_refused address receive transmit bad) (
      fresh_silent nothing_legal (omega arith),
      λ ks unset e table transmit'. nothing_stored (run (fresh_of nothing_legal) ks) e table transmit' (run_setup (fresh_of nothing_legal) ks unset),
    )

pub fresh_begins : FreshBegins
unfolding set_up_refusal
fresh_begins setup most receives transmits =
    let accepted : is_set_up setup.own.address setup.receive setup.transmit ≡ true =
    rw (receives, transmits, le-leb setup.own.address 30 most) in
    (accepted, sym (set_up_gives setup.own.address setup.receive setup.transmit accepted))

set_step : (s : State) (past : Past) → step s (set_up past.address past.receive past.transmit) ≡ (terminal_of (set_up_of past.address past.receive past.transmit))
unfolding step
set_step s past = rw past.accepted

pub set_up_begins : SetUpBegins
unfolding run
set_up_begins s before past =
    run_append s before (set_up past.address past.receive past.transmit ∷ past.calls)
    ∙ ap (λ (x : State). run x past.calls) (set_step (run s before) past)
