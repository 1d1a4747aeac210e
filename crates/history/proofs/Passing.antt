-- Rules 1 and 2: what they leave as it is, and what they end. Assumes nothing.
use mathlib.Core.Path.{◌≡◌, refl, ◌∙◌}
use Prim.Native.Nat.{ℕ}
use mathlib.Core.Bool.{true, false}
use mathlib.Core.List.{List}
use Rattle.records.specs.declared.forms.WordRecord.{WordRecord}
use Rattle.terminal.specs.States.{no_message, at_time}
use Rattle.terminal.specs.Commands.{is_own, is_exempt}
use Rattle.terminal.specs.Messages.{is_under_way, awaits_data, is_due, is_late, awaits_first, is_overdue, is_over}
use Rattle.terminal.specs.Rules.{settled_of, rule1, marked_of, faulty_of, rule2}
use Rattle.terminal.specs.Events.{passed_of}
use Rattle.terminal.specs.declared.states.SpacingFault.{SpacingFault}
use Rattle.terminal.specs.declared.states.Held.{Held}
use Rattle.terminal.specs.declared.states.Message.{Message}
use Rattle.terminal.specs.declared.states.Terminal.{Terminal as State}
use Rattle.history.proofs.Tests.{false≢, cond_cases}
use Rattle.history.proofs.Keeping.{kept_same}
use Rattle.std.specs.Prelude.{Option}

-- they keep the setup
pub passed_setup : (s : State) (t : ℕ) (transmit : List ℕ) → (passed_of s t transmit).setup ≡ s.setup
unfolding passed_of rule1 rule2 settled_of faulty_of
passed_setup s t transmit =
    cond_cases same (is_over (rule1 s t transmit).message t) (λ over. first) (λ in_time_lem. first)
  where
    same : State → Type 0
    same x = x.setup ≡ s.setup

    first : (rule1 s t transmit).setup ≡ s.setup
    first = cond_cases same (is_due s.message t) (λ due. refl) (λ not_due. refl)

-- so an own command is one before and after them
pub passed_own : (s : State) (t : ℕ) (transmit : List ℕ) (r : WordRecord) → is_own (passed_of s t transmit).setup.own r ≡ is_own s.setup.own r
passed_own s t transmit r = rw (passed_setup s t transmit)

-- they begin no message: what holds of none and of that under way holds after them
pub passed_message : (P : Message → Type 0) → P no_message → (s : State) (t : ℕ) (transmit : List ℕ) → P s.message → P (passed_of s t transmit).message
unfolding passed_of rule1 rule2 settled_of faulty_of
passed_message P none s t transmit h =
    cond_cases (λ (x : State). P x.message) (is_over (rule1 s t transmit).message t) (λ over. none)
    (λ in_time_lem. cond_cases (λ (x : State). P x.message) (is_due s.message t) (λ due. none) (λ not_due. h))

-- rule 2 changes neither the sending nor which transmitters are shut
pub passed_sending : (s : State) (t : ℕ) (transmit : List ℕ) → (passed_of s t transmit).sending ≡ (rule1 s t transmit).sending
unfolding passed_of rule2 faulty_of
passed_sending s t transmit =
    cond_cases (λ (x : State). x.sending ≡ (rule1 s t transmit).sending) (is_over (rule1 s t transmit).message t) (λ over. refl) (λ in_time_lem. refl)

faulty_shut : (s : State) (kind : Option SpacingFault) → (faulty_of s kind).held.shut ≡ s.held.shut
unfolding faulty_of
faulty_shut s kind =
    let w : ℕ = s.message.command.0 in
    kept_same (λ (h : Held). h.shut) (λ h overlapping separated. refl) (marked_of s.setup.own s.held w) kind
    ∙ cond_cases (λ (h : Held). h.shut ≡ s.held.shut) (is_exempt s.setup.own w) (λ exempt. refl) (λ other. refl)

pub passed_shut : (s : State) (t : ℕ) (transmit : List ℕ) → (passed_of s t transmit).held.shut ≡ (rule1 s t transmit).held.shut
unfolding passed_of rule2
passed_shut s t transmit =
    let x : State = rule1 s t transmit in
    cond_cases (λ (y : State). y.held.shut ≡ x.held.shut) (is_over x.message t)
    (λ over. faulty_shut x _)
    (λ in_time_lem. refl)

-- where nothing is due and no time over they set the time alone
pub still : (s : State) (t : ℕ) (transmit : List ℕ) → is_due s.message t ≡ false → is_over s.message t ≡ false → passed_of s t transmit ≡ at_time s t
unfolding passed_of rule1 rule2
still s t transmit due over = rw (due, over)

-- a message that is under way after them was not due, and its time not over
pub passed_under_way : (s : State) (t : ℕ) (transmit : List ℕ) → is_under_way (passed_of s t transmit).message.phase ≡ true
    → (is_due s.message t ≡ false) × (is_over s.message t ≡ false)
unfolding passed_of rule1 settled_of rule2 faulty_of is_late awaits_data is_overdue awaits_first
passed_under_way s t transmit =
    let Fact : Type 0 = (is_due s.message t ≡ false) × (is_over s.message t ≡ false) in
    cond_cases (λ (x : State). is_under_way (rule2 x t).message.phase ≡ true → Fact) (is_due s.message t) (λ due h. false≢ h)
    (λ not_due.
    cond_cases (λ (x : State). is_under_way x.message.phase ≡ true → Fact) (is_over s.message t) (λ over h. false≢ h)
    (λ in_time_lem h. (not_due, in_time_lem)))

-- a message that is due is ended
pub due_ends : (s : State) (t : ℕ) (transmit : List ℕ) → is_due s.message t ≡ true → (passed_of s t transmit).message ≡ no_message
unfolding passed_of rule1 rule2 settled_of faulty_of
due_ends s t transmit due =
    rw due
    (cond_cases (λ (x : State). x.message ≡ no_message) (is_over no_message t) (λ over. refl) (λ in_time_lem. refl))
