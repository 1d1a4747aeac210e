-- Rules 3 to 6: what they keep of a state, and what they leave true of its message. Assumes nothing.
use mathlib.Core.Path.{◌≡◌, refl, ap}
use mathlib.Core.Bool.{Bool, true, false, ◌&&◌}
use Rattle.records.specs.declared.forms.WordRecord.{WordRecord}
use Rattle.terminal.specs.States.{no_message, with_message}
use Rattle.terminal.specs.Commands.{is_own}
use Rattle.terminal.specs.Messages.{is_under_way, is_on, awaits_data, is_between, is_next_data, is_second, is_status_from}
use Rattle.terminal.specs.Rules.{faulty_of, rule3, begun_of, rule4, staged_of, moved_of, next_data, next_word, rule5, rules3to6}
use Rattle.terminal.specs.declared.states.SpacingFault.{SpacingFault}
use Rattle.terminal.specs.declared.states.Phase.{Phase}
use Rattle.terminal.specs.declared.states.Phase.TheVariants.{Idle, First, Pledged, Confirmed, Data}
use Rattle.terminal.specs.declared.states.Message.{Message}
use Rattle.terminal.specs.declared.states.Terminal.{Terminal as State}
use Rattle.history.proofs.Tests.{cond_cases, and_left}
use Rattle.std.specs.Prelude.{Option}

-- what a fault, another message and an own command keep, they keep
module _ {A : Type 0} (part : State → A)
    (faulty : (s : State) (kind : Option SpacingFault) → part (faulty_of s kind) ≡ part s)
    (moved : (s : State) (m : Message) → part (with_message s m) ≡ part s)
    (begun : (s : State) (r : WordRecord) → part (rule4 s r) ≡ part s)
    (s : State) (r : WordRecord) where
  abbrev same : State → Type 0
  same x = part x ≡ part s

  data_keeps : same (next_data s r)
  unfolding next_data
  data_keeps = cond_cases same (awaits_data s.message && is_next_data s.message r) (λ good. moved s (staged_of s.message r)) (λ bad. faulty s _)

  next_keeps : (p : Phase) → same (next_word p s r)
  unfolding next_word
  next_keeps Idle = refl
  next_keeps Data = data_keeps
  next_keeps Confirmed = data_keeps
  next_keeps First = cond_cases same (is_second s.setup.own s.message r) (λ second. moved s _) (λ other. data_keeps)
  next_keeps (Pledged address) = cond_cases same (is_status_from address r) (λ status. moved s _) (λ other. faulty s _)

  pub rules_keep : same (rules3to6 s r)
  unfolding rules3to6 rule5
  rules_keep =
      cond_cases same (rule3 s r) (λ sending. refl)
      (λ quiet.
      cond_cases same (is_own s.setup.own r) (λ own. begun s r)
      (λ foreign. cond_cases same (is_on s.message r.bus) (λ on. next_keeps s.message.phase) (λ off. refl)))

-- the phases that a word ends that is no data word: a second command word may come, or its status is awaited
abbrev pub is_asking : Phase → Bool
is_asking Idle = false
is_asking First = true
is_asking (Pledged address) = true
is_asking Confirmed = false
is_asking Data = false

pub asking_under_way : (p : Phase) → is_asking p ≡ true → is_under_way p ≡ true
asking_under_way Idle h = h
asking_under_way First h = h
asking_under_way (Pledged address) h = h
asking_under_way Confirmed h = refl
asking_under_way Data h = refl

-- what holds of no message, and of one with its next word, holds after them; of one that an own command begins, where it holds of that. The next word that
-- is no data word leads to a phase between terminals.
module _ (P : Message → Type 0) (none : P no_message) (r : WordRecord)
    (staged : (m : Message) → is_under_way m.phase ≡ true → P m → P (staged_of m r))
    (moved : (m : Message) (p : Phase) → is_between p ≡ true → is_asking m.phase ≡ true → P m → P (moved_of m p r))
    (s : State) (h : P s.message) where
  abbrev holds : State → Type 0
  holds x = P x.message

  data_holds : is_under_way s.message.phase ≡ true → holds (next_data s r)
  unfolding next_data faulty_of
  data_holds on = cond_cases holds (awaits_data s.message && is_next_data s.message r) (λ good. staged s.message on h) (λ bad. none)

  next_holds : (p : Phase) → s.message.phase ≡ p → is_under_way s.message.phase ≡ true → holds (next_word p s r)
  unfolding next_word faulty_of
  next_holds Idle is on = h
  next_holds Data is on = data_holds on
  next_holds Confirmed is on = data_holds on
  next_holds First is on =
      cond_cases holds (is_second s.setup.own s.message r) (λ second. moved s.message _ refl (ap is_asking is) h) (λ other. data_holds on)
  next_holds (Pledged address) is on =
      cond_cases holds (is_status_from address r) (λ from. moved s.message _ refl (ap is_asking is) h) (λ other. none)

  pub rules_hold : (is_own s.setup.own r ≡ true → P (begun_of r)) → holds (rules3to6 s r)
  unfolding rules3to6 rule4 rule5
  rules_hold begun =
      cond_cases holds (rule3 s r) (λ sending. h)
      (λ quiet.
      cond_cases holds (is_own s.setup.own r) begun
      (λ foreign. cond_cases holds (is_on s.message r.bus) (λ on. next_holds s.message.phase refl (unfold is_on in search (and_left, on))) (λ off. h)))
