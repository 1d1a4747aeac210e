-- A record that is nothing of the terminal's own acts as a time mark. Assumes nothing.
use mathlib.Core.Path.{◌≡◌, refl, sym, ◌∙◌}
use mathlib.Core.Bool.{false}
use Rattle.records.specs.declared.forms.WordRecord.{WordRecord}
use Rattle.terminal.specs.Commands.{is_own}
use Rattle.terminal.specs.Messages.{is_on, is_sending}
use Rattle.terminal.specs.Rules.{cuts_sending, rules3to6}
use Rattle.terminal.specs.Events.{passed_of, happens_of}
use Rattle.terminal.specs.declared.states.Message.{Message}
use Rattle.terminal.specs.declared.states.Terminal.{Terminal as State}
use Rattle.terminal.specs.declared.events.Event.TheVariants.{Mark, Word}
use Rattle.history.specs.States.{is_under_way_on}
use Rattle.history.specs.Demands.{AsAMark, AsAMarkOnceSettled}
use Rattle.history.proofs.Tests.{cond_same}
use Rattle.history.proofs.Passing.{passed_own, passed_message}
use Rattle.history.proofs.Steps.{accepted, accepted_table, mark_accepted}

-- ---- rule 6

pub passed_over : (s : State) (r : WordRecord) → is_own s.setup.own r ≡ false → is_on s.message r.bus ≡ false → rules3to6 s r ≡ s
unfolding rules3to6
passed_over s r foreign off = rw (foreign, off) (cond_same (is_sending s.sending r.bus r.time.0) s)

cuts_nothing : (s : State) (r : WordRecord) → is_own s.setup.own r ≡ false → cuts_sending s r ≡ false
unfolding cuts_sending
cuts_nothing s r foreign = rw foreign

-- ---- demand 3, its last sentence

pub as_a_mark_once_settled : AsAMarkOnceSettled
unfolding happens_of
as_a_mark_once_settled s r receive transmit ok foreign off =
    let ok-mark = mark_accepted s r receive transmit ok in
    let s1 : State = passed_of s r.time.0 transmit in
    let foreign1 : is_own s1.setup.own r ≡ false =
    passed_own s r.time.0 transmit r ∙ foreign in (
      rw (accepted s (Word r) receive transmit ok, accepted s (Mark r.time) receive transmit ok-mark, passed_over s1 r foreign1 (unfold is_on in off), cuts_nothing s1 r foreign1),
      accepted_table s (Word r) receive transmit ok ∙ sym (accepted_table s (Mark r.time) receive transmit ok-mark),
    )

pub as_a_mark : AsAMark
as_a_mark s r receive transmit ok foreign off =
    as_a_mark_once_settled s r receive transmit ok foreign
    (passed_message (λ (m : Message). is_under_way_on m r.bus ≡ false) refl s r.time.0 transmit off)
