-- By whether it is refused; else the rules in their order. Assumes nothing.
use mathlib.Core.Path.{refl, sym, ap, ◌∙◌}
use lib.ListN.{length}
use Rattle.terminal.specs.Events.{event_refusal, event_of, event_receive}
use Rattle.terminal.specs.declared.events.Event.TheVariants.{Word}
use Rattle.terminal.specs.declared.events.Told.{Told}
use Rattle.terminal.proofs.Accepted.{event_tables}
use Rattle.terminal.proofs.Happenings.{happens}
use Rattle.terminal.proofs.Meanings.{heard_few, told_refused, told_time}
use Rattle.terminal.proofs.states.Terminal.event.Goals as goal

pub returns-in-Some : goal.returns-in-Some
unfolding event_of event_receive
returns-in-Some c =
    let a = c.args in
    let refusal =
    sym (ap (λ (x : Told). event_refusal a.self (Word x.heard) (length a.receive.now) (length a.transmit.now)) c.told-told.ensures.told
    ∙ told_refused a.self a.event (length a.receive.now) (length a.transmit.now))
    ∙ sym c.event_refusal.ensures.refusal
    ∙ c.in-Some.is in
    record { happened = rw refusal c.refused.ensures.happened; receive = rw refusal refl }

pub pass-passed-requires : goal.pass-passed-requires
pass-passed-requires c =
    let a = c.args in
    let refusal =
    sym (ap (λ (x : Told). event_refusal a.self (Word x.heard) (length a.receive.now) (length a.transmit.now)) c.told-told.ensures.told
    ∙ told_refused a.self a.event (length a.receive.now) (length a.transmit.now))
    ∙ sym c.event_refusal.ensures.refusal
    ∙ c.in_default.is in
    event_tables a.self a.event (length a.receive.now) (length a.transmit.now) refusal

pub changed-taken-requires : goal.changed-taken-requires
changed-taken-requires c = λ is. heard_few _ _ _ (sym c.heard_meaning-meaning.ensures.meaning ∙ is)

pub returns : goal.returns
unfolding event_of event_receive
returns c =
    let a = c.args in
    let told = c.told-told.ensures.told in
    let refusal =
    sym (ap (λ (x : Told). event_refusal a.self (Word x.heard) (length a.receive.now) (length a.transmit.now)) told
    ∙ told_refused a.self a.event (length a.receive.now) (length a.transmit.now))
    ∙ sym c.event_refusal.ensures.refusal
    ∙ c.in_default.is in
    let time = ap (λ (x : Told). x.heard.time.0) told ∙ told_time a.event in
    let gave = c.pass-passed.ensures in
    record {
      happened = rw refusal (happens a.self a.event a.transmit.now _ _ _ _ _ _ _ told gave.work gave.answer c.heard_meaning-meaning.ensures.meaning c.cuts_sending-cut.ensures.answer c.changed-taken.ensures.work c.with_work-terminal.ensures.terminal);
      receive = rw (refusal, ← time) gave.receive;
    }
