-- Each part by its own function, from the state before. Assumes nothing.
use mathlib.Core.Path.{ap}
use native.Mathlib.Omega.{arith}
use Rattle.terminal.specs.Rules.{settled_of}
use Rattle.terminal.specs.declared.answers.Reply.{Reply}
use Rattle.terminal.proofs.Counts.{reply_most}
use Rattle.terminal.proofs.Moments.{none_never}
use Rattle.terminal.proofs.states.Terminal.settle.Goals as goal

pub sending-sending-requires : goal.sending-sending-requires
sending-sending-requires c =
    let a = c in
    record {
      due_distance_bound = a.requires.2;
      count_bound = omega (arith, reply_most a.args.self a.args.self.message.command.0 a.args.transmit.now, ap (λ (r : Reply). r.count) c.reply-reply.ensures.reply);
    }

pub answer-answer-requires : goal.answer-answer-requires
answer-answer-requires c = c.requires.2

pub returns : goal.returns
unfolding settled_of
returns c =
    let status = c.settled_status-status.ensures.status in
    let reply = c.reply-reply.ensures.reply in
    record {
      answer = rw (c.answer-answer.ensures.answer, status, reply);
      work = rw (c.held_after-held.ensures.held, c.none-message.ensures.message, c.sending-sending.ensures.sending, status, reply, none_never);
      receive = c.store_data.ensures.receive;
    }
