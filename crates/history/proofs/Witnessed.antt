-- Histories worked out, by computation. Assumes nothing.
use mathlib.Core.Path.{refl}
use lib.Dec.{lit≤}
use Rattle.terminal.specs.Events.{set_up_refusal, set_up_of}
use Rattle.terminal.specs.Cards.{same_words, is_answer}
use Rattle.terminal.proofs.Bench.{whole}
use Rattle.history.specs.Calls.{step, run}
use Rattle.history.specs.Courses.{over, between, word}
use Rattle.history.specs.Witnesses.{hears, all_legal, bench_after, past, asked, noise, sent, given, first, answers_to, answers_at_1660, none, its_data, opening, message, losses, at_all, event_lost}
use Rattle.history.specs.Faults.{asking, broken, aftermath, question, meanwhile, is_marked, fault, wipes, marks, each, reports, reports_at_3260, questioned, untold, marked_at_all, event_untold}
use Rattle.history.specs.Exchanges.{ordered, exchanged, brought, orders, replies, sends, answers_by_2420, heard_at_1600, heard_at_1750, second_is, status_is, first_is, not_heard, waits}
use Rattle.history.specs.Exchanges as exchange
use Rattle.history.specs.Demands.{Witness, Needed, MarkWitness, MarkNeeded, ExchangeWitness, ExchangeNeeded}

-- every definition that a history runs through
unfoldable histories : Unit {0}
unfolding whole set_up_refusal set_up_of step run hears all_legal bench_after past asked noise sent given first answers_to answers_at_1660 none its_data opening message losses at_all event_lost
    asking broken aftermath question meanwhile is_marked fault wipes marks each reports reports_at_3260 questioned untold marked_at_all event_untold
histories = tt

unfoldable exchanges : Unit {0}
unfolding ordered exchanged brought orders replies sends answers_by_2420 heard_at_1600 heard_at_1750 second_is status_is first_is not_heard waits
exchanges = tt

-- the plain message is answered, and no message with a broken premise is
pub needed : Needed
unfolding histories
needed = (tt, tt, tt)

-- the command, each call of the noise in its place with the two data words among them, and the answer
pub witness : Witness
unfolding histories
witness = record {
  set = refl;
  address = lit≤ tt;
  asks = record { accepted = refl; valid = refl; sync = refl; own = refl; quiet = refl; transmitter = refl };
  count = refl;
  runs =
      between refl (λ e. refl)
      (between refl (λ e. refl)
      (word (record { accepted = refl; valid = refl; sync = refl; on = refl; spaced = refl })
      (between refl (λ e. refl)
      (between refl (λ e. refl)
      (between refl (λ e. refl)
      (between refl (λ e. refl)
      (word (record { accepted = refl; valid = refl; sync = refl; on = refl; spaced = refl })
      (between refl (λ e. refl) (between refl (λ e. refl) (between refl (λ e. refl) (between refl (λ e. refl) over)))))))))));
  accepted = refl;
  then = lit≤ tt;
  answer = refl;
}

-- faults are marked and answered with, and with a broken premise they are not
pub mark_needed : MarkNeeded
unfolding histories
mark_needed = (tt, tt, tt, tt, tt)

-- the fault, each call after it, the question and its answer
pub mark_witness : MarkWitness
unfolding histories is_answer same_words
mark_witness = record {
  set = refl;
  address = lit≤ tt;
  accepted = refl;
  marks = refl;
  outside = refl;
  all = (refl, (refl, (refl, (refl, (refl, (refl, (refl, (refl, (refl, (refl, (refl, (refl, tt))))))))))));
  held = refl;
  asks = record { accepted = refl; valid = refl; sync = refl; own = refl; quiet = refl; transmitter = refl };
  exempt = refl;
  runs = between refl (λ e. refl) over;
  taken = refl;
  then = lit≤ tt;
  answer = refl;
}

-- a message between terminals is answered, and none with a broken premise is
pub exchange_needed : ExchangeNeeded
unfolding histories exchanges
exchange_needed = (tt, tt, tt, tt)

-- the two commands, the status, the two data words, and each call between
pub exchange_witness : ExchangeWitness
unfolding histories exchanges is_answer same_words
exchange_witness = record {
  set = refl;
  address = lit≤ tt;
  asks = record { accepted = refl; valid = refl; sync = refl; own = refl; quiet = refl; transmitter = refl };
  receives = refl;
  plain = refl;
  count = refl;
  runs =
      exchange.between refl
      (exchange.second
      (record {
        accepted = refl;
        valid = refl;
        sync = refl;
        on = refl;
        spaced = refl;
        transmits = refl;
        another = refl;
        one = refl;
        plain = refl;
        count = refl;
      })
      (exchange.between refl
      (exchange.between refl
      (exchange.between refl
      (exchange.status (record { accepted = refl; valid = refl; sync = refl; on = refl; from = refl })
      (exchange.between refl
      (exchange.between refl
      (exchange.between refl
      (exchange.first (record { accepted = refl; valid = refl; sync = refl; on = refl; spaced = refl }) (lit≤ tt)
      (between refl (λ e. refl)
      (word (record { accepted = refl; valid = refl; sync = refl; on = refl; spaced = refl }) (between refl (λ e. refl) over))))))))))));
  accepted = refl;
  then = lit≤ tt;
  answer = refl;
}
