-- Demand 3, "After any calls at all": the calls, and the terminal after a list of them. Assumes nothing.
use Rattle.std.specs.Prelude.{◌≡◌, ℕ, Bool, true, false, not, cond, ◌&&◌, List, [], ◌∷◌, length, Option, is_none}
use Rattle.terminal.specs.States.{with_service, with_busy, with_subsystem, with_terminal_fault, with_vector_word, with_bit_word, with_host}
use Rattle.terminal.specs.Commands.{is_own}
use Rattle.terminal.specs.Settling.{no_answer}
use Rattle.terminal.specs.Events.{set_up_refusal, set_up_of, terminal_of, event_refusal, event_of, selftest_cleared, restarted_of}
use Rattle.terminal.specs.declared.states.Host.{Host}
use Rattle.terminal.specs.declared.states.Terminal.{Terminal as State}
use Rattle.terminal.specs.declared.answers.Answer.{Answer}
use Rattle.terminal.specs.declared.events.Event.{Event}
use Rattle.terminal.specs.declared.events.Event.TheVariants.{Mark, Word}

-- "Host calls set the flags (service request, busy, subsystem, terminal fault), vector and BIT words"
pub data Setting : Type 0 where
  service : Bool → Setting
  busy : Bool → Setting
  subsystem : Bool → Setting
  terminal_fault : Bool → Setting
  vector_word : ℕ → Setting
  bit_word : ℕ → Setting

-- The calls that give another terminal: set-up with any address and any two lists of masks; an event with any receive and any transmit table;
-- "Host calls set the flags .., vector and BIT words, clear the self-test request, or restart." The reads give none. `Terminal::fresh`, which judges
-- no address, is no call here: for an address up to 30 it gives what a set-up gives (`fresh_begins`), for one above `fresh_silent` holds.
pub data Call : Type 0 where
  set_up : ℕ → List ℕ → List ℕ → Call
  event : Event → List ℕ → List ℕ → Call
  host : Setting → Call
  clear_selftest : Call
  restart : Call

-- ---- accepted and refused

abbrev pub is_accepted : State → Event → List ℕ → List ℕ → Bool
is_accepted s e receive transmit = is_none (event_refusal s e (length receive) (length transmit))

abbrev pub is_set_up : ℕ → List ℕ → List ℕ → Bool
is_set_up address receive transmit = is_none (set_up_refusal address (length receive) (length transmit))

-- "No other call is refused."
abbrev pub is_refused : State → Call → Bool
is_refused s (set_up address receive transmit) = not (is_set_up address receive transmit)
is_refused s (event e receive transmit) = not (is_accepted s e receive transmit)
is_refused s (host setting) = false
is_refused s clear_selftest = false
is_refused s restart = false

-- ---- the terminal after a call, and after a list of calls

abbrev pub host_of : Host → Setting → Host
host_of h (service on) = with_service h on
host_of h (busy on) = with_busy h on
host_of h (subsystem on) = with_subsystem h on
host_of h (terminal_fault on) = with_terminal_fault h on
host_of h (vector_word word) = with_vector_word h word
host_of h (bit_word word) = with_bit_word h word

-- A refused set-up hands back a terminal that never answers: a caller who takes it is in `refused_silent`'s case. Here the terminal that there was
-- goes on.
unfoldable pub step : State → Call → State
step s (set_up address receive transmit) = cond (is_set_up address receive transmit) (terminal_of (set_up_of address receive transmit)) s
step s (event e receive transmit) = (event_of s e receive transmit).terminal
step s (host setting) = with_host s (host_of s.host setting)
step s clear_selftest = selftest_cleared s
step s restart = restarted_of s

unfoldable pub run : State → List Call → State
run s [] = s
run s (k ∷ ks) = run (step s k) ks

-- "After any calls at all": an accepted set-up, then any list of calls. Before the first accepted one there is no terminal but what a refused one
-- gives, which never answers (`refused_silent`), or `Terminal::fresh`: up to address 30 that is a set-up's, above it never answers (`fresh_begins`,
-- `fresh_silent`).
pub record Past : Type 0 where
  pub address : ℕ
  pub receive : List ℕ
  pub transmit : List ℕ
  pub accepted : is_set_up address receive transmit ≡ true
  pub calls : List Call

abbrev pub after_past : Past → State
after_past past = run (terminal_of (set_up_of past.address past.receive past.transmit)) past.calls

-- ---- what a call carries and brings

-- the answer that it carries
abbrev pub answer_in : State → Call → Option Answer
answer_in s (set_up address receive transmit) = no_answer
answer_in s (event e receive transmit) = (event_of s e receive transmit).answer
answer_in s (host setting) = no_answer
answer_in s clear_selftest = no_answer
answer_in s restart = no_answer

-- it is an accepted set-up
abbrev pub sets_up : Call → Bool
sets_up (set_up address receive transmit) = is_set_up address receive transmit
sets_up (event e receive transmit) = false
sets_up (host setting) = false
sets_up clear_selftest = false
sets_up restart = false

-- it brings an accepted "valid command to it or to all terminals"
abbrev pub brings_own : State → Call → Bool
brings_own s (set_up address receive transmit) = false
brings_own s (event (Mark t) receive transmit) = false
brings_own s (event (Word r) receive transmit) = is_accepted s (Word r) receive transmit && is_own s.setup.own r
brings_own s (host setting) = false
brings_own s clear_selftest = false
brings_own s restart = false
