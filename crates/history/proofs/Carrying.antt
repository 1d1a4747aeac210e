-- The course of calls from a command to the time of its answer. Assumes nothing.
use mathlib.Core.Path.{◌≡◌, refl}
use Prim.Native.Nat.{ℕ, suc, ◌+◌, ◌<◌}
use mathlib.Core.Bool.{true, false}
use mathlib.Core.List.{List, [], ◌∷◌, ◌++◌, append_assoc, append-nil}
use native.Mathlib.Omega.{arith}
use lib.ListN.{length, length-append}
use borrow.Author.Tests.{ltb-true}
use Rattle.words.specs.Words.{due_distance, awaited_of}
use Rattle.terminal.specs.Messages.{is_due, is_between, is_over}
use Rattle.terminal.specs.Settling.{no_answer}
use Rattle.terminal.specs.Rules.{staged_of}
use Rattle.terminal.specs.Events.{time_of}
use Rattle.terminal.specs.declared.states.Message.{Message}
use Rattle.terminal.specs.declared.states.Terminal.{Terminal as State}
use Rattle.terminal.specs.declared.events.Event.{Event}
use Rattle.terminal.proofs.Counts.{awaited_most}
use Rattle.history.specs.Calls.{Call, set_up, event, host, clear_selftest, restart, is_accepted, step, run, answer_in}
use Rattle.history.specs.Courses.{is_before, Course, over, between, word, Silent}
use Rattle.history.proofs.Times.{event_time, spaced_most, ahead}
use Rattle.history.proofs.Ways.{Way, Gathered, Calm, not_due, not_over, InTime, call_keeps, staged_gathered, word_moves, word_silent}

-- ---- the whole course

-- an accepted event between comes while nothing is due and no time over
module _ (s : State) {bus last end : ℕ} (e : Event) (receive transmit : List ℕ) (ok : is_accepted s e receive transmit ≡ true) where
  calm_between : {rest : List ℕ} {ks : List Call} → (rest ≡ [] → is_before s (last + due_distance) (event e receive transmit) ≡ true)
      → Course bus (step s (event e receive transmit)) last rest ks end
      → Calm rest last (time_of e)
  calm_between {rest = []} before course = ltb-true (time_of e) (last + due_distance) (rw ok at (before refl))
  calm_between {rest = x ∷ rest} before course = rw (event_time s e receive transmit ok) at (ahead course)

pub record Arrived (begun : State) (bus command end : ℕ) (words : List ℕ) (s : State) (ks : List Call) : Type 0 where
  pub message : Message
  pub way : Way begun message (run s ks)
  pub gathered : Gathered bus command end words message
  pub silent : Silent s ks

-- a call that carries no answer may stand before
pub behind : {begun : State} {bus command end : ℕ} {words : List ℕ} {s : State} {k : Call} {ks : List Call} → answer_in s k ≡ no_answer
    → Arrived begun bus command end words (step s k) ks
    → Arrived begun bus command end words s (k ∷ ks)
unfolding run
behind quiet rest = record { message = rest.message; way = rest.way; gathered = rest.gathered; silent = (quiet, rest.silent) }

in_time_between : {begun : State} {m : Message} {s : State} (way : Way begun m s) {bus command last end : ℕ} {words rest : List ℕ}
    (g : Gathered bus command last words m)
    → is_between m.phase ≡ false
    → length words + length rest ≡ awaited_of command
    → (k : Call) {ks : List Call} → (rest ≡ [] → is_before s (last + due_distance) k ≡ true)
    → Course bus (step s k) last rest ks end
    → InTime begun m s way bus g.on k
in_time_between {s = s} way {rest = rest} g direct all (event e receive transmit) before course =
    λ ok. let calm = calm_between s e receive transmit ok before course in
    (not_due g rest (time_of e) all calm, not_over g direct rest (time_of e) all calm)
in_time_between way g direct all (set_up address receive transmit) before course = tt
in_time_between way g direct all (host setting) before course = tt
in_time_between way g direct all clear_selftest before course = tt
in_time_between way g direct all restart before course = tt

pub carry : (begun : State) (bus command : ℕ) {s : State} {last end : ℕ} (words : List ℕ) {rest : List ℕ} {ks : List Call} {m : Message}
    → Way begun m s
    → Gathered bus command last words m
    → is_between m.phase ≡ false
    → length words + length rest ≡ awaited_of command
    → Course bus s last rest ks end
    → Arrived begun bus command end (words ++ rest) s ks
unfolding run staged_of
carry begun bus command words {m = m} way g direct all over =
    record { message = m; way = way; gathered = rw append-nil g; silent = tt }
carry begun bus command {s} words {m = m} way g direct all (between {k = k} may before course) =
    let kept = call_keeps begun m s way bus g.on k may (in_time_between way g direct all k before course) in
    behind kept.1 (carry begun bus command words kept.0 g direct all course)
carry begun bus command {s} words {m = m} way g direct all (word {last = last} {words = more} {r = r} {receive = receive} {transmit = transmit} next course) =
    let longer : length (words ++ (r.word ∷ [])) ≡ suc (length words) = simp length-append (omega arith) in
    let few : length words < 32 = omega (arith, awaited_most command) in
    let calm = spaced_most last r.time.0 next.spaced in
    let in_time_lem : (is_due m r.time.0 ≡ false) × (is_over m r.time.0 ≡ false) =
    (not_due g (r.word ∷ more) r.time.0 all calm, not_over g direct (r.word ∷ more) r.time.0 all calm) in
    behind (word_silent begun way g r receive transmit next more all in_time_lem)
    (rw (append_assoc words (r.word ∷ []) more)
    at
    (carry begun bus command (words ++ (r.word ∷ []))
    (word_moves begun way g r receive transmit next more all in_time_lem)
    (staged_gathered g r few)
    refl
    (omega arith)
    course))
