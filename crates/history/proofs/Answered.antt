-- Demand 3, its first half: the answer to a command to the own address, whatever came before and whatever may come between. Assumes nothing.
use mathlib.Core.Path.{◌≡◌, refl, sym, ap, ◌∙◌}
use Prim.Native.Nat.{ℕ, ◌+◌, ◌≤◌}
use mathlib.Core.Bool.{Bool, true, false, cond}
use mathlib.Core.List.{List, [], ◌++◌}
use native.Mathlib.Omega.{arith}
use lib.ListN.{length, take, drop}
use lib.Seq.{paste, take_all}
use borrow.Author.Tests.{le-leb, ne_eqb, not-true}
use Rattle.words.specs.Words.{due_distance, address_of, words_of, is_transmit, is_mode, is_broadcast, awaited_of}
use Rattle.records.specs.declared.forms.WordRecord.{WordRecord}
use Rattle.terminal.specs.States.{with_selftest, no_message, state_of, with_host}
use Rattle.terminal.specs.Messages.{is_under_way, is_whole, is_due}
use Rattle.terminal.specs.Settling.{is_shut, settled_status, first_place, mode_words, legal_reply, reply_of, stores_data, stored_of, is_withheld, answer_of}
use Rattle.terminal.specs.Rules.{status_now, reply_now, rule1_answer, rule1_receive}
use Rattle.terminal.specs.Events.{time_of, passed_of, happens_of, event_of, event_receive}
use Rattle.terminal.specs.declared.states.Held.{Held}
use Rattle.terminal.specs.declared.states.Setup.{Setup}
use Rattle.terminal.specs.declared.states.Message.{Message}
use Rattle.terminal.specs.declared.states.Terminal.{Terminal as State}
use Rattle.terminal.specs.declared.answers.Answer.{Answer}
use Rattle.terminal.specs.declared.answers.Reply.{Reply}
use Rattle.terminal.specs.declared.events.Event.{Event}
use Rattle.terminal.specs.declared.events.Event.TheVariants.{Word}
use Rattle.history.specs.Calls.{Call, event, is_accepted, step, run}
use Rattle.history.specs.Courses.{Command}
use Rattle.history.specs.Demands.{composing, due_answer, Carried, Answered}
use Rattle.history.proofs.Tests.{some_same, false≢, and_left, and_right}
use Rattle.history.proofs.Steps.{accepted, accepted_table}
use Rattle.history.proofs.Passing.{due_ends}
use Rattle.history.proofs.Idle.{event_idle, idle_run, idle_answer}
use Rattle.history.proofs.Later.{event_since, answers_later}
use Rattle.history.proofs.Ways.{Way, Gathered}
use Rattle.history.proofs.Carrying.{Arrived, carry}
use Rattle.history.proofs.Begun.{begun_direct, begun_gathered, begun_way, begun_on}
use Rattle.std.specs.Prelude.{Option, Some}

-- ---- what settling reads: the setup, the host's parts, and what is held but for the self-test request

module _ (s begun : State) (setup : s.setup ≡ begun.setup) (held : with_selftest s.held false ≡ with_selftest begun.held false) where
  -- a value that reads the setup and what is held is the same
  same_read : {A : Type 0} (read : Setup → Held → A) → read s.setup (with_selftest s.held false) ≡ read begun.setup (with_selftest begun.held false)
  same_read read = rw (setup, held)

  settled_same : (w : ℕ) → settled_status s w ≡ settled_status (with_host begun s.host) w
  unfolding settled_status
  settled_same w = same_read (λ a h. settled_status (state_of a s.host h s.message s.sending s.time.0 s.next) w)

  reply_same : (w : ℕ) (transmit : List ℕ) → reply_of s w transmit ≡ reply_of (with_host begun s.host) w transmit
  unfolding reply_of legal_reply mode_words
  reply_same w transmit =
      same_read (λ a h. reply_of (state_of a s.host h s.message s.sending s.time.0 s.next) w transmit)

  stores_same : (w : ℕ) → stores_data s w ≡ stores_data (with_host begun s.host) w
  unfolding stores_data
  stores_same w = rw setup

  shut_same : (bus : ℕ) → is_shut s.held bus ≡ is_shut begun.held bus
  shut_same bus = ap (λ (h : Held). is_shut h bus) held

-- ---- a message that is due

-- it is due at and after its due time
due_then : {bus command latest : ℕ} {words : List ℕ} {m : Message} → Gathered bus command latest words m → length words ≡ awaited_of command → (t : ℕ)
    → latest + due_distance ≤ t
    → is_due m t ≡ true
unfolding is_due is_whole
due_then {command = command} {latest = latest} {words = words} g all t h =
    rw (g.counts, g.asked, g.got, g.last, le-leb (awaited_of command) (length words) (omega arith), le-leb (latest + due_distance) t h)

-- a message that stores its data words awaits as many as it stores
stores_awaits : (s : State) (w : ℕ) → stores_data s w ≡ true → awaited_of w ≡ words_of w
unfolding stores_data awaited_of
stores_awaits s w stores =
    let receives : is_transmit w ≡ false = not-true (is_transmit w) (search (and_left, and_right, stores)) in
    let plain : is_mode w ≡ false = not-true (is_mode w) (search (and_left, and_right, stores)) in
    rw (receives, plain)

-- ---- its answer

-- an accepted event at or after the due time of a message that is whole
module _ (begun : State) (bus w end : ℕ) (words : List ℕ) (s : State) {m : Message} (way : Way begun m s) (g : Gathered bus w end words m)
    (all : length words ≡ awaited_of w) (own : is_broadcast w ≡ false) (on : is_shut begun.held bus ≡ false)
    (e : Event) (receive transmit : List ℕ) (ok : is_accepted s e receive transmit ≡ true) (then : end + due_distance ≤ time_of e) where
  due : is_due s.message (time_of e) ≡ true
  due = ap (λ (x : Message). is_due x (time_of e)) way.message ∙ due_then g all (time_of e) then

  given : is_withheld s ≡ false
  unfolding is_withheld
  given = rw (way.message, g.asked, g.on, own) (shut_same s begun way.setup way.held bus ∙ on)

  -- the answer of such a message, from its parts
  abbrev made : ℕ → ℕ → ℕ → Reply → Option Answer
  made bus' last status reply = Some (record {
    bus = bus';
    due = record { 0 = last + due_distance };
    status = record { 0 = status };
    count = reply.count;
    words = reply.words;
  })

  settles : (event_of s e receive transmit).answer ≡ made s.message.bus s.message.last.0 (status_now s) (reply_now s transmit)
  unfolding happens_of rule1_answer answer_of
  settles = rw (accepted s e receive transmit ok, due, given)

  carries : (event_of s e receive transmit).answer
      ≡ made bus end (settled_status (with_host begun s.host) w) (reply_of (with_host begun s.host) w transmit)
  carries =
      settles
      ∙ ap (λ (x : Message). made x.bus x.last.0 (settled_status s x.command.0) (reply_of s x.command.0 transmit)) way.message
      ∙ rw (g.on, g.last, g.asked, settled_same s begun way.setup way.held w, reply_same s begun way.setup way.held w transmit)

  -- the data words that it stores are those that came
  stored : (b : Bool) → stores_data s w ≡ b
      → cond b (paste receive (first_place w) m.words (words_of w)) receive ≡ cond b (paste receive (first_place w) words (words_of w)) receive
  stored false h = refl
  stored true h =
      let count : words_of w ≡ length words = sym (all ∙ stores_awaits s w h) in
      let same : take (words_of w) m.words ≡ take (words_of w) words = rw count (g.kept ∙ sym (take_all (length words) words (omega arith))) in
      ap (λ (l : List ℕ). take (first_place w) receive ++ l ++ drop (first_place w + words_of w) receive) same

  -- the receive table after the message x is settled, which has come with that command word
  abbrev table : Message → ℕ → List ℕ
  table x command = cond (stores_data s command) (paste receive (first_place command) x.words (words_of command)) receive

  settles_table : event_receive s e receive transmit ≡ table s.message s.message.command.0
  unfolding rule1_receive stored_of
  settles_table = rw (accepted_table s e receive transmit ok, due)

  stores : event_receive s e receive transmit
      ≡ cond (stores_data (with_host begun s.host) w) (paste receive (first_place w) words (words_of w)) receive
  stores =
      settles_table
      ∙ ap (λ (x : Message). table x x.command.0) way.message
      ∙ ap (λ (n : ℕ). table m n) g.asked
      ∙ stored (stores_data s w) refl
      ∙ ap (λ (b : Bool). cond b (paste receive (first_place w) words (words_of w)) receive) (stores_same s begun way.setup way.held w)

-- ---- demand 3

-- an address up to 30 is not that of all terminals
not_broadcast : (own w : ℕ) → own ≤ 30 → address_of w ≡ own → is_broadcast w ≡ false
not_broadcast own w few to = ne_eqb (address_of w) 31 (λ h. omega arith)

-- a message that has arrived at its due time is answered
pub arrived_carried : (s : State) → s.setup.own.address ≤ 30 → (r : WordRecord) (receive transmit : List ℕ) → Command s r receive transmit
    → (words : List ℕ) → length words ≡ awaited_of r.word
    → (ks : List Call) (end : ℕ)
    → Arrived (step s (event (Word r) receive transmit)) r.bus r.word end words (step s (event (Word r) receive transmit)) ks
    → (e : Event) (receive' transmit' : List ℕ)
    → is_accepted (run (step s (event (Word r) receive transmit)) ks) e receive' transmit' ≡ true
    → end + due_distance ≤ time_of e
    → Carried (step s (event (Word r) receive transmit)) r words ks end e receive' transmit'
arrived_carried s few r receive transmit k words all ks end way e receive' transmit' ok then =
    let begun : State = step s (event (Word r) receive transmit) in
    let later : State = run begun ks in
    let own : is_broadcast r.word ≡ false = not_broadcast s.setup.own.address r.word few k.own in
    let on : is_shut begun.held r.bus ≡ false = begun_on s r receive transmit k in
    let answer : (event_of later e receive' transmit').answer ≡ Some (due_answer (composing begun ks) r end transmit') =
    carries begun r.bus r.word end words later way.way way.gathered all own on e receive' transmit' ok then in
    let next : State = step later (event e receive' transmit') in
    let ended : (passed_of later (time_of e) transmit').message ≡ no_message =
    due_ends later (time_of e) transmit'
    (due begun r.bus r.word end words later way.way way.gathered all own on e receive' transmit' ok then) in
    record {
      answer = answer;
      gap = λ a given. rw (← some_same _ _ (sym answer ∙ given)) (omega arith);
      table = stores begun r.bus r.word end words later way.way way.gathered all own on e receive' transmit' ok then;
      before = way.silent;
      after = λ foreign more none k.
          idle_answer (run next more) k (idle_run next more (event_idle later e receive' transmit' ok foreign ended) none);
      later = λ more none k.
          answers_later (time_of e) next more k
          (event_since (time_of e) later e receive' transmit' ok (omega arith) (λ on. false≢ (ap (λ (m : Message). is_under_way m.phase) (sym ended) ∙ on)))
          none;
    }

pub answered : Answered
answered s few r receive transmit k words all ks end course =
    arrived_carried s few r receive transmit k words all ks end
    (carry (step s (event (Word r) receive transmit)) r.bus r.word [] (begun_way s r receive transmit k) (begun_gathered r) (begun_direct r) (omega arith) course)
