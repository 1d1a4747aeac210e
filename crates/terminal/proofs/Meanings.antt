-- Rules 3 to 6 as the code goes about them: what a record is, and then what is changed. Assumes nothing.
use mathlib.Core.Path.{◌≡◌, refl, sym, ap, ◌∙◌}
use mathlib.Core.Bool.{Bool, true, false, cond, ◌&&◌, true≢false}
use Prim.Native.Nat.{ℕ, ◌+◌, ◌*◌, ◌<◌}
use native.Mathlib.Omega.{arith}
use lib.Dec.{eqb, leb, ltb}
use borrow.Author.Tests.{eqb-true, ne_eqb}
use Rattle.std.specs.Prelude.{Option, Some, None}
use Rattle.words.specs.declared.refusals.Refusal.TheVariants.{TableSize, OutOfRange, OutOfOrder}
use Rattle.words.specs.Words.{word_ticks, on_clock}
use Rattle.std.proofs.lemmas.Bool.{and_parts}
use Rattle.records.specs.declared.forms.WordRecord.{WordRecord}
use Rattle.terminal.specs.Commands.{is_own}
use Rattle.terminal.specs.Messages.{is_on, awaits_data, is_sent, is_sending, is_next_data, is_second, is_status_from}
use Rattle.terminal.specs.Settling.{other_bus}
use Rattle.terminal.specs.Rules.{faulty_of, rule4, cuts_sending, next_data, next_word, rule5, rules3to6}
use Rattle.terminal.specs.Events.{time_of, event_refusal, taken_of, cut_of}
use Rattle.terminal.specs.Works.{work_of, with_work, told_of, data_meaning, word_meaning, meaning_of, heard_meaning, is_beginning, cut_by, changed_of}
use Rattle.terminal.specs.declared.states.Own.{Own}
use Rattle.terminal.specs.declared.states.Phase.{Phase}
use Rattle.terminal.specs.declared.states.Phase.TheVariants.{Idle, First, Pledged, Confirmed, Data}
use Rattle.terminal.specs.declared.states.Message.{Message}
use Rattle.terminal.specs.declared.states.Sending.{Sending}
use Rattle.terminal.specs.declared.states.Work.{Work}
use Rattle.terminal.specs.declared.states.Terminal.{Terminal as State}
use Rattle.terminal.specs.declared.rules.Meaning.{Meaning}
use Rattle.terminal.specs.declared.rules.Meaning.TheVariants.{Ignored, Begins, SecondCommand, Status, DataWord, Faulty, Nothing}
use Rattle.terminal.specs.declared.events.Event.{Event}
use Rattle.terminal.specs.declared.events.Event.TheVariants.{Mark, Word}
use Rattle.terminal.specs.declared.events.Told.{Told}
use Rattle.terminal.proofs.Counts.{awaits_few}

-- ---- the test of a phase, at that phase

pub at_phase_lem : (own : Own) (m : Message) (r : WordRecord) (p : Phase) (x : Meaning) → m.phase ≡ p → x ≡ word_meaning p own m r → x ≡ word_meaning m.phase own m r
at_phase_lem own m r p x e h = h ∙ sym (ap (λ (q : Phase). word_meaning q own m r) e)

-- ---- what a meaning changes, at that meaning

pub at_meaning : (own : Own) (w : Work) (r : WordRecord) (m : Meaning) (x : Work) {n : Meaning} → n ≡ m → x ≡ changed_of own w r m → x ≡ changed_of own w r n
at_meaning own w r m x e h = h ∙ sym (ap (changed_of own w r) e)

-- ---- what is changed is what the rules change

abbrev changed : State → WordRecord → Meaning → State
changed s r m = with_work s (changed_of s.setup.own (work_of s) r m)

either : (s : State) (r : WordRecord) (b : Bool) (x y : State) (m n : Meaning) → x ≡ changed s r m → y ≡ changed s r n → cond b x y ≡ changed s r (cond b m n)
either s r true x y m n p q = p
either s r false x y m n p q = q

data_changed : (s : State) (r : WordRecord) → next_data s r ≡ changed s r (data_meaning s.message r)
unfolding next_data data_meaning changed_of faulty_of
data_changed s r = either s r (awaits_data s.message && is_next_data s.message r) _ _ _ _ refl refl

word_changed : (p : Phase) (s : State) (r : WordRecord) → next_word p s r ≡ changed s r (word_meaning p s.setup.own s.message r)
unfolding next_word word_meaning changed_of faulty_of
word_changed Idle s r = refl
word_changed Data s r = data_changed s r
word_changed Confirmed s r = data_changed s r
word_changed First s r = either s r (is_second s.setup.own s.message r) _ _ _ _ refl (data_changed s r)
word_changed (Pledged address) s r = either s r (is_status_from address r) _ _ _ _ refl refl

record_changed : (s : State) (r : WordRecord) → rules3to6 s r ≡ changed s r (meaning_of s.setup.own (work_of s) r)
unfolding rules3to6 meaning_of changed_of rule4 rule5
record_changed s r =
    either s r (is_sending s.sending r.bus r.time.0) _ _ _ _ refl
    (either s r (is_own s.setup.own r) _ _ _ _ refl (either s r (is_on s.message r.bus) _ _ _ _ (word_changed s.message.phase s r) refl))

pub taken_changed : (s : State) (e : Event) → taken_of s e ≡ changed s (told_of e).heard (heard_meaning s.setup.own (work_of s) (told_of e))
unfolding heard_meaning changed_of
taken_changed s (Mark t) = refl
taken_changed s (Word r) = record_changed s r

-- ---- a data word is one that is awaited

abbrev is_data_word : Meaning → Bool
is_data_word Ignored = false
is_data_word Begins = false
is_data_word SecondCommand = false
is_data_word Status = false
is_data_word DataWord = true
is_data_word Faulty = false
is_data_word Nothing = false

false≢ : {X : Type 0} → false ≡ true → X
false≢ h = absurd (true≢false (sym h))

-- of a choice that is a data word one side is
pick : {X : Type 0} (b : Bool) (m n : Meaning) → (b ≡ true → is_data_word m ≡ true → X) → (is_data_word n ≡ true → X) → is_data_word (cond b m n) ≡ true → X
pick true m n f g e = f refl e
pick false m n f g e = g e

data_few : (m : Message) (r : WordRecord) → is_data_word (data_meaning m r) ≡ true → m.got < 32
unfolding data_meaning
data_few m r =
    pick (awaits_data m && is_next_data m r) _ _ (λ both _. awaits_few m (and_parts (awaits_data m) (is_next_data m r) both).0) (λ e. false≢ e)

word_few : (p : Phase) (own : Own) (m : Message) (r : WordRecord) → is_data_word (word_meaning p own m r) ≡ true → m.got < 32
unfolding word_meaning
word_few Idle own m r e = false≢ e
word_few Data own m r e = data_few m r e
word_few Confirmed own m r e = data_few m r e
word_few First own m r e = pick (is_second own m r) _ _ (λ _ d. false≢ d) (data_few m r) e
word_few (Pledged address) own m r e = pick (is_status_from address r) _ _ (λ _ d. false≢ d) (λ d. false≢ d) e

record_few : (own : Own) (w : Work) (r : WordRecord) → is_data_word (meaning_of own w r) ≡ true → w.message.got < 32
unfolding meaning_of
record_few own w r =
    pick (is_sending w.sending r.bus r.time.0) _ _ (λ _ d. false≢ d)
    (pick (is_own own r) _ _ (λ _ d. false≢ d)
    (pick (is_on w.message r.bus) _ _ (λ _ d. word_few w.message.phase own w.message r d) (λ d. false≢ d)))

pub heard_few : (own : Own) (w : Work) (told : Told) → heard_meaning own w told ≡ DataWord → w.message.got < 32
unfolding heard_meaning
heard_few own w told e = pick told.mark _ _ (λ _ d. false≢ d) (record_few own w told.heard) (ap is_data_word e)

-- ---- what is cut is what rule 4 cuts: where a record is ignored, the sending is on its own bus and on no other

other_bus_else : (bus : ℕ) → eqb bus (other_bus bus) ≡ false
unfolding other_bus
other_bus_else bus = go (eqb bus 0) refl
  where
    go : (b : Bool) → eqb bus 0 ≡ b → eqb bus (cond b 1 0) ≡ false
    go true e = let zero : bus ≡ 0 = eqb-true bus 0 e in ne_eqb bus 1 (λ one. absurd (omega arith))
    go false e = e

one_bus : (o : Option Sending) (bus t : ℕ) → is_sending o bus t ≡ true → is_sending o (other_bus bus) t ≡ false
unfolding is_sending is_sent
one_bus None bus t h = refl
one_bus (Some s) bus t h =
    let tests = (and_parts (eqb s.bus bus && leb s.from.0 t) (ltb t (s.from.0 + word_ticks * s.words)) h).0 in
    let here : s.bus ≡ bus = eqb-true s.bus bus (and_parts (eqb s.bus bus) (leb s.from.0 t) tests).0 in
    rw (here, other_bus_else bus) refl

quiet : (b : Bool) (m n : Meaning) → is_beginning m ≡ false → is_beginning n ≡ false → is_beginning (cond b m n) ≡ false
quiet true m n p q = p
quiet false m n p q = q

-- rule 5 begins no message
data_quiet : (m : Message) (r : WordRecord) → is_beginning (data_meaning m r) ≡ false
unfolding data_meaning
data_quiet m r = quiet (awaits_data m && is_next_data m r) _ _ refl refl

word_quiet : (p : Phase) (own : Own) (m : Message) (r : WordRecord) → is_beginning (word_meaning p own m r) ≡ false
unfolding word_meaning
word_quiet Idle own m r = refl
word_quiet Data own m r = data_quiet m r
word_quiet Confirmed own m r = data_quiet m r
word_quiet First own m r = quiet (is_second own m r) _ _ refl (data_quiet m r)
word_quiet (Pledged address) own m r = quiet (is_status_from address r) _ _ refl refl

cut_where : (a o : Bool) (n : Meaning) (x : Bool) → (a ≡ true → x ≡ false) → is_beginning n ≡ false → (o && x) ≡ (is_beginning (cond a Ignored (cond o Begins n)) && x)
cut_where true true n x f h = f refl
cut_where true false n x f h = refl
cut_where false true n x f h = refl
cut_where false false n x f h = sym (ap (λ (b : Bool). b && x) h)

pub cut_changed : (s : State) (e : Event) → cut_of s e ≡ cut_by (work_of s) (told_of e).heard (heard_meaning s.setup.own (work_of s) (told_of e))
unfolding cut_by heard_meaning cuts_sending meaning_of
cut_changed s (Mark t) = refl
cut_changed s (Word r) =
    cut_where (is_sending s.sending r.bus r.time.0) (is_own s.setup.own r) _ _ (one_bus s.sending r.bus r.time.0)
    (quiet (is_on s.message r.bus) _ _ (word_quiet s.message.phase s.setup.own s.message r) refl)

-- ---- a time mark is refused as the record that it is told as

mark_ranged : (a : Bool) → a ≡ (a && true && true && true && true)
mark_ranged true = refl
mark_ranged false = refl

pub told_refused : (s : State) (e : Event) (n m : ℕ) → event_refusal s (Word (told_of e).heard) n m ≡ event_refusal s e n m
unfolding event_refusal
told_refused s (Mark t) n m =
    ap (λ (x : Bool). cond (eqb n 1024 && eqb m 1024) (cond x (cond (leb s.time.0 t.0) None (Some OutOfOrder)) (Some OutOfRange)) (Some TableSize)) (sym (mark_ranged (on_clock t.0)))
told_refused s (Word r) n m = refl

pub told_time : (e : Event) → (told_of e).heard.time.0 ≡ time_of e
told_time (Mark t) = refl
told_time (Word r) = refl
