-- What a part of a line tells: the same text, whatever stands behind it, is of the same thing, and what stands behind it is the same. A number ends where no
-- digit follows, and what follows a part begins with a space. Assumes nothing.
use mathlib.Core.Path.{◌≡◌, refl, sym, ap, ap₂, ◌∙◌}
use mathlib.Core.Bool.{Bool, true, false, cond, not, true≢false}
use Prim.Native.Nat.{ℕ, ◌/◌, ◌%◌, ◌^◌, ◌≤◌}
use native.Mathlib.Omega.{arith}
use mathlib.Core.List.{List, [], ◌∷◌, ◌++◌, append_assoc}
use lib.Dec.{eqb}
use lib.ListN.{length, get_or, take, drop}
use borrow.Author.Tests.{eq-eqb, eqb-true, eqb-false}
use Rattle.words.proofs.Truth.{passes, passed}
use Rattle.records.specs.declared.forms.WordRecord.{WordRecord}
use Rattle.monitor.specs.declared.entries.Commands.{Commands}
use Rattle.monitor.specs.declared.entries.Commands.TheVariants as commands
use Rattle.monitor.specs.declared.entries.Statuses.{Statuses}
use Rattle.monitor.specs.declared.entries.Statuses.TheVariants as statuses
use Rattle.monitor.specs.declared.entries.Gap.{Gap}
use Rattle.monitor.specs.declared.entries.Gap.TheVariants as gap
use Rattle.monitor.specs.declared.entries.Message.{Message}
use Rattle.monitor.specs.declared.entries.Entry.{Entry}
use Rattle.monitor.specs.declared.entries.Entry.TheVariants as entry
use Rattle.std.proofs.Common.{Option, None, Some}
use Rattle.std.proofs.lemmas.List.{append_cancel_left}
use Rattle.verdict.specs.Numbers.{number_of}
use Rattle.verdict.specs.declared.verdicts.Verdict.{Verdict}
use Rattle.lines.specs.Sinks.{digit_of, word_text, decimal_text}
use Rattle.lines.specs.Spells.{text_of}
use Rattle.lines.specs.Numbers.{is_digit, number_read, hexadecimal_read}
use Rattle.lines.proofs.Backs.{text_digits, text_some, decimal_back, word_back}
use Rattle.texts.specs.Entries.{bus_text, begin_text, pair_text, commands_text, statuses_text, gap_text, verdict_name, outcome_text, message_text, single_text, all_fields_text, flaws_text, bad_text, added_text, entry_text, line_of}
use Rattle.texts.specs.Theorems.{Number, Word, CommandsFit, StatusesFit, GapFits, OutcomeFits, MessageFits, SingleFits, TextTells, are_all, is_sign, is_plain, lines_of, LinesTell}
use Rattle.texts.proofs.Choices.{same_verdict, each_name}
use Rattle.texts.proofs.Fronts.{digits_all, all_begins, front_tells}
use Rattle.texts.proofs.Signs.{line_plain}

pub record Tells {A : Type 0} (Fit : A → Type 0) (Behind : List ℕ → Type 0) (text : A → List ℕ) : Type 0 where
  pub tell : (a b : A) (x y : List ℕ) → Fit a → Fit b → Behind x → Behind y → text a ++ x ≡ text b ++ y → (a ≡ b) × (x ≡ y)

-- Nothing, or it begins with a space.
abbrev Apart : List ℕ → Type 0
Apart text = get_or text 0 32 ≡ 32

abbrev Any : List ℕ → Type 0
Any text = Unit {0}

-- It begins with a space, and so it is apart, whatever stands behind it.
abbrev Begins : List ℕ → Type 0
Begins text = get_or text 0 0 ≡ 32

begins_apart : (text x : List ℕ) → Begins text → Apart (text ++ x)
begins_apart [] x b = absurd (omega (arith, b))
begins_apart (c ∷ text) x b = b

begins_both : (a b : List ℕ) → Begins a → Begins (a ++ b)
begins_both [] b e = absurd (omega (arith, e))
begins_both (c ∷ a) b e = e

-- ---- parts behind one another

-- what is the same behind a front, where the brackets stand as a definition has them
inner : (a b x c d y : List ℕ) → (a ++ b) ++ x ≡ (c ++ d) ++ y → a ++ (b ++ x) ≡ c ++ (d ++ y)
inner a b x c d y e = sym (append_assoc a b x) ∙ e ∙ append_assoc c d y

keyed : {A : Type 0} {Fit : A → Type 0} {Behind : List ℕ → Type 0} {text : A → List ℕ} (key : List ℕ) → Tells Fit Behind text
    → Tells Fit Behind (λ a. key ++ text a)
keyed {text = text} key part =
    record { tell = λ a b x y p q s t e. part.tell a b x y p q s t (append_cancel_left key (text a ++ x) (text b ++ y) (inner key (text a) x key (text b) y e)) }

both : {A B : Type 0} {Fit : A → Type 0} {Fit₂ : B → Type 0} {Behind Behind₂ : List ℕ → Type 0} {text : A → List ℕ} {text₂ : B → List ℕ}
    → Tells Fit Behind text → Tells Fit₂ Behind₂ text₂ → ((b : B) (y : List ℕ) → Behind₂ y → Behind (text₂ b ++ y))
    → Tells {A = A × B} (λ p. Fit p.0 × Fit₂ p.1) Behind₂ (λ p. text p.0 ++ text₂ p.1)
both {A} {B} {text = text} {text₂ = text₂} first second behind =
    record {
      tell = λ a b x y p q s t e.
          let one = first.tell a.0 b.0 (text₂ a.1 ++ x) (text₂ b.1 ++ y) p.0 q.0 (behind a.1 x s) (behind b.1 y t)
          (inner (text a.0) (text₂ a.1) x (text b.0) (text₂ b.1) y e) in
          let two = second.tell a.1 b.1 x y p.1 q.1 s t one.1 in
          (ap₂ {C = A × B} (λ (u : A) (v : B). (u, v)) one.0 two.0, two.1);
    }

-- a thing that is made of the fields that its text has
made_of : {A B : Type 0} {Fit : A → Type 0} {Fit₂ : B → Type 0} {Behind : List ℕ → Type 0} {text : B → List ℕ} (fields : A → B) (made : B → A)
    → ((a : A) → made (fields a) ≡ a) → ((a : A) → Fit a → Fit₂ (fields a)) → Tells Fit₂ Behind text → Tells Fit Behind (λ a. text (fields a))
made_of fields made back fit parts =
    record {
      tell = λ a b x y p q s t e.
          let same = parts.tell (fields a) (fields b) x y (fit a p) (fit b q) s t e in
          (sym (back a) ∙ ap made same.0 ∙ back b, same.1);
    }

-- ---- numbers

no_digit : (x : List ℕ) → Apart x → is_digit (get_or x 0 32) ≡ false
no_digit x s = ap is_digit s

all_digits : (n : ℕ) → are_all is_digit (decimal_text n) ≡ true
unfolding decimal_text
all_digits n = digits_all (decimal_text n) (text_digits 20 n)

number_same : (m n : ℕ) → Number m → Number n → decimal_text m ≡ decimal_text n → m ≡ n
number_same m n p q e =
    let same : Some m ≡ Some n = sym (decimal_back m p) ∙ ap number_read e ∙ decimal_back n q in
    cc

number : Tells Number Apart decimal_text
number =
    record {
      tell = λ m n x y p q s t e.
          let parts = front_tells is_digit (decimal_text m) (decimal_text n) x y (all_digits m) (all_digits n) (no_digit x s) (no_digit y t) e in
          (number_same m n p q parts.0, parts.1);
    }

-- what begins with no digit is no number
no_number : {A : Type 0} (n : ℕ) (x y : List ℕ) → is_digit (get_or x 0 32) ≡ false → x ≡ decimal_text n ++ y → A
unfolding decimal_text
no_number n x y d e =
    absurd (true≢false (sym (all_begins is_digit (decimal_text n) y (all_digits n) (text_some 19 n)) ∙ sym (ap (λ (l : List ℕ). is_digit (get_or l 0 32)) e) ∙ d))

-- ---- words

word_same : (v w : ℕ) → Word v → Word w → word_text v ≡ word_text w → v ≡ w
word_same v w p q e =
    let same : Some v ≡ Some w = sym (word_back v p) ∙ ap (λ (l : List ℕ). hexadecimal_read l 4) e ∙ word_back w q in
    cc

word : {Behind : List ℕ → Type 0} → Tells Word Behind word_text
word = record { tell = λ v w x y p q s t e. (word_same v w p q (ap (take 4) e), ap (drop 4) e) }

pair : {Behind : List ℕ → Type 0} → Tells (λ (p : ℕ × ℕ). Word p.0 × Word p.1) Behind (λ (p : ℕ × ℕ). pair_text p.0 p.1)
pair = both (word {Behind = Any}) (keyed (text_of ",") word) (λ b y s. tt)

-- one word ends where two have a comma
one_or_two : {A : Type 0} (v w z : ℕ) (x y : List ℕ) → Apart x → word_text v ++ x ≡ pair_text w z ++ y → A
one_or_two v w z x y s e =
    let comma : ◌≡◌ {A = ℕ} 32 44 = sym s ∙ ap (λ (l : List ℕ). get_or l 4 32) e in
    absurd (omega (arith, comma))

-- a dash is no digit
no_word : {A : Type 0} (w : ℕ) (x y : List ℕ) → 45 ∷ x ≡ word_text w ++ y → A
unfolding digit_of passes
no_word w x y e =
    let other = passed 16 (λ (i : ℕ). not (eqb 45 (digit_of i))) refl (w / 2 ^ 12 % 16) (omega arith) in
    let same = eq-eqb 45 (digit_of (w / 2 ^ 12 % 16)) (ap (λ (l : List ℕ). get_or l 0 32) e) in
    absurd (true≢false (sym other ∙ ap not same))

-- ---- the parts of an entry

bus_begins : (bus : ℕ) → Begins (bus_text bus)
unfolding bus_text
bus_begins bus = by (eqb bus 0)
  where
    by : (b : Bool) → Begins (cond b (text_of " A") (text_of " B"))
    by true = refl
    by false = refl

-- "A" or "B" says which of the two it is
bus_tells : {Behind : List ℕ → Type 0} → Tells (λ (bus : ℕ). bus ≤ 1) Behind bus_text
unfolding bus_text
bus_tells = record { tell = λ a b x y p q s t e. by a b x y p q (eqb a 0) (eqb b 0) refl refl e }
  where
    by : (a b : ℕ) (x y : List ℕ) → a ≤ 1 → b ≤ 1 → (k l : Bool) → eqb a 0 ≡ k → eqb b 0 ≡ l
        → cond k (text_of " A") (text_of " B") ++ x ≡ cond l (text_of " A") (text_of " B") ++ y → (a ≡ b) × (x ≡ y)
    by a b x y p q true true f g e = (omega (arith, eqb-true a 0 f, eqb-true b 0 g), ap (drop 2) e)
    by a b x y p q false false f g e = (omega (arith, p, q, eqb-false a 0 f, eqb-false b 0 g), ap (drop 2) e)
    by a b x y p q true false f g e = absurd (omega (arith, ap (λ (l : List ℕ). get_or l 1 32) e))
    by a b x y p q false true f g e = absurd (omega (arith, ap (λ (l : List ℕ). get_or l 1 32) e))

begin_tells : {Behind : List ℕ → Type 0} → Tells (λ (p : ℕ × ℕ). Number p.0 × (p.1 ≤ 1)) Behind (λ (p : ℕ × ℕ). begin_text p.0 p.1)
begin_tells = both number bus_tells (λ bus y s. begins_apart (bus_text bus) y (bus_begins bus))

commands_tells : Tells CommandsFit Apart commands_text
commands_tells = record { tell = by }
  where
    by : (c d : Commands) (x y : List ℕ) → CommandsFit c → CommandsFit d → Apart x → Apart y → commands_text c ++ x ≡ commands_text d ++ y → (c ≡ d) × (x ≡ y)
    by (commands.One a) (commands.One b) x y p q s t e =
        let same = (word {Behind = Any}).tell a.0 b.0 x y p q tt tt e in
        (ap (λ (n : ℕ). commands.One (record { 0 = n })) same.0, same.1)
    by (commands.Two a c) (commands.Two b d) x y p q s t e =
        let same = (pair {Behind = Any}).tell (a.0, c.0) (b.0, d.0) x y p q tt tt e in
        (ap (λ (n : ℕ × ℕ). commands.Two (record { 0 = n.0 }) (record { 0 = n.1 })) same.0, same.1)
    by (commands.One a) (commands.Two b d) x y p q s t e = one_or_two a.0 b.0 d.0 x y s e
    by (commands.Two a c) (commands.One b) x y p q s t e = one_or_two b.0 a.0 c.0 y x t (sym e)

statuses_tells : Tells StatusesFit Apart statuses_text
statuses_tells = record { tell = by }
  where
    by : (c d : Statuses) (x y : List ℕ) → StatusesFit c → StatusesFit d → Apart x → Apart y → statuses_text c ++ x ≡ statuses_text d ++ y → (c ≡ d) × (x ≡ y)
    by statuses.None statuses.None x y p q s t e = (refl, ap (drop 5) e)
    by (statuses.One a) (statuses.One b) x y p q s t e =
        let same = (word {Behind = Any}).tell a.0 b.0 x y p q tt tt (ap (drop 4) e) in
        (ap (λ (n : ℕ). statuses.One (record { 0 = n })) same.0, same.1)
    by (statuses.Two a c) (statuses.Two b d) x y p q s t e =
        let same = (pair {Behind = Any}).tell (a.0, c.0) (b.0, d.0) x y p q tt tt (ap (drop 4) e) in
        (ap (λ (n : ℕ × ℕ). statuses.Two (record { 0 = n.0 }) (record { 0 = n.1 })) same.0, same.1)
    by (statuses.One a) (statuses.Two b d) x y p q s t e = one_or_two a.0 b.0 d.0 x y s (ap (drop 4) e)
    by (statuses.Two a c) (statuses.One b) x y p q s t e = one_or_two b.0 a.0 c.0 y x t (sym (ap (drop 4) e))
    by statuses.None (statuses.One b) x y p q s t e = no_word b.0 x y (ap (drop 4) e)
    by statuses.None (statuses.Two b d) x y p q s t e = no_word b.0 x (text_of "," ++ word_text d.0 ++ y) (ap (drop 4) e)
    by (statuses.One a) statuses.None x y p q s t e = no_word a.0 y x (sym (ap (drop 4) e))
    by (statuses.Two a c) statuses.None x y p q s t e = no_word a.0 y (text_of "," ++ word_text c.0 ++ x) (sym (ap (drop 4) e))

gap_tells : Tells GapFits Apart gap_text
gap_tells = record { tell = by }
  where
    by : (g h : Option Gap) (x y : List ℕ) → GapFits g → GapFits h → Apart x → Apart y → gap_text g ++ x ≡ gap_text h ++ y → (g ≡ h) × (x ≡ y)
    by None None x y p q s t e = (refl, ap (drop 6) e)
    by (Some (gap.Apart a)) (Some (gap.Apart b)) x y p q s t e =
        let same = number.tell a.0 b.0 x y p q s t (ap (drop 5) e) in
        (ap (λ (n : ℕ). Some (gap.Apart (record { 0 = n }))) same.0, same.1)
    by (Some (gap.Overlap a)) (Some (gap.Overlap b)) x y p q s t e =
        let same = number.tell a.0 b.0 x y p q s t (ap (drop 6) e) in
        (ap (λ (n : ℕ). Some (gap.Overlap (record { 0 = n }))) same.0, same.1)
    by None (Some (gap.Apart b)) x y p q s t e = no_number b.0 (45 ∷ x) y refl (ap (drop 5) e)
    by (Some (gap.Apart a)) None x y p q s t e = no_number a.0 (45 ∷ y) x refl (sym (ap (drop 5) e))
    by None (Some (gap.Overlap b)) x y p q s t e = no_number b.0 x y (no_digit x s) (ap (drop 6) e)
    by (Some (gap.Overlap a)) None x y p q s t e = no_number a.0 y x (no_digit y t) (sym (ap (drop 6) e))
    by (Some (gap.Apart a)) (Some (gap.Overlap b)) x y p q s t e = no_number a.0 (45 ∷ (decimal_text b.0 ++ y)) x refl (sym (ap (drop 5) e))
    by (Some (gap.Overlap a)) (Some (gap.Apart b)) x y p q s t e = no_number b.0 (45 ∷ (decimal_text a.0 ++ x)) y refl (ap (drop 5) e)

-- a verdict's name begins with a space
name_apart : (v : Verdict) (x : List ℕ) → Apart (verdict_name v ++ x)
unfolding passes
name_apart v x =
    begins_apart (verdict_name v) x (eqb-true (get_or (verdict_name v) 0 0) 32 (each_name (λ (text : List ℕ). eqb (get_or text 0 0) 32) refl refl v))

outcome_tells : Tells OutcomeFits Apart outcome_text
outcome_tells = record { tell = by }
  where
    by : (o u : Option Verdict) (x y : List ℕ) → OutcomeFits o → OutcomeFits u → Apart x → Apart y → outcome_text o ++ x ≡ outcome_text u ++ y → (o ≡ u) × (x ≡ y)
    by None None x y p q s t e = (refl, ap (drop 15) e)
    by (Some v) (Some w) x y p q s t e =
        let same = number.tell (number_of v) (number_of w) (verdict_name v ++ x) (verdict_name w ++ y) p q (name_apart v x) (name_apart w y)
        (inner (decimal_text (number_of v)) (verdict_name v) x (decimal_text (number_of w)) (verdict_name w) y (ap (drop 9) e)) in
        let one : v ≡ w = same_verdict v w x y same.0 same.1 in
        (ap Some one, append_cancel_left (verdict_name v) x y (same.1 ∙ ap (λ (u : Verdict). verdict_name u ++ y) (sym one)))
    by None (Some w) x y p q s t e =
        no_number (number_of w) (text_of "- none" ++ x) (verdict_name w ++ y) refl (ap (drop 9) e ∙ append_assoc (decimal_text (number_of w)) (verdict_name w) y)
    by (Some v) None x y p q s t e =
        no_number (number_of v) (text_of "- none" ++ y) (verdict_name v ++ x) refl (sym (ap (drop 9) e) ∙ append_assoc (decimal_text (number_of v)) (verdict_name v) x)

-- ---- an entry

statuses_begins : (c : Statuses) → Begins (statuses_text c)
statuses_begins statuses.None = refl
statuses_begins (statuses.One first) = refl
statuses_begins (statuses.Two first second) = refl

gap_begins : (g : Option Gap) → Begins (gap_text g)
gap_begins None = refl
gap_begins (Some (gap.Apart ticks)) = refl
gap_begins (Some (gap.Overlap ticks)) = refl

outcome_begins : (o : Option Verdict) → Begins (outcome_text o)
outcome_begins None = refl
outcome_begins (Some verdict) = refl

-- what follows a part that begins with a space
front : (a b x : List ℕ) → Begins a → Apart ((a ++ b) ++ x)
front a b x e = begins_apart (a ++ b) x (begins_both a b e)

message_tells : Tells MessageFits Apart message_text
message_tells =
    let closing = both gap_tells outcome_tells (λ o y s. begins_apart (outcome_text o) y (outcome_begins o)) in
    let counts = both (keyed (text_of " data=") number) (keyed (text_of " rec=") number) (λ n y s. refl) in
    let counted = both counts closing (λ r y s. front (gap_text r.0) _ y (gap_begins r.0)) in
    let answered = both statuses_tells counted (λ r y s. refl) in
    let asked = both commands_tells answered (λ r y s. front (statuses_text r.0) _ y (statuses_begins r.0)) in
    made_of
    (λ (m : Message). ((m.time.0, m.bus), (m.commands, (m.statuses, ((m.words, m.records), (m.gap, m.outcome))))))
    (λ f.
    record {
      bus = f.0.1;
      time = record { 0 = f.0.0 };
      commands = f.1.0;
      statuses = f.1.1.0;
      words = f.1.1.1.0.0;
      records = f.1.1.1.0.1;
      gap = f.1.1.1.1.0;
      outcome = f.1.1.1.1.1;
    })
    (λ m. refl {a = m})
    (λ m p. ((p.time, p.bus), (p.commands, (p.statuses, ((p.words, p.records), (p.gap, p.outcome))))))
    (both (begin_tells {Behind = Any}) (keyed (text_of " msg cmd=") asked) (λ r y s. tt))

single_tells : Tells SingleFits Apart single_text
single_tells =
    let heard = keyed (text_of " word=") (both (word {Behind = Any}) (keyed (text_of " parity=") number) (λ n y s. tt)) in
    let judged = both (keyed (text_of " faults=") number) heard (λ r y s. refl) in
    made_of
    (λ (r : WordRecord). ((r.time.0, r.bus), (r.sync, (r.faults, (r.word, r.parity)))))
    (λ f. record { time = record { 0 = f.0.0 }; bus = f.0.1; sync = f.1.0; faults = f.1.1.0; word = f.1.1.1.0; parity = f.1.1.1.1 })
    (λ r. refl {a = r})
    (λ r p. ((p.time, p.bus), (p.sync, (p.faults, (p.word, p.parity)))))
    (both (begin_tells {Behind = Any}) (both (keyed (text_of " one sync=") number) judged (λ r y s. refl)) (λ r y s. tt))

-- "msg" is not "one"
kinds_apart : {A : Type 0} (m : Message) (r : WordRecord) (x y : List ℕ) → MessageFits m → SingleFits r → message_text m ++ x ≡ single_text r ++ y → A
kinds_apart m r x y p q e =
    let same =
    (begin_tells {Behind = Any}).tell (m.time.0, m.bus) (r.time.0, r.bus) _ _ (p.time, p.bus) (q.time, q.bus) tt tt
    (inner (begin_text m.time.0 m.bus) _ x (begin_text r.time.0 r.bus) _ y e) in
    absurd (omega (arith, ap (λ (l : List ℕ). get_or l 1 32) same.1))

-- what `-v` adds begins with a space
added_apart : (added : Bool) (text : List ℕ) → Begins text → Apart (added_text added text)
added_apart true [] b = absurd (omega (arith, b))
added_apart true (c ∷ text) b = b
added_apart false text b = refl

fields_begin : (c : Commands) → Begins (all_fields_text c)
fields_begin (commands.One first) = refl
fields_begin (commands.Two first second) = refl

bad_begins : (r : WordRecord) → Begins (bad_text r)
unfolding flaws_text
bad_begins r = refl

pub text_tells : TextTells
text_tells added other (entry.Message m) (entry.Message n) p q e =
    ap entry.Message
    (message_tells.tell m n (added_text added (all_fields_text m.commands)) (added_text other (all_fields_text n.commands)) p q
    (added_apart added (all_fields_text m.commands) (fields_begin m.commands))
    (added_apart other (all_fields_text n.commands) (fields_begin n.commands))
    e).0
text_tells added other (entry.Single m) (entry.Single n) p q e =
    ap entry.Single
    (single_tells.tell m n (added_text added (bad_text m)) (added_text other (bad_text n)) p q
    (added_apart added (bad_text m) (bad_begins m))
    (added_apart other (bad_text n) (bad_begins n))
    e).0
text_tells added other (entry.Message m) (entry.Single r) p q e = kinds_apart m r (added_text added (all_fields_text m.commands)) (added_text other (bad_text r)) p q e
text_tells added other (entry.Single r) (entry.Message m) p q e = kinds_apart m r (added_text other (all_fields_text m.commands)) (added_text added (bad_text r)) q p (sym e)

-- ---- lines behind one another

-- a line ends where it has its first line end
line_tells : (a b x y : List ℕ) → is_plain a ≡ true → is_plain b ≡ true → line_of a ++ x ≡ line_of b ++ y → (a ≡ b) × (x ≡ y)
line_tells a b x y p q e =
    let same = front_tells is_sign a b (10 ∷ x) (10 ∷ y) p q refl refl (inner a (10 ∷ []) x b (10 ∷ []) y e) in
    (same.0, ap (drop 1) same.1)

no_line : {A : Type 0} (a x : List ℕ) → [] ≡ line_of a ++ x → A
no_line [] x e = absurd (omega (arith, ap length e))
no_line (c ∷ a) x e = absurd (omega (arith, ap length e))

pub lines_tell : LinesTell
lines_tell added other [] [] p q e = refl
lines_tell added other [] (f ∷ fs) p q e = no_line (entry_text other f) (lines_of other fs) e
lines_tell added other (g ∷ gs) [] p q e = no_line (entry_text added g) (lines_of added gs) (sym e)
lines_tell added other (g ∷ gs) (f ∷ fs) p q e =
    let same =
    line_tells (entry_text added g) (entry_text other f) (lines_of added gs) (lines_of other fs) (line_plain.entry added g) (line_plain.entry other f) e in
    ap₂ (λ (a : Entry) (l : List Entry). a ∷ l) (text_tells added other g f p.0 q.0 same.0) (lines_tell added other gs fs p.1 q.1 same.1)
