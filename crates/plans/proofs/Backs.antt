-- A line that is made of parts, one space apart, is read as these parts; and the parts of a line of a plan say what was written. Assumes nothing.
use Rattle.std.specs.Prelude.{None, Some, Ok}
use Rattle.std.proofs.Common.{◌≡◌, ℕ, ◌/◌, ◌%◌, ◌^◌, ◌<◌, ◌≤◌, Bool, true, false, cond, not, ◌&&◌, eqb, ltb, leb, List, [], ◌∷◌, ◌++◌, length, sym, refl, ap, ◌∙◌, ⊎_elim, append_assoc, append-nil, arith, length-append, le-ltb, lt-ltb, ne_eqb, le-leb, leb-true}
use borrow.Author.Tests.{not-true}
use Rattle.words.proofs.Truth.{passes, passed}
use Rattle.std.proofs.lemmas.Bool.{and_parts}
use Rattle.words.specs.declared.commands.CommandWord.{CommandWord}
use Rattle.lines.specs.Numbers.{is_digit, are_digits, spelled_after, number_after, number_read, hexadecimal_read}
use Rattle.lines.specs.Sinks.{digit_of, word_text, decimal_in, decimal_text}
use Rattle.lines.specs.Names.{same_text}
use Rattle.lines.proofs.Backs.{decimal_back, word_back}
use Rattle.schedule.specs.declared.messages.Message.{Message}
use Rattle.plans.specs.declared.entries.Entry.TheVariants.{Capacities, Capacity, Placed}
use Rattle.plans.specs.Parts.{before_remark, is_control, has_control, before_control, tight_from, tight, split_from, parts_of}
use Rattle.plans.specs.Entries.{entered, capacity_text, capacities_of, capacity_of, capacity_entry, message_text, word_of, is_number, is_command, placed_of, message_with, single_of, pair_of, message_entry, parts_entry, said_of, entry_of}
use Rattle.plans.specs.Drafts.{lines_from}
use Rattle.plans.specs.Texts.{line_text, message_parts}
use Rattle.plans.specs.Theorems.{Sayable}

-- ---- bytes of parts, and of lines

-- All digits and letters are such, and no other byte that means something.
abbrev pub in_part : ℕ → Bool
in_part byte = leb 48 byte && leb byte 122

unfoldable pub are_in_part : List ℕ → Bool
are_in_part [] = true
are_in_part (byte ∷ bytes) = in_part byte && are_in_part bytes

module _ (byte : ℕ) (inside : in_part byte ≡ true) where
  at_least : 48 ≤ byte
  at_least = leb-true 48 byte (and_parts (leb 48 byte) (leb byte 122) inside).0

  at_most : byte ≤ 122
  at_most = leb-true byte 122 (and_parts (leb 48 byte) (leb byte 122) inside).1

  no_space_byte : eqb byte 32 ≡ false
  no_space_byte = ne_eqb byte 32 (λ e. omega (arith, e, at_least))

  no_remark_byte : eqb byte 35 ≡ false
  no_remark_byte = ne_eqb byte 35 (λ e. omega (arith, e, at_least))

  no_end_byte : eqb byte 10 ≡ false
  no_end_byte = ne_eqb byte 10 (λ e. omega (arith, e, at_least))

  no_control_byte : is_control byte ≡ false
  no_control_byte = rw (le-ltb byte 32 (omega (arith, at_least)), ne_eqb byte 127 (λ e. omega (arith, e, at_most)))

-- A part has a byte, and all are of parts.
pub record Part (part : List ℕ) : Type 0 where
  pub some : 1 ≤ length part
  pub inside : are_in_part part ≡ true

-- bytes of parts do not end a part, a line or begin a comment
module _ (rest : List ℕ) where
  part_tight : (part before : List ℕ) → are_in_part part ≡ true → tight_from before false (part ++ rest) ≡ tight_from (before ++ part) false rest
  unfolding tight_from are_in_part
  part_tight [] before i = ap (λ (b : List ℕ). tight_from b false rest) (sym (append-nil before))
  part_tight (byte ∷ bytes) before i =
      let both = and_parts (in_part byte) (are_in_part bytes) i in
      rw (no_space_byte byte both.0)
      (part_tight bytes (before ++ (byte ∷ [])) both.1 ∙ ap (λ (b : List ℕ). tight_from b false rest) (append_assoc before (byte ∷ []) bytes))

  part_split : (part before : List ℕ) → are_in_part part ≡ true → split_from before (part ++ rest) ≡ split_from (before ++ part) rest
  unfolding split_from are_in_part
  part_split [] before i = ap (λ (b : List ℕ). split_from b rest) (sym (append-nil before))
  part_split (byte ∷ bytes) before i =
      let both = and_parts (in_part byte) (are_in_part bytes) i in
      rw (no_space_byte byte both.0)
      (part_split bytes (before ++ (byte ∷ [])) both.1 ∙ ap (λ (b : List ℕ). split_from b rest) (append_assoc before (byte ∷ []) bytes))

  part_line : (part before : List ℕ) → are_in_part part ≡ true → lines_from before (part ++ rest) ≡ lines_from (before ++ part) rest
  unfolding lines_from are_in_part
  part_line [] before i = ap (λ (b : List ℕ). lines_from b rest) (sym (append-nil before))
  part_line (byte ∷ bytes) before i =
      let both = and_parts (in_part byte) (are_in_part bytes) i in
      rw (no_end_byte byte both.0)
      (part_line bytes (before ++ (byte ∷ [])) both.1 ∙ ap (λ (b : List ℕ). lines_from b rest) (append_assoc before (byte ∷ []) bytes))

  part_said : (part : List ℕ) → are_in_part part ≡ true → before_remark (part ++ rest) ≡ part ++ before_remark rest
  unfolding before_remark are_in_part
  part_said [] i = refl
  part_said (byte ∷ bytes) i =
      let both = and_parts (in_part byte) (are_in_part bytes) i in
      rw (no_remark_byte byte both.0) (ap (λ (b : List ℕ). byte ∷ b) (part_said bytes both.1))

  part_signs : (part : List ℕ) → are_in_part part ≡ true → before_control (part ++ rest) ≡ part ++ before_control rest
  unfolding before_control are_in_part
  part_signs [] i = refl
  part_signs (byte ∷ bytes) i =
      let both = and_parts (in_part byte) (are_in_part bytes) i in
      rw (no_control_byte byte both.0) (ap (λ (b : List ℕ). byte ∷ b) (part_signs bytes both.1))

  part_no_control : (part : List ℕ) → are_in_part part ≡ true → has_control (part ++ rest) ≡ has_control rest
  unfolding has_control are_in_part
  part_no_control [] i = refl
  part_no_control (byte ∷ bytes) i =
      let both = and_parts (in_part byte) (are_in_part bytes) i in
      rw (no_control_byte byte both.0) (part_no_control bytes both.1)

-- ---- a line of parts

abbrev pub AllParts : List (List ℕ) → Type 0
AllParts [] = Unit {0}
AllParts (part ∷ parts) = Part part × AllParts parts

-- the line without its end
unfoldable pub bare_text : List (List ℕ) → List ℕ
bare_text [] = []
bare_text (part ∷ []) = part
bare_text (part ∷ next ∷ parts) = part ++ (32 ∷ bare_text (next ∷ parts))

-- what stands of it behind the first part
unfoldable behind_text : List (List ℕ) → List ℕ
behind_text [] = []
behind_text (part ∷ parts) = 32 ∷ (part ++ behind_text parts)

bare_behind : (part : List ℕ) (parts : List (List ℕ)) → bare_text (part ∷ parts) ≡ part ++ behind_text parts
unfolding bare_text behind_text
bare_behind part [] = sym (append-nil part)
bare_behind part (next ∷ parts) = ap (λ (t : List ℕ). part ++ (32 ∷ t)) (bare_behind next parts)

line_behind : (part : List ℕ) (parts : List (List ℕ)) → line_text (part ∷ parts) ≡ part ++ (behind_text parts ++ (10 ∷ []))
unfolding line_text behind_text
line_behind part [] = refl
line_behind part (next ∷ parts) = ap (λ (t : List ℕ). part ++ (32 ∷ t)) (line_behind next parts ∙ sym (append_assoc next (behind_text parts) (10 ∷ [])))

-- the first byte of a part behind a space
space_tight : (part before rest : List ℕ) → Part part → 1 ≤ length before
    → tight_from before false (32 ∷ (part ++ rest)) ≡ tight_from (before ++ (32 ∷ part)) false rest
unfolding tight_from are_in_part
space_tight [] before rest p l = absurd (omega (arith, p.some))
space_tight (byte ∷ bytes) before rest p l =
    let both = and_parts (in_part byte) (are_in_part bytes) p.inside in
    rw (no_space_byte byte both.0, ne_eqb (length before) 0 (λ z. omega (arith, z)))
    (part_tight rest bytes (before ++ (32 ∷ byte ∷ [])) both.1 ∙ ap (λ (b : List ℕ). tight_from b false rest) (append_assoc before (32 ∷ byte ∷ []) bytes))

behind_tight : (parts : List (List ℕ)) (before : List ℕ) → AllParts parts → 1 ≤ length before → tight_from before false (behind_text parts) ≡ before ++ behind_text parts
unfolding behind_text tight_from
behind_tight [] before p l = sym (append-nil before)
behind_tight (part ∷ parts) before p l =
    space_tight part before (behind_text parts) p.0 l
    ∙ behind_tight parts (before ++ (32 ∷ part)) p.1 (omega (arith, length-append before (32 ∷ part)))
    ∙ append_assoc before (32 ∷ part) (behind_text parts)

behind_split : (parts : List (List ℕ)) (part : List ℕ) → AllParts parts → split_from part (behind_text parts) ≡ part ∷ parts
unfolding behind_text split_from
behind_split [] part p = refl
behind_split (next ∷ parts) part p = ap (λ (ps : List (List ℕ)). part ∷ ps) (part_split (behind_text parts) next [] p.0.inside ∙ behind_split parts next p.1)

behind_line : (parts : List (List ℕ)) (before rest : List ℕ) → AllParts parts
    → lines_from before (behind_text parts ++ (10 ∷ rest)) ≡ (before ++ behind_text parts) ∷ lines_from [] rest
unfolding behind_text lines_from
behind_line [] before rest p = ap (λ (b : List ℕ). b ∷ lines_from [] rest) (sym (append-nil before))
behind_line (part ∷ parts) before rest p =
    ap (lines_from (before ++ (32 ∷ []))) (append_assoc part (behind_text parts) (10 ∷ rest))
    ∙ part_line (behind_text parts ++ (10 ∷ rest)) part (before ++ (32 ∷ [])) p.0.inside
    ∙ behind_line parts ((before ++ (32 ∷ [])) ++ part) rest p.1
    ∙ ap (λ (b : List ℕ). b ∷ lines_from [] rest)
    (append_assoc (before ++ (32 ∷ [])) part (behind_text parts) ∙ append_assoc before (32 ∷ []) (part ++ behind_text parts))

behind_said : (parts : List (List ℕ)) → AllParts parts → before_remark (behind_text parts) ≡ behind_text parts
unfolding behind_text before_remark
behind_said [] p = refl
behind_said (part ∷ parts) p =
    ap (λ (b : List ℕ). 32 ∷ b) (part_said (behind_text parts) part p.0.inside ∙ ap (λ (b : List ℕ). part ++ b) (behind_said parts p.1))

behind_signs : (parts : List (List ℕ)) → AllParts parts → before_control (behind_text parts) ≡ behind_text parts
unfolding behind_text before_control
behind_signs [] p = refl
behind_signs (part ∷ parts) p =
    ap (λ (b : List ℕ). 32 ∷ b) (part_signs (behind_text parts) part p.0.inside ∙ ap (λ (b : List ℕ). part ++ b) (behind_signs parts p.1))

behind_no_control : (parts : List (List ℕ)) → AllParts parts → has_control (behind_text parts) ≡ false
unfolding behind_text has_control
behind_no_control [] p = refl
behind_no_control (part ∷ parts) p = part_no_control (behind_text parts) part p.0.inside ∙ behind_no_control parts p.1

module _ (part : List ℕ) (parts : List (List ℕ)) (p : Part part) (all : AllParts parts) where
  -- it is a line of the text
  pub line_is : (rest : List ℕ) → lines_from [] (line_text (part ∷ parts) ++ rest) ≡ bare_text (part ∷ parts) ∷ lines_from [] rest
  line_is rest =
      ap (lines_from []) (ap (λ (t : List ℕ). t ++ rest) (line_behind part parts) ∙ append_assoc part (behind_text parts ++ (10 ∷ [])) rest ∙ ap (λ (t : List ℕ). part ++ t) (append_assoc (behind_text parts) (10 ∷ []) rest))
      ∙ part_line (behind_text parts ++ (10 ∷ rest)) part [] p.inside
      ∙ behind_line parts part rest all
      ∙ ap (λ (t : List ℕ). t ∷ lines_from [] rest) (sym (bare_behind part parts))

  -- and says what its parts say
  found_parts : parts_of (part ++ behind_text parts) ≡ part ∷ parts
  unfolding parts_of
  found_parts =
      rw (ne_eqb (length (part ++ behind_text parts)) 0 (λ z. omega (arith, z, length-append part (behind_text parts), p.some)))
      (part_split (behind_text parts) part [] p.inside ∙ behind_split parts part all)

  pub line_says : length (bare_text (part ∷ parts)) ≤ 64 → entry_of (bare_text (part ∷ parts)) ≡ parts_entry (part ∷ parts)
  unfolding said_of
  line_says l =
      let text = part ++ behind_text parts in
      let said : before_remark text ≡ text = part_said (behind_text parts) part p.inside ∙ ap (λ (b : List ℕ). part ++ b) (behind_said parts all) in
      let signs : before_control text ≡ text = part_signs (behind_text parts) part p.inside ∙ ap (λ (b : List ℕ). part ++ b) (behind_signs parts all) in
      let plain : has_control text ≡ false = part_no_control (behind_text parts) part p.inside ∙ behind_no_control parts all in
      let same : tight text ≡ text = part_tight (behind_text parts) part [] p.inside ∙ behind_tight parts part all p.some in
      let short : length text ≤ 64 = omega (arith, l, ap length (bare_behind part parts)) in
      ap entry_of (bare_behind part parts) ∙ rw (said, signs, same, le-ltb 64 (length text) short, plain) (ap parts_entry found_parts)

-- ---- numbers and words are parts

digits_in_part : (text : List ℕ) → are_digits text ≡ true → are_in_part text ≡ true
unfolding are_digits are_in_part
digits_in_part [] h = refl
digits_in_part (byte ∷ bytes) h =
    let both = and_parts (is_digit byte) (are_digits bytes) h in
    let digit = and_parts (leb 48 byte) (leb byte 57) both.0 in
    rw (digit.0, le-leb byte 122 (omega (arith, leb-true byte 57 digit.1))) (digits_in_part bytes both.1)

-- a text that spells a number has 1 to 20 bytes, all digits
record Spells (text : List ℕ) : Type 0 where
  some : 1 ≤ length text
  most : length text ≤ 20
  digits : are_digits text ≡ true

spells : (text : List ℕ) (n : ℕ) → number_read text ≡ Some n → Spells text
unfolding number_read number_after
spells text n = by (leb 1 (length text)) (leb (length text) 20) (are_digits text) refl refl refl
  where
    by : (a b c : Bool) → leb 1 (length text) ≡ a → leb (length text) 20 ≡ b → are_digits text ≡ c
        → cond (a && b) (cond (c && ltb (spelled_after 0 text) (2 ^ 64)) (Some (spelled_after 0 text)) None) None ≡ Some n → Spells text
    by true true true p q r e = record { some = leb-true 1 (length text) p; most = leb-true (length text) 20 q; digits = r }
    by true true false p q r e = absurd cc
    by true false c p q r e = absurd cc
    by false b c p q r e = absurd cc

module _ (n : ℕ) (fits : n < 2 ^ 64) where
  decimal_spells : Spells (decimal_text n)
  decimal_spells = spells (decimal_text n) n (decimal_back n fits)

  pub decimal_part : Part (decimal_text n)
  decimal_part = record { some = decimal_spells.some; inside = digits_in_part (decimal_text n) decimal_spells.digits }

  pub decimal_most : length (decimal_text n) ≤ 20
  decimal_most = decimal_spells.most

digit_in_part : (n : ℕ) → in_part (digit_of (n % 16)) ≡ true
unfolding digit_of passes
digit_in_part n = passed 16 (λ (i : ℕ). in_part (digit_of i)) refl (n % 16) (omega arith)

pub word_part : (word : ℕ) → Part (word_text word)
unfolding are_in_part
word_part word = record {
  some = omega arith;
  inside = rw (digit_in_part (word / 2 ^ 12), digit_in_part (word / 2 ^ 8), digit_in_part (word / 2 ^ 4), digit_in_part word);
}

pub message_part : Part message_text
unfolding are_in_part
message_part = record { some = omega arith; inside = refl }

pub capacity_part : Part capacity_text
unfolding are_in_part
capacity_part = record { some = omega arith; inside = refl }

-- ---- what the lines say

pub says_all : (ticks : ℕ) → ticks < 2 ^ 64 → parts_entry (capacity_text ∷ decimal_text ticks ∷ []) ≡ Ok (Some (Capacities ticks))
unfolding parts_entry capacity_entry capacities_of same_text
says_all ticks l = rw (decimal_back ticks l)

pub says_one : (frame ticks : ℕ) → frame < 64 → ticks < 2 ^ 64 → parts_entry (capacity_text ∷ decimal_text frame ∷ decimal_text ticks ∷ []) ≡ Ok (Some (Capacity frame ticks))
unfolding parts_entry capacity_entry capacity_of same_text
says_one frame ticks f l = rw (decimal_back frame (omega arith), lt-ltb frame 64 f, decimal_back ticks l)

-- "No period that is taken needs four digits."
period_no_command : (period : ℕ) → period < 1000 → is_command (decimal_text period) ≡ false
unfolding passes is_command is_number hexadecimal_read decimal_text decimal_in
period_no_command period l = not-true (is_command (decimal_text period)) (passed 1000 (λ (n : ℕ). not (is_command (decimal_text n))) refl period l)

word_same : (word : CommandWord) → word.0 < 2 ^ 16 → word_of word.0 ≡ word
word_same word l = ap (λ (n : ℕ). record { 0 = n }) {x = word.0 % 2 ^ 16} {y = word.0} (omega arith)

module _ (commands period first : ℕ) (one two : CommandWord) (pl : period < 2 ^ 64) (fl : first < 2 ^ 64) where
  says_with : message_with commands one two (decimal_text period) (decimal_text first)
      ≡ Ok (Placed (record { commands = commands; first = one; second = two; period = period }) first)
  unfolding message_with placed_of
  says_with = rw (decimal_back period pl, ne_eqb (length (decimal_text first)) 0 (λ z. omega (arith, z, (decimal_part first fl).some)), decimal_back first fl)

  says_single : one.0 < 2 ^ 16 → period < 1000
      → parts_entry (message_text ∷ word_text one.0 ∷ decimal_text period ∷ decimal_text first ∷ []) ≡ entered (message_with 1 one one (decimal_text period) (decimal_text first))
  unfolding parts_entry message_entry single_of same_text
  says_single l short = rw (period_no_command period short, word_back one.0 l, word_same one l)

  says_pair : one.0 < 2 ^ 16 → two.0 < 2 ^ 16
      → parts_entry (message_text ∷ word_text one.0 ∷ word_text two.0 ∷ decimal_text period ∷ decimal_text first ∷ [])
      ≡ entered (message_with 2 one two (decimal_text period) (decimal_text first))
  unfolding parts_entry message_entry pair_of same_text
  says_pair l m = rw (word_back one.0 l, word_same one l, word_back two.0 m, word_same two m)

pub says_message : (message : Message) (first : ℕ) → Sayable message → first < 2 ^ 64 → parts_entry (message_parts message first) ≡ Ok (Some (Placed message first))
unfolding message_parts
says_message message first s l =
    let fits : message.period < 2 ^ 64 = omega (arith, s.period) in
    ⊎_elim
    (λ single.
    rw single.0
    (says_single 1 message.period first message.first message.first fits l s.first s.period
    ∙ ap entered (says_with 1 message.period first message.first message.first fits l)
    ∙ rw (← single.0)
    (ap (λ (w : CommandWord). Ok (Some (Placed (record { commands = message.commands; first = message.first; second = w; period = message.period }) first))) (sym single.1))))
    (λ pair.
    rw pair
    (says_pair 2 message.period first message.first message.second fits l s.first s.second
    ∙ ap entered (says_with 2 message.period first message.first message.second fits l)))
    s.commands

-- ---- how long they are

module _ (frame ticks : ℕ) (f : frame < 2 ^ 64) (t : ticks < 2 ^ 64) where
  pub all_short : length (bare_text (capacity_text ∷ decimal_text ticks ∷ [])) ≤ 64
  unfolding bare_text
  all_short = omega (arith, length-append capacity_text (32 ∷ decimal_text ticks), decimal_most ticks t)

  pub one_short : length (bare_text (capacity_text ∷ decimal_text frame ∷ decimal_text ticks ∷ [])) ≤ 64
  unfolding bare_text
  one_short =
      omega (
        arith,
        length-append capacity_text (32 ∷ (decimal_text frame ++ (32 ∷ decimal_text ticks))),
        length-append (decimal_text frame) (32 ∷ decimal_text ticks),
        decimal_most frame f,
        decimal_most ticks t,
      )

pub message_short : (message : Message) (first : ℕ) → Sayable message → first < 2 ^ 64 → length (bare_text (message_parts message first)) ≤ 64
unfolding message_parts bare_text
message_short message first s l = by (eqb message.commands 1)
  where
    by : (b : Bool)
        → length
        (bare_text
        (cond b
        (message_text ∷ word_text message.first.0 ∷ decimal_text message.period ∷ decimal_text first ∷ [])
        (message_text ∷ word_text message.first.0 ∷ word_text message.second.0 ∷ decimal_text message.period ∷ decimal_text first ∷ [])))
        ≤ 64
    by true = omega (arith, length-append (decimal_text message.period) (32 ∷ decimal_text first), decimal_most message.period (omega (arith, s.period)), decimal_most first l)
    by false = omega (arith, length-append (decimal_text message.period) (32 ∷ decimal_text first), decimal_most message.period (omega (arith, s.period)), decimal_most first l)

-- the parts of a message's line are parts
pub message_all : (message : Message) (first : ℕ) → Sayable message → first < 2 ^ 64 → AllParts (message_parts message first)
unfolding message_parts
message_all message first s l = by (eqb message.commands 1)
  where
    by : (b : Bool)
        → AllParts
        (cond b
        (message_text ∷ word_text message.first.0 ∷ decimal_text message.period ∷ decimal_text first ∷ [])
        (message_text ∷ word_text message.first.0 ∷ word_text message.second.0 ∷ decimal_text message.period ∷ decimal_text first ∷ []))
    by true = (message_part, (word_part message.first.0, (decimal_part message.period (omega (arith, s.period)), (decimal_part first l, tt))))
    by false =
        (message_part, (word_part message.first.0, (word_part message.second.0, (decimal_part message.period (omega (arith, s.period)), (decimal_part first l, tt)))))
