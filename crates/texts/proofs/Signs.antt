-- Signs only, and not too many: what holds of a text holds of two, one behind the other; of a number, of a word, and so of each line. Assumes nothing.
use mathlib.Core.Path.{◌≡◌, refl, ap}
use mathlib.Core.Bool.{Bool, true, false, cond, not, ◌||◌}
use Prim.Native.Nat.{ℕ, zero, suc, ◌+◌, ◌/◌, ◌%◌, ◌^◌, ◌≤◌}
use native.Mathlib.Omega.{arith}
use mathlib.Core.List.{List, [], ◌∷◌, ◌++◌}
use lib.Dec.{eqb, leb}
use lib.ListN.{length, get_or, length-append}
use borrow.Author.Tests.{leb-true, le-leb, ne_eqb}
use Rattle.words.specs.Words.{address_of, subaddress_of, count_of, words_of, is_transmit, is_broadcast, is_mode}
use Rattle.words.proofs.Truth.{passes, passed}
use Rattle.std.proofs.lemmas.Bool.{and_parts}
use Rattle.records.specs.declared.forms.WordRecord.{WordRecord}
use Rattle.monitor.specs.declared.entries.Commands.{Commands}
use Rattle.monitor.specs.declared.entries.Commands.TheVariants as commands
use Rattle.monitor.specs.declared.entries.Statuses.{Statuses}
use Rattle.monitor.specs.declared.entries.Statuses.TheVariants as statuses
use Rattle.monitor.specs.declared.entries.Gap.{Gap}
use Rattle.monitor.specs.declared.entries.Gap.TheVariants as gap
use Rattle.std.proofs.Common.{Option, None, Some}
use Rattle.verdict.specs.Numbers.{number_of}
use Rattle.verdict.specs.declared.verdicts.Verdict.{Verdict}
use Rattle.monitor.specs.declared.entries.Message.{Message}
use Rattle.monitor.specs.declared.entries.Entry.{Entry}
use Rattle.monitor.specs.declared.entries.Entry.TheVariants as entry
use Rattle.salvage.specs.Machine.{is_changed}
use Rattle.salvage.specs.declared.salvages.First.{First}
use Rattle.lines.specs.Sinks.{digit_of, word_text, decimal_in, decimal_text}
use Rattle.lines.specs.Spells.{text_of, number_text, line_most}
use Rattle.lines.specs.Numbers.{is_digit}
use Rattle.lines.proofs.Backs.{text_digits, text_length}
use Rattle.lines.proofs.Losses.{line_kept}
use Rattle.texts.specs.Entries.{bus_text, pair_text, commands_text, statuses_text, gap_text, verdict_name, outcome_text, message_text, single_text, address_text, direction_text, kind_text, fields_text, all_fields_text, flaw_mark, flaw_text, flaws_text, added_text, entry_text, line_of, has_parity_flaw, has_manchester_flaw, has_bits_flaw, has_sync_flaw}
use Rattle.texts.specs.Logs.{log_end_text, log_refused_text}
use Rattle.texts.specs.Saves.{first_text, run_text, run_line, save_end_text}
use Rattle.texts.specs.Theorems.{are_all, is_sign, is_plain, EachText, LinePlain, LineShort, OneLineEnd, EachLineKept, Kept}
use Rattle.texts.proofs.Choices.{each_name}
use Rattle.texts.proofs.Fronts.{digits_all, all_both, all_as}

-- A text of so many signs at most.
pub record Signs (most : ℕ) (text : List ℕ) : Type 0 where
  pub plain : is_plain text ≡ true
  pub short : length text ≤ most

both : {m n : ℕ} {a b : List ℕ} → Signs m a → Signs n b → Signs (m + n) (a ++ b)
both {a = a} {b = b} s t = record { plain = all_both is_sign a b s.plain t.plain; short = simp length-append (omega (arith, s.short, t.short)) }

within : {m n : ℕ} {text : List ℕ} → Signs m text → leb m n ≡ true → Signs n text
within {m = m} {n = n} s l = record { plain = s.plain; short = omega (arith, s.short, leb-true m n l) }

-- a text that is written out
literal : (text : List ℕ) → is_plain text ≡ true → Signs (length text) text
literal text p = record { plain = p; short = omega arith }

either : {n : ℕ} {a b : List ℕ} (test : Bool) → Signs n a → Signs n b → Signs n (cond test a b)
either true s t = s
either false s t = t

digit_sign : (byte : ℕ) → is_digit byte ≡ true → is_sign byte ≡ true
digit_sign byte d =
    let ends = and_parts (leb 48 byte) (leb byte 57) d in
    let low = leb-true 48 byte ends.0 in
    let high = leb-true byte 57 ends.1 in
    rw (le-leb 32 byte (omega arith), ne_eqb byte 127 (λ e. omega arith))

number : (n : ℕ) → Signs 20 (decimal_text n)
unfolding decimal_text
number n = record { plain = all_as is_digit is_sign digit_sign (decimal_in 20 n) (digits_all (decimal_in 20 n) (text_digits 20 n)); short = text_length 20 n }

digit_plain : (n : ℕ) → is_plain (digit_of (n % 16) ∷ []) ≡ true
unfolding are_all digit_of passes
digit_plain n = passed 16 (λ (i : ℕ). is_plain (digit_of i ∷ [])) refl (n % 16) (omega arith)

word : (w : ℕ) → Signs 4 (word_text w)
word w =
    let sign : (n : ℕ) → Signs 1 (digit_of (n % 16) ∷ []) = λ n. record { plain = digit_plain n; short = omega arith } in
    both (sign (w / 2 ^ 12)) (both (sign (w / 2 ^ 8)) (both (sign (w / 2 ^ 4)) (sign w)))

keyed : (key : List ℕ) → is_plain key ≡ true → (n : ℕ) → Signs (length key + 20) (number_text key n)
keyed key p n = both (literal key p) (number n)

-- ---- the parts of a line

bus_signs : (bus : ℕ) → Signs 2 (bus_text bus)
unfolding bus_text are_all
bus_signs bus = either (eqb bus 0) (literal (text_of " A") refl) (literal (text_of " B") refl)

pair_signs : (first second : ℕ) → Signs 9 (pair_text first second)
unfolding are_all
pair_signs first second = both (word first) (both (literal (text_of ",") refl) (word second))

commands_signs : (c : Commands) → Signs 9 (commands_text c)
commands_signs (commands.One first) = within (word first.0) refl
commands_signs (commands.Two first second) = pair_signs first.0 second.0

statuses_signs : (s : Statuses) → Signs 13 (statuses_text s)
unfolding are_all
statuses_signs statuses.None = within (literal (text_of " st=-") refl) refl
statuses_signs (statuses.One first) = within (both (literal (text_of " st=") refl) (word first.0)) refl
statuses_signs (statuses.Two first second) = both (literal (text_of " st=") refl) (pair_signs first.0 second.0)

gap_signs : (g : Option Gap) → Signs 26 (gap_text g)
unfolding are_all
gap_signs None = within (literal (text_of " gap=-") refl) refl
gap_signs (Some (gap.Apart ticks)) = within (keyed (text_of " gap=") refl ticks.0) refl
gap_signs (Some (gap.Overlap ticks)) = keyed (text_of " gap=-") refl ticks.0

name_signs : (v : Verdict) → Signs 12 (verdict_name v)
unfolding passes are_all
name_signs v =
    record {
      plain = each_name is_plain refl refl v;
      short = leb-true (length (verdict_name v)) 12 (each_name (λ (text : List ℕ). leb (length text) 12) refl refl v);
    }

outcome_signs : (o : Option Verdict) → Signs 41 (outcome_text o)
unfolding are_all
outcome_signs None = within (literal (text_of " verdict=- none") refl) refl
outcome_signs (Some verdict) = both (keyed (text_of " verdict=") refl (number_of verdict)) (name_signs verdict)

message_signs : (m : Message) → Signs 171 (message_text m)
unfolding are_all
message_signs m =
    both (both (number m.time.0) (bus_signs m.bus))
    (both (literal (text_of " msg cmd=") refl)
    (both (commands_signs m.commands)
    (both (statuses_signs m.statuses)
    (both (both (keyed (text_of " data=") refl m.words) (keyed (text_of " rec=") refl m.records)) (both (gap_signs m.gap) (outcome_signs m.outcome))))))

single_signs : (r : WordRecord) → Signs 118 (single_text r)
unfolding are_all
single_signs r =
    both (both (number r.time.0) (bus_signs r.bus))
    (both (keyed (text_of " one sync=") refl r.sync)
    (both (keyed (text_of " faults=") refl r.faults)
    (both (literal (text_of " word=") refl) (both (word r.word) (keyed (text_of " parity=") refl r.parity)))))

-- ---- what `-v` adds

fields_signs : (begin : List ℕ) (command : ℕ) → Signs 4 begin → Signs 84 (fields_text begin command)
unfolding address_text direction_text kind_text are_all
fields_signs begin command s =
    both s
    (both (either (is_broadcast command) (within (literal (text_of "all") refl) refl) (keyed (text_of "rt") refl (address_of command)))
    (both (either (is_transmit command) (literal (text_of ",transmit") refl) (within (literal (text_of ",receive") refl) refl))
    (either (is_mode command) (within (keyed (text_of ",mode,code") refl (count_of command)) refl)
    (both (keyed (text_of ",sa") refl (subaddress_of command)) (keyed (text_of ",count") refl (words_of command))))))

all_fields_signs : (c : Commands) → Signs 168 (all_fields_text c)
unfolding are_all
all_fields_signs (commands.One first) = within (fields_signs (text_of " c1=") first.0 (literal (text_of " c1=") refl)) refl
all_fields_signs (commands.Two first second) =
    both (fields_signs (text_of " c1=") first.0 (literal (text_of " c1=") refl)) (fields_signs (text_of " c2=") second.0 (literal (text_of " c2=") refl))

flaw_signs : {n : ℕ} (more bad : Bool) {name : List ℕ} → Signs n name → Signs (1 + n) (flaw_text more bad name)
unfolding flaw_text flaw_mark are_all
flaw_signs true true s = both (literal (44 ∷ []) refl) s
flaw_signs false true s = both (literal (61 ∷ []) refl) s
flaw_signs more false s = record { plain = refl; short = omega arith }

flaws_signs : (parity manchester bits sync : Bool) → Signs 34 (flaws_text parity manchester bits sync)
unfolding flaws_text are_all
flaws_signs parity manchester bits sync =
    both (literal (text_of " bad") refl)
    (both (flaw_signs false parity (literal (text_of "parity") refl))
    (both (flaw_signs parity manchester (literal (text_of "manchester") refl))
    (both (flaw_signs (parity || manchester) bits (literal (text_of "bits") refl))
    (both (flaw_signs (parity || manchester || bits) sync (literal (text_of "sync") refl))
    (flaw_signs false (not (parity || manchester || bits || sync)) (literal (text_of "-") refl))))))

added_signs : {n : ℕ} (added : Bool) {text : List ℕ} → Signs n text → Signs n (added_text added text)
unfolding are_all
added_signs true s = s
added_signs false s = record { plain = refl; short = omega arith }

-- ---- each line

entry_signs : (added : Bool) (e : Entry) → Signs 339 (entry_text added e)
entry_signs added (entry.Message m) = both (message_signs m) (added_signs added (all_fields_signs m.commands))
entry_signs added (entry.Single r) =
    within (both (single_signs r) (added_signs added (flaws_signs (has_parity_flaw r) (has_manchester_flaw r) (has_bits_flaw r) (has_sync_flaw r)))) refl

first_signs : (first : First) → Signs 7 (first_text first)
unfolding first_text are_all
first_signs first = either (is_changed first) (literal (text_of "changed") refl) (within (literal (text_of "kept") refl) refl)

each_signs : EachText (Signs 339)
unfolding are_all
each_signs =
    record {
      entry = entry_signs;
      log_end = λ entries records. within (both (keyed (text_of "# end entries=") refl entries) (keyed (text_of " records=") refl records)) refl;
      log_refused = λ refusal place byte entries.
          within
          (both (keyed (text_of "# refused ") refl refusal)
          (both (keyed (text_of " record=") refl place) (both (keyed (text_of " byte=") refl byte) (keyed (text_of " entries=") refl entries))))
          refl;
      run = λ run. within (both (keyed (text_of "skip byte=") refl run.place) (keyed (text_of " length=") refl run.length)) refl;
      save_end = λ totals.
          within
          (both (literal (text_of "# end first=") refl)
          (both (first_signs totals.first)
          (both (keyed (text_of " records=") refl totals.records)
          (both (keyed (text_of " skipped=") refl totals.skipped) (keyed (text_of " bytes=") refl totals.bytes)))))
          refl;
    }

each_as : {P Q : List ℕ → Type 0} → ((text : List ℕ) → P text → Q text) → EachText P → EachText Q
each_as f each =
    record {
      entry = λ added e. f (entry_text added e) (each.entry added e);
      log_end = λ entries records. f (log_end_text entries records) (each.log_end entries records);
      log_refused = λ refusal place byte entries. f (log_refused_text refusal place byte entries) (each.log_refused refusal place byte entries);
      run = λ run. f (run_text run) (each.run run);
      save_end = λ totals. f (save_end_text totals) (each.save_end totals);
    }

pub line_plain : LinePlain
line_plain = each_as (λ text s. s.plain) each_signs

pub line_short : LineShort
line_short = each_as (λ text s. simp length-append (omega (arith, s.short))) each_signs

one_end : (text : List ℕ) → is_plain text ≡ true → (place : ℕ) → get_or (line_of text) place 0 ≡ 10 → place ≡ length text
unfolding are_all
one_end [] p zero e = refl
one_end [] p (suc place) e = omega (arith, e)
one_end (x ∷ text) p zero e =
    let sign = (and_parts (is_sign x) (is_plain text) p).0 in
    let low = leb-true 32 x (and_parts (leb 32 x) (not (eqb x 127)) sign).0 in
    omega (arith, e, low)
one_end (x ∷ text) p (suc place) e = ap suc (one_end text (and_parts (is_sign x) (is_plain text) p).1 place e)

pub one_line_end : OneLineEnd
one_line_end = each_as one_end line_plain

kept : (line : List ℕ) → length line ≤ line_most → Kept line
kept line short block at size = line_kept block line at size short

pub each_line_kept : EachLineKept
unfolding run_line
each_line_kept = record { line = each_as (λ text. kept (line_of text)) line_short; run = λ run. by (line_of (run_text run)) (eqb run.length 0) (line_short.run run) }
  where
    by : (line : List ℕ) (none : Bool) → length line ≤ line_most → Kept (cond none [] line)
    by line true short = kept [] (omega arith)
    by line false short = kept line short
