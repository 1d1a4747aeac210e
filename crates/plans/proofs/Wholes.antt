-- The machine and the plan of a text: a line that is gathered says what the definition says of all its bytes, and chunks do not matter. Assumes nothing.
use Rattle.std.specs.Prelude.{Option, Result, Err}
use Rattle.plans.specs.declared.entries.Fault.{Fault}
use Rattle.std.proofs.Common.{◌≡◌, ℕ, zero, suc, ◌+◌, ◌-◌, ◌<◌, ◌≤◌, Bool, true, false, cond, not, ◌&&◌, ◌||◌, eqb, ltb, leb, ◌⊎◌, List, [], ◌∷◌, ◌++◌, length, take, set, sym, refl, ap, ◌∙◌, inl, inr, ⊎_elim, append_assoc, append-nil, lt_of_not-le, add-one, arith, length-append, length-set, length-take-le, take-suc-set, le-ltb, lt-ltb, ne_eqb, eqb-true, le-leb}
use native.Mathlib.Decide.{dec_le}
use mathlib.Core.Logic.{dite}
use lib.ListN.{length-replicate}
use Rattle.lines.specs.Parts.{between_of}
use Rattle.plans.specs.declared.entries.Fault.TheVariants as fault
use Rattle.plans.specs.declared.entries.Entry.{Entry}
use Rattle.plans.specs.declared.gatherings.Kept.{Kept}
use Rattle.plans.specs.declared.gatherings.Gathering.{Gathering}
use Rattle.plans.specs.declared.drafts.Draft.{Draft}
use Rattle.plans.specs.declared.readings.Reading.{Reading}
use Rattle.plans.specs.Parts.{before_remark, is_control, has_control, before_control, apart, tight_from, parts_of}
use Rattle.plans.specs.Entries.{line_most, parts_entry, said_of, entry_of}
use Rattle.plans.specs.Drafts.{one_more, empty_draft, after_entry, is_fault, lines_from, draft_from, plan_of}
use Rattle.plans.specs.Machine.{kept_with, kept_text, gathering_at, after_space, in_remark, with_space, with_byte, gathered, is_bad_line, gathered_entry, reading_with, start_of, line_taken, line_ended, byte_gathered, byte_read, fed_of, ended_of}
use Rattle.plans.specs.Theorems.{fed_all, joined, ChunksDoNotMatter, NothingBehind}
use Rattle.plans.proofs.Feeds.{fed_over, fed_on}

-- ---- the bytes that are kept

-- The room of a line is that of 64 bytes, and what is kept fits.
record Sound (k : Kept) : Type 0 where
  room : length k.line ≡ 64
  fits : k.length ≤ 64

kept_text_lem : (k : Kept) → Sound k → kept_text k ≡ take k.length k.line
unfolding between_of
kept_text_lem k s =
    let low : leb k.length (length k.line) ≡ true = le-leb k.length (length k.line) (omega (arith, s.room, s.fits)) in
    let all : k.length - 0 ≡ k.length = omega arith in
    let from : leb 0 k.length ≡ true = le-leb 0 k.length (omega arith) in
    rw (low, all, from)

kept_length : (k : Kept) → Sound k → length (kept_text k) ≡ k.length
kept_length k s = ap length (kept_text_lem k s) ∙ length-take-le k.length k.line (omega (arith, s.room, s.fits))

-- with a byte more: where it fits
module _ (k : Kept) (byte : ℕ) (s : Sound k) where
  with_room_lem : k.length < 64 → kept_with k byte ≡ record { line = set k.line k.length byte; length = k.length + 1; over = k.over }
  unfolding kept_with
  with_room_lem l = rw (lt-ltb k.length 64 l)

  with_over : 64 ≤ k.length → kept_with k byte ≡ record { line = k.line; length = k.length; over = true }
  unfolding kept_with
  with_over l = rw (le-ltb k.length 64 l)

  with_sound : Sound (kept_with k byte)
  with_sound =
      dite (dec_le (suc k.length) 64)
      (λ l. rw (with_room_lem l) (record { room = length-set k.line k.length byte ∙ s.room; fits = omega (arith, l) }))
      (λ l. rw (with_over (omega (arith, lt_of_not-le l))) (record { room = s.room; fits = s.fits }))

  with_text : k.length < 64 → kept_text (kept_with k byte) ≡ kept_text k ++ (byte ∷ [])
  with_text l =
      kept_text_lem (kept_with k byte) with_sound
      ∙ rw (with_room_lem l, add-one) (take-suc-set k.line k.length byte (omega (arith, s.room)))
      ∙ ap (λ (t : List ℕ). t ++ (byte ∷ [])) (sym (kept_text_lem k s))

-- what is kept is a text, or that is too long
record Holds (k : Kept) (text : List ℕ) : Type 0 where
  sound : Sound k
  either : ((k.over ≡ false) × (kept_text k ≡ text)) ⊎ ((k.over ≡ true) × (64 < length text))

holds_with : (k : Kept) (text : List ℕ) (byte : ℕ) → Holds k text → Holds (kept_with k byte) (text ++ (byte ∷ []))
holds_with k text byte h =
    let s = h.sound in
    let more : length (text ++ (byte ∷ [])) ≡ length text + 1 = length-append text (byte ∷ []) in
    dite (dec_le (suc k.length) 64)
    (λ l.
    record {
      sound = with_sound k byte s;
      either =
          ⊎_elim
          (λ kept. inl (ap (λ (m : Kept). m.over) (with_room_lem k byte s l) ∙ kept.0, with_text k byte s l ∙ ap (λ (t : List ℕ). t ++ (byte ∷ [])) kept.1))
          (λ long. inr (ap (λ (m : Kept). m.over) (with_room_lem k byte s l) ∙ long.0, omega (arith, more, long.1)))
          h.either;
    })
    (λ l.
    let full : 64 ≤ k.length = omega (arith, lt_of_not-le l) in
    record {
      sound = with_sound k byte s;
      either =
          inr (
            ap (λ (m : Kept). m.over) (with_over k byte s full),
            ⊎_elim (λ kept. omega (arith, more, full, kept_length k s, ap length kept.1)) (λ long. omega (arith, more, long.1)) h.either,
          );
    })

-- ---- a line, of which some bytes are gathered and others are to come

record Good (g : Gathering) : Type 0 where
  sound : Sound g.kept
  fits : g.kept.over ≡ false
  signs : g.signless ≡ false

unfoldable said_from : List ℕ → Bool → List ℕ → Result (Option Entry) Fault
said_from text spaced said =
    cond (ltb line_most (length (tight_from text spaced (before_control said))))
    (Err fault.TooLong)
    (cond (has_control said) (Err fault.NoSign) (parts_entry (parts_of (tight_from text spaced said))))

unfoldable line_from : Gathering → List ℕ → Result (Option Entry) Fault
line_from g rest = cond g.remark (parts_entry (parts_of (kept_text g.kept))) (said_from (kept_text g.kept) g.spaced (before_remark rest))

tight_grows : (before : List ℕ) (spaced : Bool) (bytes : List ℕ) → length before ≤ length (tight_from before spaced bytes)
unfolding tight_from
tight_grows before spaced [] = omega arith
tight_grows before spaced (byte ∷ bytes) = by (eqb byte 32) (tight_grows before true bytes) (tight_grows (before ++ (apart before spaced ++ (byte ∷ []))) false bytes)
  where
    by : (b : Bool) → length before ≤ length (tight_from before true bytes)
        → length (before ++ (apart before spaced ++ (byte ∷ []))) ≤ length (tight_from (before ++ (apart before spaced ++ (byte ∷ []))) false bytes)
        → length before ≤ length (cond b (tight_from before true bytes) (tight_from (before ++ (apart before spaced ++ (byte ∷ []))) false bytes))
    by true p q = p
    by false p q = omega (arith, q, length-append before (apart before spaced ++ (byte ∷ [])))

said_end : (text : List ℕ) (spaced : Bool) → length text ≤ 64 → said_from text spaced [] ≡ parts_entry (parts_of text)
unfolding said_from before_control has_control tight_from
said_end text spaced l = rw (le-ltb 64 (length text) l)

too_long : (before said : List ℕ) → 64 < length before → said_from before false said ≡ Err fault.TooLong
unfolding said_from
too_long before said l =
    rw (lt-ltb 64 (length (tight_from before false (before_control said))) (omega (arith, tight_grows before false (before_control said))))

module _ (text : List ℕ) (spaced : Bool) (byte : ℕ) (said : List ℕ) where
  said_space : byte ≡ 32 → said_from text spaced (byte ∷ said) ≡ said_from text true said
  unfolding said_from before_control has_control tight_from
  said_space e = rw e

  said_control : is_control byte ≡ true → length text ≤ 64 → said_from text spaced (byte ∷ said) ≡ Err fault.NoSign
  unfolding said_from before_control has_control tight_from
  said_control c l = rw (c, le-ltb 64 (length text) l)

  module _ (plain : is_control byte ≡ false) (other : eqb byte 32 ≡ false) where
    said_byte : said_from text spaced (byte ∷ said) ≡ said_from (text ++ (apart text spaced ++ (byte ∷ []))) false said
    unfolding said_from before_control has_control tight_from
    said_byte = rw (plain, other)

    said_long : 64 < length (text ++ (apart text spaced ++ (byte ∷ []))) → said_from text spaced (byte ∷ said) ≡ Err fault.TooLong
    said_long l = said_byte ∙ too_long (text ++ (apart text spaced ++ (byte ∷ []))) said l

-- ---- one byte more of the line

-- It is bad whatever comes, and says so.
record Stops (g : Gathering) (byte : ℕ) : Type 0 where
  bad : is_bad_line (gathered g byte) ≡ true
  says : (rest : List ℕ) → line_from g (byte ∷ rest) ≡ gathered_entry (gathered g byte)
  fails : (d : Draft) (number : ℕ) → is_fault (after_entry d (gathered_entry (gathered g byte)) number).bad ≡ true

-- It goes on.
record Goes (g : Gathering) (byte : ℕ) : Type 0 where
  not_bad : is_bad_line (gathered g byte) ≡ false
  on : (rest : List ℕ) → line_from g (byte ∷ rest) ≡ line_from (gathered g byte) rest
  good : Good (gathered g byte)

stops_by : (g next : Gathering) (byte : ℕ) → gathered g byte ≡ next → is_bad_line next ≡ true → ((rest : List ℕ) → line_from g (byte ∷ rest) ≡ gathered_entry next)
    → ((d : Draft) (number : ℕ) → is_fault (after_entry d (gathered_entry next) number).bad ≡ true) → Stops g byte
stops_by g next byte e b s f = record {
  bad = rw e b;
  says = λ rest. rw e (s rest);
  fails = λ d number. rw e (f d number);
}

goes_by : (g next : Gathering) (byte : ℕ) → gathered g byte ≡ next → is_bad_line next ≡ false → ((rest : List ℕ) → line_from g (byte ∷ rest) ≡ line_from next rest)
    → Good next → Goes g byte
goes_by g next byte e b s f = record {
  not_bad = rw e b;
  on = λ rest. rw e (s rest);
  good = rw e f;
}

no_sign_fails : (g : Gathering) → g.signless ≡ true → (d : Draft) (number : ℕ) → is_fault (after_entry d (gathered_entry g) number).bad ≡ true
unfolding gathered_entry after_entry is_fault
no_sign_fails g h d number = rw h

too_long_fails : (g : Gathering) → g.signless ≡ false → g.kept.over ≡ true → (d : Draft) (number : ℕ) → is_fault (after_entry d (gathered_entry g) number).bad ≡ true
unfolding gathered_entry after_entry is_fault
too_long_fails g h i d number = rw (h, i)

says_no_sign_of : (g : Gathering) → g.signless ≡ true → gathered_entry g ≡ Err fault.NoSign
unfolding gathered_entry
says_no_sign_of g h = rw h

says_too_long_of : (g : Gathering) → g.signless ≡ false → g.kept.over ≡ true → gathered_entry g ≡ Err fault.TooLong
unfolding gathered_entry
says_too_long_of g h i = rw (h, i)

module _ (g : Gathering) (good : Good g) where
  text_fits : length (kept_text g.kept) ≤ 64
  text_fits = omega (arith, kept_length g.kept good.sound, good.sound.fits)

  good_holds : Holds g.kept (kept_text g.kept)
  good_holds = record { sound = good.sound; either = inl (good.fits, refl) }

  -- with the space that stands before the next byte
  space_holds : Holds (after_space g) (kept_text g.kept ++ apart (kept_text g.kept) g.spaced)
  unfolding after_space
  space_holds = rw (kept_length g.kept good.sound) (by g.spaced g.kept.length)
    where
      by : (b : Bool) (n : ℕ) → Holds (cond (b && ltb 0 n) (kept_with g.kept 32) g.kept) (kept_text g.kept ++ cond (b && not (eqb n 0)) (32 ∷ []) [])
      by true zero = rw append-nil good_holds
      by true (suc n) = rw (lt-ltb 0 (suc n) (omega arith), ne_eqb (suc n) 0 (λ z. omega (arith, z))) (holds_with g.kept (kept_text g.kept) 32 good_holds)
      by false n = rw append-nil good_holds

  -- a line without a comment so far, and a byte that begins none
  line_on : (byte : ℕ) (rest : List ℕ) → g.remark ≡ false → eqb byte 35 ≡ false
      → line_from g (byte ∷ rest) ≡ said_from (kept_text g.kept) g.spaced (byte ∷ before_remark rest)
  unfolding line_from before_remark
  line_on byte rest e h = rw (e, h)

  line_in_remark : (byte : ℕ) (rest : List ℕ) → g.remark ≡ true → line_from g (byte ∷ rest) ≡ line_from (in_remark g) rest
  unfolding line_from
  line_in_remark byte rest e = rw e

  line_begins_remark : (byte : ℕ) (rest : List ℕ) → g.remark ≡ false → eqb byte 35 ≡ true → line_from g (byte ∷ rest) ≡ line_from (in_remark g) rest
  unfolding line_from before_remark
  line_begins_remark byte rest e h = rw (e, h) (said_end (kept_text g.kept) g.spaced text_fits)

  module _ (byte : ℕ) where
    remark_goes : g.remark || eqb byte 35 ≡ true → Goes g byte
    unfolding gathered is_bad_line
    remark_goes h =
        goes_by g (in_remark g) byte (rw h) (rw (good.signs, good.fits)) (λ rest. same g.remark refl rest h)
        (record { sound = good.sound; fits = good.fits; signs = good.signs })
      where
        same : (b : Bool) → g.remark ≡ b → (rest : List ℕ) → b || eqb byte 35 ≡ true → line_from g (byte ∷ rest) ≡ line_from (in_remark g) rest
        same true e rest i = line_in_remark byte rest e
        same false e rest i = line_begins_remark byte rest e i

    module _ (none : g.remark ≡ false) (no_remark : eqb byte 35 ≡ false) where
      plain_goes : (next : Gathering) → next.remark ≡ false
          → ((said : List ℕ) → said_from (kept_text g.kept) g.spaced (byte ∷ said) ≡ said_from (kept_text next.kept) next.spaced said)
          → (rest : List ℕ) → line_from g (byte ∷ rest) ≡ line_from next rest
      unfolding line_from
      plain_goes next e same rest = line_on byte rest none no_remark ∙ rw e (same (before_remark rest))

      space_goes : eqb byte 32 ≡ true → Goes g byte
      unfolding gathered is_bad_line
      space_goes h =
          goes_by g (with_space g) byte (rw (none, no_remark, h)) (rw (good.signs, good.fits))
          (plain_goes (with_space g) none (λ said. said_space (kept_text g.kept) g.spaced byte said (eqb-true byte 32 h)))
          (record { sound = good.sound; fits = good.fits; signs = good.signs })

      module _ (other : eqb byte 32 ≡ false) where
        comes : gathered g byte ≡ with_byte g byte
        unfolding gathered
        comes = rw (none, no_remark, other)

        control_stops : is_control byte ≡ true → Stops g byte
        unfolding is_bad_line
        control_stops c =
            let sign : (with_byte g byte).signless ≡ true = rw (good.signs, c) in
            stops_by g (with_byte g byte) byte comes (rw sign) (λ rest. line_on byte rest none no_remark ∙ said_control (kept_text g.kept) g.spaced byte (before_remark rest) c text_fits ∙ sym (says_no_sign_of (with_byte g byte) sign))
            (no_sign_fails (with_byte g byte) sign)

        byte_either : is_control byte ≡ false → Stops g byte ⊎ Goes g byte
        unfolding is_bad_line
        byte_either c =
            let text = kept_text g.kept in
            let h = rw append_assoc at (holds_with (after_space g) (text ++ apart text g.spaced) byte space_holds) in
            let sign : (with_byte g byte).signless ≡ false = rw (good.signs, c) in
            ⊎_elim
            (λ kept. inr (goes_by g (with_byte g byte) byte comes (rw (sign, kept.0))
            (plain_goes (with_byte g byte) none (λ said. said_byte text g.spaced byte said c other ∙ rw kept.1))
            (record { sound = h.sound; fits = kept.0; signs = sign })))
            (λ long. inl (stops_by g (with_byte g byte) byte comes (rw (sign, long.0))
            (λ rest. line_on byte rest none no_remark ∙ said_long text g.spaced byte (before_remark rest) c other long.1 ∙ sym (says_too_long_of (with_byte g byte) sign long.0))
            (too_long_fails (with_byte g byte) sign long.0)))
            h.either

    byte_taken : Stops g byte ⊎ Goes g byte
    byte_taken = by g.remark refl (eqb byte 35) refl (eqb byte 32) refl (is_control byte) refl
      where
        by : (a : Bool) → g.remark ≡ a → (b : Bool) → eqb byte 35 ≡ b → (d : Bool) → eqb byte 32 ≡ d → (e : Bool) → is_control byte ≡ e → Stops g byte ⊎ Goes g byte
        by true p b q d r e s = inr (remark_goes (rw p))
        by false p true q d r e s = inr (remark_goes (rw (p, q)))
        by false p false q true r e s = inr (space_goes p q r)
        by false p false q false r true s = inl (control_stops p q r s)
        by false p false q false r false s = byte_either p q r s

  -- a line that has ended
  line_ends : line_from g [] ≡ gathered_entry g
  unfolding line_from gathered_entry before_remark
  line_ends = rw (good.signs, good.fits) (by g.remark)
    where
      by : (b : Bool) → cond b (parts_entry (parts_of (kept_text g.kept))) (said_from (kept_text g.kept) g.spaced []) ≡ parts_entry (parts_of (kept_text g.kept))
      by true = refl
      by false = said_end (kept_text g.kept) g.spaced text_fits

-- ---- a text, of which some bytes are read and others are to come

-- the rest of the first line, and the lines behind it
unfoldable first_rest : List ℕ → List ℕ
first_rest [] = []
first_rest (byte ∷ bytes) = cond (eqb byte 10) [] (byte ∷ first_rest bytes)

unfoldable lines_behind : List ℕ → List (List ℕ)
lines_behind [] = []
lines_behind (byte ∷ bytes) = cond (eqb byte 10) (lines_from [] bytes) (lines_behind bytes)

lines_first : (line text : List ℕ) → lines_from line text ≡ (line ++ first_rest text) ∷ lines_behind text
unfolding lines_from first_rest lines_behind
lines_first line [] = ap (λ (l : List ℕ). l ∷ []) (sym (append-nil line))
lines_first line (byte ∷ bytes) = by (eqb byte 10) (lines_first (line ++ (byte ∷ [])) bytes)
  where
    by : (b : Bool) → lines_from (line ++ (byte ∷ [])) bytes ≡ ((line ++ (byte ∷ [])) ++ first_rest bytes) ∷ lines_behind bytes
        → cond b (line ∷ lines_from [] bytes) (lines_from (line ++ (byte ∷ [])) bytes)
        ≡ (line ++ cond b [] (byte ∷ first_rest bytes)) ∷ cond b (lines_from [] bytes) (lines_behind bytes)
    by true p = ap (λ (l : List ℕ). l ∷ lines_from [] bytes) (sym (append-nil line))
    by false p = p ∙ ap (λ (l : List ℕ). l ∷ lines_behind bytes) (append_assoc line (byte ∷ []) (first_rest bytes))

-- a bad first line is the end
draft_stops : (d : Draft) (number : ℕ) (line : List ℕ) (lines : List (List ℕ)) (entry : Result (Option Entry) Fault) → entry_of line ≡ entry
    → is_fault (after_entry d entry number).bad ≡ true → draft_from d number (line ∷ lines) ≡ after_entry d entry number
unfolding draft_from
draft_stops d number line lines entry e f = rw (e, f)

pub draft_goes : (d : Draft) (number : ℕ) (line : List ℕ) (lines : List (List ℕ)) (entry : Result (Option Entry) Fault) → entry_of line ≡ entry
    → is_fault (after_entry d entry number).bad ≡ false → draft_from d number (line ∷ lines) ≡ draft_from (after_entry d entry number) (one_more number) lines
unfolding draft_from
draft_goes d number line lines entry e f = rw (e, f)

start_good : (number : ℕ) → Good (gathering_at number)
start_good number = record {
  sound = record { room = length-replicate {A = ℕ} 64 0; fits = omega arith };
  fits = refl;
  signs = refl;
}

start_line : (number : ℕ) (rest : List ℕ) → entry_of rest ≡ line_from (gathering_at number) rest
unfolding line_from said_from said_of between_of
start_line number rest = refl

number_stays : (g : Gathering) (byte : ℕ) → (gathered g byte).number ≡ g.number
unfolding gathered
number_stays g byte = by (g.remark || eqb byte 35) (eqb byte 32)
  where
    by : (a b : Bool) → (cond a (in_remark g) (cond b (with_space g) (with_byte g byte))).number ≡ g.number
    by true b = refl
    by false true = refl
    by false false = refl

-- what the reading has come to at the end
module _ (d : Draft) (g : Gathering) where
  over_ends : (bytes : List ℕ) → ended_of (fed_of (reading_with d g false) bytes) ≡ d
  unfolding ended_of
  over_ends bytes = sym (ap ended_of (fed_over (reading_with d g false) bytes refl))

  line_read : (byte : ℕ) → eqb byte 10 ≡ true → byte_read (reading_with d g true) byte ≡ line_ended d g
  unfolding byte_read
  line_read byte e = rw e

  byte_read_lem : (byte : ℕ) → eqb byte 10 ≡ false → byte_read (reading_with d g true) byte ≡ byte_gathered d (gathered g byte)
  unfolding byte_read
  byte_read_lem byte e = rw e

  bad_ended : is_fault (line_taken d g).bad ≡ true → line_ended d g ≡ reading_with (line_taken d g) g false
  unfolding line_ended
  bad_ended f = rw f

  good_ended : is_fault (line_taken d g).bad ≡ false → line_ended d g ≡ reading_with (line_taken d g) (gathering_at (one_more g.number)) true
  unfolding line_ended
  good_ended f = rw f

  bad_gathered : is_bad_line g ≡ true → byte_gathered d g ≡ reading_with (line_taken d g) g false
  unfolding byte_gathered
  bad_gathered f = rw f

  good_gathered : is_bad_line g ≡ false → byte_gathered d g ≡ reading_with d g true
  unfolding byte_gathered
  good_gathered f = rw f

ends_with_line : (d : Draft) (g : Gathering) → ended_of (reading_with d g true) ≡ line_taken d g
unfolding ended_of
ends_with_line d g = refl

line_closed : (line bytes : List ℕ) (byte : ℕ) → eqb byte 10 ≡ true → lines_from line (byte ∷ bytes) ≡ line ∷ lines_from [] bytes
unfolding lines_from
line_closed line bytes byte e = rw e

line_longer : (line bytes : List ℕ) (byte : ℕ) → eqb byte 10 ≡ false → lines_from line (byte ∷ bytes) ≡ lines_from (line ++ (byte ∷ [])) bytes
unfolding lines_from
line_longer line bytes byte e = rw e

-- the bytes of a line so far are those that are gathered
abbrev Matches : List ℕ → Gathering → Type 0
Matches line g = (rest : List ℕ) → entry_of (line ++ rest) ≡ line_from g rest

-- the rest of a text is read as the definition says
abbrev ReadOn : List ℕ → Type 0
ReadOn text = (line : List ℕ) (d : Draft) (g : Gathering) → Good g → Matches line g
    → ended_of (fed_of (reading_with d g true) text) ≡ draft_from d g.number (lines_from line text)

said_whole : (line : List ℕ) (g : Gathering) → Good g → Matches line g → entry_of line ≡ gathered_entry g
said_whole line g good so = ap entry_of (sym (append-nil line)) ∙ so [] ∙ line_ends g good

module _ (bytes : List ℕ) (on : ReadOn bytes) (line : List ℕ) (d : Draft) (g : Gathering) (good : Good g) (so : Matches line g) where
  after : (byte : ℕ) (next : Reading) → byte_read (reading_with d g true) byte ≡ next → ended_of (fed_of (reading_with d g true) (byte ∷ bytes)) ≡ ended_of (fed_of next bytes)
  after byte next e = ap ended_of (fed_on (reading_with d g true) byte bytes refl ∙ ap (λ (r : Reading). fed_of r bytes) e)

  module _ (byte : ℕ) (e : eqb byte 10 ≡ true) where
    end_bad : is_fault (line_taken d g).bad ≡ true → ended_of (fed_of (reading_with d g true) (byte ∷ bytes)) ≡ draft_from d g.number (lines_from line (byte ∷ bytes))
    end_bad f =
        after byte (reading_with (line_taken d g) g false) (line_read d g byte e ∙ bad_ended d g f)
        ∙ over_ends (line_taken d g) g bytes
        ∙ sym (ap (draft_from d g.number) (line_closed line bytes byte e) ∙ draft_stops d g.number line (lines_from [] bytes) (gathered_entry g) (said_whole line g good so) f)

    end_good : is_fault (line_taken d g).bad ≡ false → ended_of (fed_of (reading_with d g true) (byte ∷ bytes)) ≡ draft_from d g.number (lines_from line (byte ∷ bytes))
    end_good f =
        let number = one_more g.number in
        after byte (reading_with (line_taken d g) (gathering_at number) true) (line_read d g byte e ∙ good_ended d g f)
        ∙ on [] (line_taken d g) (gathering_at number) (start_good number) (start_line number)
        ∙ sym (ap (draft_from d g.number) (line_closed line bytes byte e) ∙ draft_goes d g.number line (lines_from [] bytes) (gathered_entry g) (said_whole line g good so) f)

  module _ (byte : ℕ) (e : eqb byte 10 ≡ false) where
    byte_stops : Stops g byte → ended_of (fed_of (reading_with d g true) (byte ∷ bytes)) ≡ draft_from d g.number (lines_from line (byte ∷ bytes))
    byte_stops stop =
        let next = gathered g byte in
        let whole : entry_of ((line ++ (byte ∷ [])) ++ first_rest bytes) ≡ gathered_entry next =
        ap entry_of (append_assoc line (byte ∷ []) (first_rest bytes)) ∙ so (byte ∷ first_rest bytes) ∙ stop.says (first_rest bytes) in
        after byte (reading_with (line_taken d next) next false) (byte_read_lem d g byte e ∙ bad_gathered d next stop.bad)
        ∙ over_ends (line_taken d next) next bytes
        ∙ ap (after_entry d (gathered_entry next)) (number_stays g byte)
        ∙ sym (
        ap (draft_from d g.number) (line_longer line bytes byte e ∙ lines_first (line ++ (byte ∷ [])) bytes)
        ∙ draft_stops d g.number ((line ++ (byte ∷ [])) ++ first_rest bytes) (lines_behind bytes) (gathered_entry next) whole (stop.fails d g.number)
        )

    byte_goes : Goes g byte → ended_of (fed_of (reading_with d g true) (byte ∷ bytes)) ≡ draft_from d g.number (lines_from line (byte ∷ bytes))
    byte_goes go =
        let next = gathered g byte in
        after byte (reading_with d next true) (byte_read_lem d g byte e ∙ good_gathered d next go.not_bad)
        ∙ on (line ++ (byte ∷ [])) d next go.good (λ rest. ap entry_of (append_assoc line (byte ∷ []) rest) ∙ so (byte ∷ rest) ∙ go.on rest)
        ∙ ap (λ (n : ℕ). draft_from d n (lines_from (line ++ (byte ∷ [])) bytes)) (number_stays g byte)
        ∙ sym (ap (draft_from d g.number) (line_longer line bytes byte e))

  byte_on : (byte : ℕ) → ended_of (fed_of (reading_with d g true) (byte ∷ bytes)) ≡ draft_from d g.number (lines_from line (byte ∷ bytes))
  byte_on byte = by (eqb byte 10) refl (is_fault (line_taken d g).bad) refl
    where
      by : (a : Bool) → eqb byte 10 ≡ a → (b : Bool) → is_fault (line_taken d g).bad ≡ b
          → ended_of (fed_of (reading_with d g true) (byte ∷ bytes)) ≡ draft_from d g.number (lines_from line (byte ∷ bytes))
      by true e true f = end_bad byte e f
      by true e false f = end_good byte e f
      by false e b f = ⊎_elim (byte_stops byte e) (byte_goes byte e) (byte_taken g good byte)

pub last_line : (d : Draft) (number : ℕ) (line : List ℕ) → draft_from d number (line ∷ []) ≡ after_entry d (entry_of line) number
unfolding draft_from
last_line d number line = by (is_fault (after_entry d (entry_of line) number).bad)
  where
    by : (b : Bool) → cond b (after_entry d (entry_of line) number) (after_entry d (entry_of line) number) ≡ after_entry d (entry_of line) number
    by true = refl
    by false = refl

nothing_left : (d : Draft) (g : Gathering) → ended_of (fed_of (reading_with d g true) []) ≡ line_taken d g
unfolding fed_of
nothing_left d g = ends_with_line d g

no_more_lines : (line : List ℕ) → lines_from line [] ≡ line ∷ []
unfolding lines_from
no_more_lines line = refl

read_on : (text : List ℕ) → ReadOn text
read_on [] line d g good so =
    nothing_left d g
    ∙ ap (λ (entry : Result (Option Entry) Fault). after_entry d entry g.number) (sym (said_whole line g good so))
    ∙ sym (ap (draft_from d g.number) (no_more_lines line) ∙ last_line d g.number line)
read_on (byte ∷ bytes) line d g good so = byte_on bytes (read_on bytes) line d g good so byte

-- ---- chunks

fed_append : (a b : List ℕ) (r : Reading) → fed_of r (a ++ b) ≡ fed_of (fed_of r a) b
unfolding fed_of
fed_append [] b r = refl
fed_append (byte ∷ bytes) b r = by r.more refl (fed_append bytes b (byte_read r byte))
  where
    by : (m : Bool) → r.more ≡ m → fed_of (byte_read r byte) (bytes ++ b) ≡ fed_of (fed_of (byte_read r byte) bytes) b
        → cond m (fed_of (byte_read r byte) (bytes ++ b)) r ≡ fed_of (cond m (fed_of (byte_read r byte) bytes) r) b
    by true e p = p
    by false e p = fed_over r b e

fed_joined : (chunks : List (List ℕ)) (r : Reading) → fed_all r chunks ≡ fed_of r (joined chunks)
unfolding fed_of
fed_joined [] r = refl
fed_joined (chunk ∷ chunks) r = fed_joined chunks (fed_of r chunk) ∙ sym (fed_append chunk (joined chunks) r)

text_read : (text : List ℕ) → ended_of (fed_of start_of text) ≡ plan_of text
unfolding plan_of
text_read text = read_on text [] empty_draft (gathering_at 1) (start_good 1) (start_line 1)

pub chunks_do_not_matter : ChunksDoNotMatter
chunks_do_not_matter chunks = ap ended_of (fed_joined chunks start_of) ∙ text_read (joined chunks)

over_is : (r : Reading) → r.more ≡ false → ended_of r ≡ r.draft
unfolding ended_of
over_is r h = rw h

pub nothing_behind : NothingBehind
nothing_behind text behind h =
    sym (text_read (text ++ behind))
    ∙ ap ended_of (fed_append text behind start_of ∙ sym (fed_over (fed_of start_of text) behind h))
    ∙ over_is (fed_of start_of text) h
