-- What an open message of the machine is: the summary of its records. A record more makes it the summary of them and that record; what a record is to it,
-- and what it closes to, is as the definition says. Assumes nothing.
use Rattle.std.proofs.Common.{◌≡◌, ℕ, suc, ◌+◌, ◌-◌, ◌^◌, ◌<◌, ◌≤◌, Bool, true, false, cond, not, ◌&&◌, ◌||◌, eqb, ltb, List, [], ◌∷◌, length, take, drop, sym, refl, ap, ◌∙◌, mod-eq_of_lt, arith, length-append, length-drop, drop_of_length-le, ltb-false, ltb-true, eq-eqb, ne_eqb}
use Rattle.std.specs.Prelude.{slice_get, Option, Some, None}
use mathlib.Core.Bool.{or-false}
use lib.Seq.{drop-nil, take-append-le, drop-append-le}
use Rattle.words.specs.Words.{awaited_of}
use Rattle.words.specs.declared.times.Moment.{Moment}
use Rattle.records.specs.declared.forms.WordRecord.{WordRecord}
use Rattle.verdict.specs.Plans.{is_possible, expected_of}
use Rattle.verdict.specs.Facts.{fact_of}
use Rattle.verdict.specs.Verdicts.{finish_of, found_or_shown, verdict_of}
use Rattle.verdict.specs.Theorems.{found_after, last_after}
use Rattle.verdict.specs.declared.verdicts.Verdict.{Verdict}
use Rattle.verdict.specs.declared.plans.Plan.{Plan}
use Rattle.verdict.specs.declared.plans.Expected.{Expected}
use Rattle.monitor.specs.Entries.{is_command, is_data_word, is_second, commands_of, last_command, behind_of, statuses_in, statuses_by, statuses_of, last_in, own_number, is_spoiled, has_twins, plan_with, gap_before, data_words, is_far, expects, part_of, own_last, returned_in, plan_of, outcome_in, message_of}
use Rattle.words.specs.Counts.{sum64}
use Rattle.monitor.specs.Machine.{next64, heads_status, gap_after, heard_status, heard_own, heard_returned, heard_word, counted, opened_by, heads_second, with_second, heard_second, joined_by, awaits_with, awaits_second, expects_from, part_for, outcome_of, closed_at}
use Rattle.monitor.specs.declared.entries.Commands.{Commands}
use Rattle.monitor.specs.declared.entries.Commands.TheVariants as commands
use Rattle.monitor.specs.declared.entries.Statuses.{Statuses}
use Rattle.monitor.specs.declared.entries.Statuses.TheVariants as statuses
use Rattle.monitor.specs.declared.entries.Gap.{Gap}
use Rattle.monitor.specs.declared.openings.Heads.{Heads}
use Rattle.monitor.specs.declared.openings.Opening.{Opening}
use Rattle.monitor.specs.declared.openings.Part.TheVariants.{Second, Status, Other}
use Rattle.verdict.proofs.Looks.{look_by_look}
use Rattle.monitor.proofs.Appends.{snoc, is_bad, last_time, last_split, spoiled_none, spoiled_own, spoiled_returned, found_snoc, last_snoc, twins_snoc, words_snoc, statuses_more, statuses_same, by_more, gap_more, gap_same}

-- what is expected back depends on the commands alone
pub same_back : (cs : Commands) (bus other : ℕ) (a b c d : Moment) → expected_of (plan_with cs bus a b) ≡ expected_of (plan_with cs other c d)
unfolding expected_of
same_back (commands.One first) bus other a b c d = refl
same_back (commands.Two first second) bus other a b c d = refl

pub same_possible : (cs : Commands) (bus other : ℕ) (a b c d : Moment) → is_possible (plan_with cs bus a b) ≡ is_possible (plan_with cs other c d)
unfolding is_possible
same_possible (commands.One first) bus other a b c d = refl
same_possible (commands.Two first second) bus other a b c d = refl

shown_same : (p q : Plan) → expected_of p ≡ expected_of q → (found : Option Verdict) (place last : ℕ) (r : WordRecord)
    → found_or_shown found p place last r ≡ found_or_shown found q place last r
shown_same p q e None place last r = ap (λ (k : List Expected). fact_of (slice_get k place) last r) e
shown_same p q e (Some fact) place last r = refl

-- the summary, where t is the time of the last command word, n the number of own data words and rs the records behind the commands
abbrev pub built : ℕ → Moment → Heads → ℕ → ℕ → Moment → Bool → ℕ → ℕ → List WordRecord → Opening
built bus time h words records last twins n t rs = record {
  bus = bus;
  time = time;
  heads = h;
  words = words;
  records = records;
  last = last;
  left = n - length rs;
  spoiled = is_spoiled n t rs;
  twins = twins;
  returned = length (drop n rs);
  found = found_after (plan_with h.commands bus time time) None 0 (last_after t (take n rs)) (drop n rs);
}

length_snoc : (rs : List WordRecord) (r : WordRecord) → length (snoc rs r) ≡ length rs + 1
length_snoc rs r = length-append rs (r ∷ [])

pub next_fits : (n : ℕ) → n + 1 < 2 ^ 64 → next64 n ≡ n + 1
next_fits n l = mod-eq_of_lt l

-- one record more behind the commands
module _ (bus : ℕ) (time : Moment) (h : Heads) (words records : ℕ) (last : Moment) (twins : Bool) (n t : ℕ) (rs : List WordRecord) (r : WordRecord)
    (e : last.0 ≡ last_after t rs) (few : length rs + 1 < 2 ^ 64) where
  abbrev made : ℕ → Bool → ℕ → Option Verdict → Opening
  made left spoiled returned found = record {
    bus = bus;
    time = time;
    heads = h;
    words = words;
    records = records;
    last = last;
    left = left;
    spoiled = spoiled;
    twins = twins;
    returned = returned;
    found = found;
  }

  made_same : {left left' returned returned' : ℕ} {spoiled spoiled' : Bool} {found found' : Option Verdict} → left ≡ left' → spoiled ≡ spoiled' → returned ≡ returned' → found ≡ found'
      → made left spoiled returned found ≡ made left' spoiled' returned' found'
  made_same a b c d = rw (a, b, c, d)

  abbrev plan : Plan
  plan = plan_with h.commands bus time time

  -- one of the controller's own words: nothing is returned yet
  own : length rs < n → heard_own (built bus time h words records last twins n t rs) r ≡ built bus time h words records last twins n t (snoc rs r)
  unfolding heard_own
  own l =
      let none : drop n (snoc rs r) ≡ [] = drop_of_length-le (snoc rs r) {i = n} (omega (arith, length_snoc rs r)) in
      let none_before : drop n rs ≡ [] = drop_of_length-le rs {i = n} (omega arith) in
      made_same
      (omega (arith, length_snoc rs r))
      (ap (λ (k : ℕ). is_spoiled n t rs || is_bad k r) e ∙ sym (spoiled_own n t rs r l))
      (ap length (none_before ∙ sym none))
      (ap (found_after plan None 0 (last_after t (take n rs))) none_before ∙ sym (ap (found_after plan None 0 (last_after t (take n (snoc rs r)))) none))

  returned : n ≤ length rs → heard_returned (built bus time h words records last twins n t rs) r ≡ built bus time h words records last twins n t (snoc rs r)
  unfolding heard_returned
  returned l =
      let more : drop n (snoc rs r) ≡ snoc (drop n rs) r = drop-append-le n rs (r ∷ []) l in
      let same : take n (snoc rs r) ≡ take n rs = take-append-le n rs (r ∷ []) l in
      let found = found_after plan None 0 (last_after t (take n rs)) (drop n rs) in
      made_same
      (omega (arith, length_snoc rs r))
      (sym (spoiled_returned n t rs r l))
      (next_fits (length (drop n rs)) (omega (arith, length-drop n rs)) ∙ sym (length_snoc (drop n rs) r) ∙ sym (ap length more))
      (shown_same (plan_with h.commands bus last r.time) plan (same_back h.commands bus bus last r.time time time) found (length (drop n rs)) last.0 r
      ∙ ap (λ (k : ℕ). found_or_shown found plan (length (drop n rs)) k r) (e ∙ sym (last_split n t rs))
      ∙ ap (λ (k : ℕ). found_or_shown found plan k (last_after (last_after t (take n rs)) (drop n rs)) r)
      {x = length (drop n rs)} {y = 0 + length (drop n rs)} (omega arith)
      ∙ sym (found_snoc plan (drop n rs) r None 0 (last_after t (take n rs)))
      ∙ ap (λ (k : List WordRecord). found_after plan None 0 (last_after t k) (snoc (drop n rs) r)) (sym same)
      ∙ ap (found_after plan None 0 (last_after t (take n (snoc rs r)))) (sym more))

  pub word_more : heard_word (built bus time h words records last twins n t rs) r ≡ built bus time h words records last twins n t (snoc rs r)
  unfolding heard_word
  word_more = go (ltb (length rs) n) refl
    where
      go : (b : Bool) → ltb (length rs) n ≡ b
          → cond (eqb (n - length rs) 0) (heard_returned (built bus time h words records last twins n t rs) r) (heard_own (built bus time h words records last twins n t rs) r)
          ≡ built bus time h words records last twins n t (snoc rs r)
      go true l = rw (ne_eqb (n - length rs) 0 (λ z. omega (arith, ltb-true (length rs) n l, z))) (own (ltb-true (length rs) n l))
      go false l = rw (eq-eqb (n - length rs) 0 (omega (arith, ltb-false (length rs) n l))) (returned (ltb-false (length rs) n l))

-- ---- the summary of an entry's records

abbrev pub heads_of : WordRecord → List WordRecord → Heads
heads_of first rest = record {
  commands = commands_of first rest;
  statuses = statuses_of first rest;
  gap = gap_before (last_command first rest).time.0 (behind_of first rest);
}

abbrev pub opening_of : WordRecord → List WordRecord → Opening
opening_of first rest =
    built first.bus first.time (heads_of first rest) (data_words rest) (length (first ∷ rest)) (last_in first rest).time (has_twins first rest)
    (own_number first rest) (last_command first rest).time.0 (behind_of first rest)

-- the last record is the last behind the commands, or the last command
pub last_behind : (first : WordRecord) (rest : List WordRecord) → (last_in first rest).time.0 ≡ last_after (last_command first rest).time.0 (behind_of first rest)
last_behind first [] = refl
last_behind first (x ∷ rest) = go (is_second first x)
  where
    go : (b : Bool) → (last_in x rest).time.0 ≡ last_after (cond b x first).time.0 (cond b rest (x ∷ rest))
    go true = last_time x rest
    go false = last_time x rest

-- fewer are behind the commands than in the entry
behind_few : (first : WordRecord) (rest : List WordRecord) → length (behind_of first rest) ≤ length rest
behind_few first [] = omega arith
behind_few first (x ∷ rest) = go (is_second first x)
  where
    go : (b : Bool) → length (cond b rest (x ∷ rest)) ≤ length (x ∷ rest)
    go true = omega arith
    go false = omega arith

one_most : (b : Bool) → cond b 1 0 ≤ 1
one_most true = omega arith
one_most false = omega arith

words_few : (rest : List WordRecord) → data_words rest ≤ length rest
words_few [] = omega arith
words_few (x ∷ rest) = omega (arith, words_few rest, one_most (is_data_word x))

-- ---- a command word opens it

pub opened : (first : WordRecord) → opened_by first ≡ opening_of first []
unfolding opened_by
opened first =
    let n = awaited_of first.word in
    rw (spoiled_none n first.time.0, drop-nil {A = WordRecord} n)
    (ap
    (λ (k : ℕ).
    record {
      bus = first.bus;
      time = first.time;
      heads = heads_of first [];
      words = 0;
      records = 1;
      last = first.time;
      left = k;
      spoiled = false;
      twins = false;
      returned = 0;
      found = None;
    })
    {x = n} {y = n - 0} (omega arith))

-- ---- a record that is no second command

built_same : {bus : ℕ} {time : Moment} {h h' : Heads} {words words' records records' n n' t t' : ℕ} {last last' : Moment} {twins twins' : Bool} {rs rs' : List WordRecord}
    → h ≡ h' → words ≡ words' → records ≡ records' → last ≡ last' → twins ≡ twins' → n ≡ n' → t ≡ t' → rs ≡ rs'
    → built bus time h words records last twins n t rs ≡ built bus time h' words' records' last' twins' n' t' rs'
built_same a b c d e f g k = rw (a, b, c, d, e, f, g, k)

heads_same : {cs cs' : Commands} {ss ss' : Statuses} {g g' : Option Gap} → cs ≡ cs' → ss ≡ ss' → g ≡ g'
    → ◌≡◌ {A = Heads} (record { commands = cs; statuses = ss; gap = g }) (record { commands = cs'; statuses = ss'; gap = g' })
heads_same a b c = rw (a, b, c)

-- it changes nothing of the commands, and comes behind those behind them
pub record Stays (first : WordRecord) (rest : List WordRecord) (r : WordRecord) : Type 0 where
  pub commands : commands_of first (snoc rest r) ≡ commands_of first rest
  pub last : last_command first (snoc rest r) ≡ last_command first rest
  pub number : own_number first (snoc rest r) ≡ own_number first rest
  pub behind : behind_of first (snoc rest r) ≡ snoc (behind_of first rest) r

pub stays : (first : WordRecord) (rest : List WordRecord) (r : WordRecord) → (eqb (length rest) 0 && is_second first r) ≡ false → Stays first rest r
stays first [] r h = record { commands = rw (h); last = rw (h); number = rw (h); behind = rw (h) }
stays first (x ∷ rest) r h = record { commands = refl; last = refl; number = refl; behind = go (is_second first x) }
  where
    go : (b : Bool) → cond b (snoc rest r) (x ∷ snoc rest r) ≡ snoc (cond b rest (x ∷ rest)) r
    go true = refl
    go false = refl

module _ (first : WordRecord) (rest : List WordRecord) (r : WordRecord) (still : Stays first rest r) (few : length (first ∷ rest) + 1 < 2 ^ 64) where
  records_snoc : length (first ∷ rest) + 1 ≡ length (first ∷ snoc rest r)
  records_snoc = omega (arith, length_snoc rest r)

  -- all but the statuses and the gap
  grown : (h : Heads) → h.commands ≡ commands_of first rest → h ≡ heads_of first (snoc rest r)
      → counted
      (heard_word
      (built first.bus first.time h (data_words rest) (length (first ∷ rest)) (last_in first rest).time (has_twins first rest) (own_number first rest)
      (last_command first rest).time.0 (behind_of first rest)) r) r
      ≡ opening_of first (snoc rest r)
  unfolding counted
  grown h c e =
      ap (λ (o : Opening). counted o r)
      (word_more first.bus first.time h (data_words rest) (length (first ∷ rest)) (last_in first rest).time (has_twins first rest) (own_number first rest)
      (last_command first rest).time.0 (behind_of first rest) r (last_behind first rest) (omega (arith, behind_few first rest)))
      ∙ built_same
      e
      (mod-eq_of_lt (omega (arith, words_few rest, one_most (is_data_word r))) ∙ sym (words_snoc rest r))
      (next_fits (length (first ∷ rest)) few ∙ records_snoc)
      (ap (λ (k : WordRecord). k.time) (sym (last_snoc first rest r)))
      (sym (twins_snoc first rest r))
      (sym still.number)
      (ap (λ (k : WordRecord). k.time.0) (sym still.last))
      (sym still.behind)

  pub joined_status : is_command r ≡ true → joined_by (opening_of first rest) Status r ≡ opening_of first (snoc rest r)
  unfolding joined_by heard_status heads_status gap_after
  joined_status h =
      grown (heads_status (heads_of first rest) (last_in first rest).time r) refl
      (heads_same
      (sym still.commands)
      (sym (by_more (statuses_in (behind_of first rest)) r)
      ∙ ap statuses_by (sym (statuses_more (behind_of first rest) r h))
      ∙ ap (λ (k : List WordRecord). statuses_by (statuses_in k)) (sym still.behind))
      (sym (gap_more (last_command first rest).time.0 (behind_of first rest) r h (last_in first rest).time (last_behind first rest))
      ∙ ap (λ (k : WordRecord). gap_before k.time.0 (snoc (behind_of first rest) r)) (sym still.last)
      ∙ ap (gap_before (last_command first (snoc rest r)).time.0) (sym still.behind)))

  pub joined_other : is_command r ≡ false → joined_by (opening_of first rest) Other r ≡ opening_of first (snoc rest r)
  unfolding joined_by
  joined_other h =
      grown (heads_of first rest) refl
      (heads_same
      (sym still.commands)
      (ap statuses_by (sym (statuses_same (behind_of first rest) r h)) ∙ ap (λ (k : List WordRecord). statuses_by (statuses_in k)) (sym still.behind))
      (sym (gap_same (last_command first rest).time.0 (behind_of first rest) r h)
      ∙ ap (λ (k : WordRecord). gap_before k.time.0 (snoc (behind_of first rest) r)) (sym still.last)
      ∙ ap (gap_before (last_command first (snoc rest r)).time.0) (sym still.behind)))

-- ---- the second command

sum_one : (b : Bool) → sum64 0 (cond b 1 0) ≡ cond b 1 0 + 0
sum_one true = refl
sum_one false = refl

pub joined_second : (first r : WordRecord) → is_second first r ≡ true → joined_by (opening_of first []) Second r ≡ opening_of first (r ∷ [])
unfolding joined_by counted heard_second heads_second with_second
joined_second first r h =
    rw (h, spoiled_none (awaited_of first.word) first.time.0, drop-nil {A = WordRecord} (awaited_of first.word))
    (ap (λ (k : ℕ). both k (eqb r.time.0 first.time.0)) (sum_one (is_data_word r))
    ∙ ap (both (cond (is_data_word r) 1 0 + 0)) (sym (or-false (eqb r.time.0 first.time.0))))
  where
    both : ℕ → Bool → Opening
    both words twins = record {
      bus = first.bus;
      time = first.time;
      heads = record { commands = commands.Two (record { 0 = first.word }) (record { 0 = r.word }); statuses = statuses.None; gap = None };
      words = words;
      records = 2;
      last = r.time;
      left = 0;
      spoiled = false;
      twins = twins;
      returned = 0;
      found = None;
    }

-- ---- what a record is to it

same_second : (first : WordRecord) (rest : List WordRecord) (r : WordRecord) → is_command r ≡ true
    → awaits_second (opening_of first rest) r ≡ (eqb (length rest) 0 && is_second first r)
unfolding awaits_second is_second
same_second first [] r h = rw (h)
same_second first (x ∷ rest) r h = go (is_second first x)
  where
    o : Opening
    o = opening_of first (x ∷ rest)

    go : (b : Bool)
        → awaits_with (cond b (commands.Two (record { 0 = first.word }) (record { 0 = x.word })) (commands.One (record { 0 = first.word }))) (opening_of first (x ∷ rest)) r
        ≡ (eqb (length (x ∷ rest)) 0 && is_second first r)
    go true = rw (ne_eqb (suc (length rest)) 0 (λ z. omega (arith, z)))
    go false = rw (ne_eqb (suc (length rest)) 0 (λ z. omega (arith, z)), ne_eqb (suc (suc (length rest))) 1 (λ z. omega (arith, z)))

pub same_part : (first : WordRecord) (rest : List WordRecord) (r : WordRecord) → part_for (opening_of first rest) r ≡ part_of first rest r
unfolding part_for part_of is_far expects_from expects
same_part first rest r = go (is_command r) refl
  where
    go : (b : Bool) → is_command r ≡ b → part_for (opening_of first rest) r ≡ part_of first rest r
    go true h = rw (same_second first rest r h)
    go false h = rw (h)

-- ---- what it closes to

found_same : (p q : Plan) → expected_of p ≡ expected_of q → (rs : List WordRecord) (found : Option Verdict) (place last : ℕ)
    → found_after p found place last rs ≡ found_after q found place last rs
found_same p q e [] found place last = refl
found_same p q e (r ∷ rs) found place last =
    ap (λ (k : Option Verdict). found_after p k (suc place) r.time.0 rs) (shown_same p q e found place last r)
    ∙ found_same p q e rs (found_or_shown found q place last r) (suc place) r.time.0

finish_same : (p q : Plan) → expected_of p ≡ expected_of q → p.until ≡ q.until → (found : Option Verdict) (place last : ℕ)
    → finish_of p found place last ≡ finish_of q found place last
unfolding finish_of
finish_same p q e u None place last = rw (e, u)
finish_same p q e u (Some fact) place last = refl

pub plan_bus : (cs : Commands) (bus : ℕ) (last until : Moment) → (plan_with cs bus last until).bus ≡ bus
plan_bus (commands.One first) bus last until = refl
plan_bus (commands.Two first second) bus last until = refl

pub plan_last : (cs : Commands) (bus : ℕ) (last until : Moment) → (plan_with cs bus last until).last ≡ last
plan_last (commands.One first) bus last until = refl
plan_last (commands.Two first second) bus last until = refl

pub plan_until : (cs : Commands) (bus : ℕ) (last until : Moment) → (plan_with cs bus last until).until ≡ until
plan_until (commands.One first) bus last until = refl
plan_until (commands.Two first second) bus last until = refl

left_short : (n m : ℕ) → not (eqb (n - m) 0) ≡ ltb m n
left_short n m = go (ltb m n) refl
  where
    go : (b : Bool) → ltb m n ≡ b → not (eqb (n - m) 0) ≡ b
    go true l = rw (ne_eqb (n - m) 0 (λ z. omega (arith, ltb-true m n l, z)))
    go false l = rw (eq-eqb (n - m) 0 (omega (arith, ltb-false m n l)))

reorder : (spoiled twins short impossible : Bool) → (spoiled || twins || short || impossible) ≡ (impossible || (spoiled || short) || twins)
reorder true true true true = refl
reorder true true true false = refl
reorder true true false true = refl
reorder true true false false = refl
reorder true false true true = refl
reorder true false true false = refl
reorder true false false true = refl
reorder true false false false = refl
reorder false true true true = refl
reorder false true true false = refl
reorder false true false true = refl
reorder false true false false = refl
reorder false false true true = refl
reorder false false true false = refl
reorder false false false true = refl
reorder false false false false = refl

module _ (first : WordRecord) (rest : List WordRecord) (until : Moment) where
  abbrev cs : Commands
  cs = commands_of first rest

  abbrev n : ℕ
  n = own_number first rest

  abbrev t : ℕ
  t = (last_command first rest).time.0

  abbrev rs : List WordRecord
  rs = behind_of first rest

  -- E is the time of the last own word
  pub own_last_lem : (plan_of first rest until).last.0 ≡ last_after t (take n rs)
  own_last_lem = ap (λ (k : Moment). k.0) (plan_last cs first.bus (own_last first rest).time until) ∙ last_time (last_command first rest) (take n rs)

  same_verdict : finish_of (plan_with cs first.bus (last_in first rest).time until) (opening_of first rest).found (length (drop n rs)) (last_in first rest).time.0
      ≡ verdict_of (plan_of first rest until) (returned_in first rest)
  same_verdict =
      let back = same_back cs first.bus first.bus (last_in first rest).time until (own_last first rest).time until in
      finish_same _ (plan_of first rest until) back (plan_until cs first.bus (last_in first rest).time until ∙ sym (plan_until cs first.bus (own_last first rest).time until)) _ _ _
      ∙ ap (λ (k : Option Verdict). finish_of (plan_of first rest until) k (length (drop n rs)) (last_in first rest).time.0)
      (found_same _ (plan_of first rest until) (same_back cs first.bus first.bus first.time first.time (own_last first rest).time until) (drop n rs) None 0 (last_after t (take n rs))
      ∙ ap (λ (k : ℕ). found_after (plan_of first rest until) None 0 k (drop n rs)) (sym own_last_lem))
      ∙ ap (finish_of (plan_of first rest until) (found_after (plan_of first rest until) None 0 (plan_of first rest until).last.0 (drop n rs)) (length (drop n rs)))
      (last_behind first rest ∙ sym (last_split n t rs) ∙ ap (λ (k : ℕ). last_after k (drop n rs)) (sym own_last_lem))
      ∙ look_by_look (plan_of first rest until) (returned_in first rest)

  pub same_outcome : outcome_of (opening_of first rest) until ≡ outcome_in first rest until
  unfolding outcome_of outcome_in
  same_outcome =
      rw (
        same_verdict,
        left_short n (length rs),
        same_possible cs first.bus first.bus (last_in first rest).time until (own_last first rest).time until,
        reorder (is_spoiled n t rs) (has_twins first rest) (ltb (length rs) n) (not (is_possible (plan_of first rest until))),
      )

  pub same_message : closed_at (opening_of first rest) until ≡ message_of first rest until
  unfolding closed_at message_of
  same_message = ap (λ (k : Option Verdict). record {
    bus = first.bus;
    time = first.time;
    commands = commands_of first rest;
    statuses = statuses_of first rest;
    words = data_words rest;
    records = length (first ∷ rest);
    gap = gap_before (last_command first rest).time.0 (behind_of first rest);
    outcome = k;
  }) same_outcome
