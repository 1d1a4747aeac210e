-- Whatever the calls, what the machine has given and what still waits make up the definition's result. Assumes nothing.
use Rattle.words.specs.declared.times.Moment.{Moment}
use Rattle.std.specs.Prelude.{Option, Some, None}
use Rattle.std.proofs.Common.{◌≡◌, ℕ, zero, suc, ◌+◌, ◌-◌, ◌/◌, ◌^◌, ◌<◌, ◌≤◌, Bool, true, false, cond, eqb, ltb, List, [], ◌∷◌, ◌++◌, length, take, drop, sym, refl, ap, ◌∙◌, subst, ap₂, append_assoc, append-nil, zero-add, arith, length-append, length-drop, take-append-drop, take-take, drop-drop, ltb-false, ltb-true}
use native.Mathlib.Decide.{dec_le}
use mathlib.Core.Logic.{dite}
use lib.Seq.{take-nil}
use Rattle.windows.specs.Windows.{count_of, waiting_in, filled_of, filled_room}
use Rattle.windows.proofs.Waiting.{waiting_count, taken_waits, taken_count, taken_inside, filled_waits, filled_few, filled_some}
use Rattle.words.specs.Counts.{sum64}
use Rattle.salvage.specs.Pieces.{pieces_from, pieces_of, after_first, first_of, first_in, version_of, clean_of, listed, run_in, run_list, runs_of, changed_of, records_in, skipped_in}
use Rattle.salvage.specs.Machine.{kept_from, skipped_from, settled_kept, settled_skipped, run_ended, gathered_of, begun_of, fed_by, fed_of, behind_first, room_of, stretch_of, skips_of, asked_of, is_settled_of, is_changed, size_of, totals_of, ended_of}
use Rattle.salvage.specs.Theorems.{Call, feeds, asks, Session, begun, after_call, after, Exact, ChunksDoNotMatter, FirstStays, GoesOn, GetsThere}
use Rattle.salvage.specs.declared.stretches.Stretch.{Stretch}
use Rattle.salvage.specs.declared.salvages.First.{First}
use Rattle.salvage.specs.declared.salvages.First.TheVariants.{Missing, Kept, Changed}
use Rattle.salvage.specs.declared.salvages.Run.{Run}
use Rattle.salvage.specs.declared.salvages.Settled.{Settled}
use Rattle.salvage.specs.declared.salvages.Salvage.{Salvage}
use Rattle.salvage.specs.declared.salvages.Fed.{Fed}
use Rattle.salvage.specs.declared.salvages.Totals.{Totals}
use Rattle.salvage.proofs.Cases.{settled_none, settled_some, run_none, run_some, run_listed}
use Rattle.salvage.proofs.Fronts.{by_choice, kept_keep, kept_skip, kept_within, skipped_one, skipped_within}
use Rattle.salvage.proofs.Tallies.{Tally, tally_same, tell, tell_clean, tell_runs, tell_records, tell_skipped, with_skipped, with_records, with_kept, with_none, with_some, tell_kept, tell_skips, tell_rest}

-- ---- what was given so far, and what waits

abbrev tallied : Settled → List ℕ → List Run → Tally
tallied s clean runs = record { clean = clean; runs = runs; place = s.run.place; before = s.run.length; records = s.records; skipped = s.skipped }

abbrev start_tally : Tally
start_tally = record { clean = []; runs = []; place = 1; before = 0; records = 0; skipped = 0 }

-- of the bytes `rest` behind the first, whatever will follow them
record Going (s : Settled) (waiting rest clean : List ℕ) (runs : List Run) : Type 0 where
  told : (future : List ℕ) → tell start_tally (pieces_from 0 None (rest ++ future)) ≡ tell (tallied s clean runs) (pieces_from 0 s.last (waiting ++ future))
  places : s.run.place + s.run.length + length waiting ≡ 1 + length rest
  few_records : s.records ≤ s.run.place
  few_skipped : s.skipped ≤ s.run.place + s.run.length

-- fed
going_fed : (s : Settled) (waiting rest clean : List ℕ) (runs : List Run) (more : List ℕ) → Going s waiting rest clean runs → Going s (waiting ++ more) (rest ++ more) clean runs
going_fed s waiting rest clean runs more going = record {
  told = λ future.
      ap (λ (k : List ℕ). tell start_tally (pieces_from 0 None k)) (append_assoc rest more future)
      ∙ going.told (more ++ future)
      ∙ ap (λ (k : List ℕ). tell (tallied s clean runs) (pieces_from 0 s.last k)) (sym (append_assoc waiting more future));
  places = omega (arith, going.places, length-append waiting more, length-append rest more);
  few_records = going.few_records;
  few_skipped = going.few_skipped;
}

-- a stretch of no byte leaves the last kept
none_last : (last : Option Moment) (s : List ℕ) → (kept_from last s).bytes ≡ 0 → (kept_from last s).last ≡ last
none_last last s h =
    by_choice last s ((kept_from last s).last ≡ last)
    (λ t q. absurd (omega (arith, h, ap (λ (k : Stretch). k.bytes) (kept_keep last s t q))))
    (λ q. ap (λ (k : Stretch). k.last) (kept_skip last s q))

-- asked: a stretch of records, then n bytes that are skipped; s' is what is settled with the stretch, ended the run that it ends
record Asked (s : Settled) (waiting rest clean : List ℕ) (runs : List Run) (k : Stretch) (n : ℕ) (s' : Settled) (ended : Option Run) : Type 0 where
  last_same : s'.last ≡ k.last
  tally_same : with_skipped (with_kept (tallied s clean runs) (take k.bytes waiting) k.bytes) n
      ≡ tallied (settled_skipped s' n) (clean ++ take k.bytes waiting) (runs ++ run_list ended)
  places : s'.run.place + sum64 s'.run.length n + (length waiting - (k.bytes + n)) ≡ 1 + length rest
  few_records : s'.records ≤ s'.run.place
  few_skipped : sum64 s'.skipped n ≤ s'.run.place + sum64 s'.run.length n

sum_small : (a b : ℕ) → a + b < 2 ^ 64 → sum64 a b ≡ a + b
sum_small a b l = omega arith

sixteenth : (r p l b x y : ℕ) → r ≤ p → x ≡ r + b / 16 → y ≡ p + l + b → x ≤ y
sixteenth r p l b x y few x-is y-is = omega arith

module _ (s : Settled) (waiting rest clean : List ℕ) (runs : List Run) (k : Stretch) (n : ℕ) (going : Going s waiting rest clean runs)
    (small : 1 + length rest < 2 ^ 64) (inside : k.bytes + n ≤ length waiting) where
  asked_none : k.bytes ≡ 0 → k.last ≡ s.last → Asked s waiting rest clean runs k n s None
  asked_none h e =
      let length_is = sum_small s.run.length n (omega (arith, going.places)) in
      let skipped_is = sum_small s.skipped n (omega (arith, going.places, going.few_skipped)) in
      record {
        last_same = sym e;
        tally_same =
            ap (λ (t : Tally). with_skipped t n) (with_none (tallied s clean runs) (take k.bytes waiting) k.bytes h)
            ∙ tally_same (with_skipped (tallied s clean runs) n) (tallied (settled_skipped s n) (clean ++ take k.bytes waiting) (runs ++ []))
            (sym (append-nil clean) ∙ ap (λ (j : ℕ). clean ++ take j waiting) (sym h)) (sym (append-nil runs)) refl (sym length_is) refl (sym skipped_is);
        places = omega (arith, going.places, length_is);
        few_records = going.few_records;
        few_skipped = omega (arith, going.few_skipped, length_is, skipped_is);
      }

  asked_some : (k.bytes ≡ 0 → ⊥)
      → Asked s waiting rest clean runs k n
      (record {
        last = k.last;
        run = record { place = sum64 (sum64 s.run.place s.run.length) k.bytes; length = 0 };
        records = sum64 s.records (k.bytes / 16);
        skipped = s.skipped;
      })
      (run_in s.run)
  asked_some h =
      let end_is = sum_small s.run.place s.run.length (omega (arith, going.places)) in
      let place_is = sum_small (sum64 s.run.place s.run.length) k.bytes (omega (arith, going.places, end_is)) in
      let place_all : sum64 (sum64 s.run.place s.run.length) k.bytes ≡ s.run.place + s.run.length + k.bytes = omega (arith, place_is, end_is) in
      let records_is = sum_small s.records (k.bytes / 16) (omega (arith, going.places, going.few_records)) in
      let length_is = sum_small 0 n (omega (arith, going.places)) in
      let skipped_is = sum_small s.skipped n (omega (arith, going.places, going.few_skipped)) in
      let s' : Settled = record {
        last = k.last;
        run = record { place = sum64 (sum64 s.run.place s.run.length) k.bytes; length = 0 };
        records = sum64 s.records (k.bytes / 16);
        skipped = s.skipped;
      } in
      record {
        last_same = refl;
        tally_same =
            ap (λ (t : Tally). with_skipped t n) (with_some (tallied s clean runs) (take k.bytes waiting) k.bytes h)
            ∙ tally_same
            (with_skipped (with_records (tallied s clean runs) (take k.bytes waiting) k.bytes) n)
            (tallied (settled_skipped s' n) (clean ++ take k.bytes waiting) (runs ++ run_list (run_in s.run)))
            refl (ap (λ (x : List Run). runs ++ x) (sym (run_listed s.run))) (sym place_all) (sym length_is) (sym records_is) (sym skipped_is);
        places = omega (arith, going.places, place_all, length_is);
        few_records = sixteenth s.records s.run.place s.run.length k.bytes _ _ going.few_records records_is place_all;
        few_skipped = omega (arith, going.few_skipped, place_all, length_is, skipped_is);
      }

  asked : (k.bytes ≡ 0 → k.last ≡ s.last) → Asked s waiting rest clean runs k n (settled_kept s k) (run_ended s k)
  asked e =
      dite (dec_le k.bytes 0)
      (λ none.
      let h : k.bytes ≡ 0 = omega arith in
      subst (λ (x : Settled). Asked s waiting rest clean runs k n x (run_ended s k)) (settled_none s k h)
      (subst (Asked s waiting rest clean runs k n s) (run_none s k h) (asked_none h (e h))))
      (λ some.
      let h : k.bytes ≡ 0 → ⊥ = λ z. some (omega arith) in
      subst (λ (x : Settled). Asked s waiting rest clean runs k n x (run_ended s k)) (settled_some s k h refl refl refl refl)
      (subst (Asked s waiting rest clean runs k n _) (run_some s k h refl) (asked_some h)))

  -- what is going stays going
  going_asked : k ≡ kept_from s.last waiting → n ≡ skipped_from k.last (drop k.bytes waiting)
      → Going (settled_skipped (settled_kept s k) n) (drop (k.bytes + n) waiting) rest (clean ++ take k.bytes waiting)
      (runs ++ run_list (run_ended s k))
  going_asked k-is n_is =
      let t = tallied s clean runs in
      let a = asked (λ h. ap (λ (x : Stretch). x.last) k-is ∙ none_last s.last waiting (sym (ap (λ (x : Stretch). x.bytes) k-is) ∙ h)) in
      record {
        told = λ future.
            going.told future
            ∙ subst (λ (x : Stretch). tell t (pieces_from 0 s.last (waiting ++ future)) ≡ tell (with_kept t (take x.bytes waiting) x.bytes) (pieces_from 0 x.last (drop x.bytes waiting ++ future))) (sym k-is) (tell_kept t s.last waiting future)
            ∙ subst (λ (x : ℕ). tell (with_kept t (take k.bytes waiting) k.bytes) (pieces_from 0 k.last (drop k.bytes waiting ++ future)) ≡ tell (with_skipped (with_kept t (take k.bytes waiting) k.bytes) x) (pieces_from 0 k.last (drop x (drop k.bytes waiting) ++ future))) (sym n_is) (tell_skips (with_kept t (take k.bytes waiting) k.bytes) k.last (drop k.bytes waiting) future)
            ∙ ap₂ tell a.tally_same (ap₂ (λ (l : Option Moment) (w : List ℕ). pieces_from 0 l (w ++ future)) (sym a.last_same) (drop-drop n k.bytes waiting));
        places = omega (arith, a.places, length-drop (k.bytes + n) waiting);
        few_records = a.few_records;
        few_skipped = a.few_skipped;
      }

-- ---- what every course reaches

record Reached (c : Session) : Type 0 where
  inside : c.salvage.window.to ≤ length c.room
  first : c.salvage.first ≡ first_in c.taken
  going : Going c.salvage.settled (waiting_in c.salvage.window c.room) (after_first c.taken) c.clean c.runs

reached_begun : (room : List ℕ) → Reached (begun room)
unfolding first_in
reached_begun room = record {
  inside = omega arith;
  first = refl;
  going = record { told = λ future. refl; places = refl; few_records = omega arith; few_skipped = omega arith };
}

-- ---- feeding

-- a first byte is kept or changed
first_by : (byte : ℕ) (P : First → Type 0) → P Kept → P Changed → P (first_of byte)
unfolding first_of
first_by byte P k c = by (eqb byte 1)
  where
    by : (b : Bool) → P (cond b Kept Changed)
    by true = k
    by false = c

-- so where it has come, the whole chunk is gathered
Gathers : Salvage → List ℕ → List ℕ → First → Type 0
Gathers s room chunk f = (fed_by f s room chunk ≡ gathered_of s f room chunk) × (filled_room s.window room (behind_first f chunk) ≡ filled_room s.window room chunk)

later : (s : Salvage) (room chunk : List ℕ) (byte : ℕ) → s.first ≡ first_of byte → Gathers s room chunk s.first
unfolding Gathers
later s room chunk byte e = subst (Gathers s room chunk) (sym e) (first_by byte (Gathers s room chunk) (refl, refl) (refl, refl))

reached_gathered : (s : Salvage) (room rest clean : List ℕ) (runs : List Run) (more : List ℕ) (first : First) (taken : List ℕ)
    → Going s.settled (waiting_in s.window room) rest clean runs → after_first taken ≡ rest ++ take (filled_of s.window room more).taken more → first ≡ first_in taken
    → Reached (record { salvage = (gathered_of s first room more).salvage; room = filled_room s.window room more; taken = taken; clean = clean; runs = runs })
unfolding gathered_of
reached_gathered s room rest clean runs more first taken going rest_is first-is =
    let w = waiting_in s.window room in
    let new = take (filled_of s.window room more).taken more in
    record {
      inside = (filled_waits s.window room more).inside;
      first = first-is;
      going =
          subst (λ (k : List ℕ). Going s.settled k (after_first taken) clean runs) (sym (filled_waits s.window room more).waiting)
          (subst (λ (k : List ℕ). Going s.settled (w ++ new) k clean runs) (sym rest_is) (going_fed s.settled w rest clean runs new going));
    }

-- what a feed that gives this answer and this room reaches
abbrev FedTo : List ℕ → List ℕ → List Run → List ℕ → Fed → List ℕ → Type 0
FedTo taken clean runs chunk fed room =
    Reached (record { salvage = fed.salvage; room = room; taken = taken ++ take fed.taken chunk; clean = clean; runs = runs })

fed_to : (taken clean : List ℕ) (runs : List Run) (chunk : List ℕ) {f g : Fed} {r q : List ℕ} → f ≡ g → r ≡ q → FedTo taken clean runs chunk g q → FedTo taken clean runs chunk f r
fed_to taken clean runs chunk {f} {g} {r} {q} e h reached =
    subst (λ (x : Fed). FedTo taken clean runs chunk x r) (sym e) (subst (FedTo taken clean runs chunk g) (sym h) reached)

reached_fed : (s : Salvage) (room taken clean : List ℕ) (runs : List Run) (chunk : List ℕ)
    → Reached (record { salvage = s; room = room; taken = taken; clean = clean; runs = runs }) → FedTo taken clean runs chunk (fed_of s room chunk) (room_of s room chunk)
unfolding fed_of room_of begun_of gathered_of first_in Gathers
reached_fed s room [] clean runs [] r =
    let none : ◌≡◌ {A = List ℕ} (take (filled_of s.window room []).taken []) [] = take-nil (filled_of s.window room []).taken in
    fed_to [] clean runs [] (ap (λ (f : First). fed_by f s room []) r.first) (ap (λ (f : First). filled_room s.window room (behind_first f [])) r.first)
    (reached_gathered s room [] clean runs [] Missing (take (filled_of s.window room []).taken []) r.going (ap after_first none ∙ sym none) (sym (ap first_in none)))
reached_fed s room [] clean runs (x ∷ more) r =
    let n = (filled_of s.window room more).taken in
    let taken_is : take (n + 1) (x ∷ more) ≡ x ∷ take n more = ap (λ (k : ℕ). take k (x ∷ more)) {x = n + 1} {y = suc n} (omega arith) in
    fed_to [] clean runs (x ∷ more) (ap (λ (f : First). fed_by f s room (x ∷ more)) r.first) (ap (λ (f : First). filled_room s.window room (behind_first f (x ∷ more))) r.first)
    (reached_gathered s room [] clean runs more (first_of x) (take (n + 1) (x ∷ more)) r.going (ap after_first taken_is) (sym (ap first_in taken_is)))
reached_fed s room (y ∷ ys) clean runs chunk r =
    let g = later s room chunk y r.first in
    fed_to (y ∷ ys) clean runs chunk g.0 g.1
    (reached_gathered s room ys clean runs chunk s.first ((y ∷ ys) ++ take (filled_of s.window room chunk).taken chunk) r.going refl r.first)

-- ---- asking

-- the bytes behind the first are fewer than all
behind_small : (taken : List ℕ) → length taken < 2 ^ 64 → 1 + length (after_first taken) < 2 ^ 64
behind_small [] l = omega arith
behind_small (x ∷ rest) l = omega arith

reached_asked : (c : Session) → Reached c → length c.taken < 2 ^ 64 → Reached (after_call c asks)
unfolding asked_of
reached_asked c r small =
    let s = c.salvage in
    let w = waiting_in s.window c.room in
    let k = stretch_of s c.room in
    let n = (skips_of s c.room).bytes in
    let long : length w ≡ count_of s.window = waiting_count s.window c.room r.inside in
    let few : k.bytes + n ≤ length w =
    omega (arith, kept_within s.settled.last w, skipped_within k.last (drop k.bytes w), length-drop k.bytes w) in
    let given : take k.bytes w ≡ take k.bytes (drop s.window.from c.room) =
    take-take k.bytes (count_of s.window) (drop s.window.from c.room) (omega (arith, few, long)) in
    record {
      inside = taken_inside s.window c.room (k.bytes + n) r.inside;
      first = r.first;
      going =
          subst (λ (x : List ℕ). Going (settled_skipped (settled_kept s.settled k) n) x (after_first c.taken) (c.clean ++ take k.bytes (drop s.window.from c.room)) (c.runs ++ run_list (run_ended s.settled k))) (sym (taken_waits s.window c.room (k.bytes + n)))
          (subst (λ (x : List ℕ). Going (settled_skipped (settled_kept s.settled k) n) (drop (k.bytes + n) w) (after_first c.taken) (c.clean ++ x) (c.runs ++ run_list (run_ended s.settled k))) given
          (going_asked s.settled w (after_first c.taken) c.clean c.runs k n r.going (behind_small c.taken small) few refl refl));
    }

-- ---- any calls

reached_call : (c : Session) (call : Call) → Reached c → length c.taken < 2 ^ 64 → Reached (after_call c call)
reached_call c (feeds chunk) r small = reached_fed c.salvage c.room c.taken c.clean c.runs chunk r
reached_call c asks r small = reached_asked c r small

-- no byte is given back
more_taken : (c : Session) (call : Call) → length c.taken ≤ length (after_call c call).taken
more_taken c (feeds chunk) = omega (arith, length-append c.taken (take (fed_of c.salvage c.room chunk).taken chunk))
more_taken c asks = omega arith

all_taken : (c : Session) (calls : List Call) → length c.taken ≤ length (after c calls).taken
all_taken c [] = omega arith
all_taken c (call ∷ calls) = omega (arith, more_taken c call, all_taken (after_call c call) calls)

reached : (c : Session) (calls : List Call) → Reached c → length (after c calls).taken < 2 ^ 64 → Reached (after c calls)
reached c [] r small = r
reached c (call ∷ calls) r small =
    let now : length c.taken < 2 ^ 64 = omega (arith, more_taken c call, all_taken (after_call c call) calls) in
    reached (after_call c call) calls (reached_call c call r now) small

-- ---- the end

record Finished (s : Salvage) (t : Totals) : Type 0 where
  settled : count_of s.window < 16
  totals : t ≡ totals_of s

finished : (s : Salvage) (t : Totals) → ended_of s ≡ Some t → Finished s t
unfolding ended_of is_settled_of
finished s t e = by (ltb (count_of s.window) 16) refl e
  where
    by : (b : Bool) → ltb (count_of s.window) 16 ≡ b → cond b (Some (totals_of s)) None ≡ Some t → Finished s t
    by true h q = record { settled = ltb-true (count_of s.window) 16 h; totals = cc }
    by false h q = absurd cc

changed_is : (taken : List ℕ) → is_changed (first_in taken) ≡ changed_of taken
unfolding changed_of first_of first_in is_changed
changed_is [] = refl
changed_is (x ∷ rest) = by (eqb x 1)
  where
    by : (b : Bool) → is_changed (cond b Kept Changed) ≡ cond b false true
    by true = refl
    by false = refl

size_is : (taken : List ℕ) (run : Run) → run.place + run.length ≡ 1 + length (after_first taken) → length taken < 2 ^ 64 → size_of (first_in taken) run ≡ length taken
unfolding size_of first_in
size_is [] run e l = refl
size_is (x ∷ rest) run e l =
    first_by x (λ (f : First). size_of f run ≡ length (x ∷ rest)) here here
  where
    here : sum64 run.place run.length ≡ suc (length rest)
    here = sum_small run.place run.length (omega arith) ∙ omega arith

exact_totals : (c : Session) → Reached c → length c.taken < 2 ^ 64 → count_of c.salvage.window < 16 → Exact c (totals_of c.salvage)
unfolding totals_of clean_of runs_of pieces_of
exact_totals c r small few =
    let s = c.salvage.settled in
    let count = count_of c.salvage.window in
    let w = waiting_in c.salvage.window c.room in
    let ps = pieces_from 0 None (after_first c.taken) in
    let t = tallied s c.clean c.runs in
    let places = r.going.places in
    let long : length w ≡ count = waiting_count c.salvage.window c.room r.inside in
    let all = behind_small c.taken small in
    let told : tell start_tally ps ≡ with_skipped t (length w) =
    ap (λ (k : List ℕ). tell start_tally (pieces_from 0 None k)) (sym (append-nil (after_first c.taken)))
    ∙ r.going.told []
    ∙ ap (λ (k : List ℕ). tell t (pieces_from 0 s.last k)) (append-nil w)
    ∙ tell_rest t s.last w (omega (arith, long)) in
    let length_is : sum64 s.run.length count ≡ s.run.length + length w =
    sum_small s.run.length count (omega (arith, long, places, all)) ∙ omega (arith, long) in
    let skipped_is : sum64 s.skipped count ≡ s.skipped + length w =
    sum_small s.skipped count (omega (arith, long, places, all, r.going.few_skipped)) ∙ omega (arith, long) in
    record {
      clean = ap₂ (λ (f : First) (k : List ℕ). version_of f ∷ k) r.first (sym (ap (λ (x : Tally). x.clean) told) ∙ tell_clean start_tally ps);
      runs =
          ap (λ (x : List Run). c.runs ++ x) (run_listed (record { place = s.run.place; length = sum64 s.run.length count }))
          ∙ ap (λ (n : ℕ). c.runs ++ listed s.run.place n) length_is
          ∙ sym (ap (λ (x : Tally). x.runs ++ listed x.place x.before) told)
          ∙ tell_runs start_tally ps;
      first = ap is_changed r.first ∙ changed_is c.taken;
      records = sym (ap (λ (x : Tally). x.records) told) ∙ tell_records start_tally ps ∙ zero-add (records_in ps);
      skipped = skipped_is ∙ sym (ap (λ (x : Tally). x.skipped) told) ∙ tell_skipped start_tally ps ∙ zero-add (skipped_in ps);
      bytes =
          ap (λ (f : First). size_of f (record { place = s.run.place; length = sum64 s.run.length count })) r.first
          ∙ size_is c.taken (record { place = s.run.place; length = sum64 s.run.length count }) (omega (arith, length_is, places)) small;
    }

exact : (c : Session) (t : Totals) → Reached c → length c.taken < 2 ^ 64 → ended_of c.salvage ≡ Some t → Exact c t
exact c t r small e =
    let f = finished c.salvage t e in
    subst (Exact c) (sym f.totals) (exact_totals c r small f.settled)

pub chunks_do_not_matter : ChunksDoNotMatter
chunks_do_not_matter room calls t small e = exact (after (begun room) calls) t (reached (begun room) calls (reached_begun room) small) small e

pub first_stays : FirstStays
unfolding first_in
first_stays [] rest l = absurd (omega arith)
first_stays (byte ∷ front) rest l = refl

-- ---- it goes on

begun_inside : (s : Salvage) (room chunk : List ℕ) → (begun_of s room chunk).salvage.window.to ≤ length (filled_room s.window room (after_first chunk))
unfolding begun_of gathered_of
begun_inside s room [] = (filled_waits s.window room []).inside
begun_inside s room (x ∷ more) = (filled_waits s.window room more).inside

-- the waiting bytes stay inside the room, however many calls there are
pub inside_fed : (s : Salvage) (room chunk : List ℕ) → (fed_of s room chunk).salvage.window.to ≤ length (room_of s room chunk)
unfolding fed_of room_of gathered_of
inside_fed s room chunk = by s.first
  where
    by : (f : First) → (fed_by f s room chunk).salvage.window.to ≤ length (filled_room s.window room (behind_first f chunk))
    by Missing = begun_inside s room chunk
    by Kept = (filled_waits s.window room chunk).inside
    by Changed = (filled_waits s.window room chunk).inside

pub inside_asked : (s : Salvage) (room : List ℕ) → s.window.to ≤ length room → (asked_of s room).salvage.window.to ≤ length room
unfolding asked_of
inside_asked s room l = taken_inside s.window room ((stretch_of s room).bytes + (skips_of s room).bytes) l

inside_after : (c : Session) (calls : List Call) → c.salvage.window.to ≤ length c.room → (after c calls).salvage.window.to ≤ length (after c calls).room
inside_after c [] l = l
inside_after c (feeds chunk ∷ calls) l = inside_after (after_call c (feeds chunk)) calls (inside_fed c.salvage c.room chunk)
inside_after c (asks ∷ calls) l = inside_after (after_call c asks) calls (inside_asked c.salvage c.room l)

-- of 16 bytes or more, one at least is settled
some_settled : (last : Option Moment) (w : List ℕ) → 16 ≤ length w → 0 < (kept_from last w).bytes + skipped_from (kept_from last w).last (drop (kept_from last w).bytes w)
some_settled last [] l = absurd (omega arith)
some_settled last (x ∷ w) l =
    by_choice last (x ∷ w) _
    (λ t q. omega (arith, ap (λ (k : Stretch). k.bytes) (kept_keep last (x ∷ w) t q)))
    (λ q.
    subst (λ (k : Stretch). 0 < k.bytes + skipped_from k.last (drop k.bytes (x ∷ w))) (sym (kept_skip last (x ∷ w) q))
    (omega (arith, skipped_one last x w l q)))

pub asks_on : (s : Salvage) (room : List ℕ) → s.window.to ≤ length room → is_settled_of s ≡ false → count_of (asked_of s room).salvage.window < count_of s.window
unfolding asked_of is_settled_of
asks_on s room l h =
    let many = ltb-false (count_of s.window) 16 h in
    let long = waiting_count s.window room l in
    let n = (stretch_of s room).bytes + (skips_of s room).bytes in
    omega (arith, many, taken_count s.window n, some_settled s.settled.last (waiting_in s.window room) (omega (arith, many, long)))

feeds_on : (s : Salvage) (room chunk : List ℕ) → is_settled_of s ≡ true → 16 ≤ length room → 0 < length chunk → 0 < (fed_of s room chunk).taken
unfolding fed_of begun_of gathered_of is_settled_of
feeds_on s room chunk h l some = by s.first chunk some
  where
    few : count_of s.window < length room
    few = omega (arith, ltb-true (count_of s.window) 16 h)

    by : (f : First) (chunk : List ℕ) → 0 < length chunk → 0 < (fed_by f s room chunk).taken
    by Missing [] some = absurd (omega arith)
    by Missing (x ∷ more) some = omega arith
    by Kept chunk some = filled_some s.window room chunk few some
    by Changed chunk some = filled_some s.window room chunk few some

-- no more is taken than is fed
pub taken_few : (s : Salvage) (room chunk : List ℕ) → (fed_of s room chunk).taken ≤ length chunk
unfolding fed_of begun_of gathered_of
taken_few s room chunk = by s.first chunk
  where
    by : (f : First) (chunk : List ℕ) → (fed_by f s room chunk).taken ≤ length chunk
    by Missing [] = filled_few s.window room []
    by Missing (x ∷ more) = omega (arith, filled_few s.window room more)
    by Kept chunk = filled_few s.window room chunk
    by Changed chunk = filled_few s.window room chunk

pub goes_on_lem : GoesOn
goes_on_lem room calls =
    let c = after (begun room) calls in
    record {
      asked = asks_on c.salvage c.room (inside_after (begun room) calls (omega arith));
      fed = λ chunk h l some. feeds_on c.salvage c.room chunk h l some;
    }

-- ---- and gets there

after_both : (c : Session) (first then : List Call) → after c (first ++ then) ≡ after (after c first) then
after_both c [] then = refl
after_both c (call ∷ first) then = after_both (after_call c call) first then

-- asked until all is settled
record Settles (c : Session) : Type 0 where
  calls : List Call
  taken : (after c calls).taken ≡ c.taken
  room : (after c calls).room ≡ c.room
  settled : is_settled_of (after c calls).salvage ≡ true

settles_by : (fuel : ℕ) (c : Session) (b : Bool) → is_settled_of c.salvage ≡ b → c.salvage.window.to ≤ length c.room → count_of c.salvage.window ≤ fuel → Settles c
settles_by zero c true h l few = record { calls = []; taken = refl; room = refl; settled = h }
settles_by zero c false h l few = absurd (omega (arith, asks_on c.salvage c.room l h))
settles_by (suc fuel) c true h l few = record { calls = []; taken = refl; room = refl; settled = h }
settles_by (suc fuel) c false h l few =
    let next = after_call c asks in
    let rest = settles_by fuel next (is_settled_of next.salvage) refl (inside_asked c.salvage c.room l) (omega (arith, asks_on c.salvage c.room l h)) in
    record { calls = asks ∷ rest.calls; taken = rest.taken; room = rest.room; settled = rest.settled }

settles : (c : Session) → c.salvage.window.to ≤ length c.room → Settles c
settles c l = settles_by (count_of c.salvage.window) c (is_settled_of c.salvage) refl l (omega arith)

-- a room keeps its size
room_length : (s : Salvage) (room chunk : List ℕ) → length (room_of s room chunk) ≡ length room
unfolding room_of
room_length s room chunk = (filled_waits s.window room (behind_first s.first chunk)).same_size

record Takes (c : Session) (rest : List ℕ) : Type 0 where
  calls : List Call
  all : (after c calls).taken ≡ c.taken ++ rest
  settled : is_settled_of (after c calls).salvage ≡ true

takes_by : (fuel : ℕ) (c : Session) (rest : List ℕ) → length rest ≤ fuel → c.salvage.window.to ≤ length c.room → 16 ≤ length c.room → is_settled_of c.salvage ≡ true → Takes c rest
takes_by zero c [] few l room h = record { calls = []; all = sym (append-nil c.taken); settled = h }
takes_by zero c (x ∷ rest) few l room h = absurd (omega arith)
takes_by (suc fuel) c [] few l room h = record { calls = []; all = sym (append-nil c.taken); settled = h }
takes_by (suc fuel) c (x ∷ rest) few l room h =
    let chunk = x ∷ rest in
    let n = (fed_of c.salvage c.room chunk).taken in
    let some = feeds_on c.salvage c.room chunk h room (omega arith) in
    let fed = after_call c (feeds chunk) in
    let asked = settles fed (inside_fed c.salvage c.room chunk) in
    let next = after fed asked.calls in
    let size : length next.room ≡ length c.room = ap length asked.room ∙ room_length c.salvage c.room chunk in
    let more = takes_by fuel next (drop n chunk) (omega (arith, some, length-drop n chunk)) (inside_after fed asked.calls (inside_fed c.salvage c.room chunk)) (omega (arith, size)) asked.settled in
    let both : after c (feeds chunk ∷ (asked.calls ++ more.calls)) ≡ after next more.calls = after_both fed asked.calls more.calls in
    record {
      calls = feeds chunk ∷ (asked.calls ++ more.calls);
      all =
          ap (λ (k : Session). k.taken) both
          ∙ more.all
          ∙ ap (λ (k : List ℕ). k ++ drop n chunk) asked.taken
          ∙ append_assoc c.taken (take n chunk) (drop n chunk)
          ∙ ap (λ (k : List ℕ). c.taken ++ k) (take-append-drop n chunk);
      settled = ap (λ (k : Session). is_settled_of k.salvage) both ∙ more.settled;
    }

pub gets_there : GetsThere
unfolding is_settled_of
gets_there room file l =
    let takes = takes_by (length file) (begun room) file (omega arith) (omega arith) l refl in
    record { calls = takes.calls; all = takes.all; settled = takes.settled }
