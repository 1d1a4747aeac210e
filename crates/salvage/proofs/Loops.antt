-- The stretches as the code's loops make them: what is left at a place, with what came before it, is what the whole gives. Assumes nothing.
use Rattle.std.proofs.Common.{◌≡◌, ℕ, suc, ◌+◌, ◌<◌, ◌≤◌, List, ◌∷◌, ◌++◌, length, get_or, take, drop, sym, refl, ap, ◌∙◌, ap₂, add-zero, zero-add, arith, length-append, length-drop, drop-cons, drop-drop}
use Rattle.std.proofs.Math.Seq.{take-append_seam, drop-append_seam}
use Rattle.words.specs.declared.times.Moment.{Moment}
use Rattle.std.specs.Prelude.{Option, Some, None, Ok, Err}
use Rattle.salvage.specs.Pieces.{choice_of}
use Rattle.salvage.specs.Machine.{longer, kept_from, skipped_from, place_of, strays_in, skips_from}
use Rattle.salvage.specs.declared.stretches.Stretch.{Stretch}
use Rattle.salvage.proofs.Fronts.{choice_short, place_sixteen, kept_keep, kept_skip, skipped_short, skipped_kept, skipped_one, place_skips, place_keeps, strays_next, strays_few}

-- ---- what the loops are lent of the bytes

-- a record at the front of what is left, and what is left behind it
pub record Chunk (rest record_bytes more : List ℕ) : Type 0 where
  pub front : record_bytes ≡ take 16 rest
  pub behind : more ≡ drop 16 rest
  pub long : 16 ≤ length rest

pub chunk_of : (size : ℕ) (rest x more : List ℕ) → size ≡ 16 → rest ≡ x ++ more → length x ≡ size → Chunk rest x more
chunk_of size rest x more s e l =
    let sixteen : length x ≡ 16 = l ∙ s in
    record {
      front = sym (take-append_seam x more) ∙ ap (λ (n : ℕ). take n (x ++ more)) sixteen ∙ ap (take 16) (sym e);
      behind = sym (drop-append_seam x more) ∙ ap (λ (n : ℕ). drop n (x ++ more)) sixteen ∙ ap (drop 16) (sym e);
      long = omega (arith, ap length e, length-append x more, sixteen);
    }

-- a place at the front of what is left
pub window_long : (size : ℕ) (rest behind : List ℕ) → size ≡ 16 → rest ≡ behind → size ≤ length rest → 16 ≤ length behind
window_long size rest behind s e l = omega (arith, ap length e)

pub window_front : (size : ℕ) (rest behind x : List ℕ) → size ≡ 16 → rest ≡ behind → x ≡ take size rest → x ≡ take 16 behind
window_front size rest behind x s e l = l ∙ ap₂ take s e

pub whole_size : (size : ℕ) (rest : List ℕ) → size ≡ 16 → length rest < size → length rest < 16
whole_size size rest e l = omega arith

-- ---- records that are kept

-- so many bytes more in front of a stretch
abbrev further : ℕ → Stretch → Stretch
further n stretch = record { bytes = n + stretch.bytes; last = stretch.last }

further_longer : (n : ℕ) (stretch : Stretch) → further n (longer stretch) ≡ further (n + 16) stretch
further_longer n stretch = ap (λ (k : ℕ). record { bytes = k; last = stretch.last }) (omega arith)

pub record Keeping (s : List ℕ) (first last : Option Moment) (at : ℕ) : Type 0 where
  pub inside : at ≤ length s
  pub same : kept_from first s ≡ further at (kept_from last (drop at s))

pub keeping_start : (s : List ℕ) (first : Option Moment) → Keeping s first first 0
keeping_start s first = record { inside = omega arith; same = ap (λ (k : ℕ). record { bytes = k; last = (kept_from first s).last }) (sym (zero-add (kept_from first s).bytes)) }

module _ (s : List ℕ) (first last : Option Moment) (at : ℕ) (keeping : Keeping s first last at) where
  stop : kept_from last (drop at s) ≡ record { bytes = 0; last = last } → record { bytes = at; last = last } ≡ kept_from first s
  stop e = ap (λ (k : ℕ). record { bytes = k; last = last }) (sym (add-zero at)) ∙ sym (ap (further at) e) ∙ sym keeping.same

  pub keeping_short : length (drop at s) < 16 → record { bytes = at; last = last } ≡ kept_from first s
  keeping_short l = stop (kept_skip last (drop at s) (choice_short last (drop at s) l))

  module _ (l : 16 ≤ length (drop at s)) where
    pub keeping_fits : at + 16 ≤ length s
    keeping_fits = omega (arith, length-drop at s)

    pub keeping_stop : (n : ℕ) → Err n ≡ place_of last (take 16 (drop at s)) → record { bytes = at; last = last } ≡ kept_from first s
    keeping_stop n q = stop (kept_skip last (drop at s) (place_skips last (drop at s) n (sym (q ∙ place_sixteen last (drop at s) l))).skips)

    pub keeping_next : (t : Moment) → Ok t ≡ place_of last (take 16 (drop at s)) → Keeping s first (Some t) (at + 16)
    keeping_next t q =
        let choice = place_keeps last (drop at s) t (sym (q ∙ place_sixteen last (drop at s) l)) in
        record {
          inside = keeping_fits;
          same =
              keeping.same
              ∙ ap (further at) (kept_keep last (drop at s) t choice)
              ∙ further_longer at (kept_from (Some t) (drop 16 (drop at s)))
              ∙ ap (λ (k : List ℕ). further (at + 16) (kept_from (Some t) k)) (drop-drop 16 at s);
        }

-- ---- bytes that are skipped

pub record Skipping (s : List ℕ) (last : Option Moment) (at strays : ℕ) : Type 0 where
  pub inside : at ≤ length s
  pub same : skipped_from last s ≡ at + skipped_from last (drop at s)
  pub counted : strays ≡ strays_in at s
  pub few : strays ≤ at

pub skipping_start : (s : List ℕ) (last : Option Moment) → Skipping s last 0 0
skipping_start s last = record { inside = omega arith; same = sym (zero-add (skipped_from last s)); counted = refl; few = omega arith }

module _ (s : List ℕ) (last : Option Moment) (at strays : ℕ) (skipping : Skipping s last at strays) where
  ends : skipped_from last (drop at s) ≡ 0 → record { bytes = at; strays = strays } ≡ skips_from last s
  ends e =
      let all : at ≡ skipped_from last s = sym (add-zero at) ∙ sym (ap (λ (k : ℕ). at + k) e) ∙ sym skipping.same in
      ap₂ (λ (n k : ℕ). record { bytes = n; strays = k }) all (skipping.counted ∙ ap (λ (n : ℕ). strays_in n s) all)

  pub skipping_short : length (drop at s) < 16 → record { bytes = at; strays = strays } ≡ skips_from last s
  skipping_short l = ends (skipped_short last (drop at s) l)

  module _ (l : 16 ≤ length (drop at s)) where
    within : at + 16 ≤ length s
    within = omega (arith, length-drop at s)

    pub skipping_stop : (t : Moment) → Ok t ≡ place_of last (take 16 (drop at s)) → record { bytes = at; strays = strays } ≡ skips_from last s
    skipping_stop t q = ends (skipped_kept last (drop at s) t (place_keeps last (drop at s) t (sym (q ∙ place_sixteen last (drop at s) l))))

    one : choice_of last (drop at s) ≡ None → skipped_from last (drop at s) ≡ skipped_from last (drop (at + 1) s) + 1
    one choice =
        let front : drop at s ≡ get_or s at 0 ∷ drop (at + 1) s =
        drop-cons s at 0 (omega (arith, within)) ∙ ap (λ (k : ℕ). get_or s at 0 ∷ drop k s) {x = suc at} {y = at + 1} (omega arith) in
        ap (skipped_from last) front
        ∙ skipped_one last (get_or s at 0) (drop (at + 1) s) (omega (arith, within, length-drop (at + 1) s)) (sym (ap (choice_of last) front) ∙ choice)

    pub skipping_next : (stray : ℕ) → Err stray ≡ place_of last (take 16 (drop at s)) → Skipping s last (at + 1) (strays + stray)
    skipping_next stray q =
        let passed = place_skips last (drop at s) stray (sym (q ∙ place_sixteen last (drop at s) l)) in
        let counted : strays + stray ≡ strays_in (at + 1) s = ap₂ ◌+◌ skipping.counted passed.counted ∙ sym (strays_next at s) in
        record {
          inside = omega (arith, within);
          same = skipping.same ∙ ap (λ (k : ℕ). at + k) (one passed.skips) ∙ omega arith;
          counted = counted;
          few = omega (arith, counted, strays_few (at + 1) s);
        }

    -- the count fits, since no place counts more than once
    pub stray_fits : (stray : ℕ) → Err stray ≡ place_of last (take 16 (drop at s)) → strays + stray ≤ length s
    stray_fits stray q = omega (arith, (skipping_next stray q).few, within)

    pub place_fits : at + 1 ≤ length s
    place_fits = omega (arith, within)
