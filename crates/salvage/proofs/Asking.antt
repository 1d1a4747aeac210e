-- A question: the stretches of the bytes that wait are inside them, and its answer. Assumes nothing.
use Rattle.std.proofs.Common.{◌≡◌, ℕ, ◌+◌, ◌-◌, ◌≤◌, List, length, take, drop, ap, ◌∙◌, arith, length-drop, take_all}
use Rattle.std.specs.Prelude.{Option}
use Rattle.windows.specs.Windows.{waiting_in, after_taking}
use Rattle.windows.proofs.Waiting.{waiting_few}
use Rattle.windows.specs.declared.windows.Window.{Window}
use Rattle.salvage.specs.Machine.{kept_from, skips_from, settled_kept, settled_skipped, run_ended, asked_of}
use Rattle.salvage.specs.declared.stretches.Stretch.{Stretch}
use Rattle.salvage.specs.declared.stretches.Skipped.{Skipped}
use Rattle.salvage.specs.declared.salvages.Run.{Run}
use Rattle.salvage.specs.declared.salvages.Settled.{Settled}
use Rattle.salvage.specs.declared.salvages.Salvage.{Salvage}
use Rattle.salvage.proofs.Fronts.{kept_within, skipped_within}

module _ (s : Salvage) (room waiting : List ℕ) (w : waiting ≡ waiting_in s.window room)
    (stretch : Stretch) (q : stretch ≡ kept_from s.settled.last waiting) where
  pub kept_inside : stretch.bytes ≤ length waiting
  kept_inside = omega (arith, kept_within s.settled.last waiting, ap (λ (k : Stretch). k.bytes) q)

  module _ (k : Skipped) (p : k ≡ skips_from stretch.last (take (length waiting - stretch.bytes) (drop stretch.bytes waiting))) where
    -- all behind the stretch was looked at
    rest_is : k ≡ skips_from stretch.last (drop stretch.bytes waiting)
    rest_is = p ∙ ap (skips_from stretch.last) (take_all (length waiting - stretch.bytes) (drop stretch.bytes waiting) (omega (arith, length-drop stretch.bytes waiting)))

    pub in_room : stretch.bytes + k.bytes ≤ length room
    in_room =
        omega (
          arith,
          kept_inside,
          ap (λ (x : Skipped). x.bytes) rest_is,
          length-drop stretch.bytes waiting,
          skipped_within stretch.last (drop stretch.bytes waiting),
          ap length w,
          waiting_few s.window room,
        )

    pub asked : (kept after : Settled) (run : Option Run) (window : Window) → kept ≡ settled_kept s.settled stretch → after ≡ settled_skipped kept k.bytes
        → window ≡ after_taking s.window (stretch.bytes + k.bytes) → run ≡ run_ended s.settled stretch
        → record {
          salvage = record { first = s.first; settled = after; window = window };
          run = run;
          from = s.window.from;
          kept = stretch.bytes;
          strays = k.strays;
        }
        ≡ asked_of s room
    unfolding asked_of
    asked kept after run window u a v h = rw (a, u, v, h, rest_is, q, w)
