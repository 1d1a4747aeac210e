-- Questions to the machine: each settles a byte or more, so that asking comes to an end. Assumes nothing.
use Rattle.std.proofs.Common.{◌≡◌, ℕ, ◌<◌, ◌≤◌, false, List, length, sym, ap, ◌∙◌, subst, arith}
use Rattle.windows.specs.Windows.{count_of}
use Rattle.salvage.specs.Machine.{fed_of, room_of, asked_of, is_settled_of}
use Rattle.salvage.specs.declared.salvages.Salvage.{Salvage}
use Rattle.salvage.specs.declared.salvages.Fed.{Fed}
use Rattle.salvage.proofs.Sessions.{asks_on, inside_asked, inside_fed, taken_few}

module _ (s s' : Salvage) (room : List ℕ) (e : s' ≡ (asked_of s room).salvage) (l : s.window.to ≤ length room) where
  pub asked_less : is_settled_of s ≡ false → count_of s'.window < count_of s.window
  asked_less h = subst (λ (k : Salvage). count_of k.window < count_of s.window) (sym e) (asks_on s room l h)

  pub asked_inside : s'.window.to ≤ length room
  asked_inside = subst (λ (k : Salvage). k.window.to ≤ length room) (sym e) (inside_asked s room l)

-- what is fed waits inside the room
pub fed_inside : (s : Salvage) (room room' chunk : List ℕ) (f : Fed) (s' : Salvage) → f ≡ fed_of s room chunk → room' ≡ room_of s room chunk → s' ≡ f.salvage → s'.window.to ≤ length room'
fed_inside s room room' chunk f s' e r h =
    subst (λ (k : Salvage). k.window.to ≤ length room') (sym (h ∙ ap (λ (k : Fed). k.salvage) e))
    (subst (λ (k : List ℕ). (fed_of s room chunk).salvage.window.to ≤ length k) (sym r) (inside_fed s room chunk))

-- and no more is taken than there is
pub fed_few : (s : Salvage) (room chunk : List ℕ) (f : Fed) → f ≡ fed_of s room chunk → f.taken ≤ length chunk
fed_few s room chunk f e = omega (arith, ap (λ (k : Fed). k.taken) e, taken_few s room chunk)
