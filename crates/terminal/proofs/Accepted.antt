-- What a call that is not refused shows of the tables that it lends. Assumes nothing.
use mathlib.Core.Path.{◌≡◌, refl}
use mathlib.Core.Bool.{Bool, true, false, not, cond, ◌&&◌, ◌||◌, true≢false}
use mathlib.Core.Path.{sym, ap}
use Prim.Native.Nat.{ℕ}
use lib.Dec.{eqb, leb}
use borrow.Author.Tests.{eqb-true}
use Rattle.std.specs.Prelude.{Option, Some, None, is_none}
use Rattle.std.proofs.lemmas.Bool.{and_parts}
use Rattle.words.specs.declared.refusals.Refusal.{Refusal}
use Rattle.words.specs.declared.refusals.Refusal.TheVariants.{TableSize, OwnAddress, OutOfRange, OutOfOrder}
use Rattle.terminal.specs.Events.{set_up_refusal, is_in_range, time_of, event_refusal}
use Rattle.terminal.specs.declared.states.Terminal.{Terminal as State}
use Rattle.terminal.specs.declared.events.Event.{Event}

-- where the tables' sizes are wrong there is a refusal
sizes : (a : Bool) (o : Option Refusal) → cond a o (Some TableSize) ≡ None → a ≡ true
sizes true o h = refl
sizes false o h = absurd (true≢false (sym (ap (λ (o : Option Refusal). is_none o) h)))

both_sizes : (n m k : ℕ) → (eqb n k && eqb m k) ≡ true → (n ≡ k) × (m ≡ k)
both_sizes n m k h =
    let parts = and_parts (eqb n k) (eqb m k) h in
    (eqb-true n k parts.0, eqb-true m k parts.1)

pub event_tables : (s : State) (e : Event) (n m : ℕ) → event_refusal s e n m ≡ None → (n ≡ 1024) × (m ≡ 1024)
unfolding event_refusal
event_tables s e n m h =
    both_sizes n m 1024 (sizes (eqb n 1024 && eqb m 1024) (cond (is_in_range e) (cond (leb s.time.0 (time_of e)) None (Some OutOfOrder)) (Some OutOfRange)) h)

pub set_up_tables : (address n m : ℕ) → set_up_refusal address n m ≡ None → (n ≡ 32) × (m ≡ 32)
unfolding set_up_refusal
set_up_tables address n m h = both_sizes n m 32 (sizes (eqb n 32 && eqb m 32) (cond (leb address 30) None (Some OwnAddress)) h)

-- the tables' sizes, as the code asks them
pub sizes_wrong : (a b : Bool) → (not a || not b) ≡ true → (a && b) ≡ false
sizes_wrong true true h = sym h
sizes_wrong true false h = refl
sizes_wrong false b h = refl

pub sizes_right : (a b : Bool) → (not a || not b) ≡ false → (a && b) ≡ true
sizes_right true true h = refl
sizes_right true false h = sym h
sizes_right false b h = sym h

-- what the time is not
pub turned_true : (x : Bool) → not x ≡ true → x ≡ false
turned_true true h = sym h
turned_true false h = refl

pub turned_false : (x : Bool) → not x ≡ false → x ≡ true
turned_false true h = refl
turned_false false h = sym h
