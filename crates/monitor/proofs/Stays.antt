-- A file gives the log of the records before the first that is refused. Assumes nothing.
use Rattle.std.proofs.Common.{◌≡◌, ℕ, zero, suc, ◌≤◌, Bool, cond, List, [], ◌∷◌, ◌++◌, length, drop, refl, ap, ◌∙◌, append_assoc, arith, length-append, drop_at, le-ltb, lt-ltb}
use Rattle.std.specs.Prelude.{Option, Some, Result}
use Rattle.words.specs.declared.refusals.Refusal.{Refusal}
use Rattle.words.specs.declared.refusals.Refusal.TheVariants.{OutOfOrder}
use Rattle.words.specs.declared.times.Moment.{Moment}
use Rattle.records.specs.Records.{last_bus, form_of}
use Rattle.records.specs.Files.{forms_of, open_of}
use Rattle.records.specs.Theorems.{Fits}
use Rattle.records.specs.declared.forms.WordRecord.{WordRecord}
use Rattle.records.proofs.Theorems.{read_good, read_written}
use Rattle.monitor.specs.Logs.{end_time, Front, stops, goes_on, front_with, front_from, front_of, logged, file_log}
use Rattle.monitor.specs.Theorems.{Written, EndsBy, at_end, unread, earlier, LogStays}
use Rattle.monitor.proofs.Futures.{front_none, front_some}

-- what is refused ends it at once
ends_by : (n before : ℕ) (bytes : List ℕ) (m : Option Refusal) → length bytes ≤ n → EndsBy before bytes m → front_from n before bytes ≡ stops m
ends_by n before bytes m l at_end = front_none n before [] refl
ends_by zero before bytes m l (unread k some e) = absurd (omega (arith, l, some))
ends_by (suc n) before bytes m l (unread k some e) =
    front_some n before bytes (λ z. omega (arith, some, z)) ∙ ap (λ (g : Result WordRecord Refusal). front_with before g (λ (time : ℕ). front_from n time (drop 16 bytes))) e
ends_by zero before bytes m l (earlier r e late) = absurd (omega (arith, l, (read_good last_bus bytes r e).long))
ends_by (suc n) before bytes m l (earlier r e late) =
    front_some n before bytes (λ z. omega (arith, (read_good last_bus bytes r e).long, z))
    ∙ ap (λ (g : Result WordRecord Refusal). front_with before g (λ (time : ℕ). front_from n time (drop 16 bytes))) e
    ∙ ap (λ (b : Bool). cond b (stops (Some OutOfOrder)) (goes_on r (front_from n r.time.0 (drop 16 bytes)))) (lt-ltb r.time.0 before late)

-- a record in order, read of its form, is taken
takes : (n before : ℕ) (r : WordRecord) (after : List ℕ) → Fits last_bus r → before ≤ r.time.0
    → front_from (suc n) before (form_of r ++ after) ≡ goes_on r (front_from n r.time.0 after)
takes n before r after fits l =
    front_some n before (form_of r ++ after) (λ z. omega (arith, z, length-append (form_of r) after))
    ∙ ap (λ (g : Result WordRecord Refusal). front_with before g (λ (time : ℕ). front_from n time (drop 16 (form_of r ++ after)))) (read_written last_bus r after fits)
    ∙ ap (λ (b : Bool). cond b (stops (Some OutOfOrder)) (goes_on r (front_from n r.time.0 (drop 16 (form_of r ++ after))))) (le-ltb r.time.0 before l)
    ∙ ap (λ (k : List ℕ). goes_on r (front_from n r.time.0 k)) (drop_at (form_of r) after 16 refl)

front_stays : (rs : List WordRecord) (n : ℕ) (before : Moment) (bytes : List ℕ) (m : Option Refusal) → length (forms_of rs ++ bytes) ≤ n → Written before.0 rs
    → EndsBy (end_time before rs).0 bytes m
    → front_from n before.0 (forms_of rs ++ bytes) ≡ record { taken = rs; refusal = m }
unfolding forms_of
front_stays [] n before bytes m l written ends = ends_by n before.0 bytes m l ends
front_stays (r ∷ rs) zero before bytes m l written ends = absurd (omega (arith, l, length-append (form_of r ++ forms_of rs) bytes, length-append (form_of r) (forms_of rs)))
front_stays (r ∷ rs) (suc n) before bytes m l written ends =
    ap (front_from (suc n) before.0) (append_assoc (form_of r) (forms_of rs) bytes)
    ∙ takes n before.0 r (forms_of rs ++ bytes) written.0 written.1
    ∙ ap (goes_on r)
    (front_stays rs n r.time bytes m
    (omega (arith, l, length-append (form_of r ++ forms_of rs) bytes, length-append (form_of r) (forms_of rs), length-append (forms_of rs) bytes)) written.2 ends)

pub log_stays : LogStays
unfolding file_log open_of front_of
log_stays rs written bytes n ends =
    ap (λ (front : Front). logged front) (front_stays rs (length (forms_of rs ++ bytes)) (record { 0 = 0 }) bytes n (omega arith) written ends)
