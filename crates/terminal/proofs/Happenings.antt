-- An accepted event, put together as the code does. Assumes nothing.
use mathlib.Core.Path.{◌≡◌, sym, ap, ap₂, ◌∙◌}
use mathlib.Core.Bool.{Bool}
use mathlib.Core.List.{List}
use Prim.Native.Nat.{ℕ}
use Rattle.std.specs.Prelude.{Option, None}
use Rattle.terminal.specs.States.{at_time}
use Rattle.terminal.specs.Rules.{rule1_answer}
use Rattle.terminal.specs.Events.{passed_of, taken_of, cut_of, happens_of}
use Rattle.terminal.specs.Works.{work_of, with_work, told_of, heard_meaning, cut_by, changed_of}
use Rattle.terminal.specs.declared.states.Work.{Work}
use Rattle.terminal.specs.declared.states.Terminal.{Terminal as State}
use Rattle.terminal.specs.declared.answers.Answer.{Answer}
use Rattle.terminal.specs.declared.rules.Meaning.{Meaning}
use Rattle.terminal.specs.declared.events.Event.{Event}
use Rattle.terminal.specs.declared.events.Event.TheVariants.{Mark, Word}
use Rattle.terminal.specs.declared.events.Told.{Told}
use Rattle.terminal.specs.declared.events.Happened.{Happened}
use Rattle.terminal.proofs.Works.{passed_framed}
use Rattle.terminal.proofs.Meanings.{taken_changed, cut_changed}

abbrev accepted : Option Answer → Bool → State → Happened
accepted answer cut next = record { terminal = next; answer = answer; refusal = None; cut = cut }

-- what the code gives of an answer and of the work after rules 1 and 2
abbrev given : State → Told → Option Answer → Work → Happened
given s told answer w =
    accepted answer (cut_by w told.heard (heard_meaning s.setup.own w told))
    (at_time (with_work s (changed_of s.setup.own w told.heard (heard_meaning s.setup.own w told))) told.heard.time.0)

happens_at : (s : State) (e : Event) (t : ℕ) (transmit : List ℕ) (answer : Option Answer)
    → accepted answer (cut_of (passed_of s t transmit) e) (taken_of (passed_of s t transmit) e)
    ≡ accepted answer
    (cut_by (work_of (passed_of s t transmit)) (told_of e).heard (heard_meaning s.setup.own (work_of (passed_of s t transmit)) (told_of e)))
    (at_time
    (with_work s
    (changed_of s.setup.own (work_of (passed_of s t transmit)) (told_of e).heard (heard_meaning s.setup.own (work_of (passed_of s t transmit)) (told_of e))))
    t)
happens_at s e t transmit answer =
    let framed = passed_framed s t transmit in
    let passed = at_time (with_work s (work_of (passed_of s t transmit))) t in
    ap₂ (accepted answer) (ap (λ (x : State). cut_of x e) framed ∙ cut_changed passed e) (ap (λ (x : State). taken_of x e) framed ∙ taken_changed passed e)

happens_given : (s : State) (e : Event) (transmit : List ℕ)
    → given s (told_of e) (rule1_answer s (told_of e).heard.time.0 transmit) (work_of (passed_of s (told_of e).heard.time.0 transmit)) ≡ happens_of s e transmit
unfolding happens_of
happens_given s (Mark t) transmit = sym (happens_at s (Mark t) t.0 transmit _)
happens_given s (Word r) transmit = sym (happens_at s (Word r) r.time.0 transmit _)

pub happens : (s : State) (e : Event) (transmit : List ℕ) (told : Told) (w : Work) (answer : Option Answer) (m : Meaning) (cut : Bool) (taken : Work) (next : State)
    → told ≡ told_of e
    → w ≡ work_of (passed_of s told.heard.time.0 transmit)
    → answer ≡ rule1_answer s told.heard.time.0 transmit
    → m ≡ heard_meaning s.setup.own w told
    → cut ≡ cut_by w told.heard m
    → taken ≡ changed_of s.setup.own w told.heard m
    → next ≡ with_work s taken
    → accepted answer cut (at_time next told.heard.time.0) ≡ happens_of s e transmit
happens s e transmit told w answer m cut taken next is-told is-work is-answer is-meaning is_cut is-taken is_next =
    rw (is_next, is-taken, is_cut, is-meaning, is-work, is-answer, is-told) (happens_given s e transmit)
