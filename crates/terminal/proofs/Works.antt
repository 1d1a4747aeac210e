-- Rules 1 and 2 as the code goes about them: they change only the work, and what is settled is never late nor overdue. Assumes nothing.
use mathlib.Core.Path.{◌≡◌, refl, sym, ap, ◌∙◌}
use mathlib.Core.Bool.{Bool, true, false, cond}
use mathlib.Core.List.{List}
use Prim.Native.Nat.{ℕ}
use Rattle.terminal.specs.States.{at_time}
use Rattle.terminal.specs.Messages.{awaits_data, is_due, is_late, awaits_first, is_overdue, is_over}
use Rattle.terminal.specs.Rules.{settled_of, rule1, faulty_of, rule2}
use Rattle.terminal.specs.Events.{passed_of}
use Rattle.terminal.specs.Works.{work_of, with_work, bare_of}
use Rattle.terminal.specs.declared.states.Work.{Work}
use Rattle.terminal.specs.declared.states.Terminal.{Terminal as State}

-- the one state is the other with its own work
abbrev Framed : State → State → Type 0
Framed s x = x ≡ with_work s (work_of x)

either : (s : State) (b : Bool) (x y : State) → Framed s x → Framed s y → Framed s (cond b x y)
either s true x y p q = p
either s false x y p q = q

rule1_framed : (s : State) (t : ℕ) (transmit : List ℕ) → Framed s (rule1 s t transmit)
unfolding rule1 settled_of
rule1_framed s t transmit = either s (is_due s.message t) _ _ refl refl

rule2_framed : (s : State) (w : Work) (t : ℕ) → Framed s (rule2 (with_work s w) t)
unfolding rule2 faulty_of
rule2_framed s w t = either s (is_over w.message t) _ _ refl refl

pub passed_framed : (s : State) (t : ℕ) (transmit : List ℕ) → passed_of s t transmit ≡ at_time (with_work s (work_of (passed_of s t transmit))) t
unfolding passed_of
passed_framed s t transmit =
    let framed = rule1_framed s t transmit in
    ap (λ (x : State). at_time (rule2 x t) t) framed
    ∙ ap (λ (x : State). at_time x t) (rule2_framed s (work_of (rule1 s t transmit)) t)
    ∙ sym (ap (λ (x : State). at_time (with_work s (work_of (rule2 x t))) t) framed)

-- what is settled is under way no more
pub passed_settled : (s : State) (t : ℕ) (transmit : List ℕ) → is_due s.message t ≡ true → work_of (passed_of s t transmit) ≡ work_of (settled_of s transmit)
unfolding passed_of rule1 rule2 settled_of is_late awaits_data is_overdue awaits_first
passed_settled s t transmit due = ap (λ (b : Bool). work_of (rule2 (cond b (settled_of s transmit) s) t)) due

same_work : (b : Bool) (x y v w : State) → work_of x ≡ work_of v → work_of y ≡ work_of w → work_of (cond b x y) ≡ work_of (cond b v w)
same_work true x y v w p q = p
same_work false x y v w p q = q

-- and where nothing is due rule 2 reads no more than the own address and the work
pub passed_waiting : (s : State) (t : ℕ) (transmit : List ℕ) → is_due s.message t ≡ false → work_of (passed_of s t transmit) ≡ work_of (rule2 (bare_of s.setup.own (work_of s)) t)
unfolding passed_of rule1 rule2 faulty_of
passed_waiting s t transmit due =
    ap (λ (b : Bool). work_of (rule2 (cond b (settled_of s transmit) s) t)) due ∙ same_work (is_over s.message t) _ _ _ _ refl refl
