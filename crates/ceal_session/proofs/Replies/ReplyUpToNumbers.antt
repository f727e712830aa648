-- A session whose past is that of a situation up to numbers answers as the situation does.
use Rattle.std.proofs.Common.{◌≡◌, ℕ, true, Option, Some, None, Ok, Err, List, ◌⊎◌, inl, inr, refl, sym, ap, ap₂, ◌∙◌, subst}
use Rattle.std.specs.Prelude.{IfSome}
use Rattle.ceal_base.specs.Block.{Block}
use Rattle.ceal_base.specs.Fitting.{inputs_fit}
use Rattle.ceal_base.specs.declared.call.Call.{Call}
use Rattle.ceal_base.specs.declared.word.Word.{Word}
use Rattle.ceal_code.specs.Fitting.{Fits}
use Rattle.ceal_code.specs.Program.{Code}
use Rattle.ceal_script.specs.declared.command.Command.{Command}
use Rattle.ceal_theory.specs.Adjust.{Extended}
use Rattle.ceal_theory.proofs.SlicedRepair.CarriedLaws.{carried-more-law}
use Rattle.ceal_theory.proofs.SlicedRepair.SliceLaws.{more-law}
use Rattle.ceal_theory.specs.Laws.{RenamedRepair}
use Rattle.ceal_theory.specs.Pasts.{Past, NoTrace, Traced, Going, SamePast, IsPastOf, goes}
use Rattle.ceal_theory.specs.Repair.{own}
use Rattle.ceal_session.specs.AfterLine.{RunsAsDefined}
use Rattle.ceal_session.specs.Replies.{Answers, Replies, situation_after}
use Rattle.ceal_session.specs.Consistency.{IsPastIn, IsSamePast, IsConsistent}
use Rattle.ceal_session.specs.State.{State, Situation, Numbers, trace_in_past, latest_work, numbers_in}
use Rattle.ceal_session.specs.Steps.{step_of_line}
use Rattle.ceal_session.specs.Texts.{IsText}
use Rattle.ceal_session.specs.declared.refusal.Refusal.{Refusal}
use Rattle.ceal_session.specs.Works.{call_in, past_in, past_left, bound_left}

module _ {code : Code} {inputs : List Block} {f : ℕ} {args : List Word} where
  pub same-goes : {p q : Past} → SamePast code inputs f args p q → goes p ≡ goes q
  same-goes SamePast.none = refl
  same-goes (SamePast.traced r) = refl
  same-goes (SamePast.going s c) = refl

  -- both tell one work
  pub same-work : {p q : Past} → SamePast code inputs f args p q → latest_work (trace_in_past p) ≡ latest_work (trace_in_past q)
  same-work SamePast.none = refl
  same-work (SamePast.traced (RenamedRepair.some ps one alike work)) = work
  same-work (SamePast.going s c) = refl

pub is-goes : (code : Code) (inputs : List Block) (o : Option Call) (p q : Past) → IsSamePast code inputs o p q → goes p ≡ goes q
is-goes code inputs None p q h = ap goes h.0 ∙ sym (ap goes h.1)
is-goes code inputs (Some call) p q h = same-goes h

pub is-work : (code : Code) (inputs : List Block) (o : Option Call) (p q : Past) → IsSamePast code inputs o p q → latest_work (trace_in_past p) ≡ latest_work (trace_in_past q)
is-work code inputs None p q h = ap (λ p. latest_work (trace_in_past p)) h.0 ∙ sym (ap (λ p. latest_work (trace_in_past p)) h.1)
is-work code inputs (Some call) p q h = same-work h

-- it stays so on inputs that extend its own
pub more-past : (code : Code) (old new : List Block) (f : ℕ) (args : List Word) → Fits code old f args
    → inputs_fit code.structs new ≡ true → Extended code old new → {p q : Past} → SamePast code old f args p q → SamePast code new f args p q
more-past code old new f args fits fit ext SamePast.none = SamePast.none
more-past code old new f args fits fit ext (SamePast.traced r) = SamePast.traced r
more-past code old new f args fits fit ext (SamePast.going {r = r} {q = q} s c) =
    SamePast.going (more-law code own old new f args fits fit ext r s) (carried-more-law code old new fit ext 0 r q c)

-- a past of the situation is one of its call
pub past-of : (code : Code) (s : State) (call : Call) (p : Past) → IsPastIn code s (Some call) p → IsPastOf code s.inputs call.function call.args p
past-of code s call NoTrace h = tt
past-of code s call (Traced l) h = h.replays
past-of code s call (Going r) h = h.sound

-- after a line that runs, both have the same past again, and one bound
pub ran-past : (m session n : Situation) (call : Call) (reads : Option ℕ) → session.code ≡ m.code → session.state ≡ m.state → session.bound ≡ m.bound
    → IsPastOf m.code m.state.inputs call.function call.args m.past → SamePast m.code m.state.inputs call.function call.args m.past session.past
    → RunsAsDefined session call reads n
    → SamePast m.code m.state.inputs call.function call.args (past_left m.code m.state (Ok call) reads m.past) n.past
    × (n.bound ≡ bound_left m.code m.state (Ok call) reads m.past m.bound)
ran-past m session n call reads c s b is same r =
    let e : session ≡ record { state = m.state; code = m.code; past = session.past; bound = m.bound } =
    ap₂ (λ st k. record { state = st; code = k; past = session.past; bound = session.bound }) s c
    ∙ ap (λ x. record { state = m.state; code = m.code; past = session.past; bound = x }) b in
    let k : RunsAsDefined (record { state = m.state; code = m.code; past = session.past; bound = m.bound }) call reads n = subst (λ x. RunsAsDefined x call reads n) e r in
    (k.past m.past is same, k.bound m.past is same)

-- The reply of a session is the situation's: it tells the same numbers, and the line is answered `more` where it is
-- there.
pub kept-reply : (m session n : Situation) (line text : List ℕ) → session.state ≡ m.state → session.bound ≡ m.bound
    → IsSamePast m.code m.state.inputs m.state.call m.past session.past
    → (a : Answers session.state (numbers_in session) (goes n.past) line text n.state)
    → goes (past_in m a.command) ≡ goes n.past
    → Replies m line text (situation_after m a.command)
kept-reply m session n line text s b same a more =
    let numbers : numbers_in session ≡ numbers_in m = ap₂ (λ w k. record { work = w; bound = k }) (sym (is-work m.code m.state.inputs m.state.call m.past session.past same)) b in
    record {
      command = a.command;
      reads = a.reads;
      reply = subst (λ g. IsText m.state (numbers_in m) (step_of_line m.state g a.command).reply text) (sym more)
          (subst (λ (w : Numbers). IsText m.state w (step_of_line m.state (goes n.past) a.command).reply text) numbers
          (subst (λ (t : State). IsText t (numbers_in session) (step_of_line t (goes n.past) a.command).reply text) s a.reply));
      next = refl;
    }

-- What is known of each line of a situation that a session reaches: the situation after it is sound. The call of a line
-- that runs is the one that was accepted before or the first one, and it fits. The inputs after a line that runs none
-- extend those before it.
pub record LineFacts (m : Situation) (command : Option Command) : Type 0 where
  pub stands : IsConsistent (situation_after m command)
  pub called : (call : Call) → call_in m.state command ≡ Ok call → (situation_after m command).state.call ≡ Some call
  pub before : (call : Call) → call_in m.state command ≡ Ok call → (m.state.call ≡ Some call) ⊎ ((m.state.call ≡ None) × (m.past ≡ NoTrace))
  pub inputs : (call : Call) → call_in m.state command ≡ Ok call → (situation_after m command).state.inputs ≡ m.state.inputs
  pub same_call : (r : Refusal) → call_in m.state command ≡ Err r → (situation_after m command).state.call ≡ m.state.call
  pub fits : IfSome m.state.call (λ call. Fits m.code m.state.inputs call.function call.args)
  pub fit : inputs_fit m.code.structs (situation_after m command).state.inputs ≡ true
  pub extended : Extended m.code m.state.inputs (situation_after m command).state.inputs

-- after a line that runs nothing both have the same past on the inputs there
pub more-same : (code : Code) (old new : List Block) (o : Option Call) → IfSome o (λ call. Fits code old call.function call.args)
    → inputs_fit code.structs new ≡ true → Extended code old new → (p q : Past) → IsSamePast code old o p q → IsSamePast code new o p q
more-same code old new None fits fit ext p q h = h
more-same code old new (Some call) fits fit ext p q h = more-past code old new call.function call.args fits fit ext h

-- the past before a line that runs, as one of its call
pub before-call : (code : Code) (s : State) (call : Call) (p q : Past) → (s.call ≡ Some call) ⊎ ((s.call ≡ None) × (p ≡ NoTrace)) → IsPastIn code s s.call p
    → IsSamePast code s.inputs s.call p q
    → IsPastOf code s.inputs call.function call.args p × SamePast code s.inputs call.function call.args p q
before-call code s call p q (inl e) h k = (
  past-of code s call p (subst (λ o. IsPastIn code s o p) e h),
  subst (λ o. IsSamePast code s.inputs o p q) e k,
)
before-call code s call p q (inr (e, n)) h k =
    let none = subst (λ o. IsSamePast code s.inputs o p q) e k in (
      subst (λ (x : Past). IsPastOf code s.inputs call.function call.args x) (sym n) tt,
      subst (λ (x : Past). SamePast code s.inputs call.function call.args x q) (sym n)
          (subst (λ (x : Past). SamePast code s.inputs call.function call.args NoTrace x) (sym none.1) SamePast.none),
    )
