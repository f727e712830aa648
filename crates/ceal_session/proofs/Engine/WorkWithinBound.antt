-- The work of a propagate that repaired a trace is at most the bound, and that is at most the steps of the run.
use Rattle.std.proofs.Common.{◌≡◌, ℕ, ◌≤◌, Bool, true, false, if◌then◌else◌, Option, Some, None, Result, Ok, Err, map, refl, sym, ap, ◌∙◌, subst, arith}
use Rattle.std.specs.Prelude.{⊤, IfSome}
use Rattle.ceal_base.specs.Trace.{steps_of}
use Rattle.ceal_base.specs.declared.call.Call.{Call}
use Rattle.ceal_code.proofs.Alike.AlikeSteps.{steps-alike}
use Rattle.ceal_code.proofs.Words.SameIsEqual.{none-some, some-same}
use Rattle.ceal_code.specs.Fitting.{Fits}
use Rattle.ceal_code.specs.Program.{Code}
use Rattle.ceal_cost.proofs.Bounds.{bound-law}
use Rattle.ceal_cost.proofs.Firsts.{restored}
use Rattle.ceal_cost.specs.Bounds.{first_cost}
use Rattle.ceal_session.proofs.Engine.RunLeavesPast.{above, is-above, few-steps, first-ends, has-first}
use Rattle.ceal_script.specs.declared.command.Command.{Command}
use Rattle.ceal_script.specs.declared.command.Command.TheVariants.{Blank, Mod, New, Set, Run, Propagate, Slice, Get, Show, Blocks, Steps, Work, Bound}
use Rattle.ceal_session.proofs.Replies.QuestionsAnswered.{called-first}
use Rattle.ceal_session.specs.AfterLine.{RunsOrKeeps, RunsAsDefined, IsBounded}
use Rattle.ceal_session.specs.Senses.{function_named, value_sense}
use Rattle.ceal_session.specs.Steps.{call_of, reads_of, call_again}
use Rattle.ceal_session.specs.declared.refusal.Refusal.{Refusal}
use Rattle.ceal_session.specs.Consistency.{IsTraceIn, IsSettled, HasTraceOf, HasTrace}
use Rattle.ceal_session.specs.State.{State, Situation, trace_in_past, last}
use Rattle.ceal_session.specs.Works.{first_trace, steps_in_first, bound_by, past_left, bound_left}
use Rattle.ceal_theory.proofs.SlicedRepair.CarriedLaws.{edited-so, own-single}
use Rattle.ceal_theory.proofs.SlicedRepair.SliceLaws.{begin-law, begun-adjusted-law, done-law, follow-law, is-done-law, slice-law, slices-law, turns-law, whole-law}
use Rattle.ceal_theory.specs.Computed.{Repaired, adjusted}
use Rattle.ceal_theory.specs.Laws.{Edited, RenamedRepair}
use Rattle.ceal_theory.specs.Pasts.{Past, NoTrace, Traced, Going, SamePast, IsPastOf, first_past, done_past, left_by}
use Rattle.ceal_theory.specs.Repair.{own}
use Rattle.ceal_theory.specs.SliceLaws.{SameRepair, Turns, and_more}
use Rattle.ceal_theory.specs.Slices.{Repair, Slices, RepairHolds, beginning, goes_on, repair_at, sliced, is_done}

traced-same : (a b : Repaired) → Traced a ≡ Traced b → a ≡ b
traced-same a b e = cc e

-- The repair is what slices have made of a trace of the call on these inputs.
pub record IsSlicedFrom (code : Code) (s : State) (call : Call) (r : Repair) : Type 0 where
  pub trace : Repaired
  pub is : IsTraceIn code s call trace
  pub reads : ℕ
  pub slices : Slices code own s.inputs (Some reads) (beginning code s.inputs trace.items (above trace.items)) r

-- The work of the trace is at most the bound, and that at most the steps; a repair in progress is what slices have
-- made.
abbrev pub IsLeft : Code → State → Call → Past → ℕ → Type 0
IsLeft code s call NoTrace bound = ⊤
IsLeft code s call (Traced a) bound = (a.work ≤ bound) × (bound ≤ steps_of a.items)
IsLeft code s call (Going r) bound = IsSlicedFrom code s call r

module _ (code : Code) (s : State) (call : Call) (now : Fits code s.inputs call.function call.args) where
  abbrev first : Option Repaired
  first = first_trace code s call

  abbrev Holds : ℕ → Repaired → Type 0
  Holds bound a = (a.work ≤ bound) × (bound ≤ steps_of a.items)

  -- each step of a first trace is work
  of-first : (o : Option Repaired) → first ≡ o → (a : Repaired) → first_past o ≡ Traced a → Holds (steps_in_first o) a
  of-first None e a h = absurd (grind (arith, h))
  of-first (Some b) e a h =
      let ends = first-ends code s.inputs call.function call.args now s.fuel b e in
      let found = has-first code s.inputs call.function call.args now s.fuel ends.0 ends.1 in
      let one : found.first ≡ a = some-same found.first b (sym found.is ∙ e) ∙ traced-same b a h in
      let work : a.work ≡ steps_of a.items = ap (λ x. x.work) (sym one) ∙ (found.trace.work ∙ (sym found.trace.steps ∙ ap (λ x. steps_of x.items) one)) in
      let same : b ≡ a = traced-same b a h in
      subst (λ x. Holds (steps_of x.items) a) (sym same) (omega (arith, work), omega arith)

  pub first-left : IsLeft code s call (first_past first) (steps_in_first first)
  first-left = go first refl
    where
      go : (o : Option Repaired) → first ≡ o → IsLeft code s call (first_past o) (steps_in_first o)
      go None e = tt
      go (Some b) e = of-first (Some b) e b refl

  module _ (was : Fits code s.settled call.function call.args) (settled : IsSettled code s) (l : Repaired) (t : IsTraceIn code s call l) where
    abbrev next : Repair
    next = beginning code s.inputs l.items (above l.items)

    edited : Edited code s.settled s.inputs call.function call.args l.items (above l.items)
    edited = record { call = was; fit = now.blocks; extended = settled.extended; trace = t.was; above = is-above l.items }

    next-sound : RepairHolds code own s.inputs call.function call.args next
    next-sound = begin-law code own s.inputs s.inputs call.function call.args l.items (above l.items) (above l.items)
        (edited-so code s.inputs call.function call.args now l.items t.replays (above l.items) (is-above l.items)) own-single (λ j i. is-above l.items j i)

    -- a slice without a number of reads is the repair
    record IsRepair (r : Repair) : Type 0 where
      repaired : Repaired
      is : adjusted code s.inputs (above l.items) s.fuel l.items ≡ Some repaired
      items : r.items ≡ repaired.items
      work : r.spent ≡ repaired.work

    by-same : (r : Repair) (o : Option Repaired) (z : Option Repair) → adjusted code s.inputs (above l.items) s.fuel l.items ≡ o → z ≡ Some r → SameRepair o z → IsRepair r
    by-same r _ _ i k SameRepair.none = none-some r k
    by-same r _ _ i k (SameRepair.some {a = x} {r = q} items work) =
        let same : q ≡ r = some-same q r k in
        record { repaired = x; is = i; items = ap (λ y. y.items) (sym same) ∙ items; work = ap (λ y. y.spent) (sym same) ∙ work }

    of-done : (r : Repair) → sliced code own s.inputs None s.fuel next ≡ Some r → is_done code s.inputs r ≡ true → (b : Repaired) → first ≡ Some b
        → Holds (first_cost code s.fuel s.settled s.inputs call.function call.args) (record { items = r.items; work = r.spent })
    of-done r e d b f =
        let x = by-same r (adjusted code s.inputs (above l.items) s.fuel l.items) (sliced code own s.inputs None s.fuel next) refl e
        (begun-adjusted-law code s.settled s.inputs call.function call.args l.items (above l.items) edited s.fuel) in
        let sound = (slice-law code own s.inputs call.function call.args now next next-sound None r (((slices-law code own s.inputs None s.fuel next r).0 e).0)).sound in
        let honest = (is-done-law code s.inputs r).0 d in
        let replays = (done-law code own s.inputs call.function call.args now r sound honest).replays in
        let ends = first-ends code s.inputs call.function call.args now s.fuel b f in
        let few = few-steps code s.inputs call.function call.args now s.fuel r.items replays honest ends.0 ends.1 in
        let k = bound-law code s.settled s.inputs call.function call.args l.items (above l.items) s.fuel x.repaired edited t.honest t.few x.is (subst (λ y. steps_of y ≤ s.fuel) x.items few) in (
          subst (λ n. n ≤ first_cost code s.fuel s.settled s.inputs call.function call.args) (sym x.work) k.0,
          subst
              (λ y. first_cost code s.fuel s.settled s.inputs call.function call.args ≤ steps_of y) (sym x.items) k.1,
        )

    -- slices one after another that end with a repair that is done are the whole repair
    of-slices : (o : Option ℕ) (r : Repair) → Slices code own s.inputs o next r → r.spent ≤ s.fuel → is_done code s.inputs r ≡ true → (b : Repaired) → first ≡ Some b
        → Holds (first_cost code s.fuel s.settled s.inputs call.function call.args) (record { items = r.items; work = r.spent })
    of-slices None r k few d b f = of-done r ((slices-law code own s.inputs None s.fuel next r).1 (k, few)) d b f
    of-slices (Some j) r k few d b f =
        let sound = (slice-law code own s.inputs call.function call.args now next next-sound (Some j) r k).sound in
        let honest = (is-done-law code s.inputs r).0 d in
        let z = repair_at (goes_on code s.inputs r) r.items in
        let rest : Slices code own s.inputs None r z = (turns-law code own s.inputs call.function call.args now r sound 0 r Turns.none).whole honest in
        let whole : Slices code own s.inputs None next z = follow-law code own s.inputs call.function call.args now next next-sound j r k None z rest in
        of-done z ((slices-law code own s.inputs None s.fuel next z).1 (whole, few)) ((is-done-law code s.inputs z).1 honest) b f

    -- slices of this repair are slices of the trace's
    pub record Reaches (q : Repair) : Type 0 where
      pub slices : (reads : Option ℕ) (r : Repair) → Slices code own s.inputs reads q r → (o : Option ℕ) × Slices code own s.inputs o next r

    pub reaches-next : Reaches next
    reaches-next = record { slices = λ reads r k. (reads, k) }

    pub reaches-slice : (j : ℕ) (q : Repair) → Slices code own s.inputs (Some j) next q → Reaches q
    reaches-slice j q k = record { slices = λ reads r h. (and_more j reads, follow-law code own s.inputs call.function call.args now next next-sound j q k reads r h) }

    module _ (reads : Option ℕ) (q : Repair) (reach : Reaches q) (bound : ℕ) where
      done-left : (r : Repair) → sliced code own s.inputs reads s.fuel q ≡ Some r → (d : is_done code s.inputs r ≡ true) → (o : Option Repaired) → first ≡ o
          → IsLeft code s call (done_past o r) (bound_by code s call o (Some r) bound)
      done-left r e d None f = tt
      done-left r e d (Some b) f =
          let k = (slices-law code own s.inputs reads s.fuel q r).0 e in
          let all = reach.slices reads r k.0 in
          rw d (of-slices all.0 r all.1 k.1 d b f)

      goes-left : (r : Repair) → sliced code own s.inputs reads s.fuel q ≡ Some r → is_done code s.inputs r ≡ false → IsSlicedFrom code s call r
      goes-left r e d = let all = reach.slices reads r ((slices-law code own s.inputs reads s.fuel q r).0 e).0 in go all.0 all.1
        where
          go : (o : Option ℕ) → Slices code own s.inputs o next r → IsSlicedFrom code s call r
          go None k = absurd (let h = (is-done-law code s.inputs r).1 (whole-law code own s.inputs call.function call.args now next next-sound r k) in grind (arith, h, d))
          go (Some j) k = record { trace = l; is = t; reads = j; slices = k }

      -- so it is with what a slice of it leaves
      pub slice-left : (o : Option Repair) → sliced code own s.inputs reads s.fuel q ≡ o → IsLeft code s call (left_by code s.inputs first o) (bound_by code s call first o bound)
      slice-left None e = first-left
      slice-left (Some r) e = by (is_done code s.inputs r) refl
        where
          by : (d : Bool) → is_done code s.inputs r ≡ d → IsLeft code s call (if d then done_past first r else Going r) (bound_by code s call first (Some r) bound)
          by true d = done-left r e d first refl
          by false d = goes-left r e d

    pub bounded : (bound : ℕ) (a : Repaired) → past_left code s (Ok call) None (Traced l) ≡ Traced a → Holds (bound_left code s (Ok call) None (Traced l) bound) a
    bounded bound a h =
        subst (λ p. IsLeft code s call p (bound_left code s (Ok call) None (Traced l) bound)) h
        (slice-left None next reaches-next bound (sliced code own s.inputs None s.fuel next) refl)

-- and with what a session makes of its runs
module _ (m n : Situation) (call : Call) (r : RunsAsDefined m call None n) where
  of-past : (now : Fits m.code m.state.inputs call.function call.args) (was : Fits m.code m.state.settled call.function call.args) → IsSettled m.code m.state → (l : Repaired)
      → IsTraceIn m.code m.state call l
      → m.past ≡ Traced l → (q : Past) → past_left m.code m.state (Ok call) None (Traced l) ≡ q → SamePast m.code m.state.inputs call.function call.args q n.past
      → n.bound ≡ bound_left m.code m.state (Ok call) None (Traced l) m.bound
      → IfSome (last n) (λ a. (a.work ≤ n.bound) × (n.bound ≤ steps_of a.items))
  of-past now was settled l t e q is same bound = go q is n.past refl same
    where
      go : (q : Past) → past_left m.code m.state (Ok call) None (Traced l) ≡ q → (z : Past) → n.past ≡ z → SamePast m.code m.state.inputs call.function call.args q z
          → IfSome (trace_in_past z) (λ a. (a.work ≤ n.bound) × (n.bound ≤ steps_of a.items))
      go _ is _ z SamePast.none = tt
      go _ is _ z (SamePast.traced {a = a} {b = b} (RenamedRepair.some ps one alike work)) =
          let k = bounded m.code m.state call now was settled l t m.bound a is in
          let steps = steps-alike alike in
          (omega (arith, k.0, bound, work), omega (arith, k.1, bound, steps))
      go _ is _ z (SamePast.going s c) = tt

  pub session-bounded : m.state.call ≡ Some call → HasTrace m → IsBounded m (Ok call) None n
  session-bounded again h = go (m.past) refl
    where
      go : (p : Past) → m.past ≡ p → IfSome (trace_in_past p) (λ l. IfSome (last n) (λ a. (a.work ≤ n.bound) × (n.bound ≤ steps_of a.items)))
      go NoTrace e = tt
      go (Going x) e = tt
      go (Traced l) e =
          let given = subst (λ q. IfSome (trace_in_past q) (λ l. (call : Call) × (m.state.call ≡ Some call) × HasTraceOf m call l)) e h in
          let one : given.0 ≡ call = some-same given.0 call (sym given.1 ∙ again) in
          let t : HasTraceOf m call l = subst (λ c. HasTraceOf m c l) one given.2 in
          let self = restored m.code m.state.settled call.function call.args l.items l.items l.work
          (record { fits = t.was; replays = t.trace.was; honest = t.trace.honest }) (record { fits = t.was; replays = t.trace.was; honest = t.trace.honest }) in
          let same : SamePast m.code m.state.inputs call.function call.args m.past m.past = subst (λ q. SamePast m.code m.state.inputs call.function call.args q q) (sym e) (SamePast.traced self) in
          let of : IsPastOf m.code m.state.inputs call.function call.args m.past = subst (IsPastOf m.code m.state.inputs call.function call.args) (sym e) t.trace.replays in
          let made = subst (λ q. SamePast m.code m.state.inputs call.function call.args (past_left m.code m.state (Ok call) None q) n.past) e (r.past m.past of same) in
          let bound = subst (λ q. n.bound ≡ bound_left m.code m.state (Ok call) None q m.bound) e (r.bound m.past of same) in
          of-past t.now t.was t.settled l t.trace e (past_left m.code m.state (Ok call) None (Traced l)) refl made bound

-- so it is with each line
pub line-bounded : (m n : Situation) (command : Command) → HasTrace m → RunsOrKeeps m (call_of m.state command) (reads_of command) n → IsBounded m (call_of m.state command) (reads_of command) n
line-bounded m n Propagate h g = go m.state.call refl g
  where
    go : (o : Option Call) → m.state.call ≡ o → RunsOrKeeps m (call_again o) None n → IsBounded m (call_again o) None n
    go None e g = tt
    go (Some call) e g = session-bounded m n call g e h
line-bounded m n (Run function args) h g = go (call_of m.state (Run function args)) refl
  where
    of-last : (call : Call) → call_of m.state (Run function args) ≡ Ok call → (o : Option Repaired)
        → IfSome o (λ l. (call : Call) × (m.state.call ≡ Some call) × HasTraceOf m call l) → IfSome o (λ l. IfSome (last n) (λ a. (a.work ≤ n.bound) × (n.bound ≤ steps_of a.items)))
    of-last call e None h = tt
    of-last call e (Some l) h =
        let first = called-first m.state (function_named m.state function) (map (value_sense m.state) args) call e in
        absurd (let none = first.none in let there = h.1 in grind (arith, none, there))

    go : (o : Result Call Refusal) → call_of m.state (Run function args) ≡ o → IsBounded m o None n
    go (Err r) e = tt
    go (Ok call) e = of-last call e (last m) h
line-bounded m n (Slice reads) h g = go m.state.call
  where
    go : (o : Option Call) → IsBounded m (call_again o) (Some reads) n
    go None = tt
    go (Some call) = tt
line-bounded m n Blank h g = tt
line-bounded m n (Mod name kind value) h g = tt
line-bounded m n (New name shape values) h g = tt
line-bounded m n (Set place value) h g = tt
line-bounded m n (Get place) h g = tt
line-bounded m n (Show name) h g = tt
line-bounded m n Blocks h g = tt
line-bounded m n Steps h g = tt
line-bounded m n Work h g = tt
line-bounded m n Bound h g = tt
