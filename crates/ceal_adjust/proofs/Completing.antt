-- What a machine that is turned until it has ended, or has written more steps than the fuel allows, comes to.
use Rattle.std.proofs.Common.{◌≡◌, ℕ, ◌≤◌, Option, Some, None, List, [], ◌++◌, append-nil, refl, sym, ap, subst, ◌∙◌, arith}
use Rattle.ceal_base.specs.Block.{Block}
use Rattle.ceal_base.specs.Finished.{Finished}
use Rattle.ceal_base.specs.Trace.{Trace, Nothing, flat, steps_in, steps_of}
use Rattle.ceal_base.specs.declared.forest.Item.{Item}
use Rattle.ceal_base.specs.declared.word.Word.{Word}
use Rattle.ceal_base.proofs.TraceLemmas.{steps-flat}
use Rattle.ceal_code.specs.Fitting.{Fits}
use Rattle.ceal_code.specs.Fresh.{fresh}
use Rattle.ceal_code.specs.Program.{Code}
use Rattle.ceal_code.specs.Replay.{input_plain, plain_of}
use Rattle.ceal_code.specs.Step.{started}
use Rattle.ceal_theory.proofs.Repair.EndAsFromScratch.{first-steps, first-run, repaired, ended}
use Rattle.ceal_theory.proofs.Repair.FromScratch.{scratch-first}
use Rattle.ceal_theory.proofs.Repair.FunctionOfRules.{first-found, adjusted-found, adjusted-sound}
use Rattle.ceal_theory.proofs.Repair.Honesty.{fix-work}
use Rattle.ceal_theory.proofs.Store.FittingInputs.{fits-more}
use Rattle.ceal_theory.proofs.Nodes.TurnCourse.{work-law}
use Rattle.ceal_theory.proofs.MoveMachine.MachineLaws.{leads-then, leads-move}
use Rattle.ceal_theory.proofs.MoveMachine.MoveKeepsEnd.{at, move-kept, finishes-fix, finishes-anew}
use Rattle.ceal_theory.specs.Adjust.{Adjusts, Firsts}
use Rattle.ceal_adjust.specs.Answers.{Exceeds, Keeps, EndsAt, IsBeyond, Completes, RunsOut, Answered, IsRepair, IsAnswer}
use Rattle.ceal_adjust.specs.declared.complete.Limit.{Limit}
use Rattle.ceal_adjust.specs.declared.complete.Limit.TheVariants.{Written}
use Rattle.ceal_theory.specs.Computed.{adjusted, first_of}
use Rattle.ceal_theory.specs.Laws.{Edited}
use Rattle.ceal_theory.specs.Repair.{State, own, begins}
use Rattle.ceal_theory.specs.Moves.{Machine, Move, Fixing, Running, Bottom, Ended, Went, next_move, Resumes, Finishes, BecomesBy}
use Rattle.ceal_adjust.specs.declared.adjust.Adjusted.{Adjusted}
use Rattle.ceal_adjust.specs.declared.adjust.Adjusted.TheVariants.{Done, OutOfFuel}

-- a turn of the same code
pub turned : (code now : Code) (m : Machine) (t : Move) → now ≡ code → next_move now own m ≡ t → next_move code own m ≡ t
turned code now m t e h = subst (λ k. next_move k own m ≡ t) e h

-- after one turn more
pub leads-more : (code : Code) (start m m' : Machine) (out written : List Item) → BecomesBy code own start m out → next_move code own m ≡ Went written m' → BecomesBy code own start m' (out ++ written)
leads-more code start m m' out written h e = leads-then code own start m m' out written h (leads-move code own m m' written e)

-- where it is beyond the limit
pub is-beyond : (code : Code) (limit : Limit) (start m : Machine) (out : List Item) (steps work : ℕ)
    → BecomesBy code own start m out → steps ≡ steps_in out → m.state.work ≡ work → Exceeds limit steps work
    → IsBeyond code limit start
is-beyond code limit start m out steps work h e k l = record {
  machine = m;
  out = out;
  leads = h;
  beyond = subst (λ n. Exceeds limit n m.state.work) e (subst (λ w. Exceeds limit steps w) (sym k) l);
}

-- where it has ended, within the limit
pub ends-at : (code : Code) (limit : Limit) (start m : Machine) (out : List Item) (steps work : ℕ) (s : State)
    → BecomesBy code own start m out → steps ≡ steps_in out → m.state.work ≡ work → Keeps limit steps work
    → next_move code own m ≡ Ended → m.state ≡ s → EndsAt code limit start out s
ends-at code limit start m out steps work s h e k l t n = record {
  ended = record { machine = m; leads = h; ended = t; within = subst (λ n. Keeps limit n m.state.work) e (subst (λ w. Keeps limit steps w) (sym k) l) };
  state = n;
}

-- where the machine has ended, within the fuel
pub has-completed : (code : Code) (fuel : ℕ) (start : Machine) (out : List Item) (s : State) (work : ℕ) → EndsAt code (Written fuel) start out s → work ≡ s.work → Completes code fuel start out work
has-completed code fuel start out s work e k = record {
  after = e.ended.machine.state;
  finishes = rw (append-nil out) at (e.ended.leads.back e.ended.machine.state [] (rw e.ended.ended at (move-kept code own e.ended.machine)));
  counted = ap (λ t. t.work) e.state ∙ sym k;
  within = e.ended.within;
}

-- where it has written more steps than the fuel allows
pub has-run-out : (code : Code) (fuel : ℕ) (start : Machine) → IsBeyond code (Written fuel) start → RunsOut code fuel start
has-run-out code fuel start b s' items h = omega (arith, (work-law code own start b.machine b.out b.leads s' items h).1, b.beyond)

-- the machine at the beginning of a first trace
abbrev pub begin : Code → List Block → ℕ → List Word → Machine
begin code inputs f args = at (begins code inputs (input_plain code inputs) 0) (Running (started code f args) Nothing) Bottom

-- and of a repair
abbrev pub begin-fix : Code → List Block → Trace → ℕ → Machine
begin-fix code new l number = at (begins code new (plain_of code new l) number) (Fixing l) Bottom

-- a first trace
module _ (code : Code) (inputs : List Block) (f : ℕ) (args : List Word) (fits : Fits code inputs f args) (fuel : ℕ) where
  pub first-done : (forest : List Item) (work : ℕ) → Completes code fuel (begin code inputs f args) forest work
      → IsRepair forest work (first_of code inputs fuel f args) (fresh code f args inputs fuel)
  first-done forest work c =
      let r = finishes-anew code own (begins code inputs (input_plain code inputs) 0) (started code f args) Nothing c.after forest c.finishes in
      let firsts : Firsts code inputs f args r.items work = record { after = c.after; left = r.left; anew = r.anew; counted = c.counted } in
      let steps : steps_of r.items ≡ work = first-steps code inputs f args fits r.items work firsts in
      let few : work ≤ fuel = omega (arith, steps, c.within, ap steps_in r.same ∙ steps-flat r.items) in
      let found = first-found code inputs fuel f args r.items work firsts few in
      let d = first-run code inputs f args fits r.items work firsts in
      record { items = r.items; flat_form = r.same; same = found; finished = _; ends = d.ends fuel (omega (arith, few, steps)) }

  pub first-out : RunsOut code fuel (begin code inputs f args) → fresh code f args inputs fuel ≡ None
  first-out h = go (fresh code f args inputs fuel) refl
    where
      go : (o : Option Finished) → fresh code f args inputs fuel ≡ o → o ≡ None
      go None e = refl
      go (Some q) e =
          let s = scratch-first code inputs f args fits fuel q e in
          let steps : steps_of s.0 ≡ q.steps = first-steps code inputs f args fits s.0 q.steps s.1 in
          let firsts = s.1 in
          let over = h firsts.after (flat s.0 ++ []) (Finishes.runs firsts.anew Resumes.bottom) in
          absurd (omega (arith, over, ap steps_in (append-nil (flat s.0)) ∙ steps-flat s.0, steps, s.2))

-- a repair
module _ (code : Code) (old new : List Block) (f : ℕ) (args : List Word) (l : Trace) (number : ℕ) (e : Edited code old new f args l number) (fuel : ℕ) where
  pub adjust-done : (forest : List Item) (work : ℕ) → Completes code fuel (begin-fix code new l number) forest work
      → IsRepair forest work (adjusted code new number fuel l) (fresh code f args new fuel)
  adjust-done forest work c =
      let r = finishes-fix code own (begins code new (plain_of code new l) number) l c.after forest c.finishes in
      let adjusts : Adjusts code new number l r.items work = record { after = c.after; fix = r.fix; counted = c.counted } in
      let steps : steps_of r.items ≤ fuel = omega (arith, c.within, ap steps_in r.same ∙ steps-flat r.items) in
      let few : work ≤ fuel = omega (arith, steps, fix-work r.fix, c.counted) in
      let found = adjusted-found code new number fuel l r.items work adjusts few in
      let q = ended code old new f args e.call e.fit e.extended l e.trace number e.above fuel (record { items = r.items; work = work }) found steps in
      record { items = r.items; flat_form = r.same; same = found; finished = q.0; ends = q.1 }

  pub adjust-out : RunsOut code fuel (begin-fix code new l number) → fresh code f args new fuel ≡ None
  adjust-out h = go (fresh code f args new fuel) refl
    where
      go : (o : Option Finished) → fresh code f args new fuel ≡ o → o ≡ None
      go None k = refl
      go (Some q) k =
          let s = scratch-first code new f args (fits-more code old new e.extended f args e.call e.fit) fuel q k in
          let a = repaired code old new f args e.call e.fit e.extended l e.trace number e.above fuel q k in
          let adjusts = (adjusted-sound code new number fuel l a.0 a.1).0 in
          let over = h adjusts.after (flat a.0.items ++ []) (Finishes.fixes adjusts.fix Resumes.bottom) in
          absurd (omega (arith, over, ap steps_in (append-nil (flat a.0.items)) ∙ steps-flat a.0.items, a.2, s.2))

module _ (code : Code) (inputs : List Block) (f : ℕ) (args : List Word) (fits : Fits code inputs f args) (fuel : ℕ) where
  pub first-answer : (a : Adjusted) → Answered code fuel (begin code inputs f args) a → IsAnswer (first_of code inputs fuel f args) (fresh code f args inputs fuel) a
  first-answer (Done forest work) c = first-done code inputs f args fits fuel forest work c
  first-answer OutOfFuel h = first-out code inputs f args fits fuel h

module _ (code : Code) (old new : List Block) (f : ℕ) (args : List Word) (l : Trace) (number : ℕ) (e : Edited code old new f args l number) (fuel : ℕ) where
  pub adjust-answer : (a : Adjusted) → Answered code fuel (begin-fix code new l number) a → IsAnswer (adjusted code new number fuel l) (fresh code f args new fuel) a
  adjust-answer (Done forest work) c = adjust-done code old new f args l number e fuel forest work c
  adjust-answer OutOfFuel h = adjust-out code old new f args l number e fuel h
