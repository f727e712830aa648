-- A repair in progress where no read is stale, and what it leaves of the nodes at the beginning.
use Rattle.std.proofs.Common.{◌≡◌, ◌≢◌, ℕ, zero, suc, ◌≤◌, true, false, Err, Option, Some, None, List, refl, sym, ap, ◌∙◌, subst, arith}
use Rattle.ceal_base.specs.Block.{Block}
use Rattle.ceal_base.specs.Trace.{Trace, trace_of}
use Rattle.ceal_base.specs.declared.call.Call.{Call}
use Rattle.ceal_base.specs.declared.word.Word.{Word}
use Rattle.ceal_code.proofs.Words.SameIsEqual.{some-same, none-some}
use Rattle.ceal_code.specs.Program.{Code}
use Rattle.ceal_code.specs.Replay.{IsHonest}
use Rattle.ceal_engine.proofs.Carrying.{IsOpenRun, same-as, open-run}
use Rattle.ceal_engine.proofs.Present.{by-run, part-trace, trace-kept}
use Rattle.ceal_engine.proofs.Repairs.{no-end}
use Rattle.ceal_engine.specs.Calls.{Advances}
use Rattle.ceal_engine.specs.Engine.{EngineState, IsWhole, stands_for, fresh_call}
use Rattle.ceal_engine.specs.Keeping.{Keeps, forest_in, phase_of, running_in, state_of}
use Rattle.ceal_engine.specs.Partial.{CarriesRepair}
use Rattle.ceal_engine.specs.Repaired.{KeepsFront}
use Rattle.ceal_engine.specs.Runs.{opened}
use Rattle.ceal_engine.specs.declared.phase.Phase.TheVariants.{Dropped}
use Rattle.ceal_engine.specs.declared.run.Run.{Run}
use Rattle.ceal_engine.specs.declared.run.Run.TheVariants as its
use Rattle.ceal_engine.specs.declared.run.Stage.{Stage}
use Rattle.ceal_engine.specs.declared.run.Stage.TheVariants as stage
use Rattle.ceal_engine.specs.declared.run_error.RunError.{RunError}
use Rattle.ceal_engine.specs.declared.run_error.RunError.TheVariants.{Memory, OutOfFuel}
use Rattle.ceal_repair.specs.Propagation.{KeepsFront as KeepsNodes}
use Rattle.ceal_repair.specs.Slicing.{IsPartRun, IsSliceOf}
use Rattle.ceal_repair.specs.declared.running.Running.{Running}
use Rattle.ceal_theory.proofs.SlicedRepair.SliceLaws.{other-names-law, slices-law, turns-law}
use Rattle.ceal_theory.specs.Carried.{numbered_from_zero}
use Rattle.ceal_theory.specs.SliceLaws.{Turned, Turns}
use Rattle.ceal_theory.specs.Slices.{Repair, sliced, goes_on, repair_at}
use Rattle.ceal_trace.specs.Items.{forest_of}
use Rattle.ceal_trace.specs.Nodes.{Timeline}

-- ---- a slice of a repair that is done is there

module _ (code : Code) (inputs : List Block) (f : ℕ) (args : List Word) (fuel : ℕ) (q : Repair) (run : Running) (part : IsPartRun code inputs f args fuel q run)
    (honest : IsHonest code inputs q.items) where
  few : q.spent ≤ fuel
  few = omega (arith, part.few, part.stands.spent)

  module _ (names : ℕ → ℕ) (turned : Turned code names inputs 0 (numbered_from_zero q) (numbered_from_zero q)) where
    abbrev pub left : Repair
    left = repair_at (goes_on code inputs (numbered_from_zero q)) q.items

    pub there : (k : Option ℕ) → k ≢ Some 0 → sliced code names inputs k fuel (numbered_from_zero q) ≡ Some left
    there None some = (slices-law code names inputs None fuel (numbered_from_zero q) left).1 (turned.whole honest, few)
    there (Some zero) some = absurd (some refl)
    there (Some (suc n)) some = (slices-law code names inputs (Some (suc n)) fuel (numbered_from_zero q) left).1 (turned.ended honest (suc n) (omega arith), few)

  pub done-within : (k : Option ℕ) → k ≢ Some 0 → IsSliceOf code inputs k fuel q None → ⊥
  done-within k some s =
      let sound = other-names-law code part.stands.names s.names inputs f args q part.stands.sound s.single 0 (λ j h. s.off j) in
      let turned = turns-law code s.names inputs f args part.fits (numbered_from_zero q) sound 0 (numbered_from_zero q) Turns.none in
      none-some _ (sym s.is ∙ there s.names turned k some)

-- ---- the run with which a repair is in progress

module _ (code : Code) (fuel : ℕ) (inputs : List Block) (before : Run) (call : Option Call) (keeps : Keeps code fuel inputs before call) where
  -- it is a part of one that is done
  pub part-honest : (run : Running) → opened before ≡ Some run → (l : Trace) → stands_for (forest_in (running_in before)) ≡ Some l → IsHonest code inputs l
      → (f : ℕ) × (args : List Word) × (r : Repair) × IsPartRun code inputs f args fuel r run × IsHonest code inputs r.items
  part-honest run is l e honest = go call before is e (open-run code fuel inputs before call keeps run is)
    where
      go : (c : Option Call) (b : Run) → opened b ≡ Some run → stands_for (forest_in (running_in b)) ≡ Some l → IsOpenRun code fuel inputs c run
          → (f : ℕ) × (args : List Word) × (r : Repair) × IsPartRun code inputs f args fuel r run × IsHonest code inputs r.items
      go None b is e k = elim k [ ]
      go (Some c) its.New is e k = none-some run is
      go (Some c) (its.Kept b g) is e k =
          let same = same-as g b run is in
          let items : k.repair.items ≡ l = some-same k.repair.items l (sym (part-trace code fuel inputs c run k) ∙ (ap (λ (t : Timeline). trace_of (forest_of t.nodes)) same.trace ∙ e)) in
          (c.function, c.args, k.repair, k.of, subst (IsHonest code inputs) (sym items) honest)
      go (Some c) its.Dropped is e k = none-some run is

  -- and the run from scratch ends
  pub honest-ends : IsWhole (phase_of before) → (l : Trace) → stands_for (forest_in (running_in before)) ≡ Some l → IsHonest code inputs l → fresh_call code inputs fuel call ≡ None → ⊥
  honest-ends = by-run code fuel inputs
      (λ r c. IsWhole (phase_of r) → (l : Trace) → stands_for (forest_in (running_in r)) ≡ Some l → IsHonest code inputs l → fresh_call code inputs fuel c ≡ None → ⊥)
      (λ w l e. none-some l e) (λ c w l e. none-some l e)
      (λ c r s k w l e honest out.
      let same : l ≡ k.trace = some-same l k.trace (sym e ∙ trace-kept code fuel inputs c r k.trace k.of) in
      no-end code inputs c.function c.args k.of.fits fuel k.trace k.of.replays k.of.few (subst (IsHonest code inputs) same honest) out)
      (λ c r k w. absurd (grind (arith, w)))
      before call keeps

-- ---- the nodes at the beginning

-- nodes that a slice keeps at the beginning are kept of the engine's
pub front-kept : (code : Code) (fuel : ℕ) (inputs : List Block) (call : Option Call) (before : Run) (run run' : Running) (after : Stage) → opened before ≡ Some run
    → KeepsNodes code inputs run.tables.trace.nodes run'.tables.trace.nodes
    → KeepsFront (state_of code fuel inputs call before) (state_of code fuel inputs call (its.Kept run' after))
front-kept code fuel inputs call its.New run run' after is h = none-some run is
front-kept code fuel inputs call (its.Kept before g) run run' after is h = λ front back e agrees. h front back (ap (λ (t : Timeline). t.nodes) (same-as g before run is).trace ∙ e) agrees
front-kept code fuel inputs call its.Dropped run run' after is h = none-some run is

-- where the run was given up there is none
no-running : (run : Run) → phase_of run ≡ Dropped → running_in run ≡ None
no-running its.New e = refl
no-running (its.Kept run stage.Finished) e = absurd (grind (arith, e))
no-running (its.Kept run stage.Pending) e = absurd (grind (arith, e))
no-running (its.Kept run stage.Partial) e = absurd (grind (arith, e))
no-running its.Dropped e = refl

-- so no repair is carried
pub none-carried : (code : Code) (fuel : ℕ) (inputs : List Block) (call : Option Call) (run : Run) → phase_of run ≡ Dropped → (next : ℕ) (r : Repair)
    → CarriesRepair (state_of code fuel inputs call run) next r → ⊥
none-carried code fuel inputs call run e next r c = none-some c.items (sym (ap (λ o. stands_for (forest_in o)) (no-running run e)) ∙ c.is)

-- after an error the type of an answer does not matter
pub on-error : {A B : Type 0} (e n : EngineState) (error : RunError) → Advances {A = A} e n (Err error) → Advances {A = B} e n (Err error)
on-error e n Memory a = record {
  code = a.code;
  fuel = a.fuel;
  inputs = a.inputs;
  call = a.call;
  sure_where_honest = λ w l t h. absurd (let no : false ≡ true = a.sure_where_honest w l t h in cc);
  sure_in_part = a.sure_in_part;
  out_of_fuel = tt;
  dropped = a.dropped;
}
on-error e n OutOfFuel a = record {
  code = a.code;
  fuel = a.fuel;
  inputs = a.inputs;
  call = a.call;
  sure_where_honest = λ w l t h. absurd (let no : false ≡ true = a.sure_where_honest w l t h in cc);
  sure_in_part = λ l t h. tt;
  out_of_fuel = a.out_of_fuel;
  dropped = a.dropped;
}
