-- The code of a graph runs as the graph does.
use Rattle.std.proofs.Common.{◌≡◌, inl, inr, ℕ, zero, suc, ◌+◌, List, [], ◌∷◌, slice_get, map, refl, sym, ap, ◌∙◌, subst}
use Rattle.ceal_base.specs.Block.{Blocks, block_at}
use Rattle.ceal_base.specs.Usage.{KeepsUsage, IsCore}
use Rattle.ceal_base.specs.WellTyped.{WellTyped}
use Rattle.ceal_base.specs.declared.typed.Typed.{Typed}
use Rattle.ceal_base.specs.declared.word.Word.{Word}
use Rattle.ceal_code.specs.Fresh.{ran, only_over, run as code_run, fresh as code_fresh}
use Rattle.ceal_code.specs.Program.{Code}
use Rattle.ceal_code.specs.Step.{Stack, Empty, Over, act, acted, chosen, command_at, entry_of, started, unit_at, next as code_next, stack_after_quiet}
use Rattle.ceal_flow.specs.Fresh.{Point, points_at_entry, point_in, points_to_run, state_after_block, run_settled}
use Rattle.ceal_flow.specs.Live.{AreLiveSets}
use Rattle.ceal_flow.specs.Lowering.{first_of, graph_of}
use Rattle.ceal_flow.specs.Program.{Graph}
use Rattle.ceal_flow.specs.Sets.{set_at}
use Rattle.ceal_mean.specs.Value.{variable_of}
use Rattle.ceal_norm.specs.Laws.{IsClosed, IsForward, RunsAs, RunLaw, source_of}
use Rattle.ceal_norm.specs.Units.{code_of}
use Rattle.ceal_norm.proofs.Jumps.JumpsLeadToBlocks.{graph-closed}
use Rattle.ceal_norm.proofs.Jumps.ForwardJumps.{graph-forward}
use Rattle.ceal_norm.proofs.Runs.SameFrames.{AllAlong, Running, settle, params-are, spot-there, first-spot, first-is_entry, entry-unit, called_point, call-along}
use Rattle.ceal_norm.proofs.Runs.SameSteps.{core-function, step-along}
use Rattle.ceal_norm.proofs.Runs.WordsOfVariables.{chosen-map}

module _ (p : Typed) (sets : List (List ℕ)) (typed : WellTyped p) (kept : KeepsUsage p) (live : AreLiveSets (graph_of p).blocks sets)
    (closed : IsClosed (graph_of p)) (forward : IsForward (graph_of p)) where
  abbrev graph : Graph
  graph = graph_of p

  abbrev the_code : Code
  the_code = code_of (source_of p sets)

  next-over : (m : Blocks) (st : Stack) → stack_after_quiet the_code (block_at m) st ≡ Empty → code_next the_code (block_at m) st ≡ Over
  unfolding code_next
  next-over m st e = ap (acted the_code (block_at m)) e

  next-runs : (m : Blocks) (qs : List Point) (st : Stack) (r : Running p sets closed forward (block_at m) qs st)
      → code_next the_code (block_at m) st ≡ act the_code (block_at m) (command_at the_code r.unit r.index) r.unit r.index r.env r.below
  unfolding code_next
  next-runs m qs st r = ap (acted the_code (block_at m)) r.stack_is

  pub run-same : (fuel steps : ℕ) (m : Blocks) (qs : List Point) (st : Stack) → AllAlong p sets qs st
      → code_run the_code fuel steps m st ≡ run_settled graph fuel steps m (points_to_run graph qs)
  unfolding code_run run_settled
  run-same zero steps m qs st h = elim (settle p sets closed forward (block_at m) qs st h) [
    | inl n ↦ rw (next-over m st n.1, n.0) refl
    | inr r ↦
        let a = step-along p sets typed kept live closed forward m r.point r.points r.unit r.index r.env r.below r.along r.others r.runs in
        ap (only_over steps m) (next-runs m qs st r) ∙ a.steps steps ∙ sym (ap (run_settled graph zero steps m) r.points_are)
  ]
  run-same (suc fuel) steps m qs st h = elim (settle p sets closed forward (block_at m) qs st h) [
    | inl n ↦ rw (next-over m st n.1, n.0) refl
    | inr r ↦
        let a = step-along p sets typed kept live closed forward m r.point r.points r.unit r.index r.env r.below r.along r.others r.runs in
        let t = state_after_block graph m r.point.env r.points (slice_get graph.blocks r.point.block) in
        ap (ran the_code (code_run the_code fuel (steps + 1)) steps m) (next-runs m qs st r)
        ∙ a.goes_on (code_run the_code fuel (steps + 1)) steps
        ∙ run-same fuel (steps + 1) t.memory t.points a.after a.along
        ∙ sym (ap (run_settled graph (suc fuel) steps m) r.points_are)
  ]

  start-along : (f : ℕ) (args : List Word) → IsCore (slice_get p.functions f) → AllAlong p sets (points_at_entry graph f args) (started the_code f args)
  start-along f args core =
      let fn = core-function p sets typed kept live closed forward f core in
      let first = first_of fn.f.body fn.home.start in
      let unit = entry-unit p sets f fn in
      let there = spot-there p sets first (first-spot p sets f fn) in
      let called : points_at_entry graph f args ≡ called_point p sets f fn args ∷ [] = ap (λ o. point_in o args) fn.home.function in
      let words = chosen (unit_at the_code (entry_of the_code f)).params args in
      let are : words ≡ map (λ v. variable_of args v) (set_at sets first) =
      ap (λ u. chosen (unit_at the_code u).params args) unit ∙ ap (λ ps. chosen ps args) (params-are p sets first (first-is_entry p sets f fn) there)
      ∙ chosen-map (set_at sets first) args in
      subst (λ qs. AllAlong p sets qs (started the_code f args)) (sym called) (inl (call-along p sets f fn args words are), tt)

  pub runs-as : RunsAs the_code p
  unfolding code_fresh
  runs-as f args inputs fuel core =
      run-same fuel 0 (record { inputs = inputs; made = [] }) (points_at_entry graph f args) (started the_code f args) (start-along f args core)

pub run-law : RunLaw
run-law p sets typed kept live = runs-as p sets typed kept live (graph-closed p) (graph-forward p)
