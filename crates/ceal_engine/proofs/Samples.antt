-- An engine that has run INC: unit 0 reads its first parameter, and unit 1 writes one more than the value to the
-- second.
use Rattle.std.proofs.Common.{◌≡◌, ℕ, zero, suc, pos, true, false, Some, None, [], ◌∷◌, refl, arith, rules, IsSome}
use Rattle.std.specs.List.{IsDistinct}
use Rattle.ceal_base.specs.Trace.{flat}
use Rattle.ceal_base.specs.declared.kind.Shape.TheVariants.{ModInt}
use Rattle.ceal_base.specs.declared.word.BlockId.TheVariants.{Input, Core}
use Rattle.ceal_base.specs.declared.word.Word.TheVariants.{Num, Null}
use Rattle.ceal_code.specs.declared.expr.CodeExpr.TheBlock.{hidden-the_row-CodeExpr-0, shape-the_row-CodeExpr-0}
use Rattle.ceal_base.specs.Finished.{Finished}
use Rattle.ceal_code.proofs.Replay.Increment.{inc, place, inputs, args, items}
use Rattle.ceal_code.specs.After.{memory_after}
use Rattle.ceal_code.specs.Fresh.{fresh, run}
use Rattle.ceal_code.specs.Replay.{bases, input_plain, plain_of, stored, block_after}
use Rattle.ceal_code.specs.Step.{stack_after_quiet, next, chosen, bound, woven}
use Rattle.ceal_code.specs.Value.{expr_value, values, set, unset}
use Rattle.ceal_engine.specs.Engine.{EngineState, trace, core, IsRun, IsPresent, takes, with_base, phase_after_edit}
use Rattle.ceal_engine.specs.Repaired.{first_trace}
use Rattle.ceal_engine.specs.declared.phase.Phase.{Phase}
use Rattle.ceal_engine.specs.declared.phase.Phase.TheVariants.{Finished as IsFinished, Pending}
use Rattle.ceal_theory.specs.Computed.{rerun, adjusted, first_of}
use Rattle.ceal_theory.specs.Take.{take_read}

-- it has run INC where a was 4, and allocated nothing
abbrev engine : Phase → ℕ → EngineState
engine phase a = record {
  code = inc;
  fuel = 2;
  inputs = inputs a 0;
  call = Some (record { function = 0; args = args });
  phase = phase;
  forest = Some (flat (items 4 5));
  timeline = None;
  heap = None;
  memory = record { inputs = inputs 4 5; cores = [] };
  steps = 2;
  live = 0;
  work = 2;
  looked = 1;
  differed = 0;
  queued = 0;
  writes = 1;
  marked = None;
}

its_trace : trace (engine IsFinished 4) ≡ Some (items 4 5)
its_trace = refl

-- b holds a + 1 then, and a what it held
b_after : memory_after inc (inputs 4 0) (items 4 5) (Input 1) ≡ Some (record { shape = ModInt; words = Num (pos 5) ∷ [] })
unfolding input_plain plain_of bases stored block_after
b_after = refl

a_after : memory_after inc (inputs 4 0) (items 4 5) (Input 0) ≡ Some (record { shape = ModInt; words = Num (pos 4) ∷ [] })
unfolding input_plain plain_of bases stored block_after
a_after = refl

first : first_trace (engine IsFinished 4) ≡ Some (record { items = items 4 5; work = 2 })
unfolding first_of rerun next stack_after_quiet chosen bound woven set unset expr_value values bases input_plain stored take_read hidden-the_row-CodeExpr-0 shape-the_row-CodeExpr-0
    denote.Hole.Carrier.hidden
first = refl

-- it is the run from scratch
abbrev finished : Finished
finished = record { memory = record { inputs = inputs 4 5; made = [] }; steps = 2; blocks = 0 }

no_core : (n : ℕ) → IsSome (core (engine IsFinished 4).memory n) → ⊥
no_core zero some = absurd (cc)
no_core (suc n) some = absurd (cc)

its_run : IsRun (engine IsFinished 4) finished
unfolding IsDistinct
its_run = record {
  numbers = [];
  same = record { distinct = search rules; each_input = refl; count = refl; each_core = λ i less. absurd (omega (arith, less)) };
  only = λ n some. absurd (no_core n some);
  steps = refl;
  live = refl;
  fits = refl;
}

is_present : IsPresent (engine IsFinished 4)
unfolding fresh run next stack_after_quiet chosen bound woven set unset expr_value values hidden-the_row-CodeExpr-0 shape-the_row-CodeExpr-0 denote.Hole.Carrier.hidden
is_present = record { run = finished; fresh = refl; is = its_run }

-- an edit: a takes a number and not null, and a core block takes nothing
takes_nine : takes (engine IsFinished 4) (place 0) (Num (pos 9)) ≡ true
takes_nine = refl

not_null : takes (engine IsFinished 4) (place 0) Null ≡ false
not_null = refl

no_core_block : takes (engine IsFinished 4) (record { block = Core 0; field = 0 }) (Num (pos 9)) ≡ false
no_core_block = refl

with_nine : with_base (inputs 4 0) (place 0) (Num (pos 9)) ≡ inputs 9 0
with_nine = refl

is_pending : phase_after_edit IsFinished ≡ Pending
is_pending = refl

-- the trace after a propagation: one step is re-executed
repaired : adjusted inc (engine Pending 9).inputs 0 2 (items 4 5) ≡ Some (record { items = items 9 10; work = 1 })
unfolding adjusted rerun next stack_after_quiet chosen bound woven set unset expr_value values bases input_plain plain_of stored hidden-the_row-CodeExpr-0 shape-the_row-CodeExpr-0
    denote.Hole.Carrier.hidden
repaired = refl
