-- An engine whose repair is under way, and what a slice makes of it.
use Rattle.std.specs.Prelude.{◌≡◌, ◌⊎◌, ◌<◌, ◌≤◌, ℕ, ◌+◌, true, false, Option, Some, None, List, ⊤}
use Rattle.std.specs.Option.{IsSomeAnd}
use Rattle.ceal_base.specs.Block.{Block}
use Rattle.ceal_base.specs.Trace.{Trace}
use Rattle.ceal_base.specs.declared.call.Call.{Call}
use Rattle.ceal_base.specs.declared.word.BlockId.TheVariants.{Core}
use Rattle.ceal_code.specs.Alike.{Pairs, Tied, TraceAlike, OneToOne}
use Rattle.ceal_code.specs.Program.{Code}
use Rattle.ceal_code.specs.Value.{Plain}
use Rattle.ceal_engine.specs.Engine.{EngineState, IsEngine, IsWhole, trace}
use Rattle.ceal_engine.specs.declared.phase.Came.{Came}
use Rattle.ceal_engine.specs.declared.phase.Came.TheVariants as came
use Rattle.ceal_engine.specs.declared.phase.Phase.{Phase}
use Rattle.ceal_engine.specs.declared.phase.Phase.TheVariants.{New, Finished, Pending, Partial, Dropped}
use Rattle.ceal_engine.specs.declared.phase.Progress.{Progress}
use Rattle.ceal_engine.specs.declared.phase.Progress.TheVariants.{More, Done}
use Rattle.ceal_heap.specs.Heap.{Contents, plain_of}
use Rattle.ceal_theory.specs.Adjust.{Above, Extended}
use Rattle.ceal_theory.specs.Carried.{Carried}
use Rattle.ceal_theory.specs.Progress.{unrepaired}
use Rattle.ceal_theory.specs.Repair.{own}
use Rattle.ceal_theory.specs.Slices.{Repair, beginning, sliced, is_done, RepairHolds}

-- a run that was made again is up to date, too
abbrev pub progress_of : Came → Progress
progress_of came.More = More
progress_of came.Done = Done
progress_of came.Anew = Done

-- how many steps were spent on the repair that is under way; a new one begins with none
abbrev pub spent_in : Phase → ℕ → ℕ
spent_in New work = 0
spent_in Finished work = 0
spent_in Pending work = 0
spent_in Partial work = work
spent_in Dropped work = 0

-- the plain words of core blocks, live or revoked
abbrev pub words_in : Option Contents → Plain
words_in None b = None
words_in (Some heap) b = plain_of heap b

-- the repair that a slice of an engine with this trace continues
abbrev pub carried_by : EngineState → Trace → Repair
carried_by e l = record { items = l; known = words_in e.heap; number = 0; spent = spent_in e.phase e.work }

-- It is the engine's repair, but that its new blocks are numbered in their order, from `next` on.
pub record CarriesRepair (e : EngineState) (next : ℕ) (r : Repair) : Type 0 where
  pub call : Call
  pub called : e.call ≡ Some call
  pub items : Trace
  pub is : trace e ≡ Some items
  pub sound : RepairHolds e.code own e.inputs call.function call.args r
  pub carried : Carried e.code e.inputs next r (carried_by e items)

-- a repair of the call is under way, and no more steps were spent on it than the fuel
pub record IsUnderWay (e : EngineState) : Type 0 where
  pub next : ℕ
  pub repair : Repair
  pub carries : CarriesRepair e next repair
  pub few : e.work ≤ e.fuel

-- The items are those of the repair with core blocks renamed one to one. Those below `next` keep their numbers, and a
-- block that the repair did not know before has a number that no block had, live or revoked.
pub record RenamedFrom (e : EngineState) (next : ℕ) (r : Repair) (l m : Trace) : Type 0 where
  pub pairs : Pairs
  pub one : OneToOne pairs
  pub alike : TraceAlike pairs l m
  pub kept : (b c : ℕ) → Tied b c pairs → b < next → b ≡ c
  pub apart : (b c : ℕ) → Tied b c pairs → r.known (Core b) ≡ None → words_in e.heap (Core c) ≡ None

-- A slice of the repair is there, and is not done; its items are the engine's trace, and the engine continues with it.
pub record SliceContinues (e n : EngineState) (k : Option ℕ) (next : ℕ) (r : Repair) : Type 0 where
  pub repair : Repair
  pub is : sliced e.code own e.inputs k e.fuel r ≡ Some repair
  pub more : is_done e.code e.inputs repair ≡ false
  pub items : IsSomeAnd (trace n) (RenamedFrom e next r repair.items)
  pub carries : CarriesRepair n next repair

-- A slice of the repair is there, and is done; its items are the engine's trace, and what was spent on it is the work.
pub record SliceEnds (e n : EngineState) (k : Option ℕ) (next : ℕ) (r : Repair) : Type 0 where
  pub repair : Repair
  pub is : sliced e.code own e.inputs k e.fuel r ≡ Some repair
  pub done : is_done e.code e.inputs repair ≡ true
  pub items : IsSomeAnd (trace n) (RenamedFrom e next r repair.items)
  pub work : n.work ≡ repair.spent

-- how many reads of a trace there are from the first stale one on
abbrev pub unrepaired_of : Code → List Block → Option Trace → ℕ
unrepaired_of code inputs None = 0
unrepaired_of code inputs (Some l) = unrepaired code inputs l

abbrev pub unrepaired_in : EngineState → ℕ
unrepaired_in e = unrepaired_of e.code e.inputs (trace e)

-- from the first stale one on there are fewer reads than before, by that number at least
abbrev pub LeavesFewer : EngineState → EngineState → Option ℕ → Type 0
LeavesFewer e n None = ⊤
LeavesFewer e n (Some k) = unrepaired_in n + k ≤ unrepaired_in e

-- no slice is there within the fuel, or it is done
abbrev pub IsOut : EngineState → Option ℕ → Repair → Type 0
IsOut e k r =
    (sliced e.code own e.inputs k e.fuel r ≡ None)
    ⊎ ((r' : Repair) × (sliced e.code own e.inputs k e.fuel r ≡ Some r') × (is_done e.code e.inputs r' ≡ true))

-- each block that could be read can be read still, and has the same words
abbrev pub KeepsWords : Option Contents → Option Contents → Type 0
KeepsWords before after =
    (b : ℕ) (block : Block) → words_in before (Core b) ≡ Some block → words_in after (Core b) ≡ Some block

-- The engine has the call, the trace, the blocks and the number of steps spent that it had, on inputs that
-- extend its own.
pub record SameRepair (e n : EngineState) : Type 0 where
  pub code : n.code ≡ e.code
  pub call : n.call ≡ e.call
  pub forest : n.forest ≡ e.forest
  pub heap : n.heap ≡ e.heap
  pub spent : spent_in n.phase n.work ≡ spent_in e.phase e.work
  pub inputs : Extended e.code e.inputs n.inputs

-- an engine with a run carries the repair that begins from its trace
abbrev pub BeginsLaw : Type 0
BeginsLaw =
    (e : EngineState) → IsEngine e → IsWhole e.phase → (l : Trace) → trace e ≡ Some l → (next : ℕ) → Above next l
    → CarriesRepair e next (beginning e.code e.inputs l next)

-- after an edit, and with one input more, it carries the repair that it carried
abbrev pub KeptLaw : Type 0
KeptLaw =
    (e n : EngineState) → IsEngine e → IsEngine n → SameRepair e n → (next : ℕ) (r : Repair)
    → CarriesRepair e next r → CarriesRepair n next r
