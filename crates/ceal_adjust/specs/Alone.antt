-- The unit of a stale read that runs by itself, as the code keeps it.
use Rattle.std.specs.Prelude.{◌≡◌, ◌<◌, ◌≤◌, ℕ, None, List}
use Rattle.ceal_base.specs.Block.{Block}
use Rattle.ceal_base.specs.Trace.{flat}
use Rattle.ceal_base.specs.declared.word.BlockId.TheVariants.{Core}
use Rattle.ceal_code.specs.Program.{Code}
use Rattle.ceal_code.specs.Tables.{code_in, plain_in, store_in}
use Rattle.ceal_code.specs.declared.trace_memory.TraceMemory.{TraceMemory}
use Rattle.ceal_adjust.specs.Answers.{HasEnded}
use Rattle.ceal_adjust.specs.KnownBlocks.{nothing, knowing}
use Rattle.ceal_adjust.specs.Slicing.{IsStale}
use Rattle.ceal_adjust.specs.declared.complete.Limit.TheVariants.{Work}
use Rattle.ceal_adjust.specs.declared.slices.Repair.{Repair as RepairInCode}
use Rattle.ceal_adjust.specs.declared.stale.Stale.{Stale}
use Rattle.ceal_adjust.specs.declared.turn.Ran.{Ran}
use Rattle.ceal_theory.specs.Levels.{first, levels}
use Rattle.ceal_theory.specs.Repair.{State, resumed}
use Rattle.ceal_theory.specs.Slices.{Repair, with_inputs, starting}
use Rattle.ceal_theory.specs.Moves.{Machine, Running, Bottom}
use Rattle.ceal_theory.specs.Walk.{store_after}

-- the state in which the unit begins
abbrev pub state_of : TraceMemory → RepairInCode → State
state_of m q = record { store = store_in m; plain = plain_in m; number = q.next; work = q.spent }

-- the unit of the read on the content of its place, with what is inside the read left over
abbrev pub alone : Code → State → Stale → Machine
alone code s x = record {
  state = s;
  mode = Running (resumed code x.closure.unit x.closure.var x.closure.args x.content) (first (levels x.after.now));
  frames = Bottom;
}

-- the machine that began has ended with these items, within the fuel, and this is known then
pub record IsRan (code : Code) (fuel : ℕ) (start : Machine) (x : Ran) : Type 0 where
  pub ended : HasEnded code (Work fuel) start x.inside.items
  pub number : ended.machine.state.number ≡ x.next
  pub work : ended.machine.state.work ≡ x.spent
  pub below : (b : ℕ) → b < x.next → knowing nothing x.known (Core b) ≡ ended.machine.state.plain (Core b)
  pub others : (b : ℕ) → x.next ≤ b → knowing nothing x.known (Core b) ≡ None

-- the memory is that of a repair in front of its first stale read
pub record IsAt (code : Code) (inputs : List Block) (r : Repair) (m : TraceMemory) (x : Stale) : Type 0 where
  pub same : code_in m ≡ code
  pub plain : plain_in m ≡ with_inputs code inputs r.known
  pub store : store_in m ≡ store_after code (starting code inputs r.known) x.front.now
  pub stale : IsStale code (starting code inputs r.known) (flat r.items) x
