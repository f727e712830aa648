-- The results of slices of a repair in progress.
use Rattle.std.specs.Prelude.{◌≡◌, ◌≤◌, ◌+◌, ◌*◌, ℕ, Option, Some, None, List}
use Rattle.ceal_base.specs.Block.{Block}
use Rattle.ceal_base.specs.declared.word.BlockId.TheVariants.{Core}
use Rattle.ceal_base.specs.declared.word.Word.{Word}
use Rattle.ceal_code.specs.Fitting.{Fits}
use Rattle.ceal_code.specs.Fresh.{fresh}
use Rattle.ceal_code.specs.Program.{Code}
use Rattle.ceal_code.specs.Replay.{IsHonest}
use Rattle.ceal_heap.specs.Heap.{next}
use Rattle.ceal_repair.specs.Answers.{IsRunOf}
use Rattle.ceal_repair.specs.Blocks.{HasFew}
use Rattle.ceal_repair.specs.Turning.{StandsFor}
use Rattle.ceal_repair.specs.declared.advance.Progress.{Progress}
use Rattle.ceal_repair.specs.declared.advance.Progress.TheVariants.{More, Done, Spent, OutOfFuel}
use Rattle.ceal_repair.specs.declared.running.Running.{Running}
use Rattle.ceal_theory.specs.Carried.{numbered_from_zero}
use Rattle.ceal_theory.specs.Repair.{Single}
use Rattle.ceal_theory.specs.Slices.{Repair, sliced}

-- The nodes, the queue and the heap of a run stand for a repair of the call that is in progress, with no more steps
-- spent than the fuel. Revoked blocks can be read: with the live ones they are no more than the fuel and the steps
-- spent together, and at most twice as many numbers as the fuel were given out.
pub record IsPartRun (code : Code) (inputs : List Block) (f : ℕ) (args : List Word) (fuel : ℕ)
    (r : Repair) (run : Running) : Type 0 where
  pub fits : Fits code inputs f args
  pub stands : StandsFor code inputs f args r run
  pub few : run.spent ≤ fuel
  pub blocks : HasFew (fuel + run.spent) run.heap
  pub numbers : next run.heap ≤ 2 * fuel

-- It is a slice of the repair, with some names for new blocks, none of them that of a known one.
pub record IsSliceOf (code : Code) (inputs : List Block) (reads : Option ℕ) (fuel : ℕ)
    (r : Repair) (o : Option Repair) : Type 0 where
  pub names : ℕ → ℕ
  pub single : Single names
  pub off : (k : ℕ) → r.known (Core (names k)) ≡ None
  pub is : sliced code names inputs reads fuel (numbered_from_zero r) ≡ o

-- how far a slice has come, and what the run is then
abbrev pub IsSliced : Code → List Block → ℕ → List Word → Option ℕ → ℕ → Repair → Running → Progress → Type 0
IsSliced code inputs f args reads fuel r run More =
    (r' : Repair) × IsSliceOf code inputs reads fuel r (Some r')
    × (¬ IsHonest code inputs r'.items) × IsPartRun code inputs f args fuel r' run
IsSliced code inputs f args reads fuel r run Done =
    (r' : Repair) × IsSliceOf code inputs reads fuel r (Some r')
    × IsRunOf code inputs f args fuel r'.items run × (run.spent ≡ r'.spent)
IsSliced code inputs f args reads fuel r run Spent = IsSliceOf code inputs reads fuel r None
IsSliced code inputs f args reads fuel r run OutOfFuel =
    (r' : Repair) × IsSliceOf code inputs reads fuel r (Some r')
    × IsHonest code inputs r'.items × (fresh code f args inputs fuel ≡ None)
