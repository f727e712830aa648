-- Change propagation under way.
use Rattle.std.specs.Prelude.{◌≡◌, ◌<◌, ◌≤◌, ⊤, Option, Bool, true, false, ℕ, Some, None, List, [], ◌++◌}
use Rattle.ceal_base.specs.Block.{Block}
use Rattle.ceal_base.specs.Trace.{flat, steps_in}
use Rattle.ceal_base.specs.declared.word.Word.{Word}
use Rattle.ceal_code.specs.Program.{Code}
use Rattle.ceal_code.specs.Replay.{IsHonest, bases}
use Rattle.ceal_heap.specs.Heap.{HasSlots, ReleasesRevoked}
use Rattle.ceal_repair.specs.Departs.{DepartsUpTo}
use Rattle.ceal_repair.specs.Moment.{Start}
use Rattle.ceal_repair.specs.Turning.{Since, later, NamesOff, IsOrigin, TurnedSoFar, TurnBegan, TurnEnded}
use Rattle.ceal_repair.specs.declared.advance.Progress.{Progress}
use Rattle.ceal_repair.specs.declared.advance.Progress.TheVariants.{More, Done, Spent, OutOfFuel}
use Rattle.ceal_repair.specs.declared.running.Running.{Running}
use Rattle.ceal_theory.specs.Repair.{Single}
use Rattle.ceal_theory.specs.Slices.{sliced}
use Rattle.ceal_theory.specs.Walk.{AgreesAll}
use Rattle.ceal_trace.specs.Items.{forest_of}
use Rattle.ceal_trace.specs.Nodes.{Entry}

-- nodes that agree with the walk over the inputs stay as they are, in front of all others
abbrev pub KeepsFront : Code → List Block → List Entry → List Entry → Type 0
KeepsFront code inputs old new = (front back : List Entry) → old ≡ front ++ back
    → AgreesAll code (bases code inputs) (forest_of front)
    → (later : List Entry) × (new ≡ front ++ later)

-- A run has come by turns from a run before it, whose nodes had the items of the repair that the turns began from.
-- What agreed at the beginning is as it was.
pub record HasCome (code : Code) (inputs : List Block) (f : ℕ) (args : List Word)
    (o : Since) (before run : Running) : Type 0 where
  pub called : IsOrigin code inputs f args o
  pub items : forest_of before.tables.trace.nodes ≡ flat o.repair.items
  pub so_far : TurnedSoFar code inputs f args o run
  pub front : KeepsFront code inputs before.tables.trace.nodes run.tables.trace.nodes
  pub departs : DepartsUpTo before.tables.trace.nodes run.tables
  pub unchanged : IsHonest code inputs o.repair.items
      → (run.tables.trace ≡ before.tables.trace) × (run.spent ≡ o.repair.spent)

-- and no read is stale any more, and none is queued
pub record IsUpToDate (code : Code) (inputs : List Block) (f : ℕ) (args : List Word)
    (o : Since) (before run : Running) : Type 0 where
  pub come : HasCome code inputs f args o before run
  pub honest : IsHonest code inputs come.so_far.repair.items
  pub idle : run.tables.stale.stamps ≡ []

-- More steps were spent in the next turn than the fuel allows: no slice of more reads than there were turns, and none
-- without a number of reads, ends within the fuel.
pub record IsSpent (code : Code) (inputs : List Block) (fuel : ℕ) (o : Since) : Type 0 where
  pub names : ℕ → ℕ
  pub single : Single names
  pub off : NamesOff names o.first
  pub whole : sliced code names inputs None fuel o.repair ≡ None
  pub part : (k : ℕ) → o.turns < k → sliced code names inputs (Some k) fuel o.repair ≡ None

-- n turns are fewer than were asked for, or at most as many; where no number was given both are so
abbrev pub IsLess : ℕ → Option ℕ → Type 0
IsLess n None = ⊤
IsLess n (Some k) = n < k

abbrev pub IsWithin : ℕ → Option ℕ → Type 0
IsWithin n None = ⊤
IsWithin n (Some k) = n ≤ k

-- as many turns were made as were asked for, and a read is still stale
pub record IsUnderWay (code : Code) (inputs : List Block) (f : ℕ) (args : List Word)
    (o : Since) (before run : Running) : Type 0 where
  pub come : HasCome code inputs f args o before run
  pub stale : ¬ IsHonest code inputs come.so_far.repair.items

-- all steps of the nodes of a run
abbrev pub steps_of_run : Running → ℕ
steps_of_run run = steps_in (forest_of run.tables.trace.nodes)

-- A run that is up to date has no more steps than the fuel, and its revoked blocks were released.
pub record IsReleased (fuel : ℕ) (old new : Running) : Type 0 where
  pub tables : new.tables ≡ old.tables
  pub spent : new.spent ≡ old.spent
  pub few : steps_of_run old ≤ fuel
  pub released : ReleasesRevoked old.heap new.heap
  pub slots : HasSlots new.heap

-- how a run that is up to date ends: it may have more steps than the fuel
abbrev pub Concludes : Progress → ℕ → Running → Running → Type 0
Concludes More fuel old new = ⊥
Concludes Done fuel old new = IsReleased fuel old new
Concludes Spent fuel old new = ⊥
Concludes OutOfFuel fuel old new = (new ≡ old) × (fuel < steps_of_run old)

-- after some turns more a run is up to date, or under way, or too many steps were spent
abbrev pub Propagated :
    Progress → Code → List Block → ℕ → List Word → Option ℕ → ℕ → Since → Running → Running → Type 0
Propagated More code inputs f args reads fuel o before run =
    (n : ℕ) × (reads ≡ Some n) × IsUnderWay code inputs f args (later n o) before run
Propagated Done code inputs f args reads fuel o before run =
    (n : ℕ) × IsWithin n reads × (last : Running) × IsUpToDate code inputs f args (later n o) before last
    × IsReleased fuel last run
Propagated Spent code inputs f args reads fuel o before run =
    (n : ℕ) × IsLess n reads × IsSpent code inputs fuel (later n o)
Propagated OutOfFuel code inputs f args reads fuel o before run =
    (n : ℕ) × IsWithin n reads × IsUpToDate code inputs f args (later n o) before run × (fuel < steps_of_run run)

-- one turn from a run to the next
pub record TurnMade (code : Code) (inputs : List Block) (f : ℕ) (args : List Word)
    (o : Since) (before run : Running) : Type 0 where
  pub start : Start
  pub began : TurnBegan code inputs f args o before start
  pub ended : TurnEnded code inputs f args o start run

-- a turn is made, or too many steps were spent
abbrev pub AfterTurn : Bool → Code → List Block → ℕ → List Word → ℕ → Since → Running → Running → Type 0
AfterTurn true code inputs f args fuel o before run = TurnMade code inputs f args o before run
AfterTurn false code inputs f args fuel o before run = IsSpent code inputs fuel o
