-- Laws of units.
use Rattle.std.specs.Prelude.{◌≡◌, ℕ, ◌<◌, true, false, List, length, slice_get, Contains}
use Rattle.ceal_base.specs.Block.{Block}
use Rattle.ceal_base.specs.Usage.{IsCore, KeepsUsage}
use Rattle.ceal_base.specs.WellTyped.{WellTyped}
use Rattle.ceal_base.specs.declared.typed.Typed.{Typed}
use Rattle.ceal_base.specs.declared.word.Word.{Word}
use Rattle.ceal_code.specs.Fresh.{fresh as code_fresh}
use Rattle.ceal_code.specs.Program.{Code}
use Rattle.ceal_code.specs.Valid.{valid}
use Rattle.ceal_flow.specs.Fresh.{fresh}
use Rattle.ceal_flow.specs.Live.{AreLiveSets}
use Rattle.ceal_flow.specs.Lowering.{graph_of}
use Rattle.ceal_flow.specs.Paths.{jumps_at}
use Rattle.ceal_flow.specs.Program.{Graph}
use Rattle.ceal_norm.specs.Entries.{is_entry}
use Rattle.ceal_norm.specs.Units.{Source, code_of}

-- it is the graph of a program
abbrev pub IsGraph : Graph → Type 0
IsGraph g = (p : Typed) × (g ≡ graph_of p)

-- a jump leads to a block that is there
abbrev pub IsClosed : Graph → Type 0
IsClosed g = (b c : ℕ) → Contains (jumps_at (slice_get g.blocks b)) c → c < length g.blocks

-- a jump that leads to no entry leads forwards
abbrev pub IsForward : Graph → Type 0
IsForward g = (b c : ℕ) → Contains (jumps_at (slice_get g.blocks b)) c → is_entry g c ≡ false → b < c

-- In the graph of a program no jump leads out of it.
abbrev pub ClosedLaw : Type 0
ClosedLaw = (p : Typed) → IsClosed (graph_of p)

-- In the graph of a program a jump that leads to no entry leads forwards.
abbrev pub ForwardLaw : Type 0
ForwardLaw = (p : Typed) → IsForward (graph_of p)

-- every run of a core function ends with the same memory as that of the graph, in as many steps and with as
-- many new blocks
abbrev pub RunsAs : Code → Typed → Type 0
RunsAs code p = (f : ℕ) (args : List Word) (inputs : List Block) (fuel : ℕ) → IsCore (slice_get p.functions f)
    → code_fresh code f args inputs fuel ≡ fresh (graph_of p) f args inputs fuel

-- the graph of a program with its live variables
abbrev pub source_of : Typed → List (List ℕ) → Source
source_of p sets = record { graph = graph_of p; live = sets }

-- the code of a program that is well typed and keeps the rules of usage is valid
abbrev pub ValidLaw : Type 0
ValidLaw = (p : Typed) (sets : List (List ℕ)) → WellTyped p → KeepsUsage p → AreLiveSets (graph_of p).blocks sets
    → valid (code_of (source_of p sets)) ≡ true

-- and runs as its graph does
abbrev pub RunLaw : Type 0
RunLaw = (p : Typed) (sets : List (List ℕ)) → WellTyped p → KeepsUsage p → AreLiveSets (graph_of p).blocks sets
    → RunsAs (code_of (source_of p sets)) p

-- the code of the program's units, by its graph and the variables that are live there
pub record AreUnitsOf (p : Typed) (code : Code) : Type 0 where
  pub live : List (List ℕ)
  pub exact_live : AreLiveSets (graph_of p).blocks live
  pub same : code ≡ code_of (source_of p live)
