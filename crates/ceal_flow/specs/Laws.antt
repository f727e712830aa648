-- Laws of graphs.
use Rattle.std.specs.Prelude.{◌≡◌, ◌↔◌, ℕ, Option, Some, None, List, [], ◌∷◌, slice_get, Contains}
use Rattle.ceal_base.specs.Block.{Block}
use Rattle.ceal_base.specs.Usage.{IsCore, KeepsUsage}
use Rattle.ceal_base.specs.declared.typed.Typed.{Typed}
use Rattle.ceal_base.specs.declared.typed.TypedStmt.{TypedStmt, If', While', Return, Break, Continue}
use Rattle.ceal_base.specs.declared.word.Word.{Word}
use Rattle.ceal_mean.specs.Fresh.{fresh as source_fresh}
use Rattle.ceal_flow.specs.Fresh.{fresh}
use Rattle.ceal_flow.specs.Live.{AreLiveSets}
use Rattle.ceal_flow.specs.Lowering.{graph_of}
use Rattle.ceal_flow.specs.Paths.{Leads}
use Rattle.ceal_flow.specs.Program.{Graph}
use Rattle.ceal_flow.specs.declared.block.GraphBlock.{GraphBlock}
use Rattle.ceal_flow.specs.declared.block.GraphBlock.TheVariants.{Act, Unreached}
use Rattle.ceal_flow.specs.declared.function.GraphFunction.{GraphFunction}
use Rattle.ceal_flow.specs.declared.function.GraphFunction.TheVariants.{Core, Init}

-- every run of a core function ends with the same memory, in as many steps and with as many new blocks
abbrev pub RunsAs : Graph → Typed → Type 0
RunsAs g p = (f : ℕ) (args : List Word) (inputs : List Block) (fuel : ℕ)
    → IsCore (slice_get p.functions f) → fresh g f args inputs fuel ≡ source_fresh p f args inputs fuel

-- the graph of a program that keeps the rules of usage runs as the program does
abbrev pub RunLaw : Type 0
RunLaw = (p : Typed) → KeepsUsage p → RunsAs (graph_of p) p

-- the block is there, and is not left out
abbrev pub IsKept : Option GraphBlock → Type 0
IsKept None = ⊥
IsKept (Some Unreached) = ⊥
IsKept (Some _) = Unit {0}

-- the first blocks of the core functions
abbrev pub firsts : List GraphFunction → List ℕ
firsts [] = []
firsts (Core name first params kinds ∷ fs) = first ∷ firsts fs
firsts (Init f ∷ fs) = firsts fs

-- some path leads to the block from the first block of a core function
abbrev pub IsReached : Graph → ℕ → Type 0
IsReached g b = (first : ℕ) × Contains (firsts g.functions) first × Leads g.blocks first b

-- exactly the blocks are kept to which a path leads
abbrev pub KeptLaw : Type 0
KeptLaw = (p : Typed) (b : ℕ) → IsKept (slice_get (graph_of p).blocks b) ↔ IsReached (graph_of p) b

-- a statement that is no condition and no jump
abbrev pub IsSimple : TypedStmt → Type 0
IsSimple (If' at test _ first _ second) = ⊥
IsSimple (While' at test _ body) = ⊥
IsSimple (Return at) = ⊥
IsSimple (Break at) = ⊥
IsSimple (Continue at) = ⊥
IsSimple _ = Unit {0}

-- blocks act only by such statements
abbrev pub ActLaw : Type 0
ActLaw =
    (p : Typed) (b : ℕ) (s : TypedStmt) (next : ℕ) → slice_get (graph_of p).blocks b ≡ Some (Act s next) → IsSimple s

-- a graph has one list of live sets
abbrev pub OneLaw : Type 0
OneLaw = (blocks : List GraphBlock) (s t : List (List ℕ)) → AreLiveSets blocks s → AreLiveSets blocks t → s ≡ t

-- and it has one
abbrev pub SomeLaw : Type 0
SomeLaw = (blocks : List GraphBlock) → (s : List (List ℕ)) × AreLiveSets blocks s
