-- The graph of a program (our own).
use Rattle.std.specs.Prelude.{ℕ, ◌+◌, Option, Some, None, Result, Ok, Err, List, [], ◌∷◌, ◌++◌, slice_get}
use Rattle.ceal_base.specs.declared.fault.Fault.{Fault}
use Rattle.ceal_base.specs.declared.fault.FaultCode.TheVariants.{L1}
use Rattle.ceal_base.specs.declared.fault.Span.{Span}
use Rattle.ceal_base.specs.declared.typed.Typed.{Typed}
use Rattle.ceal_base.specs.declared.typed.TypedFunction.{TypedFunction}
use Rattle.ceal_base.specs.declared.typed.TypedStmt.{TypedStmt, Declare, Assign, SetField, Write, Call, If', While'}
use Rattle.ceal_base.specs.declared.typed.TypedStmt.{Return, Break, Continue}
use Rattle.ceal_base.specs.declared.typed.TypedStmt.{Row_of-TypedStmt, end_of-TypedStmt, more_of-TypedStmt}
use Rattle.ceal_flow.specs.Blocks.{sizes, no_loop, entry, all_blocks}
use Rattle.ceal_flow.specs.Program.{Graph}
use Rattle.ceal_flow.specs.declared.block.GraphBlock.{GraphBlock}
use Rattle.ceal_flow.specs.declared.block.GraphBlock.TheVariants.{Done}
use Rattle.ceal_flow.specs.declared.function.GraphFunction.{GraphFunction}
use Rattle.ceal_flow.specs.declared.function.GraphFunction.TheVariants.{Core, Init}

-- a function has as many blocks as its statements, and one for its end; an initialiser has none
abbrev pub size_in : Option ℕ → List TypedStmt → ℕ
size_in None body = sizes body + 1
size_in (Some s) body = 0

-- how many blocks a function has
abbrev pub function_size : TypedFunction → ℕ
function_size f = size_in f.initialiser f.body

-- how many blocks functions have
unfoldable pub function_sizes : List TypedFunction → ℕ
function_sizes [] = 0
function_sizes (f ∷ fs) = function_size f + function_sizes fs

-- the number of the end of a body that begins at block `n`
abbrev pub end_of : List TypedStmt → ℕ → ℕ
end_of body n = n + sizes body

-- where a call of a body that begins at block `n` leads
abbrev pub first_of : List TypedStmt → ℕ → ℕ
first_of body n = entry body n (end_of body n) (no_loop (end_of body n))

-- the function, where it begins at block `n`
abbrev pub core_at : TypedFunction → ℕ → GraphFunction
core_at f n = Core f.name.text (first_of f.body n) f.params f.kinds

-- the function of the graph: a core function begins at block `n`, an initialiser has no block
abbrev pub function_in : Option ℕ → TypedFunction → ℕ → GraphFunction
function_in None f n = core_at f n
function_in (Some s) f n = Init f

-- a function of the graph, whose first block is block `n`
abbrev pub function_at : TypedFunction → ℕ → GraphFunction
function_at f n = function_in f.initialiser f n

-- its blocks: those of its statements, and then its end
abbrev pub core_blocks : List TypedStmt → ℕ → List GraphBlock
core_blocks body n = all_blocks body n (end_of body n) (no_loop (end_of body n)) ++ Done ∷ []

-- the blocks of a core function from block `n` on; an initialiser has none
abbrev pub blocks_in : Option ℕ → List TypedStmt → ℕ → List GraphBlock
blocks_in None body n = core_blocks body n
blocks_in (Some s) body n = []

-- the blocks of a function from block `n` on
abbrev pub blocks_at : TypedFunction → ℕ → List GraphBlock
blocks_at f n = blocks_in f.initialiser f.body n

-- functions one after another, of which the first begins at block `n`
unfoldable pub functions_from : ℕ → List TypedFunction → List GraphFunction
functions_from n [] = []
functions_from n (f ∷ fs) = function_at f n ∷ functions_from (n + function_size f) fs

-- the blocks of functions from block `n` on
unfoldable pub blocks_from : ℕ → List TypedFunction → List GraphBlock
blocks_from n [] = []
blocks_from n (f ∷ fs) = blocks_at f n ++ blocks_from (n + function_size f) fs

-- the graph of a program
abbrev pub graph_of : Typed → Graph
graph_of p =
    record { structs = p.structs; functions = functions_from 0 p.functions; blocks = blocks_from 0 p.functions }

-- the place of each block: the first token of its statement, and the closing brace of a function for its end
unfoldable mutual
  pub places : TypedStmt → List Span
  places (Declare at n kind value) = at ∷ []
  places (Assign at n value) = at ∷ []
  places (SetField at left s field e) = at ∷ []
  places (Write at place e) = at ∷ []
  places (Call at f args) = at ∷ []
  places (If' at test _ first _ second) = at ∷ (row_places first ++ row_places second)
  places (While' at test _ body) = at ∷ row_places body
  places (Return at) = []
  places (Break at) = []
  places (Continue at) = []

  -- the places of the statements of a row
  pub row_places : {n : _} → Row_of-TypedStmt n → List Span
  row_places end_of-TypedStmt = []
  row_places (more_of-TypedStmt s rest) = places s ++ row_places rest

-- the places of the statements of a list
unfoldable pub all_places : List TypedStmt → List Span
all_places [] = []
all_places (s ∷ rest) = places s ++ all_places rest

-- the places of the blocks of a core function, with that of its closing brace
abbrev pub places_in : Option ℕ → List TypedStmt → Span → List Span
places_in None body close = all_places body ++ close ∷ []
places_in (Some s) body close = []

-- the places of the blocks of a function
abbrev pub places_of : TypedFunction → List Span
places_of f = places_in f.initialiser f.body f.close

-- the places of the blocks of functions
unfoldable pub function_places : List TypedFunction → List Span
function_places [] = []
function_places (f ∷ fs) = places_of f ++ function_places fs

-- how many blocks a program has at most
abbrev pub BLOCKS : ℕ
BLOCKS = 65535

-- what `lower` answers: L1 at the place of the first block past the limit, where there is one, and else the graph
abbrev pub lowered_at : Typed → Option Span → Result Graph Fault
lowered_at p None = Ok (graph_of p)
lowered_at p (Some at) = Err (record { code = L1; span = at })

-- the graph of a program, or the fault at the first block that is too many
abbrev pub lowered : Typed → Result Graph Fault
lowered p = lowered_at p (slice_get (function_places p.functions) BLOCKS)
