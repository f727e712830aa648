-- The units of a graph (our own). Each entry heads a tree of blocks, of which its unit is made: a path ends
-- where a jump leads to an entry, and at a read, a call and the end of the function.
use Rattle.std.specs.Prelude.{ℕ, zero, suc, ◌+◌, ◌==◌, Bool, true, false, Option, Some, None, List, [], ◌∷◌, ◌++◌}
use Rattle.std.specs.Prelude.{length, map, take, slice_get, slice_index_or, unwrap_or, if◌then◌else◌}
use Rattle.ceal_base.specs.declared.forest.UnitId.{UnitId}
use Rattle.ceal_base.specs.declared.kind.Kind.{Kind}
use Rattle.ceal_base.specs.declared.kind.Shape.TheVariants.{ModInt, ModPtr}
use Rattle.ceal_base.specs.declared.typed.TypedExpr.{TypedExpr}
use Rattle.ceal_base.specs.declared.typed.TypedStmt.{TypedStmt, Declare, Assign, Write, Call}
use Rattle.ceal_base.specs.declared.typed.TypedValue.{TypedValue}
use Rattle.ceal_base.specs.declared.typed.TypedValue.TheVariants.{Plain as PlainValue, Read as ReadValue}
use Rattle.ceal_base.specs.declared.typed.TypedValue.TheVariants.{Alloc as AllocValue, ModrefInt as ModrefIntValue}
use Rattle.ceal_base.specs.declared.typed.TypedValue.TheVariants.{Modref as ModrefValue}
use Rattle.ceal_code.specs.Program.{Unit, Code}
use Rattle.ceal_code.specs.declared.command.Cmd.{Cmd}
use Rattle.ceal_code.specs.declared.command.Cmd.TheVariants as command
use Rattle.ceal_code.specs.declared.expr.CodeExpr.{CodeExpr, Null, Var}
use Rattle.ceal_code.specs.declared.expr.VarId.{VarId}
use Rattle.ceal_code.specs.declared.function.FunctionCode.{FunctionCode}
use Rattle.ceal_code.specs.declared.function.FunctionCode.TheVariants as code
use Rattle.ceal_flow.specs.Program.{Graph}
use Rattle.ceal_flow.specs.Sets.{set_at}
use Rattle.ceal_flow.specs.declared.block.GraphBlock.{GraphBlock}
use Rattle.ceal_flow.specs.declared.block.GraphBlock.TheVariants.{Done, Test, Act}
use Rattle.ceal_flow.specs.declared.function.GraphFunction.{GraphFunction}
use Rattle.ceal_flow.specs.declared.function.GraphFunction.TheVariants.{Core, Init}
use Rattle.ceal_norm.specs.Entries.{is_entry, entries_before}
use Rattle.ceal_norm.specs.Expressions.{variable, expr_code, all_init_code}

-- A graph, and the variables that are live at each of its blocks.
pub record Source : Type 0 where
  pub graph : Graph
  pub live : List (List ℕ)

-- units are numbered in the order of their head blocks
abbrev pub unit_of : Source → ℕ → UnitId
unit_of s b = record { 0 = entries_before s.graph b }

-- the variables with these numbers
abbrev pub variables : List ℕ → List VarId
variables vs = map variable vs

-- the parameters of the unit of an entry: exactly the variables that are live there
abbrev pub params_of : Source → ℕ → List VarId
params_of s b = variables (set_at s.live b)

-- each variable stands for itself
abbrev pub own_args : List ℕ → List CodeExpr
own_args vs = map (λ v. Var (variable v)) vs

-- the arguments for the unit of block b: the variables that are live there
abbrev pub args_of : Source → ℕ → List CodeExpr
args_of s b = own_args (set_at s.live b)

-- the variables but one
unfoldable pub without : ℕ → List ℕ → List ℕ
without v [] = []
without v (w ∷ ws) = if w == v then without v ws else w ∷ without v ws

-- the arguments that the closure of a read keeps: what is live at block b, but for the variable that is read
abbrev pub closure_args : Source → ℕ → ℕ → List CodeExpr
closure_args s v b = own_args (without v (set_at s.live b))

-- the code of an argument of a call; null where the call has none
abbrev pub arg_at : Option TypedExpr → CodeExpr
arg_at None = Null
arg_at (Some e) = expr_code e

-- the arguments of a call for the parameters of the called function's entry unit
abbrev pub call_args : List TypedExpr → List ℕ → List CodeExpr
call_args args vs = map (λ v. arg_at (slice_get args v)) vs

-- the variables that are live at the entry of a function
abbrev pub entry_set : Source → Option GraphFunction → List ℕ
entry_set s (Some (Core name first params kinds)) = set_at s.live first
entry_set s (Some (Init f)) = []
entry_set s None = []

-- what is in a body from an index on, where a jump leads to a block
abbrev pub Placed : Type 0
Placed = ℕ → ℕ → List Cmd

-- a tail call of the block's unit, where it has one, and else its tree
abbrev pub jump_code : Source → Placed → Placed
jump_code s tree b i = if is_entry s.graph b then command.Tail (unit_of s b) (args_of s b) ∷ [] else tree b i

-- a test with the commands of its two parts, the first part right after it
abbrev pub test_code : CodeExpr → ℕ → List Cmd → (ℕ → List Cmd) → List Cmd
test_code test i first second =
    command.If test (i + 1) (i + 1 + length first) ∷ (first ++ second (i + 1 + length first))

-- the commands of an assignment, and of what follows it in the unit
abbrev pub value_code : Source → Placed → ℕ → ℕ → ℕ → TypedValue → List Cmd
value_code s onward next i n (PlainValue e) = command.Move (variable n) (expr_code e) ∷ onward next (i + 1)
value_code s onward next i n (ReadValue at e) =
    command.Read (variable n) (expr_code e) (unit_of s next) (closure_args s n next) ∷ []
value_code s onward next i n (AllocValue at shape f name args) =
    command.Alloc (variable n) f (map expr_code args) ∷ onward next (i + 1)
value_code s onward next i n (ModrefIntValue at) = command.Modref (variable n) ModInt ∷ onward next (i + 1)
value_code s onward next i n (ModrefValue at shape) = command.Modref (variable n) (ModPtr shape) ∷ onward next (i + 1)

-- the commands of a statement, and of what follows it in the unit
abbrev pub stmt_code : Source → Placed → ℕ → ℕ → TypedStmt → List Cmd
stmt_code s onward next i (Declare at n kind value) = value_code s onward next i n value
stmt_code s onward next i (Assign at n value) = value_code s onward next i n value
stmt_code s onward next i (Write at place e) = command.Write (expr_code place) (expr_code e) ∷ onward next (i + 1)
stmt_code s onward next i (Call at f args) =
    command.Call f (call_args args (entry_set s (slice_get s.graph.functions f))) (unit_of s next) (args_of s next) ∷ []
stmt_code s onward next i _ = command.Tick ∷ onward next (i + 1)

-- the commands of a block, and of what follows it in the unit
abbrev pub block_code : Source → Placed → ℕ → Option GraphBlock → List Cmd
block_code s onward i (Some (Test test first second)) =
    test_code (expr_code test) i (onward first (i + 1)) (onward second)
block_code s onward i (Some (Act stmt next)) = stmt_code s onward next i stmt
block_code s onward i _ = command.Done ∷ []

-- the tree of a block, of paths of at most `n` blocks
unfoldable pub tree : Source → ℕ → Placed
tree s zero b i = []
tree s (suc depth) b i = block_code s (jump_code s (tree s depth)) i (slice_get s.graph.blocks b)

-- the end of a function
abbrev pub is_done : GraphBlock → Bool
is_done Done = true
is_done _ = false

-- how many functions end before the block: the blocks of each end with its end
unfoldable pub ends_before : List GraphBlock → ℕ → ℕ
ends_before blocks zero = 0
ends_before [] (suc b) = 0
ends_before (Done ∷ blocks) (suc b) = ends_before blocks b + 1
ends_before (_ ∷ blocks) (suc b) = ends_before blocks b

-- the numbers of the core functions, since only they have blocks
unfoldable pub core_numbers : ℕ → List GraphFunction → List ℕ
core_numbers n [] = []
core_numbers n (Core name first params kinds ∷ fs) = n ∷ core_numbers (n + 1) fs
core_numbers n (Init f ∷ fs) = core_numbers (n + 1) fs

-- the function of which the block is
abbrev pub owner : Graph → ℕ → ℕ
owner g b = slice_index_or (core_numbers 0 g.functions) (ends_before g.blocks b) 0

-- the unit of block b
abbrev pub unit_code : Source → ℕ → Unit
unit_code s b = record { function = owner s.graph b; params = params_of s b; body = tree s (length s.graph.blocks) b 0 }

-- the units of the entries before a block
unfoldable pub units_before : Source → ℕ → List Unit
units_before s zero = []
units_before s (suc b) = if is_entry s.graph b then units_before s b ++ unit_code s b ∷ [] else units_before s b

-- a function of the graph as one of trace code
abbrev pub function_code : Source → GraphFunction → FunctionCode
function_code s (Core name first params kinds) = code.Core name (unit_of s first) (take params kinds)
function_code s (Init f) =
    code.Init f.name.text (unwrap_or f.initialiser 0) (take f.params f.kinds) (all_init_code f.body)

-- the kinds of the variables of a core function
abbrev pub kinds_code : GraphFunction → List Kind
kinds_code (Core name first params kinds) = kinds
kinds_code (Init f) = []

-- the code of a graph
abbrev pub code_of : Source → Code
code_of s = record {
  structs = s.graph.structs;
  functions = map (function_code s) s.graph.functions;
  units = units_before s (length s.graph.blocks);
  kinds = map kinds_code s.graph.functions;
}
