-- A unit's body command by command: the command of each block, and the blocks whose code is still to come.
use Rattle.std.specs.Prelude.{ℕ, ◌<◌, Bool, true, false, Option, Some, None, List, [], ◌∷◌, ◌++◌, length, map}
use Rattle.std.specs.Prelude.{slice_get, slice_set, slice_index_or}
use Rattle.ceal_base.specs.declared.kind.Shape.TheVariants.{ModInt, ModPtr}
use Rattle.ceal_base.specs.declared.typed.TypedStmt.{TypedStmt, Declare, Assign, Write, Call}
use Rattle.ceal_base.specs.declared.typed.TypedValue.{TypedValue}
use Rattle.ceal_base.specs.declared.typed.TypedValue.TheVariants.{Plain as PlainValue, Read as ReadValue}
use Rattle.ceal_base.specs.declared.typed.TypedValue.TheVariants.{Alloc as AllocValue, ModrefInt as ModrefIntValue}
use Rattle.ceal_base.specs.declared.typed.TypedValue.TheVariants.{Modref as ModrefValue}
use Rattle.ceal_code.specs.declared.command.Cmd.{Cmd}
use Rattle.ceal_code.specs.declared.command.Cmd.TheVariants as command
use Rattle.ceal_norm.specs.Expressions.{variable, expr_code}
use Rattle.ceal_norm.specs.Units.{Source, Placed, unit_of, args_of, closure_args, call_args, entry_set, jump_code, tree}
use Rattle.ceal_norm.specs.declared.body.Pending.{Pending}

-- what is where a jump leads to a block
abbrev pub onward : Source → Placed
onward s = jump_code s (tree s (length s.graph.blocks))

-- the command of a statement, from which a jump leads to `next`
abbrev pub value_command : Source → ℕ → ℕ → TypedValue → Cmd
value_command s next n (PlainValue e) = command.Move (variable n) (expr_code e)
value_command s next n (ReadValue at e) =
    command.Read (variable n) (expr_code e) (unit_of s next) (closure_args s n next)
value_command s next n (AllocValue at shape f name args) = command.Alloc (variable n) f (map expr_code args)
value_command s next n (ModrefIntValue at) = command.Modref (variable n) ModInt
value_command s next n (ModrefValue at shape) = command.Modref (variable n) (ModPtr shape)

-- the command of a statement at a block
abbrev pub stmt_command : Source → ℕ → TypedStmt → Cmd
stmt_command s next (Declare at n kind value) = value_command s next n value
stmt_command s next (Assign at n value) = value_command s next n value
stmt_command s next (Write at place e) = command.Write (expr_code place) (expr_code e)
stmt_command s next (Call at f args) =
    command.Call f (call_args args (entry_set s (slice_get s.graph.functions f))) (unit_of s next) (args_of s next)
stmt_command s next _ = command.Tick

-- the tail call of the unit of block b
abbrev pub tail_command : Source → ℕ → Cmd
tail_command s b = command.Tail (unit_of s b) (args_of s b)

-- an `if` with its second index
abbrev pub with_second : Cmd → ℕ → Cmd
with_second (command.If test first second) i = command.If test first i
with_second c i = c

-- a body whose `if` at an index has its second part at the other one
abbrev pub with_second_at : List Cmd → ℕ → ℕ → List Cmd
with_second_at body at i = slice_set body at (with_second (slice_index_or body at command.Done) i)

-- a body at whose end code begins, which is the second part of an `if` or not
abbrev pub with_second_here : List Cmd → Option ℕ → List Cmd
with_second_here body None = body
with_second_here body (Some at) = with_second_at body at (length body)

-- the body with the code of all blocks that are still to come
unfoldable pub whole_body : Source → List Cmd → List Pending → List Cmd
whole_body s body [] = body
whole_body s body (p ∷ ps) =
    whole_body s (with_second_here body p.test ++ onward s p.block (length (with_second_here body p.test))) ps

-- they are there
abbrev pub AllBelow : ℕ → List Pending → Type 0
AllBelow n [] = Unit {0}
AllBelow n (p ∷ ps) = (p.block < n) × AllBelow n ps

-- the block that is put after a statement, where the path continues
abbrev pub next_pending : Bool → ℕ → List Pending
next_pending true next = record { block = next; test = None } ∷ []
next_pending false next = []

-- the two parts of a test at an index, which are still to be written
abbrev pub parts : ℕ → ℕ → ℕ → List Pending
parts at first second = record { block = first; test = None } ∷ record { block = second; test = Some at } ∷ []
