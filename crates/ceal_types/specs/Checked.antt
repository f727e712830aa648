-- The names and types of a program: its tree with names resolved, or the first fault of the walk. The walk goes through
-- the entries in text order twice, first their heads and then the bodies of the functions. The types are
-- those of C with modifiables (Hammer, Acar and Chen, PLDI 2009); the faults and the order of the walk are
-- this project's own.
use Rattle.std.specs.Prelude.{Result, Ok, List, [], length, map}
use Rattle.ceal_base.specs.declared.fault.Fault.{Fault}
use Rattle.ceal_base.specs.declared.syntax.Entry.{Entry}
use Rattle.ceal_base.specs.declared.syntax.Entry.TheVariants.{Struct, Function}
use Rattle.ceal_base.specs.declared.syntax.FunctionDecl.{FunctionDecl}
use Rattle.ceal_base.specs.declared.syntax.Tree.{Tree}
use Rattle.ceal_base.specs.declared.typed.FieldInfo.{FieldInfo}
use Rattle.ceal_base.specs.declared.typed.StructInfo.{StructInfo}
use Rattle.ceal_base.specs.declared.typed.Typed.{Typed}
use Rattle.ceal_base.specs.declared.typed.TypedFunction.{TypedFunction}
use Rattle.ceal_types.specs.Expressions.{Fields}
use Rattle.ceal_types.specs.Heads.{head_of, heads}
use Rattle.ceal_types.specs.Statements.{Block, inner_block, typed_stmts}
use Rattle.ceal_types.specs.Tables.{Name}
use Rattle.ceal_types.specs.Walk.{after, result_map, in_turn, at_end}
use Rattle.ceal_types.specs.declared.program.Field.{Field}
use Rattle.ceal_types.specs.declared.program.Head.{Head}
use Rattle.ceal_types.specs.declared.program.Program.{Program}

-- a function with its head and its body
abbrev pub function_of : FunctionDecl → Head → Block → TypedFunction
function_of f head block = record {
  initialiser = head.own;
  name = f.name;
  params = length head.parameters.kinds;
  kinds = block.variables.kinds;
  body = block.stmts;
  close = f.close;
}

-- the function of this head, if its body has types
abbrev pub function_body : Program → FunctionDecl → Head → Result TypedFunction Fault
function_body p f head = result_map (function_of f head) (inner_block (typed_stmts p head.own f.body) head.parameters)

-- a function: its body, where its parameters are in scope
unfoldable pub typed_function : Program → FunctionDecl → Result TypedFunction Fault
typed_function p f = after (function_body p f) (head_of p.names f)

-- the functions, with that of an entry added if it is one
unfoldable pub with_body : Program → Entry → List TypedFunction → Result (List TypedFunction) Fault
with_body p (Struct s) fs = Ok fs
with_body p (Function f) fs = result_map (at_end fs) (typed_function p f)

-- a field as the program has it
abbrev pub field_info : Name × Field → FieldInfo
field_info f = record { name = f.0; kind = f.1.kind; row = f.1.row }

-- a struct as the program has it
abbrev pub struct_info : Name × Fields → StructInfo
struct_info s = record { name = s.0; fields = map field_info s.1 }

-- the program of these structs and functions
abbrev pub program_of : Program → List TypedFunction → Typed
program_of p fs = record { structs = map struct_info p.structs; functions = fs }

-- the second walk: the bodies of the functions, in text order
abbrev pub bodies : List Entry → Program → Result Typed Fault
bodies entries p = result_map (program_of p) (in_turn (with_body p) entries [])

-- the program of a tree, or its first fault: heads first, and then bodies
unfoldable pub checked : Tree → Result Typed Fault
checked tree = after (bodies tree.entries) (heads tree.entries)
