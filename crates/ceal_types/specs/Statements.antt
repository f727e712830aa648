-- The types of statements, and which variables are in scope where.
use Rattle.std.specs.Prelude.{ℕ, Option, Some, None, Result, Ok, List, [], ◌∷◌, ◌++◌, ◌==◌, length, take, if◌then◌else◌}
use Rattle.std.specs.Map.{lookup}
use Rattle.std.specs.Str.{bytes_eq}
use Rattle.ceal_base.specs.WellTyped.{kind_held}
use Rattle.ceal_base.specs.declared.fault.Fault.{Fault}
use Rattle.ceal_base.specs.declared.fault.FaultCode.TheVariants.{N1, N2, T1, T2, T3}
use Rattle.ceal_base.specs.declared.fault.Span.{Span}
use Rattle.ceal_base.specs.declared.kind.FieldKind.{FieldKind}
use Rattle.ceal_base.specs.declared.kind.FieldKind.TheVariants.{Plain as PlainField, CellInt, CellPtr}
use Rattle.ceal_base.specs.declared.kind.Kind.{Kind}
use Rattle.ceal_base.specs.declared.kind.Kind.TheVariants.{Ptr, ModInt, ModPtr}
use Rattle.ceal_base.specs.declared.syntax.Expr.{Expr}
use Rattle.ceal_base.specs.declared.syntax.Ident.{Ident}
use Rattle.ceal_base.specs.declared.syntax.Stmt.{Stmt, Declare, Assign, SetField, Write, Call, If', While', Return}
use Rattle.ceal_base.specs.declared.syntax.Stmt.{Break, Continue}
use Rattle.ceal_base.specs.declared.syntax.Stmt.{Row_of-Stmt, end_of-Stmt, more_of-Stmt}
use Rattle.ceal_base.specs.declared.syntax.Value.{Value}
use Rattle.ceal_base.specs.declared.syntax.Value.TheVariants.{Plain, Read, Alloc, ModrefInt, Modref}
use Rattle.ceal_base.specs.declared.typed.TypedExpr.{TypedExpr}
use Rattle.ceal_base.specs.declared.typed.TypedStmt.{TypedStmt}
use Rattle.ceal_base.specs.declared.typed.TypedStmt.{Declare as DeclareTyped, Assign as AssignTyped}
use Rattle.ceal_base.specs.declared.typed.TypedStmt.{SetField as SetTyped, Write as WriteTyped, Call as CallTyped}
use Rattle.ceal_base.specs.declared.typed.TypedStmt.{Return as ReturnTyped, Break as BreakTyped}
use Rattle.ceal_base.specs.declared.typed.TypedStmt.{Continue as ContinueTyped}
use Rattle.ceal_base.specs.declared.typed.TypedStmt.TheViews as typed
use Rattle.ceal_base.specs.declared.typed.TypedValue.{TypedValue}
use Rattle.ceal_base.specs.declared.typed.TypedValue.TheVariants.{Plain as PlainTyped, Read as ReadTyped}
use Rattle.ceal_base.specs.declared.typed.TypedValue.TheVariants.{Alloc as AllocTyped, ModrefInt as ModrefIntTyped}
use Rattle.ceal_base.specs.declared.typed.TypedValue.TheVariants.{Modref as ModrefTyped}
use Rattle.ceal_types.specs.Expressions.{Scope, typed_expr, typed_exprs, condition, member}
use Rattle.ceal_types.specs.Heads.{kind_of, struct_number, with_variable}
use Rattle.ceal_base.specs.Kinds.{same_kind}
use Rattle.ceal_types.specs.Kinds.{suits}
use Rattle.ceal_types.specs.Tables.{has, find}
use Rattle.ceal_types.specs.Walk.{fault, after, result_map, both, in_turn}
use Rattle.ceal_types.specs.declared.program.Head.{Head}
use Rattle.ceal_types.specs.declared.program.Member.{Member}
use Rattle.ceal_types.specs.declared.program.Program.{Program}
use Rattle.ceal_types.specs.declared.program.Variable.{Variable}
use Rattle.ceal_types.specs.declared.program.Variables.{Variables}

-- each argument against its parameter
abbrev pub arguments_suit : List Kind → List TypedExpr → Result (Unit {0}) Fault
arguments_suit (kind ∷ kinds) (e ∷ es) = if suits kind e.kind then arguments_suit kinds es else fault T1 e.span
arguments_suit _ _ = Ok tt

-- the arguments of a call; those of an initialiser are not looked at, since the call is a fault of usage
abbrev pub call_by_own : Option ℕ → List Kind → Ident → List TypedExpr → Result (Unit {0}) Fault
call_by_own None kinds name es = if length es == length kinds then arguments_suit kinds es else fault T2 name.span
call_by_own (Some s) kinds name es = Ok tt

-- whether a function may be called with these arguments
abbrev pub call_suits : Ident → Head → List TypedExpr → Result (Unit {0}) Fault
call_suits name f es = call_by_own f.own f.parameters.kinds name es

-- struct and arguments of an `alloc`; those of a core function are not looked at, since that is a fault of usage
abbrev pub alloc_by_own : Option ℕ → List Kind → Ident → Ident → ℕ → List TypedExpr → Result (Unit {0}) Fault
alloc_by_own None kinds structure name shape es = Ok tt
alloc_by_own (Some s) kinds structure name shape es =
    if length es == length kinds
    then (if s == shape then arguments_suit kinds es else fault T1 structure.span)
    else fault T2 name.span

-- whether an allocation may have this initialiser and these arguments
abbrev pub alloc_suits : Ident → Ident → ℕ → Head → List TypedExpr → Result (Unit {0}) Fault
alloc_suits structure name shape f es = alloc_by_own f.own f.parameters.kinds structure name shape es

-- a value of this type where that type is asked, else T1 at its first token
abbrev pub asked_for : {A : Type 0} → Kind → Kind → Span → A → Result A Fault
asked_for asked given at x = if same_kind asked given then Ok x else fault T1 at

-- the value of an expression, if it suits the kind that is asked for
abbrev pub plain_value : Kind → TypedExpr → Result TypedValue Fault
plain_value asked e = if suits asked e.kind then Ok (PlainTyped e) else fault T1 e.span

-- what a modifiable holds
abbrev pub held_value : Kind → Span → TypedExpr → Option Kind → Result TypedValue Fault
held_value asked at e None = fault T3 e.span
held_value asked at e (Some kind) = asked_for asked kind at (ReadTyped at e)

-- the value of a read, if it is of a modifiable of this kind
abbrev pub read_value : Kind → Span → TypedExpr → Result TypedValue Fault
read_value asked at e = held_value asked at e (kind_held e.kind)

-- a new modifiable that points to struct s, if one is asked for
abbrev pub modref_value : Kind → Span → ℕ → Result TypedValue Fault
modref_value asked at s = asked_for asked (ModPtr s) at (ModrefTyped at s)

-- a new block, if a pointer to its struct is asked for
abbrev pub block_value : Kind → Span → Ident → ℕ → ℕ → List TypedExpr → Unit {0} → Result TypedValue Fault
block_value asked at name shape n es u = asked_for asked (Ptr shape) at (AllocTyped at shape n name.span es)

-- a new block, if its initialiser and its arguments suit
abbrev pub alloc_value : Kind → Span → Ident → Ident → ℕ → ℕ × Head → List TypedExpr → Result TypedValue Fault
alloc_value asked at structure name shape f es =
    after (block_value asked at name shape f.0 es) (alloc_suits structure name shape f.1 es)

-- a new block, if there is an initialiser of this name
abbrev pub alloc_by : Program → Option ℕ → Scope → Kind → Span → Ident → Ident → List Expr → ℕ
    → Option (ℕ × Head) → Result TypedValue Fault
alloc_by p own scope asked at structure name args shape None = fault N1 name.span
alloc_by p own scope asked at structure name args shape (Some f) =
    after (alloc_value asked at structure name shape f) (typed_exprs p own scope args)

-- a new block of struct `shape`, or the first fault
abbrev pub alloc_of : Program → Option ℕ → Scope → Kind → Span → Ident → Ident → List Expr → ℕ → Result TypedValue Fault
alloc_of p own scope asked at structure name args shape =
    alloc_by p own scope asked at structure name args shape (find p.functions name.text)

-- a value for a variable of the type that is asked
unfoldable pub typed_value : Program → Option ℕ → Scope → Kind → Value → Result TypedValue Fault
typed_value p own scope asked (Plain e) = after (plain_value asked) (typed_expr p own scope e)
typed_value p own scope asked (Read at e) = after (read_value asked at) (typed_expr p own scope e)
typed_value p own scope asked (Alloc at structure name args) =
    after (alloc_of p own scope asked at structure name args) (struct_number p.names structure)
typed_value p own scope asked (ModrefInt at) = asked_for asked ModInt at (ModrefIntTyped at)
typed_value p own scope asked (Modref at structure) = after (modref_value asked at) (struct_number p.names structure)

-- a statement, and the variables after it
pub record Step : Type 0 where
  pub stmt : TypedStmt
  pub variables : Variables

-- the statements of a block so far, and the variables after them
pub record Block : Type 0 where
  pub stmts : List TypedStmt
  pub variables : Variables

-- a statement, and the variables after it
abbrev pub step : TypedStmt → Variables → Step
step s v = record { stmt = s; variables = v }

-- statements, and the variables after them
abbrev pub block : List TypedStmt → Variables → Block
block stmts v = record { stmts = stmts; variables = v }

-- the begin of a block: no statements yet
abbrev pub empty_block : Variables → Block
empty_block v = block [] v

-- a block with one more statement
abbrev pub with_step : Block → Step → Block
with_step b s = record { stmts = b.stmts ++ s.stmt ∷ []; variables = s.variables }

-- the first variables stay in scope, and those that were declared after them leave it
abbrev pub block_end : ℕ → Block → Block
block_end n b = record b { variables = record b.variables { scope = take n b.variables.scope } }

-- a nested block: what it declares leaves the scope at its end
abbrev pub inner_block : (Block → Result Block Fault) → Variables → Result Block Fault
inner_block walk v = result_map (block_end (length v.scope)) (walk (empty_block v))

-- a declaration: the type's name, the variable's name, the value, and then the variable is in scope
abbrev pub declaration : Span → Ident → Kind → Variables → TypedValue → Step
declaration at name kind v value = step (DeclareTyped at (length v.kinds) kind value) (with_variable v name.text kind)

-- a declaration, if its value suits
abbrev pub declare : Program → Option ℕ → Span → Ident → Value → Variables → Kind → Result Step Fault
declare p own at name value v kind =
    if has v.scope name.text then fault N2 name.span
    else result_map (declaration at name kind v) (typed_value p own v.scope kind value)

-- an assignment to variable n
abbrev pub assignment : Ident → ℕ → TypedValue → TypedStmt
assignment name n value = AssignTyped name.span n value

-- an assignment to a variable, if it is in scope and the value suits
abbrev pub assign_if_found : Program → Option ℕ → Ident → Value → Scope → Option Variable → Result TypedStmt Fault
assign_if_found p own name value scope None = fault N1 name.span
assign_if_found p own name value scope (Some x) =
    result_map (assignment name x.number) (typed_value p own scope x.kind value)

-- an assignment to the variable with the name
abbrev pub assign : Program → Option ℕ → Scope → Ident → Value → Result TypedStmt Fault
assign p own scope name value = assign_if_found p own name value scope (lookup (bytes_eq name.text) scope)

-- the type of a field that may be assigned, a plain one
abbrev pub plain_kind : Ident → FieldKind → Result Kind Fault
plain_kind name (PlainField kind) = Ok kind
plain_kind name CellInt = fault T1 name.span
plain_kind name (CellPtr t) = fault T1 name.span

-- a field assignment: what is to the left of the last `->`, the field, and the value
abbrev pub set_suited : Span → TypedExpr → Member → Kind → TypedExpr → Result TypedStmt Fault
set_suited at left m kind e = if suits kind e.kind then Ok (SetTyped at left m.shape m.field e) else fault T1 e.span

-- the assignment of a field, if the value suits its kind
abbrev pub set_value : Program → Option ℕ → Scope → Span → Expr → TypedExpr → Member → Kind → Result TypedStmt Fault
set_value p own scope at e left m kind = after (set_suited at left m kind) (typed_expr p own scope e)

-- the assignment of a member, if it is a plain field
abbrev pub set_member : Program → Option ℕ → Scope → Span → Ident → Expr → TypedExpr → Member → Result TypedStmt Fault
set_member p own scope at name e left m = after (set_value p own scope at e left m) (plain_kind name m.kind)

-- the assignment of the member with the name
abbrev pub set_left : Program → Option ℕ → Scope → Span → Ident → Expr → TypedExpr → Result TypedStmt Fault
set_left p own scope at name e left = after (set_member p own scope at name e left) (member p.structs name left)

-- the assignment of a field, or the first fault
abbrev pub set_field : Program → Option ℕ → Scope → Span → Expr → Ident → Expr → Result TypedStmt Fault
set_field p own scope at left name e = after (set_left p own scope at name e) (typed_expr p own scope left)

-- a `write`: both operands, and then their types
abbrev pub write_held : Span → TypedExpr → TypedExpr → Option Kind → Result TypedStmt Fault
write_held at place e None = fault T3 place.span
write_held at place e (Some kind) = if suits kind e.kind then Ok (WriteTyped at place e) else fault T1 e.span

-- a write, if the value suits the modifiable
abbrev pub write_of : Span → TypedExpr → TypedExpr → Result TypedStmt Fault
write_of at place e = write_held at place e (kind_held place.kind)

-- a write, or the first fault
abbrev pub write : Program → Option ℕ → Scope → Span → Expr → Expr → Result TypedStmt Fault
write p own scope at place e = both (write_of at) (typed_expr p own scope place) (typed_expr p own scope e)

-- a call: the name, the arguments, and then their number and types
abbrev pub call_of : Ident → ℕ → List TypedExpr → Unit {0} → TypedStmt
call_of name n es u = CallTyped name.span n es

-- a call, if the function and the arguments suit
abbrev pub call_checked : Ident → ℕ × Head → List TypedExpr → Result TypedStmt Fault
call_checked name f es = result_map (call_of name f.0 es) (call_suits name f.1 es)

-- a call, if there is a function of this name
abbrev pub call_if_found : Program → Option ℕ → Scope → Ident → List Expr → Option (ℕ × Head) → Result TypedStmt Fault
call_if_found p own scope name args None = fault N1 name.span
call_if_found p own scope name args (Some f) = after (call_checked name f) (typed_exprs p own scope args)

-- a call, or the first fault
abbrev pub call : Program → Option ℕ → Scope → Ident → List Expr → Result TypedStmt Fault
call p own scope name args = call_if_found p own scope name args (find p.functions name.text)

-- a statement that declares nothing leaves the variables as they are
abbrev pub still : Variables → TypedStmt → Step
still v s = step s v

-- an `if`: the condition, and then both parts
abbrev pub if_step : Span → TypedExpr → Block → Block → Step
if_step at test first second = step (typed.If at test first.stmts second.stmts) second.variables

-- an `if` with its second part, where the first is there
abbrev pub choose : Span → TypedExpr → (Variables → Result Block Fault) → Block → Result Step Fault
choose at test second first = result_map (if_step at test first) (second first.variables)

-- an `if` with its two parts, where the test is there
abbrev pub branch : Span → (Variables → Result Block Fault) → (Variables → Result Block Fault) → Variables
    → TypedExpr → Result Step Fault
branch at first second v test = after (choose at test second) (first v)

-- a `while`: the condition, and then the body
abbrev pub while_step : Span → TypedExpr → Block → Step
while_step at test body = step (typed.While at test body.stmts) body.variables

-- a loop with its body, where the test is there
abbrev pub loop : Span → (Variables → Result Block Fault) → Variables → TypedExpr → Result Step Fault
loop at body v test = result_map (while_step at test) (body v)

-- a statement where these variables are there
unfoldable mutual
  pub typed_stmt : Program → Option ℕ → Stmt → Variables → Result Step Fault
  typed_stmt p own (Declare at form name value) v = after (declare p own at name value v) (kind_of p.names form)
  typed_stmt p own (Assign name value) v = result_map (still v) (assign p own v.scope name value)
  typed_stmt p own (SetField at left name e) v = result_map (still v) (set_field p own v.scope at left name e)
  typed_stmt p own (Write at place e) v = result_map (still v) (write p own v.scope at place e)
  typed_stmt p own (Call name args) v = result_map (still v) (call p own v.scope name args)
  typed_stmt p own (If' at test _ first _ second) v =
      after (branch at (inner_block (typed_row p own first)) (inner_block (typed_row p own second)) v)
      (condition p own v.scope test)
  typed_stmt p own (While' at test _ body) v =
      after (loop at (inner_block (typed_row p own body)) v) (condition p own v.scope test)
  typed_stmt p own (Return at) v = Ok (step (ReturnTyped at) v)
  typed_stmt p own (Break at) v = Ok (step (BreakTyped at) v)
  typed_stmt p own (Continue at) v = Ok (step (ContinueTyped at) v)

  -- the statements of a row, after those of a block
  pub typed_row : Program → Option ℕ → {n : _} → Row_of-Stmt n → Block → Result Block Fault
  typed_row p own end_of-Stmt b = Ok b
  typed_row p own (more_of-Stmt s rest) b =
      after (typed_row p own rest) (result_map (with_step b) (typed_stmt p own s b.variables))

-- one more statement of a block
abbrev pub with_stmt : Program → Option ℕ → Stmt → Block → Result Block Fault
with_stmt p own s b = result_map (with_step b) (typed_stmt p own s b.variables)

-- the statements of a block one after another
abbrev pub typed_stmts : Program → Option ℕ → List Stmt → Block → Result Block Fault
typed_stmts p own stmts b = in_turn (with_stmt p own) stmts b
