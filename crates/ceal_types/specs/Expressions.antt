-- The types of expressions. Each rule has the fault that comes when it does not hold.
use Rattle.std.specs.Prelude.{ℕ, ◌==◌, Option, Some, None, Result, Ok, List, [], if◌then◌else◌}
use Rattle.std.specs.Map.{lookup}
use Rattle.std.specs.Str.{bytes_eq}
use Rattle.ceal_base.specs.declared.fault.Fault.{Fault}
use Rattle.ceal_base.specs.declared.fault.FaultCode.TheVariants.{N1, T1, T3, T4, T5}
use Rattle.ceal_base.specs.declared.fault.Span.{Span}
use Rattle.ceal_base.specs.declared.kind.FieldKind.{FieldKind}
use Rattle.ceal_base.specs.declared.kind.FieldKind.TheVariants.{Plain, CellInt, CellPtr}
use Rattle.ceal_base.specs.declared.kind.Kind.{Kind}
use Rattle.ceal_base.specs.declared.kind.Kind.TheVariants.{Int, Ptr, ModInt, ModPtr}
use Rattle.ceal_base.specs.declared.operators.Binary.{Binary as BinaryOp}
use Rattle.ceal_base.specs.declared.operators.Binary.TheVariants.{Same, Differ, Pick}
use Rattle.ceal_base.specs.declared.operators.Unary.{Unary as UnaryOp}
use Rattle.ceal_base.specs.declared.syntax.Expr.{Expr}
use Rattle.ceal_base.specs.declared.syntax.ExprForm.TheBlock.{Row_of-Expr, end_of-Expr, more_of-Expr}
use Rattle.ceal_base.specs.declared.syntax.ExprForm.{ExprForm, Num, Null, Var, Own, Unary', Binary', Field', Address'}
use Rattle.ceal_base.specs.declared.syntax.ExprForm.{Pick'}
use Rattle.ceal_base.specs.declared.syntax.Ident.{Ident}
use Rattle.ceal_base.specs.declared.typed.TypedExpr.{TypedExpr}
use Rattle.ceal_base.specs.declared.typed.TypedForm.{TypedForm}
use Rattle.ceal_base.specs.declared.typed.TypedForm.{Num as NumForm, Null as NullForm, Var as VarForm, Own as OwnForm}
use Rattle.ceal_base.specs.declared.typed.TypedForm.TheViews as typed
use Rattle.ceal_types.specs.Kinds.{suits, comparable}
use Rattle.ceal_types.specs.Tables.{Name, find, value_at, element_name}
use Rattle.ceal_types.specs.Walk.{fault, after, result_map, both, in_turn, at_end}
use Rattle.ceal_types.specs.declared.program.Field.{Field}
use Rattle.ceal_types.specs.declared.program.Program.{Program}
use Rattle.ceal_types.specs.declared.program.Variable.{Variable}
use Rattle.ceal_types.specs.declared.program.Member.{Member}

-- the fields of a struct, by name
abbrev pub Fields : Type 0
Fields = List (Name × Field)

-- the variables in scope, by name
abbrev pub Scope : Type 0
Scope = List (Name × Variable)

-- an expression of this kind and form
abbrev pub expression : Span → Option Kind → TypedForm → TypedExpr
expression at kind form = record { span = at; kind = kind; form = form }

-- a variable that is in scope
abbrev pub variable_at : Span → Ident → Option Variable → Result TypedExpr Fault
variable_at at name None = fault N1 name.span
variable_at at name (Some v) = Ok (expression at (Some v.kind) (VarForm v.number))

-- `self`, only in an initialiser
abbrev pub own_at : Span → Option ℕ → Result TypedExpr Fault
own_at at None = fault N1 at
own_at at (Some s) = Ok (expression at (Some (Ptr s)) OwnForm)

-- an `int`
abbrev pub int_asked : TypedExpr → Result TypedExpr Fault
int_asked e = if suits Int e.kind then Ok e else fault T1 e.span

-- an operator on one operand, which gives an `int`
abbrev pub unary_of : Span → UnaryOp → TypedExpr → TypedExpr
unary_of at op a = expression at (Some Int) (typed.Unary op a)

-- an operator on two operands, which gives an `int`
abbrev pub binary_of : Span → BinaryOp → Span → TypedExpr → TypedExpr → TypedExpr
binary_of at op sign a b = expression at (Some Int) (typed.Binary op sign a b)

-- `==` and `!=`: both sides of one type
abbrev pub comparison : Span → BinaryOp → Span → TypedExpr → TypedExpr → Result TypedExpr Fault
comparison at op sign a b = if comparable a.kind b.kind then Ok (binary_of at op sign a b) else fault T1 sign

-- the other operators: both sides an `int`, and the left side is looked at first
abbrev pub int_operation : Span → BinaryOp → Span → TypedExpr → TypedExpr → Result TypedExpr Fault
int_operation at op sign a b =
    if suits Int a.kind then (if suits Int b.kind then Ok (binary_of at op sign a b) else fault T1 b.span)
    else fault T1 a.span

-- an index after what is no field access; no source text has it as an operator
abbrev pub no_pick : TypedExpr → TypedExpr → Result TypedExpr Fault
no_pick e i = fault T3 e.span

-- an operator on two operands, if their kinds suit it
abbrev pub binary_at : Span → BinaryOp → Span → TypedExpr → TypedExpr → Result TypedExpr Fault
binary_at at Same sign a b = comparison at Same sign a b
binary_at at Differ sign a b = comparison at Differ sign a b
binary_at at (Pick row) sign a b = no_pick a b
binary_at at op sign a b = int_operation at op sign a b

-- an operator on one operand, if it is an `int`
abbrev pub unary_at : Span → UnaryOp → TypedExpr → Result TypedExpr Fault
unary_at at op a = if suits Int a.kind then Ok (unary_of at op a) else fault T1 a.span

-- a field of the struct to which a value of this type points
abbrev pub member_with : ℕ → ℕ → Field → Member
member_with s n f = record { shape = s; field = n; kind = f.kind; row = f.row }

-- the member of a struct that has the name
abbrev pub field_named : Ident → ℕ → Option (ℕ × Field) → Result Member Fault
field_named name s None = fault T5 name.span
field_named name s (Some f) = Ok (member_with s f.0 f.1)

-- what was found, or else the other
abbrev pub found_or : {A : Type 0} → Option A → Option A → Option A
found_or None other = other
found_or (Some x) other = Some x

-- the field of this name, or the first one of the row of this name
abbrev pub field_or_row : Fields → Name → Option (ℕ × Field)
field_or_row fields name = found_or (find fields name) (find fields (element_name name 0))

-- the member of struct s that has the name
abbrev pub field_of_struct : Ident → ℕ → Option Fields → Result Member Fault
field_of_struct name s None = fault T5 name.span
field_of_struct name s (Some fields) = field_named name s (field_or_row fields name.text)

-- the member with the name, by the kind of what is before the arrow
abbrev pub member_of : List (Name × Fields) → Span → Ident → Option Kind → Result Member Fault
member_of structs at name (Some (Ptr s)) = field_of_struct name s (value_at structs s)
member_of structs at name _ = fault T4 at

-- what `e->name` is: `e` a pointer to a struct, which has the field
unfoldable pub member : List (Name × Fields) → Ident → TypedExpr → Result Member Fault
member structs name e = member_of structs e.span name e.kind

-- the value of a plain field
abbrev pub value_of_field : Span → Ident → TypedExpr → ℕ → ℕ → FieldKind → Result TypedExpr Fault
value_of_field at name e s field (Plain kind) = Ok (expression at (Some kind) (typed.Field e s field))
value_of_field at name e s field CellInt = fault T1 name.span
value_of_field at name e s field (CellPtr t) = fault T1 name.span

-- the value of a member, if it is a plain field
abbrev pub field_of : Span → Ident → TypedExpr → Member → Result TypedExpr Fault
field_of at name e m = value_of_field at name e m.shape m.field m.kind

-- the value of the member with the name
unfoldable pub field_at : List (Name × Fields) → Span → Ident → TypedExpr → Result TypedExpr Fault
field_at structs at name e = after (field_of at name e) (member structs name e)

-- the place of an embedded modifiable that is no row
abbrev pub place_of_field : Span → Ident → TypedExpr → ℕ → ℕ → FieldKind → Result TypedExpr Fault
place_of_field at name e s field (Plain kind) = fault T3 name.span
place_of_field at name e s field CellInt = Ok (expression at (Some ModInt) (typed.Address e s field))
place_of_field at name e s field (CellPtr t) = Ok (expression at (Some (ModPtr t)) (typed.Address e s field))

-- the address of a member, if it is a modifiable and no row
abbrev pub address_of : Span → Ident → TypedExpr → Member → Result TypedExpr Fault
address_of at name e m = if m.row == 0 then place_of_field at name e m.shape m.field m.kind else fault T1 name.span

-- the address of the member with the name
unfoldable pub address_at : List (Name × Fields) → Span → Ident → TypedExpr → Result TypedExpr Fault
address_at structs at name e = after (address_of at name e) (member structs name e)

-- `&` of what is no field access
abbrev pub no_address : TypedExpr → Result TypedExpr Fault
no_address e = fault T3 e.span

-- the place of an element of a row: the row's address, and an index, which is an `int`
abbrev pub element_of : Span → Ident → Kind → TypedExpr → TypedExpr → ℕ → Result TypedExpr Fault
element_of at name kind place i row =
    if suits Int i.kind then Ok (expression at (Some kind) (typed.Binary (Pick row) name.span place i))
    else fault T1 i.span

-- the address of an element of a member, if it is a row
abbrev pub element_of_row : Span → Ident → Kind → TypedExpr → TypedExpr → Member → Result TypedExpr Fault
element_of_row at name kind e i m =
    if m.row == 0 then fault T1 name.span
    else element_of at name kind (expression at (Some kind) (typed.Address e m.shape m.field)) i m.row

-- the same, by the kind of the member
abbrev pub pick_of_kind : Span → Ident → TypedExpr → TypedExpr → Member → FieldKind → Result TypedExpr Fault
pick_of_kind at name e i m (Plain kind) = fault T3 name.span
pick_of_kind at name e i m CellInt = element_of_row at name ModInt e i m
pick_of_kind at name e i m (CellPtr t) = element_of_row at name (ModPtr t) e i m

-- the same, by the member
abbrev pub pick_of : Span → Ident → TypedExpr → TypedExpr → Member → Result TypedExpr Fault
pick_of at name e i m = pick_of_kind at name e i m m.kind

-- the address of an element of the member with the name
unfoldable pub pick_at : List (Name × Fields) → Span → Ident → TypedExpr → TypedExpr → Result TypedExpr Fault
pick_at structs at name e i = after (pick_of at name e i) (member structs name e)

-- an expression of this form, which begins at this token
unfoldable mutual
  pub typed_form : Program → Option ℕ → Scope → Span → ExprForm → Result TypedExpr Fault
  typed_form p own scope at (Num n) = Ok (expression at (Some Int) (NumForm n))
  typed_form p own scope at Null = Ok (expression at None NullForm)
  typed_form p own scope at (Var name) = variable_at at name (lookup (bytes_eq name.text) scope)
  typed_form p own scope at Own = own_at at own
  typed_form p own scope at (Unary' op _ a) = after (unary_at at op) (typed_operand p own scope a)
  typed_form p own scope at (Binary' op sign _ a _ b) =
      both (binary_at at op sign) (typed_operand p own scope a) (typed_operand p own scope b)
  typed_form p own scope at (Field' _ a name) = after (field_at p.structs at name) (typed_operand p own scope a)
  typed_form p own scope at (Address' _ (more_of-Expr span (Field' _ a name) rest)) =
      after (address_at p.structs at name) (typed_operand p own scope a)
  typed_form p own scope at (Address' _ a) = after no_address (typed_operand p own scope a)
  typed_form p own scope at (Pick' _ (more_of-Expr span (Field' _ a name) rest) _ i) =
      both (pick_at p.structs at name) (typed_operand p own scope a) (typed_operand p own scope i)
  typed_form p own scope at (Pick' _ a _ i) = both no_pick (typed_operand p own scope a) (typed_operand p own scope i)

  -- an operand with its types
  pub typed_operand : Program → Option ℕ → Scope → {n : _} → Row_of-Expr n → Result TypedExpr Fault
  typed_operand p own scope end_of-Expr = Ok (expression (record { from = 0; to = 0 }) None NullForm)
  typed_operand p own scope (more_of-Expr span form rest) = typed_form p own scope span form

-- an expression with its types, or its first fault
abbrev pub typed_expr : Program → Option ℕ → Scope → Expr → Result TypedExpr Fault
typed_expr p own scope e = typed_form p own scope e.span e.form

-- one more argument
abbrev pub with_expr : Program → Option ℕ → Scope → Expr → List TypedExpr → Result (List TypedExpr) Fault
with_expr p own scope e done = result_map (at_end done) (typed_expr p own scope e)

-- expressions from left to right
abbrev pub typed_exprs : Program → Option ℕ → Scope → List Expr → Result (List TypedExpr) Fault
typed_exprs p own scope es = in_turn (with_expr p own scope) es []

-- a condition
abbrev pub condition : Program → Option ℕ → Scope → Expr → Result TypedExpr Fault
condition p own scope e = after int_asked (typed_expr p own scope e)
