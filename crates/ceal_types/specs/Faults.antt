-- All faults of names and types of a tree, in their order: those of the heads, then those of the bodies, each in text
-- order, parts before the whole. One fault brings no other: where it hides a type, nothing is asked of that type.
use Rattle.std.specs.Prelude.{ℕ, zero, suc, false, ◌==◌, ◌||◌, Bool, Option, Some, None, is_some, List, [], ◌∷◌, ◌++◌}
use Rattle.std.specs.Prelude.{map, length, if◌then◌else◌}
use Rattle.std.specs.List.{list_any}
use Rattle.std.specs.Map.{lookup}
use Rattle.std.specs.Option.{option_map, option_flatten}
use Rattle.std.specs.Str.{bytes_eq}
use Rattle.ceal_base.specs.Faults.{one, faults_of_each}
use Rattle.ceal_base.specs.WellTyped.{kind_held, plain_kind, address_kind, name_of_field}
use Rattle.ceal_base.specs.declared.fault.Fault.{Fault}
use Rattle.ceal_base.specs.declared.fault.FaultCode.{FaultCode}
use Rattle.ceal_base.specs.declared.fault.FaultCode.TheVariants.{N1, N2, T1, T2, T3, T4, T5}
use Rattle.ceal_base.specs.declared.fault.Span.{Span}
use Rattle.ceal_base.specs.declared.kind.Kind.{Kind}
use Rattle.ceal_base.specs.declared.kind.Kind.TheVariants.{Int, Ptr, ModInt, ModPtr}
use Rattle.ceal_base.specs.declared.operators.Binary.{Binary}
use Rattle.ceal_base.specs.declared.operators.Binary.TheVariants.{Same, Differ, Pick}
use Rattle.ceal_base.specs.declared.syntax.Entry.{Entry}
use Rattle.ceal_base.specs.declared.syntax.Entry.TheVariants.{Struct, Function}
use Rattle.ceal_base.specs.declared.syntax.Expr.{Expr}
use Rattle.ceal_base.specs.declared.syntax.ExprForm.TheBlock.{Row_of-Expr, end_of-Expr, more_of-Expr}
use Rattle.ceal_base.specs.declared.syntax.ExprForm.{ExprForm, Num, Null, Var, Own, Unary', Binary', Field', Address'}
use Rattle.ceal_base.specs.declared.syntax.ExprForm.{Pick'}
use Rattle.ceal_base.specs.declared.syntax.FieldDecl.{FieldDecl}
use Rattle.ceal_base.specs.declared.syntax.FunctionDecl.{FunctionDecl}
use Rattle.ceal_base.specs.declared.syntax.Ident.{Ident}
use Rattle.ceal_base.specs.declared.syntax.Stmt.{Stmt, Declare, Assign, SetField, Write, Call, If', While', Return}
use Rattle.ceal_base.specs.declared.syntax.Stmt.{Break, Continue}
use Rattle.ceal_base.specs.declared.syntax.Stmt.{Row_of-Stmt, end_of-Stmt, more_of-Stmt}
use Rattle.ceal_base.specs.declared.syntax.Tree.{Tree}
use Rattle.ceal_base.specs.declared.syntax.TypeForm.{TypeForm}
use Rattle.ceal_base.specs.declared.syntax.TypeForm.TheVariants as forms
use Rattle.ceal_base.specs.declared.syntax.Value.{Value}
use Rattle.ceal_base.specs.declared.syntax.Value.TheVariants.{Plain, Read, Alloc, ModrefInt, Modref}
use Rattle.ceal_base.specs.declared.typed.FieldInfo.{FieldInfo}
use Rattle.ceal_types.specs.Heads.{row_of}
use Rattle.ceal_types.specs.Kinds.{suits, comparable}
use Rattle.ceal_types.specs.Known.{Known, variable_type, pointer_type, fields_in, structs_in, functions_in, Declared}
use Rattle.ceal_types.specs.Known.{declared_in, TypingContext, member_known, operand_span, operand_type, type_of}
use Rattle.ceal_types.specs.Known.{type_of_field}
use Rattle.ceal_types.specs.Tables.{Name, has, element_name}

-- this fault, unless something holds
abbrev pub one_unless : Bool → FaultCode → Span → List Fault
one_unless holds code at = if holds then [] else one code at

-- this fault, where something holds
abbrev pub one_if : Bool → FaultCode → Span → List Fault
one_if holds code at = if holds then one code at else []

-- the same where those of an item depend on the items before it
unfoldable pub faults_after : {A : Type 0} → (List A → A → List Fault) → List A → List A → List Fault
faults_after faults before [] = []
faults_after faults before (x ∷ xs) = faults before x ++ faults_after faults (before ++ x ∷ []) xs

-- ---- names

-- N1 at the name of a struct that is not there
abbrev pub struct_faults : List Name → Ident → List Fault
struct_faults names name = one_unless (list_any (bytes_eq name.text) names) N1 name.span

-- N1 at the struct that a type names
abbrev pub type_faults : List Name → TypeForm → List Fault
type_faults names (forms.Ptr name) = struct_faults names name
type_faults names (forms.ModPtr name) = struct_faults names name
type_faults names (forms.CellPtr name) = struct_faults names name
type_faults names (forms.CellPtrRow name row) = struct_faults names name
type_faults names form = []

-- a name is taken by a field, or by a row of this name
abbrev pub is_taken : List Name → Name → Bool
is_taken names name = list_any (bytes_eq name) names || list_any (bytes_eq (element_name name 0)) names

-- the names of the first elements of a row
unfoldable pub element_names : Name → ℕ → List Name
element_names name zero = []
element_names name (suc i) = element_names name i ++ element_name name i ∷ []

-- one of these elements has a name that a field or an element before it has; no name of a source text is an element's
unfoldable pub element_taken : List Name → Name → ℕ → Bool
element_taken names name zero = false
element_taken names name (suc i) =
    element_taken names name i || list_any (bytes_eq (element_name name i)) (names ++ element_names name i)

-- the same of a member, which may be no row
abbrev pub row_taken : List Name → Name → Option ℕ → Bool
row_taken names name None = false
row_taken names name (Some row) = element_taken names name row

-- a member of a struct after others: N1 in its type, and N2 at its name where an earlier one has it
abbrev pub member_faults : List Name → List FieldDecl → FieldDecl → List Fault
member_faults structs before d =
    let names = map name_of_field (fields_in structs before) in
    type_faults structs d.form
    ++ one_if (is_taken names d.name.text || row_taken names d.name.text (row_of d.form)) N2 d.name.span

-- the name of a parameter
abbrev pub parameter_name : FieldDecl → Name
parameter_name d = d.name.text

-- a parameter after others: N1 in its type, and N2 at its name where an earlier one has it
abbrev pub parameter_faults : List Name → List FieldDecl → FieldDecl → List Fault
parameter_faults structs before d =
    type_faults structs d.form ++ one_if (list_any (bytes_eq d.name.text) (map parameter_name before)) N2 d.name.span

-- the struct of `self`, only of an initialiser
abbrev pub own_faults : List Name → Option Ident → List Fault
own_faults names None = []
own_faults names (Some name) = struct_faults names name

-- the head of an entry after others: N2 at its name where an earlier one of its sort has it, and then its parts
abbrev pub head_faults : List Name → List Entry → Entry → List Fault
head_faults names before (Struct s) =
    one_if (has (structs_in names before) s.name.text) N2 s.name.span
    ++ faults_after (member_faults names) [] s.fields
head_faults names before (Function f) =
    one_if (has (functions_in before) f.name.text) N2 f.name.span ++ own_faults names f.initialiser
    ++ faults_after (parameter_faults names) [] f.params

-- ---- types

-- T1 where a value of one type is given and another is asked
abbrev pub misfit : Option Kind → Known → Span → List Fault
misfit (Some asked) (Some given) at = one_unless (suits asked given) T1 at
misfit _ _ at = []

-- T1 at `==` or `!=`, where the sides are not of one type
abbrev pub mismatch : Known → Known → Span → List Fault
mismatch (Some left) (Some right) sign = one_unless (comparable left right) T1 sign
mismatch _ _ sign = []

-- an operator on two operands: what is wrong with their types; an index after what is no field access is T3
abbrev pub operation_faults : Binary → Span → Known → Span → Known → Span → List Fault
operation_faults Same sign left at right to = mismatch left right sign
operation_faults Differ sign left at right to = mismatch left right sign
operation_faults (Pick row) sign left at right to = one T3 at
operation_faults op sign left at right to = misfit (Some Int) left at ++ misfit (Some Int) right to

-- T4 where what is before `->` is no pointer to a struct, and T5 where the struct has no such member
abbrev pub arrow_faults : Declared → Known → Span → Ident → List Fault
arrow_faults d None at name = []
arrow_faults d (Some (Some (Ptr s))) at name =
    one_unless (is_some (member_known d (Some (Some (Ptr s))) name.text)) T5 name.span
arrow_faults d (Some kind) at name = one T4 at

-- T1 where an embedded modifiable is used without `&`, or is assigned
abbrev pub use_faults : Option FieldInfo → Span → List Fault
use_faults None name = []
use_faults (Some m) name = one_unless (is_some (plain_kind (Some m.kind))) T1 name

-- `&` of a member: T1 where it is a row, and T3 where it is plain
abbrev pub address_faults : Option FieldInfo → Span → List Fault
address_faults None name = []
address_faults (Some m) name =
    if m.row == 0 then one_unless (is_some (address_kind (Some m.kind))) T3 name else one T1 name

-- `&` of an element of a member: T3 where it is plain, and T1 where it is no row
abbrev pub element_faults : Option FieldInfo → Span → List Fault
element_faults None name = []
element_faults (Some m) name =
    if is_some (address_kind (Some m.kind)) then one_if (m.row == 0) T1 name else one T3 name

-- an expression of this form, which begins at this token
unfoldable mutual
  pub form_faults : TypingContext → Span → ExprForm → List Fault
  form_faults c at (Num n) = []
  form_faults c at Null = []
  form_faults c at (Var name) = one_unless (has c.scope name.text) N1 name.span
  form_faults c at Own = one_unless (is_some c.initialiser) N1 at
  form_faults c at (Unary' op _ a) = operand_faults c a ++ misfit (Some Int) (operand_type c a) (operand_span a)
  form_faults c at (Binary' op sign _ a _ b) =
      operand_faults c a ++ operand_faults c b
      ++ operation_faults op sign (operand_type c a) (operand_span a) (operand_type c b) (operand_span b)
  form_faults c at (Field' _ a name) =
      operand_faults c a ++ arrow_faults c.declared (operand_type c a) (operand_span a) name
      ++ use_faults (member_known c.declared (operand_type c a) name.text) name.span
  form_faults c at (Address' _ (more_of-Expr span (Field' _ a name) rest)) =
      operand_faults c a ++ arrow_faults c.declared (operand_type c a) (operand_span a) name
      ++ address_faults (member_known c.declared (operand_type c a) name.text) name.span
  form_faults c at (Address' _ a) = operand_faults c a ++ one T3 (operand_span a)
  form_faults c at (Pick' _ (more_of-Expr span (Field' _ a name) rest) _ i) =
      operand_faults c a ++ operand_faults c i ++ arrow_faults c.declared (operand_type c a) (operand_span a) name
      ++ element_faults (member_known c.declared (operand_type c a) name.text) name.span
      ++ misfit (Some Int) (operand_type c i) (operand_span i)
  form_faults c at (Pick' _ a _ i) = operand_faults c a ++ operand_faults c i ++ one T3 (operand_span a)

  -- an operand
  pub operand_faults : TypingContext → {n : _} → Row_of-Expr n → List Fault
  operand_faults c end_of-Expr = []
  operand_faults c (more_of-Expr span form rest) = form_faults c span form

-- an expression
abbrev pub expr_faults : TypingContext → Expr → List Fault
expr_faults c e = form_faults c e.span e.form

-- a condition, which is an `int`
abbrev pub condition_faults : TypingContext → Expr → List Fault
condition_faults c e = expr_faults c e ++ misfit (Some Int) (type_of c e) e.span

-- the type of a parameter
abbrev pub parameter_kind : List Name → FieldDecl → Option Kind
parameter_kind names d = option_flatten (variable_type names d.form)

-- T1 at each argument of another type than that of its parameter
abbrev pub argument_faults : TypingContext → List FieldDecl → List Expr → List Fault
argument_faults c (d ∷ ds) (e ∷ es) =
    misfit (parameter_kind c.declared.names d) (type_of c e) e.span ++ argument_faults c ds es
argument_faults c _ _ = []

-- the arguments of a call, looked at where it is of a core function: T2 at the function's name, or their types
abbrev pub call_faults : TypingContext → Ident → List Expr → Option FunctionDecl → List Fault
call_faults c name args None = []
call_faults c name args (Some f) = elim f.initialiser [
  | None ↦ if length args == length f.params then argument_faults c f.params args else one T2 name.span
  | Some own ↦ []
]

-- the arguments of an `alloc`, looked at where it names an initialiser: T2 at its name, T1 at the struct's name where
-- that is not the struct of `self`, or their types
abbrev pub alloc_faults : TypingContext → Ident → Ident → List Expr → Option FunctionDecl → List Fault
alloc_faults c structure name args None = []
alloc_faults c structure name args (Some f) = elim f.initialiser [
  | None ↦ []
  | Some own ↦
      if length args == length f.params
      then one_unless (bytes_eq own.text structure.text) T1 structure.span ++ argument_faults c f.params args
      else one T2 name.span
]

-- the place of a `read` or `write`: T3 where it is no pointer to a modifiable
abbrev pub place_faults : Known → Span → List Fault
place_faults None at = []
place_faults (Some kind) at = one_unless (is_some (kind_held kind)) T3 at

-- the kind of what a modifiable holds
abbrev pub held_kind : Known → Option Kind
held_kind None = None
held_kind (Some kind) = kind_held kind

-- what a variable is given: its parts, and T1 where it is of another type than the variable
abbrev pub value_faults : TypingContext → Option Kind → Value → List Fault
value_faults c asked (Plain e) = expr_faults c e ++ misfit asked (type_of c e) e.span
value_faults c asked (Read at e) =
    expr_faults c e ++ place_faults (type_of c e) e.span
    ++ misfit asked (option_map Some (held_kind (type_of c e))) at
value_faults c asked (Alloc at structure name args) =
    let f = lookup (bytes_eq name.text) c.declared.functions in
    struct_faults c.declared.names structure ++ one_unless (is_some f) N1 name.span
    ++ faults_of_each (expr_faults c) args
    ++ alloc_faults c structure name args f ++ misfit asked (pointer_type Ptr c.declared.names structure) at
value_faults c asked (ModrefInt at) = misfit asked (Some (Some ModInt)) at
value_faults c asked (Modref at structure) =
    struct_faults c.declared.names structure ++ misfit asked (pointer_type ModPtr c.declared.names structure) at

-- the variables in scope with the one that a statement declares
abbrev pub with_declared : TypingContext → Stmt → TypingContext
with_declared c (Declare at form name value) =
    record c { scope = c.scope ++ (name.text, variable_type c.declared.names form) ∷ [] }
with_declared c s = c

-- a statement: its parts in text order, and then itself
unfoldable mutual
  pub stmt_faults : TypingContext → Stmt → List Fault
  stmt_faults c (Declare at form name value) =
      type_faults c.declared.names form ++ one_if (has c.scope name.text) N2 name.span
      ++ value_faults c (option_flatten (variable_type c.declared.names form)) value
  stmt_faults c (Assign name value) =
      one_unless (has c.scope name.text) N1 name.span
      ++ value_faults c (option_flatten (option_flatten (lookup (bytes_eq name.text) c.scope))) value
  stmt_faults c (SetField at left name e) =
      let m = member_known c.declared (type_of c left) name.text in
      expr_faults c left ++ arrow_faults c.declared (type_of c left) left.span name ++ use_faults m name.span
      ++ expr_faults c e ++ misfit (plain_kind (option_map type_of_field m)) (type_of c e) e.span
  stmt_faults c (Write at place e) =
      expr_faults c place ++ expr_faults c e ++ place_faults (type_of c place) place.span
      ++ misfit (held_kind (type_of c place)) (type_of c e) e.span
  stmt_faults c (Call name args) =
      let f = lookup (bytes_eq name.text) c.declared.functions in
      one_unless (is_some f) N1 name.span ++ faults_of_each (expr_faults c) args ++ call_faults c name args f
  stmt_faults c (If' at test _ first _ second) =
      condition_faults c test ++ row_faults c first ++ row_faults c second
  stmt_faults c (While' at test _ body) = condition_faults c test ++ row_faults c body
  stmt_faults c (Return at) = []
  stmt_faults c (Break at) = []
  stmt_faults c (Continue at) = []

  -- the statements of a block, where a variable is in scope from the end of its declaration to the end of the block
  pub row_faults : TypingContext → {n : _} → Row_of-Stmt n → List Fault
  row_faults c end_of-Stmt = []
  row_faults c (more_of-Stmt s rest) = stmt_faults c s ++ row_faults (with_declared c s) rest

-- the statements of a body
unfoldable pub stmts_faults : TypingContext → List Stmt → List Fault
stmts_faults c [] = []
stmts_faults c (s ∷ rest) = stmt_faults c s ++ stmts_faults (with_declared c s) rest

-- ---- programs

-- a parameter, as a variable in scope
abbrev pub parameter_in_scope : List Name → FieldDecl → Name × Known
parameter_in_scope names d = (d.name.text, variable_type names d.form)

-- what the body of a function is typed in
abbrev pub body_context : Declared → FunctionDecl → TypingContext
body_context d f = record {
  declared = d;
  initialiser = f.initialiser;
  scope = map (parameter_in_scope d.names) f.params;
}

-- the body of an entry, if it is a function
abbrev pub body_faults : Declared → Entry → List Fault
body_faults d (Struct s) = []
body_faults d (Function f) = stmts_faults (body_context d f) f.body

-- All faults of a tree: those of the heads, and then those of the bodies.
abbrev pub tree_faults : Tree → List Fault
tree_faults tree =
    let d = declared_in tree.entries in
    faults_after (head_faults d.names) [] tree.entries ++ faults_of_each (body_faults d) tree.entries
