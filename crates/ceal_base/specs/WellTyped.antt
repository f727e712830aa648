-- A program that is well typed, seen from its tree with names resolved: every number is in range, every
-- expression has the kind that is asked of it, and a variable is used where it is in scope.
use Rattle.std.specs.Prelude.{◌≡◌, ℕ, zero, suc, ◌+◌, ◌<◌, ◌≤◌, Option, Some, None, MatchOption, IfSome, IsSome, List}
use Rattle.std.specs.Prelude.{[], ◌∷◌, length, map, take, slice_get, All, Contains}
use Rattle.std.specs.List.{IsDistinct}
use Rattle.std.specs.Str.{bytes_eq}
use Rattle.ceal_base.specs.Shapes.{field_kinds, row_at}
use Rattle.ceal_base.specs.declared.kind.FieldKind.{FieldKind}
use Rattle.ceal_base.specs.declared.kind.FieldKind.TheVariants.{Plain, CellInt, CellPtr}
use Rattle.ceal_base.specs.declared.kind.Kind.{Kind}
use Rattle.ceal_base.specs.declared.kind.Kind.TheVariants.{Int, Ptr, ModInt, ModPtr}
use Rattle.ceal_base.specs.declared.operators.Binary.{Binary}
use Rattle.ceal_base.specs.declared.operators.Binary.TheVariants.{Same, Differ, Pick}
use Rattle.ceal_base.specs.declared.typed.FieldInfo.{FieldInfo}
use Rattle.ceal_base.specs.declared.typed.StructInfo.{StructInfo}
use Rattle.ceal_base.specs.declared.typed.Typed.{Typed}
use Rattle.ceal_base.specs.declared.typed.TypedExpr.{TypedExpr}
use Rattle.ceal_base.specs.declared.typed.TypedForm.TheBlock.{Row_of-TypedExpr, end_of-TypedExpr, more_of-TypedExpr}
use Rattle.ceal_base.specs.declared.typed.TypedForm.{TypedForm, Num, Null, Var, Own, Unary', Binary', Field', Address'}
use Rattle.ceal_base.specs.declared.typed.TypedFunction.{TypedFunction}
use Rattle.ceal_base.specs.declared.typed.TypedStmt.{TypedStmt, Declare, Assign, SetField, Write, Call, If', While'}
use Rattle.ceal_base.specs.declared.typed.TypedStmt.{Return, Break, Continue}
use Rattle.ceal_base.specs.declared.typed.TypedStmt.{Row_of-TypedStmt, end_of-TypedStmt, more_of-TypedStmt}
use Rattle.ceal_base.specs.declared.typed.TypedValue.{TypedValue}
use Rattle.ceal_base.specs.declared.typed.TypedValue.TheVariants.{Plain as PlainValue, Read, Alloc, ModrefInt, Modref}

-- the struct that the kind names is there
abbrev pub KindKnown : List StructInfo → Kind → Type 0
KindKnown structs Int = Unit {0}
KindKnown structs (Ptr s) = s < length structs
KindKnown structs ModInt = Unit {0}
KindKnown structs (ModPtr s) = s < length structs

-- the struct that a field may point to is there
abbrev pub FieldKnown : List StructInfo → FieldInfo → Type 0
FieldKnown structs f = elim f.kind [
  | Plain kind ↦ KindKnown structs kind
  | CellInt ↦ Unit {0}
  | CellPtr s ↦ s < length structs
]

-- the kind has null
abbrev pub IsPointer : Kind → Type 0
IsPointer Int = ⊥
IsPointer (Ptr s) = Unit {0}
IsPointer ModInt = Unit {0}
IsPointer (ModPtr s) = Unit {0}

-- a value of this kind may be used where that kind is asked; `null`, which has none, where a pointer is asked
abbrev pub Suits : Kind → Option Kind → Type 0
Suits asked None = IsPointer asked
Suits asked (Some given) = asked ≡ given

-- values of these kinds may be compared
abbrev pub Comparable : Option Kind → Option Kind → Type 0
Comparable None None = Unit {0}
Comparable None (Some kind) = IsPointer kind
Comparable (Some kind) None = IsPointer kind
Comparable (Some kind) (Some other) = kind ≡ other

-- the operator may be used between values of these kinds
abbrev pub OperandsSuit : Binary → Option Kind → Option Kind → Type 0
OperandsSuit Same left right = Comparable left right
OperandsSuit Differ left right = Comparable left right
OperandsSuit (Pick row) left right = IsSome left × (right ≡ Some Int)
OperandsSuit op left right = (left ≡ Some Int) × (right ≡ Some Int)

-- the kind of what the operator gives; an element of a row has the kind of the address of the first one
abbrev pub kind_given : Binary → Option Kind → Option Kind
kind_given (Pick row) left = left
kind_given op left = Some Int

-- the kind of what a modifiable holds, given the kind of a pointer to it
abbrev pub kind_held : Option Kind → Option Kind
kind_held (Some ModInt) = Some Int
kind_held (Some (ModPtr s)) = Some (Ptr s)
kind_held _ = None

-- the kind of `p->f`, of a plain field
abbrev pub plain_kind : Option FieldKind → Option Kind
plain_kind (Some (Plain kind)) = Some kind
plain_kind _ = None

-- the kind of `&p->f`, of an embedded modifiable
abbrev pub address_kind : Option FieldKind → Option Kind
address_kind (Some CellInt) = Some ModInt
address_kind (Some (CellPtr s)) = Some (ModPtr s)
address_kind _ = None

-- the kind of a struct's field
abbrev pub field_kind : List StructInfo → ℕ → ℕ → Option FieldKind
field_kind structs s field = slice_get (field_kinds (slice_get structs s)) field

-- what a function's body is checked in: the program, the struct of `self`, the kinds of the variables
pub record Context : Type 0 where
  pub structs : List StructInfo
  pub functions : List TypedFunction
  pub own : Option ℕ
  pub kinds : List Kind

-- the kind of the operand
abbrev pub operand_kind : {n : _} → Row_of-TypedExpr n → Option Kind
operand_kind end_of-TypedExpr = None
operand_kind (more_of-TypedExpr span kind form rest) = kind

-- the form is the address of the first modifiable of a row of this length
abbrev pub FormStartsRow : List StructInfo → ℕ → TypedForm → Type 0
FormStartsRow structs row (Address' _ a s field) = (0 < row) × (row_at structs s field ≡ Some row)
FormStartsRow structs row _ = ⊥

-- the operand is the first modifiable of a row
abbrev pub StartsRow : List StructInfo → ℕ → {n : _} → Row_of-TypedExpr n → Type 0
StartsRow structs row end_of-TypedExpr = ⊥
StartsRow structs row (more_of-TypedExpr span kind form rest) = FormStartsRow structs row form

-- what else the operator asks of its left operand
abbrev pub LeftSuits : List StructInfo → Binary → {n : _} → Row_of-TypedExpr n → Type 0
LeftSuits structs (Pick row) a = StartsRow structs row a
LeftSuits structs op a = Unit {0}

-- an expression of this form has this kind, where these variables are in scope
unfoldable mutual
  pub FormTyped : Context → List ℕ → Option Kind → TypedForm → Type 0
  FormTyped c seen kind (Num n) = kind ≡ Some Int
  FormTyped c seen kind Null = kind ≡ None
  FormTyped c seen kind (Var n) = Contains seen n × IsSome kind × (slice_get c.kinds n ≡ kind)
  FormTyped c seen kind Own = IfSome c.own (λ s. kind ≡ Some (Ptr s)) × IsSome c.own
  FormTyped c seen kind (Unary' op _ a) = OperandTyped c seen a × (operand_kind a ≡ Some Int) × (kind ≡ Some Int)
  FormTyped c seen kind (Binary' op at _ a _ b) =
      OperandTyped c seen a × OperandTyped c seen b × OperandsSuit op (operand_kind a) (operand_kind b)
      × LeftSuits c.structs op a × (kind ≡ kind_given op (operand_kind a))
  FormTyped c seen kind (Field' _ a s field) =
      OperandTyped c seen a × (operand_kind a ≡ Some (Ptr s)) × IsSome kind
      × (plain_kind (field_kind c.structs s field) ≡ kind)
  FormTyped c seen kind (Address' _ a s field) =
      OperandTyped c seen a × (operand_kind a ≡ Some (Ptr s)) × IsSome kind
      × (address_kind (field_kind c.structs s field) ≡ kind)

  -- an operand has its kind
  pub OperandTyped : Context → List ℕ → {n : _} → Row_of-TypedExpr n → Type 0
  OperandTyped c seen end_of-TypedExpr = Unit {0}
  OperandTyped c seen (more_of-TypedExpr span kind form rest) = FormTyped c seen kind form

-- an expression has its kind, where these variables are in scope
abbrev pub ExprTyped : Context → List ℕ → TypedExpr → Type 0
ExprTyped c seen e = FormTyped c seen e.kind e.form

-- the expression is typed, and may be used where the kind is asked
abbrev pub ExprSuits : Context → List ℕ → Kind → TypedExpr → Type 0
ExprSuits c seen asked e = ExprTyped c seen e × Suits asked e.kind

-- each argument may stand for its parameter, and there are as many
abbrev pub ArgsSuit : List Kind → List TypedExpr → Type 0
ArgsSuit [] [] = Unit {0}
ArgsSuit (kind ∷ kinds) (e ∷ es) = Suits kind e.kind × ArgsSuit kinds es
ArgsSuit [] (e ∷ es) = ⊥
ArgsSuit (kind ∷ kinds) [] = ⊥

-- the kinds of the parameters
abbrev pub param_kinds : TypedFunction → List Kind
param_kinds f = take f.params f.kinds

-- arguments of a call; those of an initialiser are not looked at, since no initialiser may be called
abbrev pub CallSuits : Option TypedFunction → List TypedExpr → Type 0
CallSuits None args = ⊥
CallSuits (Some f) args = elim f.initialiser [ None ↦ ArgsSuit (param_kinds f) args | Some s ↦ Unit {0} ]

-- arguments and struct of an `alloc`; those of a core function are not looked at, since none may be named there
abbrev pub AllocSuits : Option TypedFunction → ℕ → List TypedExpr → Type 0
AllocSuits None shape args = ⊥
AllocSuits (Some f) shape args = elim f.initialiser [
  | None ↦ Unit {0}
  | Some s ↦ (s ≡ shape) × ArgsSuit (param_kinds f) args
]

-- a variable of the kind may be given the value
abbrev pub ValueTyped : Context → List ℕ → Kind → TypedValue → Type 0
ValueTyped c seen asked (PlainValue e) = ExprSuits c seen asked e
ValueTyped c seen asked (Read at e) = ExprTyped c seen e × (kind_held e.kind ≡ Some asked)
ValueTyped c seen asked (Alloc at shape f name args) =
    (shape < length c.structs) × (asked ≡ Ptr shape) × All (ExprTyped c seen) args
    × AllocSuits (slice_get c.functions f) shape args
ValueTyped c seen asked (ModrefInt at) = asked ≡ ModInt
ValueTyped c seen asked (Modref at s) = (s < length c.structs) × (asked ≡ ModPtr s)

-- how many declarations there are, at all depths
unfoldable mutual
  pub declarations : TypedStmt → ℕ
  declarations (Declare at n kind value) = 1
  declarations (If' at test _ first _ second) = row_declarations first + row_declarations second
  declarations (While' at test _ body) = row_declarations body
  declarations _ = 0

  -- how many variables the statements of a row declare
  pub row_declarations : {n : _} → Row_of-TypedStmt n → ℕ
  row_declarations end_of-TypedStmt = 0
  row_declarations (more_of-TypedStmt s rest) = declarations s + row_declarations rest

-- how many variables the statements of a list declare
unfoldable pub all_declarations : List TypedStmt → ℕ
all_declarations [] = 0
all_declarations (s ∷ rest) = declarations s + all_declarations rest

-- the variables in scope after the statement, up to the end of its block
abbrev pub seen_after : List ℕ → TypedStmt → List ℕ
seen_after seen (Declare at n kind value) = n ∷ seen
seen_after seen _ = seen

-- the statement is typed where these variables are in scope, and `next` is the number of the next declaration
unfoldable mutual
  pub StmtTyped : Context → List ℕ → ℕ → TypedStmt → Type 0
  StmtTyped c seen next (Declare at n kind value) =
      (n ≡ next) × (slice_get c.kinds n ≡ Some kind) × ValueTyped c seen kind value
  StmtTyped c seen next (Assign at n value) =
      Contains seen n × MatchOption (slice_get c.kinds n) ⊥ (λ kind. ValueTyped c seen kind value)
  StmtTyped c seen next (SetField at left s field e) =
      ExprTyped c seen left × (left.kind ≡ Some (Ptr s))
      × MatchOption (plain_kind (field_kind c.structs s field)) ⊥ (λ kind. ExprSuits c seen kind e)
  StmtTyped c seen next (Write at place e) =
      ExprTyped c seen place × MatchOption (kind_held place.kind) ⊥ (λ kind. ExprSuits c seen kind e)
  StmtTyped c seen next (Call at f args) = All (ExprTyped c seen) args × CallSuits (slice_get c.functions f) args
  StmtTyped c seen next (If' at test _ first _ second) =
      ExprTyped c seen test × (test.kind ≡ Some Int)
      × RowTyped c seen next first × RowTyped c seen (next + row_declarations first) second
  StmtTyped c seen next (While' at test _ body) =
      ExprTyped c seen test × (test.kind ≡ Some Int) × RowTyped c seen next body
  StmtTyped c seen next (Return at) = Unit {0}
  StmtTyped c seen next (Break at) = Unit {0}
  StmtTyped c seen next (Continue at) = Unit {0}

  -- the statements of a row are well typed one after another
  pub RowTyped : Context → List ℕ → ℕ → {n : _} → Row_of-TypedStmt n → Type 0
  RowTyped c seen next end_of-TypedStmt = Unit {0}
  RowTyped c seen next (more_of-TypedStmt s rest) =
      StmtTyped c seen next s × RowTyped c (seen_after seen s) (next + declarations s) rest

-- the statements one after another
unfoldable pub StmtsTyped : Context → List ℕ → ℕ → List TypedStmt → Type 0
StmtsTyped c seen next [] = Unit {0}
StmtsTyped c seen next (s ∷ rest) =
    StmtTyped c seen next s × StmtsTyped c (seen_after seen s) (next + declarations s) rest

-- n - 1 down to 0
abbrev pub numbers_below : ℕ → List ℕ
numbers_below zero = []
numbers_below (suc n) = n ∷ numbers_below n

-- what the statements of a function are typed in
abbrev pub context_of : List StructInfo → List TypedFunction → TypedFunction → Context
context_of structs functions f = record {
  structs = structs;
  functions = functions;
  own = f.initialiser;
  kinds = f.kinds;
}

-- the function is typed: the struct of `self` and those of its variables are there, parameters come first and then
-- the declarations in text order, and the body is typed where the parameters are in scope
pub record FunctionTyped (structs : List StructInfo) (functions : List TypedFunction) (f : TypedFunction) : Type 0 where
  pub own : IfSome f.initialiser (λ s. s < length structs)
  pub kinds : All (KindKnown structs) f.kinds
  pub few : f.params ≤ 255
  pub numbered : f.params + all_declarations f.body ≡ length f.kinds
  pub body : StmtsTyped (context_of structs functions f) (numbers_below f.params) f.params f.body

-- the name of a struct
abbrev pub struct_name : StructInfo → List ℕ
struct_name s = s.name

-- the name of a function
abbrev pub function_name : TypedFunction → List ℕ
function_name f = f.name.text

-- the name of a field
abbrev pub name_of_field : FieldInfo → List ℕ
name_of_field f = f.name

-- the field is a modifiable
abbrev pub IsCell : FieldKind → Type 0
IsCell (Plain kind) = ⊥
IsCell CellInt = Unit {0}
IsCell (CellPtr s) = Unit {0}

-- after the first modifiable of a row come the others, of the same kind
abbrev pub RowWhole : ℕ → FieldKind → List FieldInfo → Type 0
RowWhole zero kind rest = Unit {0}
RowWhole (suc n) kind rest =
    IsCell kind × (n ≤ length rest) × All (λ f. (f.kind ≡ kind) × (f.row ≡ 0)) (take n rest)

-- each row has all its fields
unfoldable pub RowsWhole : List FieldInfo → Type 0
RowsWhole [] = Unit {0}
RowsWhole (f ∷ rest) = RowWhole f.row f.kind rest × RowsWhole rest

-- the struct has at most 255 fields, of different names, whose structs are there, and its rows are whole
pub record StructTyped (structs : List StructInfo) (s : StructInfo) : Type 0 where
  pub few : length s.fields ≤ 255
  pub names : IsDistinct bytes_eq (map name_of_field s.fields)
  pub fields : All (FieldKnown structs) s.fields
  pub rows : RowsWhole s.fields

-- A program is well typed: its names are distinct, and its structs and functions are well typed.
pub record WellTyped (program : Typed) : Type 0 where
  pub struct_names : IsDistinct bytes_eq (map struct_name program.structs)
  pub function_names : IsDistinct bytes_eq (map function_name program.functions)
  pub structs : All (StructTyped program.structs) program.structs
  pub functions : All (FunctionTyped program.structs program.functions) program.functions
