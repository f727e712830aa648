-- A source tree and a program agree: node by node they have one form and one place. Where the
-- tree has a name, the program has the number of what the name stands for: the struct or the function of this
-- name, the field of this name in its struct, or the variable of this name that is in scope there. Which
-- kinds are asked is said by `WellTyped`.
use Rattle.std.specs.Prelude.{◌≡◌, ◌+◌, ◌==◌, ℕ, zero, suc, false, Option, Some, None, List, [], ◌∷◌, ◌++◌, length, map}
use Rattle.std.specs.Prelude.{position, slice_get, if◌then◌else◌}
use Rattle.std.specs.List.{IsDistinct, list_any}
use Rattle.std.specs.Map.{lookup}
use Rattle.std.specs.Str.{bytes_eq}
use Rattle.ceal_base.specs.Shapes.{row_at}
use Rattle.ceal_base.specs.WellTyped.{struct_name, function_name, name_of_field}
use Rattle.ceal_base.specs.declared.fault.Span.{Span}
use Rattle.ceal_base.specs.declared.kind.FieldKind.{FieldKind}
use Rattle.ceal_base.specs.declared.kind.FieldKind.TheVariants.{Plain as PlainField, CellInt, CellPtr}
use Rattle.ceal_base.specs.declared.kind.Kind.{Kind}
use Rattle.ceal_base.specs.declared.kind.Kind.TheVariants.{Int, Ptr, ModInt, ModPtr}
use Rattle.ceal_base.specs.declared.operators.Binary.{Binary}
use Rattle.ceal_base.specs.declared.operators.Binary.TheVariants.{Pick}
use Rattle.ceal_base.specs.declared.syntax.Entry.{Entry}
use Rattle.ceal_base.specs.declared.syntax.Entry.TheVariants.{Struct, Function}
use Rattle.ceal_base.specs.declared.syntax.Expr.{Expr}
use Rattle.ceal_base.specs.declared.syntax.ExprForm.TheBlock.{Row_of-Expr, end_of-Expr, more_of-Expr}
use Rattle.ceal_base.specs.declared.syntax.ExprForm.{ExprForm, Num, Null, Var, Own, Unary', Binary', Field', Address'}
use Rattle.ceal_base.specs.declared.syntax.ExprForm.{Pick'}
use Rattle.ceal_base.specs.declared.syntax.FieldDecl.{FieldDecl}
use Rattle.ceal_base.specs.declared.syntax.FunctionDecl.{FunctionDecl}
use Rattle.ceal_base.specs.declared.syntax.Ident.{Ident}
use Rattle.ceal_base.specs.declared.syntax.Stmt.{Stmt, Declare, Assign, SetField, Write, Call, If', While', Return}
use Rattle.ceal_base.specs.declared.syntax.Stmt.{Break, Continue}
use Rattle.ceal_base.specs.declared.syntax.Stmt.{Row_of-Stmt, end_of-Stmt, more_of-Stmt}
use Rattle.ceal_base.specs.declared.syntax.StructDecl.{StructDecl}
use Rattle.ceal_base.specs.declared.syntax.Tree.{Tree}
use Rattle.ceal_base.specs.declared.syntax.TypeForm.{TypeForm}
use Rattle.ceal_base.specs.declared.syntax.TypeForm.TheVariants as forms
use Rattle.ceal_base.specs.declared.syntax.Value.{Value}
use Rattle.ceal_base.specs.declared.syntax.Value.TheVariants.{Plain, Read, Alloc, ModrefInt, Modref}
use Rattle.ceal_base.specs.declared.typed.FieldInfo.{FieldInfo}
use Rattle.ceal_base.specs.declared.typed.StructInfo.{StructInfo}
use Rattle.ceal_base.specs.declared.typed.Typed.{Typed}
use Rattle.ceal_base.specs.declared.typed.TypedExpr.{TypedExpr}
use Rattle.ceal_base.specs.declared.typed.TypedForm.{TypedForm, Num as NumForm, Null as NullForm, Var as VarForm}
use Rattle.ceal_base.specs.declared.typed.TypedForm.{Own as OwnForm}
use Rattle.ceal_base.specs.declared.typed.TypedForm.TheViews as typed
use Rattle.ceal_base.specs.declared.typed.TypedFunction.{TypedFunction}
use Rattle.ceal_base.specs.declared.typed.TypedStmt.{TypedStmt}
use Rattle.ceal_base.specs.declared.typed.TypedStmt.{Declare as DeclareTyped, Assign as AssignTyped}
use Rattle.ceal_base.specs.declared.typed.TypedStmt.{SetField as SetTyped, Write as WriteTyped, Call as CallTyped}
use Rattle.ceal_base.specs.declared.typed.TypedStmt.{Return as ReturnTyped, Break as BreakTyped}
use Rattle.ceal_base.specs.declared.typed.TypedStmt.{Continue as ContinueTyped}
use Rattle.ceal_base.specs.declared.typed.TypedStmt.TheViews as statements
use Rattle.ceal_base.specs.declared.typed.TypedValue.{TypedValue}
use Rattle.ceal_base.specs.declared.typed.TypedValue.TheVariants.{Plain as PlainTyped, Read as ReadTyped}
use Rattle.ceal_base.specs.declared.typed.TypedValue.TheVariants.{Alloc as AllocTyped, ModrefInt as ModrefIntTyped}
use Rattle.ceal_base.specs.declared.typed.TypedValue.TheVariants.{Modref as ModrefTyped}
use Rattle.ceal_types.specs.Numbers.{or_second}
use Rattle.ceal_types.specs.Tables.{Name, element_name}

-- the variables in scope, with their numbers
abbrev pub Environment : Type 0
Environment = List (Name × ℕ)

-- the name is at this number among names
abbrev pub StandsAt : List Name → Ident → ℕ → Type 0
StandsAt names name n = position (bytes_eq name.text) names ≡ Some n

-- none of the names is this one
abbrev pub IsNew : List Name → Name → Type 0
IsNew names name = list_any (bytes_eq name) names ≡ false

-- the name is that of struct s
abbrev pub IsStruct : Typed → Ident → ℕ → Type 0
IsStruct p name s = StandsAt (map struct_name p.structs) name s

-- the name is that of function f
abbrev pub IsFunction : Typed → Ident → ℕ → Type 0
IsFunction p name f = StandsAt (map function_name p.functions) name f

-- the name is that of variable n
abbrev pub IsVariable : Environment → Ident → ℕ → Type 0
IsVariable scope name n = lookup (bytes_eq name.text) scope ≡ Some n

-- the names of a struct's fields, none of a number without a struct
abbrev pub field_names : Option StructInfo → List Name
field_names None = []
field_names (Some s) = map name_of_field s.fields

-- the field of this name, or else the first one of the row of this name
abbrev pub member_number : List Name → Name → Option ℕ
member_number names name = or_second (position (bytes_eq name) names) (position (bytes_eq (element_name name 0)) names)

-- the name is that of this field of struct s, at which a row of this length begins, 0 where none does
abbrev pub IsMember : Typed → ℕ → Ident → ℕ → ℕ → Type 0
IsMember p s name f row =
    (member_number (field_names (slice_get p.structs s)) name.text ≡ Some f) × (row_at p.structs s f ≡ Some row)

-- the type is this kind; a source text gives embedded modifiables only to fields
abbrev pub IsKind : Typed → TypeForm → Kind → Type 0
IsKind p forms.Int kind = kind ≡ Int
IsKind p (forms.Ptr name) kind = (s : ℕ) × IsStruct p name s × (kind ≡ Ptr s)
IsKind p forms.ModInt kind = kind ≡ ModInt
IsKind p (forms.ModPtr name) kind = (s : ℕ) × IsStruct p name s × (kind ≡ ModPtr s)
IsKind p forms.CellInt kind = kind ≡ ModInt
IsKind p (forms.CellPtr name) kind = (s : ℕ) × IsStruct p name s × (kind ≡ ModPtr s)
IsKind p (forms.CellRow row) kind = kind ≡ ModInt
IsKind p (forms.CellPtrRow name row) kind = (s : ℕ) × IsStruct p name s × (kind ≡ ModPtr s)

-- the type of a field is this kind
abbrev pub IsFieldKind : Typed → TypeForm → FieldKind → Type 0
IsFieldKind p forms.Int kind = kind ≡ PlainField Int
IsFieldKind p (forms.Ptr name) kind = (s : ℕ) × IsStruct p name s × (kind ≡ PlainField (Ptr s))
IsFieldKind p forms.ModInt kind = kind ≡ PlainField ModInt
IsFieldKind p (forms.ModPtr name) kind = (s : ℕ) × IsStruct p name s × (kind ≡ PlainField (ModPtr s))
IsFieldKind p forms.CellInt kind = kind ≡ CellInt
IsFieldKind p (forms.CellPtr name) kind = (s : ℕ) × IsStruct p name s × (kind ≡ CellPtr s)
IsFieldKind p (forms.CellRow row) kind = kind ≡ CellInt
IsFieldKind p (forms.CellPtrRow name row) kind = (s : ℕ) × IsStruct p name s × (kind ≡ CellPtr s)

-- the expression begins at this token and has this form
abbrev pub IsForm : Span → TypedForm → TypedExpr → Type 0
IsForm at form x = (x.span ≡ at) × (x.form ≡ form)

-- an operator with its own sign; an index is none
abbrev pub IsSign : Binary → Type 0
IsSign (Pick row) = ⊥
IsSign op = Unit {0}

-- an expression of the source and one of the program agree, where these variables are in scope
unfoldable mutual
  pub FormResolves : Typed → Environment → Span → ExprForm → TypedExpr → Type 0
  FormResolves p scope at (Num n) x = IsForm at (NumForm n) x
  FormResolves p scope at Null x = IsForm at NullForm x
  FormResolves p scope at (Var name) x = (n : ℕ) × IsVariable scope name n × IsForm at (VarForm n) x
  FormResolves p scope at Own x = IsForm at OwnForm x
  FormResolves p scope at (Unary' op _ a) x =
      (y : TypedExpr) × OperandResolves p scope a y × IsForm at (typed.Unary op y) x
  FormResolves p scope at (Binary' op sign _ a _ b) x =
      (y : TypedExpr) × (z : TypedExpr) × IsSign op × OperandResolves p scope a y × OperandResolves p scope b z
      × IsForm at (typed.Binary op sign y z) x
  FormResolves p scope at (Field' _ a name) x =
      (y : TypedExpr) × (s : ℕ) × (f : ℕ) × (row : ℕ) × OperandResolves p scope a y × IsMember p s name f row
      × IsForm at (typed.Field y s f) x
  -- `&` of a field, which is no row
  FormResolves p scope at (Address' _ (more_of-Expr span (Field' _ a name) rest)) x =
      (y : TypedExpr) × (s : ℕ) × (f : ℕ) × OperandResolves p scope a y × IsMember p s name f 0
      × IsForm at (typed.Address y s f) x
  FormResolves p scope at (Address' _ a) x = ⊥
  -- `&` of an element of a row
  FormResolves p scope at (Pick' _ (more_of-Expr span (Field' _ a name) rest) _ i) x =
      (y : TypedExpr) × (z : TypedExpr) × (w : TypedExpr) × (s : ℕ) × (f : ℕ) × (row : ℕ)
      × OperandResolves p scope a y × OperandResolves p scope i z
      × IsMember p s name f row × IsForm at (typed.Address y s f) w
      × IsForm at (typed.Binary (Pick row) name.span w z) x
  FormResolves p scope at (Pick' _ a _ i) x = ⊥

  -- the same of an operand; one that is not there, as in no source text, counts as `null`
  pub OperandResolves : Typed → Environment → {n : _} → Row_of-Expr n → TypedExpr → Type 0
  OperandResolves p scope end_of-Expr x = IsForm (record { from = 0; to = 0 }) NullForm x
  OperandResolves p scope (more_of-Expr span form rest) x = FormResolves p scope span form x

-- the same of whole expressions
abbrev pub ExprResolves : Typed → Environment → Expr → TypedExpr → Type 0
ExprResolves p scope e x = FormResolves p scope e.span e.form x

-- the same of arguments, one by one
abbrev pub ExprsResolve : Typed → Environment → List Expr → List TypedExpr → Type 0
ExprsResolve p scope [] [] = Unit {0}
ExprsResolve p scope (e ∷ es) (x ∷ xs) = ExprResolves p scope e x × ExprsResolve p scope es xs
ExprsResolve p scope [] (x ∷ xs) = ⊥
ExprsResolve p scope (e ∷ es) [] = ⊥

-- the same of what a variable is given
abbrev pub ValueResolves : Typed → Environment → Value → TypedValue → Type 0
ValueResolves p scope (Plain e) v = (x : TypedExpr) × ExprResolves p scope e x × (v ≡ PlainTyped x)
ValueResolves p scope (Read at e) v = (x : TypedExpr) × ExprResolves p scope e x × (v ≡ ReadTyped at x)
ValueResolves p scope (Alloc at structure name args) v =
    (s : ℕ) × (f : ℕ) × (xs : List TypedExpr) × IsStruct p structure s × IsFunction p name f
    × ExprsResolve p scope args xs
    × (v ≡ AllocTyped at s f name.span xs)
ValueResolves p scope (ModrefInt at) v = v ≡ ModrefIntTyped at
ValueResolves p scope (Modref at structure) v = (s : ℕ) × IsStruct p structure s × (v ≡ ModrefTyped at s)

-- the variables in scope with the one that a statement declares, under this name
abbrev pub declared : Environment → Name → TypedStmt → Environment
declared scope name (DeclareTyped at n kind v) = scope ++ (name, n) ∷ []
declared scope name t = scope

-- a declared variable is in scope from the next statement on
abbrev pub in_scope : Environment → Stmt → TypedStmt → Environment
in_scope scope (Declare at form name value) t = declared scope name.text t
in_scope scope s t = scope

-- a statement of the source and one of the program agree, where these variables are in scope; no declared name is in
-- scope, and what a block declares is in scope up to its end
unfoldable mutual
  pub StmtResolves : Typed → Environment → Stmt → TypedStmt → Type 0
  StmtResolves p scope (Declare at form name value) t =
      (n : ℕ) × (kind : Kind) × (v : TypedValue) × IsKind p form kind × (lookup (bytes_eq name.text) scope ≡ None)
      × ValueResolves p scope value v × (t ≡ DeclareTyped at n kind v)
  StmtResolves p scope (Assign name value) t =
      (n : ℕ) × (v : TypedValue) × IsVariable scope name n × ValueResolves p scope value v
      × (t ≡ AssignTyped name.span n v)
  StmtResolves p scope (SetField at left name e) t =
      (y : TypedExpr) × (s : ℕ) × (f : ℕ) × (row : ℕ) × (x : TypedExpr) × ExprResolves p scope left y
      × IsMember p s name f row
      × ExprResolves p scope e x × (t ≡ SetTyped at y s f x)
  StmtResolves p scope (Write at place e) t =
      (y : TypedExpr) × (x : TypedExpr) × ExprResolves p scope place y × ExprResolves p scope e x
      × (t ≡ WriteTyped at y x)
  StmtResolves p scope (Call name args) t =
      (f : ℕ) × (xs : List TypedExpr) × IsFunction p name f × ExprsResolve p scope args xs
      × (t ≡ CallTyped name.span f xs)
  StmtResolves p scope (If' at test _ first _ second) t =
      (x : TypedExpr) × (ts : List TypedStmt) × (us : List TypedStmt) × ExprResolves p scope test x
      × RowResolves p scope first ts
      × RowResolves p scope second us × (t ≡ statements.If at x ts us)
  StmtResolves p scope (While' at test _ body) t =
      (x : TypedExpr) × (ts : List TypedStmt) × ExprResolves p scope test x × RowResolves p scope body ts
      × (t ≡ statements.While at x ts)
  StmtResolves p scope (Return at) t = t ≡ ReturnTyped at
  StmtResolves p scope (Break at) t = t ≡ BreakTyped at
  StmtResolves p scope (Continue at) t = t ≡ ContinueTyped at

  -- the same of the statements of a block
  pub RowResolves : Typed → Environment → {n : _} → Row_of-Stmt n → List TypedStmt → Type 0
  RowResolves p scope end_of-Stmt [] = Unit {0}
  RowResolves p scope (more_of-Stmt s rest) (t ∷ ts) =
      StmtResolves p scope s t × RowResolves p (in_scope scope s t) rest ts
  RowResolves p scope end_of-Stmt (t ∷ ts) = ⊥
  RowResolves p scope (more_of-Stmt s rest) [] = ⊥

-- the same of the statements of a body
abbrev pub StmtsResolve : Typed → Environment → List Stmt → List TypedStmt → Type 0
StmtsResolve p scope [] [] = Unit {0}
StmtsResolve p scope (s ∷ ss) (t ∷ ts) = StmtResolves p scope s t × StmtsResolve p (in_scope scope s t) ss ts
StmtsResolve p scope [] (t ∷ ts) = ⊥
StmtsResolve p scope (s ∷ ss) [] = ⊥

-- the fields of a member: itself, or the elements of the row that it is
unfoldable pub elements : Name → FieldKind → ℕ → ℕ → List FieldInfo
elements name kind row zero = []
elements name kind row (suc i) =
    elements name kind row i ++ record { name = element_name name i; kind = kind; row = if i == 0 then row else 0 } ∷ []

-- the fields that a member of this type has
abbrev pub member_fields : TypeForm → Name → FieldKind → List FieldInfo
member_fields (forms.CellRow row) name kind = elements name kind row row
member_fields (forms.CellPtrRow s row) name kind = elements name kind row row
member_fields form name kind = record { name = name; kind = kind; row = 0 } ∷ []

-- the members of a struct after some fields: no field before has a member's name, and no row before
abbrev pub MembersResolve : Typed → List Name → List FieldDecl → List FieldInfo → Type 0
MembersResolve p before [] fields = fields ≡ []
MembersResolve p before (d ∷ ds) fields =
    (kind : FieldKind) × (rest : List FieldInfo) × IsFieldKind p d.form kind × IsNew before d.name.text
    × IsNew before (element_name d.name.text 0)
    × (fields ≡ member_fields d.form d.name.text kind ++ rest)
    × MembersResolve p (before ++ map name_of_field (member_fields d.form d.name.text kind)) ds rest

-- a struct of the source and one of the program agree
abbrev pub StructResolves : Typed → StructDecl → StructInfo → Type 0
StructResolves p s t = (t.name ≡ s.name.text) × MembersResolve p [] s.fields t.fields

-- the name of a parameter
abbrev pub declared_name : FieldDecl → Name
declared_name d = d.name.text

-- names with numbers from n on
abbrev pub numbered_from : ℕ → List Name → Environment
numbered_from n [] = []
numbered_from n (name ∷ names) = (name, n) ∷ numbered_from (n + 1) names

-- the types of the parameters are the first kinds
abbrev pub ParametersResolve : Typed → List FieldDecl → List Kind → Type 0
ParametersResolve p [] kinds = Unit {0}
ParametersResolve p (d ∷ ds) (kind ∷ kinds) = IsKind p d.form kind × ParametersResolve p ds kinds
ParametersResolve p (d ∷ ds) [] = ⊥

-- the struct of `self`, only of an initialiser
abbrev pub OwnResolves : Typed → Option Ident → Option ℕ → Type 0
OwnResolves p None None = Unit {0}
OwnResolves p (Some name) (Some s) = IsStruct p name s
OwnResolves p None (Some s) = ⊥
OwnResolves p (Some name) None = ⊥

-- a function of the source and one of the program agree: parameters are numbered from 0, and are in scope in the body
pub record FunctionResolves (p : Typed) (f : FunctionDecl) (g : TypedFunction) : Type 0 where
  pub own : OwnResolves p f.initialiser g.initialiser
  pub name : g.name ≡ f.name
  pub count : g.params ≡ length f.params
  pub names : IsDistinct bytes_eq (map declared_name f.params)
  pub parameters : ParametersResolve p f.params g.kinds
  pub body : StmtsResolve p (numbered_from 0 (map declared_name f.params)) f.body g.body
  pub close : g.close ≡ f.close

-- entries, and structs and functions in text order
abbrev pub EntriesResolve : Typed → List Entry → List StructInfo → List TypedFunction → Type 0
EntriesResolve p [] [] [] = Unit {0}
EntriesResolve p (Struct s ∷ entries) (t ∷ structs) functions =
    StructResolves p s t × EntriesResolve p entries structs functions
EntriesResolve p (Function f ∷ entries) structs (g ∷ functions) =
    FunctionResolves p f g × EntriesResolve p entries structs functions
EntriesResolve p _ _ _ = ⊥

-- A tree and a program agree.
abbrev pub Resolves : Tree → Typed → Type 0
Resolves tree p = EntriesResolve p tree.entries p.structs p.functions
