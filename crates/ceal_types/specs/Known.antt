-- What a tree says of its names and types, whether it has faults or not: what its entries declare, and the types of its
-- expressions as far as they are known.
use Rattle.std.specs.Prelude.{ℕ, Option, Some, None, List, [], ◌∷◌, ◌++◌, map, position, slice_get}
use Rattle.std.specs.Map.{lookup}
use Rattle.std.specs.Option.{option_map, option_and_then, option_flatten}
use Rattle.std.specs.Result.{result_ok}
use Rattle.std.specs.Str.{bytes_eq}
use Rattle.ceal_base.specs.WellTyped.{plain_kind, address_kind, name_of_field}
use Rattle.ceal_base.specs.declared.fault.Span.{Span}
use Rattle.ceal_base.specs.declared.kind.FieldKind.{FieldKind}
use Rattle.ceal_base.specs.declared.kind.Kind.{Kind}
use Rattle.ceal_base.specs.declared.kind.Kind.TheVariants.{Int, Ptr}
use Rattle.ceal_base.specs.declared.operators.Binary.{Binary}
use Rattle.ceal_base.specs.declared.operators.Binary.TheVariants.{Pick}
use Rattle.ceal_base.specs.declared.syntax.Entry.{Entry}
use Rattle.ceal_base.specs.declared.syntax.Entry.TheVariants.{Struct, Function}
use Rattle.ceal_base.specs.declared.syntax.Expr.{Expr}
use Rattle.ceal_base.specs.declared.syntax.ExprForm.TheBlock.{Row_of-Expr, end_of-Expr, more_of-Expr}
use Rattle.ceal_base.specs.declared.syntax.ExprForm.{ExprForm, Num, Null, Var, Own, Unary', Binary', Field', Address'}
use Rattle.ceal_base.specs.declared.syntax.ExprForm.{Pick'}
use Rattle.ceal_base.specs.declared.syntax.FieldDecl.{FieldDecl}
use Rattle.ceal_base.specs.declared.syntax.FunctionDecl.{FunctionDecl}
use Rattle.ceal_base.specs.declared.syntax.Ident.{Ident}
use Rattle.ceal_base.specs.declared.syntax.TypeForm.{TypeForm}
use Rattle.ceal_base.specs.declared.typed.FieldInfo.{FieldInfo}
use Rattle.ceal_types.specs.Heads.{kind_of, field_kind_of, struct_names}
use Rattle.ceal_types.specs.Resolves.{member_fields, member_number}
use Rattle.ceal_types.specs.Tables.{Name, value_at}

-- What is known of a type: a kind, or no kind, as of `null`; nothing where a fault hides it.
abbrev pub Known : Type 0
Known = Option (Option Kind)

-- what is known of the type of a variable or parameter: nothing where it names a struct that is not there
abbrev pub variable_type : List Name → TypeForm → Known
variable_type names form = option_map Some (result_ok (kind_of names form))

-- the fields of a member: itself, or those of a row; none where its type names a struct that is not there
abbrev pub fields_of_member : List Name → FieldDecl → List FieldInfo
fields_of_member names d = elim (result_ok (field_kind_of names d.form)) [
  | None ↦ []
  | Some kind ↦ member_fields d.form d.name.text kind
]

-- the fields of a struct: those of its members
unfoldable pub fields_in : List Name → List FieldDecl → List FieldInfo
fields_in names [] = []
fields_in names (d ∷ ds) = fields_of_member names d ++ fields_in names ds

-- the structs of entries by name, with their fields
unfoldable pub structs_in : List Name → List Entry → List (Name × List FieldInfo)
structs_in names [] = []
structs_in names (Struct s ∷ entries) = (s.name.text, fields_in names s.fields) ∷ structs_in names entries
structs_in names (Function f ∷ entries) = structs_in names entries

-- the functions of entries by name
unfoldable pub functions_in : List Entry → List (Name × FunctionDecl)
functions_in [] = []
functions_in (Struct s ∷ entries) = functions_in entries
functions_in (Function f ∷ entries) = (f.name.text, f) ∷ functions_in entries

-- What a program declares: the names of its structs, each of them once, by which structs are numbered; its structs and
-- its functions.
pub record Declared : Type 0 where
  pub names : List Name
  pub structs : List (Name × List FieldInfo)
  pub functions : List (Name × FunctionDecl)

-- what these entries declare
abbrev pub declared_in : List Entry → Declared
declared_in entries = let names = struct_names entries [] in record {
  names = names;
  structs = structs_in names entries;
  functions = functions_in entries;
}

-- What an expression is typed in: what the program declares, the struct of `self`, named only by an initialiser, and
-- the variables in scope.
pub record TypingContext : Type 0 where
  pub declared : Declared
  pub initialiser : Option Ident
  pub scope : List (Name × Known)

-- the type of a pointer to the struct of this name, by the constructor of the kind
abbrev pub pointer_type : (ℕ → Kind) → List Name → Ident → Known
pointer_type make names name = option_map (λ s. Some (make s)) (position (bytes_eq name.text) names)

-- the member of this name among fields: its first field
abbrev pub member_named : Name → List FieldInfo → Option FieldInfo
member_named name fields = option_and_then (slice_get fields) (member_number (map name_of_field fields) name)

-- the member of this name where an expression of this type is before `->`
abbrev pub member_of_kind : Declared → Option Kind → Name → Option FieldInfo
member_of_kind d (Some (Ptr s)) name = option_and_then (member_named name) (value_at d.structs s)
member_of_kind d _ name = None

-- the same where the type may be unknown
abbrev pub member_known : Declared → Known → Name → Option FieldInfo
member_known d type name = option_and_then (λ kind. member_of_kind d kind name) type

-- the type of a field
abbrev pub type_of_field : FieldInfo → FieldKind
type_of_field f = f.kind

-- the type of the value of a member, if it is a plain field
abbrev pub value_type : Option FieldInfo → Known
value_type m = option_map Some (plain_kind (option_map type_of_field m))

-- the type of the address of a member, or of an element of it, if it is a modifiable or a row
abbrev pub place_type : Option FieldInfo → Known
place_type m = option_map Some (address_kind (option_map type_of_field m))

-- the type of what an operator gives; an index is none
abbrev pub operation_type : Binary → Known
operation_type (Pick row) = None
operation_type op = Some (Some Int)

-- where an operand begins; one that is not there, as in no source text, counts as `null`
abbrev pub operand_span : {n : _} → Row_of-Expr n → Span
operand_span end_of-Expr = record { from = 0; to = 0 }
operand_span (more_of-Expr span form rest) = span

-- the type of an expression of this form
unfoldable mutual
  pub form_type : TypingContext → ExprForm → Known
  form_type c (Num n) = Some (Some Int)
  form_type c Null = Some None
  form_type c (Var name) = option_flatten (lookup (bytes_eq name.text) c.scope)
  form_type c Own = option_and_then (pointer_type Ptr c.declared.names) c.initialiser
  form_type c (Unary' op _ a) = Some (Some Int)
  form_type c (Binary' op sign _ a _ b) = operation_type op
  form_type c (Field' _ a name) = value_type (member_known c.declared (operand_type c a) name.text)
  form_type c (Address' _ (more_of-Expr span (Field' _ a name) rest)) =
      place_type (member_known c.declared (operand_type c a) name.text)
  form_type c (Address' _ a) = None
  form_type c (Pick' _ (more_of-Expr span (Field' _ a name) rest) _ i) =
      place_type (member_known c.declared (operand_type c a) name.text)
  form_type c (Pick' _ a _ i) = None

  -- the type of an operand
  pub operand_type : TypingContext → {n : _} → Row_of-Expr n → Known
  operand_type c end_of-Expr = Some None
  operand_type c (more_of-Expr span form rest) = form_type c form

-- the type of an expression
abbrev pub type_of : TypingContext → Expr → Known
type_of c e = form_type c e.form
