-- The heads of a program's entries: the names of its structs and functions, their fields and their parameters.
use Rattle.std.specs.Prelude.{ℕ, zero, suc, ◌==◌, ◌||◌, Bool, Option, Some, None, Result, Ok, List, [], ◌∷◌, ◌++◌}
use Rattle.std.specs.Prelude.{length, position, if◌then◌else◌}
use Rattle.std.specs.Str.{bytes_eq}
use Rattle.ceal_base.specs.declared.fault.Fault.{Fault}
use Rattle.ceal_base.specs.declared.fault.FaultCode.TheVariants.{N1, N2}
use Rattle.ceal_base.specs.declared.kind.FieldKind.{FieldKind}
use Rattle.ceal_base.specs.declared.kind.FieldKind.TheVariants.{Plain, CellInt, CellPtr}
use Rattle.ceal_base.specs.declared.kind.Kind.{Kind}
use Rattle.ceal_base.specs.declared.kind.Kind.TheVariants as kinds
use Rattle.ceal_base.specs.declared.syntax.Entry.{Entry}
use Rattle.ceal_base.specs.declared.syntax.Entry.TheVariants.{Struct, Function}
use Rattle.ceal_base.specs.declared.syntax.FieldDecl.{FieldDecl}
use Rattle.ceal_base.specs.declared.syntax.FunctionDecl.{FunctionDecl}
use Rattle.ceal_base.specs.declared.syntax.Ident.{Ident}
use Rattle.ceal_base.specs.declared.syntax.TypeForm.{TypeForm}
use Rattle.ceal_base.specs.declared.syntax.TypeForm.TheVariants as forms
use Rattle.ceal_types.specs.Tables.{Name, has, with_name, element_name}
use Rattle.ceal_types.specs.Walk.{fault, after, result_map, in_turn}
use Rattle.ceal_types.specs.declared.program.Field.{Field}
use Rattle.ceal_types.specs.declared.program.Head.{Head}
use Rattle.ceal_types.specs.declared.program.Program.{Program}
use Rattle.ceal_types.specs.declared.program.Variables.{Variables}

-- the number of the struct of this name
abbrev pub number_or_fault : Ident → Option ℕ → Result ℕ Fault
number_or_fault name None = fault N1 name.span
number_or_fault name (Some n) = Ok n

-- the number of the struct with the name
abbrev pub struct_number : List Name → Ident → Result ℕ Fault
struct_number names name = number_or_fault name (position (bytes_eq name.text) names)

-- the type of a variable or parameter; a source text gives embedded modifiables only to fields, and in a tree with
-- one elsewhere it is a pointer to that modifiable
abbrev pub kind_of : List Name → TypeForm → Result Kind Fault
kind_of names forms.Int = Ok kinds.Int
kind_of names (forms.Ptr name) = result_map kinds.Ptr (struct_number names name)
kind_of names forms.ModInt = Ok kinds.ModInt
kind_of names (forms.ModPtr name) = result_map kinds.ModPtr (struct_number names name)
kind_of names forms.CellInt = Ok kinds.ModInt
kind_of names (forms.CellPtr name) = result_map kinds.ModPtr (struct_number names name)
kind_of names (forms.CellRow row) = Ok kinds.ModInt
kind_of names (forms.CellPtrRow name row) = result_map kinds.ModPtr (struct_number names name)

-- a plain field that points to struct s
abbrev pub plain_pointer : ℕ → FieldKind
plain_pointer s = Plain (kinds.Ptr s)

-- a plain field with the address of a modifiable that points to struct s
abbrev pub plain_place : ℕ → FieldKind
plain_place s = Plain (kinds.ModPtr s)

-- the kind of a field, by the form of its type
abbrev pub field_kind_of : List Name → TypeForm → Result FieldKind Fault
field_kind_of names forms.Int = Ok (Plain kinds.Int)
field_kind_of names (forms.Ptr name) = result_map plain_pointer (struct_number names name)
field_kind_of names forms.ModInt = Ok (Plain kinds.ModInt)
field_kind_of names (forms.ModPtr name) = result_map plain_place (struct_number names name)
field_kind_of names forms.CellInt = Ok CellInt
field_kind_of names (forms.CellPtr name) = result_map CellPtr (struct_number names name)
field_kind_of names (forms.CellRow row) = Ok CellInt
field_kind_of names (forms.CellPtrRow name row) = result_map CellPtr (struct_number names name)

-- the length of the row that a field of this type is
abbrev pub row_of : TypeForm → Option ℕ
row_of (forms.CellRow row) = Some row
row_of (forms.CellPtrRow name row) = Some row
row_of form = None

-- a field or a row has the name
abbrev pub has_member : List (Name × Field) → Name → Bool
has_member fields name = has fields name || has fields (element_name name 0)

-- the length of the row that begins at its element of this number
abbrev pub row_at : ℕ → ℕ → ℕ
row_at row i = if i == 0 then row else 0

-- one more element of a row
abbrev pub with_element : Ident → FieldKind → ℕ → ℕ → List (Name × Field) → Result (List (Name × Field)) Fault
with_element name kind row i fields =
    if has fields (element_name name.text i) then fault N2 name.span
    else Ok (fields ++ (element_name name.text i, record { kind = kind; row = row_at row i }) ∷ [])

-- the first elements of a row, as many as are given
unfoldable pub with_elements : Ident → FieldKind → ℕ → ℕ → List (Name × Field) → Result (List (Name × Field)) Fault
with_elements name kind row zero fields = Ok fields
with_elements name kind row (suc i) fields = after (with_element name kind row i) (with_elements name kind row i fields)

-- a new field, or the elements of a new row
abbrev pub added_field : Ident → Option ℕ → List (Name × Field) → FieldKind → Result (List (Name × Field)) Fault
added_field name None fields kind = Ok (fields ++ (name.text, record { kind = kind; row = 0 }) ∷ [])
added_field name (Some row) fields kind = with_elements name kind row row fields

-- one more field: the struct's name in its type, and then its own name
abbrev pub new_field : Ident → Option ℕ → List (Name × Field) → FieldKind → Result (List (Name × Field)) Fault
new_field name row fields kind =
    if has_member fields name.text then fault N2 name.span else added_field name row fields kind

-- the fields of a struct with one more
unfoldable pub with_field : List Name → FieldDecl → List (Name × Field) → Result (List (Name × Field)) Fault
with_field names d fields = after (new_field d.name (row_of d.form) fields) (field_kind_of names d.form)

-- the variables with one more, which is in scope and has the next number
abbrev pub with_variable : Variables → Name → Kind → Variables
with_variable v name kind = record {
  scope = v.scope ++ (name, record { number = length v.kinds; kind = kind }) ∷ [];
  kinds = v.kinds ++ kind ∷ [];
}

-- one more parameter: the struct's name in its type, and then its own name
abbrev pub new_parameter : Ident → Variables → Kind → Result Variables Fault
new_parameter name v kind = if has v.scope name.text then fault N2 name.span else Ok (with_variable v name.text kind)

-- the parameters of a function with one more
unfoldable pub with_parameter : List Name → FieldDecl → Variables → Result Variables Fault
with_parameter names d v = after (new_parameter d.name v) (kind_of names d.form)

-- the struct of `self`, only of an initialiser
abbrev pub own_of : List Name → Option Ident → Result (Option ℕ) Fault
own_of names None = Ok None
own_of names (Some name) = result_map Some (struct_number names name)

-- no variables
abbrev pub no_variables : Variables
no_variables = record { scope = []; kinds = [] }

-- the head of a function: the struct of an initialiser, and the parameters
abbrev pub head : Option ℕ → Variables → Head
head own v = record { own = own; parameters = v }

-- the head of a function with these parameters, or the first fault in them
abbrev pub with_parameters : List Name → List FieldDecl → Option ℕ → Result Head Fault
with_parameters names params own = result_map (head own) (in_turn (with_parameter names) params no_variables)

-- a function's head: the struct of `self`, and then the parameters
unfoldable pub head_of : List Name → FunctionDecl → Result Head Fault
head_of names f = after (with_parameters names f.params) (own_of names f.initialiser)

-- the program with one more struct
abbrev pub with_struct : Program → Name → List (Name × Field) → Program
with_struct p name fields = record p { structs = p.structs ++ (name, fields) ∷ [] }

-- the program with one more function
abbrev pub with_function : Program → Name → Head → Program
with_function p name f = record p { functions = p.functions ++ (name, f) ∷ [] }

-- one more entry: its name, which no earlier one of its sort has, and then its fields or its head
unfoldable pub with_entry : Entry → Program → Result Program Fault
with_entry (Struct s) p =
    if has p.structs s.name.text then fault N2 s.name.span
    else result_map (with_struct p s.name.text) (in_turn (with_field p.names) s.fields [])
with_entry (Function f) p =
    if has p.functions f.name.text then fault N2 f.name.span
    else result_map (with_function p f.name.text) (head_of p.names f)

-- the names of structs with this one, each of them once
abbrev pub with_struct_name : Entry → List Name → List Name
with_struct_name (Struct s) names = with_name names s.name.text
with_struct_name (Function f) names = names

-- the names of all structs, which may be used before they are defined
unfoldable pub struct_names : List Entry → List Name → List Name
struct_names [] names = names
struct_names (e ∷ rest) names = struct_names rest (with_struct_name e names)

-- the program without entries, where structs have these names
abbrev pub no_entries : List Name → Program
no_entries names = record { names = names; structs = []; functions = [] }

-- the heads of all entries
unfoldable pub heads : List Entry → Result Program Fault
heads entries = in_turn with_entry entries (no_entries (struct_names entries []))
