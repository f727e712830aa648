-- The numbers of structs and functions by their names.
use Rattle.std.specs.Prelude.{◌≡◌, ℕ, Bool, Option, Some, None, List, position, bytes_eq, if◌then◌else◌}
use Rattle.std.specs.Map.{lookup}
use Rattle.ceal_base.specs.declared.typed.StructInfo.{StructInfo}
use Rattle.ceal_base.specs.declared.typed.TypedFunction.{TypedFunction}
use Rattle.ceal_types.specs.Tables.{Name}

-- the number of the first struct of a name, counted in text order
abbrev pub struct_numbered : List StructInfo → Name → Option ℕ
struct_numbered structs name = position (λ (s : StructInfo). bytes_eq s.name name) structs

-- and of the first function
abbrev pub function_numbered : List TypedFunction → Name → Option ℕ
function_numbered functions name = position (λ (f : TypedFunction). bytes_eq f.name.text name) functions

-- the first, or else the second
abbrev pub or_second : Option ℕ → Option ℕ → Option ℕ
or_second None other = other
or_second (Some number) other = Some number

-- the number, where it is of the name that is looked for
abbrev pub number_if : Bool → ℕ → Option ℕ
number_if same number = if same then Some number else None

-- the table has under each name the number that the name has
abbrev pub IsNumbering : List (Name × ℕ) → (Name → Option ℕ) → Type 0
IsNumbering table number = (name : Name) → lookup (bytes_eq name) table ≡ number name
