-- A tree whose lists of fields and of parameters are no longer than a source text may have them.
use Rattle.std.specs.Prelude.{ℕ, ◌+◌, ◌≤◌, Option, Some, None, List, [], ◌∷◌, length, All}
use Rattle.ceal_base.specs.declared.syntax.Entry.{Entry}
use Rattle.ceal_base.specs.declared.syntax.Entry.TheVariants.{Struct, Function}
use Rattle.ceal_base.specs.declared.syntax.FieldDecl.{FieldDecl}
use Rattle.ceal_base.specs.declared.syntax.Tree.{Tree}
use Rattle.ceal_types.specs.Heads.{row_of}

-- a row counts as its length
abbrev pub width : Option ℕ → ℕ
width None = 1
width (Some row) = row

-- how many fields the members have, each row as many as its length
unfoldable pub fields_in : List FieldDecl → ℕ
fields_in [] = 0
fields_in (d ∷ ds) = width (row_of d.form) + fields_in ds

-- at most 255 fields or parameters
abbrev pub IsShort : Entry → Type 0
IsShort (Struct s) = fields_in s.fields ≤ 255
IsShort (Function f) = length f.params ≤ 255

-- Each list of a tree is within the limits.
abbrev pub HasShortLists : Tree → Type 0
HasShortLists tree = All IsShort tree.entries
