-- Parts of what a frame has to do that wait, the last one first.
use Rattle.std.specs.Prelude.{Option, Some, None, List, [], ◌∷◌, ◌++◌, map}
use Rattle.ceal_base.specs.declared.typed.TypedStmt.{TypedStmt}
use Rattle.ceal_mean.specs.Frame.{Item, Do, Again, statement_of}
use Rattle.ceal_mean.specs.declared.todo.Part.{Part}
use Rattle.ceal_mean.specs.declared.todo.Part.TheVariants.{Body, Turn}

-- the items of a part: the statements of a body, or one more turn of a loop
abbrev pub items_of : Part → List Item
items_of (Body ss) = map Do ss.now
items_of (Turn w) = Again w.now ∷ []

-- the items of the parts, of the last part first
unfoldable pub joined : List Part → List Item
joined [] = []
joined (part ∷ parts) = joined parts ++ items_of part

-- the first statement, and the items after it
pub record Next : Type 0 where
  pub stmt : TypedStmt
  pub rest : List Item

-- the first statement, and what is left
abbrev pub first_of : List Item → Option Next
first_of [] = None
first_of (item ∷ rest) = Some (record { stmt = statement_of item; rest = rest })
