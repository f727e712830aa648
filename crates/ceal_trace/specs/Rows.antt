-- What contracts see of a table: a row for each number of a stamp.
use Rattle.std.specs.Prelude.{ℕ, List, Bool, slice_index_or, false}
use Rattle.ceal_trace.specs.declared.node.Node.{Node}
use Rattle.ceal_trace.specs.declared.node.Node.TheVariants.{Root}

-- stands for no stamp
abbrev pub no_stamp : ℕ
no_stamp = 4294967295

-- the node of a stamp, the root where it has none; whether it has one; its steps, and the stamp of its end
pub record Row : Type 0 where
  pub node : Node
  pub held : Bool
  pub steps : ℕ
  pub end : ℕ

-- the rows, and how many nodes there are
pub record Table : Type 0 where
  pub rows : List Row
  pub count : ℕ

abbrev pub blank : Row
blank = record { node = Root; held = false; steps = 0; end = no_stamp }

abbrev pub row_of : List Row → ℕ → Row
row_of rows s = slice_index_or rows s blank
