-- The states of a run.
use Rattle.std.specs.Prelude.{List}
use Rattle.ceal_base.specs.Block.{Blocks}
use Rattle.ceal_base.specs.declared.typed.TypedStmt.{TypedStmt}
use Rattle.ceal_base.specs.declared.word.Word.{Word}

-- what a frame has to do: a statement, or a `while` again
pub data Item : Type 0 where
  Do : TypedStmt → Item
  Again : TypedStmt → Item

-- the statement of an item
abbrev pub statement_of : Item → TypedStmt
statement_of (Do s) = s
statement_of (Again w) = w

-- the items still to do, and the environment: the words of the variables
pub record Frame : Type 0 where
  pub todo : List Item
  pub env : List Word

-- the memory, and the frames, the running one first
pub record State : Type 0 where
  pub memory : Blocks
  pub frames : List Frame
