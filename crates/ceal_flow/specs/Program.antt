-- What a contract sees of a graph.
use Rattle.std.specs.Prelude.{List}
use Rattle.ceal_base.specs.declared.typed.StructInfo.{StructInfo}
use Rattle.ceal_flow.specs.declared.block.GraphBlock.{GraphBlock}
use Rattle.ceal_flow.specs.declared.function.GraphFunction.{GraphFunction}

-- the blocks are numbered over all core functions
pub record Graph : Type 0 where
  pub structs : List StructInfo
  pub functions : List GraphFunction
  pub blocks : List GraphBlock
