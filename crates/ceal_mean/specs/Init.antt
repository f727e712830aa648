-- What an initialiser makes.
use Rattle.std.specs.Prelude.{ℕ, Option, Some, None, List, [], ◌∷◌, slice_get, slice_set, unwrap_or, if◌then◌else◌}
use Rattle.ceal_base.specs.Access.{holds}
use Rattle.ceal_base.specs.Block.{Block, Blocks}
use Rattle.ceal_base.specs.Shapes.{default_block}
use Rattle.ceal_base.specs.declared.kind.Shape.TheVariants.{Struct}
use Rattle.ceal_base.specs.declared.typed.StructInfo.{StructInfo}
use Rattle.ceal_base.specs.declared.typed.Typed.{Typed}
use Rattle.ceal_base.specs.declared.typed.TypedFunction.{TypedFunction}
use Rattle.ceal_base.specs.declared.typed.TypedStmt.{TypedStmt, SetField, If'}
use Rattle.ceal_base.specs.declared.typed.TypedStmt.{Row_of-TypedStmt, end_of-TypedStmt, more_of-TypedStmt}
use Rattle.ceal_base.specs.declared.word.Word.{Word}
use Rattle.ceal_mean.specs.Value.{value_of}

-- the words of the new block after a statement of the initialiser
unfoldable mutual
  pub set_by : List Word → Blocks → List Word → TypedStmt → List Word
  set_by env m words (SetField at left shape field e) = slice_set words field (value_of env m e)
  set_by env m words (If' at test _ first _ second) =
      if holds (value_of env m test) then set_by_row env m words first else set_by_row env m words second
  set_by env m words _ = words

  -- the words of a block after the statements of a row
  pub set_by_row : List Word → Blocks → List Word → {n : _} → Row_of-TypedStmt n → List Word
  set_by_row env m words end_of-TypedStmt = words
  set_by_row env m words (more_of-TypedStmt s rest) = set_by_row env m (set_by env m words s) rest

-- after all of them
unfoldable pub set_by_all : List Word → Blocks → List Word → List TypedStmt → List Word
set_by_all env m words [] = words
set_by_all env m words (s ∷ rest) = set_by_all env m (set_by env m words s) rest

-- the block after the statements
abbrev pub block_set_by : List Word → Blocks → Block → List TypedStmt → Block
block_set_by env m block body = record block { words = set_by_all env m block.words body }

-- a block of the initialiser's struct at its defaults, and then the body, where the variables are the arguments;
-- what is no initialiser counts as one of the first struct
abbrev pub made_by : List StructInfo → Option TypedFunction → List Word → Blocks → Block
made_by structs None args m = default_block structs (Struct 0)
made_by structs (Some f) args m =
    block_set_by args m (default_block structs (Struct (unwrap_or f.initialiser 0))) f.body

-- `Init`: the block that the initialiser of this number makes of the arguments
abbrev pub init_block : Typed → ℕ → List Word → Blocks → Block
init_block p function args m = made_by p.structs (slice_get p.functions function) args m
