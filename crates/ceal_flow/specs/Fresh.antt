-- The run of a graph from scratch: that of the source, with a block in place of the statements still to do.
use Rattle.std.specs.Prelude.{ℕ, zero, suc, ◌+◌, ◌-◌, Bool, true, false, Option, Some, None, List, [], ◌∷◌, ◌++◌}
use Rattle.std.specs.Prelude.{length, replicate, slice_get, slice_set, if◌then◌else◌}
use Rattle.ceal_base.specs.Access.{content_of, memory_after_write, holds}
use Rattle.ceal_base.specs.Block.{Block, Blocks}
use Rattle.ceal_base.specs.Shapes.{default_block}
use Rattle.ceal_base.specs.declared.kind.Shape.TheVariants.{ModInt as OneInt, ModPtr as OnePtr}
use Rattle.ceal_base.specs.declared.typed.TypedFunction.{TypedFunction}
use Rattle.ceal_base.specs.declared.typed.TypedStmt.{TypedStmt, Declare, Assign, Write, Call}
use Rattle.ceal_base.specs.declared.typed.TypedValue.{TypedValue}
use Rattle.ceal_base.specs.declared.typed.TypedValue.TheVariants.{Plain, Read, Alloc, ModrefInt, Modref}
use Rattle.ceal_base.specs.declared.word.Word.{Word}
use Rattle.ceal_base.specs.declared.word.Word.TheVariants.{Null}
use Rattle.ceal_mean.specs.Exec.{WordAndMemory, content_default, new_block, new_modifiable}
use Rattle.ceal_base.specs.Finished.{Finished}
use Rattle.ceal_mean.specs.Init.{made_by}
use Rattle.ceal_mean.specs.Value.{value_of, values_of}
use Rattle.ceal_flow.specs.Program.{Graph}
use Rattle.ceal_flow.specs.declared.block.GraphBlock.{GraphBlock}
use Rattle.ceal_flow.specs.declared.block.GraphBlock.TheVariants.{Test, Act}
use Rattle.ceal_flow.specs.declared.function.GraphFunction.{GraphFunction}
use Rattle.ceal_flow.specs.declared.function.GraphFunction.TheVariants.{Core, Init}

-- a block, and the words of the variables of its function
pub record Point : Type 0 where
  pub block : ℕ
  pub env : List Word

-- the memory, and the points at which functions run, that of the running one first
pub record State : Type 0 where
  pub memory : Blocks
  pub points : List Point

-- the tree of an initialiser
abbrev pub initialiser_in : Option GraphFunction → Option TypedFunction
initialiser_in None = None
initialiser_in (Some (Core name first params kinds)) = None
initialiser_in (Some (Init f)) = Some f

-- the point at which a call begins: the variables are the arguments, and then null
abbrev pub point_in : Option GraphFunction → List Word → List Point
point_in None args = []
point_in (Some (Core name first params kinds)) args =
    record { block = first; env = args ++ replicate (length kinds - length args) Null } ∷ []
point_in (Some (Init f)) args = []

-- the points that a run of the function begins with
abbrev pub points_at_entry : Graph → ℕ → List Word → List Point
points_at_entry g function args = point_in (slice_get g.functions function) args

-- what a variable is given
abbrev pub value_given : Graph → List Word → Blocks → TypedValue → WordAndMemory
value_given g env m (Plain e) = record { memory = m; word = value_of env m e }
value_given g env m (Read at e) = record { memory = m; word = content_of m (value_of env m e) (content_default e.kind) }
value_given g env m (Alloc at shape function name args) =
    new_block m (made_by g.structs (initialiser_in (slice_get g.functions function)) (values_of env m args) m)
value_given g env m (ModrefInt at) = new_modifiable m (default_block g.structs OneInt)
value_given g env m (Modref at s) = new_modifiable m (default_block g.structs (OnePtr s))

-- the state after an assignment of what was taken to variable `n`
abbrev pub state_given : WordAndMemory → ℕ → ℕ → List Word → List Point → State
state_given t n next env below = record {
  memory = t.memory;
  points = record { block = next; env = slice_set env n t.word } ∷ below;
}

-- the state after the statement of a block, from which a jump leads to `next`
abbrev pub state_after_act : Graph → Blocks → ℕ → List Word → List Point → TypedStmt → State
state_after_act g m next env below (Declare at n kind value) = state_given (value_given g env m value) n next env below
state_after_act g m next env below (Assign at n value) = state_given (value_given g env m value) n next env below
state_after_act g m next env below (Write at place value) = record {
  memory = memory_after_write m (value_of env m place) (value_of env m value);
  points = record { block = next; env = env } ∷ below;
}
state_after_act g m next env below (Call at function args) = record {
  memory = m;
  points = points_at_entry g function (values_of env m args) ++ record { block = next; env = env } ∷ below;
}
state_after_act g m next env below _ = record { memory = m; points = record { block = next; env = env } ∷ below }

-- the end of a function takes no step, and nor does a block that is not there
abbrev pub is_over : Option GraphBlock → Bool
is_over (Some (Test test first second)) = false
is_over (Some (Act s next)) = false
is_over _ = true

-- the points without those in front that are over
abbrev pub points_to_run : Graph → List Point → List Point
points_to_run g [] = []
points_to_run g (p ∷ below) = if is_over (slice_get g.blocks p.block) then points_to_run g below else p ∷ below

-- the state after the block of the first point
abbrev pub state_after_block : Graph → Blocks → List Word → List Point → Option GraphBlock → State
state_after_block g m env below (Some (Test test first second)) = record {
  memory = m;
  points = record { block = (if holds (value_of env m test) then first else second); env = env } ∷ below;
}
state_after_block g m env below (Some (Act s next)) = state_after_act g m next env below s
state_after_block g m env below _ = record { memory = m; points = below }

-- a run from points of which the first is not over, with fuel for the given number of steps more, after the
-- steps so far
unfoldable pub run_settled : Graph → ℕ → ℕ → Blocks → List Point → Option Finished
run_settled g fuel steps m [] = Some (record { memory = m; steps = steps; blocks = length m.made })
run_settled g zero steps m (p ∷ below) = None
run_settled g (suc fuel) steps m (p ∷ below) =
    let s = state_after_block g m p.env below (slice_get g.blocks p.block) in
    run_settled g fuel (steps + 1) s.memory (points_to_run g s.points)

-- a run from a state: it is finished where no point is left
abbrev pub run : Graph → ℕ → ℕ → State → Option Finished
run g fuel steps s = run_settled g fuel steps s.memory (points_to_run g s.points)

-- the state in which a function begins on these inputs
abbrev pub start : Graph → ℕ → List Word → List Block → State
start g function args inputs = record {
  memory = record { inputs = inputs; made = [] };
  points = points_at_entry g function args;
}

-- the run of a function from nothing but its inputs, where it is finished after at most `fuel` steps
abbrev pub fresh : Graph → ℕ → List Word → List Block → ℕ → Option Finished
fresh g function args inputs fuel = run g fuel 0 (start g function args inputs)
