-- What each statement does, and the steps of a run (the core language: Hammer, Acar and Chen, PLDI 2009).
use Rattle.std.specs.Prelude.{ℕ, pos, ◌-◌, Bool, true, false, Option, Some, None, List, [], ◌∷◌, ◌++◌, length, map}
use Rattle.std.specs.Prelude.{slice_get, slice_set, replicate, if◌then◌else◌}
use Rattle.ceal_base.specs.Access.{content_of, memory_after_write, holds}
use Rattle.ceal_base.specs.Block.{Block, Blocks}
use Rattle.ceal_base.specs.Finished.{with_block}
use Rattle.ceal_base.specs.Shapes.{default_block}
use Rattle.ceal_base.specs.declared.kind.Kind.{Kind}
use Rattle.ceal_base.specs.declared.kind.Kind.TheVariants.{ModInt}
use Rattle.ceal_base.specs.declared.kind.Shape.TheVariants.{ModInt as OneInt, ModPtr as OnePtr}
use Rattle.ceal_base.specs.declared.typed.Typed.{Typed}
use Rattle.ceal_base.specs.declared.typed.TypedFunction.{TypedFunction}
use Rattle.ceal_base.specs.declared.typed.TypedStmt.{TypedStmt, out-TypedStmt}
use Rattle.ceal_base.specs.declared.typed.TypedStmt.TheOpen.{TypedStmt-F, Declare, Assign, Write, Call, If, While}
use Rattle.ceal_base.specs.declared.typed.TypedValue.{TypedValue}
use Rattle.ceal_base.specs.declared.typed.TypedValue.TheVariants.{Plain, Read, Alloc, ModrefInt, Modref}
use Rattle.ceal_base.specs.declared.word.BlockId.TheVariants.{Core}
use Rattle.ceal_base.specs.declared.word.Word.{Word}
use Rattle.ceal_base.specs.declared.word.Word.TheVariants.{Num, Null, Block as BlockWord, At}
use Rattle.ceal_mean.specs.Frame.{Item, Do, Again, statement_of, Frame, State}
use Rattle.ceal_mean.specs.Init.{init_block}
use Rattle.ceal_mean.specs.Jumps.{ready}
use Rattle.ceal_mean.specs.Value.{value_of, values_of}

-- the default of what a modifiable holds, by the type of the pointer to it
abbrev pub content_default : Option Kind → Word
content_default (Some ModInt) = Num (pos 0)
content_default _ = Null

-- the memory after a value is taken, and the value
pub record WordAndMemory : Type 0 where
  pub memory : Blocks
  pub word : Word

-- a new block, and a pointer to it
abbrev pub new_block : Blocks → Block → WordAndMemory
new_block m block = record { memory = with_block m block; word = BlockWord (Core (length m.made)) }

-- a new block with one modifiable, and a pointer to that modifiable
abbrev pub new_modifiable : Blocks → Block → WordAndMemory
new_modifiable m block =
    record { memory = with_block m block; word = At (record { block = Core (length m.made); field = 0 }) }

-- what a variable is given
abbrev pub value_given : Typed → List Word → Blocks → TypedValue → WordAndMemory
value_given p env m (Plain e) = record { memory = m; word = value_of env m e }
value_given p env m (Read at e) = record { memory = m; word = content_of m (value_of env m e) (content_default e.kind) }
value_given p env m (Alloc at shape function name args) = new_block m (init_block p function (values_of env m args) m)
value_given p env m (ModrefInt at) = new_modifiable m (default_block p.structs OneInt)
value_given p env m (Modref at s) = new_modifiable m (default_block p.structs (OnePtr s))

-- the words of a function's variables at its start: the arguments, and null of every other
abbrev pub first_env : TypedFunction → List Word → List Word
first_env f args = args ++ replicate (length f.kinds - length args) Null

-- the frame of a function that is called, none of a number without a function
abbrev pub frame_of : Option TypedFunction → List Word → List Frame
frame_of None args = []
frame_of (Some f) args = record { todo = map Do f.body; env = first_env f args } ∷ []

-- the frames that a run of the function begins with
abbrev pub frames_at_entry : Typed → ℕ → List Word → List Frame
frames_at_entry p function args = frame_of (slice_get p.functions function) args

-- the state after the variable got what was taken
abbrev pub state_given : WordAndMemory → ℕ → List Item → List Word → List Frame → State
state_given t n rest env below = record {
  memory = t.memory;
  frames = record { todo = rest; env = slice_set env n t.word } ∷ below;
}

-- the state after one statement, `rest` being what the frame has to do after it and `below` the frames under it; a
-- field is set only by initialisers, and a `return`, `break` or `continue` is no step
abbrev pub effect : Typed → Blocks → List Word → List Item → List Frame → TypedStmt → TypedStmt-F TypedStmt → State
effect p m env rest below s (Declare at n kind value) = state_given (value_given p env m value) n rest env below
effect p m env rest below s (Assign at n value) = state_given (value_given p env m value) n rest env below
effect p m env rest below s (Write at place value) = record {
  memory = memory_after_write m (value_of env m place) (value_of env m value);
  frames = record { todo = rest; env = env } ∷ below;
}
effect p m env rest below s (Call at function args) = record {
  memory = m;
  frames = frames_at_entry p function (values_of env m args) ++ record { todo = rest; env = env } ∷ below;
}
effect p m env rest below s (If at test first second) = record {
  memory = m;
  frames = record { todo = map Do (if holds (value_of env m test) then first else second) ++ rest; env = env } ∷ below;
}
effect p m env rest below s (While at test body) = record {
  memory = m;
  frames =
      record { todo = (if holds (value_of env m test) then map Do body ++ Again s ∷ rest else rest); env = env }
      ∷ below;
}
effect p m env rest below s _ = record { memory = m; frames = record { todo = rest; env = env } ∷ below }

-- whether no items are left
abbrev pub is_over : List Item → Bool
is_over [] = true
is_over (item ∷ rest) = false

-- the frames of which the first has a step to do: its jumps are made, and the frames in front that have nothing left to
-- do are taken off. This takes no step
abbrev pub frames_to_run : List Frame → List Frame
frames_to_run [] = []
frames_to_run (f ∷ below) =
    if is_over (ready f.todo)
    then frames_to_run below
    else record f { todo = ready f.todo } ∷ below

-- the state after the first item of the first frame: a `while` again is the same as the `while`
abbrev pub state_after_item : Typed → Blocks → Frame → List Item → List Frame → State
state_after_item p m f [] below = record { memory = m; frames = below }
state_after_item p m f (item ∷ rest) below =
    effect p m f.env rest below (statement_of item) (out-TypedStmt (statement_of item))
