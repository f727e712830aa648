-- The plain words and the contents of modifiables, as the code keeps them.
use Rattle.std.specs.Prelude.{Option, Some, None, List, [], ◌∷◌, get_or, unwrap_or, if◌then◌else◌}
use Rattle.std.specs.BTreeMap.{get}
use Rattle.ceal_base.specs.Block.{Block}
use Rattle.ceal_base.specs.Operators.{same_block}
use Rattle.ceal_base.specs.Shapes.{default_of_field}
use Rattle.ceal_base.specs.contracts.word.BlockIdOrd.TheImpl.{ghosts}
use Rattle.ceal_base.specs.declared.forest.Item.{Item}
use Rattle.ceal_base.specs.declared.forest.Item.TheVariants.{Step, Alloc, Write, Read, End}
use Rattle.ceal_base.specs.declared.kind.FieldKind.{FieldKind}
use Rattle.ceal_base.specs.declared.kind.Shape.{Shape}
use Rattle.ceal_base.specs.declared.word.BlockId.{BlockId}
use Rattle.ceal_base.specs.declared.word.Place.{Place}
use Rattle.ceal_base.specs.declared.word.Word.{Word}
use Rattle.ceal_code.specs.Init.{made}
use Rattle.ceal_code.specs.Program.{Code}
use Rattle.ceal_code.specs.Replay.{Store, bases, learnt, input_plain, cell_default, cleared, stored, block_after}
use Rattle.ceal_code.specs.Value.{Plain, is_cell, field_kind}
use Rattle.ceal_code.specs.declared.contents.Fields.{Fields}
use Rattle.ceal_code.specs.declared.trace_memory.TraceMemory.{TraceMemory}

-- the plain word of a field: a default in place of the content of a modifiable
abbrev pub plain_field_word : Option FieldKind → Word → Word
plain_field_word None word = word
plain_field_word (Some kind) word = if is_cell (Some kind) then default_of_field kind else word

-- the code that a trace is of
abbrev pub code_in : TraceMemory → Code
code_in m = m.code.now

-- its inputs, with their bases
abbrev pub inputs_in : TraceMemory → List Block
inputs_in m = m.inputs.now

-- a block that was made, else that of an input
abbrev pub made_or : Option Block → Option Block → Option Block
made_or (Some block) input = Some block
made_or None input = input

-- the plain words of the inputs, and of the blocks that are known
unfoldable pub plain_in : TraceMemory → Plain
plain_in m = λ b. made_or (get ghosts.cmp m.made b) (input_plain (code_in m) (inputs_in m) b)

-- what a field has that was not written since: its default in a block that was made, else what the store had
abbrev pub unwritten : Code → Store → Option Shape → Place → Word
unwritten code s (Some shape) p = cell_default (field_kind code.structs shape p.field)
unwritten code s None p = s p

-- the content of a field in a block of the table
abbrev pub word_in : Code → Store → Option Fields → Place → Word
word_in code s None p = s p
word_in code s (Some fields) p = unwrap_or (get_or fields.words.items p.field None) (unwritten code s fields.shape p)

-- the contents, over the bases of the inputs
unfoldable pub store_in : TraceMemory → Store
store_in m = λ p. word_in (code_in m) (bases (code_in m) (inputs_in m)) (get ghosts.cmp m.contents p.block) p

-- the blocks, each with the contents of its modifiables
abbrev pub memory_in : TraceMemory → BlockId → Option Block
memory_in m b = block_after (code_in m) (plain_in m) (store_in m) b

-- with the block of the item, if it is an allocation
abbrev pub plain_item : Code → Plain → Item → Plain
plain_item code x (Alloc block key) = learnt x block (made code x key)
plain_item code x Step = x
plain_item code x (Write place value) = x
plain_item code x (Read place value unit var args) = x
plain_item code x End = x

-- with the blocks that the items allocate, in order
unfoldable pub plain_flat : Code → Plain → List Item → Plain
plain_flat code x [] = x
plain_flat code x (i ∷ is) = plain_flat code (plain_item code x i) is

-- the store after an item
abbrev pub store_item : Code → Store → Item → Store
store_item code s (Alloc block key) = cleared code s block key
store_item code s (Write place value) = stored s place value
store_item code s Step = s
store_item code s (Read place value unit var args) = s
store_item code s End = s

-- and after all of them
unfoldable pub store_flat : Code → Store → List Item → Store
store_flat code s [] = s
store_flat code s (i ∷ is) = store_flat code (store_item code s i) is

-- the store where the modifiables of a block have their defaults
unfoldable pub defaulted : Code → Store → BlockId → Block → Store
defaulted code s id block = λ p.
    if same_block p.block id then cell_default (field_kind code.structs block.shape p.field) else s p
