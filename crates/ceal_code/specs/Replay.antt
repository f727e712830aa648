-- What a trace of a call is: what a stack yields, when items replay a call, and when they are honest.
use Rattle.std.specs.Prelude.{◌≡◌, ℕ, ◌+◌, ◌<◌, ◌≤◌, ◌==◌, pos, if◌then◌else◌, Option, Some, None, List, [], ◌∷◌}
use Rattle.std.specs.Prelude.{length, slice_get, unwrap_or, ⊤}
use Rattle.std.specs.Option.{option_map}
use Rattle.ceal_base.specs.Block.{Block}
use Rattle.ceal_base.specs.Operators.{same_block, same_place}
use Rattle.ceal_base.specs.Shapes.{default_of_field, kinds_of_shape}
use Rattle.ceal_base.specs.Trace.{Trace, Nothing, Stepped, Allocated, Wrote, WasRead, blocks_of}
use Rattle.ceal_base.specs.declared.forest.Key.{Key}
use Rattle.ceal_base.specs.declared.forest.Key.TheVariants.{Init, ModInt as IntKey, ModPtr as PtrKey}
use Rattle.ceal_base.specs.declared.forest.UnitId.{UnitId}
use Rattle.ceal_base.specs.declared.kind.FieldKind.{FieldKind}
use Rattle.ceal_base.specs.declared.typed.StructInfo.{StructInfo}
use Rattle.ceal_base.specs.declared.word.BlockId.{BlockId}
use Rattle.ceal_base.specs.declared.word.BlockId.TheVariants.{Input, Core}
use Rattle.ceal_base.specs.declared.word.Place.{Place}
use Rattle.ceal_base.specs.declared.word.Word.{Word}
use Rattle.ceal_base.specs.declared.word.Word.TheVariants.{Num, Null, Block as BlockWord, At}
use Rattle.ceal_base.specs.declared.kind.Shape.{Shape}
use Rattle.ceal_base.specs.declared.kind.Shape.TheVariants.{Struct, ModInt, ModPtr}
use Rattle.ceal_code.specs.Init.{made, pointer}
use Rattle.ceal_code.specs.declared.function.FunctionCode.{FunctionCode}
use Rattle.ceal_code.specs.declared.function.FunctionCode.TheVariants.{Core as CoreFunction, Init as InitFunction}
use Rattle.ceal_code.specs.Program.{Code}
use Rattle.ceal_code.specs.Step.{Stack, Empty, Run, Over, Quiet, Makes, Writes, Reads, entered, started}
use Rattle.ceal_code.specs.Step.{words_after_read, next}
use Rattle.ceal_code.specs.Value.{Plain, set, is_cell, field_kind, field_default}

-- A stack yields exactly these items over the plain words, where each read is answered by its recorded value and
-- each allocation by its recorded block. No contents of modifiables are involved.
pub data Yields (code : Code) (x : Plain) : Stack → Trace → Type 0 where
  over : {st : Stack} → next code x st ≡ Over → Yields code x st Nothing
  quiet : {st after : Stack} {rest : Trace}
      → next code x st ≡ Quiet after → Yields code x after rest → Yields code x st (Stepped rest)
  makes : {st : Stack} {key : Key} {v u i : ℕ} {env : _} {below : Stack} {b : ℕ} {rest : Trace}
      → next code x st ≡ Makes key v u i env below
      → x (Core b) ≡ Some (made code x key)
      → Yields code x (Run u i (set env v (pointer key (Core b))) below) rest
      → Yields code x st (Stepped (Allocated (Core b) key rest))
  writes : {st after : Stack} {p : Place} {value : Word} {rest : Trace}
      → next code x st ≡ Writes p value after
      → Yields code x after rest
      → Yields code x st (Stepped (Wrote p value rest))
  reads : {st below : Stack} {p : Place} {u : UnitId} {v : ℕ} {args : List Word} {value : Word} {inside rest : Trace}
      → next code x st ≡ Reads p u v args below
      → Yields code x (entered code u.0 (words_after_read code u.0 v args value) Empty) inside
      → Yields code x below rest
      → Yields code x st (Stepped (WasRead p value u v args inside rest))

-- with these words of one more block
unfoldable pub learnt : Plain → BlockId → Block → Plain
learnt x b block = λ c. if same_block c b then Some block else x c

-- the plain words of a block: those of its modifiables are their defaults, in place of their contents
abbrev pub plain_words : List FieldKind → List Word → List Word
plain_words [] words = words
plain_words (kind ∷ kinds) [] = []
plain_words (kind ∷ kinds) (word ∷ words) =
    (if is_cell (Some kind) then default_of_field kind else word) ∷ plain_words kinds words

-- a block with only its plain words
abbrev pub plain_block : List StructInfo → Block → Block
plain_block structs block = record block { words = plain_words (kinds_of_shape structs block.shape) block.words }

-- the plain words of the inputs; no core block is there yet
unfoldable pub input_plain : Code → List Block → Plain
input_plain code inputs (Input i) = option_map (plain_block code.structs) (slice_get inputs i)
input_plain code inputs (Core c) = None

-- with the blocks that the items allocate, in order, each made from its key and the earlier blocks
abbrev pub plain_after : Code → Plain → Trace → Plain
plain_after code x Nothing = x
plain_after code x (Stepped rest) = plain_after code x rest
plain_after code x (Allocated b key rest) = plain_after code (learnt x b (made code x key)) rest
plain_after code x (Wrote p value rest) = plain_after code x rest
plain_after code x (WasRead p value u v args inside rest) = plain_after code (plain_after code x inside) rest

-- the plain words of a trace on these inputs
unfoldable pub plain_of : Code → List Block → Trace → Plain
plain_of code inputs l = plain_after code (input_plain code inputs) l

-- the contents of the modifiables
abbrev pub Store : Type 0
Store = Place → Word

-- what a place starts as in a block of this shape; where there is no modifiable it is 0
abbrev pub cell_default : Option FieldKind → Word
cell_default kind = if is_cell kind then field_default kind else Num (pos 0)

-- the content of a modifiable in a block, and 0 where it has none there
abbrev pub content_in : List StructInfo → Option Block → ℕ → Word
content_in structs None field = Num (pos 0)
content_in structs (Some block) field =
    if is_cell (field_kind structs block.shape field)
    then unwrap_or (slice_get block.words field) (field_default (field_kind structs block.shape field)) else Num (pos 0)

-- the input block with this name
abbrev pub input_block : List Block → BlockId → Option Block
input_block inputs (Input i) = slice_get inputs i
input_block inputs (Core c) = None

-- the bases of the inputs
unfoldable pub bases : Code → List Block → Store
bases code inputs = λ p. content_in code.structs (input_block inputs p.block) p.field

-- what an initialiser makes
abbrev pub shape_in : Option FunctionCode → Shape
shape_in (Some (InitFunction name s params body)) = Struct s
shape_in (Some (CoreFunction name entry params)) = ModInt
shape_in None = ModInt

-- the shape of the block that is made for a key
abbrev pub shape_of : Code → Key → Shape
shape_of code (Init f args) = shape_in (slice_get code.functions f)
shape_of code IntKey = ModInt
shape_of code (PtrKey s) = ModPtr s

-- with the modifiables of a new block at their defaults
unfoldable pub cleared : Code → Store → BlockId → Key → Store
cleared code s b key = λ p.
    if same_block p.block b then cell_default (field_kind code.structs (shape_of code key) p.field) else s p

-- with another content of one place
unfoldable pub stored : Store → Place → Word → Store
stored s p value = λ q. if same_place q p then value else s q

-- each read records the content that the store has at that moment, from the one store to the other
pub data Honest (code : Code) : Store → Trace → Store → Type 0 where
  end : {s : Store} → Honest code s Nothing s
  step : {s s' : Store} {rest : Trace} → Honest code s rest s' → Honest code s (Stepped rest) s'
  alloc : {s s' : Store} {b : BlockId} {key : Key} {rest : Trace}
      → Honest code (cleared code s b key) rest s' → Honest code s (Allocated b key rest) s'
  write : {s s' : Store} {p : Place} {value : Word} {rest : Trace}
      → Honest code (stored s p value) rest s' → Honest code s (Wrote p value rest) s'
  read : {s t s' : Store} {p : Place} {value : Word} {u : UnitId} {v : ℕ} {args : List Word} {inside rest : Trace}
      → s p ≡ value → Honest code s inside t → Honest code t rest s'
      → Honest code s (WasRead p value u v args inside rest) s'

-- a number is among these
pub data In (b : ℕ) : List ℕ → Type 0 where
  here : {bs : List ℕ} → In b (b ∷ bs)
  there : {c : ℕ} {bs : List ℕ} → In b bs → In b (c ∷ bs)

-- the block is one of the inputs, or among the core blocks
abbrev pub KnownBlock : ℕ → List ℕ → BlockId → Type 0
KnownBlock inputs bs (Input i) = i < inputs
KnownBlock inputs bs (Core b) = In b bs

-- each block that the word names is known
abbrev pub KnownWord : ℕ → List ℕ → Word → Type 0
KnownWord inputs bs (Num n) = ⊤
KnownWord inputs bs Null = ⊤
KnownWord inputs bs (BlockWord b) = KnownBlock inputs bs b
KnownWord inputs bs (At p) = KnownBlock inputs bs p.block

-- each block that the words name is known
abbrev pub KnownWords : ℕ → List ℕ → List Word → Type 0
KnownWords inputs bs [] = ⊤
KnownWords inputs bs (word ∷ words) = KnownWord inputs bs word × KnownWords inputs bs words

-- each block that the key names is known
abbrev pub KnownKey : ℕ → List ℕ → Key → Type 0
KnownKey inputs bs (Init f args) = KnownWords inputs bs args
KnownKey inputs bs IntKey = ⊤
KnownKey inputs bs (PtrKey s) = ⊤

-- Every item mentions inputs, core blocks of the first list, and core blocks that an item before it allocates;
-- with these the first list becomes the second.
pub data Mentions (inputs : ℕ) : List ℕ → Trace → List ℕ → Type 0 where
  end : {bs : List ℕ} → Mentions inputs bs Nothing bs
  step : {bs cs : List ℕ} {rest : Trace} → Mentions inputs bs rest cs → Mentions inputs bs (Stepped rest) cs
  alloc : {bs cs : List ℕ} {b : ℕ} {key : Key} {rest : Trace}
      → KnownKey inputs bs key → Mentions inputs (b ∷ bs) rest cs → Mentions inputs bs (Allocated (Core b) key rest) cs
  write : {bs cs : List ℕ} {p : Place} {value : Word} {rest : Trace}
      → KnownBlock inputs bs p.block → KnownWord inputs bs value → Mentions inputs bs rest cs
      → Mentions inputs bs (Wrote p value rest) cs
  read : {bs ds cs : List ℕ} {p : Place} {value : Word} {u : UnitId} {v : ℕ} {args : List Word} {inside rest : Trace}
      → KnownBlock inputs bs p.block → KnownWord inputs bs value → KnownWords inputs bs args
      → Mentions inputs bs inside ds → Mentions inputs ds rest cs
      → Mentions inputs bs (WasRead p value u v args inside rest) cs

-- how many times the block is in the list
abbrev pub count : ℕ → List ℕ → ℕ
count b [] = 0
count b (c ∷ cs) = (if c == b then 1 else 0) + count b cs

-- no block is in the list twice
abbrev pub Distinct : List ℕ → Type 0
Distinct bs = (b : ℕ) → count b bs ≤ 1

-- the numbers of core blocks
abbrev pub core_numbers : List BlockId → List ℕ
core_numbers [] = []
core_numbers (Core b ∷ bs) = b ∷ core_numbers bs
core_numbers (Input i ∷ bs) = core_numbers bs

-- the items are those of a call of the function on these inputs and arguments
pub record Replays (code : Code) (inputs : List Block) (f : ℕ) (args : List Word) (l : Trace) : Type 0 where
  pub yields : Yields code (plain_of code inputs l) (started code f args) l
  pub distinct : Distinct (core_numbers (blocks_of l))
  pub known : List ℕ
  pub mentions : Mentions (length inputs) [] l known

-- each read records the content of that moment, from the bases of these inputs on
pub record IsHonest (code : Code) (inputs : List Block) (l : Trace) : Type 0 where
  pub after : Store
  pub walk : Honest code (bases code inputs) l after

-- the words of a block with the contents of its modifiables, from a field on
abbrev pub with_contents : Store → BlockId → ℕ → List FieldKind → List Word → List Word
with_contents s b n [] words = words
with_contents s b n (kind ∷ kinds) [] = []
with_contents s b n (kind ∷ kinds) (word ∷ words) =
    (if is_cell (Some kind) then s (record { block = b; field = n }) else word) ∷ with_contents s b (n + 1) kinds words

-- a block with the contents of its modifiables
abbrev pub filled : Code → Store → BlockId → Block → Block
filled code s b block =
    record block { words = with_contents s b 0 (kinds_of_shape code.structs block.shape) block.words }

-- memory after a trace: a block of the plain words with the contents of the store
unfoldable pub block_after : Code → Plain → Store → BlockId → Option Block
block_after code x s b = option_map (filled code s b) (x b)

-- and the input blocks, from a number on
abbrev pub inputs_after : Code → Store → ℕ → List Block → List Block
inputs_after code s n [] = []
inputs_after code s n (block ∷ blocks) = filled code s (Input n) block ∷ inputs_after code s (n + 1) blocks
