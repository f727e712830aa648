-- Words, stacks, traces and memories that are one up to the numbers of their core blocks: each pair says which core
-- block of the one stands for which of the other.
use Rattle.std.specs.Prelude.{◌≡◌, ℕ, ℤ, Option, Some, None, List, [], ◌∷◌}
use Rattle.ceal_base.specs.Block.{Block}
use Rattle.ceal_base.specs.Shapes.{kinds_of_shape}
use Rattle.ceal_base.specs.Trace.{Trace, Nothing, Stepped, Allocated, Wrote, WasRead}
use Rattle.ceal_base.specs.declared.forest.Key.{Key}
use Rattle.ceal_base.specs.declared.forest.Key.TheVariants.{Init, ModInt as IntKey, ModPtr as PtrKey}
use Rattle.ceal_base.specs.declared.forest.UnitId.{UnitId}
use Rattle.ceal_base.specs.declared.kind.FieldKind.{FieldKind}
use Rattle.ceal_base.specs.declared.kind.FieldKind.TheVariants.{Plain as PlainField, CellInt, CellPtr}
use Rattle.ceal_base.specs.declared.kind.Kind.{Kind}
use Rattle.ceal_base.specs.declared.typed.StructInfo.{StructInfo}
use Rattle.ceal_base.specs.declared.word.BlockId.{BlockId}
use Rattle.ceal_base.specs.declared.word.BlockId.TheVariants.{Input, Core}
use Rattle.ceal_base.specs.declared.word.Place.{Place}
use Rattle.ceal_base.specs.declared.word.Word.{Word}
use Rattle.ceal_base.specs.declared.word.Word.TheVariants.{Num, Null, Block as BlockWord, At}
use Rattle.ceal_code.specs.Replay.{Store}
use Rattle.ceal_code.specs.Step.{Stack, Empty, Run, Act, Over, Quiet, Makes, Writes, Reads}
use Rattle.ceal_code.specs.Value.{Plain, Variables}

-- the core block on the left stands for the one on the right
pub record Pair : Type 0 where
  pub left : ℕ
  pub right : ℕ

-- a renaming of core blocks: pairs of the numbers of the same block in the two runs
abbrev pub Pairs : Type 0
Pairs = List Pair

-- one of the pairs is of these two
pub data Tied (b c : ℕ) : Pairs → Type 0 where
  here : {ps : Pairs} → Tied b c (record { left = b; right = c } ∷ ps)
  there : {p : Pair} {ps : Pairs} → Tied b c ps → Tied b c (p ∷ ps)

-- an input stands for itself
pub data IdAlike (ps : Pairs) : BlockId → BlockId → Type 0 where
  input : {i : ℕ} → IdAlike ps (Input i) (Input i)
  core : {b c : ℕ} → Tied b c ps → IdAlike ps (Core b) (Core c)

-- places of the same field of the same block
pub record PlaceAlike (ps : Pairs) (p q : Place) : Type 0 where
  pub block : IdAlike ps p.block q.block
  pub field : p.field ≡ q.field

-- words that are the same up to the renaming
pub data WordAlike (ps : Pairs) : Word → Word → Type 0 where
  num : {n : ℤ} → WordAlike ps (Num n) (Num n)
  null : WordAlike ps Null Null
  block : {b c : BlockId} → IdAlike ps b c → WordAlike ps (BlockWord b) (BlockWord c)
  at : {p q : Place} → PlaceAlike ps p q → WordAlike ps (At p) (At q)

-- lists of such words
pub data WordsAlike (ps : Pairs) : List Word → List Word → Type 0 where
  none : WordsAlike ps [] []
  more : {v w : Word} {vs ws : List Word} → WordAlike ps v w → WordsAlike ps vs ws → WordsAlike ps (v ∷ vs) (w ∷ ws)

-- keys of allocations that are the same up to the renaming
pub data KeyAlike (ps : Pairs) : Key → Key → Type 0 where
  init : {f : ℕ} {vs ws : List Word} → WordsAlike ps vs ws → KeyAlike ps (Init f vs) (Init f ws)
  int : KeyAlike ps IntKey IntKey
  pointer : {s : ℕ} → KeyAlike ps (PtrKey s) (PtrKey s)

-- variables that hold such words
abbrev pub VariablesAlike : Pairs → Variables → Variables → Type 0
VariablesAlike ps env env' = (v : ℕ) → WordAlike ps (env v) (env' v)

-- stacks with such variables
pub data StackAlike (ps : Pairs) : Stack → Stack → Type 0 where
  empty : StackAlike ps Empty Empty
  run : {u i : ℕ} {env env' : Variables} {st st' : Stack} → VariablesAlike ps env env' → StackAlike ps st st'
      → StackAlike ps (Run u i env st) (Run u i env' st')

-- next steps that are the same up to the renaming
pub data ActAlike (ps : Pairs) : Act → Act → Type 0 where
  over : ActAlike ps Over Over
  quiet : {st st' : Stack} → StackAlike ps st st' → ActAlike ps (Quiet st) (Quiet st')
  makes : {k k' : Key} {v u i : ℕ} {env env' : Variables} {st st' : Stack}
      → KeyAlike ps k k' → VariablesAlike ps env env' → StackAlike ps st st'
      → ActAlike ps (Makes k v u i env st) (Makes k' v u i env' st')
  writes : {p q : Place} {v w : Word} {st st' : Stack}
      → PlaceAlike ps p q → WordAlike ps v w → StackAlike ps st st' → ActAlike ps (Writes p v st) (Writes q w st')
  reads : {p q : Place} {u : UnitId} {v : ℕ} {vs ws : List Word} {st st' : Stack}
      → PlaceAlike ps p q → WordsAlike ps vs ws → StackAlike ps st st'
      → ActAlike ps (Reads p u v vs st) (Reads q u v ws st')

-- one word for each field, and those of plain fields are alike
pub data FieldsAlike (ps : Pairs) : List FieldKind → List Word → List Word → Type 0 where
  none : FieldsAlike ps [] [] []
  plain : {kind : Kind} {kinds : List FieldKind} {v w : Word} {vs ws : List Word}
      → WordAlike ps v w → FieldsAlike ps kinds vs ws → FieldsAlike ps (PlainField kind ∷ kinds) (v ∷ vs) (w ∷ ws)
  int_cell : {kinds : List FieldKind} {v w : Word} {vs ws : List Word}
      → FieldsAlike ps kinds vs ws → FieldsAlike ps (CellInt ∷ kinds) (v ∷ vs) (w ∷ ws)
  pointer_cell : {s : ℕ} {kinds : List FieldKind} {v w : Word} {vs ws : List Word}
      → FieldsAlike ps kinds vs ws → FieldsAlike ps (CellPtr s ∷ kinds) (v ∷ vs) (w ∷ ws)

-- blocks of one shape, whose plain fields are alike
pub record BlockAlike (structs : List StructInfo) (ps : Pairs) (b c : Block) : Type 0 where
  pub shape : b.shape ≡ c.shape
  pub fields : FieldsAlike ps (kinds_of_shape structs b.shape) b.words c.words

-- blocks that are both there, and the same up to the renaming, or both not there
pub data MaybeAlike (structs : List StructInfo) (ps : Pairs) : Option Block → Option Block → Type 0 where
  none : MaybeAlike structs ps None None
  some : {b c : Block} → BlockAlike structs ps b c → MaybeAlike structs ps (Some b) (Some c)

-- plain words that are the same up to the renaming
abbrev pub PlainAlike : List StructInfo → Pairs → Plain → Plain → Type 0
PlainAlike structs ps x y = (b c : BlockId) → IdAlike ps b c → MaybeAlike structs ps (x b) (y c)

-- contents of modifiables that are the same up to the renaming
abbrev pub StoreAlike : Pairs → Store → Store → Type 0
StoreAlike ps s t = (p q : Place) → PlaceAlike ps p q → WordAlike ps (s p) (t q)

-- traces that are the same up to the renaming
pub data TraceAlike (ps : Pairs) : Trace → Trace → Type 0 where
  nothing : TraceAlike ps Nothing Nothing
  stepped : {l m : Trace} → TraceAlike ps l m → TraceAlike ps (Stepped l) (Stepped m)
  allocated : {b c : BlockId} {k k' : Key} {l m : Trace}
      → IdAlike ps b c → KeyAlike ps k k' → TraceAlike ps l m → TraceAlike ps (Allocated b k l) (Allocated c k' m)
  wrote : {p q : Place} {v w : Word} {l m : Trace}
      → PlaceAlike ps p q → WordAlike ps v w → TraceAlike ps l m → TraceAlike ps (Wrote p v l) (Wrote q w m)
  was_read : {p q : Place} {v w : Word} {u : UnitId} {x : ℕ} {vs ws : List Word} {i j l m : Trace}
      → PlaceAlike ps p q → WordAlike ps v w → WordsAlike ps vs ws → TraceAlike ps i j → TraceAlike ps l m
      → TraceAlike ps (WasRead p v u x vs i l) (WasRead q w u x ws j m)

-- the second renaming has what the first has
abbrev pub Within : Pairs → Pairs → Type 0
Within ps qs = (b c : ℕ) → Tied b c ps → Tied b c qs

-- no number is in two different pairs on the same side
pub record OneToOne (ps : Pairs) : Type 0 where
  pub left : (b c d : ℕ) → Tied b c ps → Tied b d ps → c ≡ d
  pub right : (b c d : ℕ) → Tied b d ps → Tied c d ps → b ≡ c

-- the first of the one with the first of the other, and so on
abbrev pub zipped : List ℕ → List ℕ → Pairs
zipped [] cs = []
zipped (b ∷ bs) [] = []
zipped (b ∷ bs) (c ∷ cs) = record { left = b; right = c } ∷ zipped bs cs
