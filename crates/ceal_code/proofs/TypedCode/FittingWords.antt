-- Words that fit where there are no core blocks name inputs and modifiables of inputs.
use Rattle.std.proofs.Common.{◌≡◌, ℕ, zero, suc, Bool, true, Option, Some, None, List, [], ◌∷◌, length, refl, ap, slice_get, is_some, arith}
use Rattle.std.specs.List.{list_all}
use Rattle.ceal_base.specs.Access.{of_struct}
use Rattle.ceal_base.specs.Block.{Block, Blocks, block_at}
use Rattle.ceal_base.specs.Fitting.{kind_in, kind_at, is_int_cell, is_pointer_cell, fits_kind, fits_field, words_fit, fields_fit, block_fits, inputs_fit}
use Rattle.ceal_base.specs.Shapes.{kinds_of_shape}
use Rattle.ceal_base.specs.declared.kind.FieldKind.{FieldKind}
use Rattle.ceal_base.specs.declared.kind.FieldKind.TheVariants.{Plain as PlainField, CellInt, CellPtr}
use Rattle.ceal_base.specs.declared.kind.Kind.{Kind}
use Rattle.ceal_base.specs.declared.kind.Kind.TheVariants.{Int, Ptr, ModInt, ModPtr}
use Rattle.ceal_base.specs.declared.typed.StructInfo.{StructInfo}
use Rattle.ceal_base.specs.declared.word.BlockId.{BlockId}
use Rattle.ceal_base.specs.declared.word.BlockId.TheVariants.{Input, Core}
use Rattle.ceal_base.specs.declared.word.Word.{Word}
use Rattle.ceal_base.specs.declared.word.Word.TheVariants.{Num, Null, Block as BlockWord, At}
use Rattle.ceal_code.proofs.Words.Closed.{Each}
use Rattle.ceal_code.proofs.Replay.MemoryChanges.{get-within}
use Rattle.ceal_code.proofs.Words.Placed.{Placed, WellPlaced}
use Rattle.ceal_code.proofs.Words.SameIsEqual.{both, some-same, none-some}
use Rattle.ceal_code.specs.Alike.{Pairs, IdAlike, WordAlike, FieldsAlike}
use Rattle.ceal_code.specs.Fitting.{args_fit, Fits}
use Rattle.ceal_code.specs.Program.{Code}
use Rattle.ceal_code.specs.Replay.{KnownBlock, KnownWord, KnownWords, plain_words}
use Rattle.ceal_code.specs.Value.{is_cell}
use Rattle.ceal_code.specs.declared.function.FunctionCode.{FunctionCode}
use Rattle.ceal_code.specs.declared.function.FunctionCode.TheVariants.{Core as CoreFunction, Init as InitFunction}

-- words that name only inputs are like themselves
module _ (n : ℕ) (ps : Pairs) where
  pub id-self : (b : BlockId) → KnownBlock n [] b → IdAlike ps b b
  id-self (Input i) h = IdAlike.input
  id-self (Core c) h = elim h [ ]

  pub word-self : (w : Word) → KnownWord n [] w → WordAlike ps w w
  word-self (Num k) h = WordAlike.num
  word-self Null h = WordAlike.null
  word-self (BlockWord b) h = WordAlike.block (id-self b h)
  word-self (At p) h = WordAlike.at (record { block = id-self p.block h; field = refl })

pub int-is_cell : (k : Option FieldKind) → is_int_cell k ≡ true → is_cell k ≡ true
int-is_cell (Some CellInt) h = refl
int-is_cell (Some (CellPtr s)) h = absurd (grind (arith, h))
int-is_cell (Some (PlainField kind)) h = absurd (grind (arith, h))
int-is_cell None h = absurd (grind (arith, h))

pub pointer-is_cell : (s : ℕ) (k : Option FieldKind) → is_pointer_cell s k ≡ true → is_cell k ≡ true
pointer-is_cell s (Some CellInt) h = refl
pointer-is_cell s (Some (CellPtr t)) h = refl
pointer-is_cell s (Some (PlainField kind)) h = absurd (grind (arith, h))
pointer-is_cell s None h = absurd (grind (arith, h))

module _ (structs : List StructInfo) (inputs : List Block) where
  abbrev begun : Blocks
  begun = record { inputs = inputs; made = [] }

  -- the word names inputs, and places of their modifiables
  abbrev pub Fine : Word → Type 0
  Fine w = KnownWord (length inputs) [] w × Placed structs (record { inputs = inputs; made = [] }) w

  known-there : (b : BlockId) (o : Option Block) → block_at begun b ≡ o → is_some o ≡ true → KnownBlock (length inputs) [] b
  known-there b None e h = absurd (grind (arith, h))
  known-there (Input i) (Some block) e h = get-within inputs i block e
  known-there (Core c) (Some block) e h = none-some block e

  pointed-there : (s : ℕ) (o : Option Block) → is_some (of_struct s o) ≡ true → is_some o ≡ true
  pointed-there s None h = h
  pointed-there s (Some block) h = refl

  cell-there : (o : Option Block) (f : ℕ) → is_cell (kind_in structs o f) ≡ true → is_some o ≡ true
  cell-there None f h = h
  cell-there (Some block) f h = refl

  fits-fine : (kind : Kind) (w : Word) → fits_kind structs begun kind w ≡ true → Fine w
  fits-fine Int (Num n) h = (tt, tt)
  fits-fine Int Null h = absurd (grind (arith, h))
  fits-fine Int (BlockWord b) h = absurd (grind (arith, h))
  fits-fine Int (At p) h = absurd (grind (arith, h))
  fits-fine (Ptr s) Null h = (tt, tt)
  fits-fine (Ptr s) (BlockWord b) h = (known-there b (block_at begun b) refl (pointed-there s (block_at begun b) h), tt)
  fits-fine (Ptr s) (Num n) h = absurd (grind (arith, h))
  fits-fine (Ptr s) (At p) h = absurd (grind (arith, h))
  fits-fine ModInt Null h = (tt, tt)
  fits-fine ModInt (At p) h =
      let c = int-is_cell (kind_at structs begun p) h in
      (known-there p.block (block_at begun p.block) refl (cell-there (block_at begun p.block) p.field c), c)
  fits-fine ModInt (Num n) h = absurd (grind (arith, h))
  fits-fine ModInt (BlockWord b) h = absurd (grind (arith, h))
  fits-fine (ModPtr s) Null h = (tt, tt)
  fits-fine (ModPtr s) (At p) h =
      let c = pointer-is_cell s (kind_at structs begun p) h in
      (known-there p.block (block_at begun p.block) refl (cell-there (block_at begun p.block) p.field c), c)
  fits-fine (ModPtr s) (Num n) h = absurd (grind (arith, h))
  fits-fine (ModPtr s) (BlockWord b) h = absurd (grind (arith, h))

  field-fine : (kind : FieldKind) (w : Word) → fits_field structs begun kind w ≡ true → Fine w
  field-fine (PlainField kind) w h = fits-fine kind w h
  field-fine CellInt w h = fits-fine Int w h
  field-fine (CellPtr s) w h = fits-fine (Ptr s) w h

  words-fine : (kinds : List Kind) (ws : List Word) → words_fit structs begun kinds ws ≡ true → Each Fine ws
  words-fine [] [] h = tt
  words-fine [] (w ∷ ws) h = absurd (grind (arith, h))
  words-fine (kind ∷ kinds) [] h = absurd (grind (arith, h))
  words-fine (kind ∷ kinds) (w ∷ ws) h =
      let k = both (fits_kind structs begun kind w) (words_fit structs begun kinds ws) h in (fits-fine kind w k.0, words-fine kinds ws k.1)

  fields-fine : (kinds : List FieldKind) (ws : List Word) → fields_fit structs begun kinds ws ≡ true → Each Fine ws
  fields-fine [] [] h = tt
  fields-fine [] (w ∷ ws) h = absurd (grind (arith, h))
  fields-fine (kind ∷ kinds) [] h = absurd (grind (arith, h))
  fields-fine (kind ∷ kinds) (w ∷ ws) h =
      let k = both (fits_field structs begun kind w) (fields_fit structs begun kinds ws) h in (field-fine kind w k.0, fields-fine kinds ws k.1)

  -- its plain words are like them
  fields-self : (ps : Pairs) (kinds : List FieldKind) (ws : List Word) → fields_fit structs begun kinds ws ≡ true → FieldsAlike ps kinds (plain_words kinds ws) ws
  fields-self ps [] [] h = FieldsAlike.none
  fields-self ps [] (w ∷ ws) h = absurd (grind (arith, h))
  fields-self ps (kind ∷ kinds) [] h = absurd (grind (arith, h))
  fields-self ps (PlainField kind ∷ kinds) (w ∷ ws) h =
      let k = both (fits_kind structs begun kind w) (fields_fit structs begun kinds ws) h in
      FieldsAlike.plain (word-self (length inputs) ps w (fits-fine kind w k.0).0) (fields-self ps kinds ws k.1)
  fields-self ps (CellInt ∷ kinds) (w ∷ ws) h =
      let k = both (fits_field structs begun CellInt w) (fields_fit structs begun kinds ws) h in FieldsAlike.int_cell (fields-self ps kinds ws k.1)
  fields-self ps (CellPtr s ∷ kinds) (w ∷ ws) h =
      let k = both (fits_field structs begun (CellPtr s) w) (fields_fit structs begun kinds ws) h in FieldsAlike.pointer_cell (fields-self ps kinds ws k.1)

  fields-plain : (ps : Pairs) (kinds : List FieldKind) (ws : List Word) → fields_fit structs begun kinds ws ≡ true → FieldsAlike ps kinds (plain_words kinds ws) (plain_words kinds ws)
  fields-plain ps [] [] h = FieldsAlike.none
  fields-plain ps [] (w ∷ ws) h = absurd (grind (arith, h))
  fields-plain ps (kind ∷ kinds) [] h = absurd (grind (arith, h))
  fields-plain ps (PlainField kind ∷ kinds) (w ∷ ws) h =
      let k = both (fits_kind structs begun kind w) (fields_fit structs begun kinds ws) h in
      FieldsAlike.plain (word-self (length inputs) ps w (fits-fine kind w k.0).0) (fields-plain ps kinds ws k.1)
  fields-plain ps (CellInt ∷ kinds) (w ∷ ws) h =
      let k = both (fits_field structs begun CellInt w) (fields_fit structs begun kinds ws) h in FieldsAlike.int_cell (fields-plain ps kinds ws k.1)
  fields-plain ps (CellPtr s ∷ kinds) (w ∷ ws) h =
      let k = both (fits_field structs begun (CellPtr s) w) (fields_fit structs begun kinds ws) h in FieldsAlike.pointer_cell (fields-plain ps kinds ws k.1)

  fields-full : (kinds : List FieldKind) (ws : List Word) → fields_fit structs begun kinds ws ≡ true → length ws ≡ length kinds
  fields-full [] [] h = refl
  fields-full [] (w ∷ ws) h = absurd (grind (arith, h))
  fields-full (kind ∷ kinds) [] h = absurd (grind (arith, h))
  fields-full (kind ∷ kinds) (w ∷ ws) h =
      let k = both (fits_field structs begun kind w) (fields_fit structs begun kinds ws) h in ap suc (fields-full kinds ws k.1)

  all-at : (test : Block → Bool) (blocks : List Block) → list_all test blocks ≡ true → (i : ℕ) (block : Block) → slice_get blocks i ≡ Some block → test block ≡ true
  all-at test [] h i block e = none-some block e
  all-at test (b ∷ blocks) h zero block e = let k = both (test b) (list_all test blocks) h in rw (some-same b block e) at k.0
  all-at test (b ∷ blocks) h (suc i) block e = let k = both (test b) (list_all test blocks) h in all-at test blocks k.1 i block e

  -- an input block fits
  pub input-fits : inputs_fit structs inputs ≡ true → (i : ℕ) (block : Block) → slice_get inputs i ≡ Some block → block_fits structs begun block ≡ true
  input-fits h = let k = both (list_all (block_fits structs begun) inputs) (list_all (block_fits structs begun) []) h in all-at (block_fits structs begun) inputs k.0

  known-each : (ws : List Word) → Each Fine ws → KnownWords (length inputs) [] ws
  known-each [] h = tt
  known-each (w ∷ ws) h = (h.0.0, known-each ws h.1)

  placed-each : (ws : List Word) → Each Fine ws → Each (Placed structs (record { inputs = inputs; made = [] })) ws
  placed-each [] h = tt
  placed-each (w ∷ ws) h = (h.0.1, placed-each ws h.1)

  module _ (fit : inputs_fit structs inputs ≡ true) where
    pub input-known : (i : ℕ) (block : Block) → slice_get inputs i ≡ Some block → KnownWords (length inputs) [] block.words
    input-known i block e = known-each block.words (fields-fine (kinds_of_shape structs block.shape) block.words (input-fits fit i block e))

    pub input-self : (ps : Pairs) (i : ℕ) (block : Block) → slice_get inputs i ≡ Some block
        → FieldsAlike ps (kinds_of_shape structs block.shape) (plain_words (kinds_of_shape structs block.shape) block.words) block.words
    input-self ps i block e = fields-self ps (kinds_of_shape structs block.shape) block.words (input-fits fit i block e)

    pub plain-self : (ps : Pairs) (i : ℕ) (block : Block) → slice_get inputs i ≡ Some block
        → FieldsAlike ps (kinds_of_shape structs block.shape) (plain_words (kinds_of_shape structs block.shape) block.words) (plain_words (kinds_of_shape structs block.shape) block.words)
    plain-self ps i block e = fields-plain ps (kinds_of_shape structs block.shape) block.words (input-fits fit i block e)

    -- and has one word for each field
    pub input-full : (i : ℕ) (block : Block) → slice_get inputs i ≡ Some block → length block.words ≡ length (kinds_of_shape structs block.shape)
    input-full i block e = fields-full (kinds_of_shape structs block.shape) block.words (input-fits fit i block e)

    pub begun-placed : WellPlaced structs (record { inputs = inputs; made = [] })
    begun-placed (Input i) block e = placed-each block.words (fields-fine (kinds_of_shape structs block.shape) block.words (input-fits fit i block e))
    begun-placed (Core c) block e = none-some block e

module _ (code : Code) (inputs : List Block) where
  args-in : (f : Option FunctionCode) (args : List Word) → args_fit code.structs (record { inputs = inputs; made = [] }) f args ≡ true → Each (Fine code.structs inputs) args
  args-in (Some (CoreFunction name entry params)) args h = words-fine code.structs inputs params args h
  args-in (Some (InitFunction name s params body)) args h = absurd (grind (arith, h))
  args-in None args h = absurd (grind (arith, h))

  pub args-known : (f : ℕ) (args : List Word) → Fits code inputs f args → KnownWords (length inputs) [] args
  args-known f args h = known-each code.structs inputs args (args-in (slice_get code.functions f) args h.words)

  pub args-placed : (f : ℕ) (args : List Word) → Fits code inputs f args → Each (Placed code.structs (record { inputs = inputs; made = [] })) args
  args-placed f args h = placed-each code.structs inputs args (args-in (slice_get code.functions f) args h.words)
