-- What an engine says of a finished run by its inputs and by its memory.
use Rattle.std.proofs.Common.{◌≡◌, ℕ, ◌<◌, Bool, true, false, Option, Some, None, List, length, is_some, unwrap_or, if◌then◌else◌, refl, sym, ap, ◌∙◌, subst, slice_get, arith}
use Rattle.std.proofs.lemmas.Option.{slice_get_within}
use Rattle.std.specs.Option.{option_map}
use Rattle.std.specs.Prelude.{IsSome, IfSome}
use Rattle.ceal_base.specs.Access.{word_in}
use Rattle.ceal_base.specs.Block.{Block}
use Rattle.ceal_base.specs.Finished.{Finished}
use Rattle.ceal_base.specs.Fitting.{kind_in}
use Rattle.ceal_base.specs.Same.{renamed_block}
use Rattle.ceal_base.specs.Shapes.{kinds_of_shape}
use Rattle.ceal_base.specs.declared.kind.FieldKind.{FieldKind}
use Rattle.ceal_base.specs.declared.kind.FieldKind.TheVariants.{Plain, CellInt, CellPtr}
use Rattle.ceal_base.specs.declared.kind.Shape.{Shape}
use Rattle.ceal_base.specs.declared.typed.StructInfo.{StructInfo}
use Rattle.ceal_base.specs.declared.word.BlockId.{BlockId}
use Rattle.ceal_base.specs.declared.word.BlockId.TheVariants.{Input, Core}
use Rattle.ceal_base.specs.declared.word.Word.{Word}
use Rattle.ceal_base.specs.declared.word.Word.TheVariants.{Null}
use Rattle.ceal_code.proofs.TypedCode.FittingWords.{input-fits}
use Rattle.ceal_code.proofs.Replay.RunEnds.{fresh-count}
use Rattle.ceal_code.proofs.Replay.MemoryChanges.{got}
use Rattle.ceal_code.proofs.Words.SameIsEqual.{none-some, some-same}
use Rattle.ceal_code.specs.Fitting.{Fits}
use Rattle.ceal_code.specs.Laws.{ProgressLaw}
use Rattle.ceal_code.specs.Value.{is_cell}
use Rattle.ceal_engine.specs.Engine.{EngineState, IsEngine, Shows, block_in, stored_at, fresh_call, is_plain}
use Rattle.ceal_base.specs.declared.call.Call.{Call}
use Rattle.ceal_engine.specs.declared.phase.Phase.{Phase}
use Rattle.ceal_engine.specs.declared.phase.Phase.TheVariants.{New, Finished as IsFinished, Pending, Partial, Dropped}
use Rattle.ceal_session.proofs.Inputs.RunKeepsInputs.{Kept, kept-fresh}
use Rattle.ceal_session.proofs.Memory.BlocksUpToNumbers.{input-renamed, plain-back}
use Rattle.ceal_session.specs.Shown.{is_finished, shown_blocks}
use Rattle.ceal_show.specs.Shown.{IsWhole, words_in, word_at}

finished-is : (phase : Phase) → is_finished phase ≡ true → phase ≡ IsFinished
finished-is New h = absurd (grind (arith, h))
finished-is IsFinished h = refl
finished-is Pending h = absurd (grind (arith, h))
finished-is Partial h = absurd (grind (arith, h))
finished-is Dropped h = absurd (grind (arith, h))

-- what is seen is of a finished run
pub seen-is : (e : EngineState) (b : BlockId) → e.phase ≡ IsFinished → shown_blocks e b ≡ stored_at e.memory b
unfolding shown_blocks
seen-is e b h = rw h refl

pub seen-finished : (e : EngineState) (b : BlockId) → IsSome (shown_blocks e b) → e.phase ≡ IsFinished
unfolding shown_blocks
seen-finished e b h = go (is_finished e.phase) refl h
  where
    go : (t : Bool) → is_finished e.phase ≡ t → IsSome (if t then stored_at e.memory b else None) → e.phase ≡ IsFinished
    go true i k = finished-is e.phase i
    go false i k = absurd (grind (arith, k))

-- the same shape, and the same plain words
pub record ShownAs (structs : List StructInfo) (block : Block) (o : Option Block) : Type 0 where
  pub found : Block
  pub there : o ≡ Some found
  pub shape : found.shape ≡ block.shape
  pub plain : (f : ℕ) → is_plain (slice_get (kinds_of_shape structs found.shape) f) ≡ true → slice_get block.words f ≡ slice_get found.words f

module _ (e : EngineState) (k : IsEngine e) (law : ProgressLaw) (fin : e.phase ≡ IsFinished) where
  abbrev run : Finished
  run = (k.present fin).run

  pub inputs-kept : Kept e.code.structs e.inputs run.memory.inputs
  inputs-kept = go e.call refl k.call (k.present fin).fresh
    where
      go : (o : Option Call) → e.call ≡ o → IfSome o (λ call. Fits e.code e.inputs call.function call.args) → fresh_call e.code e.inputs e.fuel o ≡ Some run
          → Kept e.code.structs e.inputs run.memory.inputs
      go None i f h = none-some run h
      go (Some call) i f h = kept-fresh e.code e.inputs law k.valid call.function call.args f e.fuel run h

  pub input-count : length run.memory.inputs ≡ length e.inputs
  input-count = go e.call (k.present fin).fresh
    where
      go : (o : Option Call) → fresh_call e.code e.inputs e.fuel o ≡ Some run → length run.memory.inputs ≡ length e.inputs
      go None h = none-some run h
      go (Some call) h = fresh-count e.code e.inputs call.function call.args e.fuel run h

  input-shown : (n : ℕ) (block : Block) → slice_get e.memory.inputs n ≡ Some block → ShownAs e.code.structs block (slice_get e.inputs n)
  input-shown n block i =
      let is = (k.present fin).is in
      let r : slice_get run.memory.inputs n ≡ Some (renamed_block is.numbers block) = sym (input-renamed e run is n) ∙ ap (option_map (renamed_block is.numbers)) i in
      let g = got e.inputs n (grind (arith, slice_get_within run.memory.inputs n (renamed_block is.numbers block) r, input-count)) in
      let l = inputs-kept n g.0 g.1 in
      let same : l.block ≡ renamed_block is.numbers block = some-same l.block (renamed_block is.numbers block) (sym l.there ∙ r) in
      let shape : g.0.shape ≡ block.shape = sym l.shape ∙ ap (λ b. b.shape) same in
      record {
        found = g.0;
        there = g.1;
        shape = shape;
        plain = λ f h. plain-back e.code.structs e.inputs is.numbers (kinds_of_shape e.code.structs g.0.shape) g.0.words block.words f
            (input-fits e.code.structs e.inputs k.inputs n g.0 g.1) (sym (ap (λ b. slice_get b.words f) same) ∙ l.plain f h);
      }

  pub shown-as : (b : BlockId) (block : Block) → stored_at e.memory b ≡ Some block → ShownAs e.code.structs block (block_in e b)
  shown-as (Input n) block i = input-shown n block i
  shown-as (Core n) block i = record { found = block; there = i; shape = refl; plain = λ f h. refl }

-- a block that is seen, in the memory and among the inputs
pub record SeenBlock (e : EngineState) (b : BlockId) : Type 0 where
  pub fin : e.phase ≡ IsFinished
  pub block : Block
  pub stored : stored_at e.memory b ≡ Some block
  pub seen_as : shown_blocks e b ≡ Some block
  pub shown : ShownAs e.code.structs block (block_in e b)

pub shows-finished : (e : EngineState) → e.phase ≡ IsFinished → (b : BlockId) → Shows e b
shows-finished e h (Input n) = tt
shows-finished e h (Core n) = h

module _ (e : EngineState) (k : IsEngine e) (law : ProgressLaw) where
  pub seen-block : (b : BlockId) → IsSome (shown_blocks e b) → SeenBlock e b
  seen-block b h = go (shown_blocks e b) refl h
    where
      go : (o : Option Block) → shown_blocks e b ≡ o → IsSome o → SeenBlock e b
      go None i some = absurd (grind (arith, some))
      go (Some block) i some =
          let fin = seen-finished e b h in
          let s : stored_at e.memory b ≡ Some block = sym (seen-is e b fin) ∙ i in
          record { fin = fin; block = block; stored = s; seen_as = i; shown = shown-as e k law fin b block s }

  pub word-seen : (b : BlockId) (field : ℕ) → IsSome (word_at (shown_blocks e) b field) → IsSome (shown_blocks e b)
  word-seen b field h = go (shown_blocks e b) h
    where
      go : (o : Option Block) → IsSome (slice_get (words_in o) field) → IsSome o
      go None i = absurd (grind (arith, i))
      go (Some block) i = refl

  -- the word of a seen field
  module _ (b : BlockId) (field : ℕ) (h : IsSome (word_at (shown_blocks e) b field)) where
    abbrev sb : SeenBlock e b
    sb = seen-block b (word-seen b field h)

    is-word : (o : Option Word) → IsSome o → o ≡ Some (unwrap_or o Null)
    is-word None i = absurd (grind (arith, i))
    is-word (Some w) i = refl

    word-there : word_at (shown_blocks e) b field ≡ slice_get sb.block.words field
    word-there = ap (λ o. slice_get (words_in o) field) sb.seen_as

    some-word : IsSome (slice_get sb.block.words field)
    some-word = subst IsSome word-there h

    pub word-stored : word_at (shown_blocks e) b field ≡ Some (word_in (stored_at e.memory b) field Null)
    word-stored = word-there ∙ is-word (slice_get sb.block.words field) some-word ∙ ap (λ o. Some (word_in o field Null)) (sym sb.stored)

    pub word-plain : is_plain (kind_in e.code.structs (block_in e b) field) ≡ true → word_at (shown_blocks e) b field ≡ Some (word_in (block_in e b) field Null)
    word-plain p =
        let q : is_plain (slice_get (kinds_of_shape e.code.structs sb.shown.found.shape) field) ≡ true = subst (λ o. is_plain (kind_in e.code.structs o field) ≡ true) sb.shown.there p in
        word-there ∙ is-word (slice_get sb.block.words field) some-word ∙ ap (λ o. Some (unwrap_or o Null)) (sb.shown.plain field q) ∙ ap (λ o. Some (word_in o field Null)) (sym sb.shown.there)

    cell-else : (o : Option FieldKind) → IsSome o → is_plain o ≡ false → is_cell o ≡ true
    cell-else None i p = absurd (grind (arith, i))
    cell-else (Some (Plain kind)) i p = absurd (grind (arith, p))
    cell-else (Some CellInt) i p = refl
    cell-else (Some (CellPtr s)) i p = refl

    some-in : (o : Option Word) (ws : List Word) → slice_get ws field ≡ o → IsSome o → field < length ws
    some-in None ws i j = absurd (grind (arith, j))
    some-in (Some w) ws i j = slice_get_within ws field w i

    pub kind-there : IsWhole e.code.structs (stored_at e.memory) → is_plain (kind_in e.code.structs (block_in e b) field) ≡ false → is_cell (kind_in e.code.structs (block_in e b) field) ≡ true
    kind-there whole p =
        let n : length sb.block.words ≡ length (kinds_of_shape e.code.structs sb.block.shape) = whole.fields b sb.block sb.stored in
        let l : field < length sb.block.words = some-in (slice_get sb.block.words field) sb.block.words refl some-word in
        let g = got (kinds_of_shape e.code.structs sb.block.shape) field (subst (λ n. field < n) n l) in
        let s : kind_in e.code.structs (block_in e b) field ≡ Some g.0 =
        ap (λ o. kind_in e.code.structs o field) sb.shown.there ∙ ap (λ s. slice_get (kinds_of_shape e.code.structs s) field) sb.shown.shape ∙ g.1 in
        cell-else (kind_in e.code.structs (block_in e b) field) (ap is_some s) p

pub seen-same : (e : EngineState) → e.phase ≡ IsFinished → shown_blocks e ≡ stored_at e.memory
unfolding shown_blocks
seen-same e h = rw h refl

-- the kind of a field by the shape of its block
pub kind-by : (structs : List StructInfo) (o : Option Block) (shape : Shape) (field : ℕ) → option_map (λ b. b.shape) o ≡ Some shape
    → kind_in structs o field ≡ slice_get (kinds_of_shape structs shape) field
kind-by structs None shape field h = none-some shape h
kind-by structs (Some block) shape field h = ap (λ s. slice_get (kinds_of_shape structs s) field) (some-same block.shape shape h)
