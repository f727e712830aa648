-- What an engine shows of a finished run: its blocks are those of the run from scratch up to the numbers of core
-- blocks.
use Rattle.std.proofs.Common.{◌≡◌, ℕ, zero, suc, ◌<◌, true, Option, Some, None, List, [], ◌∷◌}
use Rattle.std.proofs.Common.{map, length, is_some, unwrap_or, refl, sym, ap, ap₂, ◌∙◌, subst, slice_get, slice_index}
use Rattle.std.proofs.Common.{arith}
use Rattle.std.specs.Option.{option_map}
use Rattle.std.specs.Prelude.{IsSome}
use Rattle.std.proofs.lemmas.Option.{slice_get-map}
use Rattle.ceal_base.specs.Access.{word_in, content_of}
use Rattle.ceal_base.specs.Block.{Block, Blocks, block_at}
use Rattle.ceal_base.specs.Finished.{Finished}
use Rattle.ceal_base.specs.Fitting.{fits_kind, fits_field, fields_fit}
use Rattle.ceal_base.specs.Same.{index_of, renamed_id, renamed_word, renamed_block}
use Rattle.ceal_base.specs.declared.kind.FieldKind.{FieldKind}
use Rattle.ceal_base.specs.declared.kind.FieldKind.TheVariants.{Plain, CellInt, CellPtr}
use Rattle.ceal_base.specs.declared.kind.Kind.{Kind}
use Rattle.ceal_base.specs.declared.kind.Kind.TheVariants.{Int, Ptr, ModInt, ModPtr}
use Rattle.ceal_base.specs.declared.typed.StructInfo.{StructInfo}
use Rattle.ceal_base.specs.declared.word.BlockId.{BlockId}
use Rattle.ceal_base.specs.declared.word.BlockId.TheVariants.{Input, Core}
use Rattle.ceal_base.specs.declared.word.Word.{Word}
use Rattle.ceal_base.specs.declared.word.Word.TheVariants.{Num, Null, Block as BlockWord, At}
use Rattle.ceal_code.proofs.Replay.MemoryChanges.{get-within}
use Rattle.ceal_code.proofs.Words.SameIsEqual.{both, none-some, some-same}
use Rattle.ceal_engine.proofs.MarkedEnds.{at-index}
use Rattle.ceal_engine.specs.Engine.{EngineState, IsRun, core, stored_at}
use Rattle.ceal_show.specs.Renaming.{IsRenaming, renamed_word as shown_word, renamed_block as shown_block}
use Rattle.ceal_show.specs.Shown.{IsWhole, IsThere, words_in, word_at, target}

-- both ways to rename words are one
one-word : (bs : List ℕ) (w : Word) → shown_word (renamed_id bs) w ≡ renamed_word bs w
one-word bs (Num n) = refl
one-word bs Null = refl
one-word bs (BlockWord b) = refl
one-word bs (At p) = refl

one-words : (bs : List ℕ) (ws : List Word) → map (shown_word (renamed_id bs)) ws ≡ map (renamed_word bs) ws
one-words bs [] = refl
one-words bs (w ∷ ws) = ap₂ ◌∷◌ (one-word bs w) (one-words bs ws)

one-block : (bs : List ℕ) (b : Block) → shown_block (renamed_id bs) b ≡ renamed_block bs b
one-block bs b = ap (λ words. record { shape = b.shape; words = words }) (one-words bs b.words)

some-of : {A B : Type 0} (f : A → B) (o : Option A) (y : B) → option_map f o ≡ Some y → (x : A) × (o ≡ Some x) × (f x ≡ y)
some-of f None y e = none-some y e
some-of f (Some x) y e = (x, refl, some-same (f x) y e)

module _ (e : EngineState) (r : Finished) (is : IsRun e r) where
  abbrev bs : List ℕ
  bs = is.numbers

  pub input-renamed : (n : ℕ) → option_map (renamed_block bs) (slice_get e.memory.inputs n) ≡ slice_get r.memory.inputs n
  input-renamed n = sym (slice_get-map (renamed_block bs) e.memory.inputs n) ∙ ap (λ xs. slice_get xs n) is.same.each_input

  core-renamed : (n : ℕ) → index_of bs n < length bs → option_map (renamed_block bs) (core e.memory n) ≡ slice_get r.memory.made (index_of bs n)
  core-renamed n h = ap (λ n. option_map (renamed_block bs) (core e.memory n)) (sym (at-index bs n h)) ∙ is.same.each_core (index_of bs n) h

  -- a block of the engine is in the run, with its words renamed
  pub block-renamed : (b : BlockId) (block : Block) → stored_at e.memory b ≡ Some block → block_at r.memory (renamed_id bs b) ≡ Some (renamed_block bs block)
  block-renamed (Input n) block i = sym (input-renamed n) ∙ ap (option_map (renamed_block bs)) i
  block-renamed (Core n) block i = sym (core-renamed n (is.only n (ap is_some i))) ∙ ap (option_map (renamed_block bs)) i

  -- and back
  pub block-back : (b : BlockId) (other : Block) → block_at r.memory (renamed_id bs b) ≡ Some other → (block : Block) × (stored_at e.memory b ≡ Some block) × (renamed_block bs block ≡ other)
  block-back (Input n) other i = some-of (renamed_block bs) (slice_get e.memory.inputs n) other (input-renamed n ∙ i)
  block-back (Core n) other i =
      let h : index_of bs n < length bs = omega (arith, get-within r.memory.made (index_of bs n) other i, is.same.count) in
      some-of (renamed_block bs) (core e.memory n) other (core-renamed n h ∙ i)

  pub there-back : (b : BlockId) → IsSome (block_at r.memory (renamed_id bs b)) → IsSome (stored_at e.memory b)
  there-back b h = go (block_at r.memory (renamed_id bs b)) refl h
    where
      go : (o : Option Block) → block_at r.memory (renamed_id bs b) ≡ o → IsSome o → IsSome (stored_at e.memory b)
      go None i k = absurd (grind (arith, k))
      go (Some other) i k = let g = block-back b other i in ap is_some g.1

  one-core : (m n : ℕ) → IsSome (core e.memory m) → IsSome (core e.memory n) → index_of bs m ≡ index_of bs n → m ≡ n
  one-core m n h k i = sym (at-index bs m (is.only m h)) ∙ ap (slice_index bs) i ∙ at-index bs n (is.only n k)

  one-one : (b c : BlockId) → IsSome (stored_at e.memory b) → IsSome (stored_at e.memory c) → renamed_id bs b ≡ renamed_id bs c → b ≡ c
  one-one (Input m) (Input n) h k i = i
  one-one (Input m) (Core n) h k i = absurd (grind (arith, i))
  one-one (Core m) (Input n) h k i = absurd (grind (arith, i))
  one-one (Core m) (Core n) h k i = let j : index_of bs m ≡ index_of bs n = grind (arith, i) in ap Core (one-core m n h k j)

  pub renaming : IsRenaming (renamed_id bs) (stored_at e.memory) (block_at r.memory)
  renaming = record {
    inputs = λ n. refl;
    cores = λ n. refl;
    blocks = λ b block i. block-renamed b block i ∙ ap Some (sym (one-block bs block));
    one_to_one = one-one;
  }

  -- the engine's memory can be shown where the run's can
  module _ (structs : List StructInfo) (whole : IsWhole structs (block_at r.memory)) where
    length-renamed : (ws : List Word) → length (map (renamed_word bs) ws) ≡ length ws
    length-renamed [] = refl
    length-renamed (w ∷ ws) = ap suc (length-renamed ws)

    target-renamed : (w : Word) → target (renamed_word bs w) ≡ option_map (renamed_id bs) (target w)
    target-renamed (Num n) = refl
    target-renamed Null = refl
    target-renamed (BlockWord b) = refl
    target-renamed (At p) = refl

    there-renamed : (o : Option BlockId) → IsThere (block_at r.memory) (option_map (renamed_id bs) o) → IsThere (stored_at e.memory) o
    there-renamed None h = tt
    there-renamed (Some b) h = there-back b h

    word-named : (b : BlockId) (o : Option Block) → stored_at e.memory b ≡ o → (field : ℕ) (w : Word) → slice_get (words_in o) field ≡ Some w → IsThere (stored_at e.memory) (target w)
    word-named b None i field w k = none-some w k
    word-named b (Some block) i field w k =
        let g : slice_get (map (renamed_word bs) block.words) field ≡ Some (renamed_word bs w) = slice_get-map (renamed_word bs) block.words field ∙ ap (option_map (renamed_word bs)) k in
        let n : word_at (block_at r.memory) (renamed_id bs b) field ≡ Some (renamed_word bs w) = ap (λ o. slice_get (words_in o) field) (block-renamed b block i) ∙ g in
        there-renamed (target w) (subst (IsThere (block_at r.memory)) (target-renamed w) (whole.named (renamed_id bs b) field (renamed_word bs w) n))

    pub whole-store : IsWhole structs (stored_at e.memory)
    whole-store = record {
      fields = λ b block i. sym (length-renamed block.words) ∙ whole.fields (renamed_id bs b) (renamed_block bs block) (block-renamed b block i);
      named = λ b field w k. word-named b (stored_at e.memory b) refl field w k;
    }

  -- the content of an input's field
  word-renamed : (o : Option Block) (field : ℕ) → word_in (option_map (renamed_block bs) o) field Null ≡ renamed_word bs (word_in o field Null)
  word-renamed None field = refl
  word-renamed (Some block) field = ap (λ o. unwrap_or o Null) (slice_get-map (renamed_word bs) block.words field) ∙ go (slice_get block.words field)
    where
      go : (o : Option Word) → unwrap_or (option_map (renamed_word bs) o) Null ≡ renamed_word bs (unwrap_or o Null)
      go None = refl
      go (Some w) = refl

  pub content-renamed : (n field : ℕ) → content_of r.memory (At (record { block = Input n; field = field })) Null ≡ renamed_word bs (word_in (stored_at e.memory (Input n)) field Null)
  content-renamed n field = ap (λ o. word_in o field Null) (sym (input-renamed n)) ∙ word-renamed (slice_get e.memory.inputs n) field

-- a renamed word that fits where there are no core blocks is the word
module _ (structs : List StructInfo) (inputs : List Block) (bs : List ℕ) where
  abbrev alone : Blocks
  alone = record { inputs = inputs; made = [] }

  no-core : (kind : Kind) (n : ℕ) → fits_kind structs alone kind (BlockWord (Core n)) ≡ true → ⊥
  no-core Int n h = absurd (grind (arith, h))
  no-core (Ptr s) n h = absurd (grind (arith, h))
  no-core ModInt n h = absurd (grind (arith, h))
  no-core (ModPtr s) n h = absurd (grind (arith, h))

  no-place : (kind : Kind) (n field : ℕ) → fits_kind structs alone kind (At (record { block = Core n; field = field })) ≡ true → ⊥
  no-place Int n field h = absurd (grind (arith, h))
  no-place (Ptr s) n field h = absurd (grind (arith, h))
  no-place ModInt n field h = absurd (grind (arith, h))
  no-place (ModPtr s) n field h = absurd (grind (arith, h))

  place-back : (kind : Kind) (v : Word) (b : BlockId) (field : ℕ) → At (record { block = renamed_id bs b; field = field }) ≡ v → fits_kind structs alone kind v ≡ true
      → At (record { block = b; field = field }) ≡ v
  place-back kind v (Input n) field i h = i
  place-back kind v (Core n) field i h = absurd (no-place kind (index_of bs n) field (subst (λ v. fits_kind structs alone kind v ≡ true) (sym i) h))

  word-back : (kind : Kind) (v w : Word) → renamed_word bs w ≡ v → fits_kind structs alone kind v ≡ true → w ≡ v
  word-back kind v (Num n) i h = i
  word-back kind v Null i h = i
  word-back kind v (BlockWord (Input n)) i h = i
  word-back kind v (BlockWord (Core n)) i h = absurd (no-core kind (index_of bs n) (subst (λ v. fits_kind structs alone kind v ≡ true) (sym i) h))
  word-back kind v (At p) i h = place-back kind v p.block p.field i h

  field-back : (kind : FieldKind) (v w : Word) → renamed_word bs w ≡ v → fits_field structs alone kind v ≡ true → w ≡ v
  field-back (Plain kind) v w i h = word-back kind v w i h
  field-back CellInt v w i h = word-back Int v w i h
  field-back (CellPtr s) v w i h = word-back (Ptr s) v w i h

  -- of the words that fit fields
  fields-at : (kinds : List FieldKind) (ws : List Word) → fields_fit structs alone kinds ws ≡ true → (f : ℕ) (v : Word) → slice_get ws f ≡ Some v
      → (kind : FieldKind) × (fits_field structs alone kind v ≡ true)
  fields-at kinds [] h f v i = none-some v i
  fields-at [] (w ∷ ws) h f v i = absurd (grind (arith, h))
  fields-at (kind ∷ kinds) (w ∷ ws) h zero v i =
      (kind, subst (λ w. fits_field structs alone kind w ≡ true) (some-same w v i) (both (fits_field structs alone kind w) (fields_fit structs alone kinds ws) h).0)
  fields-at (kind ∷ kinds) (w ∷ ws) h (suc f) v i = fields-at kinds ws (both (fits_field structs alone kind w) (fields_fit structs alone kinds ws) h).1 f v i

  pub plain-back : (kinds : List FieldKind) (ws us : List Word) (f : ℕ) → fields_fit structs alone kinds ws ≡ true
      → slice_get (map (renamed_word bs) us) f ≡ slice_get ws f → slice_get us f ≡ slice_get ws f
  plain-back kinds ws us f h i = go (slice_get us f) (slice_get ws f) refl (sym (slice_get-map (renamed_word bs) us f) ∙ i)
    where
      go : (o p : Option Word) → slice_get ws f ≡ p → option_map (renamed_word bs) o ≡ p → o ≡ p
      go None p e j = j
      go (Some w) None e j = none-some (renamed_word bs w) (sym j)
      go (Some w) (Some v) e j = let k = fields-at kinds ws h f v e in ap Some (field-back k.0 v w (some-same (renamed_word bs w) v j) k.1)
