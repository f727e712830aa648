-- What is read of a run is what its memory has.
use Rattle.std.proofs.Common.{◌≡◌, ℕ, zero, suc, ◌+◌, ◌<◌, ◌^◌, true, false, Option, Some, None, List, [], ◌∷◌, slice_get, unwrap_or, refl, sym, ap, ◌∙◌, arith}
use Rattle.std.specs.Option.{option_map}
use Rattle.std.specs.Prelude.{IsSome}
use Rattle.ceal_base.specs.Access.{word_in}
use Rattle.ceal_base.specs.Block.{Block}
use Rattle.ceal_base.specs.Fitting.{kind_in}
use Rattle.ceal_base.specs.Shapes.{kinds_of_shape}
use Rattle.ceal_base.specs.Trace.{steps_in}
use Rattle.ceal_base.specs.declared.call.Call.{Call}
use Rattle.ceal_base.specs.declared.kind.FieldKind.{FieldKind}
use Rattle.ceal_base.specs.declared.kind.FieldKind.TheVariants.{Plain, CellInt, CellPtr}
use Rattle.ceal_base.specs.declared.word.BlockId.{BlockId}
use Rattle.ceal_base.specs.declared.word.BlockId.TheVariants.{Input, Core}
use Rattle.ceal_base.specs.declared.word.Place.{Place}
use Rattle.ceal_base.specs.declared.word.Word.{Word}
use Rattle.ceal_base.specs.declared.word.Word.TheVariants.{Null}
use Rattle.ceal_code.proofs.Replay.ReplayedCall.{get-after}
use Rattle.ceal_code.proofs.Words.SameIsEqual.{none-some, some-same}
use Rattle.ceal_code.specs.PlainWords.{block_shape, block_word}
use Rattle.ceal_code.specs.Program.{Code}
use Rattle.ceal_code.specs.Replay.{Store, with_contents, filled, block_after}
use Rattle.ceal_code.specs.Value.{is_cell}
use Rattle.ceal_engine.proofs.Present.{by-run}
use Rattle.ceal_engine.proofs.RunMemory.{cores-are, steps-held}
use Rattle.ceal_engine.specs.Engine.{InLimits, block_of, stored_at, core, is_plain}
use Rattle.ceal_engine.specs.Keeping.{contents, phase_of, running_in, store_in, Keeps}
use Rattle.ceal_engine.specs.Reading.{known_block, content_where, content_at}
use Rattle.ceal_engine.specs.declared.phase.Phase.TheVariants.{Finished as IsFinished}
use Rattle.ceal_engine.specs.declared.run.Run.{Run}
use Rattle.ceal_engine.specs.declared.run.Run.TheVariants as its
use Rattle.ceal_heap.specs.Heap.{plain_of as heap_words}
use Rattle.ceal_repair.specs.declared.running.Running.{Running}
use Rattle.ceal_trace.specs.Items.{forest_of}

module _ (s : Store) (b : BlockId) where
  -- a modifiable has its content
  pub cell-content : (kinds : List FieldKind) (n : ℕ) (words : List Word) (f : ℕ) → is_cell (slice_get kinds f) ≡ true
      → slice_get (with_contents s b n kinds words) f ≡ option_map (λ w. s (record { block = b; field = n + f })) (slice_get words f)
  cell-content [] n words f h = absurd (grind (arith, h))
  cell-content (kind ∷ kinds) n [] f h = refl
  cell-content (kind ∷ kinds) n (w ∷ words) zero h = let e : n + 0 ≡ n = omega arith in rw (h, e) refl
  cell-content (kind ∷ kinds) n (w ∷ words) (suc f) h = let e : n + 1 + f ≡ n + suc f = omega arith in rw (← e) (cell-content kinds (n + 1) words f h)

  -- another field has its word
  plain-content : (kinds : List FieldKind) (n : ℕ) (words : List Word) (f : ℕ) → is_cell (slice_get kinds f) ≡ false → slice_get (with_contents s b n kinds words) f ≡ slice_get words f
  plain-content [] n words f h = refl
  plain-content (kind ∷ kinds) n [] f h = refl
  plain-content (kind ∷ kinds) n (w ∷ words) zero h = rw h refl
  plain-content (kind ∷ kinds) n (w ∷ words) (suc f) h = plain-content kinds (n + 1) words f h

no-cell : (k : Option FieldKind) → is_plain k ≡ true → is_cell k ≡ false
no-cell None h = absurd (grind (arith, h))
no-cell (Some (Plain kind)) h = refl
no-cell (Some CellInt) h = absurd (grind (arith, h))
no-cell (Some (CellPtr t)) h = absurd (grind (arith, h))

module _ (code : Code) (inputs : List Block) where
  pub kind-filled : (s : Store) (b : BlockId) (o : Option Block) (f : ℕ) → kind_in code.structs (option_map (filled code s b) o) f ≡ kind_in code.structs o f
  kind-filled s b None f = refl
  kind-filled s b (Some block) f = refl

  cell-word : (r : Running) (p : Place) (o : Option Block) → is_cell (kind_in code.structs o p.field) ≡ true
      → content_where (Some r) p (block_word o p.field) ≡ word_in (option_map (filled code (contents r.tables.mods) p.block) o) p.field Null
  cell-word r p None h = absurd (grind (arith, h))
  cell-word r p (Some block) h =
      go (slice_get block.words p.field) refl
      ∙ ap (λ w. unwrap_or w Null) (sym (cell-content (contents r.tables.mods) p.block (kinds_of_shape code.structs block.shape) 0 block.words p.field h))
    where
      zero-more : 0 + p.field ≡ p.field
      zero-more = omega arith

      go : (o : Option Word) → slice_get block.words p.field ≡ o
          → content_where (Some r) p o ≡ unwrap_or (option_map (λ w. contents r.tables.mods (record { block = p.block; field = 0 + p.field })) o) Null
      go None e = refl
      go (Some w) e = rw zero-more refl

  plain-word : (s : Store) (b : BlockId) (o : Option Block) (f : ℕ) → is_plain (kind_in code.structs o f) ≡ true
      → unwrap_or (block_word o f) Null ≡ word_in (option_map (filled code s b) o) f Null
  plain-word s b None f h = refl
  plain-word s b (Some block) f h = ap (λ w. unwrap_or w Null) (sym (plain-content s b (kinds_of_shape code.structs block.shape) 0 block.words f (no-cell (kind_in code.structs (Some block) f) h)))

  own-word : (o : Option Block) (f : ℕ) → unwrap_or (block_word o f) Null ≡ word_in o f Null
  own-word None f = refl
  own-word (Some block) f = refl

  pub core-is : (r : Running) (n : ℕ) → core (store_in code inputs (Some r)) n ≡ option_map (filled code (contents r.tables.mods) (Core n)) (heap_words r.heap (Core n))
  unfolding block_after
  core-is r n = cores-are code (contents r.tables.mods) r.heap n

  value-law : (r : Running) (p : Place) → is_cell (kind_in code.structs (block_of inputs (store_in code inputs (Some r)) p.block) p.field) ≡ true
      → content_at (Some r) inputs p ≡ word_in (stored_at (store_in code inputs (Some r)) p.block) p.field Null
  value-law r p h = go p.block refl h
    where
      zero-more : (n : ℕ) → 0 + n ≡ n
      zero-more n = omega arith

      go : (b : BlockId) → p.block ≡ b → is_cell (kind_in code.structs (block_of inputs (store_in code inputs (Some r)) b) p.field) ≡ true
          → content_where (Some r) p (block_word (known_block (Some r) inputs b) p.field) ≡ word_in (stored_at (store_in code inputs (Some r)) b) p.field Null
      go (Input n) e k =
          cell-word r p (slice_get inputs n) k
          ∙ ap (λ o. word_in o p.field Null)
          (ap (λ b. option_map (filled code (contents r.tables.mods) b) (slice_get inputs n)) (e ∙ ap Input (sym (zero-more n))) ∙ sym (get-after code (contents r.tables.mods) 0 inputs n))
      go (Core n) e k =
          cell-word r p (heap_words r.heap (Core n))
          (sym (ap is_cell (kind-filled (contents r.tables.mods) (Core n) (heap_words r.heap (Core n)) p.field)) ∙ (ap (λ o. is_cell (kind_in code.structs o p.field)) (sym (core-is r n)) ∙ k))
          ∙ ap (λ o. word_in o p.field Null) (ap (λ b. option_map (filled code (contents r.tables.mods) b) (heap_words r.heap (Core n))) e ∙ sym (core-is r n))

  -- a plain field, and the shape, of an input or of a core block
  pub field-read : (run : Option Running) (b : BlockId) (f : ℕ) → is_plain (kind_in code.structs (block_of inputs (store_in code inputs run) b) f) ≡ true
      → unwrap_or (block_word (known_block run inputs b) f) Null ≡ word_in (block_of inputs (store_in code inputs run) b) f Null
  field-read run (Input n) f h = own-word (slice_get inputs n) f
  field-read None (Core n) f h = refl
  field-read (Some r) (Core n) f h =
      plain-word (contents r.tables.mods) (Core n) (heap_words r.heap (Core n)) f
      (sym (ap is_plain (kind-filled (contents r.tables.mods) (Core n) (heap_words r.heap (Core n)) f)) ∙ (ap (λ o. is_plain (kind_in code.structs o f)) (sym (core-is r n)) ∙ h))
      ∙ ap (λ o. word_in o f Null) (sym (core-is r n))

  shape-filled : (s : Store) (b : BlockId) (o : Option Block) → block_shape o ≡ option_map (λ (x : Block). x.shape) (option_map (filled code s b) o)
  shape-filled s b None = refl
  shape-filled s b (Some block) = refl

  own-shape : (o : Option Block) → block_shape o ≡ option_map (λ (x : Block). x.shape) o
  own-shape None = refl
  own-shape (Some block) = refl

  pub shape-read : (run : Option Running) (b : BlockId) → block_shape (known_block run inputs b) ≡ option_map (λ (x : Block). x.shape) (block_of inputs (store_in code inputs run) b)
  shape-read run (Input n) = own-shape (slice_get inputs n)
  shape-read None (Core n) = refl
  shape-read (Some r) (Core n) = shape-filled (contents r.tables.mods) (Core n) (heap_words r.heap (Core n)) ∙ ap (option_map (λ (x : Block). x.shape)) (sym (core-is r n))

  -- the content of a modifiable in Finished
  pub value-read : (run : Run) → phase_of run ≡ IsFinished → (p : Place) → is_cell (kind_in code.structs (block_of inputs (store_in code inputs (running_in run)) p.block) p.field) ≡ true
      → content_at (running_in run) inputs p ≡ word_in (stored_at (store_in code inputs (running_in run)) p.block) p.field Null
  value-read its.New e p h = absurd (grind (arith, e))
  value-read (its.Kept r g) e p h = value-law r p h
  value-read its.Dropped e p h = absurd (grind (arith, e))

  -- the steps of a run are few
  pub few-steps : (fuel : ℕ) (run : Run) (call : Option Call) → InLimits fuel → Keeps code fuel inputs run call → phase_of run ≡ IsFinished → (r : Running) → running_in run ≡ Some r
      → steps_in (forest_of r.tables.trace.nodes) < 2 ^ 32
  few-steps fuel run call i = by-run code fuel inputs (λ b c. phase_of b ≡ IsFinished → (r : Running) → running_in b ≡ Some r → steps_in (forest_of r.tables.trace.nodes) < 2 ^ 32)
      (λ e r is. none-some r is) (λ c e r is. none-some r is)
      (λ c b g k e r is. let n = steps-held code inputs c.function c.args fuel k.trace b k.of in let same =
      ap (λ (r : Running). steps_in (forest_of r.tables.trace.nodes)) (some-same b r is) in omega (arith, n, same, k.of.few, i.1))
      (λ c b k e. absurd (grind (arith, e)))
      run call

  -- a block that is there has a shape
  pub no-shape : (run : Option Running) (b : BlockId) → block_shape (known_block run inputs b) ≡ None → IsSome (block_of inputs (store_in code inputs run) b) → ⊥
  no-shape run b e h = go (block_of inputs (store_in code inputs run) b) (sym (shape-read run b) ∙ e) h
    where
      go : (o : Option Block) → option_map (λ (x : Block). x.shape) o ≡ None → IsSome o → ⊥
      go None e h = absurd (grind (arith, h))
      go (Some block) e h = none-some block.shape (sym e)
