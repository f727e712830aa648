-- What the places held when they were marked, and which of them are told as changed.
use Rattle.std.proofs.Common.{◌≡◌, ◌+◌, ◌<◌, ◌≤◌, ℕ, suc, Bool, true, false, cond, inl, inr, Option, Some, None, List, [], ◌∷◌, ◌++◌, refl, sym, ap, subst, ◌∙◌}
use Rattle.std.proofs.Common.{pos, zero, length, get_or, drop, map, slice_get, slice_index, unwrap_or, append_assoc, append-nil, arith}
use Rattle.std.specs.Option.{option_map}
use Rattle.std.specs.Prelude.{IfSome, IsSome, is_some, OnOk, OnErr, Result, Ok, Err, ◌==◌}
use Rattle.std.proofs.lemmas.Bool.{cases_Bool, false≢true}
use Rattle.std.specs.List.{list_all}
use Rattle.std.proofs.lemmas.List.{at_drop_more, at_drop_all}
use Rattle.std.proofs.lemmas.List.Sums.{sum_by-cons}
use Rattle.ceal_base.specs.Access.{word_in}
use Rattle.ceal_base.specs.Block.{Block, Blocks, alone}
use Rattle.ceal_base.specs.Fitting.{block_fits, fields_fit, fits_field, inputs_fit, kind_in}
use Rattle.ceal_base.specs.Same.{index_of, renamed_block, renamed_word}
use Rattle.ceal_base.specs.Shapes.{kinds_of_shape}
use Rattle.ceal_base.specs.contracts.word.PlacePartialEq.TheImpl.{ghosts}
use Rattle.ceal_base.specs.Trace.{Trace}
use Rattle.ceal_base.specs.declared.call.Call.{Call}
use Rattle.ceal_base.specs.declared.kind.FieldKind.{FieldKind}
use Rattle.ceal_base.specs.declared.typed.StructInfo.{StructInfo}
use Rattle.ceal_base.specs.declared.word.BlockId.{BlockId}
use Rattle.ceal_base.specs.declared.word.BlockId.TheVariants.{Input, Core}
use Rattle.ceal_base.specs.declared.word.Place.{Place}
use Rattle.ceal_base.specs.declared.word.Word.{Word}
use Rattle.ceal_base.specs.declared.word.Word.TheVariants.{Null, Num}
use Rattle.ceal_code.proofs.Replay.FinalMemory.{get-map}
use Rattle.ceal_code.proofs.Replay.ReplayedCall.{get-after}
use Rattle.ceal_code.proofs.Words.SameIsEqual.{both, none-some, some-same}
use Rattle.ceal_code.specs.PlainWords.{block_word}
use Rattle.ceal_code.specs.Program.{Code}
use Rattle.ceal_code.specs.Replay.{IsHonest, Store, filled, with_contents}
use Rattle.ceal_code.specs.Value.{is_cell}
use Rattle.ceal_engine.proofs.Inputs.{all-get, fit-all}
use Rattle.ceal_engine.proofs.Keeping.{sound-left, state-marked}
use Rattle.ceal_engine.proofs.Present.{sound-present}
use Rattle.ceal_engine.proofs.RunMemory.{core-absent, input-absent}
use Rattle.ceal_engine.proofs.ReadRun.{cell-content, core-is, kind-filled}
use Rattle.ceal_engine.specs.Engine.{EngineState, IsPresent, block_in, block_of, core, stored_at}
use Rattle.ceal_engine.specs.Keeping.{EngineInvariant, Keeps, Kept, contents, marked_kept, phase_of, running_in, state_of, store_in}
use Rattle.ceal_engine.specs.Marks.{IsModifiable, held_at_end, held_at_mark}
use Rattle.ceal_engine.specs.Runs.{LeavesCells, OfRuns, same_stage}
use Rattle.ceal_engine.specs.declared.phase.Phase.TheVariants.{Finished as IsFinished}
use Rattle.ceal_engine.specs.declared.run.Run.{Run}
use Rattle.ceal_engine.specs.declared.run.Run.TheVariants as its
use Rattle.ceal_engine.specs.declared.run.Stage.{Stage}
use Rattle.ceal_engine.specs.declared.run.Stage.TheVariants as stage
use Rattle.ceal_heap.specs.Heap.{plain_of as heap_words, standing}
use Rattle.ceal_mods.proofs.IndexLemmas.{place-decides}
use Rattle.ceal_mods.specs.Cell.{latest_value}
use Rattle.ceal_mods.specs.Marks.{times}
use Rattle.ceal_mods.specs.Mods.{cell_of, held_at_mark as held_by_mods}
use Rattle.ceal_repair.specs.Answers.{IsKeptRun}
use Rattle.ceal_repair.specs.Words.{default_by_standing}
use Rattle.ceal_repair.specs.declared.running.Running.{Running}

-- what follows where there is a result, or an error
pub map-ok : {A E : Type 0} (r : Result A E) (P Q : Type 0) → (P → Q) → OnOk r P → OnOk r Q
map-ok (Ok x) P Q f p = f p
map-ok (Err x) P Q f p = tt

pub map-err : {A E : Type 0} (r : Result A E) (P Q : Type 0) → (P → Q) → OnErr r P → OnErr r Q
map-err (Ok x) P Q f p = tt
map-err (Err x) P Q f p = f p

-- ---- a modifiable has a word

field-word : (structs : List StructInfo) (m : Blocks) (kinds : List FieldKind) (words : List Word) (n : ℕ) → fields_fit structs m kinds words ≡ true → is_cell (slice_get kinds n) ≡ true
    → IsSome (slice_get words n)
field-word structs m [] words n h k = absurd (grind (arith, k))
field-word structs m (kind ∷ kinds) [] n h k = absurd (grind (arith, h))
field-word structs m (kind ∷ kinds) (w ∷ words) zero h k = refl
field-word structs m (kind ∷ kinds) (w ∷ words) (suc n) h k = field-word structs m kinds words n (both (fits_field structs m kind w) (fields_fit structs m kinds words) h).1 k

-- in a block that fits
fitting-word : (structs : List StructInfo) (m : Blocks) (o : Option Block) (f : ℕ) → ((block : Block) → o ≡ Some block → block_fits structs m block ≡ true) → is_cell (kind_in structs o f) ≡ true
    → IsSome (block_word o f)
fitting-word structs m None f h k = absurd (grind (arith, k))
fitting-word structs m (Some block) f h k = field-word structs m (kinds_of_shape structs block.shape) block.words f (h block refl) k

some-mapped : (f : Word → Word) (o : Option Word) → IsSome o → IsSome (option_map f o)
some-mapped f None h = absurd (false≢true h)
some-mapped f (Some w) h = refl

some-of-mapped : (f : Word → Word) (o : Option Word) → IsSome (option_map f o) → IsSome o
some-of-mapped f None h = absurd (false≢true h)
some-of-mapped f (Some w) h = refl

-- the number at the index of a number
pub at-index : (bs : List ℕ) (n : ℕ) → index_of bs n < length bs → slice_index bs (index_of bs n) ≡ n
at-index [] n h = absurd (grind (arith, h))
at-index (b ∷ bs) n h = go (b == n) refl (at-index bs n)
  where
    go : (t : Bool) → (b == n) ≡ t → (index_of bs n < length bs → slice_index bs (index_of bs n) ≡ n) → slice_index (b ∷ bs) (index_of (b ∷ bs) n) ≡ n
    go true e again = let i : b ≡ n = grind (arith, e) in rw e i
    go false e again = let l : index_of bs n + 1 < suc (length bs) = rw e at h in let s : index_of bs n + 1 ≡ suc (index_of bs n) = omega arith in rw e (rw s (again (omega (arith, l))))

-- a core block whose words, with other numbers, are those of a block that fits
renamed-fits : (structs : List StructInfo) (m : Blocks) (bs : List ℕ) (blocks : List Block) (i : ℕ) (o : Option Block) (f : ℕ) → list_all (block_fits structs m) blocks ≡ true
    → slice_get blocks i ≡ option_map (renamed_block bs) o → is_cell (kind_in structs o f) ≡ true → IsSome (block_word o f)
renamed-fits structs m bs blocks i None f fit at k = absurd (grind (arith, k))
renamed-fits structs m bs blocks i (Some block) f fit at k =
    some-of-mapped (renamed_word bs) (slice_get block.words f) (subst IsSome (get-map (renamed_word bs) block.words f)
    (field-word structs m (kinds_of_shape structs block.shape) (map (renamed_word bs) block.words) f (all-get (block_fits structs m) blocks i (renamed_block bs block) fit at) k))

kind-there : (structs : List StructInfo) (o : Option Block) (f : ℕ) → is_cell (kind_in structs o f) ≡ true → IsSome o
kind-there structs None f k = absurd (grind (arith, k))
kind-there structs (Some block) f k = refl

-- a core block of a finished run is one of the run from scratch, which fits
core-word : (e : EngineState) → IsPresent e → (n f : ℕ) → is_cell (kind_in e.code.structs (core e.memory n) f) ≡ true → IsSome (block_word (core e.memory n) f)
core-word e present n f k =
    let is = present.is in
    let l : index_of is.numbers n < length is.numbers = is.only n (kind-there e.code.structs (core e.memory n) f k) in
    renamed-fits e.code.structs present.run.memory is.numbers present.run.memory.made (index_of is.numbers n) (core e.memory n) f
    (both (list_all (block_fits e.code.structs present.run.memory) present.run.memory.inputs) (list_all (block_fits e.code.structs present.run.memory) present.run.memory.made) is.fits).1
    (sym (is.same.each_core (index_of is.numbers n) l) ∙ ap (λ (i : ℕ). option_map (renamed_block is.numbers) (core e.memory i)) (at-index is.numbers n l)) k

-- ---- what a modifiable holds at the end

-- a finished run, with its trace
record IsDoneRun (code : Code) (fuel : ℕ) (inputs : List Block) (r : Running) : Type 0 where
  pub function : ℕ
  pub args : List Word
  pub trace : Trace
  pub of : IsKeptRun code inputs function args fuel trace r
  pub honest : IsHonest code inputs trace

-- what the places of core blocks that are not there are marked with
abbrev pub AbsentCores : EngineState → EngineState → Type 0
AbsentCores e marked = IfSome e.heap (λ heap. (n field : ℕ) → core e.memory n ≡ None
    → held_at_mark marked (record { block = Core n; field = field }) ≡ default_by_standing e.code.structs (standing heap (Core n)) field)

module _ (code : Code) (inputs : List Block) where
  here : (s : Store) (b : BlockId) (n f : ℕ) (o : Option Block) → n ≡ f → is_cell (kind_in code.structs o f) ≡ true → IsSome (block_word (option_map (filled code s b) o) f)
      → s (record { block = b; field = n }) ≡ word_in (option_map (filled code s b) o) f Null
  here s b n f None is h k = absurd (grind (arith, h))
  here s b n f (Some block) is h k = go (slice_get block.words f) refl
    where
      cell : slice_get (with_contents s b 0 (kinds_of_shape code.structs block.shape) block.words) f ≡ option_map (λ (w : Word). s (record { block = b; field = 0 + f })) (slice_get block.words f)
      cell = cell-content s b (kinds_of_shape code.structs block.shape) 0 block.words f h

      zero-more : 0 + f ≡ n
      zero-more = omega (arith, is)

      go : (o : Option Word) → slice_get block.words f ≡ o → s (record { block = b; field = n }) ≡ word_in (option_map (filled code s b) (Some block)) f Null
      go None e = absurd (false≢true (subst IsSome (cell ∙ ap (option_map (λ (w : Word). s (record { block = b; field = 0 + f }))) e) k))
      go (Some w) e =
          ap (λ m. s (record { block = b; field = m })) (sym zero-more)
          ∙ sym (ap (λ (x : Option Word). unwrap_or x Null) (cell ∙ ap (option_map (λ (w : Word). s (record { block = b; field = 0 + f }))) e))

  pub end-law : (r : Running) (p : Place) → is_cell (kind_in code.structs (block_of inputs (store_in code inputs (Some r)) p.block) p.field) ≡ true
      → IsSome (block_word (stored_at (store_in code inputs (Some r)) p.block) p.field) → contents r.tables.mods p ≡ word_in (stored_at (store_in code inputs (Some r)) p.block) p.field Null
  end-law r p h k = go p.block refl h k
    where
      zero-more : (n : ℕ) → 0 + n ≡ n
      zero-more n = omega arith

      s : Store
      s = contents r.tables.mods

      go : (b : BlockId) → p.block ≡ b → is_cell (kind_in code.structs (block_of inputs (store_in code inputs (Some r)) b) p.field) ≡ true
          → IsSome (block_word (stored_at (store_in code inputs (Some r)) b) p.field) → s p ≡ word_in (stored_at (store_in code inputs (Some r)) b) p.field Null
      go (Input n) e h k =
          let is : option_map (filled code s (Input n)) (slice_get inputs n) ≡ stored_at (store_in code inputs (Some r)) (Input n) =
          ap (λ b. option_map (filled code s b) (slice_get inputs n)) (ap Input (sym (zero-more n))) ∙ sym (get-after code s 0 inputs n) in
          ap (λ b. s (record { block = b; field = p.field })) e
          ∙ (here s (Input n) p.field p.field (slice_get inputs n) refl h (subst (λ o. IsSome (block_word o p.field)) (sym is) k) ∙ ap (λ o. word_in o p.field Null) is)
      go (Core n) e h k =
          let is = sym (core-is code inputs r n) in
          let kind = sym (ap is_cell (kind-filled code inputs s (Core n) (heap_words r.heap (Core n)) p.field)) ∙ (ap (λ o. is_cell (kind_in code.structs o p.field)) is ∙ h) in
          ap (λ b. s (record { block = b; field = p.field })) e
          ∙ (here s (Core n) p.field p.field (heap_words r.heap (Core n)) refl kind (subst (λ o. IsSome (block_word o p.field)) (sym is) k) ∙ ap (λ o. word_in o p.field Null) is)

  filled-word : (s : Store) (b : BlockId) (o : Option Block) (f : ℕ) → is_cell (kind_in code.structs o f) ≡ true → IsSome (block_word o f) → IsSome (block_word (option_map (filled code s b) o) f)
  filled-word s b None f h k = absurd (grind (arith, h))
  filled-word s b (Some block) f h k =
      subst IsSome (sym (cell-content s b (kinds_of_shape code.structs block.shape) 0 block.words f h))
      (some-mapped (λ (w : Word). s (record { block = b; field = 0 + f })) (slice_get block.words f) k)

  -- an input's modifiable has a word, and so has one of a core block
  word-there : (r : Running) (e : EngineState) → e.code ≡ code → e.memory ≡ store_in code inputs (Some r) → IsPresent e → inputs_fit code.structs inputs ≡ true → (b : BlockId) (f : ℕ)
      → is_cell (kind_in code.structs (block_of inputs (store_in code inputs (Some r)) b) f) ≡ true → IsSome (block_word (stored_at (store_in code inputs (Some r)) b) f)
  word-there r e same-code same-memory present fit (Input n) f h =
      subst (λ o. IsSome (block_word o f)) (sym (get-after code (contents r.tables.mods) 0 inputs n))
      (filled-word (contents r.tables.mods) (Input (0 + n)) (slice_get inputs n) f h
      (fitting-word code.structs (alone inputs) (slice_get inputs n) f (λ block is. all-get (block_fits code.structs (alone inputs)) inputs n block (fit-all code.structs inputs fit) is) h))
  word-there r e same-code same-memory present fit (Core n) f h =
      subst (λ m. IsSome (block_word (core m n) f)) same-memory
      (core-word e present n f (subst (λ (c : Code). is_cell (kind_in c.structs (core e.memory n) f) ≡ true) (sym same-code)
      (subst (λ m. is_cell (kind_in code.structs (core m n) f) ≡ true) (sym same-memory) h)))

  none-filled : (s : Store) (b : BlockId) (o : Option Block) → option_map (filled code s b) o ≡ None → o ≡ None
  none-filled s b None e = refl
  none-filled s b (Some block) e = none-some (filled code s b block) (sym e)

  module _ (fuel : ℕ) (kept : Kept) where
    done-run : (call : Option Call) (r : Running) (g : Stage) → Keeps code fuel inputs (its.Kept r g) call → phase_of (its.Kept r g) ≡ IsFinished → IsDoneRun code fuel inputs r
    done-run None r g k e = elim k [ ]
    done-run (Some call) r stage.Finished k e = record { function = call.function; args = call.args; trace = k.trace; of = k.of; honest = k.honest }
    done-run (Some call) r stage.Pending k e = absurd (grind (arith, e))
    done-run (Some call) r stage.Partial k e = absurd (grind (arith, e))

    abbrev state : Run → EngineState
    state run = state_of code fuel inputs kept.call run

    -- what a modifiable of a finished run holds at the end
    ends-so : (r : Running) (g : Stage) → EngineInvariant code fuel inputs kept (its.Kept r g) → phase_of (its.Kept r g) ≡ IsFinished → (p : Place) → IsModifiable (state (its.Kept r g)) p
        → latest_value (cell_of r.tables.mods p) ≡ held_at_end (state (its.Kept r g)) p
    ends-so r g s e p m = end-law r p m (word-there r (state (its.Kept r g)) refl refl (sound-present code fuel inputs kept (its.Kept r g) s e) s.fit p.block p.field m)

    -- the tables of a finished run tell what a modifiable holds at the end, and what it held when it was marked
    pub as-held : (run : Run) → EngineInvariant code fuel inputs kept run → phase_of run ≡ IsFinished → (r : Running) → running_in run ≡ Some r → (p : Place) → IsModifiable (state run) p
        → (latest_value (cell_of r.tables.mods p) ≡ held_at_end (state run) p) × (held_by_mods r.tables.mods p ≡ held_at_mark (state run) p)
    as-held its.New s e r is p m = absurd (grind (arith, e))
    as-held (its.Kept k g) s e r is p m =
        subst (λ (x : Running). (latest_value (cell_of x.tables.mods p) ≡ held_at_end (state (its.Kept k g)) p) × (held_by_mods x.tables.mods p ≡ held_at_mark (state (its.Kept k g)) p))
        (some-same k r is) (ends-so k g s e p m, refl)
    as-held its.Dropped s e r is p m = absurd (grind (arith, e))

    -- where each place is marked with what it holds, a modifiable is marked with its content
    pub marked-held : (run : Run) → EngineInvariant code fuel inputs kept run → phase_of run ≡ IsFinished
        → IfSome (running_in run) (λ r. (p : Place) → held_by_mods r.tables.mods p ≡ latest_value (cell_of r.tables.mods p)) → (p : Place) → IsModifiable (state run) p
        → held_at_mark (state run) p ≡ held_at_end (state run) p
    marked-held its.New s e h p m = absurd (grind (arith, e))
    marked-held (its.Kept r g) s e h p m = h p ∙ ends-so r g s e p m
    marked-held its.Dropped s e h p m = absurd (grind (arith, e))

    -- the place of an input that is not there is marked with 0
    pub marked-input : (run : Run) → EngineInvariant code fuel inputs kept run → phase_of run ≡ IsFinished
        → IfSome (running_in run) (λ r. (p : Place) → held_by_mods r.tables.mods p ≡ latest_value (cell_of r.tables.mods p)) → (i field : ℕ) → length inputs ≤ i
        → held_at_mark (state run) (record { block = Input i; field = field }) ≡ Num (pos 0)
    marked-input its.New s e h i field out = absurd (grind (arith, e))
    marked-input (its.Kept r g) s e h i field out =
        let d = done-run kept.call r g s.keeps e in
        h (record { block = Input i; field = field }) ∙ input-absent code inputs d.function d.args fuel d.trace r d.of d.honest i field out
    marked-input its.Dropped s e h i field out = absurd (grind (arith, e))

    -- and that of a core block that is not there with what it holds before any write
    pub marked-core : (run : Run) → EngineInvariant code fuel inputs kept run → phase_of run ≡ IsFinished
        → IfSome (running_in run) (λ r. (p : Place) → held_by_mods r.tables.mods p ≡ latest_value (cell_of r.tables.mods p)) → AbsentCores (state run) (state run)
    marked-core its.New s e h = absurd (grind (arith, e))
    marked-core (its.Kept r g) s e h = λ n field none.
        let d = done-run kept.call r g s.keeps e in
        h (record { block = Core n; field = field })
        ∙ core-absent code inputs d.function d.args fuel d.trace r d.of d.honest n field
        (none-filled (contents r.tables.mods) (Core n) (heap_words r.heap (Core n)) (sym (core-is code inputs r n) ∙ none))
    marked-core its.Dropped s e h = absurd (grind (arith, e))

-- a finished run of which only what is marked has changed
pub record IsMarkedRun (code : Code) (fuel : ℕ) (inputs : List Block) (kept : Kept) (e : EngineState) (run : Run) : Type 0 where
  pub same : state_of code fuel inputs kept.call run ≡ record e { marked = marked_kept (running_in run) }
  pub sound : EngineInvariant code fuel inputs kept run
  pub finished : phase_of run ≡ IsFinished

pub marked-run : (code : Code) (fuel : ℕ) (inputs : List Block) (kept : Kept) (old run : Run) (e : EngineState) → OfRuns LeavesCells same_stage old run → EngineInvariant code fuel inputs kept old
    → state_of code fuel inputs kept.call old ≡ e → e.phase ≡ IsFinished → IsMarkedRun code fuel inputs kept e run
marked-run code fuel inputs kept old run e left sound view finished =
    let same = state-marked code fuel inputs kept.call old run left ∙ ap (λ (e : EngineState). record e { marked = marked_kept (running_in run) }) view in
    record { same = same; sound = sound-left code fuel inputs kept old run left sound; finished = ap (λ (e : EngineState). e.phase) same ∙ finished }

-- a finished run is marked
pub there-marked : (run : Run) → phase_of run ≡ IsFinished → is_some (marked_kept (running_in run)) ≡ is_some (running_in run) → IsSome (marked_kept (running_in run))
there-marked its.New e h = absurd (grind (arith, e))
there-marked (its.Kept r g) e h = h
there-marked its.Dropped e h = absurd (grind (arith, e))

-- ---- the modifiables among places

abbrev pub modifiables : EngineState → List Place → List Place
modifiables e [] = []
modifiables e (p ∷ ps) = cond (is_cell (kind_in e.code.structs (block_in e p.block) p.field)) (p ∷ modifiables e ps) (modifiables e ps)

times-more : (p q : Place) (qs : List Place) → times p (q ∷ qs) ≡ cond (ghosts.eq p q) 1 0 + times p qs
times-more p q qs = sum_by-cons (λ (r : Place). cond (ghosts.eq p r) 1 0) q qs

pub times-modifiable : (e : EngineState) (p : Place) (ps : List Place) → is_cell (kind_in e.code.structs (block_in e p.block) p.field) ≡ true → times p (modifiables e ps) ≡ times p ps
times-modifiable e p [] h = refl
times-modifiable e p (q ∷ qs) h = elim (cases_Bool (is_cell (kind_in e.code.structs (block_in e q.block) q.field))) [
  | inl one ↦
      let first : modifiables e (q ∷ qs) ≡ q ∷ modifiables e qs = rw one refl in
      ap (times p) first
      ∙ (times-more p q (modifiables e qs) ∙ (ap (λ (n : ℕ). cond (ghosts.eq p q) 1 0 + n) (times-modifiable e p qs h) ∙ sym (times-more p q qs)))
  | inr not_one ↦ elim (cases_Bool (ghosts.eq p q)) [
    | inl same ↦ absurd (false≢true (sym not_one ∙ subst (λ (r : Place). is_cell (kind_in e.code.structs (block_in e r.block) r.field) ≡ true) ((place-decides p q).0 same) h))
    | inr other ↦
        let first : modifiables e (q ∷ qs) ≡ modifiables e qs = rw not_one refl in
        let none : cond {A = ℕ} (ghosts.eq p q) 1 0 ≡ 0 = rw other refl in
        let more = times-more p q qs in
        let rest = times-modifiable e p qs h in
        ap (times p) first ∙ omega (arith, none, more, rest)
  ]
]

pub times-other : (e : EngineState) (p : Place) (ps : List Place) → is_cell (kind_in e.code.structs (block_in e p.block) p.field) ≡ false → times p (modifiables e ps) ≡ 0
times-other e p [] h = refl
times-other e p (q ∷ qs) h = elim (cases_Bool (is_cell (kind_in e.code.structs (block_in e q.block) q.field))) [
  | inl one ↦ elim (cases_Bool (ghosts.eq p q)) [
    | inl same ↦ absurd (false≢true (sym h ∙ subst (λ (r : Place). is_cell (kind_in e.code.structs (block_in e r.block) r.field) ≡ true) (sym ((place-decides p q).0 same)) one))
    | inr other ↦
        let first : modifiables e (q ∷ qs) ≡ q ∷ modifiables e qs = rw one refl in
        let none : cond {A = ℕ} (ghosts.eq p q) 1 0 ≡ 0 = rw other refl in
        let more = times-more p q (modifiables e qs) in
        let rest = times-other e p qs h in
        ap (times p) first ∙ omega (arith, none, more, rest)
  ]
  | inr not_one ↦
      let first : modifiables e (q ∷ qs) ≡ modifiables e qs = rw not_one refl in
      ap (times p) first ∙ times-other e p qs h
]

-- the place that comes next is told, where it is a modifiable
pub modifiable-told : (e : EngineState) (ps : List Place) (i : ℕ) (d : Place) (before more all : List Place) → i < length ps
    → is_cell (kind_in e.code.structs (block_in e (get_or ps i d).block) (get_or ps i d).field) ≡ true → before ++ modifiables e (drop i ps) ≡ all
    → more ≡ before ++ get_or ps i d ∷ [] → more ++ modifiables e (drop (i + 1) ps) ≡ all
modifiable-told e ps i d before more all h one so added =
    let first : modifiables e (get_or ps i d ∷ drop (i + 1) ps) ≡ get_or ps i d ∷ modifiables e (drop (i + 1) ps) = rw one refl in
    ap (λ (l : List Place). l ++ modifiables e (drop (i + 1) ps)) added
    ∙ (append_assoc before (get_or ps i d ∷ []) (modifiables e (drop (i + 1) ps))
    ∙ (ap (λ (l : List Place). before ++ l) (sym (at_drop_more (modifiables e) ps i d h ∙ first)) ∙ so))

-- and else it is not
pub other-passed : (e : EngineState) (ps : List Place) (i : ℕ) (d : Place) (before all : List Place) → i < length ps
    → (is_cell (kind_in e.code.structs (block_in e (get_or ps i d).block) (get_or ps i d).field) ≡ true → ⊥) → before ++ modifiables e (drop i ps) ≡ all
    → before ++ modifiables e (drop (i + 1) ps) ≡ all
other-passed e ps i d before all h other so = elim (cases_Bool (is_cell (kind_in e.code.structs (block_in e (get_or ps i d).block) (get_or ps i d).field))) [
  | inl one ↦ absurd (other one)
  | inr not_one ↦
      let first : modifiables e (get_or ps i d ∷ drop (i + 1) ps) ≡ modifiables e (drop (i + 1) ps) = rw not_one refl in
      ap (λ (l : List Place). before ++ l) (sym (at_drop_more (modifiables e) ps i d h ∙ first)) ∙ so
]

-- all were passed
pub all-told : (e : EngineState) (ps : List Place) (i : ℕ) (places all : List Place) → length ps ≤ i → places ++ modifiables e (drop i ps) ≡ all → places ≡ all
all-told e ps i places all h so = sym (ap (λ (l : List Place). places ++ l) (at_drop_all (modifiables e) ps i h) ∙ append-nil places) ∙ so
