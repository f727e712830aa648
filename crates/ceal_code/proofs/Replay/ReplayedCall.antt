-- A trace that replays a call and is honest determines the run of the call from scratch.
use Rattle.std.proofs.Common.{◌≡◌, ℕ, pos, zero, suc, ◌+◌, ◌-◌, ◌<◌, ◌≤◌, Bool, true, false, if◌then◌else◌, Option, Some, None, List, [], ◌∷◌, ◌++◌, length, map, append-nil, refl, sym, ap, ◌∙◌}
use Rattle.std.proofs.Common.{slice_get, slice_index, unwrap_or, arith}
use Rattle.std.specs.Option.{option_map}
use Rattle.ceal_base.specs.Block.{Block, Blocks, block_at}
use Rattle.ceal_base.specs.Fitting.{inputs_fit}
use Rattle.ceal_base.specs.Same.{renamed_block}
use Rattle.ceal_base.specs.Shapes.{kinds_of_shape}
use Rattle.ceal_base.specs.Trace.{Trace, steps_of, blocks_of}
use Rattle.ceal_base.specs.declared.kind.FieldKind.{FieldKind}
use Rattle.ceal_base.specs.declared.kind.FieldKind.TheVariants.{Plain as PlainField, CellInt, CellPtr}
use Rattle.ceal_base.specs.declared.word.BlockId.{BlockId}
use Rattle.ceal_base.specs.declared.word.BlockId.TheVariants.{Input, Core}
use Rattle.ceal_base.specs.declared.word.Word.{Word}
use Rattle.ceal_base.specs.declared.word.Word.TheVariants.{Num}
use Rattle.ceal_code.proofs.Alike.AlikeSteps.{entered-alike, field_default-self}
use Rattle.ceal_code.proofs.Words.Closed.{Each, entered-of, chosen-of, get-of}
use Rattle.ceal_code.proofs.Replay.DeterminedRun.{cores-append, numbered, Stands, Runs, determined}
use Rattle.ceal_code.proofs.Replay.FinalMemory.{numbered-at, numbered-one, is-distinct, list-same, get-map, block-named}
use Rattle.ceal_code.proofs.TypedCode.FittingWords.{word-self, input-known, input-self, plain-self, begun-placed, args-known, args-placed}
use Rattle.ceal_code.proofs.Replay.MemoryChanges.{contents}
use Rattle.ceal_code.proofs.Words.Placed.{Placed}
use Rattle.ceal_code.specs.Alike.{Pairs, IdAlike, WordAlike, WordsAlike, StackAlike, MaybeAlike, PlainAlike, StoreAlike}
use Rattle.ceal_code.specs.Determined.{Determined}
use Rattle.ceal_code.specs.Fitting.{Fits}
use Rattle.ceal_code.specs.Fresh.{run, fresh}
use Rattle.ceal_code.specs.Program.{Code}
use Rattle.ceal_code.specs.Replay.{Yields, Store, KnownWords, core_numbers, learnt, plain_words, plain_block, input_plain, plain_after, plain_of, content_in, input_block, bases, Replays, IsHonest}
use Rattle.ceal_code.specs.Replay.{with_contents, filled, block_after, inputs_after}
use Rattle.ceal_code.specs.Init.{made}
use Rattle.ceal_code.specs.Step.{Stack, Empty, chosen, started, unit_at, entry_of, stack_after_quiet, next}
use Rattle.ceal_code.specs.Value.{Plain, field_kind, is_cell, field_default}

-- an input keeps its plain words
pub input-after : (code : Code) {y : Plain} {st : Stack} {l : Trace} → Yields code y st l → (x : Plain) (i : ℕ) → plain_after code x l (Input i) ≡ x (Input i)
unfolding learnt
input-after code (Yields.over e) x i = refl
input-after code (Yields.quiet e r) x i = input-after code r x i
input-after code (Yields.makes {key = key} {b = b} e g r) x i = input-after code r (learnt x (Core b) (made code x key)) i
input-after code (Yields.writes e r) x i = input-after code r x i
input-after code (Yields.reads {inside = inside} e r1 r2) x i = input-after code r2 (plain_after code x inside) i ∙ input-after code r1 x i

-- what a stack yields allocates only core blocks
pub all-core : {code : Code} {y : Plain} {st : Stack} {l : Trace} → Yields code y st l → length (core_numbers (blocks_of l)) ≡ length (blocks_of l)
all-core (Yields.over e) = refl
all-core (Yields.quiet e r) = all-core r
all-core (Yields.makes e g r) = ap suc (all-core r)
all-core (Yields.writes e r) = all-core r
all-core (Yields.reads {inside = i} {rest = l} e r1 r2) =
    ap length (cores-append (blocks_of i) (blocks_of l)) ∙ (append (core_numbers (blocks_of i)) (core_numbers (blocks_of l))
    ∙ (sums (all-core r1) (all-core r2) ∙ sym (append (blocks_of i) (blocks_of l))))
  where
    append : {A : Type 0} (xs ys : List A) → length (xs ++ ys) ≡ length xs + length ys
    append [] ys = omega arith
    append (x ∷ xs) ys = omega (arith, append xs ys)

    sums : {a b c d : ℕ} → a ≡ b → c ≡ d → a + c ≡ b + d
    sums e g = rw (e, g)

module _ (code : Code) (inputs : List Block) where
  -- the plain words of an input are like themselves
  pub begin-self : (ps : Pairs) (fit : inputs_fit code.structs inputs ≡ true) (i : ℕ) → MaybeAlike code.structs ps (input_plain code inputs (Input i)) (input_plain code inputs (Input i))
  unfolding input_plain
  begin-self ps fit i = go (slice_get inputs i) refl
    where
      go : (o : Option Block) → slice_get inputs i ≡ o → MaybeAlike code.structs ps (option_map (plain_block code.structs) o) (option_map (plain_block code.structs) o)
      go None e = MaybeAlike.none
      go (Some block) e = MaybeAlike.some (record { shape = refl; fields = plain-self code.structs inputs fit ps i block e })

  begin-plain : (ps : Pairs) (fit : inputs_fit code.structs inputs ≡ true) (i : ℕ) → MaybeAlike code.structs ps (input_plain code inputs (Input i)) (slice_get inputs i)
  unfolding input_plain
  begin-plain ps fit i = go (slice_get inputs i) refl
    where
      go : (o : Option Block) → slice_get inputs i ≡ o → MaybeAlike code.structs ps (option_map (plain_block code.structs) o) o
      go None e = MaybeAlike.none
      go (Some block) e = MaybeAlike.some (record { shape = refl; fields = input-self code.structs inputs fit ps i block e })

  content-self : (ps : Pairs) (fit : inputs_fit code.structs inputs ≡ true) (i f : ℕ) (o : Option Block) → slice_get inputs i ≡ o
      → WordAlike ps (content_in code.structs o f) (content_in code.structs o f)
  content-self ps fit i f None e = WordAlike.num
  content-self ps fit i f (Some block) e = go (is_cell (field_kind code.structs block.shape f))
    where
      known : (ws : List Word) → KnownWords (length inputs) [] ws → Each (λ w. WordAlike ps w w) ws
      known [] h = tt
      known (w ∷ ws) h = (word-self (length inputs) ps w h.0, known ws h.1)

      go : (t : Bool) → WordAlike ps (if t then unwrap_or (slice_get block.words f) (field_default (field_kind code.structs block.shape f)) else Num (pos 0))
          (if t then unwrap_or (slice_get block.words f) (field_default (field_kind code.structs block.shape f)) else Num (pos 0))
      go true = get-of (λ w. WordAlike ps w w) (λ n. WordAlike.num) WordAlike.null block.words f (field_default (field_kind code.structs block.shape f))
          (known block.words (input-known code.structs inputs fit i block e))
          (field_default-self ps (field_kind code.structs block.shape f))
      go false = WordAlike.num

  -- the bases are the contents of the inputs
  begin-store : (ps : Pairs) (fit : inputs_fit code.structs inputs ≡ true) → StoreAlike ps (bases code inputs) (contents code (record { inputs = inputs; made = [] }))
  unfolding bases contents
  begin-store ps fit p q h = go p.block q.block h.block (rw h.field refl)
    where
      go : (b c : BlockId) → IdAlike ps b c → p.field ≡ q.field
          → WordAlike ps (content_in code.structs (input_block inputs b) p.field) (content_in code.structs (block_at (record { inputs = inputs; made = [] }) c) q.field)
      go b c (IdAlike.input {i = i}) e = rw e (content-self ps fit i q.field (slice_get inputs i) refl)
      go b c (IdAlike.core t) e = WordAlike.num

  pub bases-self : (ps : Pairs) (fit : inputs_fit code.structs inputs ≡ true) → StoreAlike ps (bases code inputs) (bases code inputs)
  unfolding bases
  bases-self ps fit p q h = go p.block q.block h.block (rw h.field refl)
    where
      go : (b c : BlockId) → IdAlike ps b c → p.field ≡ q.field → WordAlike ps (content_in code.structs (input_block inputs b) p.field) (content_in code.structs (input_block inputs c) q.field)
      go b c (IdAlike.input {i = i}) e = rw e (content-self ps fit i q.field (slice_get inputs i) refl)
      go b c (IdAlike.core t) e = WordAlike.num

words-alike : (ps : Pairs) (ws : List Word) → Each (λ w. WordAlike ps w w) ws → WordsAlike ps ws ws
words-alike ps [] h = WordsAlike.none
words-alike ps (w ∷ ws) h = WordsAlike.more h.0 (words-alike ps ws h.1)

selves : (n : ℕ) (ps : Pairs) (ws : List Word) → KnownWords n [] ws → Each (λ w. WordAlike ps w w) ws
selves n ps [] h = tt
selves n ps (w ∷ ws) h = (word-self n ps w h.0, selves n ps ws h.1)

-- a call on inputs is like itself
pub started-alike : (code : Code) (n : ℕ) (ps : Pairs) (f : ℕ) (args : List Word) → KnownWords n [] args → StackAlike ps (started code f args) (started code f args)
started-alike code n ps f args h =
    entered-alike ps code (entry_of code f)
    (words-alike ps (chosen (unit_at code (entry_of code f)).params args)
    (chosen-of (λ w. WordAlike ps w w) (λ n. WordAlike.num) WordAlike.null (unit_at code (entry_of code f)).params args (selves n ps args h))) StackAlike.empty

-- the contents replace what the plain words have
with_contents-plain : (s : Store) (b : BlockId) (n : ℕ) (kinds : List FieldKind) (ws : List Word) → with_contents s b n kinds (plain_words kinds ws) ≡ with_contents s b n kinds ws
with_contents-plain s b n [] ws = refl
with_contents-plain s b n (kind ∷ kinds) [] = refl
with_contents-plain s b n (PlainField kind ∷ kinds) (w ∷ ws) = ap (λ zs. w ∷ zs) (with_contents-plain s b (n + 1) kinds ws)
with_contents-plain s b n (CellInt ∷ kinds) (w ∷ ws) = ap (λ zs. s (record { block = b; field = n }) ∷ zs) (with_contents-plain s b (n + 1) kinds ws)
with_contents-plain s b n (CellPtr y ∷ kinds) (w ∷ ws) = ap (λ zs. s (record { block = b; field = n }) ∷ zs) (with_contents-plain s b (n + 1) kinds ws)

pub filled-plain : (code : Code) (s : Store) (b : BlockId) (block : Block) → filled code s b (plain_block code.structs block) ≡ filled code s b block
filled-plain code s b block = ap (λ ws. record { shape = block.shape; words = ws }) (with_contents-plain s b 0 (kinds_of_shape code.structs block.shape) block.words)

pub get-after : (code : Code) (s : Store) (n : ℕ) (blocks : List Block) (i : ℕ) → slice_get (inputs_after code s n blocks) i ≡ option_map (filled code s (Input (n + i))) (slice_get blocks i)
get-after code s n [] i = refl
get-after code s n (block ∷ blocks) zero = let e : n + 0 ≡ n = omega arith in rw e
get-after code s n (block ∷ blocks) (suc i) = let e : n + suc i ≡ n + 1 + i = omega arith in rw e (get-after code s (n + 1) blocks i)

-- the run of an empty stack is at its end
pub empty-run : (code : Code) (n k : ℕ) (m : Blocks) → run code n k m Empty ≡ Some (record { memory = m; steps = k; blocks = length m.made })
unfolding run next stack_after_quiet
empty-run code zero k m = refl
empty-run code (suc n) k m = refl

module _ (code : Code) (inputs : List Block) (f : ℕ) (args : List Word) (fits : Fits code inputs f args) (l : Trace) (r : Replays code inputs f args l) (h : IsHonest code inputs l) where
  input-is : (i : ℕ) → plain_of code inputs l (Input i) ≡ input_plain code inputs (Input i)
  unfolding plain_of
  input-is i = input-after code r.yields (input_plain code inputs) i

  begin : Stands code (plain_of code inputs l) (numbered 0 (core_numbers (blocks_of l))) (numbered-one (core_numbers (blocks_of l)) r.distinct) [] (bases code inputs)
      (record { inputs = inputs; made = [] })
  begin = record {
    plain = plain;
    store = begin-store code inputs [] fits.blocks;
    well = begun-placed code.structs inputs fits.blocks;
    within = λ b c t. elim t [ ];
    bound = λ b c t. elim t [ ];
  }
    where
      plain : PlainAlike code.structs [] (plain_of code inputs l) (block_at (record { inputs = inputs; made = [] }))
      plain b c (IdAlike.input {i = i}) = rw (input-is i) (begin-plain code inputs [] fits.blocks i)
      plain b c (IdAlike.core t) = elim t [ ]

  -- the run that stands for the trace
  the-run : Runs code (plain_of code inputs l) (numbered 0 (core_numbers (blocks_of l))) (numbered-one (core_numbers (blocks_of l)) r.distinct) [] (record { inputs = inputs; made = [] })
      (started code f args) l h.after
  the-run =
      determined code (plain_of code inputs l) (numbered 0 (core_numbers (blocks_of l))) (numbered-one (core_numbers (blocks_of l)) r.distinct) fits.is_valid r.yields [] (bases code inputs)
      (record { inputs = inputs; made = [] }) begin
      (started-alike code (length inputs) [] f args (args-known code inputs f args fits))
      (entered-of (Placed code.structs (record { inputs = inputs; made = [] })) (λ n. tt) tt code (entry_of code f) (chosen (unit_at code (entry_of code f)).params args) Empty
      (chosen-of (Placed code.structs (record { inputs = inputs; made = [] })) (λ n. tt) tt (unit_at code (entry_of code f)).params args (args-placed code inputs f args fits)) tt)
      h.walk [] (rw (append-nil (core_numbers (blocks_of l))) (λ b c t. t))

  named : (b c : BlockId) → IdAlike the-run.after b c → option_map (renamed_block (core_numbers (blocks_of l))) (block_after code (plain_of code inputs l) h.after b) ≡ block_at the-run.memory c
  named =
      block-named (core_numbers (blocks_of l)) r.distinct code (plain_of code inputs l) h.after the-run.memory the-run.after the-run.stands.within the-run.stands.plain the-run.stands.store

  input-filled : (i : ℕ) (o : Option Block) → slice_get inputs i ≡ o → option_map (filled code h.after (Input (0 + i))) o ≡ block_after code (plain_of code inputs l) h.after (Input i)
  unfolding block_after input_plain
  input-filled i None e = rw (input-is i, e)
  input-filled i (Some block) e = let n : 0 + i ≡ i = omega arith in rw (input-is i, e, n) (ap Some (sym (filled-plain code h.after (Input i) block)))

  input-named : (i : ℕ) → slice_get (map (renamed_block (core_numbers (blocks_of l))) (inputs_after code h.after 0 inputs)) i ≡ slice_get the-run.memory.inputs i
  input-named i =
      get-map (renamed_block (core_numbers (blocks_of l))) (inputs_after code h.after 0 inputs) i
      ∙ (ap (option_map (renamed_block (core_numbers (blocks_of l)))) (get-after code h.after 0 inputs i ∙ input-filled i (slice_get inputs i) refl) ∙ named (Input i) (Input i) IdAlike.input)

  core-named : (i : ℕ) → i < length (core_numbers (blocks_of l))
      → option_map (renamed_block (core_numbers (blocks_of l))) (block_after code (plain_of code inputs l) h.after (Core (slice_index (core_numbers (blocks_of l)) i)))
      ≡ slice_get the-run.memory.made i
  core-named i k =
      let n : 0 + i ≡ i = omega arith in
      named (Core (slice_index (core_numbers (blocks_of l)) i)) (Core i)
      (IdAlike.core (the-run.inward (slice_index (core_numbers (blocks_of l)) i) i (rw n at (numbered-at 0 (core_numbers (blocks_of l)) i k))))

  count : length the-run.memory.made ≡ length (core_numbers (blocks_of l))
  count = omega (arith, the-run.count)

  ends : (fuel : ℕ) → steps_of l ≤ fuel → fresh code f args inputs fuel ≡ Some (record { memory = the-run.memory; steps = steps_of l; blocks = length (blocks_of l) })
  unfolding fresh
  ends fuel k =
      the-run.runs Empty fuel (fuel - steps_of l) 0 (steps_of l) (omega (arith, k)) (omega arith)
      ∙ (empty-run code (fuel - steps_of l) (steps_of l) the-run.memory
      ∙ ap (λ n. Some (record { memory = the-run.memory; steps = steps_of l; blocks = n })) (count ∙ all-core r.yields))

  short : (fuel : ℕ) → fuel < steps_of l → fresh code f args inputs fuel ≡ None
  unfolding fresh
  short fuel k = the-run.short Empty fuel 0 k

  pub trace-law : Determined code inputs f args l h.after
  trace-law = record {
    memory = the-run.memory;
    same = record {
      distinct = is-distinct (core_numbers (blocks_of l)) r.distinct;
      each_input = list-same (map (renamed_block (core_numbers (blocks_of l))) (inputs_after code h.after 0 inputs)) the-run.memory.inputs input-named;
      count = sym count;
      each_core = core-named;
    };
    ends = ends;
    short = short;
  }
