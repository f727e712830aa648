-- A new block is made.
use Rattle.std.proofs.Common.{◌≡◌, ◌≢◌, ℕ, zero, suc, inl, inr, ◌⊎◌, ◌+◌, ◌<◌, ◌≤◌, ◌==◌, if◌then◌else◌, Bool, true, false, Option, Some, None, List, [], ◌∷◌, ◌++◌, length, refl, sym, ap, ap₂}
use Rattle.std.proofs.Common.{subst, ◌∙◌, arith, append_assoc}
use Rattle.std.specs.Prelude.{◌↔◌, IsSome, option_map}
use Rattle.std.proofs.Math.Path.{fun_ext}
use Rattle.std.proofs.lemmas.Bool.{cases_Bool}
use Rattle.std.proofs.lemmas.Bool.Decides.{eqb_tells}
use Rattle.ceal_base.specs.Block.{Block}
use Rattle.ceal_base.specs.Operators.{same_block, same_place}
use Rattle.ceal_base.specs.declared.forest.Item.{Item}
use Rattle.ceal_base.specs.declared.forest.Item.TheVariants as item
use Rattle.ceal_base.specs.declared.forest.Key.{Key}
use Rattle.ceal_base.specs.declared.word.BlockId.{BlockId}
use Rattle.ceal_base.specs.declared.word.BlockId.TheVariants.{Input, Core}
use Rattle.ceal_base.specs.declared.word.Place.{Place}
use Rattle.ceal_base.specs.declared.word.Word.{Word}
use Rattle.ceal_code.proofs.Replay.MemoryChanges.{made-shape}
use Rattle.ceal_code.proofs.Alike.BlockPairs.{one-at}
use Rattle.ceal_code.proofs.Words.SameIsEqual.{place-same, block-same, nat-refl}
use Rattle.ceal_code.specs.Init.{made, pointer}
use Rattle.ceal_code.specs.Program.{Code}
use Rattle.ceal_code.specs.Replay.{Store, In, here, there, KnownBlock, count, Distinct, learnt, cleared, stored, cell_default, shape_of}
use Rattle.ceal_code.specs.Step.{Stack, Run, Makes, next}
use Rattle.ceal_code.specs.Value.{Plain, Variables, set, field_kind}
use Rattle.ceal_heap.specs.Heap.{Contents, Known, IsLive, KeepsBlocks, block_of, plain_of, plain_block, known}
use Rattle.ceal_mods.specs.Mods.{cell_of}
use Rattle.ceal_order.specs.Stamps.{is_in}
use Rattle.ceal_repair.proofs.Nodes.NodeItems.{more, in-case, contents-put, contents-step, contents-base, known-append, known-more, known-items-append, known-items-after}
use Rattle.ceal_repair.proofs.Runs.UnitSteps.{StepMore, NodeMore, cursor-here, placed-step, placed-put, blocks-more, items-next}
use Rattle.ceal_repair.proofs.Nodes.NodeBlocks.{node_blocks, blocks_at, allocs-nodes, unfinished-ends}
use Rattle.ceal_repair.proofs.Runs.NewRead.{known-there}
use Rattle.ceal_repair.proofs.Runs.RepairView.{IsStepped, cursor-kept}
use Rattle.ceal_repair.specs.Repairs.{code_of, inputs_of}
use Rattle.ceal_repair.specs.declared.repair.Repair.{Repair}
use Rattle.ceal_repair.proofs.Runs.FewNumbers.{few-made}
use Rattle.ceal_repair.specs.Blocks.{There, HasBlocks, Given, GivesOne}
use Rattle.ceal_repair.specs.Entries.{entries}
use Rattle.ceal_repair.specs.Moment.{View, Start, Placed, CourseNow, RunningNow, Unfinished, through, state_at, items_before}
use Rattle.ceal_repair.specs.Words.{HasBases, words_of, default_by_standing}
use Rattle.ceal_repair.proofs.Lists.PartedLists.{where-holds}
use Rattle.ceal_repair.specs.Covered.{content_after, contents_after}
use Rattle.ceal_repair.specs.Kept.{Kept, QueuedAfter, Records, base_in}
use Rattle.ceal_repair.specs.Lists.{reads_at}
use Rattle.ceal_repair.specs.declared.tables.Tables.{Tables}
use Rattle.ceal_theory.proofs.MoveMachine.ChosenNumbers.{chosen-law}
use Rattle.ceal_theory.proofs.Store.KnownBlocks.{knowing-law}
use Rattle.ceal_theory.proofs.MoveMachine.MachineLaws.{leads-move}
use Rattle.ceal_theory.specs.Chosen.{ComesBy}
use Rattle.ceal_theory.specs.Course.{running_at}
use Rattle.ceal_theory.specs.Cover.{known_after}
use Rattle.ceal_theory.specs.Known.{Knows, KnownItems, GoesKnowing}
use Rattle.ceal_theory.specs.KnownContent.{written_after}
use Rattle.ceal_theory.specs.Levels.{first, levels}
use Rattle.ceal_theory.specs.Repair.{State, works, grows}
use Rattle.ceal_theory.specs.Slices.{with_inputs}
use Rattle.ceal_theory.specs.Take.{take_alloc}
use Rattle.ceal_theory.specs.Moves.{Machine, Went, next_move}
use Rattle.ceal_trace.proofs.Entries.{ends-after, entry-old}
use Rattle.ceal_trace.specs.Items.{ticks, item_of, forest_of}
use Rattle.ceal_trace.specs.Nodes.{Entry, has_node, position, node_at, end_in, held_by, new_entry, with_entry_after}
use Rattle.ceal_trace.specs.declared.node.Node.{Node}
use Rattle.ceal_trace.specs.declared.node.Node.TheVariants.{Root, Alloc, Write, Read, End}

-- ---- how often a block is allocated

pub in-count : (c : ℕ) (bs : List ℕ) → In c bs → 1 ≤ count c bs
in-count c [] i = elim i [ ]
in-count c (b ∷ bs) i = elim (in-case c b bs i) [ inl e ↦ omega (arith, one-at c b (sym e)) | inr j ↦ omega (arith, in-count c bs j) ]

pub count-in : (c : ℕ) (bs : List ℕ) → 1 ≤ count c bs → In c bs
count-in c [] h = absurd (omega (arith, h))
count-in c (b ∷ bs) h = elim (eqb_tells b c) [
  | inl p ↦ subst (λ d. In d (b ∷ bs)) p.1 here
  | inr p ↦ there (count-in c bs (let n : 1 ≤ 0 + count c bs = rw p.0 at h in omega (arith, n)))
]

count-none : (c : ℕ) (bs : List ℕ) → (In c bs → ⊥) → count c bs ≡ 0
count-none c [] h = refl
count-none c (b ∷ bs) h = elim (eqb_tells b c) [
  | inl p ↦ absurd (h (subst (λ d. In d (b ∷ bs)) p.1 here))
  | inr p ↦ rw p.0 (let r = count-none c bs (λ i. h (there i)) in omega (arith, r))
]

count-last : (c b : ℕ) (bs : List ℕ) → count c (bs ++ b ∷ []) ≡ (if b == c then 1 else 0) + count c bs
count-last c b [] = omega arith
count-last c b (d ∷ bs) = omega (arith, count-last c b bs)

last-in : (b : ℕ) (bs : List ℕ) → In b (bs ++ b ∷ [])
last-in b [] = here
last-in b (d ∷ bs) = there (last-in b bs)

front-in : (c b : ℕ) (bs : List ℕ) → In c bs → In c (bs ++ b ∷ [])
front-in c b [] i = elim i [ ]
front-in c b (d ∷ bs) here = here
front-in c b (d ∷ bs) (there i) = there (front-in c b bs i)

in-last : (c b : ℕ) (bs : List ℕ) → In c (bs ++ b ∷ []) → In c bs ⊎ (c ≡ b)
in-last c b [] here = inr refl
in-last c b [] (there i) = elim i [ ]
in-last c b (d ∷ bs) here = inl here
in-last c b (d ∷ bs) (there i) = elim (in-last c b bs i) [ inl j ↦ inl (there j) | inr e ↦ inr e ]

pub node-count : (c k : ℕ) (node : Node) (xs ys : List ℕ) → count c xs ≡ k + count c ys → count c (node_blocks node xs) ≡ k + count c (node_blocks node ys)
node-count c k Root xs ys h = h
node-count c k (Alloc (Core b) key) xs ys h = omega (arith, h)
node-count c k (Alloc (Input i) key) xs ys h = h
node-count c k (Write p v) xs ys h = h
node-count c k (Read p v u x args) xs ys h = h
node-count c k (End r) xs ys h = h

blocks-added : (after s b : ℕ) (key : Key) (c : ℕ) (es : List Entry) → has_node after es ≡ true
    → count c (blocks_at (with_entry_after after (new_entry s (Alloc (Core b) key)) es)) ≡ (if b == c then 1 else 0) + count c (blocks_at es)
blocks-added after s b key c [] h = absurd (cc)
blocks-added after s b key c (e ∷ es) h = elim (eqb_tells e.stamp after) [
  | inl p ↦ rw p.0 (node-count c (if b == c then 1 else 0) e.node (b ∷ blocks_at es) (blocks_at es) refl)
  | inr p ↦ rw p.0
      (node-count c (if b == c then 1 else 0) e.node (blocks_at (with_entry_after after (new_entry s (Alloc (Core b) key)) es)) (blocks_at es) (blocks-added after s b key c es (rw p.0 at h)))
]

-- ---- the heap and the tables after a block was made

pub record MadeBlock (code : Code) (inputs : List Block) (c : BlockId) (key : Key) (heap heap' : Contents) (old new : Tables) : Type 0 where
  pub unused : block_of heap c ≡ None
  pub live : IsLive heap' c
  pub words : plain_of heap' c ≡ Some (made code (words_of code inputs heap) key)
  pub others : KeepsBlocks c heap heap'
  pub numbers : GivesOne heap heap'
  pub bases : HasBases code.structs inputs heap old.mods → HasBases code.structs inputs heap' new.mods
  pub kept_bases : (p : Place) → p.block ≢ c → base_in new.mods p ≡ base_in old.mods p
  pub trace : new.trace ≡ old.trace
  pub only : (s : ℕ) → is_in s new.stale.stamps ≡ true → is_in s old.stale.stamps ≡ false → (p : Place) × (p.block ≡ c) × (is_in s (cell_of old.mods p).reads ≡ true)
  pub kept : Kept new

abbrev pub MadeMore : Code → List Block → ℕ → Key → Contents → Contents → Tables → Tables → Type 0
MadeMore code inputs b key heap heap' old new = MadeBlock code inputs (Core b) key heap heap' old new

none-not-some : (o : Option Known) → o ≡ None → IsSome o → ⊥
none-not-some None e h = absurd (cc)
none-not-some (Some x) e h = absurd (cc)

some-is : (o : Option Known) (x : Known) → o ≡ Some x → IsSome o
some-is None x e = absurd (cc)
some-is (Some y) x e = refl

core-same : (b c : ℕ) → Core b ≡ Core c → b ≡ c
core-same b c e = cc

module _ (code : Code) (inputs : List Block) (b : ℕ) (key : Key) (heap heap' : Contents) (old new : Tables) (h : MadeMore code inputs b key heap heap' old new) where
  -- what is there is another block, with the same state
  pub another : (c : BlockId) → IsSome (block_of heap c) → c ≢ Core b
  another c some e = none-not-some (block_of heap (Core b)) h.unused (subst (λ d. IsSome (block_of heap d)) e some)

  live-there : IsSome (block_of heap' (Core b))
  live-there = some-is (block_of heap' (Core b)) h.live.0 (ap known h.live.1)

  still-some : (c : BlockId) → IsSome (block_of heap c) → IsSome (block_of heap' c)
  still-some c some = subst (λ s. IsSome (known s)) (sym (h.others c (another c some))) some

  pub there-kept : (c : BlockId) → There (length inputs) heap c → There (length inputs) heap' c
  there-kept (Input i) k = k
  there-kept (Core c) k = still-some (Core c) k

  live-kept : (c : ℕ) → b ≢ c → IsLive heap (Core c) → IsLive heap' (Core c)
  live-kept c other l = (l.0, h.others (Core c) (λ e. other (sym (core-same c b e))) ∙ l.1)

  live-was : (c : ℕ) → b ≢ c → IsLive heap' (Core c) → IsLive heap (Core c)
  live-was c other l = (l.0, sym (h.others (Core c) (λ e. other (sym (core-same c b e)))) ∙ l.1)

  live-some : (c : ℕ) → IsLive heap (Core c) → IsSome (block_of heap (Core c))
  live-some c l = some-is (block_of heap (Core c)) l.0 (ap known l.1)

  -- the plain words are those with the new block's
  learn-is : (x : Plain) (c : ℕ) (w : Block) → (c == b) ≡ true → learnt x (Core b) w (Core c) ≡ Some w
  unfolding learnt
  learn-is x c w e = rw e refl

  learn-not : (x : Plain) (c : ℕ) (w : Block) → (c == b) ≡ false → learnt x (Core b) w (Core c) ≡ x (Core c)
  unfolding learnt
  learn-not x c w e = rw e refl

  learn-input : (x : Plain) (i : ℕ) (w : Block) → learnt x (Core b) w (Input i) ≡ x (Input i)
  unfolding learnt
  learn-input x i w = refl

  words-core : (heap : Contents) (c : ℕ) → words_of code inputs heap (Core c) ≡ plain_of heap (Core c)
  unfolding words_of with_inputs
  words-core heap c = refl

  words-input : (heap heap' : Contents) (i : ℕ) → words_of code inputs heap' (Input i) ≡ words_of code inputs heap (Input i)
  unfolding words_of with_inputs
  words-input heap heap' i = refl

  pub words-learnt : words_of code inputs heap' ≡ learnt (words_of code inputs heap) (Core b) (made code (words_of code inputs heap) key)
  words-learnt = fun_ext go
    where
      core : (c : ℕ) → plain_of heap' (Core c) ≡ learnt (words_of code inputs heap) (Core b) (made code (words_of code inputs heap) key) (Core c)
      core c = elim (eqb_tells c b) [
        | inl p ↦ ap (λ d. plain_of heap' (Core d)) p.1 ∙ (h.words ∙ sym (learn-is (words_of code inputs heap) c (made code (words_of code inputs heap) key) p.0))
        | inr p ↦ ap (λ s. option_map plain_block (known s)) (h.others (Core c) (λ e. p.1 (core-same c b e)))
            ∙ (sym (words-core heap c) ∙ sym (learn-not (words_of code inputs heap) c (made code (words_of code inputs heap) key) p.0))
      ]

      go : (c : BlockId) → words_of code inputs heap' c ≡ learnt (words_of code inputs heap) (Core b) (made code (words_of code inputs heap) key) c
      go (Input i) = words-input heap heap' i ∙ sym (learn-input (words_of code inputs heap) i (made code (words_of code inputs heap) key))
      go (Core c) = words-core heap' c ∙ core c

  -- its modifiables have their defaults
  pub default-there : HasBases code.structs inputs heap old.mods → (p : Place) → p.block ≡ Core b → base_in new.mods p ≡ cell_default (field_kind code.structs (shape_of code key) p.field)
  default-there has p e =
      ap (λ o. base_in new.mods (record { block = o; field = p.field })) e
      ∙ ((h.bases has).of_cores b p.field
      ∙ (ap (λ s. default_by_standing code.structs s p.field) h.live.1
      ∙ ap (λ s. cell_default (field_kind code.structs s p.field)) shape))
    where
      same : Some (plain_block h.live.0) ≡ Some (made code (words_of code inputs heap) key)
      same = sym (ap (λ s. option_map plain_block (known s)) h.live.1) ∙ h.words

      shape : h.live.0.shape ≡ shape_of code key
      shape = let k : plain_block h.live.0 ≡ made code (words_of code inputs heap) key = cc in ap (λ (w : Block). w.shape) k ∙ made-shape code (words_of code inputs heap) key

  -- the blocks
  module _ (has : HasBlocks code inputs heap old) (cursor s : ℕ) (t : Tables) (k : NodeMore cursor s (Alloc (Core b) key) new t) (at-node : has_node cursor new.trace.nodes ≡ true) where
    old-in : (c : ℕ) → IsLive heap (Core c) ↔ In c (blocks_at old.trace.nodes)
    old-in c = subst (λ bs. IsLive heap (Core c) ↔ In c bs) (allocs-nodes old.trace.nodes) (has.lives.live c)

    counted : (c : ℕ) → count c (blocks_at t.trace.nodes) ≡ (if b == c then 1 else 0) + count c (blocks_at old.trace.nodes)
    counted c = ap (λ es. count c (blocks_at es)) k.nodes ∙ (blocks-added cursor s b key c new.trace.nodes at-node
        ∙ ap (λ (z : _). (if b == c then 1 else 0) + count c (blocks_at z.nodes)) h.trace)

    none-old : count b (blocks_at old.trace.nodes) ≡ 0
    none-old = count-none b (blocks_at old.trace.nodes) (λ i. none-not-some (block_of heap (Core b)) h.unused (live-some b ((old-in b).1 i)))

    live-new : (c : ℕ) → IsLive heap' (Core c) ↔ In c (blocks_at t.trace.nodes)
    live-new c = elim (eqb_tells b c) [
      | inl p ↦ (
        λ l. count-in c (blocks_at t.trace.nodes) (let n : count c (blocks_at t.trace.nodes) ≡ 1 + count c (blocks_at old.trace.nodes) = rw p.0 at (counted c) in omega (arith, n)),
        λ i. subst (λ d. IsLive heap' (Core d)) p.1 h.live,
      )
      | inr p ↦ (
        λ l. count-in c (blocks_at t.trace.nodes) (let n : count c (blocks_at t.trace.nodes) ≡ 0 + count c (blocks_at old.trace.nodes) = rw p.0 at (counted c) in
            omega (arith, n, in-count c (blocks_at old.trace.nodes) ((old-in c).0 (live-was c p.1 l)))),
        λ i. live-kept c p.1 ((old-in c).1 (count-in c (blocks_at old.trace.nodes) (let n : count c (blocks_at t.trace.nodes) ≡ 0 + count c (blocks_at old.trace.nodes) = rw p.0 at (counted c) in
            omega (arith, n, in-count c (blocks_at t.trace.nodes) i)))),
      )
    ]

    once-new : Distinct (blocks_at t.trace.nodes)
    once-new c = elim (eqb_tells b c) [
      | inl p ↦
          let n : count c (blocks_at t.trace.nodes) ≡ 1 + count c (blocks_at old.trace.nodes) = rw p.0 at (counted c) in
          let z : count c (blocks_at old.trace.nodes) ≡ 0 = subst (λ d. count d (blocks_at old.trace.nodes) ≡ 0) p.1 none-old in
          omega (arith, n, z)
      | inr p ↦
          let n : count c (blocks_at t.trace.nodes) ≡ 0 + count c (blocks_at old.trace.nodes) = rw p.0 at (counted c) in
          let o : count c (blocks_at old.trace.nodes) ≤ 1 = subst (λ bs. count c bs ≤ 1) (allocs-nodes old.trace.nodes) (has.lives.once c) in
          omega (arith, n, o)
    ]

    reads-new : (u : ℕ) (p : Place) (v : Word) → Records p v (node_at u t.trace.nodes) → There (length inputs) heap' p.block
    reads-new u p v r = elim (eqb_tells u s) [
      | inl e ↦ absurd (let no : Some (Alloc (Core b) key) ≡ Some (Read p v r.unit r.var r.args) = sym (ap (λ k. node_at k t.trace.nodes) e.1 ∙ k.inserted.node) ∙ r.is in cc)
      | inr e ↦ there-kept p.block (has.reads u p v (subst (Records p v)
          (ap (node_at u) k.nodes ∙ (ap held_by (entry-old cursor (new_entry s (Alloc (Core b) key)) u new.trace.nodes e.1) ∙ ap (λ (z : _). node_at u z.nodes) h.trace)) r))
    ]

    cores-new : (u i : ℕ) (key' : Key) → node_at u t.trace.nodes ≡ Some (Alloc (Input i) key') → ⊥
    cores-new u i key' e = elim (eqb_tells u s) [
      | inl p ↦ let no : Some (Alloc (Core b) key) ≡ Some (Alloc (Input i) key') = sym (ap (λ k. node_at k t.trace.nodes) p.1 ∙ k.inserted.node) ∙ e in absurd (cc)
      | inr p ↦ has.lives.cores u i key'
          (sym (ap (node_at u) k.nodes ∙ (ap held_by (entry-old cursor (new_entry s (Alloc (Core b) key)) u new.trace.nodes p.1) ∙ ap (λ (z : _). node_at u z.nodes) h.trace)) ∙ e)
    ]

    pub blocks-made : HasBlocks code inputs heap' t
    blocks-made = record {
      bases = record {
        of_cores = λ c f. k.bases (record { block = Core c; field = f }) ∙ (h.bases has.bases).of_cores c f;
        of_inputs = λ i f. k.bases (record { block = Input i; field = f }) ∙ (h.bases has.bases).of_inputs i f;
      };
      lives = record {
        live = λ c. subst (λ bs. IsLive heap' (Core c) ↔ In c bs) (sym (allocs-nodes t.trace.nodes)) (live-new c);
        once = subst (λ bs. Distinct bs) (sym (allocs-nodes t.trace.nodes)) once-new;
        cores = cores-new;
      };
      reads = reads-new;
    }

  -- nothing is queued that was not: no read of the new block's places is there
  pub none-made : HasBlocks code inputs heap old → Kept old → (r : ℕ) → is_in r new.stale.stamps ≡ true → is_in r old.stale.stamps ≡ true
  none-made has kept r i = elim (cases_Bool (is_in r old.stale.stamps)) [
    | inl e ↦ e
    | inr e ↦ absurd (go (h.only r i e))
  ]
    where
      reads-one : (p : Place) (n : Node) → reads_at p n ≡ true → node_at r old.trace.nodes ≡ Some n → p.block ≡ Core b → ⊥
      reads-one p Root e k own = absurd (cc)
      reads-one p (Alloc c key) e k own = absurd (cc)
      reads-one p (Write q v) e k own = absurd (cc)
      reads-one p (Read q v u x args) e k own =
          let t : There (length inputs) heap q.block = has.reads r q v (record { unit = u; var = x; args = args; is = k }) in
          none-not-some (block_of heap (Core b)) h.unused (subst (λ c. There (length inputs) heap c) (ap (λ (o : Place). o.block) (place-same q p e) ∙ own) t)
      reads-one p (End s) e k own = absurd (cc)

      go : (p : Place) × (p.block ≡ Core b) × (is_in r (cell_of old.mods p).reads ≡ true) → ⊥
      go (p, own, j) =
          let w = where-holds (reads_at p) old.trace.nodes r kept.step.whole.order.distinct (subst (λ rs. is_in r rs ≡ true) (kept.step.tabled.reads p) j) in
          reads-one p w.0 w.2 w.1 own

  pub late-made : HasBlocks code inputs heap old → (cursor : ℕ) → Kept old → QueuedAfter cursor old → QueuedAfter cursor new
  late-made has cursor kept late r i = subst (λ (z : _). position cursor z.nodes < position r z.nodes) (sym h.trace) (late r (none-made has kept r i))

  -- the numbers that were chosen
  pub given-made : (firsts : List ℕ) (numbers : ℕ) (chosen : List ℕ) → Given firsts numbers chosen heap → Given firsts numbers (chosen ++ b ∷ []) heap'
  given-made firsts numbers chosen g = record {
    distinct = λ c. elim (eqb_tells b c) [
      | inl p ↦
          let n : count c (chosen ++ b ∷ []) ≡ 1 + count c chosen = rw p.0 at (count-last c b chosen) in
          let z : count c chosen ≡ 0 = subst (λ d. count d chosen ≡ 0) p.1 (count-none b chosen (λ i. another (Core b) (g.there b i) refl)) in
          omega (arith, n, z)
      | inr p ↦
          let n : count c (chosen ++ b ∷ []) ≡ 0 + count c chosen = rw p.0 at (count-last c b chosen) in
          omega (arith, n, g.distinct c)
    ];
    apart = λ c i. elim (in-last c b chosen i) [
      | inl j ↦ g.apart c j
      | inr e ↦ subst (λ d. count d firsts ≡ 0) (sym e) (count-none b firsts (λ j. another (Core b) (g.still b j) refl))
    ];
    there = λ c i. elim (in-last c b chosen i) [
      | inl j ↦ still-some (Core c) (g.there c j)
      | inr e ↦ subst (λ d. IsSome (block_of heap' (Core d))) (sym e) live-there
    ];
    still = λ c i. still-some (Core c) (g.still c i);
    only = λ c some. elim (eqb_tells b c) [
      | inl p ↦ inr (subst (λ d. In d (chosen ++ b ∷ [])) p.1 (last-in b chosen))
      | inr p ↦ elim (g.only c (subst (λ s. IsSome (known s)) (h.others (Core c) (λ e. p.1 (sym (core-same c b e)))) some)) [ inl i ↦ inl i | inr i ↦ inr (front-in c b chosen i) ]
    ];
    few = few-made firsts numbers chosen b heap heap' g h.numbers;
  }

-- ---- contents of places that nobody wrote

written-ticks : (p : Place) (w : Word) (n : ℕ) (is : List Item) → written_after p w (ticks n ++ is) ≡ written_after p w is
written-ticks p w zero is = refl
written-ticks p w (suc n) is = written-ticks p w n is

stored-is : (s : Store) (p q : Place) (v : Word) → stored s q v p ≡ (if same_place p q then v else s p)
unfolding stored
stored-is s p q v = refl

pub contents-written : (s : Store) (p : Place) (es : List Entry) → contents_after s es p ≡ written_after p (s p) (forest_of es)
contents-written s p [] = refl
contents-written s p (e ∷ es) = contents-written (content_after s e.node) p es ∙ go e.node
  where
    go : (node : Node) → written_after p (content_after s node p) (forest_of es) ≡ written_after p (s p) (item_of node ++ (ticks e.steps ++ forest_of es))
    go Root = sym (written-ticks p (s p) e.steps (forest_of es))
    go (Alloc c key) = sym (written-ticks p (s p) e.steps (forest_of es))
    go (Write q v) = ap (λ w. written_after p w (forest_of es)) (stored-is s p q v) ∙ sym (written-ticks p (if same_place p q then v else s p) e.steps (forest_of es))
    go (Read q v u x args) = sym (written-ticks p (s p) e.steps (forest_of es))
    go (End r) = sym (written-ticks p (s p) e.steps (forest_of es))

known-wider : {n : ℕ} {bs cs : List ℕ} {is : List Item} → KnownItems n bs is cs → (b : ℕ) → In b bs → In b cs
known-wider {bs = bs} {is = is} k b i = subst (λ ds. In b ds) (sym (known-items-after k)) (known-more bs is b i)

pub unwritten : {n : ℕ} {bs cs : List ℕ} {is : List Item} → KnownItems n bs is cs → (p : Place) (b : ℕ) → p.block ≡ Core b → (In b cs → ⊥) → (w : Word) → written_after p w is ≡ w
unwritten KnownItems.none p b e fresh w = refl
unwritten (KnownItems.step k) p b e fresh w = unwritten k p b e fresh w
unwritten (KnownItems.close k) p b e fresh w = unwritten k p b e fresh w
unwritten (KnownItems.alloc a k) p b e fresh w = unwritten k p b e fresh w
unwritten {n} {bs} (KnownItems.write {p = q} {value = v} {is = is} a c k) p b e fresh w =
    ap (λ (x : Word). written_after p x is) (other (same_place p q) refl) ∙ unwritten k p b e fresh w
  where
    other : (t : Bool) → same_place p q ≡ t → (if same_place p q then v else w) ≡ w
    other false s = rw s refl
    other true s = absurd (fresh (known-wider k b (subst (KnownBlock n bs) (ap (λ (z : Place). z.block) (sym (place-same p q s)) ∙ e) a)))
unwritten (KnownItems.read a c d k) p b e fresh w = unwritten k p b e fresh w

-- ---- the moment after it

unfoldable pub placed-as : (start : Start) (v : View) (reads : List ℕ) (behind : List Entry) (p : Placed start v reads behind) (t : Tables)
    → t.trace ≡ v.tables.trace → Kept t → QueuedAfter v.cursor t → Placed start (record v { tables = t }) reads behind
placed-as start v reads behind p t same kept late = record {
  kept = kept;
  done = p.done;
  last = p.last;
  nodes = ap (λ (z : _). z.nodes) same ∙ p.nodes;
  cursor = p.cursor;
  late = late;
  opened = p.opened;
  began = p.began;
  unfinished = subst (λ (z : _). Unfinished v.frames z.nodes) (sym same) p.unfinished;
}

length-last : (bs : List ℕ) (b : ℕ) → length (bs ++ b ∷ []) ≡ length bs + 1
length-last [] b = omega arith
length-last (d ∷ bs) b = omega (arith, length-last bs b)

module _ (code : Code) (inputs : List Block) (start : Start) (v : View) (front : List Entry) (items : List Item) (m : State → Machine) (c : CourseNow code inputs start v front items m) where
  -- after one turn that makes a block of this number
  course-made : (v' : View) (front' : List Entry) (items' : List Item) (m' : State → Machine) (w : List Item) (store' : Store) (b : ℕ) → items' ≡ items ++ w
      → (m (state_at code inputs v c.store (start.chosen ++ c.made))).state.plain (Core b) ≡ None
      → ((names : ℕ → ℕ) → names (m (state_at code inputs v c.store (start.chosen ++ c.made))).state.number ≡ b
      → next_move code names (m (state_at code inputs v c.store (start.chosen ++ c.made))) ≡ Went w (m' (state_at code inputs v' store' (start.chosen ++ (c.made ++ b ∷ [])))))
      → (m' (state_at code inputs v' store' (start.chosen ++ (c.made ++ b ∷ [])))).state.number ≡ (m (state_at code inputs v c.store (start.chosen ++ c.made))).state.number + 1
      → ((p : Place) → KnownBlock (length inputs) (known_after [] items') p.block → store' p ≡ contents_after (base_in v'.tables.mods) front' p)
      → Given start.first start.numbers (start.chosen ++ (c.made ++ b ∷ [])) v'.heap
      → CourseNow code inputs start v' front' items' m'
  course-made v' front' items' m' w store' b e unused t number same given =
      let old : Machine = m (state_at code inputs v c.store (start.chosen ++ c.made)) in
      let new : Machine = m' (state_at code inputs v' store' (start.chosen ++ (c.made ++ b ∷ []))) in
      let g : GoesKnowing code (length inputs) start.old (known_after [] items) w new =
      (knowing-law code).moves (λ k. b) (length inputs) start.old (known_after [] items) old new w c.knows (t (λ k. b) refl) (inr unused) in
      let k : KnownItems (length inputs) [] (items ++ w) g.known = known-items-append c.mentions g.items in
      let after : g.known ≡ known_after [] (items ++ w) = known-items-after k in
      record {
        store = store';
        made = c.made ++ b ∷ [];
        out = c.out ++ w;
        written = e ∙ (ap (λ is. is ++ w) c.written ∙ append_assoc (items_before start) c.out w);
        mentions = subst (λ is. KnownItems (length inputs) [] is (known_after [] is)) (sym e) (subst (λ bs. KnownItems (length inputs) [] (items ++ w) bs) after k);
        comes = subst (λ bs. ComesBy code start.machine new bs (c.out ++ w)) (append_assoc start.chosen c.made (b ∷ []))
            ((chosen-law code).numbered start.machine old new (start.chosen ++ c.made) c.out w c.comes b (λ names h. leads-move code names old new w (t names h)) number);
        knows = subst (λ bs. Knows code (length inputs) start.old bs new) (after ∙ ap (known_after []) (sym e)) g.knows;
        same = same;
        given = given;
      }

pub cleared-own : (code : Code) (s : Store) (b : ℕ) (key : Key) (p : Place) → p.block ≡ Core b → cleared code s (Core b) key p ≡ cell_default (field_kind code.structs (shape_of code key) p.field)
unfolding cleared
cleared-own code s b key p e = rw (ap (λ c. same_block c (Core b)) e ∙ nat-refl b) refl

pub cleared-other : (code : Code) (s : Store) (b : ℕ) (key : Key) (p : Place) → same_block p.block (Core b) ≡ false → cleared code s (Core b) key p ≡ s p
unfolding cleared
cleared-other code s b key p e = rw e refl

pub differs : (c d : BlockId) → c ≢ d → same_block c d ≡ false
differs c d h = elim (cases_Bool (same_block c d)) [ inl e ↦ absurd (h (block-same c d e)) | inr e ↦ e ]

module _ (code : Code) (inputs : List Block) (start : Start) (st : Stack) (v : View) (now : RunningNow code inputs start st v)
    (b : ℕ) (key : Key) (heap : Contents) (t1 t2 t : Tables) (s : ℕ)
    (h : StepMore v.cursor v.tables t1) (k : MadeMore code inputs b key v.heap heap t1 t2) (l : NodeMore v.cursor s (Alloc (Core b) key) t2 t) where
  -- a block that was known is another one
  known-other : (c : BlockId) → KnownBlock (length inputs) (known_after [] (forest_of (through now.placed.done now.placed.last))) c → c ≢ Core b
  known-other (Input i) j e = absurd (cc)
  known-other (Core c) j e =
      another code inputs b key v.heap heap t1 t2 k (Core c) (known-there code inputs v.heap (known_after [] (forest_of (through now.placed.done now.placed.last))) now.course.knows.plain (Core c) j) e

  fresh-number : In b (known_after [] (forest_of (through now.placed.done now.placed.last))) → ⊥
  fresh-number i = known-other (Core b) i refl

  unused-number : words_of code inputs v.heap (Core b) ≡ None
  unfolding words_of with_inputs
  unused-number = ap (λ o. option_map plain_block o) k.unused

  grown : grows code (λ n. b) (works (state_at code inputs v now.course.store (start.chosen ++ now.course.made))) key
      ≡ state_at code inputs (record { tables = t; heap = heap; spent = v.spent + 1; cursor = s; limit = v.limit; frames = v.frames }) (cleared code now.course.store (Core b) key)
      (start.chosen ++ (now.course.made ++ b ∷ []))
  grown = ap₂ (λ (x : Plain) (n : ℕ). record { store = cleared code now.course.store (Core b) key; plain = x; number = n; work = v.spent + 1 })
      (sym (words-learnt code inputs b key v.heap heap t1 t2 k))
      (sym (ap length (sym (append_assoc start.chosen now.course.made (b ∷ []))) ∙ length-last (start.chosen ++ now.course.made) b))

  made-turn : take_alloc key (first (levels (forest_of (entries now.left ++ now.tail)))) ≡ None → (x u i : ℕ) (env : Variables) (below : Stack)
      → next code (words_of code inputs v.heap) st ≡ Makes key x u i env below
      → (names : ℕ → ℕ) → names (length (start.chosen ++ now.course.made)) ≡ b
      → next_move code names (running_at (state_at code inputs v now.course.store (start.chosen ++ now.course.made)) st now.waits (forest_of (entries now.left ++ now.tail)))
      ≡ Went (item.Step ∷ item.Alloc (Core b) key ∷ []) (running_at (state_at code inputs (record { tables = t; heap = heap; spent = v.spent + 1; cursor = s; limit = v.limit; frames = v.frames })
      (cleared code now.course.store (Core b) key) (start.chosen ++ (now.course.made ++ b ∷ [])))
      (Run u i (set env x (pointer key (Core b))) below) now.waits (forest_of (entries now.left ++ now.tail)))
  unfolding next_move
  made-turn none x u i env below does names e =
      subst (λ z. next_move code names (running_at (state_at code inputs v now.course.store (start.chosen ++ now.course.made)) st now.waits (forest_of (entries now.left ++ now.tail)))
      ≡ Went (item.Step ∷ item.Alloc (Core b) key ∷ []) (running_at z (Run u i (set env x (pointer key (Core b))) below) now.waits (forest_of (entries now.left ++ now.tail)))) grown
      (rw (does, none, e) refl)

  -- bases of other blocks are those that they were
  base-other : (p : Place) → p.block ≢ Core b → base_in t.mods p ≡ base_in v.tables.mods p
  base-other p other = l.bases p ∙ (k.kept_bases p other ∙ ap (λ d. base_in d p) h.mods)

  same-other : (p : Place) → KnownBlock (length inputs) (known_after [] (forest_of (through now.placed.done now.placed.last))) p.block
      → cleared code now.course.store (Core b) key p ≡ contents_after (base_in t.mods) (through (through now.placed.done (more now.placed.last)) (new_entry s (Alloc (Core b) key))) p
  same-other p j =
      let other = known-other p.block j in
      cleared-other code now.course.store b key p (differs p.block (Core b) other)
      ∙ (now.course.same p j
      ∙ (contents-base (base_in v.tables.mods) (base_in t.mods) p (sym (base-other p other)) (through now.placed.done now.placed.last)
      ∙ (sym (ap (λ (f : Store). f p) (contents-step (base_in t.mods) now.placed.done now.placed.last))
      ∙ sym (ap (λ (f : Store). f p) (contents-put (base_in t.mods) (through now.placed.done (more now.placed.last)) s (Alloc (Core b) key))))))

  bases-was : HasBases code.structs inputs v.heap t1.mods
  bases-was = (blocks-more code inputs v.heap v.tables t1 now.blocks v.cursor h).bases

  same-own : (p : Place) → p.block ≡ Core b
      → cleared code now.course.store (Core b) key p ≡ contents_after (base_in t.mods) (through (through now.placed.done (more now.placed.last)) (new_entry s (Alloc (Core b) key))) p
  same-own p e =
      cleared-own code now.course.store b key p e
      ∙ (sym (l.bases p ∙ default-there code inputs b key v.heap heap t1 t2 k bases-was p e)
      ∙ (sym (contents-written (base_in t.mods) p (through now.placed.done now.placed.last) ∙ unwritten now.course.mentions p b e fresh-number (base_in t.mods p))
      ∙ (sym (ap (λ (f : Store). f p) (contents-step (base_in t.mods) now.placed.done now.placed.last))
      ∙ sym (ap (λ (f : Store). f p) (contents-put (base_in t.mods) (through now.placed.done (more now.placed.last)) s (Alloc (Core b) key))))))

  same-made : (p : Place) → KnownBlock (length inputs) (known_after [] (forest_of (through (through now.placed.done (more now.placed.last)) (new_entry s (Alloc (Core b) key))))) p.block
      → cleared code now.course.store (Core b) key p ≡ contents_after (base_in t.mods) (through (through now.placed.done (more now.placed.last)) (new_entry s (Alloc (Core b) key))) p
  same-made p j = go p.block refl (subst (λ bs. KnownBlock (length inputs) bs p.block)
      (ap (known_after []) (items-next code inputs start st v now s (Alloc (Core b) key))
      ∙ known-append [] (forest_of (through now.placed.done now.placed.last)) (item.Step ∷ item.Alloc (Core b) key ∷ [])) j)
    where
      go : (c : BlockId) → p.block ≡ c → KnownBlock (length inputs) (b ∷ known_after [] (forest_of (through now.placed.done now.placed.last))) p.block
          → cleared code now.course.store (Core b) key p ≡ contents_after (base_in t.mods) (through (through now.placed.done (more now.placed.last)) (new_entry s (Alloc (Core b) key))) p
      go (Input i) e j = same-other p (subst (KnownBlock (length inputs) (known_after [] (forest_of (through now.placed.done now.placed.last)))) (sym e)
          (let n : KnownBlock (length inputs) (b ∷ known_after [] (forest_of (through now.placed.done now.placed.last))) (Input i) =
          subst (KnownBlock (length inputs) (b ∷ known_after [] (forest_of (through now.placed.done now.placed.last)))) e j in n))
      go (Core c) e j = elim (in-case c b (known_after [] (forest_of (through now.placed.done now.placed.last)))
          (subst (KnownBlock (length inputs) (b ∷ known_after [] (forest_of (through now.placed.done now.placed.last)))) e j)) [
            | inl q ↦ same-own p (e ∙ ap Core q)
            | inr i ↦ same-other p (subst (KnownBlock (length inputs) (known_after [] (forest_of (through now.placed.done now.placed.last)))) (sym e) i)
          ]

  placed-stepped : Placed start (record { tables = t1; heap = v.heap; spent = v.spent + 1; cursor = v.cursor; limit = v.limit; frames = v.frames }) now.reads (entries now.left ++ now.tail)
  placed-stepped = placed-step start v now.reads (entries now.left ++ now.tail) now.placed t1 (v.spent + 1) h

  blocks-stepped : HasBlocks code inputs v.heap t1
  blocks-stepped = blocks-more code inputs v.heap v.tables t1 now.blocks v.cursor h

  late-stepped : QueuedAfter v.cursor t2
  late-stepped = late-made code inputs b key v.heap heap t1 t2 k blocks-stepped v.cursor h.kept placed-stepped.late

  pub here-made : has_node v.cursor t2.trace.nodes ≡ true
  here-made = subst (λ (z : _). has_node v.cursor z.nodes ≡ true) (sym k.trace)
      (cursor-here start (record { tables = t1; heap = v.heap; spent = v.spent + 1; cursor = v.cursor; limit = v.limit; frames = v.frames }) now.reads (entries now.left ++ now.tail) placed-stepped)

  -- a new block: its node is after the cursor
  pub now-make : take_alloc key (first (levels (forest_of (entries now.left ++ now.tail)))) ≡ None → (x u i : ℕ) (env : Variables) (below : Stack)
      → next code (words_of code inputs v.heap) st ≡ Makes key x u i env below
      → RunningNow code inputs start (Run u i (set env x (pointer key (Core b))) below) (record { tables = t; heap = heap; spent = v.spent + 1; cursor = s; limit = v.limit; frames = v.frames })
  unfolding placed-step placed-put placed-as placed-stepped
  now-make none x u i env below does = record {
    reads = now.reads;
    left = now.left;
    waits = now.waits;
    tail = now.tail;
    placed = placed-put start (record { tables = t2; heap = v.heap; spent = v.spent + 1; cursor = v.cursor; limit = v.limit; frames = v.frames }) now.reads (entries now.left ++ now.tail)
        (placed-as start (record { tables = t1; heap = v.heap; spent = v.spent + 1; cursor = v.cursor; limit = v.limit; frames = v.frames }) now.reads (entries now.left ++ now.tail)
        (placed-step start v now.reads (entries now.left ++ now.tail) now.placed t1 (v.spent + 1) h) t2 k.trace k.kept late-stepped)
        t s (Alloc (Core b) key) heap v.limit v.frames now.reads l refl
        (unfinished-ends v.frames t2.trace.nodes t.trace.nodes (λ r. ap (end_in r) l.nodes ∙ ends-after v.cursor (new_entry s (Alloc (Core b) key)) r t2.trace.nodes refl)
        (placed-as start (record { tables = t1; heap = v.heap; spent = v.spent + 1; cursor = v.cursor; limit = v.limit; frames = v.frames }) now.reads (entries now.left ++ now.tail)
        (placed-step start v now.reads (entries now.left ++ now.tail) now.placed t1 (v.spent + 1) h) t2 k.trace k.kept late-stepped).unfinished);
    tails = now.tails;
    bare = now.bare;
    bounds = now.bounds;
    blocks = blocks-made code inputs b key v.heap heap t1 t2 k blocks-stepped v.cursor s t l here-made;
    course = course-made code inputs start v (through now.placed.done now.placed.last) (forest_of (through now.placed.done now.placed.last))
        (λ s. running_at s st now.waits (forest_of (entries now.left ++ now.tail))) now.course
        (record { tables = t; heap = heap; spent = v.spent + 1; cursor = s; limit = v.limit; frames = v.frames })
        (through (through now.placed.done (more now.placed.last)) (new_entry s (Alloc (Core b) key)))
        (forest_of (through (through now.placed.done (more now.placed.last)) (new_entry s (Alloc (Core b) key))))
        (λ s. running_at s (Run u i (set env x (pointer key (Core b))) below) now.waits (forest_of (entries now.left ++ now.tail)))
        (item.Step ∷ item.Alloc (Core b) key ∷ []) (cleared code now.course.store (Core b) key) b (items-next code inputs start st v now s (Alloc (Core b) key))
        unused-number
        (made-turn none x u i env below does)
        (ap length (sym (append_assoc start.chosen now.course.made (b ∷ []))) ∙ length-last (start.chosen ++ now.course.made) b)
        same-made
        (subst (λ bs. Given start.first start.numbers bs heap) (append_assoc start.chosen now.course.made (b ∷ []))
        (given-made code inputs b key v.heap heap t1 t2 k start.first start.numbers (start.chosen ++ now.course.made) now.course.given));
  }

-- ---- the same, in code

pub block-as : (old new : Repair) → IsStepped old new → (c : BlockId) (b : ℕ) → c ≡ Core b → (key : Key) (heap : Contents) (t1 t2 : Tables)
    → MadeBlock (code_of new) (inputs_of new) c key new.running.now.heap heap t1 t2 → MadeMore (code_of old) (inputs_of old) b key old.running.now.heap heap t1 t2
block-as old new h c b e key heap t1 t2 k =
    subst (λ d. MadeBlock (code_of old) (inputs_of old) d key old.running.now.heap heap t1 t2) e
    (subst (λ z. MadeBlock (code_of old) (inputs_of old) c key z heap t1 t2) h.heap
    (subst (λ z. MadeBlock (code_of old) z c key new.running.now.heap heap t1 t2) (ap inputs_of h.rest)
    (subst (λ z. MadeBlock z (inputs_of new) c key new.running.now.heap heap t1 t2) (ap code_of h.rest) k)))

pub alloc-behind : (old new : Repair) → IsStepped old new → (c : BlockId) (b : ℕ) → c ≡ Core b → (key : Key) (s : ℕ) (t2 t : Tables)
    → NodeMore new.cursor.0 s (Alloc c key) t2 t → NodeMore old.cursor.0 s (Alloc (Core b) key) t2 t
alloc-behind old new h c b e key s t2 t k = subst (λ d. NodeMore old.cursor.0 s (Alloc d key) t2 t) e (subst (λ z. NodeMore z s (Alloc c key) t2 t) (cursor-kept old new h) k)
