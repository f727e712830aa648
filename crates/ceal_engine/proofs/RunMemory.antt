-- The memory of a run: what its modifiables hold is what the trace leaves, its heap has the blocks of the trace.
use Rattle.std.proofs.Common.{◌≡◌, ℕ, zero, suc, ◌+◌, ◌<◌, ◌≤◌, nat_le, Bool, true, false, Option, Some, None, List, [], ◌∷◌, ◌++◌, length, slice_get, refl, sym, ap, ap₂, subst, ◌∙◌, arith}
use Rattle.std.proofs.Common.{append-nil, pos, if◌then◌else◌, inl, inr, ◌⊎◌}
use Rattle.std.specs.Option.{option_map}
use Rattle.ceal_base.proofs.TraceLemmas.{steps-flat}
use Rattle.ceal_base.specs.Block.{Block}
use Rattle.ceal_base.specs.Operators.{same_place}
use Rattle.ceal_base.specs.Trace.{Trace, Nothing, Stepped, Allocated, Wrote, WasRead, flat, steps_of, blocks_of, steps_in}
use Rattle.ceal_base.specs.declared.forest.Item.{Item}
use Rattle.ceal_base.specs.declared.forest.Item.TheVariants as item
use Rattle.ceal_base.specs.declared.word.BlockId.{BlockId}
use Rattle.ceal_base.specs.declared.word.BlockId.TheVariants.{Input, Core}
use Rattle.ceal_base.specs.declared.word.Place.{Place}
use Rattle.ceal_base.specs.declared.word.Word.{Word}
use Rattle.ceal_base.specs.declared.word.Word.TheVariants.{Num}
use Rattle.ceal_code.proofs.Replay.AfterLaws.{store-law, inputs-law}
use Rattle.ceal_code.proofs.Replay.MemoryChanges.{get-within}
use Rattle.ceal_code.proofs.Replay.ReplayedCall.{get-after}
use Rattle.ceal_code.proofs.Words.SameIsEqual.{some-same, none-some, place-same}
use Rattle.ceal_code.specs.After.{store_after, memory_after}
use Rattle.ceal_code.specs.Program.{Code}
use Rattle.ceal_code.specs.Replay.{Store, In, here, there, KnownBlock, count, core_numbers, bases, plain_of, cell_default, content_in, filled, block_after, inputs_after, IsHonest}
use Rattle.ceal_code.specs.Value.{Plain, field_kind}
use Rattle.ceal_engine.proofs.Inputs.{extended-refl}
use Rattle.ceal_engine.proofs.LiveCount.{number-of}
use Rattle.ceal_engine.proofs.MoreMemory.{uses-known, filled-same, get-out}
use Rattle.ceal_engine.specs.Engine.{at_number}
use Rattle.ceal_engine.specs.Keeping.{contents, cores_from, steps_kept}
use Rattle.ceal_heap.specs.Heap.{Contents, Known, Standing, Unused, Live, Revoked, Released, IsLive, known, next, plain_block, plain_of as heap_words, standing}
use Rattle.ceal_mods.specs.Mods.{Contents as Mods, cell_of}
use Rattle.ceal_mods.specs.Writes.{Write as WriteOf, last_of}
use Rattle.ceal_repair.proofs.Nodes.NodeItems.{allocs-append, known-more}
use Rattle.ceal_repair.proofs.Runs.NewBlock.{count-in, in-count, contents-written, unwritten}
use Rattle.ceal_repair.proofs.Lists.ListChanges.{last-contents}
use Rattle.ceal_repair.specs.Answers.{StandsForTrace, IsKeptRun}
use Rattle.ceal_repair.specs.Kept.{base_in}
use Rattle.ceal_repair.specs.Words.{default_by_standing}
use Rattle.ceal_repair.specs.declared.running.Running.{Running}
use Rattle.ceal_theory.proofs.Repair.DistinctBlocks.{uses}
use Rattle.ceal_theory.proofs.SlicedRepair.DoneReplays.{same-bases}
use Rattle.ceal_theory.proofs.Store.WordsGrow.{own-single}
use Rattle.ceal_theory.proofs.Store.WritesByPlace.{listed-law}
use Rattle.ceal_theory.proofs.Store.KnownPlaces.{HonestAgain, honest-again}
use Rattle.ceal_theory.proofs.SlicedRepair.Soundness.{begin-sound}
use Rattle.ceal_theory.proofs.Store.Walk.{flat-honest, flat-after}
use Rattle.ceal_theory.specs.Adjust.{Above}
use Rattle.ceal_theory.specs.Cover.{known_after}
use Rattle.ceal_theory.specs.KnownContent.{allocs, written_after}
use Rattle.ceal_theory.specs.Known.{KnownItems}
use Rattle.ceal_theory.specs.Listed.{Listed}
use Rattle.ceal_theory.specs.Repair.{own}
use Rattle.ceal_theory.specs.Slices.{beginning, starting, default_in, RepairHolds}

-- ---- the blocks that a trace allocates

core-append : (bs cs : List BlockId) → core_numbers (bs ++ cs) ≡ core_numbers bs ++ core_numbers cs
core-append [] cs = refl
core-append (Core b ∷ bs) cs = ap (λ ns. b ∷ ns) (core-append bs cs)
core-append (Input i ∷ bs) cs = core-append bs cs

pub allocs-flat : (l : Trace) → allocs (flat l) ≡ core_numbers (blocks_of l)
allocs-flat Nothing = refl
allocs-flat (Stepped rest) = allocs-flat rest
allocs-flat (Allocated (Core b) key rest) = ap (λ ns. b ∷ ns) (allocs-flat rest)
allocs-flat (Allocated (Input i) key rest) = allocs-flat rest
allocs-flat (Wrote p v rest) = allocs-flat rest
allocs-flat (WasRead p v u x args inside rest) =
    allocs-append (flat inside) (item.End ∷ flat rest) ∙ (ap₂ ◌++◌ (allocs-flat inside) (allocs-flat rest) ∙ sym (core-append (blocks_of inside) (blocks_of rest)))

-- what items allocate is known after them
allocs-known : (bs : List ℕ) (is : List Item) (b : ℕ) → In b (allocs is) → In b (known_after bs is)
allocs-known bs [] b i = elim i [ ]
allocs-known bs (item.Step ∷ is) b i = allocs-known bs is b i
allocs-known bs (item.Alloc (Core c) key ∷ is) b here = known-more (b ∷ bs) is b here
allocs-known bs (item.Alloc (Core c) key ∷ is) b (there i) = allocs-known (c ∷ bs) is b i
allocs-known bs (item.Alloc (Input c) key ∷ is) b i = allocs-known bs is b i
allocs-known bs (item.Write p value ∷ is) b i = allocs-known bs is b i
allocs-known bs (item.Read p value u v args ∷ is) b i = allocs-known bs is b i
allocs-known bs (item.End ∷ is) b i = allocs-known bs is b i

-- and what is known after them is what was known before, or what they allocate
known-turn : (b c : ℕ) (bs ds : List ℕ) → In b (c ∷ bs) ⊎ In b ds → In b bs ⊎ In b (c ∷ ds)
known-turn b c bs ds (inl here) = inr here
known-turn b c bs ds (inl (there i)) = inl i
known-turn b c bs ds (inr i) = inr (there i)

known-from : (bs : List ℕ) (is : List Item) (b : ℕ) → In b (known_after bs is) → In b bs ⊎ In b (allocs is)
known-from bs [] b i = inl i
known-from bs (item.Step ∷ is) b i = known-from bs is b i
known-from bs (item.Alloc (Core c) key ∷ is) b i = known-turn b c bs (allocs is) (known-from (c ∷ bs) is b i)
known-from bs (item.Alloc (Input c) key ∷ is) b i = known-from bs is b i
known-from bs (item.Write p value ∷ is) b i = known-from bs is b i
known-from bs (item.Read p value u v args ∷ is) b i = known-from bs is b i
known-from bs (item.End ∷ is) b i = known-from bs is b i

-- no item writes a place of an input that is not there
unwritten-input : {n : ℕ} {bs cs : List ℕ} {is : List Item} → KnownItems n bs is cs → (p : Place) (i : ℕ) → p.block ≡ Input i → n ≤ i → (w : Word) → written_after p w is ≡ w
unwritten-input KnownItems.none p i e l w = refl
unwritten-input (KnownItems.step k) p i e l w = unwritten-input k p i e l w
unwritten-input (KnownItems.close k) p i e l w = unwritten-input k p i e l w
unwritten-input (KnownItems.alloc a k) p i e l w = unwritten-input k p i e l w
unwritten-input {n} {bs} (KnownItems.write {p = q} {value = v} {is = is} a c k) p i e l w =
    ap (λ (x : Word). written_after p x is) (other (same_place p q) refl) ∙ unwritten-input k p i e l w
  where
    other : (t : Bool) → same_place p q ≡ t → (if same_place p q then v else w) ≡ w
    other false s = rw s refl
    other true s =
        let less : i < n = subst (KnownBlock n bs) (ap (λ (z : Place). z.block) (sym (place-same p q s)) ∙ e) a in
        absurd (omega (arith, less, l))
unwritten-input (KnownItems.read a c d k) p i e l w = unwritten-input k p i e l w

-- the blocks of the trace have numbers below the next one of the heap
pub low-numbers : (code : Code) (inputs : List Block) (l : Trace) (run : Running) → StandsForTrace code inputs l run → Above (next run.heap) l
low-numbers code inputs l run s b h = go (uses b l) refl
  where
    go : (n : ℕ) → uses b l ≡ n → uses b l ≡ 0
    go zero e = e
    go (suc n) e =
        let i : In b (core_numbers (blocks_of l)) = count-in b (core_numbers (blocks_of l)) (omega (arith, e)) in
        let live = (s.blocks.lives.live b).1 (subst (In b) (sym (ap allocs s.items ∙ allocs-flat l)) i) in
        let n = number-of run.heap (slice_get run.heap.numbers b) live.0 live.1 in
        none-some n.0 (sym (get-out run.heap.numbers b h) ∙ n.1)

-- ---- blocks with contents

-- a block that is there with the same words and the same contents
after-known : (code : Code) (x y : Plain) (s t : Store) (b : BlockId) (o : Option Block) → x b ≡ o → y b ≡ o
    → ((block : Block) → o ≡ Some block → (f : ℕ) → s (record { block = b; field = f }) ≡ t (record { block = b; field = f })) → block_after code x s b ≡ block_after code y t b
unfolding block_after
after-known code x y s t b None e g h = rw (e, g) refl
after-known code x y s t b (Some block) e g h = rw (e, g) (filled-same code s t b (h block refl) (Some block))

-- a block that can be read and is not revoked is live
live-of : (st : Standing) → ((block : Known) → st ≡ Revoked block → ⊥) → (block : Block) → option_map plain_block (known st) ≡ Some block → (k : Known) × (st ≡ Live k) × (plain_block k ≡ block)
live-of Unused h block e = none-some block e
live-of (Live k) h block e = (k, refl, some-same (plain_block k) block e)
live-of (Revoked k) h block e = absurd (h k refl)
live-of (Released s) h block e = none-some block e

-- ---- the core blocks by their numbers

module _ (code : Code) (s : Store) (heap : Contents) where
  core-at : (k n i : ℕ) → i < k → slice_get (cores_from code s heap n k) i ≡ Some (block_after code (heap_words heap) s (Core (n + i)))
  core-at zero n i h = absurd (omega (arith, h))
  core-at (suc k) n zero h = let e : n + 0 ≡ n = omega arith in rw e refl
  core-at (suc k) n (suc i) h = let e : n + 1 + i ≡ n + suc i = omega arith in rw (← e) (core-at k (n + 1) i (omega (arith, h)))

  core-past : (k n i : ℕ) → k ≤ i → slice_get (cores_from code s heap n k) i ≡ None
  core-past zero n i h = refl
  core-past (suc k) n zero h = absurd (omega (arith, h))
  core-past (suc k) n (suc i) h = core-past k (n + 1) i (omega (arith, h))

  pub cores-are : (n : ℕ) → at_number (slice_get (cores_from code s heap 0 (next heap)) n) ≡ block_after code (heap_words heap) s (Core n)
  unfolding block_after
  cores-are n = go (nat_le (next heap) n) refl
    where
      go : (t : Bool) → nat_le (next heap) n ≡ t → at_number (slice_get (cores_from code s heap 0 (next heap)) n) ≡ option_map (filled code s (Core n)) (heap_words heap (Core n))
      go true h =
          let past : next heap ≤ n = grind (arith, h) in
          rw (core-past (next heap) 0 n past, get-out heap.numbers n past) refl
      go false h =
          let e : 0 + n ≡ n = omega arith in
          ap at_number (core-at (next heap) 0 n (grind (arith, h))) ∙ rw e refl

-- ---- what a run holds

module _ (code : Code) (inputs : List Block) (f : ℕ) (args : List Word) (fuel : ℕ) (l : Trace) (run : Running) (k : IsKeptRun code inputs f args fuel l run) (h : IsHonest code inputs l) where
  abbrev mods : Mods
  mods = run.tables.mods

  abbrev limit : ℕ
  limit = next run.heap

  above : Above limit l
  above = low-numbers code inputs l run k.stands

  abbrev words : Plain
  words = plain_of code inputs l

  sound : RepairHolds code own inputs f args (beginning code inputs l limit)
  sound = begin-sound code own inputs inputs f args l limit limit
      (record { call = k.fits; fit = k.fits.blocks; extended = extended-refl code inputs; trace = k.replays; above = above }) own-single above

  again : HonestAgain code (length inputs) (starting code inputs words) l k.replays.known h.after
  again = honest-again code (length inputs) h.walk k.replays.mentions (starting code inputs words) (λ p i. sym (same-bases code inputs words p i))

  listed : Listed code inputs (beginning code inputs l limit) (flat l)
  listed = listed-law code own inputs f args k.fits (beginning code inputs l limit) sound (flat l) [] (sym (append-nil (flat l))) (flat-honest code again.walk)

  -- a place holds its last write, or else its base
  latest : (p : Place) → contents mods p ≡ written_after p (base_in mods p) (flat l)
  latest p =
      ap (λ (ws : List WriteOf). last_of (cell_of mods p).base ws) (k.stands.kept.step.tabled.writes p)
      ∙ (last-contents p run.tables.trace.nodes (base_in mods)
      ∙ (contents-written (base_in mods) p run.tables.trace.nodes ∙ ap (λ is. written_after p (base_in mods p) is) k.stands.items))

  -- a known place that begins with its base
  held : (p : Place) → KnownBlock (length inputs) k.replays.known p.block → KnownBlock (length inputs) (known_after [] (flat l)) p.block → base_in mods p ≡ starting code inputs words p
      → contents mods p ≡ h.after p
  held p i j e =
      latest p
      ∙ (ap (λ w. written_after p w (flat l)) e
      ∙ (sym (listed.last p j) ∙ (ap (λ (s : Store). s p) (sym (flat-after code again.walk)) ∙ sym (again.same p i))))

  input-held : (i field : ℕ) → i < length inputs → contents mods (record { block = Input i; field = field }) ≡ h.after (record { block = Input i; field = field })
  unfolding starting
  input-held i field less = held (record { block = Input i; field = field }) less less (k.stands.blocks.bases.of_inputs i field)

  -- a live block is one of the trace
  live-known : (n : ℕ) → IsLive run.heap (Core n) → In n (allocs (flat l))
  live-known n live = subst (λ is. In n (allocs is)) k.stands.items ((k.stands.blocks.lives.live n).0 live)

  core-held : (n : ℕ) (block : Block) → heap_words run.heap (Core n) ≡ Some block → (field : ℕ)
      → contents mods (record { block = Core n; field = field }) ≡ h.after (record { block = Core n; field = field })
  unfolding starting
  core-held n block e field =
      let live = live-of (standing run.heap (Core n)) (λ block r. k.stands.released (Core n) block r) block e in
      let i : In n (allocs (flat l)) = live-known n (live.0, live.1) in
      let base : base_in mods (record { block = Core n; field = field }) ≡ cell_default (field_kind code.structs block.shape field) =
      k.stands.blocks.bases.of_cores n field ∙ (ap (λ st. default_by_standing code.structs st field) live.1 ∙ ap (λ (b : Block). cell_default (field_kind code.structs b.shape field)) live.2) in
      held (record { block = Core n; field = field }) (uses-known k.replays.mentions n (subst (λ bs. 1 ≤ count n bs) (allocs-flat l) (in-count n (allocs (flat l)) i))) (allocs-known [] (flat l) n i)
      (base ∙ ap (λ o. default_in code.structs o field) (sym e ∙ k.stands.words n))

  after-store : h.after ≡ store_after code (bases code inputs) l
  after-store = store-law code (bases code inputs) h.after l h.walk

  -- the memory is that after the trace
  pub inputs-held : (n : ℕ) → slice_get (inputs_after code (contents mods) 0 inputs) n ≡ memory_after code inputs l (Input n)
  inputs-held n =
      get-after code (contents mods) 0 inputs n
      ∙ (go (slice_get inputs n) refl
      ∙ (sym (get-after code (store_after code (bases code inputs) l) 0 inputs n) ∙ inputs-law code inputs f args l k.replays (store_after code (bases code inputs) l) n))
    where
      zero-more : 0 + n ≡ n
      zero-more = omega arith

      go : (o : Option Block) → slice_get inputs n ≡ o
          → option_map (filled code (contents mods) (Input (0 + n))) o ≡ option_map (filled code (store_after code (bases code inputs) l) (Input (0 + n))) o
      go None e = refl
      go (Some block) e =
          rw zero-more
          (filled-same code (contents mods) (store_after code (bases code inputs) l) (Input n)
          (λ field. input-held n field (get-within inputs n block e) ∙ ap (λ (s : Store). s (record { block = Input n; field = field })) after-store) (Some block))

  pub cores-held : (n : ℕ) → at_number (slice_get (cores_from code (contents mods) run.heap 0 (next run.heap)) n) ≡ memory_after code inputs l (Core n)
  cores-held n =
      cores-are code (contents mods) run.heap n
      ∙ after-known code (heap_words run.heap) words (contents mods) (store_after code (bases code inputs) l) (Core n) (heap_words run.heap (Core n)) refl (sym (k.stands.words n))
      (λ block e field. core-held n block e field ∙ ap (λ (s : Store). s (record { block = Core n; field = field })) after-store)

  -- no place of an input that is not there is written, and so it holds 0
  pub input-absent : (i field : ℕ) → length inputs ≤ i → contents mods (record { block = Input i; field = field }) ≡ Num (pos 0)
  input-absent i field out =
      latest (record { block = Input i; field = field })
      ∙ (unwritten-input listed.items (record { block = Input i; field = field }) i refl out (base_in mods (record { block = Input i; field = field }))
      ∙ (k.stands.blocks.bases.of_inputs i field ∙ ap (λ o. content_in code.structs o field) (get-out inputs i out)))

  -- nor is one of a core block that is not there, which holds what its number does before any write
  not-known : (n : ℕ) → heap_words run.heap (Core n) ≡ None → In n [] ⊎ In n (allocs (flat l)) → ⊥
  not-known n e (inl i) = elim i [ ]
  not-known n e (inr i) =
      let live = (k.stands.blocks.lives.live n).1 (subst (λ is. In n (allocs is)) (sym k.stands.items) i) in
      none-some (plain_block live.0) (sym e ∙ ap (λ (st : Standing). option_map plain_block (known st)) live.1)

  pub core-absent : (n field : ℕ) → heap_words run.heap (Core n) ≡ None
      → contents mods (record { block = Core n; field = field }) ≡ default_by_standing code.structs (standing run.heap (Core n)) field
  core-absent n field e =
      latest (record { block = Core n; field = field })
      ∙ (unwritten listed.items (record { block = Core n; field = field }) n refl (λ i. not-known n e (known-from [] (flat l) n i)) (base_in mods (record { block = Core n; field = field }))
      ∙ k.stands.blocks.bases.of_cores n field)

-- its steps are those of the trace
pub steps-held : (code : Code) (inputs : List Block) (f : ℕ) (args : List Word) (fuel : ℕ) (l : Trace) (run : Running) → IsKeptRun code inputs f args fuel l run → steps_kept (Some run) ≡ steps_of l
steps-held code inputs f args fuel l run k = ap steps_in k.stands.items ∙ steps-flat l
