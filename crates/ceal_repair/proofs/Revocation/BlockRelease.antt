-- Revoked blocks are taken away, and the run stands for its trace as before.
use Rattle.std.proofs.Common.{◌≡◌, ◌⊎◌, ◌<◌, ◌==◌, ℕ, zero, suc, inl, inr, Bool, true, false, if◌then◌else◌, Some, None, List, [], ◌∷◌, ◌++◌, length, refl, sym, ap, subst, ◌∙◌}
use Rattle.std.specs.Option.{option_map}
use Rattle.ceal_base.specs.Block.{Block}
use Rattle.ceal_base.specs.Operators.{same_block}
use Rattle.ceal_base.specs.Trace.{Trace, Nothing, Stepped, Allocated, Wrote, WasRead, flat}
use Rattle.ceal_base.specs.declared.forest.Item.{Item}
use Rattle.ceal_base.specs.declared.forest.Item.TheVariants as item
use Rattle.ceal_base.specs.declared.typed.StructInfo.{StructInfo}
use Rattle.ceal_base.specs.declared.word.BlockId.{BlockId}
use Rattle.ceal_base.specs.declared.word.BlockId.TheVariants.{Input, Core}
use Rattle.ceal_base.specs.declared.word.Place.{Place}
use Rattle.ceal_base.specs.declared.word.Word.{Word}
use Rattle.ceal_code.proofs.Words.SameIsEqual.{block-same, block-refl}
use Rattle.ceal_code.specs.Init.{made}
use Rattle.ceal_code.specs.Program.{Code}
use Rattle.ceal_code.specs.Replay.{In, here, there, KnownBlock, input_plain, learnt, plain_after, plain_of}
use Rattle.ceal_code.specs.Value.{Plain}
use Rattle.ceal_heap.specs.Heap.{Contents, Known, Standing, Unused, Live, Revoked, Released, IsLive, ReleasesRevoked, known, plain_block, released, standing, plain_of as heap_words}
use Rattle.ceal_repair.proofs.Nodes.NodeItems.{allocs-append}
use Rattle.ceal_repair.specs.Blocks.{There, HasBlocks}
use Rattle.ceal_repair.specs.Words.{words_of, default_by_standing}
use Rattle.ceal_repair.specs.declared.tables.Tables.{Tables}
use Rattle.ceal_repair.specs.Kept.{Records}
use Rattle.ceal_theory.specs.Known.{KnownItems}
use Rattle.ceal_theory.specs.KnownContent.{allocs}
use Rattle.ceal_theory.specs.Cover.{known_after}
use Rattle.ceal_theory.specs.Slices.{with_inputs}
use Rattle.ceal_trace.specs.Items.{ticks, item_of, forest_of}
use Rattle.ceal_trace.specs.Nodes.{Entry, entry_at, held_by, node_at}
use Rattle.ceal_trace.specs.declared.node.Node.{Node}
use Rattle.ceal_trace.specs.declared.node.Node.TheVariants.{Root, Alloc, Write, Read, End}

-- ---- the blocks of a trace are those that its items allocate

in-case : (b c : ℕ) (bs : List ℕ) → In b (c ∷ bs) → (b ≡ c) ⊎ In b bs
in-case b c bs here = inl refl
in-case b c bs (there i) = inr i

in-append : (b : ℕ) (bs cs : List ℕ) → In b (bs ++ cs) → In b bs ⊎ In b cs
in-append b [] cs i = inr i
in-append b (x ∷ bs) cs i = elim (in-case b x (bs ++ cs) i) [
  | inl e ↦ inl (subst (λ d. In b (d ∷ bs)) e here)
  | inr j ↦ elim (in-append b bs cs j) [
    | inl k ↦ inl (there k)
    | inr k ↦ inr k
  ]
]

in-front : (b : ℕ) (bs cs : List ℕ) → In b bs → In b (bs ++ cs)
in-front b [] cs i = elim i [ ]
in-front b (x ∷ bs) cs here = here
in-front b (x ∷ bs) cs (there i) = there (in-front b bs cs i)

in-back : (b : ℕ) (bs cs : List ℕ) → In b cs → In b (bs ++ cs)
in-back b [] cs i = i
in-back b (x ∷ bs) cs i = there (in-back b bs cs i)

abbrev Has : Plain → ℕ → Type 0
Has x b = (y : Block) × (x (Core b) ≡ Some y)

module _ (code : Code) where
  learns : (x : Plain) (c : BlockId) (block : Block) (b : ℕ) → Has x b → Has (learnt x c block) b
  unfolding learnt
  learns x c block b s = go (same_block (Core b) c)
    where
      go : (t : Bool) → (y : Block) × ((if t then Some block else x (Core b)) ≡ Some y)
      go true = (block, refl)
      go false = s

  -- a block whose words are there keeps some
  plain-stays : (l : Trace) (x : Plain) (b : ℕ) → Has x b → Has (plain_after code x l) b
  plain-stays Nothing x b s = s
  plain-stays (Stepped rest) x b s = plain-stays rest x b s
  plain-stays (Allocated c key rest) x b s = plain-stays rest (learnt x c (made code x key)) b (learns x c (made code x key) b s)
  plain-stays (Wrote p value rest) x b s = plain-stays rest x b s
  plain-stays (WasRead p value u v args inside rest) x b s = plain-stays rest (plain_after code x inside) b (plain-stays inside x b s)

  learnt-here : (x : Plain) (b : ℕ) (block : Block) → Has (learnt x (Core b) block) b
  unfolding learnt
  learnt-here x b block = (block, rw (block-refl (Core b)) refl)

  learnt-away : (x : Plain) (c : BlockId) (block : Block) (b : ℕ) → ¬ (Core b ≡ c) → x (Core b) ≡ None → learnt x c block (Core b) ≡ None
  unfolding learnt
  learnt-away x c block b away e = go (same_block (Core b) c) refl
    where
      go : (t : Bool) → same_block (Core b) c ≡ t → (if t then Some block else x (Core b)) ≡ None
      go true k = absurd (away (block-same (Core b) c k))
      go false k = e

  -- one that is allocated has words
  plain-in : (l : Trace) (x : Plain) (b : ℕ) → In b (allocs (flat l)) → Has (plain_after code x l) b
  plain-in Nothing x b i = absurd (elim i [ ])
  plain-in (Stepped rest) x b i = plain-in rest x b i
  plain-in (Allocated (Core c) key rest) x b i = elim (in-case b c (allocs (flat rest)) i) [
    | inl e ↦ plain-stays rest (learnt x (Core c) (made code x key)) b (subst (λ d. Has (learnt x (Core d) (made code x key)) b) e (learnt-here x b (made code x key)))
    | inr j ↦ plain-in rest (learnt x (Core c) (made code x key)) b j
  ]
  plain-in (Allocated (Input c) key rest) x b i = plain-in rest (learnt x (Input c) (made code x key)) b i
  plain-in (Wrote p value rest) x b i = plain-in rest x b i
  plain-in (WasRead p value u v args inside rest) x b i =
      elim (in-append b (allocs (flat inside)) (allocs (flat rest)) (subst (λ bs. In b bs) (allocs-append (flat inside) (item.End ∷ flat rest)) i)) [
        | inl j ↦ plain-stays rest (plain_after code x inside) b (plain-in inside x b j)
        | inr j ↦ plain-in rest (plain_after code x inside) b j
      ]

  -- another one has none
  plain-out : (l : Trace) (x : Plain) (b : ℕ) → ¬ In b (allocs (flat l)) → x (Core b) ≡ None → plain_after code x l (Core b) ≡ None
  plain-out Nothing x b out e = e
  plain-out (Stepped rest) x b out e = plain-out rest x b out e
  plain-out (Allocated (Core c) key rest) x b out e =
      plain-out rest (learnt x (Core c) (made code x key)) b (λ i. out (there i))
      (learnt-away x (Core c) (made code x key) b (λ k. let same : b ≡ c = cc in out (subst (λ d. In b (d ∷ allocs (flat rest))) same here)) e)
  plain-out (Allocated (Input c) key rest) x b out e = plain-out rest (learnt x (Input c) (made code x key)) b out (learnt-away x (Input c) (made code x key) b (λ k. let clash = k in cc) e)
  plain-out (Wrote p value rest) x b out e = plain-out rest x b out e
  plain-out (WasRead p value u v args inside rest) x b out e =
      let all : ¬ In b (allocs (flat inside) ++ allocs (flat rest)) = λ i. out (subst (λ bs. In b bs) (sym (allocs-append (flat inside) (item.End ∷ flat rest))) i) in
      plain-out rest (plain_after code x inside) b (λ i. all (in-back b (allocs (flat inside)) (allocs (flat rest)) i))
      (plain-out inside x b (λ i. all (in-front b (allocs (flat inside)) (allocs (flat rest)) i)) e)

-- ---- the place of a read is that of an input, or of a block that the items allocate

abbrev Among : ℕ → List ℕ → List ℕ → BlockId → Type 0
Among n bs cs (Input i) = i < n
Among n bs cs (Core b) = In b bs ⊎ In b cs

among-known : (n : ℕ) (bs cs : List ℕ) (b : BlockId) → KnownBlock n bs b → Among n bs cs b
among-known n bs cs (Input i) k = k
among-known n bs cs (Core b) k = inl k

among-one : (n c : ℕ) (bs cs : List ℕ) (b : BlockId) → Among n (c ∷ bs) cs b → Among n bs (c ∷ cs) b
among-one n c bs cs (Input i) k = k
among-one n c bs cs (Core b) (inl i) = elim (in-case b c bs i) [
  | inl e ↦ inr (subst (λ d. In b (d ∷ cs)) e here)
  | inr j ↦ inl j
]
among-one n c bs cs (Core b) (inr i) = inr (there i)

skip-ticks : (k : ℕ) {n : ℕ} {bs cs : List ℕ} {is : List Item} → KnownItems n bs (ticks k ++ is) cs → KnownItems n bs is cs
skip-ticks zero h = h
skip-ticks (suc k) (KnownItems.step h) = skip-ticks k h

allocs-ticks : (k : ℕ) (is : List Item) → allocs (ticks k ++ is) ≡ allocs is
allocs-ticks zero is = refl
allocs-ticks (suc k) is = allocs-ticks k is

module _ (n : ℕ) (p : Place) (v : Word) where
  -- what is said of the place after a node
  abbrev Later : List ℕ → List Item → Type 0
  Later cs is = (ds : List ℕ) → KnownItems n ds is cs → Among n ds (allocs is) p.block

  known-node : (node : Node) (is : List Item) (bs cs : List ℕ) → KnownItems n bs (item_of node ++ is) cs → Records p v (Some node) ⊎ Later cs is → Among n bs (allocs (item_of node ++ is)) p.block
  known-node Root is bs cs k (inl r) = absurd (let clash = r.is in cc)
  known-node Root is bs cs k (inr h) = h bs k
  known-node (Alloc (Core b) key) is bs cs k (inl r) = absurd (let clash = r.is in cc)
  known-node (Alloc (Core b) key) is bs cs (KnownItems.alloc a k) (inr h) = among-one n b bs (allocs is) p.block (h (b ∷ bs) k)
  known-node (Alloc (Input i) key) is bs cs k h = absurd (elim k [ ])
  known-node (Write q w) is bs cs k (inl r) = absurd (let clash = r.is in cc)
  known-node (Write q w) is bs cs (KnownItems.write a b k) (inr h) = h bs k
  known-node (Read q w u x args) is bs cs (KnownItems.read a b c k) (inl r) = let clash = r.is in let same : q ≡ p =
      cc in subst (λ (o : Place). Among n bs (allocs is) o.block) same (among-known n bs (allocs is) q.block a)
  known-node (Read q w u x args) is bs cs (KnownItems.read a b c k) (inr h) = h bs k
  known-node (End r) is bs cs k (inl d) = absurd (let clash = d.is in cc)
  known-node (End r) is bs cs (KnownItems.close k) (inr h) = h bs k

  read-or-later : (s : ℕ) (e : Entry) (es : List Entry) (cs : List ℕ) → Records p v (node_at s (e ∷ es)) → (Records p v (node_at s es) → Later cs (forest_of es))
      → Records p v (Some e.node) ⊎ Later cs (ticks e.steps ++ forest_of es)
  read-or-later s e es cs r later = go (e.stamp == s) r
    where
      go : (b : Bool) → Records p v (held_by (if b then Some e else entry_at s es)) → Records p v (Some e.node) ⊎ Later cs (ticks e.steps ++ forest_of es)
      go true q = inl q
      go false q = inr (λ ds k. subst (λ l. Among n ds l p.block) (sym (allocs-ticks e.steps (forest_of es))) (later q ds (skip-ticks e.steps k)))

  known-read : (s : ℕ) (es : List Entry) (cs : List ℕ) → Records p v (node_at s es) → Later cs (forest_of es)
  known-read s [] cs r = absurd (let clash = r.is in cc)
  known-read s (e ∷ es) cs r = λ ds k. known-node e.node (ticks e.steps ++ forest_of es) ds cs k (read-or-later s e es cs r (λ q. known-read s es cs q))

-- ---- the revoked blocks are taken away

released-live : (st : Standing) (block : Known) → released st ≡ Live block → st ≡ Live block
released-live Unused block e = absurd cc
released-live (Live b) block e = e
released-live (Revoked b) block e = absurd cc
released-live (Released shape) block e = absurd cc

released-kept : (st : Standing) (block : Known) → st ≡ Live block → released st ≡ Live block
released-kept st block e = rw e refl

released-none : (st : Standing) (block : Known) → ¬ (released st ≡ Revoked block)
released-none Unused block e = cc
released-none (Live b) block e = cc
released-none (Revoked b) block e = cc
released-none (Released shape) block e = cc

default-released : (structs : List StructInfo) (st : Standing) (field : ℕ) → default_by_standing structs (released st) field ≡ default_by_standing structs st field
default-released structs Unused field = refl
default-released structs (Live b) field = refl
default-released structs (Revoked b) field = refl
default-released structs (Released shape) field = refl

-- A run whose nodes have the items of a trace of these inputs; the revoked blocks of its heap are taken away.
module _ (code : Code) (inputs : List Block) (l : Trace) (t : Tables) (heap after : Contents) (has : HasBlocks code inputs heap t) (items : forest_of t.trace.nodes ≡ flat l)
    (rel : ReleasesRevoked heap after) where
  lives-in : (b : ℕ) → IsLive heap (Core b) → In b (allocs (flat l))
  lives-in b i = subst (λ is. In b (allocs is)) items ((has.lives.live b).0 i)

  in-lives : (b : ℕ) → In b (allocs (flat l)) → IsLive heap (Core b)
  in-lives b i = (has.lives.live b).1 (subst (λ is. In b (allocs is)) (sym items) i)

  -- the blocks of the trace have the words that are known
  module _ (words : (b : BlockId) (block : Block) → plain_of code inputs l b ≡ Some block → words_of code inputs heap b ≡ Some block) where
    heap-word : (b : ℕ) → words_of code inputs heap (Core b) ≡ option_map plain_block (known (standing heap (Core b)))
    unfolding words_of with_inputs
    heap-word b = refl

    no-words : (b : ℕ) → ((block : Known) → ¬ (standing heap (Core b) ≡ Live block)) → plain_of code inputs l (Core b) ≡ None
    unfolding plain_of input_plain
    no-words b dead = plain-out code l (input_plain code inputs) b (λ i. let k = in-lives b i in dead k.0 k.1) refl

    some-words : (b : ℕ) (block : Known) → standing heap (Core b) ≡ Live block → plain_of code inputs l (Core b) ≡ Some (plain_block block)
    unfolding plain_of
    some-words b block e =
        let y = plain-in code l (input_plain code inputs) b (lives-in b (block, e)) in
        y.1 ∙ (sym (words (Core b) y.0 y.1) ∙ (heap-word b ∙ rw e refl))

    pub words-released : (b : ℕ) → heap_words after (Core b) ≡ plain_of code inputs l (Core b)
    words-released b = ap (λ s. option_map plain_block (known s)) (rel (Core b)) ∙ go (standing heap (Core b)) refl
      where
        go : (s : Standing) → standing heap (Core b) ≡ s → option_map plain_block (known (released s)) ≡ plain_of code inputs l (Core b)
        go Unused e = sym (no-words b (λ block k. let clash = sym e ∙ k in cc))
        go (Live block) e = sym (some-words b block e)
        go (Revoked block) e = sym (no-words b (λ other k. let clash = sym e ∙ k in cc))
        go (Released shape) e = sym (no-words b (λ block k. let clash = sym e ∙ k in cc))

  pub none-revoked : (b : BlockId) (block : Known) → ¬ (standing after b ≡ Revoked block)
  none-revoked b block e = released-none (standing heap b) block (sym (rel b) ∙ e)

  live-now : (b : ℕ) → IsLive heap (Core b) → IsLive after (Core b)
  live-now b i = (i.0, rel (Core b) ∙ released-kept (standing heap (Core b)) i.0 i.1)

  was-live : (b : ℕ) → IsLive after (Core b) → IsLive heap (Core b)
  was-live b i = (i.0, released-live (standing heap (Core b)) i.0 (sym (rel (Core b)) ∙ i.1))

  -- the items mention blocks that they allocate before
  pub blocks-released : KnownItems (length inputs) [] (flat l) (known_after [] (flat l)) → HasBlocks code inputs after t
  blocks-released mentions = record {
    bases = record {
      of_cores = λ b field. has.bases.of_cores b field ∙ (sym (default-released code.structs (standing heap (Core b)) field) ∙ ap (λ s. default_by_standing code.structs s field) (sym (rel (Core b))));
      of_inputs = has.bases.of_inputs;
    };
    lives = record {
      live = λ b. (λ i. (has.lives.live b).0 (was-live b i), λ i. live-now b ((has.lives.live b).1 i));
      once = has.lives.once;
      cores = has.lives.cores;
    };
    reads = λ s p w r. there-now p.block
        (known-read (length inputs) p w s t.trace.nodes (known_after [] (flat l)) r [] (subst (λ is. KnownItems (length inputs) [] is (known_after [] (flat l))) (sym items) mentions));
  }
    where
      there-now : (b : BlockId) → Among (length inputs) [] (allocs (forest_of t.trace.nodes)) b → There (length inputs) after b
      there-now (Input i) a = a
      there-now (Core b) (inl i) = absurd (elim i [ ])
      there-now (Core b) (inr i) = let k = live-now b ((has.lives.live b).1 i) in rw k.1 refl
