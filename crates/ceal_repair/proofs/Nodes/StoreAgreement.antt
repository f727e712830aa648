-- Nodes whose reads have what the lists of writes say agree with the store of the repair that they stand for.
use Rattle.std.proofs.Common.{◌≡◌, ℕ, zero, suc, inl, inr, true, false, Some, List, [], ◌∷◌, ◌++◌, length, append-nil, refl, sym, ap, subst, ◌∙◌}
use Rattle.std.specs.Prelude.{⊤, option_map}
use Rattle.std.proofs.lemmas.Bool.{cases_Bool}
use Rattle.ceal_base.specs.Block.{Block}
use Rattle.ceal_base.specs.Operators.{same_word}
use Rattle.ceal_base.specs.Trace.{flat}
use Rattle.ceal_base.specs.declared.forest.Item.{Item}
use Rattle.ceal_base.specs.declared.forest.Item.TheVariants as item
use Rattle.ceal_base.specs.declared.forest.UnitId.{UnitId}
use Rattle.ceal_base.specs.declared.word.BlockId.{BlockId}
use Rattle.ceal_base.specs.declared.word.BlockId.TheVariants.{Input, Core}
use Rattle.ceal_base.specs.declared.word.Place.{Place}
use Rattle.ceal_base.specs.declared.word.Word.{Word}
use Rattle.ceal_code.proofs.Words.SameIsEqual.{word-same, word-refl}
use Rattle.ceal_code.specs.Fitting.{Fits}
use Rattle.ceal_code.specs.Program.{Code}
use Rattle.ceal_code.specs.Replay.{Store, In, KnownBlock}
use Rattle.ceal_heap.specs.Heap.{IsLive, known, plain_block}
use Rattle.ceal_order.specs.Stamps.{Distinct}
use Rattle.ceal_repair.proofs.QueueCover.NodeChanges.{before-node}
use Rattle.ceal_repair.proofs.Nodes.NodeItems.{behind-all, contents-append, known-allocs, allocs-append}
use Rattle.ceal_repair.proofs.Runs.NewBlock.{contents-written}
use Rattle.ceal_repair.specs.Covered.{content_after, contents_after}
use Rattle.ceal_repair.specs.Kept.{IsHonestRecord, base_in, contents_at}
use Rattle.ceal_repair.specs.Lists.{before}
use Rattle.ceal_repair.specs.Turning.{StandsFor}
use Rattle.ceal_repair.specs.Words.{default_by_standing}
use Rattle.ceal_repair.specs.declared.running.Running.{Running}
use Rattle.ceal_repair.specs.declared.tables.Tables.{Tables}
use Rattle.ceal_theory.specs.Cover.{known_after}
use Rattle.ceal_theory.specs.KnownContent.{allocs, written_after}
use Rattle.ceal_theory.specs.Listed.{Listed, ListedLaw}
use Rattle.ceal_theory.specs.SliceLaws.{KnownThere, ReadyLaw}
use Rattle.ceal_theory.specs.Slices.{Repair, starting}
use Rattle.ceal_theory.specs.Walk.{store_item, store_after, AgreesAll}
use Rattle.ceal_trace.proofs.Parts.{not_before, entry-part, forest-append}
use Rattle.ceal_trace.proofs.Stamped.{in_head, in_tail}
use Rattle.ceal_trace.specs.Items.{ticks, item_of, forest_of}
use Rattle.ceal_trace.specs.Nodes.{Entry, stamps_in, has_node, node_at, held_by}
use Rattle.ceal_trace.specs.declared.node.Node.{Node}
use Rattle.ceal_trace.specs.declared.node.Node.TheVariants.{Root, Alloc, Write, Read, End}

-- a read has what its place holds
abbrev pub HasContent : Store → Node → Type 0
HasContent s (Read p v u x args) = v ≡ s p
HasContent s Root = ⊤
HasContent s (Alloc b key) = ⊤
HasContent s (Write p v) = ⊤
HasContent s (End r) = ⊤

-- each read among the nodes has the content of its moment, where contents are these at first
abbrev pub HasContents : Store → List Entry → Type 0
HasContents s [] = ⊤
HasContents s (e ∷ es) = HasContent s e.node × HasContents (content_after s e.node) es

pub contents-front : (s : Store) (es fs : List Entry) → HasContents s (es ++ fs) → HasContents s es
contents-front s [] fs h = tt
contents-front s (e ∷ es) fs h = (h.0, contents-front (content_after s e.node) es fs h.1)

-- ---- honest reads

-- the moment of a node is after those before it
pub moment-part : (t : Tables) (front : List Entry) (e : Entry) (back : List Entry) → t.trace.nodes ≡ front ++ e ∷ back → Distinct (stamps_in t.trace.nodes) → (p : Place)
    → contents_at e.stamp t p ≡ contents_after (base_in t.mods) front p
moment-part t front e back h d p =
    ap (λ es. contents_after (base_in t.mods) es p) (ap (before e.stamp) h ∙ before-node e back front (not_before front e back (subst (λ es. Distinct (stamps_in es)) h d)))

module _ (t : Tables) (d : Distinct (stamps_in t.trace.nodes)) where
  honest-node : (done : List Entry) (e : Entry) (back : List Entry) → t.trace.nodes ≡ done ++ e ∷ back → IsHonestRecord e.stamp t → (node : Node) → e.node ≡ node
      → HasContent (contents_after (base_in t.mods) done) node
  honest-node done e back h k Root is = tt
  honest-node done e back h k (Alloc b key) is = tt
  honest-node done e back h k (Write p v) is = tt
  honest-node done e back h k (Read p v u x args) is =
      k p v (record {
        unit = u;
        var = x;
        args = args;
        is = ap (node_at e.stamp) h ∙ (ap held_by (entry-part e back done (not_before done e back (subst (λ es. Distinct (stamps_in es)) h d))) ∙ ap (λ n. Some n) is);
      })
      ∙ moment-part t done e back h d p
  honest-node done e back h k (End r) is = tt

  -- the second list of nodes
  honest-after : (done todo back : List Entry) → t.trace.nodes ≡ done ++ (todo ++ back) → ((r : ℕ) → has_node r todo ≡ true → IsHonestRecord r t)
      → HasContents (contents_after (base_in t.mods) done) todo
  honest-after done [] back h k = tt
  honest-after done (e ∷ es) back h k = (
    honest-node done e (es ++ back) h (k e.stamp (in_head e.stamp (stamps_in es))) e.node refl,
    subst (λ s. HasContents s es) (contents-append (base_in t.mods) done (e ∷ []))
        (honest-after (done ++ e ∷ []) es back (h ∙ sym (behind-all done e (es ++ back))) (λ r i. k r (in_tail r e.stamp (stamps_in es) i))),
  )

  -- honest reads in front have what the lists of writes say
  pub honest-front : (front back : List Entry) → t.trace.nodes ≡ front ++ back → ((r : ℕ) → has_node r front ≡ true → IsHonestRecord r t) → HasContents (base_in t.mods) front
  honest-front front back h k = honest-after [] front back h k

-- ---- items that agree

agrees-ticks : (code : Code) (s : Store) (n : ℕ) → AgreesAll code s (ticks n)
agrees-ticks code s zero = tt
agrees-ticks code s (suc n) = (tt, agrees-ticks code s n)

pub agrees-both : (code : Code) (s : Store) (is js : List Item) → AgreesAll code s is → AgreesAll code (store_after code s is) js → AgreesAll code s (is ++ js)
agrees-both code s [] js h k = k
agrees-both code s (i ∷ is) js h k = (h.0, agrees-both code (store_item code s i) is js h.1 k)

in-more : (b : ℕ) (bs cs : List ℕ) → In b bs → In b (bs ++ cs)
in-more b bs cs In.here = In.here
in-more b bs cs (In.there i) = In.there (in-more b _ cs i)

module _ (code : Code) (inputs : List Block) (f : ℕ) (args : List Word) (r : Repair) (run : Running) (fits : Fits code inputs f args) (listed : ListedLaw) (ready : ReadyLaw)
    (stands : StandsFor code inputs f args r run) where
  abbrev pub first-store : Store
  first-store = starting code inputs r.known

  abbrev pub bases : Store
  bases = base_in run.tables.mods

  -- the items of nodes in front, and of those after
  pub items-parted : (front back : List Entry) → run.tables.trace.nodes ≡ front ++ back → flat r.items ≡ forest_of front ++ forest_of back
  items-parted front back h = sym stands.items ∙ (ap forest_of h ∙ forest-append front back)

  -- a block that nodes allocate is known with its shape, which determines its bases
  live-base : (b field : ℕ) → IsLive run.heap (Core b) → first-store (record { block = Core b; field = field }) ≡ bases (record { block = Core b; field = field })
  unfolding starting
  live-base b field l =
      let own : r.known (Core b) ≡ Some (plain_block l.0) = stands.known b ∙ ap (λ s. option_map plain_block (known s)) l.1 in
      rw own (sym (stands.blocks.bases.of_cores b field ∙ ap (λ s. default_by_standing code.structs s field) l.1))

  input-base : (i field : ℕ) → KnownBlock (length inputs) [] (Input i) → first-store (record { block = Input i; field = field }) ≡ bases (record { block = Input i; field = field })
  unfolding starting
  input-base i field l = sym (stands.blocks.bases.of_inputs i field)

  -- at known places the repair begins with what the places hold before any write
  pub known-base : (front back : List Entry) → run.tables.trace.nodes ≡ front ++ back → (p : Place) → KnownBlock (length inputs) (known_after [] (forest_of front)) p.block → first-store p ≡ bases p
  known-base front back h p k = go p.block k
    where
      go : (b : BlockId) → KnownBlock (length inputs) (known_after [] (forest_of front)) b → first-store (record { block = b; field = p.field }) ≡ bases (record { block = b; field = p.field })
      go (Input i) l = input-base i p.field l
      go (Core b) i =
          let there : In b (allocs (forest_of run.tables.trace.nodes)) =
          subst (In b) (sym (ap allocs (ap forest_of h ∙ forest-append front back) ∙ allocs-append (forest_of front) (forest_of back)))
          (in-more b (allocs (forest_of front)) (allocs (forest_of back)) (known-allocs (forest_of front) b i)) in
          live-base b p.field ((stands.blocks.lives.live b).1 there)

  -- after items that agree the store is at known places what the lists of writes say
  pub store-listed : (front back : List Entry) → run.tables.trace.nodes ≡ front ++ back → AgreesAll code first-store (forest_of front) → (p : Place)
      → KnownBlock (length inputs) (known_after [] (forest_of front)) p.block → store_after code first-store (forest_of front) p ≡ contents_after bases front p
  store-listed front back h a p k =
      let l : Listed code inputs r (forest_of front) = listed code stands.names inputs f args fits r stands.sound (forest_of front) (forest_of back) (items-parted front back h) a in
      l.last p k ∙ (ap (λ w. written_after p w (forest_of front)) (known-base front back h p k) ∙ sym (contents-written bases p front))

  -- a read that would not agree is known to be one of a known place
  pub stale-known : (front : List Entry) (e : Entry) (back : List Entry) → run.tables.trace.nodes ≡ front ++ e ∷ back → AgreesAll code first-store (forest_of front)
      → (p : Place) (v : Word) (u : UnitId) (x : ℕ) (ws : List Word) → e.node ≡ Read p v u x ws → ¬ (store_after code first-store (forest_of front) p ≡ v)
      → KnownThere code inputs r (forest_of front) p v u x ws (ticks e.steps ++ forest_of back)
  stale-known front e back h a p v u x ws is stale =
      ready code stands.names inputs f args fits r stands.sound (forest_of front) p v u x ws (ticks e.steps ++ forest_of back)
      (items-parted front (e ∷ back) h ∙ ap (λ n. forest_of front ++ (item_of n ++ (ticks e.steps ++ forest_of back))) is) a stale

  agrees-node : (done : List Entry) (e : Entry) (back : List Entry) → run.tables.trace.nodes ≡ done ++ e ∷ back → AgreesAll code first-store (forest_of done) → (node : Node) → e.node ≡ node
      → HasContent (contents_after bases done) node → AgreesAll code (store_after code first-store (forest_of done)) (item_of node ++ ticks e.steps)
  agrees-node done e back h a Root is c = agrees-ticks code (store_after code first-store (forest_of done)) e.steps
  agrees-node done e back h a (Alloc b key) is c = (tt, agrees-ticks code (store_item code (store_after code first-store (forest_of done)) (item.Alloc b key)) e.steps)
  agrees-node done e back h a (Write p v) is c = (tt, agrees-ticks code (store_item code (store_after code first-store (forest_of done)) (item.Write p v)) e.steps)
  agrees-node done e back h a (Read p v u x ws) is c = (
    elim (cases_Bool (same_word (store_after code first-store (forest_of done) p) v)) [
      | inl same ↦ word-same (store_after code first-store (forest_of done) p) v same
      | inr other ↦
          let stale : ¬ (store_after code first-store (forest_of done) p ≡ v) = λ same. (let no : true ≡ false = sym (word-refl v) ∙ (ap (λ w. same_word w v) (sym same) ∙ other) in cc) in
          store-listed done (e ∷ back) h a p (stale-known done e back h a p v u x ws is stale).place ∙ sym c
    ],
    agrees-ticks code (store_after code first-store (forest_of done)) e.steps,
  )
  agrees-node done e back h a (End z) is c = (tt, agrees-ticks code (store_after code first-store (forest_of done)) e.steps)

  forest-more : (done : List Entry) (e : Entry) → forest_of (done ++ e ∷ []) ≡ forest_of done ++ (item_of e.node ++ ticks e.steps)
  forest-more done e = forest-append done (e ∷ []) ∙ ap (λ is. forest_of done ++ (item_of e.node ++ is)) (append-nil (ticks e.steps))

  agrees-after : (done todo back : List Entry) → run.tables.trace.nodes ≡ done ++ (todo ++ back) → AgreesAll code first-store (forest_of done) → HasContents (contents_after bases done) todo
      → AgreesAll code first-store (forest_of (done ++ todo))
  agrees-after done [] back h a c = subst (λ es. AgreesAll code first-store (forest_of es)) (sym (append-nil done)) a
  agrees-after done (e ∷ es) back h a c =
      subst (λ fs. AgreesAll code first-store (forest_of fs)) (behind-all done e es)
      (agrees-after (done ++ e ∷ []) es back (h ∙ sym (behind-all done e (es ++ back)))
      (subst (AgreesAll code first-store) (sym (forest-more done e))
      (agrees-both code first-store (forest_of done) (item_of e.node ++ ticks e.steps) a (agrees-node done e (es ++ back) h a e.node refl c.0)))
      (subst (λ s. HasContents s es) (sym (contents-append bases done (e ∷ []))) c.1))

  -- nodes in front whose reads have what the lists of writes say agree with the store of the repair; the front may be
  -- all nodes
  pub agrees-front : (front back : List Entry) → run.tables.trace.nodes ≡ front ++ back → HasContents bases front → AgreesAll code first-store (forest_of front)
  agrees-front front back h c = agrees-after [] front back h tt c
