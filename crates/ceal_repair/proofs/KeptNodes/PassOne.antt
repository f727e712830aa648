-- Kept nodes are passed: the machine goes through them one by one.
use Rattle.std.proofs.Common.{◌≡◌, ◌≤◌, ◌+◌, ℕ, zero, suc, inl, inr, true, false, Some, List, [], ◌∷◌, ◌++◌, length, refl, sym, ap, subst, ◌∙◌, arith, append_assoc, append-nil}
use Rattle.std.proofs.lemmas.Bool.Decides.{eqb_tells}
use Rattle.ceal_base.specs.Block.{Block}
use Rattle.ceal_base.specs.Operators.{same_word}
use Rattle.ceal_base.specs.Trace.{Trace, Allocated}
use Rattle.ceal_base.specs.declared.forest.Item.{Item}
use Rattle.ceal_base.specs.declared.forest.Item.TheVariants as item
use Rattle.ceal_base.specs.declared.forest.Key.{Key}
use Rattle.ceal_base.specs.declared.forest.UnitId.{UnitId}
use Rattle.ceal_base.specs.declared.word.BlockId.{BlockId}
use Rattle.ceal_base.specs.declared.word.BlockId.TheVariants.{Input, Core}
use Rattle.ceal_base.specs.declared.word.Place.{Place}
use Rattle.ceal_base.specs.declared.word.Word.{Word}
use Rattle.ceal_code.proofs.Replay.MemoryChanges.{made-shape}
use Rattle.ceal_code.proofs.Words.SameIsEqual.{word-refl}
use Rattle.ceal_code.specs.Init.{made}
use Rattle.ceal_code.specs.Program.{Code}
use Rattle.ceal_code.specs.Replay.{Store, In, here, KnownBlock, count, cleared, stored, cell_default}
use Rattle.ceal_code.specs.Value.{Plain, field_kind}
use Rattle.ceal_heap.specs.Heap.{standing}
use Rattle.ceal_order.specs.Stamps as order
use Rattle.ceal_repair.proofs.Nodes.NodeItems.{in-case, behind-all, distinct-front, entries-joined, contents-append, stored-base, opened-put, began-put, closed-last, known-append, known-allocs}
use Rattle.ceal_repair.proofs.Runs.NewBlock.{in-count, cleared-own, cleared-other, differs, contents-written, unwritten}
use Rattle.ceal_repair.proofs.Runs.UnitSteps.{course-turn}
use Rattle.ceal_repair.proofs.Nodes.NodeBlocks.{blocks_at, allocs-nodes}
use Rattle.ceal_repair.proofs.Reuse.AllocReuse.{before-part, blocks-append, default-known, words-core}
use Rattle.ceal_repair.specs.Around.{Inside}
use Rattle.ceal_repair.specs.Blocks.{HasBlocks}
use Rattle.ceal_repair.specs.Covered.{contents_after}
use Rattle.ceal_repair.specs.Entries.{stamp_of_number, entry, end_entry, entries}
use Rattle.ceal_repair.specs.Kept.{Kept, Records, base_in}
use Rattle.ceal_repair.specs.Lists.{before}
use Rattle.ceal_repair.specs.Moment.{View, Start, Began, CourseNow, through, state_at}
use Rattle.ceal_repair.specs.Words.{words_of}
use Rattle.ceal_theory.proofs.Store.KnownBlocks.{knowing-law}
use Rattle.ceal_theory.specs.Course.{Wait, Fixes, fixing_at}
use Rattle.ceal_theory.specs.Cover.{known_after}
use Rattle.ceal_theory.specs.Groves.{Grove, Bare, Made, Put, Got, joined}
use Rattle.ceal_theory.specs.Known.{Sure}
use Rattle.ceal_theory.specs.Repair.{State}
use Rattle.ceal_theory.specs.Moves.{Went, next_move}
use Rattle.ceal_trace.proofs.Parts.{forest-append, not_before, entry-part}
use Rattle.ceal_trace.specs.Items.{ticks, item_of, forest_of, unclosed}
use Rattle.ceal_trace.specs.Nodes.{Entry, stamps_in, has_node, node_at, held_by, is_read}
use Rattle.ceal_trace.specs.declared.node.Node.TheVariants.{Alloc, Write, Read}

-- ---- the nodes one by one

-- these nodes lead from the first waits and open reads to the second ones
pub data Walks (vs : List Wait) (qs : List ℕ) : List Wait → List ℕ → List Entry → Type 0 where
  none : Walks vs qs vs qs []
  alloc : {ws : List Wait} {rs : List ℕ} {es : List Entry} (s : ℕ) (b : BlockId) (key : Key) (n : ℕ) → Walks vs qs ws rs es → Walks vs qs ws rs (entry s (Alloc b key) n ∷ es)
  write : {ws : List Wait} {rs : List ℕ} {es : List Entry} (s : ℕ) (p : Place) (w : Word) (n : ℕ) → Walks vs qs ws rs es → Walks vs qs ws rs (entry s (Write p w) n ∷ es)
  read : {ws : List Wait} {rs : List ℕ} {es : List Entry} (s : ℕ) (p : Place) (w : Word) (u : UnitId) (x : ℕ) (args : List Word) (n : ℕ)
      → Walks vs qs (Fixes ∷ ws) (s ∷ rs) es → Walks vs qs ws rs (entry s (Read p w u x args) n ∷ es)
  close : {ws : List Wait} {rs : List ℕ} {es : List Entry} (e r m : ℕ) → Walks vs qs ws rs es → Walks vs qs (Fixes ∷ ws) (r ∷ rs) (end_entry e r m ∷ es)

-- the same, where each read comes with what is inside it
data Along (vs : List Wait) (qs : List ℕ) : List Wait → List ℕ → List Entry → Type 0 where
  none : Along vs qs vs qs []
  alloc : {ws : List Wait} {rs : List ℕ} {es : List Entry} (s : ℕ) (b : BlockId) (key : Key) (n : ℕ) → Along vs qs ws rs es → Along vs qs ws rs (entry s (Alloc b key) n ∷ es)
  write : {ws : List Wait} {rs : List ℕ} {es : List Entry} (s : ℕ) (p : Place) (w : Word) (n : ℕ) → Along vs qs ws rs es → Along vs qs ws rs (entry s (Write p w) n ∷ es)
  read : {ws : List Wait} {rs : List ℕ} {es later : List Entry} (s : ℕ) (p : Place) (w : Word) (u : UnitId) (x : ℕ) (args : List Word) (n : ℕ)
      → (g : Grove) (e m : ℕ) → es ≡ entries g ++ end_entry e s m ∷ later → Inside vs qs ws rs later
      → Along vs qs (Fixes ∷ ws) (s ∷ rs) es → Along vs qs ws rs (entry s (Read p w u x args) n ∷ es)
  close : {ws : List Wait} {rs : List ℕ} {es : List Entry} (e r m : ℕ) → Along vs qs ws rs es → Along vs qs (Fixes ∷ ws) (r ∷ rs) (end_entry e r m ∷ es)

-- nodes of a grove in front
inside-join : {vs : List Wait} {qs : List ℕ} {ws : List Wait} {rs : List ℕ} {es : List Entry} (g : Grove) → Inside vs qs ws rs es → Inside vs qs ws rs (entries g ++ es)
inside-join {vs} {qs = qs} g (Inside.level h) = subst (λ es. Inside vs qs vs qs es) (entries-joined g h) (Inside.level (joined g h))
inside-join {vs} {qs = qs} g (Inside.deeper {vs = ws} {qs = rs} {es = es} h e r m i) =
    subst (λ fs. Inside vs qs (Fixes ∷ ws) (r ∷ rs) fs) (ap (λ fs. fs ++ end_entry e r m ∷ es) (entries-joined g h) ∙ append_assoc (entries g) (entries h) (end_entry e r m ∷ es))
    (Inside.deeper (joined g h) e r m i)

along-join : {vs : List Wait} {qs : List ℕ} {ws : List Wait} {rs : List ℕ} {es : List Entry} (g : Grove) → Inside vs qs ws rs es → Along vs qs ws rs es → Along vs qs ws rs (entries g ++ es)
along-join Bare i a = a
along-join (Made s b key n rest) i a = Along.alloc s b key n (along-join rest i a)
along-join (Put s p w n rest) i a = Along.write s p w n (along-join rest i a)
along-join {vs} {qs} {ws} {rs} {es} (Got s p w u x args n inside e m rest) i a =
    let after : Inside vs qs ws rs (entries rest ++ es) = inside-join rest i in
    let same : entries inside ++ end_entry e s m ∷ (entries rest ++ es) ≡ (entries inside ++ end_entry e s m ∷ entries rest) ++ es =
    sym (append_assoc (entries inside) (end_entry e s m ∷ entries rest) es) in
    Along.read s p w u x args n inside e m (sym same) after
    (subst (λ fs. Along vs qs (Fixes ∷ ws) (s ∷ rs) fs) same (along-join inside (Inside.deeper Bare e s m after) (Along.close e s m (along-join rest i a))))

along : {vs : List Wait} {qs : List ℕ} {ws : List Wait} {rs : List ℕ} {es : List Entry} → Inside vs qs ws rs es → Along vs qs ws rs es
along {vs} {qs = qs} (Inside.level g) = subst (λ es. Along vs qs vs qs es) (append-nil (entries g)) (along-join g (Inside.level Bare) Along.none)
along (Inside.deeper g e r m i) = along-join g (Inside.deeper Bare e r m i) (Along.close e r m (along i))

walks-along : {vs : List Wait} {qs : List ℕ} {ws : List Wait} {rs : List ℕ} {es : List Entry} → Along vs qs ws rs es → Walks vs qs ws rs es
walks-along Along.none = Walks.none
walks-along (Along.alloc s b key n a) = Walks.alloc s b key n (walks-along a)
walks-along (Along.write s p w n a) = Walks.write s p w n (walks-along a)
walks-along (Along.read s p w u x args n g e m same i a) = Walks.read s p w u x args n (walks-along a)
walks-along (Along.close e r m a) = Walks.close e r m (walks-along a)

pub walks-all : {vs : List Wait} {qs : List ℕ} {ws : List Wait} {rs : List ℕ} {es : List Entry} → Inside vs qs ws rs es → Walks vs qs ws rs es
walks-all i = walks-along (along i)

-- a read among them: the nodes before it, what is inside it, and the nodes after its end
pub record Reached (s : ℕ) (vs : List Wait) (qs : List ℕ) (ws : List Wait) (rs : List ℕ) (es : List Entry) : Type 0 where
  pub waits : List Wait
  pub reads : List ℕ
  pub front : List Entry
  pub place : Place
  pub value : Word
  pub unit : UnitId
  pub var : ℕ
  pub args : List Word
  pub steps : ℕ
  pub inside : Grove
  pub end : ℕ
  pub end_steps : ℕ
  pub later : List Entry
  pub is : es ≡ front ++ entry s (Read place value unit var args) steps ∷ (entries inside ++ end_entry end s end_steps ∷ later)
  pub walks : Walks waits reads ws rs front
  pub after : Inside vs qs waits reads later

-- with a node in front of it
further : (s : ℕ) {vs : List Wait} {qs : List ℕ} {ws : List Wait} {rs : List ℕ} {ws' : List Wait} {rs' : List ℕ} {es : List Entry} (e : Entry)
    → ((us : List Wait) (ts : List ℕ) (fs : List Entry) → Walks us ts ws rs fs → Walks us ts ws' rs' (e ∷ fs))
    → Reached s vs qs ws rs es → Reached s vs qs ws' rs' (e ∷ es)
further s e f r = record {
  waits = r.waits;
  reads = r.reads;
  front = e ∷ r.front;
  place = r.place;
  value = r.value;
  unit = r.unit;
  var = r.var;
  args = r.args;
  steps = r.steps;
  inside = r.inside;
  end = r.end;
  end_steps = r.end_steps;
  later = r.later;
  is = ap (λ es. e ∷ es) r.is;
  walks = f r.waits r.reads r.front r.walks;
  after = r.after;
}

reach : (s : ℕ) {vs : List Wait} {qs : List ℕ} {ws : List Wait} {rs : List ℕ} {es : List Entry} → Along vs qs ws rs es → is_read (node_at s es) ≡ true → Reached s vs qs ws rs es
reach s Along.none h = absurd (cc)
reach s (Along.alloc t b key n a) h = elim (eqb_tells t s) [
  | inl q ↦ absurd (let bad : false ≡ true = rw q.0 at h in cc)
  | inr q ↦ further s (entry t (Alloc b key) n) (λ us ts fs k. Walks.alloc t b key n k) (reach s a (rw q.0 at h))
]
reach s (Along.write t p w n a) h = elim (eqb_tells t s) [
  | inl q ↦ absurd (let bad : false ≡ true = rw q.0 at h in cc)
  | inr q ↦ further s (entry t (Write p w) n) (λ us ts fs k. Walks.write t p w n k) (reach s a (rw q.0 at h))
]
reach s {vs} {qs} {ws} {rs} (Along.read {es = es} {later = later} t p w u x args n g e m same i a) h = elim (eqb_tells t s) [
  | inl q ↦ subst (λ z. Reached z vs qs ws rs (entry t (Read p w u x args) n ∷ es)) q.1 (record {
    waits = ws;
    reads = rs;
    front = [];
    place = p;
    value = w;
    unit = u;
    var = x;
    args = args;
    steps = n;
    inside = g;
    end = e;
    end_steps = m;
    later = later;
    is = ap (λ es. entry t (Read p w u x args) n ∷ es) same;
    walks = Walks.none;
    after = i;
  })
  | inr q ↦ further s (entry t (Read p w u x args) n) (λ us ts fs k. Walks.read t p w u x args n k) (reach s a (rw q.0 at h))
]
reach s (Along.close e r m a) h = elim (eqb_tells e s) [
  | inl q ↦ absurd (let bad : false ≡ true = rw q.0 at h in cc)
  | inr q ↦ further s (end_entry e r m) (λ us ts fs k. Walks.close e r m k) (reach s a (rw q.0 at h))
]

pub reached : (s : ℕ) {vs : List Wait} {qs : List ℕ} {ws : List Wait} {rs : List ℕ} {es : List Entry} → Inside vs qs ws rs es → is_read (node_at s es) ≡ true → Reached s vs qs ws rs es
reached s i h = reach s (along i) h

-- ---- the machine goes through them

-- the block of an allocation that is gone through is a core block with the words of its key
pub record SureCore (code : Code) (x : Plain) (b : BlockId) (key : Key) : Type 0 where
  pub core : ℕ
  pub is : b ≡ Core core
  pub held : x (Core core) ≡ Some (made code x key)

sure-core : (code : Code) (n : ℕ) (ds : List ℕ) (x : Plain) (b : BlockId) (key : Key) (rest : Trace) → Sure code n ds x (Allocated b key rest) → SureCore code x b key
sure-core code n ds x (Core c) key rest h = record { core = c; is = refl; held = h.2 }
sure-core code n ds x (Input i) key rest h = absurd h

module _ (code : Code) (inputs : List Block) (start : Start) (v : View) (has : HasBlocks code inputs v.heap v.tables) where
  -- the moment where these waits follow, and these items come next
  abbrev pub At : List Entry → List Item → List Wait → List Item → Type 0
  At front items ws is = CourseNow code inputs start v front items (λ s. fixing_at s ws is)

  pub pass-ticks : (front : List Entry) (ws : List Wait) (is : List Item) (n : ℕ) (items : List Item) → At front items ws (ticks n ++ is) → At front (items ++ ticks n) ws is
  unfolding next_move
  pass-ticks front ws is zero items c = subst (λ js. At front js ws is) (sym (append-nil items)) c
  pass-ticks front ws is (suc n) items c =
      subst (λ js. At front js ws is) (append_assoc items (item.Step ∷ []) (ticks n))
      (pass-ticks front ws is n (items ++ item.Step ∷ [])
      (course-turn code inputs start v front items (λ s. fixing_at s ws (item.Step ∷ (ticks n ++ is))) c v front (items ++ item.Step ∷ []) (λ s. fixing_at s ws (ticks n ++ is))
      (item.Step ∷ []) c.store refl (λ names. refl) refl
      (λ q k. c.same q (subst (λ bs. KnownBlock (length inputs) bs q.block) (known-append [] items (item.Step ∷ [])) k)) c.given))

  -- the items of all in front
  pub items-whole : (done : List Entry) (last : Entry) → (forest_of done ++ item_of last.node) ++ ticks last.steps ≡ forest_of (through done last)
  items-whole done last = append_assoc (forest_of done) (item_of last.node) (ticks last.steps)
      ∙ (ap (λ is. forest_of done ++ (item_of last.node ++ is)) (sym (append-nil (ticks last.steps))) ∙ sym (forest-append done (last ∷ [])))

  -- the steps on the node at the cursor
  pub pass-steps : (done : List Entry) (last : Entry) (ws : List Wait) (is : List Item) → At (through done last) (forest_of done ++ item_of last.node) ws (ticks last.steps ++ is)
      → At (through done last) (forest_of (through done last)) ws is
  pass-steps done last ws is c = subst (λ js. At (through done last) js ws is) (items-whole done last) (pass-ticks (through done last) ws is last.steps (forest_of done ++ item_of last.node) c)

  module _ (front : List Entry) (ws : List Wait) where
    pass-write : (s : ℕ) (p : Place) (w : Word) (n : ℕ) (is : List Item) → At front (forest_of front) ws (item.Write p w ∷ is)
        → At (front ++ entry s (Write p w) n ∷ []) (forest_of front ++ item.Write p w ∷ []) ws is
    unfolding next_move
    pass-write s p w n is c =
        course-turn code inputs start v front (forest_of front) (λ s. fixing_at s ws (item.Write p w ∷ is)) c v (front ++ entry s (Write p w) n ∷ []) (forest_of front ++ item.Write p w ∷ [])
        (λ s. fixing_at s ws is) (item.Write p w ∷ []) (stored c.store p w) refl (λ names. refl) refl
        (λ q k. stored-base c.store (contents_after (base_in v.tables.mods) front) q
        (c.same q (subst (λ bs. KnownBlock (length inputs) bs q.block) (known-append [] (forest_of front) (item.Write p w ∷ [])) k)) p w
        ∙ sym (ap (λ (f : Store). f q) (contents-append (base_in v.tables.mods) front (entry s (Write p w) n ∷ []))))
        c.given

    pass-end : (e r m : ℕ) (is : List Item) → At front (forest_of front) (Fixes ∷ ws) (item.End ∷ is) → At (front ++ end_entry e r m ∷ []) (forest_of front ++ item.End ∷ []) ws is
    unfolding next_move
    pass-end e r m is c =
        course-turn code inputs start v front (forest_of front) (λ s. fixing_at s (Fixes ∷ ws) (item.End ∷ is)) c v (front ++ end_entry e r m ∷ []) (forest_of front ++ item.End ∷ [])
        (λ s. fixing_at s ws is) (item.End ∷ []) c.store refl (λ names. refl) refl
        (λ q k. c.same q (subst (λ bs. KnownBlock (length inputs) bs q.block) (known-append [] (forest_of front) (item.End ∷ [])) k)
        ∙ sym (ap (λ (f : Store). f q) (contents-append (base_in v.tables.mods) front (end_entry e r m ∷ []))))
        c.given

    -- the place of the read that comes next is known
    pub place-known : (p : Place) (w : Word) (u : UnitId) (x : ℕ) (args : List Word) (is : List Item) → (c : At front (forest_of front) ws (item.Read p w u x args ∷ is))
        → KnownBlock (length inputs) (known_after [] (forest_of front)) p.block
    place-known p w u x args is c =
        ((knowing-law code).next_read (length inputs) start.old (known_after [] (forest_of front)) (state_at code inputs v c.store (start.chosen ++ c.made)) [] p w u x args is
        (record { plain = c.knows.plain; old = c.knows.old; store = c.knows.store; mode = c.knows.mode; frames = tt })).0

    kept-turn : (s : State) (p : Place) (w : Word) (u : UnitId) (x : ℕ) (args : List Word) (is : List Item) → same_word (s.store p) w ≡ true → (names : ℕ → ℕ)
        → next_move code names (fixing_at s ws (item.Read p w u x args ∷ is)) ≡ Went (item.Read p (s.store p) u x args ∷ []) (fixing_at s (Fixes ∷ ws) is)
    unfolding next_move
    kept-turn s p w u x args is h names = rw h refl

    pass-read : (s : ℕ) (p : Place) (w : Word) (u : UnitId) (x : ℕ) (args : List Word) (n : ℕ) (is : List Item) → w ≡ contents_after (base_in v.tables.mods) front p
        → At front (forest_of front) ws (item.Read p w u x args ∷ is) → At (front ++ entry s (Read p w u x args) n ∷ []) (forest_of front ++ item.Read p w u x args ∷ []) (Fixes ∷ ws) is
    pass-read s p w u x args n is h c =
        course-turn code inputs start v front (forest_of front) (λ s. fixing_at s ws (item.Read p w u x args ∷ is)) c v (front ++ entry s (Read p w u x args) n ∷ [])
        (forest_of front ++ item.Read p w u x args ∷ []) (λ s. fixing_at s (Fixes ∷ ws) is) (item.Read p w u x args ∷ []) c.store refl
        (λ names. kept-turn (state_at code inputs v c.store (start.chosen ++ c.made)) p w u x args is (ap (λ z. same_word z w) holds ∙ word-refl w) names
        ∙ ap (λ z. Went (item.Read p z u x args ∷ []) (fixing_at (state_at code inputs v c.store (start.chosen ++ c.made)) (Fixes ∷ ws) is)) holds) refl
        (λ q k. c.same q (subst (λ bs. KnownBlock (length inputs) bs q.block) (known-append [] (forest_of front) (item.Read p w u x args ∷ [])) k)
        ∙ sym (ap (λ (f : Store). f q) (contents-append (base_in v.tables.mods) front (entry s (Read p w u x args) n ∷ []))))
        c.given
      where
        holds : c.store p ≡ w
        holds = c.same p (place-known p w u x args is c) ∙ sym h

  -- an allocation of a core block that no node in front allocates
  module _ (front : List Entry) (ws : List Wait) (s b : ℕ) (key : Key) (n : ℕ) (is : List Item) (c : At front (forest_of front) ws (item.Alloc (Core b) key ∷ is))
      (held : words_of code inputs v.heap (Core b) ≡ Some (made code (words_of code inputs v.heap) key)) (fresh : In b (known_after [] (forest_of front)) → ⊥) where
    contents-then : (p : Place) → contents_after (base_in v.tables.mods) (front ++ entry s (Alloc (Core b) key) n ∷ []) p ≡ contents_after (base_in v.tables.mods) front p
    contents-then p = ap (λ (f : Store). f p) (contents-append (base_in v.tables.mods) front (entry s (Alloc (Core b) key) n ∷ []))

    same-other : (p : Place) → (p.block ≡ Core b → ⊥) → KnownBlock (length inputs) (known_after [] (forest_of front)) p.block
        → cleared code c.store (Core b) key p ≡ contents_after (base_in v.tables.mods) (front ++ entry s (Alloc (Core b) key) n ∷ []) p
    same-other p other k = cleared-other code c.store b key p (differs p.block (Core b) other) ∙ (c.same p k ∙ sym (contents-then p))

    same-own : (p : Place) → p.block ≡ Core b → cleared code c.store (Core b) key p ≡ contents_after (base_in v.tables.mods) (front ++ entry s (Alloc (Core b) key) n ∷ []) p
    same-own p e =
        cleared-own code c.store b key p e
        ∙ (sym (ap (λ o. base_in v.tables.mods (record { block = o; field = p.field })) e
        ∙ (has.bases.of_cores b p.field
        ∙ (default-known code.structs (standing v.heap (Core b)) (made code (words_of code inputs v.heap) key) (sym (words-core code inputs v.heap b) ∙ held) p.field
        ∙ ap (λ z. cell_default (field_kind code.structs z p.field)) (made-shape code (words_of code inputs v.heap) key))))
        ∙ (sym (contents-written (base_in v.tables.mods) p front ∙ unwritten c.mentions p b e fresh (base_in v.tables.mods p))
        ∙ sym (contents-then p)))

    same-then : (p : Place) → KnownBlock (length inputs) (b ∷ known_after [] (forest_of front)) p.block
        → cleared code c.store (Core b) key p ≡ contents_after (base_in v.tables.mods) (front ++ entry s (Alloc (Core b) key) n ∷ []) p
    same-then p k = go p.block refl k
      where
        go : (d : BlockId) → p.block ≡ d → KnownBlock (length inputs) (b ∷ known_after [] (forest_of front)) p.block
            → cleared code c.store (Core b) key p ≡ contents_after (base_in v.tables.mods) (front ++ entry s (Alloc (Core b) key) n ∷ []) p
        go (Input i) e j = same-other p (λ f. let no : Input i ≡ Core b = sym e ∙ f in absurd (cc)) (subst (KnownBlock (length inputs) (known_after [] (forest_of front))) (sym e)
            (let k : KnownBlock (length inputs) (b ∷ known_after [] (forest_of front)) (Input i) = subst (KnownBlock (length inputs) (b ∷ known_after [] (forest_of front))) e j in k))
        go (Core d) e j = elim (in-case d b (known_after [] (forest_of front)) (subst (KnownBlock (length inputs) (b ∷ known_after [] (forest_of front))) e j)) [
          | inl q ↦ same-own p (e ∙ ap Core q)
          | inr i ↦ same-other p (λ f. let no : Core d ≡ Core b = sym e ∙ f in fresh (subst (λ z. In z (known_after [] (forest_of front))) (let q : d ≡ b = cc in q) i))
              (subst (KnownBlock (length inputs) (known_after [] (forest_of front))) (sym e) i)
        ]

    pass-core : At (front ++ entry s (Alloc (Core b) key) n ∷ []) (forest_of front ++ item.Alloc (Core b) key ∷ []) ws is
    unfolding next_move
    pass-core =
        course-turn code inputs start v front (forest_of front) (λ s. fixing_at s ws (item.Alloc (Core b) key ∷ is)) c v (front ++ entry s (Alloc (Core b) key) n ∷ [])
        (forest_of front ++ item.Alloc (Core b) key ∷ []) (λ s. fixing_at s ws is) (item.Alloc (Core b) key ∷ []) (cleared code c.store (Core b) key) refl (λ names. refl) refl
        (λ q k. same-then q (subst (λ bs. KnownBlock (length inputs) bs q.block) (known-append [] (forest_of front) (item.Alloc (Core b) key ∷ [])) k))
        c.given

  -- no node allocates a block that one before it does
  fresh-part : (front : List Entry) (s b : ℕ) (key : Key) (n : ℕ) (back : List Entry) → v.tables.trace.nodes ≡ front ++ entry s (Alloc (Core b) key) n ∷ back
      → In b (known_after [] (forest_of front)) → ⊥
  fresh-part front s b key n back e i =
      let j : In b (blocks_at front) = subst (In b) (allocs-nodes front) (known-allocs (forest_of front) b i) in
      let all : count b (blocks_at v.tables.trace.nodes) ≤ 1 = subst (λ bs. count b bs ≤ 1) (allocs-nodes v.tables.trace.nodes) (has.lives.once b) in
      let parts : count b (blocks_at v.tables.trace.nodes) ≡ count b (b ∷ blocks_at back) + count b (blocks_at front) =
      ap (λ es. count b (blocks_at es)) e ∙ blocks-append b front (entry s (Alloc (Core b) key) n ∷ back) in
      omega (arith, all, parts, in-count b (blocks_at front) j, in-count b (b ∷ blocks_at back) here)

  pass-alloc : (front : List Entry) (ws : List Wait) (s : ℕ) (b : BlockId) (key : Key) (n : ℕ) (is : List Item) (back : List Entry) → v.tables.trace.nodes ≡ front ++ entry s (Alloc b key) n ∷ back
      → At front (forest_of front) ws (item.Alloc b key ∷ is) → At (front ++ entry s (Alloc b key) n ∷ []) (forest_of front ++ item.Alloc b key ∷ []) ws is
  pass-alloc front ws s b key n is back e c = go b e c (sure-core code (length inputs) start.old (words_of code inputs v.heap) b key _ c.knows.mode.1)
    where
      go : (b : BlockId) → v.tables.trace.nodes ≡ front ++ entry s (Alloc b key) n ∷ back → At front (forest_of front) ws (item.Alloc b key ∷ is) → SureCore code (words_of code inputs v.heap) b key
          → At (front ++ entry s (Alloc b key) n ∷ []) (forest_of front ++ item.Alloc b key ∷ []) ws is
      go (Core d) e c h =
          let same : Core d ≡ Core h.core = h.is in
          let core : h.core ≡ d = cc in
          pass-core front ws s d key n is c (subst (λ z. words_of code inputs v.heap (Core z) ≡ Some (made code (words_of code inputs v.heap) key)) core h.held) (fresh-part front s d key n back e)
      go (Input i) e c h = absurd (let no : Input i ≡ Core h.core = h.is in cc)

  -- ---- all of them

  module _ (kept : Kept v.tables) (walked tail : List Entry) (nodes : v.tables.trace.nodes ≡ walked ++ tail)
      (honest : (r : ℕ) (p : Place) (w : Word) → Records p w (node_at r walked) → w ≡ contents_after (base_in v.tables.mods) (before r walked) p) where
    -- the moment after these nodes
    pub record Walked (ws : List Wait) (rs : List ℕ) : Type 0 where
      pub opened : unclosed (Some []) walked ≡ Some (rs ++ start.reads)
      pub began : Began start walked
      pub course : At walked (forest_of walked) ws (forest_of tail)

    walked-distinct : order.Distinct (stamps_in walked)
    walked-distinct = distinct-front walked tail (subst (λ es. order.Distinct (stamps_in es)) nodes kept.step.whole.order.distinct)

    module _ (front : List Entry) (e : Entry) (es : List Entry) (h : walked ≡ front ++ e ∷ es) where
      next-is : walked ≡ (front ++ e ∷ []) ++ es
      next-is = h ∙ sym (behind-all front e es)

      all-is : v.tables.trace.nodes ≡ front ++ e ∷ (es ++ tail)
      all-is = nodes ∙ (ap (λ fs. fs ++ tail) h ∙ append_assoc front (e ∷ es) tail)

      not-front : has_node e.stamp front ≡ false
      not-front = not_before front e es (subst (λ fs. order.Distinct (stamps_in fs)) h walked-distinct)

      node-is : node_at e.stamp walked ≡ Some e.node
      node-is = ap (node_at e.stamp) h ∙ ap held_by (entry-part e es front not-front)

      before-is : before e.stamp walked ≡ front
      before-is = ap (before e.stamp) h ∙ before-part e es front not-front

    pub walk : {vs : List Wait} {qs : List ℕ} {ws : List Wait} {rs : List ℕ} {es : List Entry} → Walks vs qs ws rs es → (front : List Entry) → walked ≡ front ++ es
        → unclosed (Some []) front ≡ Some (rs ++ start.reads) → Began start front → At front (forest_of front) ws (forest_of (es ++ tail)) → Walked vs qs
    walk {vs} {qs = qs} Walks.none front h o b c =
        let same : front ≡ walked = sym (h ∙ append-nil front) in
        record {
          opened = subst (λ es. unclosed (Some []) es ≡ Some (qs ++ start.reads)) same o;
          began = subst (λ es. Began start es) same b;
          course = subst (λ es. At es (forest_of es) vs (forest_of tail)) same c;
        }
    walk {ws = ws} {rs = rs} (Walks.alloc {es = es} s d key n k) front h o b c =
        walk k (front ++ entry s (Alloc d key) n ∷ []) (next-is front (entry s (Alloc d key) n) es h) (opened-put front (rs ++ start.reads) o (entry s (Alloc d key) n))
        (began-put start front (entry s (Alloc d key) n) b)
        (pass-steps front (entry s (Alloc d key) n) ws (forest_of (es ++ tail))
        (pass-alloc front ws s d key n (ticks n ++ forest_of (es ++ tail)) (es ++ tail) (all-is front (entry s (Alloc d key) n) es h) c))
    walk {ws = ws} {rs = rs} (Walks.write {es = es} s p w n k) front h o b c =
        walk k (front ++ entry s (Write p w) n ∷ []) (next-is front (entry s (Write p w) n) es h) (opened-put front (rs ++ start.reads) o (entry s (Write p w) n))
        (began-put start front (entry s (Write p w) n) b)
        (pass-steps front (entry s (Write p w) n) ws (forest_of (es ++ tail)) (pass-write front ws s p w n (ticks n ++ forest_of (es ++ tail)) c))
    walk {ws = ws} {rs = rs} (Walks.read {es = es} s p w u x args n k) front h o b c =
        let fact : w ≡ contents_after (base_in v.tables.mods) front p =
        honest s p w (record { unit = u; var = x; args = args; is = node-is front (entry s (Read p w u x args) n) es h })
        ∙ ap (λ fs. contents_after (base_in v.tables.mods) fs p) (before-is front (entry s (Read p w u x args) n) es h) in
        walk k (front ++ entry s (Read p w u x args) n ∷ []) (next-is front (entry s (Read p w u x args) n) es h) (opened-put front (rs ++ start.reads) o (entry s (Read p w u x args) n))
        (began-put start front (entry s (Read p w u x args) n) b)
        (pass-steps front (entry s (Read p w u x args) n) (Fixes ∷ ws) (forest_of (es ++ tail)) (pass-read front ws s p w u x args n (ticks n ++ forest_of (es ++ tail)) fact c))
    walk (Walks.close {ws = ws} {rs = rs} {es = es} e r m k) front h o b c =
        walk k (front ++ end_entry e r m ∷ []) (next-is front (end_entry e r m) es h)
        (opened-put front (r ∷ (rs ++ start.reads)) o (end_entry e r m) ∙ closed-last (stamp_of_number r) (rs ++ start.reads) e) (began-put start front (end_entry e r m) b)
        (pass-steps front (end_entry e r m) ws (forest_of (es ++ tail)) (pass-end front ws e r m (ticks m ++ forest_of (es ++ tail)) c))
