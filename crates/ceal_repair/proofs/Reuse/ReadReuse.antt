-- A read that is left over is taken.
use Rattle.std.proofs.Common.{◌≡◌, ◌≢◌, ◌⊎◌, ℕ, zero, suc, inl, inr, ◌+◌, ◌<◌, true, false, Some, None, List, [], ◌∷◌, ◌++◌, length, refl, sym, ap, subst, ◌∙◌, append_assoc}
use Rattle.std.proofs.lemmas.Bool.{cases_Bool, eq-eqb}
use Rattle.std.proofs.lemmas.Bool.Decides.{eqb_tells}
use Rattle.ceal_base.specs.Block.{Block}
use Rattle.ceal_base.specs.Operators.{same_word}
use Rattle.ceal_base.specs.declared.forest.Item.{Item}
use Rattle.ceal_base.specs.declared.forest.Item.TheVariants as item
use Rattle.ceal_base.specs.declared.forest.Key.{Key}
use Rattle.ceal_base.specs.declared.forest.UnitId.{UnitId}
use Rattle.ceal_base.specs.declared.word.BlockId.TheVariants.{Input, Core}
use Rattle.ceal_base.specs.declared.word.Place.{Place}
use Rattle.ceal_base.specs.declared.word.Word.{Word}
use Rattle.ceal_code.proofs.Words.SameIsEqual.{word-same, word-refl}
use Rattle.ceal_code.specs.Program.{Code}
use Rattle.ceal_code.specs.Replay.{Store, KnownBlock}
use Rattle.ceal_code.specs.Step.{Stack, Reads, next}
use Rattle.ceal_code.specs.Value.{Plain}
use Rattle.ceal_heap.specs.Heap.{Contents}
use Rattle.ceal_order.specs.Stamps as order
use Rattle.ceal_order.specs.Stamps.{is_in, head_of, place}
use Rattle.ceal_order.specs.declared.stamp.Stamp.{Stamp}
use Rattle.ceal_repair.proofs.Nodes.NodeItems.{more, behind-all, distinct-front, distinct-back, contents-append, forest-put, opened-put, opened-step, began-put, began-step, known-append}
use Rattle.ceal_repair.proofs.Reuse.NoNewEnds.{end-append, append-end, cut-to-end, unfinished-none}
use Rattle.ceal_repair.proofs.Reuse.LeftOver.{first-left, around-left}
use Rattle.ceal_repair.proofs.Runs.UnitSteps.{StepMore, placed-step, blocks-still, blocks-more, blocks-steps, items-next, same-next, step-nodes, knows-act}
use Rattle.ceal_repair.proofs.Nodes.NodeBlocks.{blocks_at, node_blocks}
use Rattle.ceal_repair.proofs.Reuse.ReadMatch.{MatchRead, match-read}
use Rattle.ceal_repair.proofs.Reuse.AllocReuse.{bound-now, words-same, course-bare}
use Rattle.ceal_repair.specs.Around.{Tails, Passes, Inside}
use Rattle.ceal_repair.proofs.Runs.FewNumbers.{given-same}
use Rattle.ceal_repair.specs.Blocks.{HasBlocks, KeepsReadable}
use Rattle.ceal_repair.specs.Entries.{stamp_of_number, entry, end_entry, entries, CutTo, Lies}
use Rattle.ceal_repair.specs.Moment.{View, Start, Placed, RunningNow, PassingNow, through, state_at}
use Rattle.ceal_repair.specs.Frames.{Taken}
use Rattle.ceal_repair.specs.Words.{words_of}
use Rattle.ceal_repair.specs.Covered.{contents_after}
use Rattle.ceal_repair.specs.Kept.{Kept, Records, QueuedAfter, base_in, contents_at}
use Rattle.ceal_repair.specs.Lists.{recalls, stamps_where, before}
use Rattle.ceal_repair.specs.declared.tables.Tables.{Tables}
use Rattle.ceal_theory.proofs.Reuse.StepsBetween.{frames-self}
use Rattle.ceal_theory.proofs.Reuse.TakenAfterRevocation.{bare-stepped}
use Rattle.ceal_theory.specs.Course.{Takes, frames_at, running_at, fixing_at, BareMode, BareFrames, BareSame}
use Rattle.ceal_theory.specs.Cover.{known_after}
use Rattle.ceal_theory.specs.Groves.{Grove, trace_in, bare, stepped}
use Rattle.ceal_theory.specs.Levels.{first, around, levels}
use Rattle.ceal_theory.specs.Repair.{works, resumed}
use Rattle.ceal_theory.specs.Take.{take_read}
use Rattle.ceal_theory.specs.Moves.{Machine, Fixing, Running, AfterMend, Went, next_move}
use Rattle.ceal_trace.proofs.Entries.{stamps-changed, ends-changed}
use Rattle.ceal_trace.proofs.Parts.{not_before, entry-part, changed-part}
use Rattle.ceal_trace.specs.Items.{ticks, item_of, forest_of}
use Rattle.ceal_trace.specs.Nodes.{Entry, Timeline, stamps_in, has_node, node_at, held_by, end_in, ends, with_steps, with_value, steps_set, value_set, valued}
use Rattle.ceal_trace.specs.declared.node.Node.{Node}
use Rattle.ceal_trace.specs.declared.node.Node.TheVariants.{Root, Alloc, Write, Read, End}

pub not-same : (v w : Word) → v ≢ w → same_word v w ≡ false
not-same v w h = elim (cases_Bool (same_word v w)) [ inl e ↦ absurd (h (word-same v w e)) | inr e ↦ e ]

-- ---- nodes before one, and ends

before-part : (e : Entry) (back front : List Entry) → has_node e.stamp front ≡ false → before e.stamp (front ++ e ∷ back) ≡ front
before-part e back [] h = rw (eq-eqb e.stamp e.stamp refl) refl
before-part e back (x ∷ xs) h = elim (eqb_tells x.stamp e.stamp) [
  | inl p ↦ absurd (let bad : true ≡ false = rw p.0 at h in cc)
  | inr p ↦ rw p.0 (ap (λ es. x ∷ es) (before-part e back xs (rw p.0 at h)))
]

-- the end of a read among nodes
pub end-is : (t : Tables) → Kept t → (e r m : ℕ) (front inside later : List Entry) → t.trace.nodes ≡ front ++ (inside ++ end_entry e r m ∷ later) → end_in r t.trace.nodes ≡ Some e
end-is t kept e r m front inside later h =
    let all : t.trace.nodes ≡ (front ++ inside) ++ end_entry e r m ∷ later = h ∙ sym (append_assoc front inside (end_entry e r m ∷ later)) in
    let none : has_node e (front ++ inside) ≡ false = not_before (front ++ inside) (end_entry e r m) later (subst (λ es. order.Distinct (stamps_in es)) all kept.step.whole.order.distinct) in
    kept.step.whole.one_end e (stamp_of_number r) (ap (node_at e) all ∙ ap held_by (entry-part (end_entry e r m) later (front ++ inside) none))

-- ---- a read with another value

pub ends-valued : (r : ℕ) (w : Word) (n : Node) → ends r (valued w n) ≡ ends r n
ends-valued r w Root = refl
ends-valued r w (Alloc b key) = refl
ends-valued r w (Write p v) = refl
ends-valued r w (Read p v u x args) = refl
ends-valued r w (End s) = refl

blocks-valued : (w : Word) (n : Node) (bs : List ℕ) → node_blocks (valued w n) bs ≡ node_blocks n bs
blocks-valued w Root bs = refl
blocks-valued w (Alloc (Core b) key) bs = refl
blocks-valued w (Alloc (Input i) key) bs = refl
blocks-valued w (Write p v) bs = refl
blocks-valued w (Read p v u x args) bs = refl
blocks-valued w (End s) bs = refl

blocks-value : (s : ℕ) (w : Word) (es : List Entry) → blocks_at (with_value s w es) ≡ blocks_at es
blocks-value s w [] = refl
blocks-value s w (e ∷ es) = elim (eqb_tells e.stamp s) [
  | inl p ↦ rw p.0 (blocks-valued w e.node (blocks_at es))
  | inr p ↦ rw p.0 (ap (node_blocks e.node) (blocks-value s w es))
]

node-value : (u s : ℕ) (w : Word) (es : List Entry) (n : Node) → node_at u (with_value s w es) ≡ Some n → (m : Node) × (node_at u es ≡ Some m) × ((n ≡ m) ⊎ (n ≡ valued w m))
node-value u s w [] n h = absurd (cc)
node-value u s w (e ∷ es) n h = elim (eqb_tells e.stamp s) [
  | inl p ↦ elim (eqb_tells e.stamp u) [
    | inl q ↦ (e.node, rw q.0 refl, let k : Some (valued w e.node) ≡ Some n = rw (p.0, q.0) at h in inr (let same : valued w e.node ≡ n = cc in sym same))
    | inr q ↦ let k : node_at u es ≡ Some n = rw (p.0, q.0) at h in (n, rw q.0 k, inl refl)
  ]
  | inr p ↦ elim (eqb_tells e.stamp u) [
    | inl q ↦ (e.node, rw q.0 refl, let k : Some e.node ≡ Some n = rw (p.0, q.0) at h in inl (let same : e.node ≡ n = cc in sym same))
    | inr q ↦ let k = node-value u s w es n (rw (p.0, q.0) at h) in (k.0, rw q.0 k.1, k.2)
  ]
]

records-valued : (w : Word) (p : Place) (v : Word) (m : Node) → Records p v (Some (valued w m)) → (v' : Word) × Records p v' (Some m)
records-valued w p v Root r = absurd (let bad = r.is in cc)
records-valued w p v (Alloc b key) r = absurd (let bad = r.is in cc)
records-valued w p v (Write q x) r = absurd (let bad = r.is in cc)
records-valued w p v (Read q x u y args) r =
    let e : Some (Read q w u y args) ≡ Some (Read p v r.unit r.var r.args) = r.is in
    let same : q ≡ p = cc in
    (x, record { unit = u; var = y; args = args; is = ap (λ o. Some (Read o x u y args)) same })
records-valued w p v (End s) r = absurd (let bad = r.is in cc)

core-valued : (w : Word) (i : ℕ) (key : Key) (m : Node) → Alloc (Input i) key ≡ valued w m → m ≡ Alloc (Input i) key
core-valued w i key Root e = absurd (cc)
core-valued w i key (Alloc b k) e = sym e
core-valued w i key (Write p v) e = absurd (cc)
core-valued w i key (Read p v u x args) e = absurd (cc)
core-valued w i key (End s) e = absurd (cc)

pub blocks-look : (code : Code) (inputs : List Block) (heap : Contents) (old new : Tables) (s : ℕ) (w : Word) → new.trace.nodes ≡ with_value s w old.trace.nodes
    → ((p : Place) → base_in new.mods p ≡ base_in old.mods p) → HasBlocks code inputs heap old → HasBlocks code inputs heap new
blocks-look code inputs heap old new s w e b h = blocks-still code inputs heap old new b (ap blocks_at e ∙ blocks-value s w old.trace.nodes)
    (λ u p v r. let k = node-value u s w old.trace.nodes (Read p v r.unit r.var r.args) (ap (node_at u) (sym e) ∙ r.is) in
    elim k.2 [
      | inl same ↦ h.reads u p v (record { unit = r.unit; var = r.var; args = r.args; is = k.1 ∙ ap (λ z. Some z) (sym same) })
      | inr same ↦ let q = records-valued w p v k.0 (record { unit = r.unit; var = r.var; args = r.args; is = ap (λ z. Some z) (sym same) }) in
          h.reads u p q.0 (subst (Records p q.0) (sym k.1) q.1)
    ])
    (λ u i key k. let m = node-value u s w old.trace.nodes (Alloc (Input i) key) (ap (node_at u) (sym e) ∙ k) in
    elim m.2 [
      | inl same ↦ h.lives.cores u i key (m.1 ∙ ap (λ z. Some z) (sym same))
      | inr same ↦ h.lives.cores u i key (m.1 ∙ ap (λ z. Some z) (core-valued w i key m.0 same))
    ])
    h

pub blocks-as : (code : Code) (inputs : List Block) (heap : Contents) (old new : Tables) → new.trace ≡ old.trace → ((p : Place) → base_in new.mods p ≡ base_in old.mods p)
    → HasBlocks code inputs heap old → HasBlocks code inputs heap new
blocks-as code inputs heap old new e b h = blocks-still code inputs heap old new b (ap (λ (l : Timeline). blocks_at l.nodes) e)
    (λ u p v r. h.reads u p v (subst (λ (l : Timeline). Records p v (node_at u l.nodes)) e r))
    (λ u i key k. h.lives.cores u i key (sym (ap (λ (l : Timeline). node_at u l.nodes) e) ∙ k)) h

-- ---- revoked up to the read, which is then the first

-- the heap and the tables after nodes were revoked up to a node
pub record CutDone (code : Code) (inputs : List Block) (cursor found : ℕ) (front : List Entry) (left rest : Grove) (tail : List Entry) (heap heap' : Contents) (old new : Tables) : Type 0 where
  pub cuts : CutTo found left rest
  pub lies : Lies cursor front rest tail new
  pub bases : (p : Place) → base_in new.mods p ≡ base_in old.mods p
  pub blocks : KeepsReadable heap heap'
  pub has : HasBlocks code inputs heap old → HasBlocks code inputs heap' new
  pub kept : Kept new

-- the levels of what is in a read and after its end
pub levels-behind : (g : Grove) (e r m : ℕ) (tail : List Entry) → around (levels (forest_of (entries g ++ end_entry e r m ∷ tail))) ≡ levels (ticks m ++ forest_of tail)
levels-behind g e r m tail = around-left g (end_entry e r m ∷ tail)

pub first-ticks : (n : ℕ) (is : List Item) → first (levels (ticks n ++ is)) ≡ stepped n (first (levels is))
first-ticks zero is = refl
first-ticks (suc n) is = rw (first-ticks n is) refl

pub around-ticks : (n : ℕ) (is : List Item) → around (levels (ticks n ++ is)) ≡ around (levels is)
around-ticks zero is = refl
around-ticks (suc n) is = around-ticks n is

module _ (code : Code) (inputs : List Block) (start : Start) (st : Stack) (v : View) (now : RunningNow code inputs start st v)
    (p : Place) (u : UnitId) (x : ℕ) (args : List Word) (below : Stack) (found : Stamp) (heap : Contents) (t1 t2 : Tables) (rest : Grove)
    (does : next code (words_of code inputs v.heap) st ≡ Reads p u x args below)
    (h : StepMore v.cursor v.tables t1)
    (c : CutDone code inputs v.cursor found.0 (through now.placed.done (more now.placed.last)) now.left rest now.tail v.heap heap t1 t2)
    (matches : head_of (stamps_where (recalls (record { place = p; unit = u; var = x; args = args })) (entries now.left)) ≡ Some found.0) where
  left-distinct : order.Distinct (stamps_in (entries now.left))
  left-distinct = distinct-front (entries now.left) now.tail (distinct-back (through now.placed.done now.placed.last) (entries now.left ++ now.tail)
      (subst (λ es. order.Distinct (stamps_in es)) now.placed.nodes now.placed.kept.step.whole.order.distinct))

  pub the-match : MatchRead p u x args found.0 now.left rest
  the-match = match-read p u x args found.0 c.cuts left-distinct matches

  nodes-mid : t2.trace.nodes ≡ through now.placed.done (more now.placed.last)
      ++ entry found.0 (Read p the-match.value u x args) the-match.steps ∷ (entries the-match.inside ++ end_entry the-match.end found.0 the-match.end_steps ∷ (entries the-match.behind ++ now.tail))
  nodes-mid = c.lies.nodes ∙ (ap (λ g. through now.placed.done (more now.placed.last) ++ (entries g ++ now.tail)) the-match.is
      ∙ ap (λ es. through now.placed.done (more now.placed.last) ++ entry found.0 (Read p the-match.value u x args) the-match.steps ∷ es)
      (append_assoc (entries the-match.inside) (end_entry the-match.end found.0 the-match.end_steps ∷ entries the-match.behind) now.tail))

  found-not-front : has_node found.0 (through now.placed.done (more now.placed.last)) ≡ false
  found-not-front = not_before (through now.placed.done (more now.placed.last)) (entry found.0 (Read p the-match.value u x args) the-match.steps)
      (entries the-match.inside ++ end_entry the-match.end found.0 the-match.end_steps ∷ (entries the-match.behind ++ now.tail))
      (subst (λ es. order.Distinct (stamps_in es)) nodes-mid c.kept.step.whole.order.distinct)

  pub node-there : node_at found.0 t2.trace.nodes ≡ Some (Read p the-match.value u x args)
  node-there = ap (node_at found.0) nodes-mid ∙ ap held_by (entry-part (entry found.0 (Read p the-match.value u x args) the-match.steps)
      (entries the-match.inside ++ end_entry the-match.end found.0 the-match.end_steps ∷ (entries the-match.behind ++ now.tail)) (through now.placed.done (more now.placed.last)) found-not-front)

  blocks-mid : HasBlocks code inputs heap t2
  blocks-mid = c.has (blocks-more code inputs v.heap v.tables t1 now.blocks v.cursor h)

  placed-stepped : Placed start (record { tables = t1; heap = v.heap; spent = v.spent + 1; cursor = v.cursor; limit = v.limit; frames = v.frames }) now.reads (entries now.left ++ now.tail)
  placed-stepped = placed-step start v now.reads (entries now.left ++ now.tail) now.placed t1 (v.spent + 1) h

  -- a read that has no end gets none
  no-end-mid : (r : ℕ) → end_in r t1.trace.nodes ≡ None → end_in r t2.trace.nodes ≡ None
  no-end-mid r e = ap (end_in r) c.lies.nodes
      ∙ (let parts = end-append r (through now.placed.done (more now.placed.last)) (entries now.left ++ now.tail)
      (sym (ap (end_in r) (step-nodes start v now.reads (entries now.left ++ now.tail) now.placed t1 h)) ∙ e) in
      let back = end-append r (entries now.left) now.tail parts.1 in
      append-end r (through now.placed.done (more now.placed.last)) (entries rest ++ now.tail) parts.0 (append-end r (entries rest) now.tail (cut-to-end r c.cuts back.0) back.1))

  place-known : KnownBlock (length inputs) (known_after [] (forest_of (through now.placed.done now.placed.last))) p.block
  place-known = (rw does at (knows-act code inputs start st v now)).0

  bases-mid : (q : Place) → base_in t2.mods q ≡ base_in v.tables.mods q
  bases-mid q = c.bases q ∙ ap (λ d. base_in d q) h.mods

  -- the content of the place at the read is what the store has
  pub content-mid : contents_at found.0 t2 p ≡ now.course.store p
  content-mid =
      ap (λ es. contents_after (base_in t2.mods) (before found.0 es) p) nodes-mid
      ∙ (ap (λ es. contents_after (base_in t2.mods) es p) (before-part (entry found.0 (Read p the-match.value u x args) the-match.steps)
      (entries the-match.inside ++ end_entry the-match.end found.0 the-match.end_steps ∷ (entries the-match.behind ++ now.tail)) (through now.placed.done (more now.placed.last)) found-not-front)
      ∙ sym (same-next code inputs start st v now t2 bases-mid p place-known))

  is-left : first (levels (forest_of (entries now.left ++ now.tail))) ≡ trace_in now.left
  is-left = first-left now.left v.limit now.tail (bound-now code inputs start st v now)

  takes-left : take_read p u x args (first (levels (forest_of (entries now.left ++ now.tail)))) ≡ Some the-match.taken
  takes-left = ap (take_read p u x args) is-left ∙ the-match.takes_it

  frames-mid : BareFrames (AfterMend below the-match.taken.leftover (frames_at now.waits (around (levels (forest_of (entries now.left ++ now.tail))))))
      (frames_at (Takes below ∷ now.waits) (around (levels (forest_of (entries the-match.inside ++ end_entry the-match.end found.0 the-match.end_steps ∷ (entries the-match.behind ++ now.tail))))))
  frames-mid = rw (
    levels-behind the-match.inside the-match.end found.0 the-match.end_steps (entries the-match.behind ++ now.tail),
    first-ticks the-match.end_steps (forest_of (entries the-match.behind ++ now.tail)),
    around-ticks the-match.end_steps (forest_of (entries the-match.behind ++ now.tail)),
    first-left the-match.behind v.limit now.tail (bound-now code inputs start st v now),
    around-left the-match.behind now.tail,
    around-left now.left now.tail,
  )
      (BareFrames.after_mend (the-match.left_is ∙ sym (bare-stepped the-match.end_steps (trace_in the-match.behind)))
      (frames-self code (λ k. 0) (frames_at now.waits (around (levels (forest_of now.tail))))))

  items-then : (w : Word)
      → forest_of (through now.placed.done (more now.placed.last)) ++ item_of (Read p w u x args) ≡ forest_of (through now.placed.done now.placed.last) ++ (item.Step ∷ item.Read p w u x args ∷ [])
  items-then w = sym (forest-put (through now.placed.done (more now.placed.last)) found.0 (Read p w u x args)) ∙ items-next code inputs start st v now found.0 (Read p w u x args)

  known-then : (w : Word)
      → known_after [] (forest_of (through now.placed.done (more now.placed.last)) ++ item_of (Read p w u x args)) ≡ known_after [] (forest_of (through now.placed.done now.placed.last))
  known-then w = ap (known_after []) (items-then w) ∙ known-append [] (forest_of (through now.placed.done now.placed.last)) (item.Step ∷ item.Read p w u x args ∷ [])

  same-then : (t : Tables) → ((q : Place) → base_in t.mods q ≡ base_in t2.mods q) → (w : Word) (n : ℕ) (q : Place)
      → KnownBlock (length inputs) (known_after [] (forest_of (through now.placed.done (more now.placed.last)) ++ item_of (Read p w u x args))) q.block
      → now.course.store q ≡ contents_after (base_in t.mods) (through (through now.placed.done (more now.placed.last)) (entry found.0 (Read p w u x args) n)) q
  same-then t b w n q k =
      same-next code inputs start st v now t (λ o. b o ∙ bases-mid o) q (subst (λ bs. KnownBlock (length inputs) bs q.block) (known-then w) k)
      ∙ sym (ap (λ (f : Store). f q) (contents-append (base_in t.mods) (through now.placed.done (more now.placed.last)) (entry found.0 (Read p w u x args) n ∷ [])))

  -- ---- the read is stale: its unit runs, with what is inside it left over

  -- the machine as its turn leaves it
  mid-running : Word → Machine
  mid-running w = record {
    state = works (state_at code inputs v now.course.store (start.chosen ++ now.course.made));
    mode = Running (resumed code u x args w) the-match.taken.inside;
    frames = AfterMend below the-match.taken.leftover (frames_at now.waits (around (levels (forest_of (entries now.left ++ now.tail)))));
  }

  stale-move : (w : Word) → now.course.store p ≡ w → same_word w the-match.taken.value ≡ false → (names : ℕ → ℕ)
      → next_move code names (running_at (state_at code inputs v now.course.store (start.chosen ++ now.course.made)) st now.waits (forest_of (entries now.left ++ now.tail)))
      ≡ Went (item.Step ∷ item.Read p w u x args ∷ []) (mid-running w)
  unfolding next_move mid-running
  stale-move w is other names =
      subst (λ z. same_word z the-match.taken.value ≡ false
      → next_move code names (running_at (state_at code inputs v now.course.store (start.chosen ++ now.course.made)) st now.waits (forest_of (entries now.left ++ now.tail)))
      ≡ Went (item.Step ∷ item.Read p z u x args ∷ []) (mid-running z)) is (λ differs. rw (does, takes-left, differs) refl) other

  state-then : works (state_at code inputs v now.course.store (start.chosen ++ now.course.made))
      ≡ record { store = now.course.store; plain = words_of code inputs heap; number = length (start.chosen ++ now.course.made); work = v.spent + 1 }
  state-then =
      ap (λ (y : Plain). record { store = now.course.store; plain = y; number = length (start.chosen ++ now.course.made); work = v.spent + 1 }) (sym (words-same code inputs v.heap heap c.blocks))

  bare-running : (w : Word) → BareSame (mid-running w)
      (running_at (record { store = now.course.store; plain = words_of code inputs heap; number = length (start.chosen ++ now.course.made); work = v.spent + 1 })
      (resumed code u x args w) (Takes below ∷ now.waits) (forest_of (entries the-match.inside ++ end_entry the-match.end found.0 the-match.end_steps ∷ (entries the-match.behind ++ now.tail))))
  unfolding mid-running
  bare-running w = record {
    state = state-then;
    mode = BareMode.runs (ap bare the-match.inside_is ∙ (bare-stepped the-match.steps (trace_in the-match.inside)
        ∙ ap bare (sym (first-left the-match.inside (Some (stamp_of_number the-match.end)) (end_entry the-match.end found.0 the-match.end_steps ∷ (entries the-match.behind ++ now.tail))
        (found.0, the-match.end_steps, entries the-match.behind ++ now.tail, refl)))));
    frames = frames-mid;
  }

  running-number : (w : Word) → (mid-running w).state.number ≡ length (start.chosen ++ now.course.made)
  unfolding mid-running
  running-number w = refl

  -- ---- the tables after the read was looked at

  -- it has another value, and its steps are dropped
  module _ (w : Word) (t3 t : Tables) (seen : t3.trace.nodes ≡ with_value found.0 w t2.trace.nodes) (is-now : w ≡ contents_at found.0 t2 p) (differs : the-match.value ≢ w)
      (cells : (q : Place) → base_in t3.mods q ≡ base_in t2.mods q) (late : QueuedAfter found.0 t3)
      (dropped : t.trace.nodes ≡ with_steps found.0 0 t3.trace.nodes) (mods : t.mods ≡ t3.mods) (queue : t.stale ≡ t3.stale) (kept : Kept t) where
    nodes-seen : t3.trace.nodes ≡ through now.placed.done (more now.placed.last)
        ++ entry found.0 (Read p w u x args) the-match.steps ∷ (entries the-match.inside ++ end_entry the-match.end found.0 the-match.end_steps ∷ (entries the-match.behind ++ now.tail))
    nodes-seen = seen ∙ (ap (with_value found.0 w) nodes-mid
        ∙ changed-part (entry found.0 (Read p the-match.value u x args) the-match.steps)
        (entries the-match.inside ++ end_entry the-match.end found.0 the-match.end_steps ∷ (entries the-match.behind ++ now.tail))
        (value_set w) (through now.placed.done (more now.placed.last)) found-not-front)

    nodes-then : t.trace.nodes ≡ through (through now.placed.done (more now.placed.last)) (entry found.0 (Read p w u x args) 0)
        ++ (entries the-match.inside ++ end_entry the-match.end found.0 the-match.end_steps ∷ (entries the-match.behind ++ now.tail))
    nodes-then = dropped ∙ (ap (with_steps found.0 0) nodes-seen
        ∙ (changed-part (entry found.0 (Read p w u x args) the-match.steps) (entries the-match.inside ++ end_entry the-match.end found.0 the-match.end_steps ∷ (entries the-match.behind ++ now.tail))
        (steps_set 0) (through now.placed.done (more now.placed.last)) found-not-front
        ∙ sym (behind-all (through now.placed.done (more now.placed.last)) (entry found.0 (Read p w u x args) 0)
        (entries the-match.inside ++ end_entry the-match.end found.0 the-match.end_steps ∷ (entries the-match.behind ++ now.tail)))))

    late-then : QueuedAfter found.0 t
    late-then r i = subst (λ ss. place found.0 ss < place r ss) (sym (ap stamps_in dropped ∙ stamps-changed found.0 (steps_set 0) (λ e. refl) t3.trace.nodes))
        (late r (subst (λ (z : _). is_in r z.stamps ≡ true) queue i))

    no-end-then : (r : ℕ) → end_in r t1.trace.nodes ≡ None → end_in r t.trace.nodes ≡ None
    no-end-then r e = ap (end_in r) dropped ∙ (ends-changed found.0 (steps_set 0) (λ e. refl) r t3.trace.nodes (λ e. refl)
        ∙ (ap (end_in r) seen ∙ (ends-changed found.0 (value_set w) (λ e. refl) r t2.trace.nodes (λ e. ends-valued r w e.node) ∙ no-end-mid r e)))

    bases-then : (q : Place) → base_in t.mods q ≡ base_in t2.mods q
    bases-then q = ap (λ d. base_in d q) mods ∙ cells q

    word-now : now.course.store p ≡ w
    word-now = sym (is-now ∙ content-mid)

    other-word : same_word w the-match.taken.value ≡ false
    other-word = not-same w the-match.taken.value (λ e. differs (sym the-match.value_is ∙ sym e))

    pub node-then : node_at found.0 t.trace.nodes ≡ Some (Read p w u x args)
    node-then = ap (node_at found.0) (nodes-then ∙ behind-all (through now.placed.done (more now.placed.last)) (entry found.0 (Read p w u x args) 0)
        (entries the-match.inside ++ end_entry the-match.end found.0 the-match.end_steps ∷ (entries the-match.behind ++ now.tail)))
        ∙ ap held_by (entry-part (entry found.0 (Read p w u x args) 0) (entries the-match.inside ++ end_entry the-match.end found.0 the-match.end_steps ∷ (entries the-match.behind ++ now.tail))
        (through now.placed.done (more now.placed.last)) found-not-front)

    pub end-then : end_in found.0 t.trace.nodes ≡ Some the-match.end
    end-then = end-is t kept the-match.end found.0 the-match.end_steps (through (through now.placed.done (more now.placed.last)) (entry found.0 (Read p w u x args) 0)) (entries the-match.inside)
        (entries the-match.behind ++ now.tail) nodes-then

    -- the read is in front, and its unit runs, with what is inside it left over; after its end is what is left over
    -- then
    pub now-retake : (until : Stamp) → v.limit ≡ Some until
        → RunningNow code inputs start (resumed code u x args w)
        (record { tables = t; heap = heap; spent = v.spent + 1; cursor = found.0; limit = Some (stamp_of_number the-match.end); frames = Taken below until ∷ v.frames })
    now-retake until limit = record {
      reads = found.0 ∷ now.reads;
      left = the-match.inside;
      waits = Takes below ∷ now.waits;
      tail = end_entry the-match.end found.0 the-match.end_steps ∷ (entries the-match.behind ++ now.tail);
      placed = record {
        kept = kept;
        done = through now.placed.done (more now.placed.last);
        last = entry found.0 (Read p w u x args) 0;
        nodes = nodes-then;
        cursor = refl;
        late = late-then;
        opened = opened-put (through now.placed.done (more now.placed.last)) (now.reads ++ start.reads) (opened-step now.placed.done now.placed.last (Some []) ∙ now.placed.opened)
            (entry found.0 (Read p w u x args) 0);
        began = began-put start (through now.placed.done (more now.placed.last)) (entry found.0 (Read p w u x args) 0) (began-step start now.placed.done now.placed.last now.placed.began);
        unfinished = unfinished-none v.frames t1.trace.nodes t.trace.nodes no-end-then placed-stepped.unfinished;
      };
      tails = Tails.taken below the-match.end found.0 the-match.end_steps the-match.behind (subst (λ o. Tails start.limit start.beyond o v.frames now.waits now.reads now.tail) limit now.tails);
      bare = λ none. absurd (cc);
      bounds = now.bounds;
      blocks = blocks-steps code inputs heap t3 t (blocks-look code inputs heap t2 t3 found.0 w seen cells blocks-mid) found.0 0 dropped mods;
      course = course-bare code inputs start v (through now.placed.done now.placed.last) (forest_of (through now.placed.done now.placed.last))
          (λ s. running_at s st now.waits (forest_of (entries now.left ++ now.tail))) now.course
          (record { tables = t; heap = heap; spent = v.spent + 1; cursor = found.0; limit = Some (stamp_of_number the-match.end); frames = Taken below until ∷ v.frames })
          (through (through now.placed.done (more now.placed.last)) (entry found.0 (Read p w u x args) 0))
          (forest_of (through (through now.placed.done (more now.placed.last)) (entry found.0 (Read p w u x args) 0)))
          (λ s. running_at s (resumed code u x args w) (Takes below ∷ now.waits)
          (forest_of (entries the-match.inside ++ end_entry the-match.end found.0 the-match.end_steps ∷ (entries the-match.behind ++ now.tail))))
          (item.Step ∷ item.Read p w u x args ∷ []) now.course.store (mid-running w)
          (items-next code inputs start st v now found.0 (Read p w u x args)) (stale-move w word-now other-word) (running-number w) (bare-running w)
          (λ q k. same-then t bases-then w 0 q
          (subst (λ is. KnownBlock (length inputs) (known_after [] is) q.block) (forest-put (through now.placed.done (more now.placed.last)) found.0 (Read p w u x args)) k))
          (given-same start.first start.numbers (start.chosen ++ now.course.made) v.heap heap c.blocks now.course.given);
    }

  -- ---- the read is honest: what is inside it is passed

  mid-fixing : Word → Machine
  mid-fixing w = record {
    state = works (state_at code inputs v now.course.store (start.chosen ++ now.course.made));
    mode = Fixing the-match.taken.inside;
    frames = AfterMend below the-match.taken.leftover (frames_at now.waits (around (levels (forest_of (entries now.left ++ now.tail)))));
  }

  honest-turn : (w : Word) → now.course.store p ≡ w → same_word w the-match.taken.value ≡ true → (names : ℕ → ℕ)
      → next_move code names (running_at (state_at code inputs v now.course.store (start.chosen ++ now.course.made)) st now.waits (forest_of (entries now.left ++ now.tail)))
      ≡ Went (item.Step ∷ item.Read p w u x args ∷ []) (mid-fixing w)
  unfolding next_move mid-fixing
  honest-turn w is one names =
      subst (λ z. same_word z the-match.taken.value ≡ true
      → next_move code names (running_at (state_at code inputs v now.course.store (start.chosen ++ now.course.made)) st now.waits (forest_of (entries now.left ++ now.tail)))
      ≡ Went (item.Step ∷ item.Read p z u x args ∷ []) (mid-fixing z)) is (λ same. rw (does, takes-left, same) refl) one

  bare-fixing : (w : Word) → BareSame (mid-fixing w)
      (fixing_at (record { store = now.course.store; plain = words_of code inputs heap; number = length (start.chosen ++ now.course.made); work = v.spent + 1 })
      (Takes below ∷ now.waits) (ticks the-match.steps ++ forest_of (entries the-match.inside ++ end_entry the-match.end found.0 the-match.end_steps ∷ (entries the-match.behind ++ now.tail))))
  unfolding mid-fixing
  bare-fixing w = record {
    state = state-then;
    mode = subst (λ l. BareMode (Fixing the-match.taken.inside) (Fixing l))
        (the-match.inside_is ∙ (ap (stepped the-match.steps) (sym (first-left the-match.inside (Some (stamp_of_number the-match.end))
        (end_entry the-match.end found.0 the-match.end_steps ∷ (entries the-match.behind ++ now.tail)) (found.0, the-match.end_steps, entries the-match.behind ++ now.tail, refl)))
        ∙ sym (first-ticks the-match.steps (forest_of (entries the-match.inside ++ end_entry the-match.end found.0 the-match.end_steps ∷ (entries the-match.behind ++ now.tail)))))) BareMode.fixes;
    frames = rw (around-ticks the-match.steps (forest_of (entries the-match.inside ++ end_entry the-match.end found.0 the-match.end_steps ∷ (entries the-match.behind ++ now.tail)))) frames-mid;
  }

  fixing-number : (w : Word) → (mid-fixing w).state.number ≡ length (start.chosen ++ now.course.made)
  unfolding mid-fixing
  fixing-number w = refl

  module _ (t : Tables) (seen : t.trace ≡ t2.trace) (is-now : the-match.value ≡ contents_at found.0 t2 p) (cells : (q : Place) → base_in t.mods q ≡ base_in t2.mods q)
      (late : QueuedAfter found.0 t) (kept : Kept t) where
    nodes-same : t.trace.nodes ≡ through (through now.placed.done (more now.placed.last)) (entry found.0 (Read p the-match.value u x args) the-match.steps)
        ++ (entries the-match.inside ++ end_entry the-match.end found.0 the-match.end_steps ∷ (entries the-match.behind ++ now.tail))
    nodes-same = ap (λ (l : Timeline). l.nodes) seen ∙ (nodes-mid
        ∙ sym (behind-all (through now.placed.done (more now.placed.last)) (entry found.0 (Read p the-match.value u x args) the-match.steps)
        (entries the-match.inside ++ end_entry the-match.end found.0 the-match.end_steps ∷ (entries the-match.behind ++ now.tail))))

    no-end-same : (r : ℕ) → end_in r t1.trace.nodes ≡ None → end_in r t.trace.nodes ≡ None
    no-end-same r e = ap (λ (l : Timeline). end_in r l.nodes) seen ∙ no-end-mid r e

    value-now : now.course.store p ≡ the-match.value
    value-now = sym (is-now ∙ content-mid)

    same-value : same_word the-match.value the-match.taken.value ≡ true
    same-value = ap (same_word the-match.value) the-match.value_is ∙ word-refl the-match.value

    pub end-same : end_in found.0 t.trace.nodes ≡ Some the-match.end
    end-same = end-is t kept the-match.end found.0 the-match.end_steps (through (through now.placed.done (more now.placed.last)) (entry found.0 (Read p the-match.value u x args) the-match.steps))
        (entries the-match.inside)
        (entries the-match.behind ++ now.tail) nodes-same

    -- the read is in front with its steps, and what is inside it must be passed, up to its end
    pub now-enter : (until : Stamp) → v.limit ≡ Some until
        → PassingNow code inputs start (stamp_of_number the-match.end)
        (record { tables = t; heap = heap; spent = v.spent + 1; cursor = found.0; limit = Some (stamp_of_number the-match.end); frames = Taken below until ∷ v.frames })
    now-enter until limit = record {
      reads = found.0 ∷ now.reads;
      waits = Takes below ∷ now.waits;
      behind = entries the-match.inside ++ end_entry the-match.end found.0 the-match.end_steps ∷ (entries the-match.behind ++ now.tail);
      limit = refl;
      placed = record {
        kept = kept;
        done = through now.placed.done (more now.placed.last);
        last = entry found.0 (Read p the-match.value u x args) the-match.steps;
        nodes = nodes-same;
        cursor = refl;
        late = late;
        opened = opened-put (through now.placed.done (more now.placed.last)) (now.reads ++ start.reads) (opened-step now.placed.done now.placed.last (Some []) ∙ now.placed.opened)
            (entry found.0 (Read p the-match.value u x args) the-match.steps);
        began = began-put start (through now.placed.done (more now.placed.last)) (entry found.0 (Read p the-match.value u x args) the-match.steps)
            (began-step start now.placed.done now.placed.last now.placed.began);
        unfinished = unfinished-none v.frames t1.trace.nodes t.trace.nodes no-end-same placed-stepped.unfinished;
      };
      passes = Passes.passes below the-match.end found.0 the-match.end_steps the-match.behind (Inside.level the-match.inside)
          (subst (λ o. Tails start.limit start.beyond o v.frames now.waits now.reads now.tail) limit now.tails);
      bounds = now.bounds;
      blocks = blocks-as code inputs heap t2 t seen cells blocks-mid;
      course = course-bare code inputs start v (through now.placed.done now.placed.last) (forest_of (through now.placed.done now.placed.last))
          (λ s. running_at s st now.waits (forest_of (entries now.left ++ now.tail))) now.course
          (record { tables = t; heap = heap; spent = v.spent + 1; cursor = found.0; limit = Some (stamp_of_number the-match.end); frames = Taken below until ∷ v.frames })
          (through (through now.placed.done (more now.placed.last)) (entry found.0 (Read p the-match.value u x args) the-match.steps))
          (forest_of (through now.placed.done (more now.placed.last)) ++ item_of (Read p the-match.value u x args))
          (λ s. fixing_at s (Takes below ∷ now.waits)
          (ticks the-match.steps ++ forest_of (entries the-match.inside ++ end_entry the-match.end found.0 the-match.end_steps ∷ (entries the-match.behind ++ now.tail))))
          (item.Step ∷ item.Read p the-match.value u x args ∷ []) now.course.store (mid-fixing the-match.value)
          (items-then the-match.value) (honest-turn the-match.value value-now same-value) (fixing-number the-match.value) (bare-fixing the-match.value)
          (λ q k. same-then t cells the-match.value the-match.steps q k)
          (given-same start.first start.numbers (start.chosen ++ now.course.made) v.heap heap c.blocks now.course.given);
    }
