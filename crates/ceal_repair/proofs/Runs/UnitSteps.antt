-- What a unit that runs does next, as a change of the moment of a repair.
use Rattle.std.proofs.Common.{◌≡◌, ℕ, inl, inr, ◌+◌, ◌<◌, true, Option, Some, List, [], ◌∷◌, ◌++◌, length, refl, sym, ap, subst, ◌∙◌, append_assoc}
use Rattle.std.specs.Prelude.{◌↔◌}
use Rattle.std.proofs.lemmas.Bool.Decides.{eqb_tells}
use Rattle.ceal_base.specs.Block.{Block}
use Rattle.ceal_base.specs.declared.forest.Item.{Item}
use Rattle.ceal_base.specs.declared.forest.Item.TheVariants as item
use Rattle.ceal_base.specs.declared.forest.Key.{Key}
use Rattle.ceal_base.specs.declared.word.BlockId.TheVariants.{Input, Core}
use Rattle.ceal_base.specs.declared.word.Place.{Place}
use Rattle.ceal_base.specs.declared.word.Word.{Word}
use Rattle.ceal_code.proofs.Words.StepLocality.{next-known}
use Rattle.ceal_code.specs.Known.{KnownAct}
use Rattle.ceal_code.specs.Program.{Code}
use Rattle.ceal_code.specs.Replay.{Store, In, KnownBlock, stored, Distinct as Once}
use Rattle.ceal_code.specs.Step.{Stack, Quiet, Writes, next}
use Rattle.ceal_heap.specs.Heap.{Contents, IsLive}
use Rattle.ceal_order.specs.Stamps.{Distinct, is_in, place}
use Rattle.ceal_order.specs.declared.stamp.Stamp.{Stamp}
use Rattle.ceal_repair.proofs.Nodes.NodeItems.{more, forest-step, forest-put, nodes-step, nodes-put, steps-there, has-last, opened-step, opened-put, began-step, began-put, contents-put}
use Rattle.ceal_repair.proofs.Nodes.NodeItems.{contents-step, contents-base, stored-base, known-append, known-items-append, known-items-after}
use Rattle.ceal_repair.proofs.Nodes.NodeBlocks.{node_blocks, blocks_at, allocs-nodes, blocks-step, blocks-put, node-step, unfinished-ends}
use Rattle.ceal_repair.specs.Blocks.{There, HasBlocks, Given}
use Rattle.ceal_repair.specs.Entries.{entries}
use Rattle.ceal_repair.specs.Moment.{View, Start, Placed, CourseNow, RunningNow, Unfinished, through, state_at, items_before}
use Rattle.ceal_repair.specs.Words.{words_of}
use Rattle.ceal_repair.specs.Frames.{Frame}
use Rattle.ceal_repair.specs.Covered.{contents_after}
use Rattle.ceal_repair.specs.Kept.{Kept, QueuedAfter, Records, base_in}
use Rattle.ceal_repair.specs.declared.tables.Tables.{Tables}
use Rattle.ceal_theory.proofs.MoveMachine.ChosenNumbers.{chosen-law}
use Rattle.ceal_theory.proofs.Store.KnownBlocks.{knowing-law}
use Rattle.ceal_theory.proofs.MoveMachine.MachineLaws.{leads-move}
use Rattle.ceal_theory.specs.Course.{running_at}
use Rattle.ceal_theory.specs.Cover.{known_after}
use Rattle.ceal_theory.specs.Known.{Knows, KnownItems, GoesKnowing}
use Rattle.ceal_theory.specs.KnownContent.{allocs}
use Rattle.ceal_theory.specs.Repair.{State}
use Rattle.ceal_theory.specs.Moves.{Machine, Went, next_move}
use Rattle.ceal_trace.proofs.Entries.{stamps-changed, ends-changed, ends-after, entry-old}
use Rattle.ceal_trace.specs.Items.{item_of, forest_of, unclosed_after, unclosed}
use Rattle.ceal_trace.specs.Nodes.{Entry, Inserted, stamps_in, has_node, node_at, steps_at, end_in, held_by, new_entry, with_entry_after, with_steps, steps_set}
use Rattle.ceal_trace.specs.declared.node.Node.{Node}
use Rattle.ceal_trace.specs.declared.node.Node.TheVariants.{Alloc, Write}

-- ---- the tables after one step more at a node, and after a new node after it

pub record StepMore (cursor : ℕ) (old new : Tables) : Type 0 where
  pub nodes : new.trace.nodes ≡ with_steps cursor (steps_at cursor old.trace.nodes + 1) old.trace.nodes
  pub mods : new.mods ≡ old.mods
  pub queue : new.stale ≡ old.stale
  pub kept : Kept new

pub record NodeMore (cursor s : ℕ) (node : Node) (old new : Tables) : Type 0 where
  pub nodes : new.trace.nodes ≡ with_entry_after cursor (new_entry s node) old.trace.nodes
  pub inserted : Inserted cursor s node old.trace.nodes new.trace.nodes
  pub bases : (p : Place) → base_in new.mods p ≡ base_in old.mods p
  pub behind : QueuedAfter cursor old → QueuedAfter s new
  pub kept : Kept new

-- ---- the nodes

module _ (start : Start) (v : View) (reads : List ℕ) (behind : List Entry) (p : Placed start v reads behind) where
  pub nodes-distinct : Distinct (stamps_in (through p.done p.last ++ behind))
  nodes-distinct = subst (λ es. Distinct (stamps_in es)) p.nodes p.kept.step.whole.order.distinct

  pub cursor-here : has_node v.cursor v.tables.trace.nodes ≡ true
  cursor-here = subst (λ es. has_node v.cursor es ≡ true) (sym p.nodes) (subst (λ s. has_node s (through p.done p.last ++ behind) ≡ true) p.cursor (has-last p.done p.last behind nodes-distinct))

  pub step-nodes : (t : Tables) → StepMore v.cursor v.tables t → t.trace.nodes ≡ through p.done (more p.last) ++ behind
  step-nodes t h =
      h.nodes ∙ (ap (λ es. with_steps v.cursor (steps_at v.cursor es + 1) es) p.nodes
      ∙ (ap (λ s. with_steps s (steps_at s (through p.done p.last ++ behind) + 1) (through p.done p.last ++ behind)) (sym p.cursor)
      ∙ (ap (λ n. with_steps p.last.stamp (n + 1) (through p.done p.last ++ behind)) (steps-there p.done p.last behind nodes-distinct)
      ∙ nodes-step p.done p.last behind nodes-distinct (p.last.steps + 1))))

  pub step-stamps : (t : Tables) → StepMore v.cursor v.tables t → stamps_in t.trace.nodes ≡ stamps_in v.tables.trace.nodes
  step-stamps t h = ap stamps_in h.nodes ∙ stamps-changed v.cursor (steps_set (steps_at v.cursor v.tables.trace.nodes + 1)) (λ e. refl) v.tables.trace.nodes

  pub step-late : (t : Tables) → StepMore v.cursor v.tables t → QueuedAfter v.cursor t
  step-late t h r i = subst (λ ss. place v.cursor ss < place r ss) (sym (step-stamps t h)) (p.late r (subst (λ (q : _). is_in r q.stamps ≡ true) h.queue i))

  unfoldable pub placed-step : (t : Tables) (n : ℕ) → StepMore v.cursor v.tables t → Placed start (record v { tables = t; spent = n }) reads behind
  placed-step t n h = record {
    kept = h.kept;
    done = p.done;
    last = more p.last;
    nodes = step-nodes t h;
    cursor = p.cursor;
    late = step-late t h;
    opened = opened-step p.done p.last (Some []) ∙ p.opened;
    began = began-step start p.done p.last p.began;
    unfinished = unfinished-ends v.frames v.tables.trace.nodes t.trace.nodes
        (λ r. ap (end_in r) h.nodes ∙ ends-changed v.cursor (steps_set (steps_at v.cursor v.tables.trace.nodes + 1)) (λ e. refl) r v.tables.trace.nodes (λ e. refl)) p.unfinished;
  }

  unfoldable pub placed-put : (t : Tables) (s : ℕ) (node : Node) (heap : Contents) (limit : Option Stamp) (fs : List Frame) (rs : List ℕ) → NodeMore v.cursor s node v.tables t
      → unclosed (unclosed_after s node (reads ++ start.reads)) [] ≡ Some (rs ++ start.reads) → Unfinished fs t.trace.nodes
      → Placed start (record { tables = t; heap = heap; spent = v.spent; cursor = s; limit = limit; frames = fs }) rs behind
  placed-put t s node heap limit fs rs h o u = record {
    kept = h.kept;
    done = through p.done p.last;
    last = new_entry s node;
    nodes = h.nodes ∙ (ap (with_entry_after v.cursor (new_entry s node)) p.nodes
        ∙ (ap (λ c. with_entry_after c (new_entry s node) (through p.done p.last ++ behind)) (sym p.cursor) ∙ nodes-put p.done p.last behind nodes-distinct (new_entry s node)));
    cursor = refl;
    late = h.behind p.late;
    opened = opened-put (through p.done p.last) (reads ++ start.reads) p.opened (new_entry s node) ∙ o;
    began = began-put start (through p.done p.last) (new_entry s node) p.began;
    unfinished = u;
  }

-- ---- the blocks

pub blocks-still : (code : Code) (inputs : List Block) (heap : Contents) (old new : Tables) → ((p : Place) → base_in new.mods p ≡ base_in old.mods p)
    → blocks_at new.trace.nodes ≡ blocks_at old.trace.nodes
    → ((s : ℕ) (p : Place) (v : Word) → Records p v (node_at s new.trace.nodes) → There (length inputs) heap p.block)
    → ((s i : ℕ) (key : Key) → node_at s new.trace.nodes ≡ Some (Alloc (Input i) key) → ⊥)
    → HasBlocks code inputs heap old → HasBlocks code inputs heap new
blocks-still code inputs heap old new b a r cores h = record {
  bases = record { of_cores = λ c f. b (record { block = Core c; field = f }) ∙ h.bases.of_cores c f; of_inputs = λ i f. b (record { block = Input i; field = f }) ∙ h.bases.of_inputs i f };
  lives = record {
    live = λ c. subst (λ bs. IsLive heap (Core c) ↔ In c bs) (sym same) (h.lives.live c);
    once = subst (λ bs. Once bs) (sym same) h.lives.once;
    cores = cores;
  };
  reads = r;
}
  where
    same : allocs (forest_of new.trace.nodes) ≡ allocs (forest_of old.trace.nodes)
    same = allocs-nodes new.trace.nodes ∙ (a ∙ sym (allocs-nodes old.trace.nodes))

module _ (code : Code) (inputs : List Block) (heap : Contents) (old new : Tables) (h : HasBlocks code inputs heap old) where
  pub blocks-steps : (s n : ℕ) → new.trace.nodes ≡ with_steps s n old.trace.nodes → new.mods ≡ old.mods → HasBlocks code inputs heap new
  blocks-steps s n e mods = blocks-still code inputs heap old new (λ p. ap (λ k. base_in k p) mods) (ap blocks_at e ∙ blocks-step s n old.trace.nodes)
      (λ u p v r. h.reads u p v (subst (Records p v) (ap (node_at u) e ∙ node-step u s n old.trace.nodes) r))
      (λ u i key k. h.lives.cores u i key (sym (ap (node_at u) e ∙ node-step u s n old.trace.nodes) ∙ k)) h

  pub blocks-more : (cursor : ℕ) → StepMore cursor old new → HasBlocks code inputs heap new
  blocks-more cursor m = blocks-steps cursor (steps_at cursor old.trace.nodes + 1) m.nodes m.mods

  -- a new node that allocates nothing
  pub blocks-node : (cursor s : ℕ) (node : Node) → NodeMore cursor s node old new → ((bs : List ℕ) → node_blocks node bs ≡ bs)
      → ((p : Place) (v : Word) → Records p v (Some node) → There (length inputs) heap p.block) → ((i : ℕ) (key : Key) → Some node ≡ Some (Alloc (Input i) key) → ⊥) → HasBlocks code inputs heap new
  blocks-node cursor s node m none there core = blocks-still code inputs heap old new m.bases
      (ap blocks_at m.nodes ∙ blocks-put cursor s node none old.trace.nodes) go cores h
    where
      cores : (u i : ℕ) (key : Key) → node_at u new.trace.nodes ≡ Some (Alloc (Input i) key) → ⊥
      cores u i key k = elim (eqb_tells u s) [
        | inl e ↦ core i key (sym (ap (λ k. node_at k new.trace.nodes) e.1 ∙ m.inserted.node) ∙ k)
        | inr e ↦ h.lives.cores u i key (sym (ap (node_at u) m.nodes ∙ ap held_by (entry-old cursor (new_entry s node) u old.trace.nodes e.1)) ∙ k)
      ]

      go : (u : ℕ) (p : Place) (v : Word) → Records p v (node_at u new.trace.nodes) → There (length inputs) heap p.block
      go u p v r = elim (eqb_tells u s) [
        | inl e ↦ there p v (subst (Records p v) (ap (λ k. node_at k new.trace.nodes) e.1 ∙ m.inserted.node) r)
        | inr e ↦ h.reads u p v (subst (Records p v) (ap (node_at u) m.nodes ∙ ap held_by (entry-old cursor (new_entry s node) u old.trace.nodes e.1)) r)
      ]

-- ---- the course

module _ (code : Code) (inputs : List Block) (start : Start) (v : View) (front : List Entry) (items : List Item) (m : State → Machine) (c : CourseNow code inputs start v front items m) where
  -- after one turn that makes no block
  pub course-turn : (v' : View) (front' : List Entry) (items' : List Item) (m' : State → Machine) (w : List Item) (store' : Store) → items' ≡ items ++ w
      → ((names : ℕ → ℕ) → next_move code names (m (state_at code inputs v c.store (start.chosen ++ c.made))) ≡ Went w (m' (state_at code inputs v' store' (start.chosen ++ c.made))))
      → (m' (state_at code inputs v' store' (start.chosen ++ c.made))).state.number ≡ (m (state_at code inputs v c.store (start.chosen ++ c.made))).state.number
      → ((p : Place) → KnownBlock (length inputs) (known_after [] items') p.block → store' p ≡ contents_after (base_in v'.tables.mods) front' p)
      → Given start.first start.numbers (start.chosen ++ c.made) v'.heap
      → CourseNow code inputs start v' front' items' m'
  course-turn v' front' items' m' w store' e t number same given =
      let old : Machine = m (state_at code inputs v c.store (start.chosen ++ c.made)) in
      let new : Machine = m' (state_at code inputs v' store' (start.chosen ++ c.made)) in
      let g : GoesKnowing code (length inputs) start.old (known_after [] items) w new =
      (knowing-law code).moves (λ k. 0) (length inputs) start.old (known_after [] items) old new w c.knows (t (λ k. 0)) (inl number) in
      let k : KnownItems (length inputs) [] (items ++ w) g.known = known-items-append c.mentions g.items in
      let after : g.known ≡ known_after [] (items ++ w) = known-items-after k in
      record {
        store = store';
        made = c.made;
        out = c.out ++ w;
        written = e ∙ (ap (λ is. is ++ w) c.written ∙ append_assoc (items_before start) c.out w);
        mentions = subst (λ is. KnownItems (length inputs) [] is (known_after [] is)) (sym e) (subst (λ bs. KnownItems (length inputs) [] (items ++ w) bs) after k);
        comes = (chosen-law code).more start.machine old new (start.chosen ++ c.made) c.out w c.comes (λ names. leads-move code names old new w (t names)) number;
        knows = subst (λ bs. Knows code (length inputs) start.old bs new) (after ∙ ap (known_after []) (sym e)) g.knows;
        same = same;
        given = given;
      }

-- ---- the moves

module _ (code : Code) (inputs : List Block) (start : Start) (st : Stack) (v : View) (now : RunningNow code inputs start st v) where
  -- a step that leaves no item but itself
  pub now-quiet : (after : Stack) (t : Tables) → next code (words_of code inputs v.heap) st ≡ Quiet after → StepMore v.cursor v.tables t
      → RunningNow code inputs start after (record { tables = t; heap = v.heap; spent = v.spent + 1; cursor = v.cursor; limit = v.limit; frames = v.frames })
  unfolding next_move placed-step
  now-quiet after t does h = record {
    reads = now.reads;
    left = now.left;
    waits = now.waits;
    tail = now.tail;
    placed = placed-step start v now.reads (entries now.left ++ now.tail) now.placed t (v.spent + 1) h;
    tails = now.tails;
    bare = now.bare;
    bounds = now.bounds;
    blocks = blocks-more code inputs v.heap v.tables t now.blocks v.cursor h;
    course = course-turn code inputs start v (through now.placed.done now.placed.last) (forest_of (through now.placed.done now.placed.last))
        (λ s. running_at s st now.waits (forest_of (entries now.left ++ now.tail))) now.course
        (record { tables = t; heap = v.heap; spent = v.spent + 1; cursor = v.cursor; limit = v.limit; frames = v.frames })
        (through now.placed.done (more now.placed.last)) (forest_of (through now.placed.done (more now.placed.last))) (λ s. running_at s after now.waits (forest_of (entries now.left ++ now.tail)))
        (item.Step ∷ []) now.course.store (forest-step now.placed.done now.placed.last)
        (λ names. rw does refl) refl
        (λ p k. now.course.same p (subst (λ bs. KnownBlock (length inputs) bs p.block)
        (ap (known_after []) (forest-step now.placed.done now.placed.last) ∙ known-append [] (forest_of (through now.placed.done now.placed.last)) (item.Step ∷ [])) k)
        ∙ (sym (ap (λ (f : Store). f p) (contents-step (base_in v.tables.mods) now.placed.done now.placed.last))
        ∙ ap (λ d. contents_after (base_in d) (through now.placed.done (more now.placed.last)) p) (sym h.mods)))
        now.course.given;
  }

  pub here-next : (t : Tables) → StepMore v.cursor v.tables t → has_node v.cursor t.trace.nodes ≡ true
  here-next t h = cursor-here start (record v { tables = t; spent = v.spent + 1 }) now.reads (entries now.left ++ now.tail)
      (placed-step start v now.reads (entries now.left ++ now.tail) now.placed t (v.spent + 1) h)

  pub late-next : (t : Tables) → StepMore v.cursor v.tables t → QueuedAfter v.cursor t
  late-next t h = step-late start v now.reads (entries now.left ++ now.tail) now.placed t h

  -- a step and a node after all in front
  pub items-next : (s : ℕ) (node : Node)
      → forest_of (through (through now.placed.done (more now.placed.last)) (new_entry s node)) ≡ forest_of (through now.placed.done now.placed.last) ++ (item.Step ∷ item_of node)
  items-next s node = forest-put (through now.placed.done (more now.placed.last)) s node
      ∙ (ap (λ is. is ++ item_of node) (forest-step now.placed.done now.placed.last) ∙ append_assoc (forest_of (through now.placed.done now.placed.last)) (item.Step ∷ []) (item_of node))

  -- the contents in front, where bases are the same
  pub same-next : (t : Tables) → ((p : Place) → base_in t.mods p ≡ base_in v.tables.mods p) → (p : Place)
      → KnownBlock (length inputs) (known_after [] (forest_of (through now.placed.done now.placed.last))) p.block
      → now.course.store p ≡ contents_after (base_in t.mods) (through now.placed.done (more now.placed.last)) p
  same-next t b p k = now.course.same p k
      ∙ (contents-base (base_in v.tables.mods) (base_in t.mods) p (sym (b p)) (through now.placed.done now.placed.last)
      ∙ sym (ap (λ (f : Store). f p) (contents-step (base_in t.mods) now.placed.done now.placed.last)))

  -- the next act names only known blocks
  pub knows-act : KnownAct (length inputs) (known_after [] (forest_of (through now.placed.done now.placed.last))) (next code (words_of code inputs v.heap) st)
  knows-act = next-known (length inputs) (known_after [] (forest_of (through now.placed.done now.placed.last))) (words_of code inputs v.heap) now.course.knows.plain (words_of code inputs v.heap)
      (λ b k. refl) code st now.course.knows.mode.0

  -- a write: its node is after the cursor
  pub now-write : (after : Stack) (p : Place) (value : Word) (t1 t : Tables) (s : ℕ) → next code (words_of code inputs v.heap) st ≡ Writes p value after
      → StepMore v.cursor v.tables t1 → NodeMore v.cursor s (Write p value) t1 t
      → RunningNow code inputs start after (record { tables = t; heap = v.heap; spent = v.spent + 1; cursor = s; limit = v.limit; frames = v.frames })
  unfolding next_move placed-step placed-put
  now-write after p value t1 t s does h k = record {
    reads = now.reads;
    left = now.left;
    waits = now.waits;
    tail = now.tail;
    placed = placed-put start (record { tables = t1; heap = v.heap; spent = v.spent + 1; cursor = v.cursor; limit = v.limit; frames = v.frames }) now.reads (entries now.left ++ now.tail)
        (placed-step start v now.reads (entries now.left ++ now.tail) now.placed t1 (v.spent + 1) h) t s (Write p value) v.heap v.limit v.frames now.reads k refl
        (unfinished-ends v.frames t1.trace.nodes t.trace.nodes (λ r. ap (end_in r) k.nodes ∙ ends-after v.cursor (new_entry s (Write p value)) r t1.trace.nodes refl)
        (placed-step start v now.reads (entries now.left ++ now.tail) now.placed t1 (v.spent + 1) h).unfinished);
    tails = now.tails;
    bare = now.bare;
    bounds = now.bounds;
    blocks = blocks-node code inputs v.heap t1 t (blocks-more code inputs v.heap v.tables t1 now.blocks v.cursor h) v.cursor s (Write p value) k (λ bs. refl) (λ q w r. absurd (cc))
        (λ i key e. absurd (cc));
    course = course-turn code inputs start v (through now.placed.done now.placed.last) (forest_of (through now.placed.done now.placed.last))
        (λ s. running_at s st now.waits (forest_of (entries now.left ++ now.tail))) now.course
        (record { tables = t; heap = v.heap; spent = v.spent + 1; cursor = s; limit = v.limit; frames = v.frames })
        (through (through now.placed.done (more now.placed.last)) (new_entry s (Write p value))) (forest_of (through (through now.placed.done (more now.placed.last)) (new_entry s (Write p value))))
        (λ s. running_at s after now.waits (forest_of (entries now.left ++ now.tail)))
        (item.Step ∷ item.Write p value ∷ []) (stored now.course.store p value) (items-next s (Write p value))
        (λ names. rw does refl) refl
        (λ q c. stored-base now.course.store (contents_after (base_in t.mods) (through now.placed.done (more now.placed.last))) q
        (same-next t (λ o. k.bases o ∙ ap (λ d. base_in d o) h.mods) q (known-there s (Write p value) q c)) p value
        ∙ sym (ap (λ (f : Store). f q) (contents-put (base_in t.mods) (through now.placed.done (more now.placed.last)) s (Write p value))))
        now.course.given;
  }
    where
      known-there : (s : ℕ) (node : Node) (q : Place)
          → KnownBlock (length inputs) (known_after [] (forest_of (through (through now.placed.done (more now.placed.last)) (new_entry s (Write p value))))) q.block
          → KnownBlock (length inputs) (known_after [] (forest_of (through now.placed.done now.placed.last))) q.block
      known-there s node q c = subst (λ bs. KnownBlock (length inputs) bs q.block)
          (ap (known_after []) (items-next s (Write p value)) ∙ known-append [] (forest_of (through now.placed.done now.placed.last)) (item.Step ∷ item.Write p value ∷ [])) c
