-- An allocation that is left over is taken.
use Rattle.std.proofs.Common.{◌≡◌, ◌≢◌, ℕ, inl, inr, ◌+◌, ◌<◌, ◌≤◌, true, false, Option, Some, None, List, [], ◌∷◌, ◌++◌, length, refl, sym, ap, subst, ◌∙◌, arith, append_assoc, append-nil}
use Rattle.std.proofs.Common.{length-append}
use Rattle.std.specs.Prelude.{option_map}
use Rattle.std.proofs.Math.Path.{fun_ext}
use Rattle.std.proofs.lemmas.Bool.{eq-eqb}
use Rattle.std.proofs.lemmas.Bool.Decides.{eqb_tells}
use Rattle.ceal_base.specs.Block.{Block}
use Rattle.ceal_base.specs.declared.forest.Item.{Item}
use Rattle.ceal_base.specs.declared.forest.Item.TheVariants as item
use Rattle.ceal_base.specs.declared.forest.Key.{Key}
use Rattle.ceal_base.specs.declared.word.BlockId.{BlockId}
use Rattle.ceal_base.specs.declared.word.BlockId.TheVariants.{Input, Core}
use Rattle.ceal_base.specs.declared.word.Place.{Place}
use Rattle.ceal_code.proofs.Replay.MemoryChanges.{made-shape}
use Rattle.ceal_code.specs.Init.{made, pointer}
use Rattle.ceal_code.specs.Program.{Code}
use Rattle.ceal_code.specs.Replay.{Store, In, here, KnownBlock, count, cleared, cell_default}
use Rattle.ceal_code.specs.Step.{Stack, Run, Makes, next}
use Rattle.ceal_code.specs.Value.{Plain, Variables, set, field_kind}
use Rattle.ceal_heap.specs.Heap.{Contents, Live, plain_of, plain_block, standing, known, Standing, Unused, Revoked, Released}
use Rattle.ceal_order.specs.Stamps as order
use Rattle.ceal_order.specs.Stamps.{is_in, head_of, place}
use Rattle.ceal_order.specs.declared.stamp.Stamp.{Stamp}
use Rattle.ceal_repair.proofs.Nodes.NodeItems.{more, in-case, behind-all, distinct-front, distinct-back, contents-put, contents-step, contents-base, opened-put, opened-step, began-put, began-step}
use Rattle.ceal_repair.proofs.Nodes.NodeItems.{known-append, known-allocs, known-items-append, known-items-after, tails-bound}
use Rattle.ceal_repair.proofs.Reuse.NoNewEnds.{end-append, append-end, cut-to-end, unfinished-none}
use Rattle.ceal_repair.proofs.Reuse.LeftOver.{first-left, around-left, knows-bare, MatchAlloc, match-alloc, taken-as, TakenAs}
use Rattle.ceal_repair.proofs.Runs.NewBlock.{in-count, cleared-own, cleared-other, differs, contents-written, unwritten, node-count}
use Rattle.ceal_repair.proofs.Runs.UnitSteps.{StepMore, placed-step, blocks-more, blocks-steps, items-next, step-nodes}
use Rattle.ceal_repair.proofs.Nodes.NodeBlocks.{blocks_at, allocs-nodes, node_blocks}
use Rattle.ceal_repair.specs.Around.{Bounds}
use Rattle.ceal_repair.proofs.Runs.FewNumbers.{given-same}
use Rattle.ceal_repair.specs.Blocks.{HasBlocks, Given, KeepsReadable}
use Rattle.ceal_repair.specs.Entries.{entry, end_entry, entries, CutTo, Lies}
use Rattle.ceal_repair.specs.Moment.{View, Start, Placed, CourseNow, RunningNow, through, state_at, items_before}
use Rattle.ceal_repair.specs.Repairs.{nodes_to}
use Rattle.ceal_repair.specs.Words.{words_of, default_by_standing}
use Rattle.ceal_repair.specs.Covered.{contents_after}
use Rattle.ceal_repair.specs.Kept.{Kept, QueuedAfter, base_in}
use Rattle.ceal_repair.specs.Lists.{allocates, stamps_where, before, nodes_after, between}
use Rattle.ceal_repair.specs.declared.tables.Tables.{Tables}
use Rattle.ceal_theory.specs.Cover.{known_after}
use Rattle.ceal_theory.specs.Groves.{Grove, Bare, trace_in, bare}
use Rattle.ceal_trace.proofs.Entries.{has-held, has-read, stamps-changed, ends-changed}
use Rattle.ceal_trace.proofs.Parts.{not_before, entry-part, position-part, changed-part}
use Rattle.ceal_trace.specs.Items.{forest_of}
use Rattle.ceal_trace.specs.Nodes.{Entry, stamps_in, has_node, position, node_at, held_by, end_in, with_steps, steps_set, is_read}
use Rattle.ceal_trace.specs.declared.node.Node.TheVariants.{Alloc, End}
use Rattle.ceal_base.specs.declared.typed.StructInfo.{StructInfo}
use Rattle.ceal_repair.proofs.Revocation.FirstNode.{cursor-at, front-long}
use Rattle.ceal_theory.specs.Slices.{with_inputs}
use Rattle.ceal_theory.specs.Levels.{first, around, levels}
use Rattle.ceal_theory.specs.Course.{frames_at, running_at, BareMode, BareFrames, BareSame}
use Rattle.ceal_theory.specs.Known.{Sure, Knows, KnownItems, GoesKnowing}
use Rattle.ceal_theory.specs.Moves.{Machine, Running, Went, next_move, BecomesBy}
use Rattle.ceal_theory.specs.Repair.{State, works, clears}
use Rattle.ceal_theory.proofs.MoveMachine.ChosenNumbers.{chosen-law}
use Rattle.ceal_theory.proofs.Store.KnownBlocks.{knowing-law}
use Rattle.ceal_theory.proofs.MoveMachine.MachineLaws.{leads-move, leads-then}
use Rattle.ceal_theory.proofs.Reuse.StepsBetween.{bare-law, frames-self}
use Rattle.ceal_theory.proofs.Reuse.OldBlocksOnly.{SureAlloc, sure-alloc}
use Rattle.ceal_theory.proofs.Reuse.TakenItems.{key-same}
use Rattle.ceal_order.proofs.Places.{place_tells}

-- ---- the nodes up to the limit

behind-part : (e : Entry) (back front : List Entry) → has_node e.stamp front ≡ false → nodes_after e.stamp (front ++ e ∷ back) ≡ back
behind-part e back [] h = rw (eq-eqb e.stamp e.stamp refl) refl
behind-part e back (x ∷ xs) h = elim (eqb_tells x.stamp e.stamp) [
  | inl p ↦ absurd (let bad : true ≡ false = rw p.0 at h in cc)
  | inr p ↦ rw p.0 (behind-part e back xs (rw p.0 at h))
]

pub before-part : (e : Entry) (back front : List Entry) → has_node e.stamp front ≡ false → before e.stamp (front ++ e ∷ back) ≡ front
before-part e back [] h = rw (eq-eqb e.stamp e.stamp refl) refl
before-part e back (x ∷ xs) h = elim (eqb_tells x.stamp e.stamp) [
  | inl p ↦ absurd (let bad : true ≡ false = rw p.0 at h in cc)
  | inr p ↦ rw p.0 (ap (λ es. x ∷ es) (before-part e back xs (rw p.0 at h)))
]

not-later-part : (s : ℕ) (xs ys : List Entry) → has_node s (xs ++ ys) ≡ false → has_node s ys ≡ false
not-later-part s [] ys h = h
not-later-part s (x ∷ xs) ys h = elim (eqb_tells x.stamp s) [
  | inl p ↦ absurd (let bad : true ≡ false = rw p.0 at h in cc)
  | inr p ↦ not-later-part s xs ys (rw p.0 at h)
]

module _ (code : Code) (inputs : List Block) (start : Start) (st : Stack) (v : View) (now : RunningNow code inputs start st v) where
  pub bound-now : Bounds v.limit now.tail
  bound-now = tails-bound now.tails now.bounds

  module _ (e : Stamp) (h : v.limit ≡ Some e) where
    bound-some : Bounds (Some e) now.tail
    bound-some = subst (λ o. Bounds o now.tail) h bound-now

    ending : Entry
    ending = end_entry e.0 bound-some.0 bound-some.1

    nodes-limit : v.tables.trace.nodes ≡ (through now.placed.done now.placed.last ++ entries now.left) ++ ending ∷ bound-some.2
    unfolding ending
    nodes-limit = now.placed.nodes ∙ (ap (λ es. through now.placed.done now.placed.last ++ (entries now.left ++ es)) bound-some.3
        ∙ sym (append_assoc (through now.placed.done now.placed.last) (entries now.left) (end_entry e.0 bound-some.0 bound-some.1 ∷ bound-some.2)))

    not-before-limit : has_node e.0 (through now.placed.done now.placed.last ++ entries now.left) ≡ false
    unfolding ending
    not-before-limit = not_before (through now.placed.done now.placed.last ++ entries now.left) (end_entry e.0 bound-some.0 bound-some.1) bound-some.2
        (subst (λ es. order.Distinct (stamps_in es)) nodes-limit now.placed.kept.step.whole.order.distinct)

    pub limit-there : has_node e.0 v.tables.trace.nodes ≡ true
    unfolding ending
    limit-there = has-held e.0 (End (record { 0 = bound-some.0 })) v.tables.trace.nodes
        (ap (node_at e.0) nodes-limit ∙ ap held_by (entry-part (end_entry e.0 bound-some.0 bound-some.1) bound-some.2 (through now.placed.done now.placed.last ++ entries now.left) not-before-limit))

    nodes-cursor : v.tables.trace.nodes ≡ now.placed.done ++ now.placed.last ∷ (entries now.left ++ now.tail)
    nodes-cursor = now.placed.nodes ∙ behind-all now.placed.done now.placed.last (entries now.left ++ now.tail)

    not-done-here : has_node now.placed.last.stamp now.placed.done ≡ false
    not-done-here = not_before now.placed.done now.placed.last (entries now.left ++ now.tail) (subst (λ es. order.Distinct (stamps_in es)) nodes-cursor now.placed.kept.step.whole.order.distinct)

    pub limit-behind : position v.cursor v.tables.trace.nodes < position e.0 v.tables.trace.nodes
    unfolding ending
    limit-behind =
        let here : position v.cursor v.tables.trace.nodes ≡ length now.placed.done =
        ap (position v.cursor) nodes-cursor ∙ (ap (λ k. position k (now.placed.done ++ now.placed.last ∷ (entries now.left ++ now.tail))) (sym now.placed.cursor)
        ∙ position-part now.placed.last (entries now.left ++ now.tail) now.placed.done not-done-here) in
        let far : position e.0 v.tables.trace.nodes ≡ length (through now.placed.done now.placed.last ++ entries now.left) =
        ap (position e.0) nodes-limit ∙ position-part (end_entry e.0 bound-some.0 bound-some.1) bound-some.2 (through now.placed.done now.placed.last ++ entries now.left) not-before-limit in
        let long : length (through now.placed.done now.placed.last ++ entries now.left) ≡ length now.placed.done + 1 + length (entries now.left) =
        length-append (through now.placed.done now.placed.last) (entries now.left) ∙ ap (λ k. k + length (entries now.left)) (length-append now.placed.done (now.placed.last ∷ [])) in
        omega (arith, here, far, long)

    left-between : between v.cursor e.0 v.tables.trace.nodes ≡ entries now.left
    unfolding ending
    left-between =
        ap (λ es. before e.0 (nodes_after v.cursor es)) nodes-cursor
        ∙ (ap (λ k. before e.0 (nodes_after k (now.placed.done ++ now.placed.last ∷ (entries now.left ++ now.tail)))) (sym now.placed.cursor)
        ∙ (ap (before e.0) (behind-part now.placed.last (entries now.left ++ now.tail) now.placed.done not-done-here)
        ∙ (ap (λ es. before e.0 (entries now.left ++ es)) bound-some.3
        ∙ before-part (end_entry e.0 bound-some.0 bound-some.1) bound-some.2 (entries now.left) (not-later-part e.0 (through now.placed.done now.placed.last) (entries now.left) not-before-limit))))

  pub left-is : nodes_to v.limit v.cursor v.tables.trace.nodes ≡ entries now.left
  left-is = go v.limit refl
    where
      go : (o : Option Stamp) → v.limit ≡ o → nodes_to o v.cursor v.tables.trace.nodes ≡ entries now.left
      go None h = sym (ap entries (now.bare h))
      go (Some e) h = left-between e h

-- ---- revoked up to the match, which is then in front

-- the heap and the tables after nodes were revoked, and the steps on a node dropped
pub record CutMore (code : Code) (inputs : List Block) (cursor found : ℕ) (front : List Entry) (left rest : Grove) (tail : List Entry) (heap heap' : Contents) (old mid new : Tables) : Type 0 where
  pub cuts : CutTo found left rest
  pub lies : Lies cursor front rest tail mid
  pub bases : (p : Place) → base_in mid.mods p ≡ base_in old.mods p
  pub blocks : KeepsReadable heap heap'
  pub has : HasBlocks code inputs heap old → HasBlocks code inputs heap' mid
  pub kept_mid : Kept mid
  pub nodes : new.trace.nodes ≡ with_steps found 0 mid.trace.nodes
  pub mods : new.mods ≡ mid.mods
  pub queue : new.stale ≡ mid.stale
  pub kept : Kept new

-- the plain words of blocks whose state is the same
words-input : (code : Code) (inputs : List Block) (heap heap' : Contents) (i : ℕ) → words_of code inputs heap' (Input i) ≡ words_of code inputs heap (Input i)
unfolding words_of with_inputs
words-input code inputs heap heap' i = refl

pub words-core : (code : Code) (inputs : List Block) (heap : Contents) (b : ℕ) → words_of code inputs heap (Core b) ≡ plain_of heap (Core b)
unfolding words_of with_inputs
words-core code inputs heap b = refl

pub words-same : (code : Code) (inputs : List Block) (heap heap' : Contents) → KeepsReadable heap heap' → words_of code inputs heap' ≡ words_of code inputs heap
words-same code inputs heap heap' h = fun_ext go
  where
    go : (b : BlockId) → words_of code inputs heap' b ≡ words_of code inputs heap b
    go (Input i) = words-input code inputs heap heap' i
    go (Core b) = words-core code inputs heap' b ∙ (ap (option_map plain_block) (h.blocks (Core b)) ∙ sym (words-core code inputs heap b))

pub default-known : (structs : List StructInfo) (s : Standing) (block : Block) → option_map plain_block (known s) ≡ Some block → (field : ℕ)
    → default_by_standing structs s field ≡ cell_default (field_kind structs block.shape field)
default-known structs Unused block h field = absurd (cc)
default-known structs (Live x) block h field = let same : plain_block x ≡ block = cc in ap (λ (z : Block). cell_default (field_kind structs z.shape field)) same
default-known structs (Revoked x) block h field = let same : plain_block x ≡ block = cc in ap (λ (z : Block). cell_default (field_kind structs z.shape field)) same
default-known structs (Released shape) block h field = absurd (cc)

pub blocks-append : (c : ℕ) (xs ys : List Entry) → count c (blocks_at (xs ++ ys)) ≡ count c (blocks_at ys) + count c (blocks_at xs)
blocks-append c [] ys = omega arith
blocks-append c (x ∷ xs) ys = node-count c (count c (blocks_at ys)) x.node (blocks_at (xs ++ ys)) (blocks_at xs) (blocks-append c xs ys)

blocks-through : (done : List Entry) (last : Entry) → blocks_at (through done (more last)) ≡ blocks_at (through done last)
blocks-through [] last = refl
blocks-through (e ∷ es) last = ap (node_blocks e.node) (blocks-through es last)

-- after one turn that makes no block, where steps are dropped of what is left over
module _ (code : Code) (inputs : List Block) (start : Start) (v : View) (front : List Entry) (items : List Item) (m : State → Machine) (c : CourseNow code inputs start v front items m) where
  pub course-bare : (v' : View) (front' : List Entry) (items' : List Item) (m' : State → Machine) (w : List Item) (store' : Store) (mid : Machine) → items' ≡ items ++ w
      → ((names : ℕ → ℕ) → next_move code names (m (state_at code inputs v c.store (start.chosen ++ c.made))) ≡ Went w mid)
      → mid.state.number ≡ (m (state_at code inputs v c.store (start.chosen ++ c.made))).state.number
      → BareSame mid (m' (state_at code inputs v' store' (start.chosen ++ c.made)))
      → ((p : Place) → KnownBlock (length inputs) (known_after [] items') p.block → store' p ≡ contents_after (base_in v'.tables.mods) front' p)
      → Given start.first start.numbers (start.chosen ++ c.made) v'.heap
      → CourseNow code inputs start v' front' items' m'
  course-bare v' front' items' m' w store' mid e t number bare same given =
      let old : Machine = m (state_at code inputs v c.store (start.chosen ++ c.made)) in
      let new : Machine = m' (state_at code inputs v' store' (start.chosen ++ c.made)) in
      let g : GoesKnowing code (length inputs) start.old (known_after [] items) w mid =
      (knowing-law code).moves (λ k. 0) (length inputs) start.old (known_after [] items) old mid w c.knows (t (λ k. 0)) (inl number) in
      let k : KnownItems (length inputs) [] (items ++ w) g.known = known-items-append c.mentions g.items in
      let after : g.known ≡ known_after [] (items ++ w) = known-items-after k in
      record {
        store = store';
        made = c.made;
        out = c.out ++ w;
        written = e ∙ (ap (λ is. is ++ w) c.written ∙ append_assoc (items_before start) c.out w);
        mentions = subst (λ is. KnownItems (length inputs) [] is (known_after [] is)) (sym e) (subst (λ bs. KnownItems (length inputs) [] (items ++ w) bs) after k);
        comes = (chosen-law code).more start.machine old new (start.chosen ++ c.made) c.out w c.comes
            (λ names. subst (λ o. BecomesBy code names old new o) (append-nil w)
            (leads-then code names old mid new w [] (leads-move code names old mid w (t names)) (bare-law code names mid new bare)))
            (ap (λ (s : State). s.number) (sym bare.state) ∙ number);
        knows = subst (λ bs. Knows code (length inputs) start.old bs new) (after ∙ ap (known_after []) (sym e)) (knows-bare code (length inputs) start.old g.known mid new bare g.knows);
        same = same;
        given = given;
      }

module _ (code : Code) (inputs : List Block) (start : Start) (st : Stack) (v : View) (now : RunningNow code inputs start st v)
    (key : Key) (found : Stamp) (heap : Contents) (t1 t2 t : Tables) (rest : Grove)
    (h : StepMore v.cursor v.tables t1)
    (c : CutMore code inputs v.cursor found.0 (through now.placed.done (more now.placed.last)) now.left rest now.tail v.heap heap t1 t2 t)
    (matches : head_of (stamps_where (allocates key) (entries now.left)) ≡ Some found.0) where
  pub left-distinct : order.Distinct (stamps_in (entries now.left))
  left-distinct = distinct-front (entries now.left) now.tail (distinct-back (through now.placed.done now.placed.last) (entries now.left ++ now.tail)
      (subst (λ es. order.Distinct (stamps_in es)) now.placed.nodes now.placed.kept.step.whole.order.distinct))

  pub the-match : MatchAlloc key found.0 now.left rest
  the-match = match-alloc key found.0 c.cuts left-distinct matches

  -- the nodes before the steps are dropped, and after it
  nodes-mid : t2.trace.nodes ≡ through now.placed.done (more now.placed.last) ++ entry found.0 (Alloc the-match.block the-match.own) the-match.steps ∷ (entries the-match.behind ++ now.tail)
  nodes-mid = c.lies.nodes ∙ ap (λ g. through now.placed.done (more now.placed.last) ++ (entries g ++ now.tail)) the-match.is

  mid-distinct : order.Distinct
      (stamps_in (through now.placed.done (more now.placed.last) ++ entry found.0 (Alloc the-match.block the-match.own) the-match.steps ∷ (entries the-match.behind ++ now.tail)))
  mid-distinct = subst (λ es. order.Distinct (stamps_in es)) nodes-mid c.kept_mid.step.whole.order.distinct

  found-not-front : has_node found.0 (through now.placed.done (more now.placed.last)) ≡ false
  found-not-front =
      not_before (through now.placed.done (more now.placed.last)) (entry found.0 (Alloc the-match.block the-match.own) the-match.steps) (entries the-match.behind ++ now.tail) mid-distinct

  nodes-then : t.trace.nodes ≡ through (through now.placed.done (more now.placed.last)) (entry found.0 (Alloc the-match.block the-match.own) 0) ++ (entries the-match.behind ++ now.tail)
  nodes-then = c.nodes ∙ (ap (with_steps found.0 0) nodes-mid
      ∙ (changed-part (entry found.0 (Alloc the-match.block the-match.own) the-match.steps) (entries the-match.behind ++ now.tail) (steps_set 0)
      (through now.placed.done (more now.placed.last)) found-not-front
      ∙ sym (behind-all (through now.placed.done (more now.placed.last)) (entry found.0 (Alloc the-match.block the-match.own) 0) (entries the-match.behind ++ now.tail))))

  pub node-there : node_at found.0 t2.trace.nodes ≡ Some (Alloc the-match.block the-match.own)
  node-there = ap (node_at found.0) nodes-mid ∙ ap held_by
      (entry-part (entry found.0 (Alloc the-match.block the-match.own) the-match.steps) (entries the-match.behind ++ now.tail) (through now.placed.done (more now.placed.last)) found-not-front)

  -- nothing is queued up to it
  late-then : QueuedAfter found.0 t
  late-then r i =
      let q : is_in r t2.stale.stamps ≡ true = subst (λ (z : _). is_in r z.stamps ≡ true) c.queue i in
      let reads : is_read (node_at r t2.trace.nodes) ≡ true = c.kept_mid.step.queued r q in
      let there : has_node r t2.trace.nodes ≡ true = has-read r t2.trace.nodes reads in
      let own : has_node found.0 t2.trace.nodes ≡ true = has-held found.0 (Alloc the-match.block the-match.own) t2.trace.nodes node-there in
      let other : position r t2.trace.nodes ≢ position found.0 t2.trace.nodes = λ e.
      let same : r ≡ found.0 = place_tells r found.0 (stamps_in t2.trace.nodes) there own e in
      absurd (let bad : is_read (Some (Alloc the-match.block the-match.own)) ≡ true = subst (λ o. is_read o ≡ true) (ap (λ z. node_at z t2.trace.nodes) same ∙ node-there) reads in cc) in
      let first : position found.0 t2.trace.nodes ≡ length (through now.placed.done (more now.placed.last)) =
      ap (position found.0) nodes-mid ∙ position-part (entry found.0 (Alloc the-match.block the-match.own) the-match.steps) (entries the-match.behind ++ now.tail)
      (through now.placed.done (more now.placed.last)) found-not-front in
      let less : position found.0 t2.trace.nodes < position r t2.trace.nodes = omega (
        arith,
        first,
        other,
        c.lies.late r q,
        cursor-at v.cursor (through now.placed.done (more now.placed.last)) rest now.tail t2 c.kept_mid c.lies,
        front-long v.cursor (through now.placed.done (more now.placed.last)) rest now.tail t2 c.kept_mid c.lies,
      ) in
      subst (λ ss. place found.0 ss < place r ss) (sym (ap stamps_in c.nodes ∙ stamps-changed found.0 (steps_set 0) (λ e. refl) t2.trace.nodes)) less

  placed-stepped : Placed start (record { tables = t1; heap = v.heap; spent = v.spent + 1; cursor = v.cursor; limit = v.limit; frames = v.frames }) now.reads (entries now.left ++ now.tail)
  placed-stepped = placed-step start v now.reads (entries now.left ++ now.tail) now.placed t1 (v.spent + 1) h

  -- a read that has no end gets none
  no-end-then : (r : ℕ) → end_in r t1.trace.nodes ≡ None → end_in r t.trace.nodes ≡ None
  no-end-then r e =
      ap (end_in r) c.nodes ∙ (ends-changed found.0 (steps_set 0) (λ e. refl) r t2.trace.nodes (λ e. refl)
      ∙ (ap (end_in r) c.lies.nodes
      ∙ (let parts = end-append r (through now.placed.done (more now.placed.last)) (entries now.left ++ now.tail)
      (sym (ap (end_in r) (step-nodes start v now.reads (entries now.left ++ now.tail) now.placed t1 h)) ∙ e) in
      let back = end-append r (entries now.left) now.tail parts.1 in
      append-end r (through now.placed.done (more now.placed.last)) (entries rest ++ now.tail) parts.0 (append-end r (entries rest) now.tail (cut-to-end r c.cuts back.0) back.1))))

  blocks-mid : HasBlocks code inputs heap t2
  blocks-mid = c.has (blocks-more code inputs v.heap v.tables t1 now.blocks v.cursor h)

  -- what the machine takes
  the-taken : TakenAs key (trace_in now.left) the-match.block (trace_in the-match.behind)
  the-taken = taken-as key (trace_in now.left) the-match.block (trace_in the-match.behind) the-match.taken

  is-left : first (levels (forest_of (entries now.left ++ now.tail))) ≡ trace_in now.left
  is-left = first-left now.left v.limit now.tail (bound-now code inputs start st v now)

  the-sure : SureAlloc code (length inputs) start.old (words_of code inputs v.heap) key (record { block = the-match.block; leftover = the-taken.left })
  the-sure = sure-alloc code (length inputs) start.old (words_of code inputs v.heap) key (trace_in now.left)
      (subst (Sure code (length inputs) start.old (words_of code inputs v.heap)) is-left now.course.knows.mode.1)
      (record { block = the-match.block; leftover = the-taken.left }) the-taken.is

  -- in front it was not allocated
  core-count : count the-sure.core (blocks_at (through now.placed.done now.placed.last)) ≡ 0
  core-count =
      let all : count the-sure.core (blocks_at t2.trace.nodes) ≤ 1 = subst (λ bs. count the-sure.core bs ≤ 1) (allocs-nodes t2.trace.nodes) (blocks-mid.lives.once the-sure.core) in
      let parts : count the-sure.core (blocks_at t2.trace.nodes)
      ≡ count the-sure.core (blocks_at (entry found.0 (Alloc the-match.block the-match.own) the-match.steps ∷ (entries the-match.behind ++ now.tail)))
      + count the-sure.core (blocks_at (through now.placed.done (more now.placed.last))) =
      ap (λ es. count the-sure.core (blocks_at es)) nodes-mid ∙ blocks-append the-sure.core (through now.placed.done (more now.placed.last))
      (entry found.0 (Alloc the-match.block the-match.own) the-match.steps ∷ (entries the-match.behind ++ now.tail)) in
      let own : 1 ≤ count the-sure.core (blocks_at (entry found.0 (Alloc the-match.block the-match.own) the-match.steps ∷ (entries the-match.behind ++ now.tail))) =
      subst (λ d. 1 ≤ count the-sure.core (node_blocks (Alloc d the-match.own) (blocks_at (entries the-match.behind ++ now.tail)))) (sym the-sure.is)
      (in-count the-sure.core (the-sure.core ∷ blocks_at (entries the-match.behind ++ now.tail)) here) in
      let same : count the-sure.core (blocks_at (through now.placed.done (more now.placed.last))) ≡ count the-sure.core (blocks_at (through now.placed.done now.placed.last)) =
      ap (count the-sure.core) (blocks-through now.placed.done now.placed.last) in
      omega (arith, all, parts, own, same)

  not-known : In the-sure.core (known_after [] (forest_of (through now.placed.done now.placed.last))) → ⊥
  not-known i =
      let j : In the-sure.core (blocks_at (through now.placed.done now.placed.last)) =
      subst (In the-sure.core) (allocs-nodes (through now.placed.done now.placed.last)) (known-allocs (forest_of (through now.placed.done now.placed.last)) the-sure.core i) in
      omega (arith, core-count, in-count the-sure.core (blocks_at (through now.placed.done now.placed.last)) j)

  bases-then : (p : Place) → base_in t.mods p ≡ base_in v.tables.mods p
  bases-then p = ap (λ d. base_in d p) c.mods ∙ (c.bases p ∙ ap (λ d. base_in d p) h.mods)

  items-then : forest_of (through (through now.placed.done (more now.placed.last)) (entry found.0 (Alloc the-match.block the-match.own) 0))
      ≡ forest_of (through now.placed.done now.placed.last) ++ (item.Step ∷ item.Alloc the-match.block key ∷ [])
  items-then = items-next code inputs start st v now found.0 (Alloc the-match.block the-match.own)
      ∙ ap (λ k. forest_of (through now.placed.done now.placed.last) ++ (item.Step ∷ item.Alloc the-match.block k ∷ [])) (key-same the-match.own key the-match.same)

  known-then : known_after [] (forest_of (through (through now.placed.done (more now.placed.last)) (entry found.0 (Alloc the-match.block the-match.own) 0)))
      ≡ the-sure.core ∷ known_after [] (forest_of (through now.placed.done now.placed.last))
  known-then = ap (known_after []) items-then
      ∙ (known-append [] (forest_of (through now.placed.done now.placed.last)) (item.Step ∷ item.Alloc the-match.block key ∷ [])
      ∙ ap (λ d. known_after (known_after [] (forest_of (through now.placed.done now.placed.last))) (item.Step ∷ item.Alloc d key ∷ [])) the-sure.is)

  contents-then : (p : Place) → contents_after (base_in t.mods) (through (through now.placed.done (more now.placed.last)) (entry found.0 (Alloc the-match.block the-match.own) 0)) p
      ≡ contents_after (base_in t.mods) (through now.placed.done now.placed.last) p
  contents-then p = ap (λ (f : Store). f p) (contents-put (base_in t.mods) (through now.placed.done (more now.placed.last)) found.0 (Alloc the-match.block the-match.own))
      ∙ ap (λ (f : Store). f p) (contents-step (base_in t.mods) now.placed.done now.placed.last)

  same-other : (p : Place) → p.block ≢ Core the-sure.core → KnownBlock (length inputs) (known_after [] (forest_of (through now.placed.done now.placed.last))) p.block
      → cleared code now.course.store the-match.block key p
      ≡ contents_after (base_in t.mods) (through (through now.placed.done (more now.placed.last)) (entry found.0 (Alloc the-match.block the-match.own) 0)) p
  same-other p other k =
      ap (λ d. cleared code now.course.store d key p) the-sure.is
      ∙ (cleared-other code now.course.store the-sure.core key p (differs p.block (Core the-sure.core) other)
      ∙ (now.course.same p k
      ∙ (contents-base (base_in v.tables.mods) (base_in t.mods) p (sym (bases-then p)) (through now.placed.done now.placed.last)
      ∙ sym (contents-then p))))

  same-own : (p : Place) → p.block ≡ Core the-sure.core
      → cleared code now.course.store the-match.block key p
      ≡ contents_after (base_in t.mods) (through (through now.placed.done (more now.placed.last)) (entry found.0 (Alloc the-match.block the-match.own) 0)) p
  same-own p e =
      ap (λ d. cleared code now.course.store d key p) the-sure.is
      ∙ (cleared-own code now.course.store the-sure.core key p e
      ∙ (sym (bases-then p ∙ (ap (λ o. base_in v.tables.mods (record { block = o; field = p.field })) e
      ∙ (now.blocks.bases.of_cores the-sure.core p.field
      ∙ (default-known code.structs (standing v.heap (Core the-sure.core)) (made code (words_of code inputs v.heap) key) (sym (words-core code inputs v.heap the-sure.core) ∙ the-sure.held) p.field
      ∙ ap (λ s. cell_default (field_kind code.structs s p.field)) (made-shape code (words_of code inputs v.heap) key)))))
      ∙ (sym (contents-written (base_in t.mods) p (through now.placed.done now.placed.last) ∙ unwritten now.course.mentions p the-sure.core e not-known (base_in t.mods p))
      ∙ sym (contents-then p))))

  same-then : (p : Place)
      → KnownBlock (length inputs) (known_after [] (forest_of (through (through now.placed.done (more now.placed.last)) (entry found.0 (Alloc the-match.block the-match.own) 0)))) p.block
      → cleared code now.course.store the-match.block key p
      ≡ contents_after (base_in t.mods) (through (through now.placed.done (more now.placed.last)) (entry found.0 (Alloc the-match.block the-match.own) 0)) p
  same-then p k = go p.block refl (subst (λ bs. KnownBlock (length inputs) bs p.block) known-then k)
    where
      go : (d : BlockId) → p.block ≡ d → KnownBlock (length inputs) (the-sure.core ∷ known_after [] (forest_of (through now.placed.done now.placed.last))) p.block
          → cleared code now.course.store the-match.block key p
          ≡ contents_after (base_in t.mods) (through (through now.placed.done (more now.placed.last)) (entry found.0 (Alloc the-match.block the-match.own) 0)) p
      go (Input i) e j = same-other p (λ f. let no : Input i ≡ Core the-sure.core = sym e ∙ f in absurd (cc))
          (subst (KnownBlock (length inputs) (known_after [] (forest_of (through now.placed.done now.placed.last)))) (sym e)
          (let n : KnownBlock (length inputs) (the-sure.core ∷ known_after [] (forest_of (through now.placed.done now.placed.last))) (Input i) =
          subst (KnownBlock (length inputs) (the-sure.core ∷ known_after [] (forest_of (through now.placed.done now.placed.last)))) e j in n))
      go (Core b) e j = elim (in-case b the-sure.core (known_after [] (forest_of (through now.placed.done now.placed.last)))
          (subst (KnownBlock (length inputs) (the-sure.core ∷ known_after [] (forest_of (through now.placed.done now.placed.last)))) e j)) [
            | inl q ↦ same-own p (e ∙ ap Core q)
            | inr i ↦ same-other p (λ f. let no : Core b ≡ Core the-sure.core =
                sym e ∙ f in not-known (subst (λ d. In d (known_after [] (forest_of (through now.placed.done now.placed.last)))) (let q : b ≡ the-sure.core = cc in q) i))
                (subst (KnownBlock (length inputs) (known_after [] (forest_of (through now.placed.done now.placed.last)))) (sym e) i)
          ]

  mid-machine : Stack → Machine
  mid-machine after = record {
    state = clears code (works (state_at code inputs v now.course.store (start.chosen ++ now.course.made))) the-match.block key;
    mode = Running after the-taken.left;
    frames = frames_at now.waits (around (levels (forest_of (entries now.left ++ now.tail))));
  }

  taken-turn : (x u i : ℕ) (env : Variables) (below : Stack) → next code (words_of code inputs v.heap) st ≡ Makes key x u i env below → (names : ℕ → ℕ)
      → next_move code names (running_at (state_at code inputs v now.course.store (start.chosen ++ now.course.made)) st now.waits (forest_of (entries now.left ++ now.tail)))
      ≡ Went (item.Step ∷ item.Alloc the-match.block key ∷ []) (mid-machine (Run u i (set env x (pointer key the-match.block)) below))
  unfolding next_move mid-machine
  taken-turn x u i env below does names = rw (does, is-left, the-taken.is) refl

  state-then : clears code (works (state_at code inputs v now.course.store (start.chosen ++ now.course.made))) the-match.block key
      ≡ state_at code inputs (record { tables = t; heap = heap; spent = v.spent + 1; cursor = found.0; limit = v.limit; frames = v.frames }) (cleared code now.course.store the-match.block key)
      (start.chosen ++ now.course.made)
  state-then = ap (λ (x : Plain). record { store = cleared code now.course.store the-match.block key; plain = x; number = length (start.chosen ++ now.course.made); work = v.spent + 1 })
      (sym (words-same code inputs v.heap heap c.blocks))

  bare-then : (after : Stack) → BareSame (mid-machine after)
      (running_at (state_at code inputs (record { tables = t; heap = heap; spent = v.spent + 1; cursor = found.0; limit = v.limit; frames = v.frames })
      (cleared code now.course.store the-match.block key) (start.chosen ++ now.course.made))
      after now.waits (forest_of (entries the-match.behind ++ now.tail)))
  unfolding mid-machine
  bare-then after = record {
    state = state-then;
    mode = BareMode.runs (the-taken.same ∙ ap bare (sym (first-left the-match.behind v.limit now.tail (bound-now code inputs start st v now))));
    frames = subst (λ ls. BareFrames (frames_at now.waits (around (levels (forest_of (entries now.left ++ now.tail))))) (frames_at now.waits ls))
        (around-left now.left now.tail ∙ sym (around-left the-match.behind now.tail))
        (frames-self code (λ k. 0) (frames_at now.waits (around (levels (forest_of (entries now.left ++ now.tail))))));
  }

  mid-number : (after : Stack) → (mid-machine after).state.number ≡ length (start.chosen ++ now.course.made)
  unfolding mid-machine
  mid-number after = refl

  limit-some : v.limit ≡ None → ⊥
  limit-some none = let no : head_of (stamps_where (allocates key) (entries Bare)) ≡ Some found.0 =
      subst (λ g. head_of (stamps_where (allocates key) (entries g)) ≡ Some found.0) (now.bare none) matches in absurd (cc)

  -- the block of the match is taken: its node is in front, and what is after it is left over
  pub now-take-alloc : (x u i : ℕ) (env : Variables) (below : Stack) → next code (words_of code inputs v.heap) st ≡ Makes key x u i env below
      → RunningNow code inputs start (Run u i (set env x (pointer key the-match.block)) below)
      (record { tables = t; heap = heap; spent = v.spent + 1; cursor = found.0; limit = v.limit; frames = v.frames })
  now-take-alloc x u i env below does = record {
    reads = now.reads;
    left = the-match.behind;
    waits = now.waits;
    tail = now.tail;
    placed = record {
      kept = c.kept;
      done = through now.placed.done (more now.placed.last);
      last = entry found.0 (Alloc the-match.block the-match.own) 0;
      nodes = nodes-then;
      cursor = refl;
      late = late-then;
      opened = opened-put (through now.placed.done (more now.placed.last)) (now.reads ++ start.reads) (opened-step now.placed.done now.placed.last (Some []) ∙ now.placed.opened)
          (entry found.0 (Alloc the-match.block the-match.own) 0);
      began = began-put start (through now.placed.done (more now.placed.last)) (entry found.0 (Alloc the-match.block the-match.own) 0)
          (began-step start now.placed.done now.placed.last now.placed.began);
      unfinished = unfinished-none v.frames t1.trace.nodes t.trace.nodes no-end-then placed-stepped.unfinished;
    };
    tails = now.tails;
    bare = λ none. absurd (limit-some none);
    bounds = now.bounds;
    blocks = blocks-steps code inputs heap t2 t blocks-mid found.0 0 c.nodes c.mods;
    course = course-bare code inputs start v (through now.placed.done now.placed.last) (forest_of (through now.placed.done now.placed.last))
        (λ s. running_at s st now.waits (forest_of (entries now.left ++ now.tail))) now.course
        (record { tables = t; heap = heap; spent = v.spent + 1; cursor = found.0; limit = v.limit; frames = v.frames })
        (through (through now.placed.done (more now.placed.last)) (entry found.0 (Alloc the-match.block the-match.own) 0))
        (forest_of (through (through now.placed.done (more now.placed.last)) (entry found.0 (Alloc the-match.block the-match.own) 0)))
        (λ s. running_at s (Run u i (set env x (pointer key the-match.block)) below) now.waits (forest_of (entries the-match.behind ++ now.tail)))
        (item.Step ∷ item.Alloc the-match.block key ∷ []) (cleared code now.course.store the-match.block key) (mid-machine (Run u i (set env x (pointer key the-match.block)) below))
        items-then (taken-turn x u i env below does) (mid-number (Run u i (set env x (pointer key the-match.block)) below))
        (bare-then (Run u i (set env x (pointer key the-match.block)) below)) same-then
        (given-same start.first start.numbers (start.chosen ++ now.course.made) v.heap heap c.blocks now.course.given);
  }
