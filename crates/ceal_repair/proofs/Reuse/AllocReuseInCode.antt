-- A match is taken, in code.
use Rattle.std.proofs.Common.{◌≡◌, ℕ, inl, true, Some, None, List, [], ◌∷◌, ◌++◌, inr, refl, sym, ap, subst, ◌∙◌}
use Rattle.std.proofs.lemmas.Bool.{cases_Bool}
use Rattle.ceal_base.specs.Block.{Block}
use Rattle.ceal_base.specs.declared.forest.Item.TheVariants as item
use Rattle.ceal_base.specs.declared.forest.Key.{Key}
use Rattle.ceal_base.specs.declared.word.Place.{Place}
use Rattle.ceal_code.specs.Program.{Code}
use Rattle.ceal_code.specs.Step.{Stack}
use Rattle.ceal_heap.specs.Heap.{Contents, block_of, next}
use Rattle.ceal_order.specs.Stamps.{is_in, head_of}
use Rattle.ceal_order.specs.declared.stamp.Stamp.{Stamp}
use Rattle.ceal_repair.proofs.Revocation.FirstNode.{has-first}
use Rattle.ceal_repair.proofs.Nodes.NodeItems.{more}
use Rattle.ceal_repair.proofs.Reuse.LeftOver.{first-left, match-starts}
use Rattle.ceal_repair.proofs.Runs.UnitSteps.{blocks-more, step-nodes, step-late}
use Rattle.ceal_repair.proofs.Nodes.NodeBlocks.{node-step}
use Rattle.ceal_repair.proofs.Reuse.AllocReuse.{bound-now, left-is, CutMore}
use Rattle.ceal_repair.proofs.Runs.RepairView.{IsStepped, cursor-kept}
use Rattle.ceal_repair.specs.Blocks.{HasBlocks, KeepsReadable}
use Rattle.ceal_repair.specs.Entries.{end_entry, entries, starts, first_stamp, CutTo, IsUntil, Lies}
use Rattle.ceal_repair.specs.Moment.{Start, through}
use Rattle.ceal_repair.specs.Repairs.{code_of, inputs_of, view, RunsAt, left_nodes}
use Rattle.ceal_repair.specs.declared.repair.Repair.{Repair}
use Rattle.ceal_repair.specs.Kept.{Kept, base_in}
use Rattle.ceal_repair.specs.Lists.{allocates, stamps_where}
use Rattle.ceal_repair.specs.declared.tables.Tables.{Tables}
use Rattle.ceal_repair.proofs.Lists.PartedLists.{where-append}
use Rattle.ceal_theory.proofs.Reuse.TakenAfterRevocation.{taking-law}
use Rattle.ceal_theory.specs.Groves.{Knot, knot, Grove, Bare, Made, Put, Got, knots, Lacks}
use Rattle.ceal_theory.specs.Levels.{first, levels}
use Rattle.ceal_theory.specs.Take.{same_key, take_alloc}
use Rattle.ceal_trace.specs.Items.{forest_of}
use Rattle.ceal_trace.specs.Nodes.{Entry, has_node, node_at, with_steps}

pub cut-first : {s : ℕ} {g h : Grove} → CutTo s g h → first_stamp h ≡ Some s
cut-first (CutTo.there f) = f
cut-first (CutTo.more f c) = cut-first c

-- what revoking up to a node leaves
abbrev pub CutsThere : ℕ → ℕ → Tables → Tables → Type 0
CutsThere cursor until old new = (front : List Entry) (left : Grove) (tail : List Entry) → Lies cursor front left tail old → is_in until (starts left) ≡ true
    → (rest : Grove) × CutTo until left rest × Lies cursor front rest tail new

module _ (old new : Repair) (h : IsStepped old new) (start : Start) (st : Stack) (now : RunsAt start st old) where
  pub has-stepped : HasBlocks (code_of old) (inputs_of old) new.running.now.heap new.running.now.tables
  has-stepped = subst (λ z. HasBlocks (code_of old) (inputs_of old) z new.running.now.tables) (sym h.heap)
      (blocks-more (code_of old) (inputs_of old) old.running.now.heap old.running.now.tables new.running.now.tables now.blocks old.cursor.0 h.more)

  lies-stepped : Lies old.cursor.0 (through now.placed.done (more now.placed.last)) now.left now.tail new.running.now.tables
  lies-stepped = record {
    done = now.placed.done;
    last = more now.placed.last;
    ends = refl;
    is_at = now.placed.cursor;
    nodes = step-nodes start (view old) now.reads (entries now.left ++ now.tail) now.placed new.running.now.tables h.more;
    late = step-late start (view old) now.reads (entries now.left ++ now.tail) now.placed new.running.now.tables h.more;
  }

  pub lies-code : Lies new.cursor.0 (through now.placed.done (more now.placed.last)) now.left now.tail new.running.now.tables
  lies-code = subst (λ k. Lies k (through now.placed.done (more now.placed.last)) now.left now.tail new.running.now.tables) (sym (cursor-kept old new h)) lies-stepped

  module _ (key : Key) (found : Stamp) (matches : head_of (stamps_where (allocates key) (left_nodes old)) ≡ Some found.0) where
    pub matches-left : head_of (stamps_where (allocates key) (entries now.left)) ≡ Some found.0
    matches-left = subst (λ es. head_of (stamps_where (allocates key) es) ≡ Some found.0) (left-is (code_of old) (inputs_of old) start st (view old) now) matches

    pub until-code : IsUntil found.0 now.left now.tail
    until-code = inl (match-starts key now.left found.0 matches-left)

    module _ (t2 : Tables) (kept : Kept t2) (there : CutsThere new.cursor.0 found.0 new.running.now.tables t2) where
      pub cut-result : (rest : Grove) × CutTo found.0 now.left rest × Lies old.cursor.0 (through now.placed.done (more now.placed.last)) rest now.tail t2
      cut-result = (subst (λ k. CutsThere k found.0 new.running.now.tables t2) (cursor-kept old new h) there) (through now.placed.done (more now.placed.last)) now.left now.tail lies-stepped
          (match-starts key now.left found.0 matches-left)

      pub found-there : has_node found.0 t2.trace.nodes ≡ true
      found-there = has-first old.cursor.0 found.0 (through now.placed.done (more now.placed.last)) cut-result.0 now.tail t2 kept cut-result.2 (cut-first cut-result.1)

      pub cut-more-code : (heap : Contents) (t : Tables) → ((p : Place) → base_in t2.mods p ≡ base_in new.running.now.tables.mods p) → KeepsReadable new.running.now.heap heap
          → ((code : Code) (inputs : List Block) → HasBlocks code inputs new.running.now.heap new.running.now.tables → HasBlocks code inputs heap t2)
          → t.trace.nodes ≡ with_steps found.0 0 t2.trace.nodes → t.mods ≡ t2.mods → t.stale ≡ t2.stale → Kept t
          → CutMore (code_of old) (inputs_of old) old.cursor.0 found.0
          (through now.placed.done (more now.placed.last)) now.left cut-result.0 now.tail old.running.now.heap heap new.running.now.tables t2 t
      cut-more-code heap t bases blocks has nodes mods queue now_kept = record {
        cuts = cut-result.1;
        lies = cut-result.2;
        bases = bases;
        blocks = record { blocks = λ b. blocks.blocks b ∙ ap (λ z. block_of z b) h.heap; numbers = blocks.numbers ∙ ap (λ (z : Contents). next z) h.heap };
        has = λ k. has (code_of old) (inputs_of old) (subst (λ z. HasBlocks (code_of old) (inputs_of old) z new.running.now.tables) (sym h.heap) k);
        kept_mid = kept;
        nodes = nodes;
        mods = mods;
        queue = queue;
        kept = now_kept;
      }

-- the node of a match, where only steps were dropped
pub node-dropped : (found : ℕ) (t2 t : Tables) → t.trace.nodes ≡ with_steps found 0 t2.trace.nodes → node_at found t.trace.nodes ≡ node_at found t2.trace.nodes
node-dropped found t2 t e = ap (node_at found) e ∙ node-step found found 0 t2.trace.nodes

-- ---- no match

lacks-append : (key : Key) (xs ys : List Knot) → Lacks key xs → Lacks key ys → Lacks key (xs ++ ys)
lacks-append key [] ys h k = k
lacks-append key (x ∷ xs) ys h k = (h.0, lacks-append key xs ys h.1 k)

head-none : (xs ys : List ℕ) → head_of (xs ++ ys) ≡ None → (head_of xs ≡ None) × (head_of ys ≡ None)
head-none [] ys h = (refl, h)
head-none (x ∷ xs) ys h = absurd (cc)

lacks : (key : Key) (g : Grove) → head_of (stamps_where (allocates key) (entries g)) ≡ None → Lacks key (knots g)
lacks key Bare h = tt
lacks key (Made t b k n rest) h = elim (cases_Bool (same_key k key)) [
  | inl e ↦ absurd (let bad : Some t ≡ None = rw e at h in cc)
  | inr e ↦ (e, lacks key rest (rw e at h))
]
lacks key (Put t p v n rest) h = (tt, lacks key rest h)
lacks key (Got t p v u x args n inside e m rest) h =
    let k = head-none (stamps_where (allocates key) (entries inside)) (stamps_where (allocates key) (entries rest))
    (sym (ap head_of (where-append (allocates key) (entries inside) (end_entry e t m ∷ entries rest))) ∙ h) in
    (tt, lacks-append key (knots inside) (knot e item.End m ∷ knots rest) (lacks key inside k.0) (tt, lacks key rest k.1))

-- nothing is taken where no node that is left over has the key
pub none-left : (r : Repair) (start : Start) (st : Stack) (now : RunsAt start st r) (key : Key) → head_of (stamps_where (allocates key) (left_nodes r)) ≡ None
    → take_alloc key (first (levels (forest_of (entries now.left ++ now.tail)))) ≡ None
none-left r start st now key h =
    ap (take_alloc key) (first-left now.left (view r).limit now.tail (bound-now (code_of r) (inputs_of r) start st (view r) now))
    ∙ taking-law.alloc_absent key now.left (lacks key now.left (subst (λ es. head_of (stamps_where (allocates key) es) ≡ None) (left-is (code_of r) (inputs_of r) start st (view r) now) h))
