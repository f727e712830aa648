-- A run from nothing, before its first step.
use Rattle.std.proofs.Common.{ap, ◌≡◌, ◌≤◌, inl, ℕ, Bool, true, false, Some, None, List, [], ◌∷◌, length, refl, sym, ap₂, subst, ◌∙◌, arith}
use Rattle.std.specs.Prelude.{if◌then◌else◌, ◌==◌}
use Rattle.std.proofs.Math.Path.{fun_ext}
use Rattle.ceal_base.specs.Block.{Block}
use Rattle.ceal_base.specs.declared.word.BlockId.{BlockId}
use Rattle.ceal_base.specs.declared.forest.Key.{Key}
use Rattle.ceal_base.specs.declared.word.BlockId.TheVariants.{Input, Core}
use Rattle.ceal_base.specs.declared.word.Place.{Place}
use Rattle.ceal_base.specs.declared.word.Word.{Word}
use Rattle.ceal_code.specs.Fitting.{Fits}
use Rattle.ceal_code.specs.Program.{Code}
use Rattle.ceal_code.specs.Replay.{In, here, there, KnownBlock, bases, input_plain, count}
use Rattle.ceal_code.specs.Step.{started}
use Rattle.ceal_code.specs.Stacks.{stack_in}
use Rattle.ceal_heap.specs.Heap.{IsNew}
use Rattle.ceal_order.specs.Stamps.{head_of}
use Rattle.ceal_repair.proofs.Runs.FewNumbers.{next-new}
use Rattle.ceal_repair.specs.Around.{Tails, last}
use Rattle.ceal_repair.specs.Blocks.{HasBlocks}
use Rattle.ceal_repair.specs.Moment.{View, Placed, CourseNow, RunningNow, Unfinished, first_start, state_at, through}
use Rattle.ceal_repair.specs.Repairs.{code_of, inputs_of, view, Runs}
use Rattle.ceal_repair.specs.Words.{words_of, HasBases}
use Rattle.ceal_repair.specs.declared.repair.Repair.{Repair}
use Rattle.ceal_repair.specs.declared.running.Running.{Running}
use Rattle.ceal_repair.specs.Kept.{Kept, QueuedAfter, Records, base_in}
use Rattle.ceal_theory.specs.Chosen.{ChosenLaws, ComesBy, first_begins}
use Rattle.ceal_theory.specs.Course.{running_at}
use Rattle.ceal_theory.specs.Groves.{Bare}
use Rattle.ceal_theory.specs.Known.{KnowingLaws, Knows, none}
use Rattle.ceal_theory.specs.KnownContent.{allocs}
use Rattle.ceal_theory.specs.Slices.{with_inputs}
use Rattle.ceal_theory.specs.Moves.{Machine}
use Rattle.ceal_trace.specs.Items.{forest_of}
use Rattle.ceal_trace.specs.Nodes.{Entry, stamps_in, node_at, new_entry, held_by}
use Rattle.ceal_trace.specs.declared.node.Node.TheVariants.{Root, Alloc, Read}

none-in : {b : ℕ} {bs : List ℕ} → In b bs → bs ≡ [] → ⊥
none-in here e = absurd cc
none-in (there i) e = absurd cc

no-block : {A : Type 0} {b : ℕ} → In b [] → A
no-block i = absurd (none-in i refl)

-- the root records no read
root-reads : {A : Type 0} (s : ℕ) (p : Place) (v : Word) → Records p v (node_at s (new_entry 0 Root ∷ [])) → A
root-reads {A = A} s p v r = go (0 == s) r.is
  where
    go : (b : Bool) → held_by (if b then Some (new_entry 0 Root) else None) ≡ Some (Read p v r.unit r.var r.args) → A
    go true e = absurd cc
    go false e = absurd cc

root-alloc : (s i : ℕ) (key : Key) → node_at s (new_entry 0 Root ∷ []) ≡ Some (Alloc (Input i) key) → ⊥
root-alloc s i key r = go (0 == s) r
  where
    go : (b : Bool) → held_by (if b then Some (new_entry 0 Root) else None) ≡ Some (Alloc (Input i) key) → ⊥
    go true e = absurd cc
    go false e = absurd cc

module _ (code : Code) (inputs : List Block) (f : ℕ) (args : List Word) (fits : Fits code inputs f args) (chosen : ChosenLaws code) (knowing : KnowingLaws code) (v : View)
    (nodes : v.tables.trace.nodes ≡ new_entry 0 Root ∷ []) (queue : v.tables.stale.stamps ≡ []) (kept : Kept v.tables) (empty : IsNew v.heap)
    (has : HasBases code.structs inputs v.heap v.tables.mods) (spent : v.spent ≡ 0) (cursor : v.cursor ≡ 0) (limit : v.limit ≡ None) (frames : v.frames ≡ []) where
  abbrev machine : Machine
  machine = running_at (state_at code inputs v (bases code inputs) []) (started code f args) [] []

  same-words : words_of code inputs v.heap ≡ input_plain code inputs
  unfolding words_of with_inputs input_plain
  same-words = fun_ext (λ b. go b)
    where
      go : (b : BlockId) → words_of code inputs v.heap b ≡ input_plain code inputs b
      go (Input i) = refl
      go (Core c) = rw (empty.blocks (Core c)) refl

  same-machine : machine ≡ first_begins code inputs f args
  same-machine = ap₂ (λ x n. running_at (record { store = bases code inputs; plain = x; number = 0; work = n }) (started code f args) [] []) same-words spent

  late : QueuedAfter v.cursor v.tables
  late r i = absurd (let clash : false ≡ true = rw queue at i in cc)

  abbrev placed : Placed (first_start code inputs f args) v [] []
  placed = record {
    kept = kept;
    done = [];
    last = new_entry 0 Root;
    nodes = nodes;
    cursor = sym cursor;
    late = late;
    opened = refl;
    began = record { steps = 0; fresh = []; same = refl };
    unfinished = subst (λ fs. Unfinished fs v.tables.trace.nodes) (sym frames) tt;
  }

  tails : Tails None [] v.limit v.frames [] [] []
  tails = rw (limit, frames) last

  blocks : HasBlocks code inputs v.heap v.tables
  blocks = record {
    bases = has;
    lives = record {
      live = λ b. (λ l. absurd (let clash = sym l.1 ∙ empty.blocks (Core b) in cc), λ i. no-block (subst (λ es. In b (allocs (forest_of es))) nodes i));
      once = subst (λ es. (b : ℕ) → count b (allocs (forest_of es)) ≤ 1) (sym nodes) (λ b. omega arith);
      cores = λ s i key e. root-alloc s i key (sym (ap (node_at s) nodes) ∙ e);
    };
    reads = λ s p w r. root-reads s p w (subst (λ es. Records p w (node_at s es)) nodes r);
  }

  same-at : (b : BlockId) (field : ℕ) → KnownBlock (length inputs) [] b → bases code inputs (record { block = b; field = field }) ≡ base_in v.tables.mods (record { block = b; field = field })
  unfolding bases
  same-at (Input i) field l = sym (has.of_inputs i field)
  same-at (Core b) field i = no-block i

  course : CourseNow code inputs (first_start code inputs f args) v (through [] (new_entry 0 Root)) [] (λ s. running_at s (started code f args) [] [])
  course = record {
    store = bases code inputs;
    made = [];
    out = [];
    written = refl;
    mentions = none;
    comes = subst (λ m. ComesBy code (first_begins code inputs f args) m [] []) (sym same-machine) (chosen.begun (first_begins code inputs f args) [] refl);
    knows = subst (λ m. Knows code (length inputs) [] [] m) (sym same-machine) (knowing.first_begins inputs f args fits);
    same = λ p k. same-at p.block p.field k;
    given = record {
      distinct = λ b. omega arith;
      apart = λ b i. refl;
      there = λ b i. no-block i;
      still = λ b i. no-block i;
      only =
          λ b some. absurd (let no : false ≡ true = rw (empty.blocks (Core b)) at some in cc);
      few = inl (next-new v.heap empty);
    };
  }

  -- the unit of the call runs after the root, with nothing left over
  pub starts : RunningNow code inputs (first_start code inputs f args) (started code f args) v
  starts = record { reads = []; left = Bare; waits = []; tail = []; placed = placed; tails = tails; bare = λ e. refl; bounds = refl; blocks = blocks; course = course }

pub cursor-first : (nodes : List Entry) (cursor : ℕ) → nodes ≡ new_entry 0 Root ∷ [] → head_of (stamps_in nodes) ≡ Some cursor → cursor ≡ 0
cursor-first nodes cursor e h = let first : Some 0 ≡ Some cursor = rw e at h in cc

-- so it is with the repair that begins with a run at its beginning
module _ (code : Code) (inputs : List Block) (f : ℕ) (args : List Word) (fits : Fits code inputs f args) (chosen : ChosenLaws code) (knowing : KnowingLaws code) (run : Running)
    (nodes : run.tables.trace.nodes ≡ new_entry 0 Root ∷ []) (queue : run.tables.stale.stamps ≡ []) (kept : Kept run.tables) (empty : IsNew run.heap)
    (has : HasBases code.structs inputs run.heap run.tables.mods)
    (spent : run.spent ≡ 0) where
  pub begun : (r : Repair) → code_of r ≡ code → inputs_of r ≡ inputs → (view r).tables ≡ run.tables → (view r).heap ≡ run.heap → (view r).spent ≡ run.spent → (view r).frames ≡ []
      → (view r).limit ≡ None
      → stack_in r.stack.now ≡ started code f args → head_of (stamps_in run.tables.trace.nodes) ≡ Some (view r).cursor → Runs (first_start code inputs f args) r
  begun r same_code same_inputs tables heap work frames limit stack cursor =
      rw (same_code, same_inputs, stack)
      (starts code inputs f args fits chosen knowing (view r) (rw tables nodes) (rw tables queue) (rw tables kept) (rw heap empty) (rw (tables, heap) has) (rw work spent)
      (cursor-first run.tables.trace.nodes (view r).cursor nodes cursor)
      limit frames)
