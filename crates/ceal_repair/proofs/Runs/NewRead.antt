-- A new read begins, and ends.
use Rattle.std.proofs.Common.{◌≡◌, ℕ, ◌+◌, Option, Some, None, List, [], ◌∷◌, ◌++◌, length, refl, sym, ap, subst, ◌∙◌}
use Rattle.std.specs.Prelude.{IsSome, option_map}
use Rattle.ceal_base.specs.Block.{Block}
use Rattle.ceal_base.specs.declared.forest.Item.TheVariants as item
use Rattle.ceal_base.specs.declared.forest.UnitId.{UnitId}
use Rattle.ceal_base.specs.declared.word.BlockId.{BlockId}
use Rattle.ceal_base.specs.declared.word.BlockId.TheVariants.{Input, Core}
use Rattle.ceal_base.specs.declared.word.Place.{Place}
use Rattle.ceal_base.specs.declared.word.Word.{Word}
use Rattle.ceal_code.specs.Known.{Holds}
use Rattle.ceal_code.specs.Program.{Code}
use Rattle.ceal_code.specs.Replay.{Store, KnownBlock}
use Rattle.ceal_code.specs.Step.{Stack, Empty, Reads, next, entered, words_after_read}
use Rattle.ceal_heap.specs.Heap.{Contents, Known, block_of, plain_block}
use Rattle.ceal_order.specs.declared.stamp.Stamp.{Stamp}
use Rattle.ceal_repair.proofs.Nodes.NodeItems.{more, up-to-last, contents-put, known-append}
use Rattle.ceal_repair.proofs.Runs.UnitSteps.{StepMore, NodeMore, nodes-distinct, placed-step, placed-put, blocks-more, blocks-node, course-turn, items-next, same-next, knows-act}
use Rattle.ceal_repair.proofs.Nodes.NodeBlocks.{unfinished-ends}
use Rattle.ceal_repair.specs.Around.{Tails}
use Rattle.ceal_repair.specs.Blocks.{There}
use Rattle.ceal_repair.specs.Entries.{entries}
use Rattle.ceal_repair.specs.Moment.{View, Start, Placed, RunningNow, through, state_at}
use Rattle.ceal_repair.specs.Words.{words_of}
use Rattle.ceal_repair.specs.Frames.{Begun}
use Rattle.ceal_repair.specs.Covered.{contents_after}
use Rattle.ceal_repair.specs.Kept.{Records, base_in}
use Rattle.ceal_repair.specs.Lists.{up_to}
use Rattle.ceal_repair.specs.declared.tables.Tables.{Tables}
use Rattle.ceal_theory.specs.Course.{Begins, running_at}
use Rattle.ceal_theory.specs.Cover.{known_after}
use Rattle.ceal_theory.specs.Levels.{first, levels}
use Rattle.ceal_theory.specs.Repair.{works, resumed}
use Rattle.ceal_theory.specs.Slices.{with_inputs}
use Rattle.ceal_theory.specs.Take.{take_read}
use Rattle.ceal_theory.specs.Moves.{Went, next_move}
use Rattle.ceal_trace.proofs.Entries.{ends-after}
use Rattle.ceal_trace.specs.Items.{forest_of}
use Rattle.ceal_trace.specs.Nodes.{Entry, end_in, new_entry}
use Rattle.ceal_trace.specs.declared.node.Node.TheVariants.{Read}

-- a block that is known is there
some-block : (o : Option Known) (block : Block) → option_map plain_block o ≡ Some block → IsSome o
some-block None block h = absurd (cc)
some-block (Some known) block h = refl

pub known-there : (code : Code) (inputs : List Block) (heap : Contents) (bs : List ℕ) → Holds (length inputs) bs (words_of code inputs heap) → (b : BlockId) → KnownBlock (length inputs) bs b
    → There (length inputs) heap b
unfolding words_of with_inputs
known-there code inputs heap bs h (Input i) k = k
known-there code inputs heap bs h (Core b) k = some-block (block_of heap (Core b)) (h (Core b) k).block (h (Core b) k).there

-- the nodes up to the cursor
pub up-to-cursor : (start : Start) (v : View) (reads : List ℕ) (behind : List Entry) (p : Placed start v reads behind) → up_to v.cursor v.tables.trace.nodes ≡ through p.done p.last
up-to-cursor start v reads behind p =
    ap (up_to v.cursor) p.nodes ∙ (ap (λ s. up_to s (through p.done p.last ++ behind)) (sym p.cursor) ∙ up-to-last p.done p.last behind (nodes-distinct start v reads behind p))

module _ (code : Code) (inputs : List Block) (start : Start) (st : Stack) (v : View) (now : RunningNow code inputs start st v) where
  -- a read reads what the store has
  value-there : (t1 : Tables) → StepMore v.cursor v.tables t1 → (p : Place) (word : Word) → word ≡ contents_after (base_in t1.mods) (up_to v.cursor t1.trace.nodes) p
      → KnownBlock (length inputs) (known_after [] (forest_of (through now.placed.done now.placed.last))) p.block → now.course.store p ≡ word
  unfolding placed-step
  value-there t1 h p word is k =
      same-next code inputs start st v now t1 (λ o. ap (λ d. base_in d o) h.mods) p k
      ∙ (sym (ap (λ es. contents_after (base_in t1.mods) es p) (up-to-cursor start (record v { tables = t1; spent = v.spent + 1 }) now.reads (entries now.left ++ now.tail)
      (placed-step start v now.reads (entries now.left ++ now.tail) now.placed t1 (v.spent + 1) h)))
      ∙ sym is)

  begun-turn : (p : Place) (u : UnitId) (x : ℕ) (args : List Word) (below : Stack) (word : Word) → take_read p u x args (first (levels (forest_of (entries now.left ++ now.tail)))) ≡ None
      → next code (words_of code inputs v.heap) st ≡ Reads p u x args below
      → now.course.store p ≡ word → (names : ℕ → ℕ)
      → next_move code names (running_at (state_at code inputs v now.course.store (start.chosen ++ now.course.made)) st now.waits (forest_of (entries now.left ++ now.tail)))
      ≡ Went (item.Step ∷ item.Read p word u x args ∷ []) (running_at (works (state_at code inputs v now.course.store (start.chosen ++ now.course.made))) (resumed code u x args word)
      (Begins below ∷ now.waits) (forest_of (entries now.left ++ now.tail)))
  unfolding next_move
  begun-turn p u x args below word none does is names =
      subst (λ w. next_move code names (running_at (state_at code inputs v now.course.store (start.chosen ++ now.course.made)) st now.waits (forest_of (entries now.left ++ now.tail)))
      ≡ Went (item.Step ∷ item.Read p w u x args ∷ []) (running_at (works (state_at code inputs v now.course.store (start.chosen ++ now.course.made))) (resumed code u x args w)
      (Begins below ∷ now.waits) (forest_of (entries now.left ++ now.tail))))
      is (rw (does, none) refl)

  -- a new read begins, where none that is left over is taken: its unit runs on what its place holds, and shares what is
  -- left over
  pub now-begin : (p : Place) (u : UnitId) (x : ℕ) (args : List Word) (below : Stack) (word : Word) (t1 t : Tables) (read : Stamp)
      → take_read p u x args (first (levels (forest_of (entries now.left ++ now.tail)))) ≡ None → next code (words_of code inputs v.heap) st ≡ Reads p u x args below → StepMore v.cursor v.tables t1
      → word ≡ contents_after (base_in t1.mods) (up_to v.cursor t1.trace.nodes) p → NodeMore v.cursor read.0 (Read p word u x args) t1 t → end_in read.0 t.trace.nodes ≡ None
      → RunningNow code inputs start (resumed code u x args word) (record { tables = t; heap = v.heap; spent = v.spent + 1; cursor = read.0; limit = v.limit; frames = Begun below read ∷ v.frames })
  unfolding placed-step placed-put
  now-begin p u x args below word t1 t read none does h is k unended = record {
    reads = read.0 ∷ now.reads;
    left = now.left;
    waits = Begins below ∷ now.waits;
    tail = now.tail;
    placed = placed-put start (record { tables = t1; heap = v.heap; spent = v.spent + 1; cursor = v.cursor; limit = v.limit; frames = v.frames }) now.reads (entries now.left ++ now.tail)
        (placed-step start v now.reads (entries now.left ++ now.tail) now.placed t1 (v.spent + 1) h) t read.0 (Read p word u x args) v.heap v.limit (Begun below read ∷ v.frames)
        (read.0 ∷ now.reads) k refl (
          unended,
          unfinished-ends v.frames t1.trace.nodes t.trace.nodes (λ r. ap (end_in r) k.nodes ∙ ends-after v.cursor (new_entry read.0 (Read p word u x args)) r t1.trace.nodes refl)
              (placed-step start v now.reads (entries now.left ++ now.tail) now.placed t1 (v.spent + 1) h).unfinished,
        );
    tails = Tails.begun below read now.tails;
    bare = now.bare;
    bounds = now.bounds;
    blocks =
        blocks-node code inputs v.heap t1 t (blocks-more code inputs v.heap v.tables t1 now.blocks v.cursor h) v.cursor read.0 (Read p word u x args) k (λ bs. refl) there (λ i key e. absurd (cc));
    course = course-turn code inputs start v (through now.placed.done now.placed.last) (forest_of (through now.placed.done now.placed.last))
        (λ s. running_at s st now.waits (forest_of (entries now.left ++ now.tail))) now.course
        (record { tables = t; heap = v.heap; spent = v.spent + 1; cursor = read.0; limit = v.limit; frames = Begun below read ∷ v.frames })
        (through (through now.placed.done (more now.placed.last)) (new_entry read.0 (Read p word u x args)))
        (forest_of (through (through now.placed.done (more now.placed.last)) (new_entry read.0 (Read p word u x args))))
        (λ s. running_at s (resumed code u x args word) (Begins below ∷ now.waits) (forest_of (entries now.left ++ now.tail)))
        (item.Step ∷ item.Read p word u x args ∷ []) now.course.store (items-next code inputs start st v now read.0 (Read p word u x args))
        (begun-turn p u x args below word none does (value-there t1 h p word is place-known)) refl
        (λ q c. same-next code inputs start st v now t (λ o. k.bases o ∙ ap (λ d. base_in d o) h.mods) q (known-before q c)
        ∙ sym (ap (λ (f : Store). f q) (contents-put (base_in t.mods) (through now.placed.done (more now.placed.last)) read.0 (Read p word u x args))))
        now.course.given;
  }
    where
      place-known : KnownBlock (length inputs) (known_after [] (forest_of (through now.placed.done now.placed.last))) p.block
      place-known = (rw does at (knows-act code inputs start st v now)).0

      there : (q : Place) (w : Word) → Records q w (Some (Read p word u x args)) → There (length inputs) v.heap q.block
      there q w r =
          let e : Some (Read p word u x args) ≡ Some (Read q w r.unit r.var r.args) = r.is in
          let same : p ≡ q = cc in
          subst (λ (o : Place). There (length inputs) v.heap o.block) same
          (known-there code inputs v.heap (known_after [] (forest_of (through now.placed.done now.placed.last))) now.course.knows.plain p.block place-known)

      known-before : (q : Place) → KnownBlock (length inputs) (known_after [] (forest_of (through (through now.placed.done (more now.placed.last)) (new_entry read.0 (Read p word u x args))))) q.block
          → KnownBlock (length inputs) (known_after [] (forest_of (through now.placed.done now.placed.last))) q.block
      known-before q c = subst (λ bs. KnownBlock (length inputs) bs q.block)
          (ap (known_after []) (items-next code inputs start st v now read.0 (Read p word u x args))
          ∙ known-append [] (forest_of (through now.placed.done now.placed.last)) (item.Step ∷ item.Read p word u x args ∷ [])) c

-- the unit of a closure by itself, as the code makes its stack
pub resumed-as : (code' code : Code) → code' ≡ code → (u : UnitId) (x : ℕ) (args : List Word) (word : Word) (st none : Stack) → none ≡ Empty
    → st ≡ entered code' u.0 (words_after_read code' u.0 x args word) none
    → st ≡ resumed code u x args word
resumed-as code' code c u x args word st none e is =
    is ∙ (ap (λ s. entered code' u.0 (words_after_read code' u.0 x args word) s) e ∙ ap (λ c. entered c u.0 (words_after_read c u.0 x args word) Empty) c)
