-- The unit of a stale read among kept nodes is over.
use Rattle.std.proofs.Common.{◌≡◌, ◌≢◌, ℕ, true, false, Option, Some, None, List, [], ◌∷◌, ◌++◌, length, refl, sym, ap, subst, ◌∙◌, arith}
use Rattle.std.specs.Prelude.{⊤}
use Rattle.ceal_base.specs.Block.{Block}
use Rattle.ceal_base.specs.declared.forest.Item.{Item}
use Rattle.ceal_base.specs.declared.forest.Item.TheVariants as item
use Rattle.ceal_base.specs.declared.word.Place.{Place}
use Rattle.ceal_code.specs.Program.{Code}
use Rattle.ceal_code.specs.Replay.{Store, KnownBlock}
use Rattle.ceal_code.specs.Step.{Stack, Over, next}
use Rattle.ceal_code.specs.Value.{Plain}
use Rattle.ceal_heap.specs.Heap.{Contents}
use Rattle.ceal_order.proofs.Places.{place_tells}
use Rattle.ceal_order.specs.Stamps as order
use Rattle.ceal_order.specs.declared.stamp.Stamp.{Stamp}
use Rattle.ceal_repair.proofs.Revocation.FirstNode.{cursor-at, front-long}
use Rattle.ceal_repair.proofs.Nodes.NodeItems.{behind-all, contents-append, contents-base, opened-put, began-put, closed-last, known-append}
use Rattle.ceal_repair.proofs.Reuse.NoNewEnds.{end-append, append-end, unfinished-none}
use Rattle.ceal_repair.proofs.Runs.FewNumbers.{given-same}
use Rattle.ceal_repair.proofs.Reuse.ReadReuse.{levels-behind}
use Rattle.ceal_repair.proofs.Reuse.AllocReuse.{words-same, course-bare}
use Rattle.ceal_repair.specs.Around.{Tails, Passes}
use Rattle.ceal_repair.specs.Blocks.{HasBlocks, KeepsReadable}
use Rattle.ceal_repair.specs.Entries.{stamp_of_number, end_entry, entries, first_in, Lies}
use Rattle.ceal_repair.specs.Moment.{View, Start, RunningNow, PassingNow, through, state_at}
use Rattle.ceal_repair.specs.Words.{words_of}
use Rattle.ceal_repair.specs.Frames.{Frame, Kept as FrameKept}
use Rattle.ceal_repair.specs.Kept.{Kept, QueuedAfter, base_in}
use Rattle.ceal_repair.specs.declared.tables.Tables.{Tables}
use Rattle.ceal_theory.proofs.Reuse.StepsBetween.{frames-self}
use Rattle.ceal_theory.specs.Course.{Wait, Fixes, frames_at, running_at, fixing_at, BareMode, BareFrames, BareSame}
use Rattle.ceal_theory.specs.Groves.{Bare}
use Rattle.ceal_theory.specs.Levels.{first, around, levels}
use Rattle.ceal_theory.specs.Repair.{State}
use Rattle.ceal_theory.specs.Moves.{Machine, Fixing, Went, next_move}
use Rattle.ceal_trace.proofs.Entries.{has-held, has-read}
use Rattle.ceal_trace.proofs.Parts.{not_before, entry-part, position-part}
use Rattle.ceal_trace.specs.Items.{ticks, forest_of, unclosed, unclosed_after}
use Rattle.ceal_trace.specs.Nodes.{Entry, stamps_in, has_node, position, node_at, held_by, end_in, is_read}
use Rattle.ceal_trace.specs.declared.node.Node.TheVariants.{End}

-- what the frame of a stale read says of what waits
pub record WaitsKept (limit : Option Stamp) (beyond : List Entry) (now : Option Stamp) (until : Stamp) (fs : List Frame) (ws : List Wait) (rs : List ℕ) (tail : List Entry) : Type 0 where
  pub end : ℕ
  pub read : ℕ
  pub steps : ℕ
  pub waits : List Wait
  pub reads : List ℕ
  pub back : List Entry
  pub now_is : now ≡ Some (stamp_of_number end)
  pub waits_are : ws ≡ Fixes ∷ waits
  pub reads_are : rs ≡ read ∷ reads
  pub tail_is : tail ≡ end_entry end read steps ∷ back
  pub passes : Passes limit beyond until fs waits reads back

abbrev pub ComesKept : Option Stamp → List Entry → Option Stamp → List Frame → List Wait → List ℕ → List Entry → Type 0
ComesKept limit beyond now (FrameKept until ∷ fs) ws rs tail = WaitsKept limit beyond now until fs ws rs tail
ComesKept limit beyond now fs ws rs tail = ⊤

pub comes-kept : {limit : Option Stamp} {beyond : List Entry} {now : Option Stamp} {fs : List Frame} {ws : List Wait} {rs : List ℕ} {tail : List Entry}
    → Tails limit beyond now fs ws rs tail → ComesKept limit beyond now fs ws rs tail
comes-kept Tails.last = tt
comes-kept (Tails.begun below read t) = tt
comes-kept (Tails.taken below e r m g t) = tt
comes-kept (Tails.kept {ws = ws} {rs = rs} {back = back} e r m p) =
    record { end = e; read = r; steps = m; waits = ws; reads = rs; back = back; now_is = refl; waits_are = refl; reads_are = refl; tail_is = refl; passes = p }

over-turn : (code : Code) (names : ℕ → ℕ) (s : State) (st : Stack) (ws vs : List Wait) (is : List Item) → ws ≡ Fixes ∷ vs → next code s.plain st ≡ Over
    → next_move code names (running_at s st ws is) ≡ Went (item.End ∷ []) (record { state = s; mode = Fixing (first (around (levels is))); frames = frames_at vs (around (around (levels is))) })
unfolding next_move
over-turn code names s st ws vs is e over = rw (over, e) refl

module _ (code : Code) (inputs : List Block) (start : Start) (st : Stack) (w : View) (until : Stamp)
    (now : RunningNow code inputs start st (record { tables = w.tables; heap = w.heap; spent = w.spent; cursor = w.cursor; limit = w.limit; frames = FrameKept until ∷ w.frames })) where
  pub next-kept : WaitsKept start.limit start.beyond w.limit until w.frames now.waits now.reads now.tail
  next-kept = comes-kept now.tails

  pub lies-kept : Lies w.cursor (through now.placed.done now.placed.last) now.left now.tail w.tables
  lies-kept = record { done = now.placed.done; last = now.placed.last; ends = refl; is_at = now.placed.cursor; nodes = now.placed.nodes; late = now.placed.late }

  pub first-kept : first_in now.tail ≡ Some next-kept.end
  first-kept = ap first_in next-kept.tail_is

  module _ (t : Tables) (heap : Contents) (over : next code (words_of code inputs w.heap) st ≡ Over)
      (l : Lies w.cursor (through now.placed.done now.placed.last) Bare now.tail t) (bases : (p : Place) → base_in t.mods p ≡ base_in w.tables.mods p)
      (blocks : KeepsReadable w.heap heap) (has : HasBlocks code inputs w.heap w.tables → HasBlocks code inputs heap t) (kept : Kept t) where
    abbrev end-entry : Entry
    end-entry = end_entry next-kept.end next-kept.read next-kept.steps

    abbrev view-before : View
    view-before = record { tables = w.tables; heap = w.heap; spent = w.spent; cursor = w.cursor; limit = w.limit; frames = FrameKept until ∷ w.frames }

    nodes-part : t.trace.nodes ≡ through now.placed.done now.placed.last ++ end-entry ∷ next-kept.back
    nodes-part = l.nodes ∙ ap (λ es. through now.placed.done now.placed.last ++ es) next-kept.tail_is

    not-front : has_node next-kept.end (through now.placed.done now.placed.last) ≡ false
    not-front = not_before (through now.placed.done now.placed.last) end-entry next-kept.back (subst (λ es. order.Distinct (stamps_in es)) nodes-part kept.step.whole.order.distinct)

    node-there : node_at next-kept.end t.trace.nodes ≡ Some (End (stamp_of_number next-kept.read))
    node-there = ap (node_at next-kept.end) nodes-part ∙ ap held_by (entry-part end-entry next-kept.back (through now.placed.done now.placed.last) not-front)

    -- nothing is queued up to the end
    late-then : QueuedAfter next-kept.end t
    late-then r i =
        let reads : is_read (node_at r t.trace.nodes) ≡ true = kept.step.queued r i in
        let there : has_node r t.trace.nodes ≡ true = has-read r t.trace.nodes reads in
        let own : has_node next-kept.end t.trace.nodes ≡ true = has-held next-kept.end (End (stamp_of_number next-kept.read)) t.trace.nodes node-there in
        let other : position r t.trace.nodes ≢ position next-kept.end t.trace.nodes = λ e.
        let same : r ≡ next-kept.end = place_tells r next-kept.end (stamps_in t.trace.nodes) there own e in
        absurd (let bad : is_read (Some (End (stamp_of_number next-kept.read))) ≡ true = subst (λ o. is_read o ≡ true) (ap (λ z. node_at z t.trace.nodes) same ∙ node-there) reads in cc) in
        let first : position next-kept.end t.trace.nodes ≡ length (through now.placed.done now.placed.last) =
        ap (position next-kept.end) nodes-part ∙ position-part end-entry next-kept.back (through now.placed.done now.placed.last) not-front in
        omega (
          arith,
          first,
          other,
          l.late r i,
          cursor-at w.cursor (through now.placed.done now.placed.last) Bare now.tail t kept l,
          front-long w.cursor (through now.placed.done now.placed.last) Bare now.tail t kept l,
        )

    no-end-then : (r : ℕ) → end_in r w.tables.trace.nodes ≡ None → end_in r t.trace.nodes ≡ None
    no-end-then r e = ap (end_in r) l.nodes
        ∙ (let parts = end-append r (through now.placed.done now.placed.last) (entries now.left ++ now.tail) (sym (ap (end_in r) now.placed.nodes) ∙ e) in
        let back = end-append r (entries now.left) now.tail parts.1 in
        append-end r (through now.placed.done now.placed.last) now.tail parts.0 back.1)

    levels-then : around (levels (forest_of (entries now.left ++ now.tail))) ≡ levels (ticks next-kept.steps ++ forest_of next-kept.back)
    levels-then = ap (λ es. around (levels (forest_of (entries now.left ++ es)))) next-kept.tail_is ∙ levels-behind now.left next-kept.end next-kept.read next-kept.steps next-kept.back

    mid-machine : Machine
    mid-machine = record {
      state = state_at code inputs view-before now.course.store (start.chosen ++ now.course.made);
      mode = Fixing (first (around (levels (forest_of (entries now.left ++ now.tail)))));
      frames = frames_at next-kept.waits (around (around (levels (forest_of (entries now.left ++ now.tail)))));
    }

    left-turn : (names : ℕ → ℕ) → next_move code names
        (running_at (state_at code inputs view-before now.course.store (start.chosen ++ now.course.made)) st now.waits (forest_of (entries now.left ++ now.tail))) ≡ Went (item.End ∷ []) mid-machine
    unfolding mid-machine
    left-turn names = over-turn code names (state_at code inputs view-before now.course.store (start.chosen ++ now.course.made)) st now.waits next-kept.waits
        (forest_of (entries now.left ++ now.tail)) next-kept.waits_are over

    state-then : state_at code inputs view-before now.course.store (start.chosen ++ now.course.made)
        ≡ record { store = now.course.store; plain = words_of code inputs heap; number = length (start.chosen ++ now.course.made); work = w.spent }
    state-then = ap (λ (y : Plain). record { store = now.course.store; plain = y; number = length (start.chosen ++ now.course.made); work = w.spent }) (sym (words-same code inputs w.heap heap blocks))

    same-then : BareSame mid-machine
        (fixing_at (record { store = now.course.store; plain = words_of code inputs heap; number = length (start.chosen ++ now.course.made); work = w.spent }) next-kept.waits
        (ticks next-kept.steps ++ forest_of next-kept.back))
    unfolding mid-machine
    same-then = record {
      state = state-then;
      mode = subst (λ ls. BareMode (Fixing (first ls)) (Fixing (first (levels (ticks next-kept.steps ++ forest_of next-kept.back))))) (sym levels-then) BareMode.fixes;
      frames = subst (λ ls. BareFrames (frames_at next-kept.waits (around ls)) (frames_at next-kept.waits (around (levels (ticks next-kept.steps ++ forest_of next-kept.back))))) (sym levels-then)
          (frames-self code (λ k. 0) (frames_at next-kept.waits (around (levels (ticks next-kept.steps ++ forest_of next-kept.back)))));
    }

    mid-number : mid-machine.state.number ≡ length (start.chosen ++ now.course.made)
    unfolding mid-machine
    mid-number = refl

    -- what is left over inside the read is revoked, its end is in front with its steps, and the nodes after it must be
    -- passed
    pub now-go-on : PassingNow code inputs start until (record { tables = t; heap = heap; spent = w.spent; cursor = next-kept.end; limit = Some until; frames = w.frames })
    now-go-on = record {
      reads = next-kept.reads;
      waits = next-kept.waits;
      behind = next-kept.back;
      limit = refl;
      placed = record {
        kept = kept;
        done = through now.placed.done now.placed.last;
        last = end-entry;
        nodes = nodes-part ∙ sym (behind-all (through now.placed.done now.placed.last) end-entry next-kept.back);
        cursor = refl;
        late = late-then;
        opened = opened-put (through now.placed.done now.placed.last) (now.reads ++ start.reads) now.placed.opened end-entry
            ∙ subst (λ rs. unclosed (unclosed_after next-kept.end (End (stamp_of_number next-kept.read)) (rs ++ start.reads)) [] ≡ Some (next-kept.reads ++ start.reads)) (sym next-kept.reads_are)
            (closed-last (stamp_of_number next-kept.read) (next-kept.reads ++ start.reads) next-kept.end);
        began = began-put start (through now.placed.done now.placed.last) end-entry now.placed.began;
        unfinished = unfinished-none w.frames w.tables.trace.nodes t.trace.nodes no-end-then now.placed.unfinished;
      };
      passes = next-kept.passes;
      bounds = now.bounds;
      blocks = has now.blocks;
      course = course-bare code inputs start view-before (through now.placed.done now.placed.last) (forest_of (through now.placed.done now.placed.last))
          (λ s. running_at s st now.waits (forest_of (entries now.left ++ now.tail))) now.course
          (record { tables = t; heap = heap; spent = w.spent; cursor = next-kept.end; limit = Some until; frames = w.frames })
          (through (through now.placed.done now.placed.last) end-entry) (forest_of (through now.placed.done now.placed.last) ++ item.End ∷ [])
          (λ s. fixing_at s next-kept.waits (ticks next-kept.steps ++ forest_of next-kept.back))
          (item.End ∷ []) now.course.store mid-machine refl left-turn mid-number same-then
          (λ q c. now.course.same q (subst (λ bs. KnownBlock (length inputs) bs q.block) (known-append [] (forest_of (through now.placed.done now.placed.last)) (item.End ∷ [])) c)
          ∙ (contents-base (base_in w.tables.mods) (base_in t.mods) q (sym (bases q)) (through now.placed.done now.placed.last)
          ∙ sym (ap (λ (f : Store). f q) (contents-append (base_in t.mods) (through now.placed.done now.placed.last) (end-entry ∷ [])))))
          (given-same start.first start.numbers (start.chosen ++ now.course.made) w.heap heap blocks now.course.given);
    }
