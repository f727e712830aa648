-- The unit of a read that was taken is over.
use Rattle.std.proofs.Common.{◌≡◌, ◌≢◌, ℕ, ◌<◌, true, false, Option, Some, None, List, [], ◌∷◌, ◌++◌, length, refl, sym, ap, subst, ◌∙◌, arith}
use Rattle.std.specs.Prelude.{⊤}
use Rattle.ceal_base.specs.Block.{Block}
use Rattle.ceal_base.specs.declared.forest.Item.{Item}
use Rattle.ceal_base.specs.declared.forest.Item.TheVariants as item
use Rattle.ceal_base.specs.declared.word.Place.{Place}
use Rattle.ceal_code.specs.Program.{Code}
use Rattle.ceal_code.specs.Step.{Stack, Over, next}
use Rattle.ceal_code.specs.Value.{Plain}
use Rattle.ceal_heap.specs.Heap.{Contents}
use Rattle.ceal_order.proofs.Places.{place_tells}
use Rattle.ceal_order.specs.Stamps as order
use Rattle.ceal_order.specs.Stamps.{is_in, place}
use Rattle.ceal_order.specs.declared.stamp.Stamp.{Stamp}
use Rattle.ceal_repair.proofs.Revocation.FirstNode.{cursor-at, front-long}
use Rattle.ceal_repair.proofs.Nodes.NodeItems.{same-ended, behind-all, forest-put, opened-put, began-put, closed-last}
use Rattle.ceal_repair.proofs.Runs.UnitSteps.{blocks-steps}
use Rattle.ceal_repair.proofs.Reuse.NoNewEnds.{end-append, append-end, unfinished-none}
use Rattle.ceal_repair.proofs.Runs.FewNumbers.{given-same}
use Rattle.ceal_repair.proofs.Reuse.ReadReuse.{levels-behind, first-ticks, around-ticks}
use Rattle.ceal_repair.proofs.Reuse.AllocReuse.{words-same, course-bare}
use Rattle.ceal_repair.specs.Around.{Tails}
use Rattle.ceal_repair.specs.Blocks.{HasBlocks, KeepsReadable}
use Rattle.ceal_repair.specs.Entries.{stamp_of_number, entry, end_entry, entries, first_in, Lies}
use Rattle.ceal_repair.specs.Moment.{View, Start, RunningNow, through, state_at}
use Rattle.ceal_repair.specs.Words.{words_of}
use Rattle.ceal_repair.specs.Frames.{Frame, Taken}
use Rattle.ceal_repair.specs.Kept.{Kept, QueuedAfter, base_in}
use Rattle.ceal_repair.specs.declared.tables.Tables.{Tables}
use Rattle.ceal_theory.proofs.Reuse.StepsBetween.{frames-self}
use Rattle.ceal_theory.proofs.Reuse.TakenAfterRevocation.{bare-stepped}
use Rattle.ceal_theory.specs.Course.{Wait, Takes, frames_at, running_at, BareMode, BareFrames, BareSame}
use Rattle.ceal_theory.specs.Groves.{Grove, Bare, bare}
use Rattle.ceal_theory.specs.Levels.{first, around, levels}
use Rattle.ceal_theory.specs.Repair.{State}
use Rattle.ceal_theory.specs.Moves.{Machine, Running, Went, next_move}
use Rattle.ceal_trace.proofs.Entries.{has-held, has-read, stamps-changed, ends-changed}
use Rattle.ceal_trace.proofs.Parts.{not_before, entry-part, position-part, changed-part}
use Rattle.ceal_trace.specs.Items.{ticks, forest_of, unclosed, unclosed_after}
use Rattle.ceal_trace.specs.Nodes.{Entry, stamps_in, has_node, position, node_at, held_by, end_in, with_steps, steps_set, is_read}
use Rattle.ceal_trace.specs.declared.node.Node.TheVariants.{End}

-- what the frame of a taken read says of what waits
pub record WaitsTaken (limit : Option Stamp) (beyond : List Entry) (now : Option Stamp) (below : Stack) (until : Stamp) (fs : List Frame) (ws : List Wait) (rs : List ℕ)
    (tail : List Entry) : Type 0 where
  pub end : ℕ
  pub read : ℕ
  pub steps : ℕ
  pub behind : Grove
  pub waits : List Wait
  pub reads : List ℕ
  pub rest : List Entry
  pub now_is : now ≡ Some (stamp_of_number end)
  pub waits_are : ws ≡ Takes below ∷ waits
  pub reads_are : rs ≡ read ∷ reads
  pub tail_is : tail ≡ end_entry end read steps ∷ (entries behind ++ rest)
  pub tails : Tails limit beyond (Some until) fs waits reads rest

abbrev pub ComesTaken : Option Stamp → List Entry → Option Stamp → List Frame → List Wait → List ℕ → List Entry → Type 0
ComesTaken limit beyond now (Taken below until ∷ fs) ws rs tail = WaitsTaken limit beyond now below until fs ws rs tail
ComesTaken limit beyond now fs ws rs tail = ⊤

pub comes-taken : {limit : Option Stamp} {beyond : List Entry} {now : Option Stamp} {fs : List Frame} {ws : List Wait} {rs : List ℕ} {tail : List Entry}
    → Tails limit beyond now fs ws rs tail → ComesTaken limit beyond now fs ws rs tail
comes-taken Tails.last = tt
comes-taken (Tails.begun below read t) = tt
comes-taken (Tails.taken {ws = ws} {rs = rs} {tail = tail} below e r m g t) =
    record { end = e; read = r; steps = m; behind = g; waits = ws; reads = rs; rest = tail; now_is = refl; waits_are = refl; reads_are = refl; tail_is = refl; tails = t }
comes-taken (Tails.kept e r m t) = tt

leave-turn : (code : Code) (names : ℕ → ℕ) (s : State) (st below : Stack) (ws vs : List Wait) (is : List Item) → ws ≡ Takes below ∷ vs → next code s.plain st ≡ Over
    → next_move code names (running_at s st ws is) ≡ Went (item.End ∷ []) (record { state = s; mode = Running below (first (around (levels is))); frames = frames_at vs (around (around (levels is))) })
unfolding next_move
leave-turn code names s st below ws vs is e over = rw (over, e) refl

module _ (code : Code) (inputs : List Block) (start : Start) (st : Stack) (w : View) (below : Stack) (until : Stamp)
    (now : RunningNow code inputs start st (record { tables = w.tables; heap = w.heap; spent = w.spent; cursor = w.cursor; limit = w.limit; frames = Taken below until ∷ w.frames })) where
  pub next-taken : WaitsTaken start.limit start.beyond w.limit below until w.frames now.waits now.reads now.tail
  next-taken = comes-taken now.tails

  pub lies-left : Lies w.cursor (through now.placed.done now.placed.last) now.left now.tail w.tables
  lies-left = record { done = now.placed.done; last = now.placed.last; ends = refl; is_at = now.placed.cursor; nodes = now.placed.nodes; late = now.placed.late }

  pub first-is : first_in now.tail ≡ Some next-taken.end
  first-is = ap first_in next-taken.tail_is

  pub end-there : (t1 : Tables) → Kept t1 → Lies w.cursor (through now.placed.done now.placed.last) Bare now.tail t1 → has_node next-taken.end t1.trace.nodes ≡ true
  end-there t1 kept1 l =
      let mid : t1.trace.nodes ≡ through now.placed.done now.placed.last ++ end_entry next-taken.end next-taken.read next-taken.steps ∷ (entries next-taken.behind ++ next-taken.rest) =
      l.nodes ∙ ap (λ es. through now.placed.done now.placed.last ++ es) next-taken.tail_is in
      let none : has_node next-taken.end (through now.placed.done now.placed.last) ≡ false =
      not_before (through now.placed.done now.placed.last) (end_entry next-taken.end next-taken.read next-taken.steps) (entries next-taken.behind ++ next-taken.rest)
      (subst (λ es. order.Distinct (stamps_in es)) mid kept1.step.whole.order.distinct) in
      has-held next-taken.end (End (stamp_of_number next-taken.read)) t1.trace.nodes (ap (node_at next-taken.end) mid
      ∙ ap held_by (entry-part (end_entry next-taken.end next-taken.read next-taken.steps) (entries next-taken.behind ++ next-taken.rest) (through now.placed.done now.placed.last) none))

  module _ (t1 t : Tables) (heap : Contents) (over : next code (words_of code inputs w.heap) st ≡ Over)
      (l : Lies w.cursor (through now.placed.done now.placed.last) Bare now.tail t1) (bases : (p : Place) → base_in t1.mods p ≡ base_in w.tables.mods p)
      (blocks : KeepsReadable w.heap heap) (has : HasBlocks code inputs w.heap w.tables → HasBlocks code inputs heap t1) (kept1 : Kept t1)
      (dropped : t.trace.nodes ≡ with_steps next-taken.end 0 t1.trace.nodes) (mods : t.mods ≡ t1.mods) (queue : t.stale ≡ t1.stale) (kept : Kept t) where
    nodes-mid : t1.trace.nodes ≡ through now.placed.done now.placed.last ++ end_entry next-taken.end next-taken.read next-taken.steps ∷ (entries next-taken.behind ++ next-taken.rest)
    nodes-mid = l.nodes ∙ ap (λ es. through now.placed.done now.placed.last ++ es) next-taken.tail_is

    not-front : has_node next-taken.end (through now.placed.done now.placed.last) ≡ false
    not-front = not_before (through now.placed.done now.placed.last) (end_entry next-taken.end next-taken.read next-taken.steps) (entries next-taken.behind ++ next-taken.rest)
        (subst (λ es. order.Distinct (stamps_in es)) nodes-mid kept1.step.whole.order.distinct)

    nodes-then : t.trace.nodes ≡ through (through now.placed.done now.placed.last) (entry next-taken.end (End (stamp_of_number next-taken.read)) 0) ++ (entries next-taken.behind ++ next-taken.rest)
    nodes-then = dropped ∙ (ap (with_steps next-taken.end 0) nodes-mid
        ∙ (changed-part (end_entry next-taken.end next-taken.read next-taken.steps) (entries next-taken.behind ++ next-taken.rest) (steps_set 0) (through now.placed.done now.placed.last) not-front
        ∙ sym (behind-all (through now.placed.done now.placed.last) (entry next-taken.end (End (stamp_of_number next-taken.read)) 0) (entries next-taken.behind ++ next-taken.rest))))

    node-there : node_at next-taken.end t1.trace.nodes ≡ Some (End (stamp_of_number next-taken.read))
    node-there = ap (node_at next-taken.end) nodes-mid
        ∙ ap held_by (entry-part (end_entry next-taken.end next-taken.read next-taken.steps) (entries next-taken.behind ++ next-taken.rest) (through now.placed.done now.placed.last) not-front)

    -- nothing is queued up to the end
    late-then : QueuedAfter next-taken.end t
    late-then r i =
        let q : is_in r t1.stale.stamps ≡ true = subst (λ (z : _). is_in r z.stamps ≡ true) queue i in
        let reads : is_read (node_at r t1.trace.nodes) ≡ true = kept1.step.queued r q in
        let there : has_node r t1.trace.nodes ≡ true = has-read r t1.trace.nodes reads in
        let own : has_node next-taken.end t1.trace.nodes ≡ true = has-held next-taken.end (End (stamp_of_number next-taken.read)) t1.trace.nodes node-there in
        let other : position r t1.trace.nodes ≢ position next-taken.end t1.trace.nodes = λ e.
        let same : r ≡ next-taken.end = place_tells r next-taken.end (stamps_in t1.trace.nodes) there own e in
        absurd (let bad : is_read (Some (End (stamp_of_number next-taken.read))) ≡ true = subst (λ o. is_read o ≡ true) (ap (λ z. node_at z t1.trace.nodes) same ∙ node-there) reads in cc) in
        let first : position next-taken.end t1.trace.nodes ≡ length (through now.placed.done now.placed.last) =
        ap (position next-taken.end) nodes-mid
        ∙ position-part (end_entry next-taken.end next-taken.read next-taken.steps) (entries next-taken.behind ++ next-taken.rest) (through now.placed.done now.placed.last) not-front in
        let less : position next-taken.end t1.trace.nodes < position r t1.trace.nodes = omega (
          arith,
          first,
          other,
          l.late r q,
          cursor-at w.cursor (through now.placed.done now.placed.last) Bare now.tail t1 kept1 l,
          front-long w.cursor (through now.placed.done now.placed.last) Bare now.tail t1 kept1 l,
        ) in
        subst (λ ss. place next-taken.end ss < place r ss) (sym (ap stamps_in dropped ∙ stamps-changed next-taken.end (steps_set 0) (λ e. refl) t1.trace.nodes)) less

    no-end-then : (r : ℕ) → end_in r w.tables.trace.nodes ≡ None → end_in r t.trace.nodes ≡ None
    no-end-then r e = ap (end_in r) dropped ∙ (ends-changed next-taken.end (steps_set 0) (λ e. refl) r t1.trace.nodes (λ e. refl)
        ∙ (ap (end_in r) l.nodes
        ∙ (let parts = end-append r (through now.placed.done now.placed.last) (entries now.left ++ now.tail) (sym (ap (end_in r) now.placed.nodes) ∙ e) in
        let back = end-append r (entries now.left) now.tail parts.1 in
        append-end r (through now.placed.done now.placed.last) now.tail parts.0 back.1)))

    bases-then : (p : Place) → base_in t.mods p ≡ base_in w.tables.mods p
    bases-then p = ap (λ d. base_in d p) mods ∙ bases p

    levels-then : around (levels (forest_of (entries now.left ++ now.tail))) ≡ levels (ticks next-taken.steps ++ forest_of (entries next-taken.behind ++ next-taken.rest))
    levels-then = ap (λ es. around (levels (forest_of (entries now.left ++ es)))) next-taken.tail_is
        ∙ levels-behind now.left next-taken.end next-taken.read next-taken.steps (entries next-taken.behind ++ next-taken.rest)

    mid-machine : Machine
    mid-machine = record {
      state = state_at code inputs (record { tables = w.tables; heap = w.heap; spent = w.spent; cursor = w.cursor; limit = w.limit; frames = Taken below until ∷ w.frames }) now.course.store
          (start.chosen ++ now.course.made);
      mode = Running below (first (around (levels (forest_of (entries now.left ++ now.tail)))));
      frames = frames_at next-taken.waits (around (around (levels (forest_of (entries now.left ++ now.tail)))));
    }

    left-turn : (names : ℕ → ℕ)
        → next_move code names (running_at (state_at code inputs (record {
          tables = w.tables;
          heap = w.heap;
          spent = w.spent;
          cursor = w.cursor;
          limit = w.limit;
          frames =
              Taken below until ∷ w.frames;
        }) now.course.store (start.chosen ++ now.course.made)) st now.waits (forest_of (entries now.left ++ now.tail)))
        ≡ Went (item.End ∷ []) mid-machine
    unfolding mid-machine
    left-turn names = leave-turn code names (state_at code inputs
        (record { tables = w.tables; heap = w.heap; spent = w.spent; cursor = w.cursor; limit = w.limit; frames = Taken below until ∷ w.frames }) now.course.store (start.chosen ++ now.course.made))
        st below now.waits next-taken.waits (forest_of (entries now.left ++ now.tail)) next-taken.waits_are over

    state-then : state_at code inputs (record { tables = w.tables; heap = w.heap; spent = w.spent; cursor = w.cursor; limit = w.limit; frames = Taken below until ∷ w.frames }) now.course.store
        (start.chosen ++ now.course.made)
        ≡ record { store = now.course.store; plain = words_of code inputs heap; number = length (start.chosen ++ now.course.made); work = w.spent }
    state-then = ap (λ (y : Plain). record { store = now.course.store; plain = y; number = length (start.chosen ++ now.course.made); work = w.spent }) (sym (words-same code inputs w.heap heap blocks))

    bare-then : BareSame mid-machine
        (running_at (record { store = now.course.store; plain = words_of code inputs heap; number = length (start.chosen ++ now.course.made); work = w.spent })
        below next-taken.waits (forest_of (entries next-taken.behind ++ next-taken.rest)))
    unfolding mid-machine
    bare-then = record {
      state = state-then;
      mode = BareMode.runs (ap (λ ls. bare (first ls)) levels-then ∙ (ap bare (first-ticks next-taken.steps (forest_of (entries next-taken.behind ++ next-taken.rest)))
          ∙ bare-stepped next-taken.steps (first (levels (forest_of (entries next-taken.behind ++ next-taken.rest))))));
      frames = subst (λ ls. BareFrames (frames_at next-taken.waits ls) (frames_at next-taken.waits (around (levels (forest_of (entries next-taken.behind ++ next-taken.rest))))))
          (sym (ap around levels-then ∙ around-ticks next-taken.steps (forest_of (entries next-taken.behind ++ next-taken.rest))))
          (frames-self code (λ k. 0) (frames_at next-taken.waits (around (levels (forest_of (entries next-taken.behind ++ next-taken.rest))))));
    }

    mid-number : mid-machine.state.number ≡ length (start.chosen ++ now.course.made)
    unfolding mid-machine
    mid-number = refl

    -- what is left over inside the read is revoked, its end is in front, and the units below run with what is after it
    pub now-leave : RunningNow code inputs start below (record { tables = t; heap = heap; spent = w.spent; cursor = next-taken.end; limit = Some until; frames = w.frames })
    now-leave = record {
      reads = next-taken.reads;
      left = next-taken.behind;
      waits = next-taken.waits;
      tail = next-taken.rest;
      placed = record {
        kept = kept;
        done = through now.placed.done now.placed.last;
        last = entry next-taken.end (End (stamp_of_number next-taken.read)) 0;
        nodes = nodes-then;
        cursor = refl;
        late = late-then;
        opened = opened-put (through now.placed.done now.placed.last) (now.reads ++ start.reads) now.placed.opened (entry next-taken.end (End (stamp_of_number next-taken.read)) 0)
            ∙ subst (λ rs. unclosed (unclosed_after next-taken.end (End (stamp_of_number next-taken.read)) (rs ++ start.reads)) [] ≡ Some (next-taken.reads ++ start.reads)) (sym next-taken.reads_are)
            (closed-last (stamp_of_number next-taken.read) (next-taken.reads ++ start.reads) next-taken.end);
        began = began-put start (through now.placed.done now.placed.last) (entry next-taken.end (End (stamp_of_number next-taken.read)) 0) now.placed.began;
        unfinished = unfinished-none w.frames w.tables.trace.nodes t.trace.nodes no-end-then now.placed.unfinished;
      };
      tails = next-taken.tails;
      bare = λ none. absurd (cc);
      bounds = now.bounds;
      blocks = blocks-steps code inputs heap t1 t (has now.blocks) next-taken.end 0 dropped mods;
      course = course-bare code inputs start (record { tables = w.tables; heap = w.heap; spent = w.spent; cursor = w.cursor; limit = w.limit; frames = Taken below until ∷ w.frames })
          (through now.placed.done now.placed.last) (forest_of (through now.placed.done now.placed.last))
          (λ s. running_at s st now.waits (forest_of (entries now.left ++ now.tail))) now.course
          (record { tables = t; heap = heap; spent = w.spent; cursor = next-taken.end; limit = Some until; frames = w.frames })
          (through (through now.placed.done now.placed.last) (entry next-taken.end (End (stamp_of_number next-taken.read)) 0))
          (forest_of (through (through now.placed.done now.placed.last) (entry next-taken.end (End (stamp_of_number next-taken.read)) 0)))
          (λ s. running_at s below next-taken.waits (forest_of (entries next-taken.behind ++ next-taken.rest)))
          (item.End ∷ []) now.course.store mid-machine (forest-put (through now.placed.done now.placed.last) next-taken.end (End (stamp_of_number next-taken.read)))
          left-turn mid-number bare-then
          (same-ended (length inputs) now.course.store (base_in w.tables.mods) (base_in t.mods) (through now.placed.done now.placed.last) next-taken.end (stamp_of_number next-taken.read)
          now.course.same bases-then)
          (given-same start.first start.numbers (start.chosen ++ now.course.made) w.heap heap blocks now.course.given);
    }
