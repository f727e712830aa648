-- The unit of a new read is over: its end is put in.
use Rattle.std.proofs.Common.{◌≡◌, ◌≢◌, ℕ, inl, inr, ◌≤◌, true, false, Some, List, [], ◌∷◌, ◌++◌, length, refl, sym, ap, subst, ◌∙◌}
use Rattle.std.proofs.lemmas.Bool.Decides.{eqb_tells}
use Rattle.ceal_base.specs.Block.{Block}
use Rattle.ceal_base.specs.declared.forest.Item.{Item}
use Rattle.ceal_base.specs.declared.forest.Item.TheVariants as item
use Rattle.ceal_code.specs.Program.{Code}
use Rattle.ceal_code.specs.Step.{Stack, Over, next}
use Rattle.ceal_order.specs.Stamps.{Distinct, is_in}
use Rattle.ceal_order.specs.declared.stamp.Stamp.{Stamp}
use Rattle.ceal_repair.proofs.Nodes.NodeItems.{same-ended, forest-put, closed-last, unclosed-reads, not-in-is, entry-front, position-front, position-there}
use Rattle.ceal_repair.proofs.Nodes.NodeItems.{unfinished-waiting, waiting, waiting-open, comes-next, distinct-front}
use Rattle.ceal_repair.proofs.Runs.UnitSteps.{NodeMore, nodes-distinct, placed-put, blocks-node, course-turn}
use Rattle.ceal_repair.specs.Entries.{entries}
use Rattle.ceal_repair.specs.Moment.{View, Start, Placed, RunningNow, through, state_at}
use Rattle.ceal_repair.specs.Words.{words_of}
use Rattle.ceal_repair.specs.Frames.{Begun}
use Rattle.ceal_repair.specs.Kept.{base_in}
use Rattle.ceal_repair.specs.declared.tables.Tables.{Tables}
use Rattle.ceal_theory.specs.Course.{Wait, Begins, running_at}
use Rattle.ceal_theory.specs.Repair.{State}
use Rattle.ceal_theory.specs.Moves.{Went, next_move}
use Rattle.ceal_trace.proofs.Entries.{has-read, ends-after, ends_other}
use Rattle.ceal_trace.proofs.Stamped.{in_head}
use Rattle.ceal_trace.specs.Items.{forest_of, unclosed_after, unclosed}
use Rattle.ceal_trace.specs.Nodes.{Entry, stamps_in, has_node, position, node_at, end_in, held_by, is_read, new_entry}
use Rattle.ceal_trace.specs.declared.node.Node.TheVariants.{End}

is-in-front : (r : ℕ) (xs ys : List ℕ) → is_in r xs ≡ true → is_in r (xs ++ ys) ≡ true
is-in-front r [] ys h = absurd (cc)
is-in-front r (x ∷ xs) ys h = elim (eqb_tells x r) [ inl p ↦ rw p.0 refl | inr p ↦ rw p.0 (is-in-front r xs ys (rw p.0 at h)) ]

-- an open read is in front
module _ (start : Start) (v : View) (reads : List ℕ) (behind : List Entry) (p : Placed start v reads behind) (r : ℕ) (among : is_in r reads ≡ true) where
  front-distinct : Distinct (stamps_in (through p.done p.last))
  front-distinct = distinct-front (through p.done p.last) behind (nodes-distinct start v reads behind p)

  pub open-distinct : Distinct (reads ++ start.reads)
  open-distinct = (unclosed-reads (through p.done p.last) (reads ++ start.reads) front-distinct p.opened).0

  read-front : is_read (node_at r (through p.done p.last)) ≡ true
  read-front = (unclosed-reads (through p.done p.last) (reads ++ start.reads) front-distinct p.opened).1 r (is-in-front r reads start.reads among)

  front-has : has_node r (through p.done p.last) ≡ true
  front-has = has-read r (through p.done p.last) read-front

  pub open-is-read : is_read (node_at r v.tables.trace.nodes) ≡ true
  open-is-read = subst (λ es. is_read (node_at r es) ≡ true) (sym p.nodes)
      (ap (λ e. is_read (held_by e)) (entry-front r (through p.done p.last) behind front-has) ∙ read-front)

  pub open-before : position r v.tables.trace.nodes ≤ position v.cursor v.tables.trace.nodes
  open-before = subst (λ es. position r es ≤ position v.cursor es) (sym p.nodes)
      (subst (λ c. position r (through p.done p.last ++ behind) ≤ position c (through p.done p.last ++ behind)) p.cursor
      (subst (λ n. position r (through p.done p.last ++ behind) ≤ n) (sym (position-there p.done p.last behind (nodes-distinct start v reads behind p)))
      (position-front r p.done p.last behind front-has)))

end-turn : (code : Code) (names : ℕ → ℕ) (s : State) (st below : Stack) (ws vs : List Wait) (is : List Item) → ws ≡ Begins below ∷ vs → next code s.plain st ≡ Over
    → next_move code names (running_at s st ws is) ≡ Went (item.End ∷ []) (running_at s below vs is)
unfolding next_move
end-turn code names s st below ws vs is e over = rw (over, e) refl

module _ (code : Code) (inputs : List Block) (start : Start) (st : Stack) (w : View) (below : Stack) (read : Stamp)
    (now : RunningNow code inputs start st (record { tables = w.tables; heap = w.heap; spent = w.spent; cursor = w.cursor; limit = w.limit; frames = Begun below read ∷ w.frames })) where
  abbrev v : View
  v = record { tables = w.tables; heap = w.heap; spent = w.spent; cursor = w.cursor; limit = w.limit; frames = Begun below read ∷ w.frames }

  pub among : is_in read.0 now.reads ≡ true
  among = subst (λ rs. is_in read.0 rs ≡ true) (sym (comes-next now.tails).reads_are) (in_head read.0 (comes-next now.tails).reads)

  ended-turn : next code (words_of code inputs w.heap) st ≡ Over → (names : ℕ → ℕ)
      → next_move code names (running_at (state_at code inputs (record {
        tables = w.tables;
        heap = w.heap;
        spent = w.spent;
        cursor = w.cursor;
        limit = w.limit;
        frames =
            Begun below read ∷ w.frames;
      }) now.course.store (start.chosen ++ now.course.made)) st now.waits (forest_of (entries now.left ++ now.tail)))
      ≡ Went (item.End ∷ []) (running_at (state_at code inputs w now.course.store (start.chosen ++ now.course.made)) below (comes-next now.tails).waits (forest_of (entries now.left ++ now.tail)))
  ended-turn over names = end-turn code names (state_at code inputs w now.course.store (start.chosen ++ now.course.made)) st below now.waits (comes-next now.tails).waits
      (forest_of (entries now.left ++ now.tail)) (comes-next now.tails).waits_are over

  -- the reads that wait are others
  others-kept : (t : Tables) (s : ℕ) → NodeMore w.cursor s (End read) w.tables t → (r : ℕ) → is_in r (waiting w.frames) ≡ true → end_in r t.trace.nodes ≡ end_in r w.tables.trace.nodes
  others-kept t s k r i = ap (end_in r) k.nodes ∙ ends-after w.cursor (new_entry s (End read)) r w.tables.trace.nodes (ends_other r read differs)
    where
      differs : r ≢ read.0
      differs e =
          let all : Distinct (now.reads ++ start.reads) = open-distinct start (record {
            tables = w.tables;
            heap = w.heap;
            spent = w.spent;
            cursor = w.cursor;
            limit = w.limit;
            frames =
                Begun below read ∷ w.frames;
          }) now.reads (entries now.left ++ now.tail) now.placed read.0 among in
          let parts : Distinct (read.0 ∷ ((comes-next now.tails).reads ++ start.reads)) = subst (λ rs. Distinct (rs ++ start.reads)) (comes-next now.tails).reads_are all in
          let there : is_in r ((comes-next now.tails).reads ++ start.reads) ≡ true = is-in-front r (comes-next now.tails).reads start.reads (waiting-open (comes-next now.tails).tails r i) in
          let none : is_in read.0 ((comes-next now.tails).reads ++ start.reads) ≡ false = not-in-is read.0 ((comes-next now.tails).reads ++ start.reads) parts.0 in
          let no : true ≡ false = sym there ∙ (ap (λ x. is_in x ((comes-next now.tails).reads ++ start.reads)) e ∙ none) in
          absurd (cc)

  pub now-finish : (t : Tables) (s : ℕ) → next code (words_of code inputs w.heap) st ≡ Over → NodeMore w.cursor s (End read) w.tables t
      → RunningNow code inputs start below (record { tables = t; heap = w.heap; spent = w.spent; cursor = s; limit = w.limit; frames = w.frames })
  unfolding placed-put
  now-finish t s over k = record {
    reads = (comes-next now.tails).reads;
    left = now.left;
    waits = (comes-next now.tails).waits;
    tail = now.tail;
    placed = placed-put start (record { tables = w.tables; heap = w.heap; spent = w.spent; cursor = w.cursor; limit = w.limit; frames = Begun below read ∷ w.frames }) now.reads
        (entries now.left ++ now.tail)
        now.placed t s (End read) w.heap w.limit w.frames (comes-next now.tails).reads k
        (subst (λ rs. unclosed (unclosed_after s (End read) (rs ++ start.reads)) [] ≡ Some ((comes-next now.tails).reads ++ start.reads)) (sym (comes-next now.tails).reads_are)
        (closed-last read ((comes-next now.tails).reads ++ start.reads) s))
        (unfinished-waiting w.frames w.tables.trace.nodes t.trace.nodes (others-kept t s k) now.placed.unfinished.1);
    tails = (comes-next now.tails).tails;
    bare = now.bare;
    bounds = now.bounds;
    blocks = blocks-node code inputs w.heap w.tables t now.blocks w.cursor s (End read) k (λ bs. refl) (λ q x r. absurd (cc)) (λ i key e. absurd (cc));
    course = course-turn code inputs start (record { tables = w.tables; heap = w.heap; spent = w.spent; cursor = w.cursor; limit = w.limit; frames = Begun below read ∷ w.frames })
        (through now.placed.done now.placed.last) (forest_of (through now.placed.done now.placed.last))
        (λ s. running_at s st now.waits (forest_of (entries now.left ++ now.tail))) now.course
        (record { tables = t; heap = w.heap; spent = w.spent; cursor = s; limit = w.limit; frames = w.frames })
        (through (through now.placed.done now.placed.last) (new_entry s (End read))) (forest_of (through (through now.placed.done now.placed.last) (new_entry s (End read))))
        (λ s. running_at s below (comes-next now.tails).waits (forest_of (entries now.left ++ now.tail)))
        (item.End ∷ []) now.course.store (forest-put (through now.placed.done now.placed.last) s (End read))
        (ended-turn over) refl
        (same-ended (length inputs) now.course.store (base_in w.tables.mods) (base_in t.mods) (through now.placed.done now.placed.last) s read now.course.same k.bases)
        now.course.given;
  }
