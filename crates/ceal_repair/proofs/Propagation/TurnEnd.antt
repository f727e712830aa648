-- The end of a turn: what is left over is revoked, and the run stands for one turn more.
use Rattle.std.proofs.Common.{◌≡◌, ℕ, true, Some, List, [], ◌∷◌, ◌++◌, refl, sym, ap, subst, ◌∙◌, append_assoc}
use Rattle.std.specs.Option.{option_map}
use Rattle.ceal_base.specs.Block.{Block}
use Rattle.ceal_base.specs.Trace.{Trace, flat}
use Rattle.ceal_base.specs.declared.forest.Item.{Item}
use Rattle.ceal_base.specs.declared.forest.Item.TheVariants as item
use Rattle.ceal_base.specs.declared.word.BlockId.TheVariants.{Core}
use Rattle.ceal_base.specs.declared.word.Word.{Word}
use Rattle.ceal_code.specs.Program.{Code}
use Rattle.ceal_code.specs.Step.{Stack, Over, next}
use Rattle.ceal_heap.specs.Heap.{Contents, plain_block, plain_of}
use Rattle.ceal_repair.proofs.Propagation.Departing.{grove-inside}
use Rattle.ceal_repair.proofs.Propagation.NewBlockNumbers.{GoesOn, goes-on, continues-front, turns-sound, turns-more}
use Rattle.ceal_repair.proofs.Runs.RunEnd.{frames-none}
use Rattle.ceal_repair.proofs.Runs.Nearness.{lies-parts}
use Rattle.ceal_repair.proofs.Runs.Paid.{stale-after}
use Rattle.ceal_repair.proofs.Runs.FewNumbers.{given-same}
use Rattle.ceal_repair.proofs.Nodes.AroundRead.{flat-once, end-closes, spot-nests}
use Rattle.ceal_repair.proofs.Propagation.TurnCourse.{store_there, start_there, back_there, chosen_now, turn-course}
use Rattle.ceal_order.specs.Stamps.{is_in}
use Rattle.ceal_repair.specs.Blocks.{HasBlocks, KeepsReadable}
use Rattle.ceal_repair.specs.Entries.{stamp_of_number, entry, entries, end_entry, first_in, Lies}
use Rattle.ceal_repair.specs.Moment.{View, Start, RunningNow, through, state_at}
use Rattle.ceal_repair.specs.Repairs.{code_of, inputs_of, view, IsOver}
use Rattle.ceal_repair.specs.Words.{words_of}
use Rattle.ceal_repair.specs.Kept.{Kept}
use Rattle.ceal_repair.specs.Turning.{Since, later, StandsFor, TurnedSoFar, TurnBegan, TurnEnded}
use Rattle.ceal_repair.specs.declared.repair.Repair.{Repair as RepairInCode}
use Rattle.ceal_repair.specs.declared.running.Running.{Running}
use Rattle.ceal_theory.proofs.SlicedRepair.SliceLaws.{slice-law}
use Rattle.ceal_theory.specs.Chosen.{Continues}
use Rattle.ceal_theory.specs.Course.{Wait, running_at}
use Rattle.ceal_theory.specs.Groves.{Grove, Bare}
use Rattle.ceal_theory.specs.Repair.{State}
use Rattle.ceal_theory.specs.SliceLaws.{Turns}
use Rattle.ceal_theory.specs.Slices.{Slices, repair_at, with_inputs}
use Rattle.ceal_theory.specs.Moves.{Ended, next_move}
use Rattle.ceal_trace.proofs.Parting.{unclosed-append}
use Rattle.ceal_trace.proofs.Parts.{forest-append}
use Rattle.ceal_trace.specs.Items.{forest_of, unclosed, Nests}
use Rattle.ceal_trace.specs.Nodes.{Entry, stamps_in}
use Rattle.ceal_trace.specs.declared.node.Node.TheVariants.{Read}

-- where a unit is over and nothing waits the machine has ended
turn-ended : (code : Code) (names : ℕ → ℕ) (s : State) (st : Stack) (ws : List Wait) (is : List Item) → ws ≡ [] → next code s.plain st ≡ Over → next_move code names (running_at s st ws is) ≡ Ended
unfolding next_move
turn-ended code names s st ws is e over = rw (over, e) refl

-- the words of core blocks whose state is the same
core-words : (code : Code) (inputs : List Block) (old new : Contents) → KeepsReadable old new → (b : ℕ) → words_of code inputs old (Core b) ≡ plain_of new (Core b)
unfolding words_of with_inputs
core-words code inputs old new h b = ap (option_map plain_block) (sym (h.blocks (Core b)))

module _ (code : Code) (inputs : List Block) (f : ℕ) (args : List Word) (o : Since) (before : Running) (start : Start) (b : TurnBegan code inputs f args o before start) (st : Stack) (v : View)
    (now : RunningNow code inputs (start_there code inputs f args o before start b) st v) (frames : v.frames ≡ []) where
  bottom : (v.limit ≡ Some (stamp_of_number b.spot.end)) × (now.waits ≡ []) × (now.reads ≡ []) × (now.tail ≡ end_entry b.spot.end b.spot.read b.spot.end_steps ∷ b.spot.behind)
  bottom = frames-none now.tails frames

  abbrev front : List Entry
  front = through now.placed.done now.placed.last

  pub lies-ended : Lies v.cursor front now.left now.tail v.tables
  lies-ended = record { done = now.placed.done; last = now.placed.last; ends = refl; is_at = now.placed.cursor; nodes = now.placed.nodes; late = now.placed.late }

  pub limit-ended : v.limit ≡ Some (stamp_of_number b.spot.end)
  limit-ended = bottom.0

  pub first-ended : first_in now.tail ≡ Some b.spot.end
  first-ended = ap first_in bottom.3

  abbrev chosen : List ℕ
  chosen = chosen_now code inputs f args o before start b st v now

  module _ (over : next code (words_of code inputs v.heap) st ≡ Over) (run : Running) (l' : Lies v.cursor front Bare now.tail run.tables) (kept : Kept run.tables)
      (blocks : KeepsReadable v.heap run.heap) (has : HasBlocks code inputs v.heap v.tables → HasBlocks code inputs run.heap run.tables) (spent : run.spent ≡ v.spent) where
    nodes : run.tables.trace.nodes ≡ front ++ end_entry b.spot.end b.spot.read b.spot.end_steps ∷ b.spot.behind
    nodes = l'.nodes ∙ ap (λ es. front ++ es) bottom.3

    abbrev state : State
    state = state_at code inputs v now.course.store chosen

    -- with these names the turn is a slice of one read
    record Come (names : ℕ → ℕ) : Type 0 where
      pub items : Trace
      pub slice : Slices code names inputs (Some 1) b.so_far.repair (repair_at state items)
      pub same : flat items ≡ forest_of run.tables.trace.nodes

    items-now : forest_of run.tables.trace.nodes
        ≡ forest_of b.spot.before ++ item.Read b.spot.place (store_there code inputs f args o before start b b.spot.place) b.spot.unit b.spot.var b.spot.args ∷
        (now.course.out ++ item.End ∷ back_there code inputs f args o before start b)
    items-now = ap forest_of nodes
        ∙ (forest-append front (end_entry b.spot.end b.spot.read b.spot.end_steps ∷ b.spot.behind)
        ∙ (ap (λ is. is ++ item.End ∷ back_there code inputs f args o before start b) now.course.written
        ∙ (append_assoc (forest_of b.spot.before ++ item.Read b.spot.place (store_there code inputs f args o before start b b.spot.place) b.spot.unit b.spot.var b.spot.args ∷ []) now.course.out
        (item.End ∷ back_there code inputs f args o before start b)
        ∙ append_assoc (forest_of b.spot.before) (item.Read b.spot.place (store_there code inputs f args o before start b b.spot.place) b.spot.unit b.spot.var b.spot.args ∷ [])
        (now.course.out ++ item.End ∷ back_there code inputs f args o before start b))))

    comes : (names : ℕ → ℕ) → Continues chosen names → Come names
    comes names h =
        let e = (turn-course code inputs f args o before start b st v now names h).ended (turn-ended code names state st now.waits (forest_of (entries now.left ++ now.tail)) bottom.1 over) in
        record { items = e.0; slice = e.1; same = e.2 ∙ sym items-now }

    going : GoesOn chosen o.first
    going = goes-on o.first chosen now.course.given.distinct now.course.given.apart

    one : Come going.names
    one = comes going.names going.continues

    -- and so with all that continue the chosen numbers
    every : (names : ℕ → ℕ) → Continues chosen names → Slices code names inputs (Some 1) b.so_far.repair (repair_at state one.items)
    every names h =
        let c = comes names h in
        subst (λ t. Slices code names inputs (Some 1) b.so_far.repair (repair_at state t)) (flat-once c.items one.items (c.same ∙ sym one.same)) c.slice

    old-history : (names : ℕ → ℕ) → Continues chosen names → Turns code names inputs o.turns o.repair b.so_far.repair
    old-history names h = b.so_far.history names (continues-front b.so_far.chosen now.course.made names h)

    nests : Nests run.tables.trace.nodes
    nests = ap (λ es. unclosed (Some []) es) nodes
        ∙ (unclosed-append front (end_entry b.spot.end b.spot.read b.spot.end_steps ∷ b.spot.behind) (Some [])
        ∙ (ap (λ o. unclosed o (end_entry b.spot.end b.spot.read b.spot.end_steps ∷ b.spot.behind)) (now.placed.opened ∙ ap (λ rs. Some (rs ++ b.spot.read ∷ b.reads)) bottom.2)
        ∙ (end-closes b.spot.end b.spot.read b.spot.end_steps b.spot.behind b.reads
        ∙ spot-nests b.spot b.so_far.stands.nests b.reads b.opened)))

    stands : StandsFor code inputs f args (repair_at state one.items) run
    stands = record {
      kept = kept;
      nests = nests;
      items = sym one.same;
      known = core-words code inputs v.heap run.heap blocks;
      blocks = has now.blocks;
      spent = sym spent;
      names = going.names;
      sound = (slice-law code going.names inputs f args b.called.fits b.so_far.repair
          (turns-sound code inputs f args o b.called going.names going.single going.apart o.turns b.so_far.repair (old-history going.names going.continues)) (Some 1)
          (repair_at state one.items) one.slice).sound;
    }

    so-far : TurnedSoFar code inputs f args (later 1 o) run
    so-far = record {
      repair = repair_at state one.items;
      stands = stands;
      chosen = chosen;
      number = refl;
      given = given-same o.first o.numbers chosen v.heap run.heap blocks now.course.given;
      history = λ names h. turns-more code names inputs o.repair b.so_far.repair (repair_at state one.items) o.turns (old-history names h) (every names h);
    }

    abbrev beyond : List Entry
    beyond = end_entry b.spot.end b.spot.read b.spot.end_steps ∷ b.spot.behind

    -- the read as it is now
    abbrev read-now : Entry
    read-now = entry b.spot.read (Read b.spot.place (store_there code inputs f args o before start b b.spot.place) b.spot.unit b.spot.var b.spot.args) now.placed.began.steps

    whole : run.tables.trace.nodes ≡ b.spot.before ++ read-now ∷ (now.placed.began.fresh ++ beyond)
    whole = nodes ∙ (ap (λ es. es ++ beyond) now.placed.began.same ∙ append_assoc b.spot.before (read-now ∷ now.placed.began.fresh) beyond)

    -- it is open after the nodes that the turn made
    opened-now : unclosed (Some (b.spot.read ∷ b.reads)) now.placed.began.fresh ≡ Some (b.spot.read ∷ b.reads)
    opened-now = sym (ap (λ o. unclosed o (read-now ∷ now.placed.began.fresh)) b.opened)
        ∙ (sym (unclosed-append b.spot.before (read-now ∷ now.placed.began.fresh) (Some []))
        ∙ (sym (ap (λ es. unclosed (Some []) es) now.placed.began.same)
        ∙ (now.placed.opened ∙ ap (λ rs. Some (rs ++ b.spot.read ∷ b.reads)) bottom.2)))

    inside-now : (g : Grove) × (now.placed.began.fresh ≡ entries g)
    inside-now = grove-inside run.tables.trace kept.step.whole b.spot.before now.placed.began.fresh beyond read-now b.reads whole b.opened opened-now

    -- the nodes before the read are as they were, and so are those from its end on
    pub turn-ends : TurnEnded code inputs f args o start run
    turn-ends = record {
      so_far = so-far;
      steps = now.placed.began.steps;
      inside = inside-now.0;
      nodes = subst (λ (s : Start). run.tables.trace.nodes ≡ s.before ++ entry s.stamp s.node now.placed.began.steps ∷ (entries inside-now.0 ++ s.beyond)) (sym b.is)
          (whole ∙ ap (λ es. b.spot.before ++ read-now ∷ (es ++ beyond)) inside-now.1);
      ahead = λ r stale. subst (λ (s : Start). is_in r (stamps_in s.beyond) ≡ true) (sym b.is)
          (subst (λ (es : List Entry). is_in r (stamps_in es) ≡ true) ((lies-parts v.cursor front Bare now.tail run.tables kept l').1 ∙ bottom.3)
          (stale-after run.tables kept v.cursor r l'.late stale));
    }

-- the unit of a repair in code that is over runs from that beginning
pub now-there : (r : RepairInCode) (f : ℕ) (args : List Word) (o : Since) (before : Running) (start : Start) (b : TurnBegan (code_of r) (inputs_of r) f args o before start) (e : IsOver start r)
    → RunningNow (code_of r) (inputs_of r) (start_there (code_of r) (inputs_of r) f args o before start b) e.stack (view r)
now-there r f args o before start b e = subst (λ s. RunningNow (code_of r) (inputs_of r) s e.stack (view r)) b.is e.now
