-- A run from nothing, when its last unit is over.
use Rattle.std.proofs.Common.{true, ◌≡◌, ◌<◌, ◌≤◌, inl, inr, ℕ, Option, Some, None, List, [], ◌++◌, length, reverse, refl, sym, ap, subst, ◌∙◌, arith, append-nil}
use Rattle.ceal_base.specs.Block.{Block}
use Rattle.ceal_base.specs.Trace.{Nothing, flat}
use Rattle.ceal_base.specs.declared.word.Word.{Word}
use Rattle.ceal_code.specs.Fitting.{Fits}
use Rattle.ceal_code.specs.Fresh.{fresh}
use Rattle.ceal_code.specs.Program.{Code}
use Rattle.ceal_code.specs.Step.{Stack, Over, next as next_step, started}
use Rattle.ceal_code.specs.Stacks.{stack_in, aside_in}
use Rattle.ceal_heap.specs.Heap.{HasSlots, ReleasesRevoked, next}
use Rattle.ceal_order.specs.Stamps.{Distinct}
use Rattle.ceal_order.specs.declared.stamp.Stamp.{Stamp}
use Rattle.ceal_repair.proofs.Revocation.BlockRelease.{words-released, none-revoked, blocks-released}
use Rattle.ceal_repair.proofs.Propagation.NewBlockNumbers.{goes-on}
use Rattle.ceal_repair.proofs.Runs.FewNumbers.{next-released}
use Rattle.ceal_repair.proofs.KeptNodes.PassAll.{position-within}
use Rattle.ceal_repair.proofs.Revocation.FirstNode.{length-more}
use Rattle.ceal_repair.proofs.TableCalls.BaseEdit.{queue-empty}
use Rattle.ceal_repair.specs.Answers.{IsFirstRun}
use Rattle.ceal_repair.specs.Looks.{PaysFirst}
use Rattle.ceal_repair.specs.Around.{Tails}
use Rattle.ceal_repair.specs.Entries.{entries}
use Rattle.ceal_repair.specs.Moment.{View, RunningNow, first_start, state_at, through}
use Rattle.ceal_repair.specs.Repairs.{code_of, inputs_of, view, Runs, IsOver}
use Rattle.ceal_repair.specs.Words.{words_of}
use Rattle.ceal_repair.specs.Frames.{Frame, frames_in}
use Rattle.ceal_repair.specs.declared.repair.Repair.{Repair}
use Rattle.ceal_repair.specs.declared.running.Running.{Running}
use Rattle.ceal_theory.specs.Chosen.{ChosenLaws, ComesBy, EndedFirst, first_begins}
use Rattle.ceal_theory.specs.Course.{Wait, running_at}
use Rattle.ceal_theory.specs.Known.{KnownItems}
use Rattle.ceal_theory.specs.Named.{then_from}
use Rattle.ceal_theory.specs.Cover.{known_after}
use Rattle.ceal_theory.specs.Repair.{State}
use Rattle.ceal_theory.specs.Moves.{Ended, IsMove, next_move}
use Rattle.ceal_theory.proofs.SlicedRepair.AddedBlocks.{anew-adds}
use Rattle.ceal_theory.proofs.MoveMachine.MachineLaws.{machine-law}
use Rattle.ceal_trace.proofs.Entries.{has-read}
use Rattle.ceal_trace.proofs.Parts.{not_before, position-part}
use Rattle.ceal_trace.specs.Items.{forest_of, unclosed, Nests}
use Rattle.ceal_trace.specs.Nodes.{Entry, stamps_in, has_node, position}

-- ---- no frame is left

pub frames-none : {limit until : Option Stamp} {beyond tail : List Entry} {fs : List Frame} {ws : List Wait} {rs : List ℕ} → Tails limit beyond until fs ws rs tail → fs ≡ []
    → (until ≡ limit) × (ws ≡ []) × (rs ≡ []) × (tail ≡ beyond)
frames-none Tails.last e = (refl, refl, refl, refl)
frames-none (Tails.begun below read t) e = absurd cc
frames-none (Tails.taken below e r m g t) k = absurd cc
frames-none (Tails.kept e r m t) k = absurd cc

module _ (code : Code) (inputs : List Block) (f : ℕ) (args : List Word) (fits : Fits code inputs f args) (laws : ChosenLaws code) (st : Stack) (v : View)
    (now : RunningNow code inputs (first_start code inputs f args) st v) where
  -- the run from scratch needs more steps than the fuel
  pub first-over : (fuel : ℕ) → fuel < v.spent → fresh code f args inputs fuel ≡ None
  first-over fuel more =
      laws.first_over inputs f args fits
      (running_at (state_at code inputs v now.course.store now.course.made) st now.waits (forest_of (entries now.left ++ now.tail))) now.course.made now.course.out now.course.comes
      now.course.given.distinct fuel more

  module _ (over : next_step code (words_of code inputs v.heap) st ≡ Over) (frames : v.frames ≡ []) where
    bottom : (v.limit ≡ None) × (now.waits ≡ []) × (now.reads ≡ []) × (now.tail ≡ [])
    bottom = frames-none now.tails frames

    behind-none : entries now.left ++ now.tail ≡ []
    behind-none = rw (now.bare bottom.0, bottom.3) refl

    abbrev front : List Entry
    front = through now.placed.done now.placed.last

    nodes-front : v.tables.trace.nodes ≡ front
    nodes-front = now.placed.nodes ∙ (ap (λ es. front ++ es) behind-none ∙ append-nil front)

    abbrev state : State
    state = state_at code inputs v now.course.store now.course.made

    comes : ComesBy code (first_begins code inputs f args) (running_at state st [] []) now.course.made now.course.out
    comes = subst (λ ws. ComesBy code (first_begins code inputs f args) (running_at state st ws []) now.course.made now.course.out) bottom.1
        (subst (λ es. ComesBy code (first_begins code inputs f args) (running_at state st now.waits (forest_of es)) now.course.made now.course.out) behind-none now.course.comes)

    ends : (names : ℕ → ℕ) → next_move code names (running_at state st [] []) ≡ Ended
    unfolding next_move
    ends names = rw over refl

    abbrev ended : EndedFirst code inputs f args now.course.made state now.course.out
    ended = laws.first_ends inputs f args fits (running_at state st [] []) now.course.made now.course.out comes now.course.given.distinct ends

    items : forest_of v.tables.trace.nodes ≡ flat ended.items
    items = ap forest_of nodes-front ∙ (now.course.written ∙ ended.flat_form)

    nests : Nests v.tables.trace.nodes
    nests = ap (λ es. unclosed (Some []) es) nodes-front ∙ (now.placed.opened ∙ ap (λ rs. Some (rs ++ [])) bottom.2)

    -- nothing is after the cursor, so nothing is queued
    idle : v.tables.stale.stamps ≡ []
    idle = queue-empty v.tables.stale.stamps
        (λ r i.
        let distinct = subst (λ es. Distinct (stamps_in es)) nodes-front now.placed.kept.step.whole.order.distinct in
        let at : position v.cursor v.tables.trace.nodes ≡ length now.placed.done =
        ap (position v.cursor) nodes-front
        ∙ (ap (λ s. position s front) (sym now.placed.cursor) ∙ position-part now.placed.last [] now.placed.done (not_before now.placed.done now.placed.last [] distinct)) in
        let here = subst (λ es. has_node r es ≡ true) nodes-front (has-read r v.tables.trace.nodes (now.placed.kept.step.queued r i)) in
        let far : position r v.tables.trace.nodes < length front = subst (λ es. position r es < length front) (append-nil front ∙ sym nodes-front) (position-within r front [] here) in
        omega (arith, now.placed.late r i, at, far, length-more now.placed.done now.placed.last))

    -- no more numbers were given out than steps were run
    few-numbers : next v.heap ≤ v.spent
    few-numbers =
        let g = goes-on [] now.course.made now.course.given.distinct (λ b i. refl) in
        let m = machine-law code g.names in
        let last = subst (λ t. IsMove code g.names (running_at state st [] []) t) (ends g.names) (m.moves (running_at state st [] [])) in
        let done = (comes.leads g.names g.continues).back state [] last.back in
        let whole = (m.runs (first_begins code inputs f args).state state (started code f args) Nothing (now.course.out ++ [])).0 done in
        let room = (anew-adds code whole.3).work in
        elim now.course.given.few [ inl k ↦ omega (arith, k) | inr k ↦ omega (arith, k, room) ]

    mentions : KnownItems (length inputs) [] (flat ended.items) (known_after [] (flat ended.items))
    mentions = subst (λ is. KnownItems (length inputs) [] is (known_after [] is)) (sym (ap forest_of nodes-front) ∙ items) now.course.mentions

    module _ (run : Running) (same : run.tables ≡ v.tables) (spent : run.spent ≡ v.spent) (rel : ReleasesRevoked v.heap run.heap) (slots : HasSlots run.heap) where
      -- what is left is the first trace of the call
      pub first-run : (fuel : ℕ) → v.spent ≤ fuel → PaysFirst run → run.tables.mods.marked ≡ None → IsFirstRun code inputs f args fuel run
      first-run fuel few paid unmarked = record {
        trace = ended.items;
        is_run = record {
          stands = record {
            kept = rw same now.placed.kept;
            nests = rw same nests;
            items = rw same items;
            words = words-released code inputs ended.items v.tables v.heap run.heap now.blocks items rel ended.words;
            released = none-revoked code inputs ended.items v.tables v.heap run.heap now.blocks items rel;
            slots = slots;
            blocks = rw same (blocks-released code inputs ended.items v.tables v.heap run.heap now.blocks items rel mentions);
          };
          replays = ended.named.replays;
          honest = ended.named.honest;
          few = omega (arith, few, ended.steps);
          numbers = let same = next-released v.heap run.heap rel in omega (arith, few-numbers, same, few);
          idle = rw same idle;
        };
        pays = paid;
        unmarked = unmarked;
        first = ended.a;
        is = ended.is fuel few;
        names = then_from now.course.made ended.bound;
        named = ended.named;
        work = spent ∙ sym ended.counted;
      }

-- a repair that is over, whose revoked blocks were taken away
module _ (code : Code) (inputs : List Block) (f : ℕ) (args : List Word) (fits : Fits code inputs f args) (laws : ChosenLaws code) (r : Repair) (same_code : code_of r ≡ code)
    (same_inputs : inputs_of r ≡ inputs) (fuel : ℕ) where
  pub first-done : IsOver (first_start code inputs f args) r → (view r).spent ≤ fuel → (run : Running) → run.tables ≡ r.running.now.tables → run.spent ≡ r.running.now.spent
      → ReleasesRevoked r.running.now.heap run.heap
      → HasSlots run.heap → PaysFirst run → run.tables.mods.marked ≡ None → IsFirstRun code inputs f args fuel run
  first-done over few run tables spent rel slots paid unmarked =
      first-run code inputs f args fits laws over.stack (view r) (rw (same_code, same_inputs) at over.now) (rw (same_code, same_inputs) at over.over)
      (ap (λ fs. frames_in (aside_in r.stack.now) (reverse fs)) over.last) run tables spent rel slots fuel few paid unmarked

  pub first-out : Runs (first_start code inputs f args) r → fuel < (view r).spent → fresh code f args inputs fuel ≡ None
  first-out runs more = first-over code inputs f args fits laws (stack_in r.stack.now) (view r) (rw (same_code, same_inputs) at runs) fuel more
