-- A turn of propagation as its course: its machine has come from the read by itself; where it has spent more steps than
-- the fuel, so has each slice that comes so far.
use Rattle.std.proofs.Common.{◌≡◌, ℕ, zero, suc, ◌+◌, ◌<◌, Some, None, List, ◌∷◌, ◌++◌, sym, subst, ◌∙◌, arith}
use Rattle.ceal_base.specs.Block.{Block}
use Rattle.ceal_base.specs.Trace.{Trace, flat}
use Rattle.ceal_base.specs.declared.forest.Item.{Item}
use Rattle.ceal_base.specs.declared.forest.Item.TheVariants as item
use Rattle.ceal_base.specs.declared.word.Word.{Word}
use Rattle.ceal_code.specs.Program.{Code}
use Rattle.ceal_code.specs.Replay.{Store}
use Rattle.ceal_code.specs.Stacks.{stack_in}
use Rattle.ceal_code.specs.Step.{Stack}
use Rattle.ceal_repair.proofs.Propagation.NewBlockNumbers.{GoesOn, goes-on, continues-front}
use Rattle.ceal_repair.proofs.Nodes.AroundRead.{spot-items}
use Rattle.ceal_repair.specs.Entries.{entries}
use Rattle.ceal_repair.specs.Moment.{View, Start, RunningNow, state_at}
use Rattle.ceal_repair.specs.Repairs.{code_of, inputs_of, view, Runs}
use Rattle.ceal_repair.specs.Propagation.{IsSpent}
use Rattle.ceal_repair.specs.Turning.{Since, TurnBegan, turn_start}
use Rattle.ceal_repair.specs.declared.repair.Repair.{Repair as RepairInCode}
use Rattle.ceal_repair.specs.declared.running.Running.{Running}
use Rattle.ceal_theory.proofs.Nodes.TurnCourse.{turn-course-law}
use Rattle.ceal_theory.proofs.SlicedRepair.SliceLaws.{turns-over-law}
use Rattle.ceal_theory.specs.Chosen.{Continues}
use Rattle.ceal_theory.specs.Course.{TurnCourse, running_at}
use Rattle.ceal_theory.specs.Groves.{stepped, trace_in}
use Rattle.ceal_theory.specs.SliceLaws.{TurnedOver}
use Rattle.ceal_theory.specs.Slices.{starting, sliced}
use Rattle.ceal_theory.specs.Moves.{Machine}
use Rattle.ceal_theory.specs.Walk.{store_after}
use Rattle.ceal_trace.specs.Items.{ticks, forest_of}

-- what the one number has beyond the other
past : (k n : ℕ) → n < k → (j : ℕ) × (k ≡ n + suc j)
past zero n h = absurd (omega (arith, h))
past (suc k) zero h = (k, omega arith)
past (suc k) (suc n) h = let p = past k n (omega (arith, h)) in (p.0, omega (arith, p.1))

module _ (code : Code) (inputs : List Block) (f : ℕ) (args : List Word) (o : Since) (before : Running) (start : Start) (b : TurnBegan code inputs f args o before start) where
  -- what the places hold at the read
  abbrev pub store_there : Store
  store_there = store_after code (starting code inputs b.so_far.repair.known) (forest_of b.spot.before)

  -- the beginning of the turn, written out
  abbrev pub start_there : Start
  start_there = turn_start code inputs b.so_far.repair o.first o.numbers b.so_far.chosen b.so_far.stands.sound.blocks (b.spot.read ∷ b.reads) b.spot (store_there b.spot.place)

  abbrev pub inside_there : Trace
  inside_there = stepped b.spot.steps (trace_in b.spot.inside)

  -- the items after the end of the read
  abbrev pub back_there : List Item
  back_there = ticks b.spot.end_steps ++ forest_of b.spot.behind

  pub old-items : flat b.so_far.repair.items ≡ forest_of b.spot.before ++ item.Read b.spot.place b.spot.value b.spot.unit b.spot.var b.spot.args ∷ (flat inside_there ++ item.End ∷ back_there)
  old-items = sym b.so_far.stands.items ∙ spot-items b.spot

  module _ (st : Stack) (v : View) (now : RunningNow code inputs start_there st v) where
    abbrev pub chosen_now : List ℕ
    chosen_now = b.so_far.chosen ++ now.course.made

    abbrev pub machine_now : Machine
    machine_now = running_at (state_at code inputs v now.course.store chosen_now) st now.waits (forest_of (entries now.left ++ now.tail))

    -- with names that continue all numbers that were given, it is a course of the turn
    pub turn-course : (names : ℕ → ℕ) → Continues chosen_now names
        → TurnCourse code names inputs b.so_far.repair (forest_of b.spot.before) b.spot.place b.spot.unit b.spot.var b.spot.args inside_there back_there machine_now now.course.out
    turn-course names h =
        turn-course-law code names inputs b.so_far.repair (forest_of b.spot.before) b.spot.place b.spot.value b.spot.unit b.spot.var b.spot.args inside_there back_there old-items b.agrees b.stale
        machine_now now.course.out (now.course.comes.leads names h)

    -- it has spent more steps than the fuel
    module _ (fuel : ℕ) (more : fuel < v.spent) where
      abbrev going_on : GoesOn chosen_now o.first
      going_on = goes-on o.first chosen_now now.course.given.distinct now.course.given.apart

      over : (sliced code going_on.names inputs None fuel b.so_far.repair ≡ None) × ((k : ℕ) → sliced code going_on.names inputs (Some (suc k)) fuel b.so_far.repair ≡ None)
      over = (turn-course going_on.names going_on.continues).over fuel more

      before-it : TurnedOver code going_on.names inputs o.turns o.repair b.so_far.repair
      before-it = turns-over-law code going_on.names inputs f args b.called.fits o.repair (b.called.sound going_on.names going_on.single going_on.apart) o.turns b.so_far.repair
          (b.so_far.history going_on.names (continues-front b.so_far.chosen now.course.made going_on.names going_on.continues))

      part-over : (k : ℕ) → o.turns < k → sliced code going_on.names inputs (Some k) fuel o.repair ≡ None
      part-over k h =
          let p = past k o.turns h in
          subst (λ k. sliced code going_on.names inputs (Some k) fuel o.repair ≡ None) (sym p.1) (before-it.part fuel p.0 (over.1 p.0))

      pub is-spent : IsSpent code inputs fuel o
      is-spent = record { names = going_on.names; single = going_on.single; off = going_on.apart; whole = before-it.whole fuel over.0; part = part-over }

-- a turn that has spent more steps than the fuel
pub turn-over : (code : Code) (inputs : List Block) (f : ℕ) (args : List Word) (o : Since) (before : Running) (start : Start) → TurnBegan code inputs f args o before start
    → (r : RepairInCode) → code_of r ≡ code → inputs_of r ≡ inputs → Runs start r → (fuel : ℕ) → fuel < (view r).spent → IsSpent code inputs fuel o
turn-over code inputs f args o before start b r same_code same_inputs runs fuel more =
    is-spent code inputs f args o before start b (stack_in r.stack.now) (view r)
    (subst (λ s. RunningNow code inputs s (stack_in r.stack.now) (view r)) b.is (rw (same_code, same_inputs) at runs)) fuel more
