-- How many contents the calls of an engine look at.
use Rattle.std.proofs.Common.{◌≡◌, ◌≤◌, ◌+◌, ◌*◌, ℕ, inl, inr, Option, None, Some, List, length, refl, sym, ap, ◌∙◌, subst, arith}
use Rattle.ceal_base.specs.Block.{Block}
use Rattle.ceal_base.specs.declared.call.Call.{Call}
use Rattle.ceal_base.specs.declared.kind.Shape.{Shape}
use Rattle.ceal_base.specs.declared.typed.StructInfo.{StructInfo}
use Rattle.ceal_base.specs.declared.word.Place.{Place}
use Rattle.ceal_base.specs.declared.word.Word.{Word}
use Rattle.ceal_code.proofs.Words.SameIsEqual.{none-some}
use Rattle.ceal_code.specs.Program.{Code}
use Rattle.ceal_engine.proofs.Carrying.{same-as}
use Rattle.ceal_engine.specs.Engine.{EngineState}
use Rattle.ceal_engine.specs.Keeping.{Keeps, marked_kept, phase_at, running_in, state_of, timeline_in}
use Rattle.ceal_engine.specs.Room.{Within, RoomLaw}
use Rattle.ceal_engine.specs.Cost.{due, nodes_of, touched_of, touches_of, room_of, CostOfEdit, CostOfInput, CostOfRepair, LooksAtQueued, Updates, CostLaw}
use Rattle.ceal_engine.specs.Partial.{spent_in}
use Rattle.ceal_engine.specs.Runs.{opened, edited_at, same_stage, OfRuns, SetsBase, SetsInput}
use Rattle.ceal_engine.specs.declared.phase.Phase.TheVariants.{Finished}
use Rattle.ceal_engine.specs.declared.run.Run.{Run}
use Rattle.ceal_engine.specs.declared.run.Run.TheVariants as its
use Rattle.ceal_engine.specs.declared.run.Stage.{Stage}
use Rattle.ceal_engine.specs.declared.run.Stage.TheVariants as stage
use Rattle.ceal_order.specs.Stamps.{Distinct}
use Rattle.ceal_repair.proofs.Runs.Nearness.{all-kept, all-self, stale-revalued}
use Rattle.ceal_repair.specs.Distance.{Reuses}
use Rattle.ceal_repair.specs.Looks.{Distance, KeepsMarks, LooksAtQueued as LooksAtQueuedReads, raised, write_count}
use Rattle.ceal_repair.specs.declared.running.Running.{Running}
use Rattle.ceal_repair.specs.declared.tables.Tables.{Tables}
use Rattle.ceal_trace.specs.Nodes.{Timeline, stamps_in}

-- the steps that were spent so far are those of the repair that is under way, which an edit leaves
pub spent-edited : (g : Stage) (work : ℕ) → spent_in (phase_at (edited_at g)) work ≡ spent_in (phase_at g) work
spent-edited stage.Finished work = refl
spent-edited stage.Pending work = refl
spent-edited stage.Partial work = refl

module _ (code : Code) (fuel : ℕ) (inputs : List Block) (call : Option Call) where
  pub cost-edit : (p : Place) (value : Word) (more : List Block) (old run : Run) → OfRuns (SetsBase p value) edited_at old run
      → CostOfEdit (state_of code fuel inputs call old) (state_of code fuel more call run)
  cost-edit p value more its.New run o =
      subst (λ r. CostOfEdit (state_of code fuel inputs call its.New) (state_of code fuel more call r)) (sym o)
      (record { looked = refl; queued = omega arith; writes = refl; differed = refl; nodes = refl; spent = refl })
  cost-edit p value more (its.Kept old g) its.New o = elim o [ ]
  cost-edit p value more (its.Kept old g) (its.Kept run h) o = record {
    looked = o.0.looked;
    queued = o.0.queued;
    writes = ap (λ (t : Timeline). write_count t.nodes) o.0.same.trace;
    differed = o.0.differed;
    nodes = ap Some o.0.same.trace;
    spent = ap (λ h. spent_in (phase_at h) run.spent) o.1 ∙ (ap (spent_in (phase_at (edited_at g))) o.0.same.spent ∙ spent-edited g old.spent);
  }
  cost-edit p value more (its.Kept old g) its.Dropped o = elim o [ ]
  cost-edit p value more its.Dropped run o =
      subst (λ r. CostOfEdit (state_of code fuel inputs call its.Dropped) (state_of code fuel more call r)) (sym o)
      (record { looked = refl; queued = omega arith; writes = refl; differed = refl; nodes = refl; spent = refl })

  pub cost-input : (structs : List StructInfo) (input : ℕ) (shape : Shape) (words : List Word) (more : List Block) (old run : Run) → OfRuns (SetsInput structs input shape words) same_stage old run
      → CostOfInput (state_of code fuel inputs call old) (state_of code fuel more call run)
  cost-input structs input shape words more its.New run o =
      subst (λ r. CostOfInput (state_of code fuel inputs call its.New) (state_of code fuel more call r)) (sym o)
      (record { looked = refl; queued = refl; writes = refl; differed = refl; nodes = refl })
  cost-input structs input shape words more (its.Kept old g) its.New o = elim o [ ]
  cost-input structs input shape words more (its.Kept old g) (its.Kept run h) o = record {
    looked = o.0.looks.looked;
    queued = ap (λ (q : List ℕ). length q) o.0.looks.queue;
    writes = ap (λ (t : Timeline). write_count t.nodes) o.0.same.trace;
    differed = o.0.looks.differed;
    nodes = ap Some o.0.same.trace;
  }
  cost-input structs input shape words more (its.Kept old g) its.Dropped o = elim o [ ]
  cost-input structs input shape words more its.Dropped run o =
      subst (λ r. CostOfInput (state_of code fuel inputs call its.Dropped) (state_of code fuel more call r)) (sym o)
      (record { looked = refl; queued = refl; writes = refl; differed = refl; nodes = refl })

  -- a repair
  pub cost-repair : (before : Run) (run run' : Running) → opened before ≡ Some run → Distance run run' → (after : Stage)
      → CostOfRepair (state_of code fuel inputs call before) (state_of code fuel inputs call (its.Kept run' after))
  cost-repair its.New run run' is pays after = none-some run is
  cost-repair (its.Kept before g) run run' is pays after =
      let s = same-as g before run is in
      let a = ap (λ (t : Tables). t.mods.differed) s.tables in
      let b = ap (λ (t : Tables). t.mods.looked) s.tables in
      let d = ap (λ (t : Tables). length t.stale.stamps) s.tables in
      let w = ap (λ (t : Tables). write_count t.trace.nodes) s.tables in
      let k = pays.counts in
      let l = k.looked in
      let m = k.differed in
      let p = pays.looks in
      let f = pays.few in
      let h = pays.touches in
      let t = ap (λ (t : Tables). t.trace.touched + length t.trace.nodes) s.tables in
      record {
        looked = omega (arith, l, b);
        differed = omega (arith, m, a);
        fresh = pays.fresh;
        stale = pays.stale;
        reuses = subst (λ (t : Tables). Reuses t.trace.nodes run'.tables.trace.nodes pays.fresh pays.stale) s.tables pays.reuses;
        few = omega (arith, f, s.spent);
        counted = pays.differed ∙ ap (raised pays.stale) a;
        paid = omega (arith, p, b, d, w, s.spent);
        touched = omega (arith, h, t, s.spent);
        touches = (let u = k.touched in let v = ap (λ (t : Tables). t.trace.touched) s.tables in omega (arith, u, v));
        room = λ few.
            let y = ap (λ (t : Tables). length t.trace.nodes) s.tables in
            let z = ap (λ (t : Tables). length t.trace.nodes + t.trace.spare) s.tables in elim ((k.grows few).room) [
              | inl r ↦ inl (omega (arith, r, z))
              | inr r ↦ inr (omega (arith, r, h, y, s.spent))
            ];
      }
  cost-repair its.Dropped run run' is pays after = none-some run is

  -- a repair in which nothing is stale
  pub looks-queued : (before : Run) (run run' : Running) → opened before ≡ Some run → LooksAtQueuedReads run.tables run'.tables → (after : Stage)
      → LooksAtQueued (state_of code fuel inputs call before) (state_of code fuel inputs call (its.Kept run' after))
  looks-queued its.New run run' is looks after = none-some run is
  looks-queued (its.Kept before g) run run' is looks after =
      let s = same-as g before run is in
      let l = looks.looked in
      let b = ap (λ (t : Tables). t.mods.looked) s.tables in
      let d = ap (λ (t : Tables). length t.stale.stamps) s.tables in
      record { looked = omega (arith, l, b, d); differed = looks.differed ∙ ap (λ (t : Tables). t.mods.differed) s.tables }
  looks-queued its.Dropped run run' is looks after = none-some run is

-- the stamps of what an engine keeps are distinct
pub distinct-nodes : (code : Code) (fuel : ℕ) (inputs : List Block) (run : Run) (call : Option Call) → Keeps code fuel inputs run call → Distinct (stamps_in (nodes_of (timeline_in (running_in run))))
distinct-nodes code fuel inputs its.New call k = tt
distinct-nodes code fuel inputs (its.Kept run s) None k = elim k [ ]
distinct-nodes code fuel inputs (its.Kept run stage.Finished) (Some call) k = k.of.stands.kept.step.whole.order.distinct
distinct-nodes code fuel inputs (its.Kept run stage.Pending) (Some call) k = k.1.stands.kept.step.whole.order.distinct
distinct-nodes code fuel inputs (its.Kept run stage.Partial) (Some call) k = k.of.stands.kept.step.whole.order.distinct
distinct-nodes code fuel inputs its.Dropped call k = tt

-- where nothing needs to be done
pub cost-idle : (e : EngineState) → e.phase ≡ Finished → Distinct (stamps_in (nodes_of e.timeline)) → CostOfRepair e (record e { work = 0 })
cost-idle e h d = record {
  looked = omega arith;
  differed = omega arith;
  fresh = 0;
  stale = 0;
  reuses = all-kept (nodes_of e.timeline) (nodes_of e.timeline) (all-self (nodes_of e.timeline) d);
  few = rw h (omega arith);
  counted = refl;
  paid = rw h (omega arith);
  touched = rw h (omega arith);
  touches = omega arith;
  room = λ few. inl (omega arith);
}

-- what is as it was
pub cost-same : (e n : EngineState) → n ≡ e → CostOfEdit e n
cost-same e n h = rw h (record { looked = refl; queued = omega arith; writes = refl; differed = refl; nodes = refl; spent = refl })

pub input-same : (e n : EngineState) → n ≡ e → CostOfInput e n
input-same e n h = rw h (record { looked = refl; queued = refl; writes = refl; differed = refl; nodes = refl })

-- ---- a list of edits and repairs

counted : {s n : EngineState} {edits steps stale : ℕ} → Updates s n edits steps stale → due n ≤ due s + 2 * edits + 5 * steps + 2 * stale
counted Updates.none = omega arith
counted (Updates.edit u h) = let r = counted u in omega (arith, r, h.looked, h.queued, h.writes)
counted (Updates.input u h) = let r = counted u in omega (arith, r, h.looked, h.queued, h.writes)
counted (Updates.repair {e = e} {n = n} u h more most) =
    let p = h.paid in
    let k = stale-revalued (nodes_of e.timeline) (nodes_of n.timeline) h.fresh h.stale h.reuses in
    let r = counted u in omega (arith, r, p, k, most)

touched-so : {s n : EngineState} {edits steps stale : ℕ} → Updates s n edits steps stale → touched_of n.timeline ≤ touched_of s.timeline + 5 * steps + 2 * stale
touched-so Updates.none = omega arith
touched-so (Updates.edit u h) = let r = touched-so u in let t = ap touched_of h.nodes in omega (arith, r, t)
touched-so (Updates.input u h) = let r = touched-so u in let t = ap touched_of h.nodes in omega (arith, r, t)
touched-so (Updates.repair {e = e} {n = n} u h more most) =
    let p = h.touched in
    let k = stale-revalued (nodes_of e.timeline) (nodes_of n.timeline) h.fresh h.stale h.reuses in
    let r = touched-so u in omega (arith, r, p, k, most)

pub cost-law : CostLaw
cost-law s n edits steps stale u =
    let r = counted u in
    let t = touched-so u in record { looks = omega (arith, r); touches = omega (arith, t) }

-- ---- the room of the nodes

pub room-law : RoomLaw
room-law most s n Within.none counted = inl (omega arith)
room-law most s n (Within.edit u h) counted = elim (room-law most s _ u (let t = ap touches_of h.nodes in omega (arith, counted, t))) [
  | inl r ↦ (let t = ap room_of h.nodes in inl (omega (arith, r, t)))
  | inr r ↦ (let t = ap room_of h.nodes in inr (omega (arith, r, t)))
]
room-law most s n (Within.input u h) counted = elim (room-law most s _ u (let t = ap touches_of h.nodes in omega (arith, counted, t))) [
  | inl r ↦ (let t = ap room_of h.nodes in inl (omega (arith, r, t)))
  | inr r ↦ (let t = ap room_of h.nodes in inr (omega (arith, r, t)))
]
room-law most s n (Within.repair {e = e} u h steps few within) counted = elim (h.room counted) [
  | inl r ↦ elim (room-law most s e u (let t = h.touches in omega (arith, counted, t))) [ inl q ↦ inl (omega (arith, q, r)) | inr q ↦ inr (omega (arith, q, r)) ]
  | inr r ↦ (let k = stale-revalued (nodes_of e.timeline) (nodes_of n.timeline) h.fresh h.stale h.reuses in inr (omega (arith, r, k, few, within)))
]

-- ---- what is marked

pub marks-opened : (before : Run) (run run' : Running) → opened before ≡ Some run → KeepsMarks run.tables run'.tables → run'.tables.mods.marked ≡ marked_kept (running_in before)
marks-opened its.New run run' is marks = none-some run is
marks-opened (its.Kept before g) run run' is marks = (let s = same-as g before run is in marks ∙ ap (λ (t : Tables). t.mods.marked) s.tables)
marks-opened its.Dropped run run' is marks = none-some run is
