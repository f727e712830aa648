use Rattle.std.proofs.Common.{◌≡◌, true, Some, List, reverse, refl, sym, ap, subst, ◌∙◌}
use Rattle.ceal_code.specs.Piles.{Pile}
use Rattle.ceal_code.specs.Stacks.{aside_in, above_floor}
use Rattle.ceal_order.specs.declared.stamp.Stamp.{Stamp}
use Rattle.ceal_repair.proofs.Reuse.ReadReuseInCode.{bases-cells}
use Rattle.ceal_repair.proofs.KeptNodes.PassAll.{around-it, next-not-begun, next-not-kept, next-units, next-limit, frames-next, end-there, now-passed}
use Rattle.ceal_repair.proofs.Runs.RepairView.{runs-as, with_parts}
use Rattle.ceal_repair.specs.Passing.{NoneStale}
use Rattle.ceal_repair.specs.Moment.{View}
use Rattle.ceal_repair.specs.Repairs.{code_of, inputs_of, view}
use Rattle.ceal_repair.specs.Frames.{Frame, frames_in}
use Rattle.ceal_repair.specs.declared.repair.Repair.{Repair}
use Rattle.ceal_repair.specs.declared.tables.Tables.{Tables}
use Rattle.ceal_trace.specs.Nodes.{has_node, with_steps}
use Rattle.ceal_repair.proofs.Runs.Paid.{stays, due-steps, has-limit, off-frames}
use Rattle.std.proofs.Common.{arith}
use Rattle.ceal_repair.specs.Looks.{Account, touched_ahead, ends_ahead}
use Rattle.ceal_repair.specs.Repairs.{account}
use Rattle.ceal_repair.proofs.Runs.Nearness.{came-steps, came-move, end-after}
use Rattle.ceal_order.specs.Stamps.{is_in}
use Rattle.ceal_repair.specs.Lists.{nodes_after}
use Rattle.ceal_trace.specs.Nodes.{Timeline, stamps_in}
use Rattle.ceal_repair.proofs.repair.Repair.pass_all.Goals as goal

-- the end of the read is there, and the cursor moves to it
pub set_steps-requires-clause-here : goal.set_steps-requires-clause-here
set_steps-requires-clause-here c =
    let old : Repair = c.args.self.now in
    let start = c.requires.none.0 in
    let a : NoneStale start old = c.requires.none.1 in
    let both : Some a.until ≡ Some c.in-Some.end = sym a.now.limit ∙ c.in-Some.is in
    let same : a.until ≡ c.in-Some.end = cc in
    subst (λ (s : Stamp). has_node s.0 old.running.now.tables.trace.nodes ≡ true) same
    (end-there (code_of old) (inputs_of old) start a.until (record (view old) { tables = a.before }) a.now old.running.now.tables a.trace a.kept)

pub unreachable-requires-in-Some-Begun : goal.unreachable-requires-in-Some-Begun
unreachable-requires-in-Some-Begun c =
    let old : Repair = c.args.self.now in
    let start = c.requires.none.0 in
    let a : NoneStale start old = c.requires.none.1 in
    next-not-begun (code_of old) (inputs_of old) start a.until (record (view old) { tables = a.before }) a.now
    (aside_in old.stack.now) old.frames.now.items c.pop.new.self.items c.in-Some-Begun.field-0 refl c.in-Some-Begun.ensures.items _ _ c.in-Some-Begun.field-0-is

pub unreachable-requires-in-Some-Kept : goal.unreachable-requires-in-Some-Kept
unreachable-requires-in-Some-Kept c =
    let old : Repair = c.args.self.now in
    let start = c.requires.none.0 in
    let a : NoneStale start old = c.requires.none.1 in
    next-not-kept (code_of old) (inputs_of old) start a.until (record (view old) { tables = a.before }) a.now
    (aside_in old.stack.now) old.frames.now.items c.pop.new.self.items c.in-Some-Kept.field-0 refl c.in-Some-Kept.ensures.items _ c.in-Some-Kept.field-0-is

-- no stale read is inside any more, so the cursor passes to the end, and the units below run on
pub returns-clause-runs : goal.returns-clause-runs
returns-clause-runs c = λ start a.
    let old : Repair = c.args.self.now in
    let w : View = record (view old) { tables = a.before } in
    let n = around-it (code_of old) (inputs_of old) start a.until w a.now in
    let both : Some a.until ≡ Some c.in-Some.end = sym a.now.limit ∙ c.in-Some.is in
    let same : a.until ≡ c.in-Some.end = cc in
    let aside : Pile = aside_in old.stack.now in
    let floor = c.in-Some-Taken.below in
    let below : above_floor floor aside ≡ n.below = next-units (code_of old)
    (inputs_of old) start a.until w a.now aside old.frames.now.items c.pop.new.self.items c.in-Some-Taken.field-0 refl c.in-Some-Taken.ensures.items floor c.in-Some-Taken.limit
    c.in-Some-Taken.field-0-is in
    let next : c.in-Some-Taken.limit ≡ n.next = next-limit (code_of old)
    (inputs_of old) start a.until w a.now aside old.frames.now.items c.pop.new.self.items c.in-Some-Taken.field-0 refl c.in-Some-Taken.ensures.items floor c.in-Some-Taken.limit
    c.in-Some-Taken.field-0-is in
    let fs = frames-next (code_of old) (inputs_of old) start a.until w a.now aside old.frames.now.items c.pop.new.self.items c.in-Some-Taken.field-0 refl c.in-Some-Taken.ensures.items floor
    c.in-Some-Taken.limit c.in-Some-Taken.field-0-is in
    let g = c.set_steps.ensures in
    let t : Tables = c.set_steps.new.self in
    let nodes : t.trace.nodes ≡ with_steps a.until.0 0 old.running.now.tables.trace.nodes = g.nodes ∙ ap (λ (s : Stamp). with_steps s.0 0 old.running.now.tables.trace.nodes) (sym same) in
    runs-as (code_of old) (inputs_of old) start n.below
    (record { tables = t; heap = old.running.now.heap; spent = old.running.now.spent; cursor = a.until.0; limit = Some n.next; frames = n.frames })
    (record (with_parts old (record old.running.now { tables = t }) c.bring_back.new.self c.pop.new.self) { cursor = c.in-Some.end; limit = Some c.in-Some-Taken.limit })
    (now-passed (code_of old) (inputs_of old) start a.until w a.now old.running.now.tables t a.trace a.left
    (bases-cells old.running.now.tables.mods a.before.mods a.cells) a.kept nodes g.mods g.queue g.kept)
    refl refl (c.bring_back.ensures.back ∙ below)
    (ap (λ (s : Stamp). record {
      tables = t;
      heap = old.running.now.heap;
      spent = old.running.now.spent;
      cursor = s.0;
      limit = Some c.in-Some-Taken.limit;
      frames =
          frames_in (aside_in c.bring_back.new.self) (reverse c.pop.new.self.items);
    }) (sym same)
    ∙ (ap (λ (l : Stamp). record {
      tables = t;
      heap = old.running.now.heap;
      spent = old.running.now.spent;
      cursor = a.until.0;
      limit = Some l;
      frames =
          frames_in (aside_in c.bring_back.new.self) (reverse c.pop.new.self.items);
    }) next
    ∙ ap (λ (gs : List Frame). record { tables = t; heap = old.running.now.heap; spent = old.running.now.spent; cursor = a.until.0; limit = Some n.next; frames = gs })
    (ap (λ (p : Pile). frames_in p (reverse c.pop.new.self.items)) c.bring_back.ensures.aside ∙ fs)))

pub returns-clause-pays : goal.returns-clause-pays
returns-clause-pays c =
    let old : Repair = c.args.self.now in
    let a : Account = account old in
    let x : NoneStale c.requires.none.0 old = c.requires.none.1 in
    let both : Some x.until ≡ Some c.in-Some.end = sym x.now.limit ∙ c.in-Some.is in
    let same : x.until ≡ c.in-Some.end = cc in
    let there = end-after (code_of old) (inputs_of old) c.requires.none.0 x.until (record (view old) { tables = x.before }) x.now in
    let after : is_in c.in-Some.end.0 (stamps_in (nodes_after a.cursor a.tables.trace.nodes)) ≡ true = subst (λ (s : Stamp). is_in s.0 (stamps_in
    (nodes_after a.cursor a.tables.trace.nodes)) ≡ true) same
    (subst (λ (l : Timeline). is_in x.until.0 (stamps_in (nodes_after a.cursor l.nodes)) ≡ true) (sym x.trace) there) in
    let g = c.set_steps.ensures in
    let t = g.touched in
    let off = off-frames old.frames.now.items c.pop.new.self.items c.in-Some-Taken.field-0 _ c.in-Some-Taken.ensures.items c.in-Some-Taken.field-0-is in
    let p = off.0 in
    let q = off.1 in
    stays a (record { tables = c.set_steps.new.self; cursor = c.in-Some.end.0; spent = a.spent; ahead = touched_ahead c.pop.new.self.items; ends = ends_ahead c.pop.new.self.items })
    (due-steps a.tables c.set_steps.new.self _ _ g.nodes g.mods g.queue)
    (omega (arith, t, p)) refl (ap (λ m. m.differed) g.mods) g.counts (omega (arith, q))
    (λ o n m r. came-steps o n m c.in-Some.end.0 0 a.tables.trace.nodes c.set_steps.new.self.trace.nodes g.nodes
    (came-move o n m a.cursor c.in-Some.end.0 a.tables.trace.nodes x.kept.step.whole.order.distinct after r))

pub returns-clause-anew : goal.returns-clause-anew
returns-clause-anew c = λ none. has-limit c.args.self.now.limit c.in-Some.end c.in-Some.is none
