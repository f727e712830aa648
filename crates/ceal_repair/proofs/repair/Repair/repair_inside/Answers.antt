use Rattle.std.proofs.Common.{◌≡◌, Option, Some, List, ◌∷◌, reverse, refl, sym, ap, ◌∙◌}
use Rattle.ceal_code.specs.Stacks.{aside_in}
use Rattle.ceal_order.specs.declared.stamp.Stamp.{Stamp}
use Rattle.ceal_repair.proofs.Reuse.ReadReuseInCode.{bases-cells}
use Rattle.ceal_repair.proofs.KeptNodes.StaleRead.{the-read, word, seen-as, read-here, node-then, end-then, now-mend, limit-of}
use Rattle.ceal_repair.proofs.Runs.RepairView.{runs-as, with_parts, kept-frames}
use Rattle.ceal_repair.specs.Entries.{stamp_of_number}
use Rattle.ceal_repair.specs.Passing.{StaleInside}
use Rattle.ceal_repair.specs.Repairs.{code_of, inputs_of, view}
use Rattle.ceal_repair.specs.Frames.{Frame, Kept, frames_in}
use Rattle.ceal_repair.specs.declared.repair.Repair.{Repair}
use Rattle.ceal_repair.specs.declared.tables.Tables.{Tables}
use Rattle.ceal_theory.specs.Repair.{resumed}
use Rattle.ceal_trace.specs.Nodes.{is_read}
use Rattle.ceal_repair.proofs.Runs.Paid.{stays, due-steps, has-limit, ends-more}
use Rattle.std.proofs.Common.{arith}
use Rattle.ceal_repair.specs.Looks.{Account, found, touched_ahead, ends_ahead}
use Rattle.ceal_repair.specs.Repairs.{account}
use Rattle.ceal_repair.specs.declared.frame.Frame.TheVariants.{Kept as CodeKept}
use Rattle.ceal_repair.proofs.Runs.Paid.{ahead-more}
use Rattle.ceal_repair.proofs.Runs.Nearness.{came-steps}
use Rattle.ceal_repair.proofs.repair.Repair.repair_inside.Goals as goal

-- looking at the read changed its value at most, so its node is still there
pub set_steps-requires-clause-here : goal.set_steps-requires-clause-here
set_steps-requires-clause-here c =
    let old : Repair = c.args.self.now in
    let t1 : Tables = old.running.now.tables in
    let start = c.requires.stale.0 in
    let a : StaleInside start c.args.read old = c.requires.stale.1 in
    let seen = seen-as (code_of old) (inputs_of old) start a.until (record (view old) { tables = a.before }) a.now c.args.read.0 a.stale a.limit t1 a.place a.value a.is_read a.nodes in
    read-here (code_of old) (inputs_of old) start a.until (record (view old) { tables = a.before }) a.now c.args.read.0 a.stale a.limit t1 seen

-- the node is the stale read, and has the value of its moment
pub unit_at-requires : goal.unit_at-requires
unit_at-requires c =
    let old : Repair = c.args.self.now in
    let t1 : Tables = old.running.now.tables in
    let start = c.requires.stale.0 in
    let a : StaleInside start c.args.read old = c.requires.stale.1 in
    let seen = seen-as (code_of old) (inputs_of old) start a.until (record (view old) { tables = a.before }) a.now c.args.read.0 a.stale a.limit t1 a.place a.value a.is_read a.nodes in
    let g = c.set_steps.ensures in
    let t : Tables = c.set_steps.new.self in
    let r = the-read (code_of old) (inputs_of old) start a.until (record (view old) { tables = a.before }) a.now c.args.read.0 a.stale a.limit in
    record {
      read = ap is_read (node-then (code_of old) (inputs_of old) start a.until (record (view old) { tables = a.before }) a.now c.args.read.0 a.stale a.limit t1 t seen a.queued
          (bases-cells t1.mods a.before.mods a.cells) a.kept g.nodes g.mods g.queue g.kept);
    }

-- the node is a read, so it may be asked for its end
pub end_of-self-requires : goal.end_of-self-requires
end_of-self-requires c =
    let old : Repair = c.args.self.now in
    let t1 : Tables = old.running.now.tables in
    let start = c.requires.stale.0 in
    let a : StaleInside start c.args.read old = c.requires.stale.1 in
    let seen = seen-as (code_of old) (inputs_of old) start a.until (record (view old) { tables = a.before }) a.now c.args.read.0 a.stale a.limit t1 a.place a.value a.is_read a.nodes in
    let g = c.set_steps.ensures in
    let t : Tables = c.set_steps.new.self in
    record {
      read = ap is_read (node-then (code_of old) (inputs_of old) start a.until (record (view old) { tables = a.before }) a.now c.args.read.0 a.stale a.limit t1 t seen a.queued
          (bases-cells t1.mods a.before.mods a.cells) a.kept g.nodes g.mods g.queue g.kept);
    }

-- the stale read's unit runs with its value, and what is inside the read is left over
pub returns-clause-runs : goal.returns-clause-runs
returns-clause-runs c = λ start a.
    let old : Repair = c.args.self.now in
    let t1 : Tables = old.running.now.tables in
    let seen = seen-as (code_of old) (inputs_of old) start a.until (record (view old) { tables = a.before }) a.now c.args.read.0 a.stale a.limit t1 a.place a.value a.is_read a.nodes in
    let g = c.set_steps.ensures in
    let t : Tables = c.set_steps.new.self in
    let r = the-read (code_of old) (inputs_of old) start a.until (record (view old) { tables = a.before }) a.now c.args.read.0 a.stale a.limit in
    let now-word = word (code_of old) (inputs_of old) start a.until (record (view old) { tables = a.before }) a.now c.args.read.0 a.stale a.limit in
    let e = c.end_of-self.ensures in
    let limit : c.end_of-self.result ≡ Some (stamp_of_number r.end) = limit-of c.end_of-self.result r.end _ (end-then (code_of old) (inputs_of old) start a.until (record
    (view old) { tables = a.before }) a.now c.args.read.0 a.stale a.limit t1 t seen a.queued (bases-cells t1.mods a.before.mods a.cells) a.kept g.nodes g.mods g.queue g.kept) e.finished e.open in
    let both : Some a.until ≡ Some c.in-Some.until = sym a.now.limit ∙ c.in-Some.is in
    let same : c.in-Some.until ≡ a.until = cc in
    let frames : frames_in (aside_in c.unit_at.new.stack) (reverse c.push.new.self.items) ≡ Kept a.until ∷ (view old).frames =
    kept-frames (aside_in old.stack.now) (aside_in c.unit_at.new.stack) c.in-Some.until old.frames.now.items c.push.new.self.items c.in_ok-unit_at.ensures.aside c.in_ok-push.ensures.items
    ∙ ap (λ (s : Stamp). Kept s ∷ (view old).frames) same in
    runs-as (code_of old) (inputs_of old) start (resumed (code_of old) r.unit r.var r.args now-word)
    (record { tables = t; heap = old.running.now.heap; spent = old.running.now.spent; cursor = c.args.read.0; limit = Some (stamp_of_number r.end); frames = Kept a.until ∷ (view old).frames })
    (record (with_parts old (record old.running.now { tables = t }) c.unit_at.new.stack c.push.new.self) { cursor = c.args.read; limit = c.end_of-self.result })
    (now-mend (code_of old) (inputs_of old) start a.until (record (view old) { tables = a.before }) a.now c.args.read.0 a.stale a.limit t1 t seen a.queued
    (bases-cells t1.mods a.before.mods a.cells) a.kept g.nodes g.mods g.queue g.kept)
    refl refl (c.in_ok-unit_at.ensures.unit r.place now-word r.unit r.var r.args (node-then (code_of old) (inputs_of old) start a.until
    (record (view old) { tables = a.before }) a.now c.args.read.0 a.stale a.limit t1 t seen a.queued (bases-cells t1.mods a.before.mods a.cells) a.kept g.nodes g.mods g.queue g.kept))
    (ap (λ (o : Option Stamp). record {
      tables = t;
      heap = old.running.now.heap;
      spent = old.running.now.spent;
      cursor = c.args.read.0;
      limit = o;
      frames =
          frames_in (aside_in c.unit_at.new.stack) (reverse c.push.new.self.items);
    }) limit
    ∙ ap (λ (gs : List Frame). record { tables = t; heap = old.running.now.heap; spent = old.running.now.spent; cursor = c.args.read.0; limit = Some (stamp_of_number r.end); frames = gs }) frames)

pub returns-clause-pays : goal.returns-clause-pays
returns-clause-pays c =
    let a : Account = found c.args.read.0 (account c.args.self.now) in
    let g = c.set_steps.ensures in
    let t = g.touched in
    let p = ap touched_ahead c.in_ok-push.ensures.items ∙ ahead-more c.args.self.now.frames.now.items (CodeKept c.in-Some.until) in
    let q = ap ends_ahead c.in_ok-push.ensures.items ∙ ends-more c.args.self.now.frames.now.items (CodeKept c.in-Some.until) in
    stays a (record { tables = c.set_steps.new.self; cursor = c.args.read.0; spent = a.spent; ahead = touched_ahead c.push.new.self.items; ends = ends_ahead c.push.new.self.items })
    (due-steps a.tables c.set_steps.new.self _ _ g.nodes g.mods g.queue)
    (omega (arith, t, p)) refl (ap (λ m. m.differed) g.mods) g.counts (omega (arith, q))
    (λ o n m r. came-steps o n m c.args.read.0 0 a.tables.trace.nodes c.set_steps.new.self.trace.nodes g.nodes r)

pub returns-clause-anew : goal.returns-clause-anew
returns-clause-anew c = λ none. has-limit c.args.self.now.limit c.in-Some.until c.in-Some.is none
