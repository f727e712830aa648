use Rattle.std.proofs.Common.{ℕ, ap, ◌∙◌}
use Rattle.ceal_code.specs.Stacks.{stack_in}
use Rattle.ceal_repair.proofs.Runs.UnitSteps.{NodeMore, now-write}
use Rattle.ceal_repair.proofs.Runs.RepairView.{running-here, runs-as, IsStepped, stepped-here, node-behind, put-view}
use Rattle.ceal_repair.specs.Repairs.{code_of, inputs_of, view}
use Rattle.ceal_repair.specs.declared.repair.Repair.{Repair}
use Rattle.ceal_trace.specs.declared.node.Node.TheVariants.{Write}
use Rattle.std.proofs.Common.{refl, arith}
use Rattle.ceal_repair.proofs.Runs.Paid.{step-pays, spends, due-put}
use Rattle.ceal_repair.specs.Looks.{Account, touched_ahead, ends_ahead}
use Rattle.ceal_repair.specs.Repairs.{account}
use Rattle.std.proofs.Common.{◌+◌}
use Rattle.ceal_repair.proofs.Runs.Nearness.{came-put}
use Rattle.ceal_repair.proofs.repair.Repair.write.Goals as goal

pub step-requires-clause-here : goal.step-requires-clause-here
step-requires-clause-here c = running-here c.requires.acts.0 c.requires.acts.1.stack c.args.self.now c.requires.acts.1.now

pub put_write-requires-clause-here : goal.put_write-requires-clause-here
put_write-requires-clause-here c =
    let e = c.in_ok-step.ensures in
    let h : IsStepped c.args.self.now c.step.new.self = record { rest = e.rest; heap = e.heap; spent = e.spent; more = record { nodes = e.nodes; mods = e.mods; queue = e.queue; kept = e.kept } } in
    stepped-here c.requires.acts.0 c.requires.acts.1.stack c.args.self.now c.step.new.self c.requires.acts.1.now h

-- a node is put in for the write, and the unit continues after it
pub returns-clause-runs : goal.returns-clause-runs
returns-clause-runs c = λ start a.
    let old : Repair = c.args.self.now in
    let new : Repair = c.step.new.self in
    let e = c.in_ok-step.ensures in
    let h : IsStepped old new = record { rest = e.rest; heap = e.heap; spent = e.spent; more = record { nodes = e.nodes; mods = e.mods; queue = e.queue; kept = e.kept } } in
    let s : ℕ = c.in_ok-self.field-0.0 in
    let f = c.in_ok-self.ensures in
    let k : NodeMore new.cursor.0 s (Write c.args.place c.args.value) new.running.now.tables c.put_write.new.self =
    record { nodes = f.nodes; inserted = f.inserted; bases = f.bases; behind = f.behind; kept = f.kept } in
    runs-as (code_of old) (inputs_of old) start (stack_in old.stack.now) _
    (record new { running = record new.running { now = record new.running.now { tables = c.put_write.new.self } }; cursor = c.in_ok-self.field-0 })
    (now-write (code_of old) (inputs_of old) start a.stack (view old) a.now (stack_in old.stack.now) c.args.place c.args.value new.running.now.tables c.put_write.new.self s a.does h.more
    (node-behind old new h s (Write c.args.place c.args.value) c.put_write.new.self k))
    (ap code_of h.rest) (ap inputs_of h.rest) (ap (λ (r : Repair). stack_in r.stack.now) h.rest) (put-view old new h c.put_write.new.self s)

-- a step was counted and a node put in, and no more was looked at than that pays
pub returns-clause-pays : goal.returns-clause-pays
returns-clause-pays c =
    let a : Account = account c.args.self.now in
    let e = c.in_ok-step.ensures in
    let b : Account = record {
      tables = c.step.new.self.running.now.tables;
      cursor = c.step.new.self.cursor.0;
      spent = c.step.new.self.running.now.spent;
      ahead = a.ahead + 4;
      ends = a.ends + 2;
    } in
    let s = e.touched in
    let stepped = step-pays a b _ e.nodes e.mods e.queue e.spent s refl refl (ap (λ (r : Repair). r.cursor.0) e.rest) e.counts in
    let h = ap (λ (r : Repair). touched_ahead r.frames.now.items) e.rest in
    let i = ap (λ (r : Repair). ends_ahead r.frames.now.items) e.rest in
    let f = c.in_ok-self.ensures in
    let d = due-put b.tables c.put_write.new.self c.step.new.self.cursor.0 c.in_ok-self.field-0.0 (Write c.args.place c.args.value) 2 f.nodes f.looks in
    let t = f.touched in
    spends 5 1 a b (record {
      tables = c.put_write.new.self;
      cursor = c.in_ok-self.field-0.0;
      spent = b.spent;
      ahead = touched_ahead c.step.new.self.frames.now.items;
      ends = ends_ahead c.step.new.self.frames.now.items;
    }) stepped (omega (arith, d)) (omega (arith, t, h)) refl
    f.differed f.counts (omega (arith, i))
    (λ o n d r. came-put o n d b.cursor c.in_ok-self.field-0.0 (Write c.args.place c.args.value) b.tables.trace.nodes c.put_write.new.self.trace.nodes f.nodes f.inserted r)

pub returns-clause-anew : goal.returns-clause-anew
returns-clause-anew c = λ none.
    let e = c.in_ok-step.ensures in
    let f = c.in_ok-self.ensures in
    (ap (λ (r : Repair). r.limit) e.rest ∙ none, f.differed ∙ ap (λ m. m.differed) e.mods)
