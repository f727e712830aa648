use Rattle.std.proofs.Common.{◌≡◌, sym, ap, subst, ◌∙◌}
use Rattle.ceal_code.specs.Stacks.{stack_in, aside_in, above_floor}
use Rattle.ceal_code.specs.Step.{Stack, Reads}
use Rattle.ceal_order.specs.declared.stamp.Stamp.{Stamp}
use Rattle.ceal_repair.proofs.Reuse.ReadReuseInCode.{none-entered}
use Rattle.ceal_repair.proofs.Runs.UnitSteps.{NodeMore}
use Rattle.ceal_repair.proofs.Runs.NewRead.{now-begin, resumed-as}
use Rattle.ceal_repair.proofs.Runs.RepairView.{running-here, runs-as, IsStepped, stepped-here, stepped-late, node-behind, begun-frames, begun-view, cursor-kept, with_parts}
use Rattle.ceal_repair.specs.Reads.{key_in, closure_in}
use Rattle.ceal_repair.specs.Repairs.{code_of, inputs_of, arguments_of, view}
use Rattle.ceal_repair.specs.Frames.{Begun}
use Rattle.ceal_repair.specs.declared.repair.Repair.{Repair}
use Rattle.ceal_theory.specs.Repair.{resumed}
use Rattle.ceal_trace.specs.declared.node.Node.{Node}
use Rattle.ceal_trace.specs.declared.node.Node.TheVariants.{Read}
use Rattle.std.proofs.Common.{refl, arith}
use Rattle.ceal_repair.proofs.Runs.Paid.{step-pays, spends, due-put, ends-more}
use Rattle.ceal_repair.specs.Looks.{Account, touched_ahead, ends_ahead}
use Rattle.ceal_repair.specs.Repairs.{account}
use Rattle.ceal_repair.specs.declared.frame.Frame.TheVariants.{Begun}
use Rattle.ceal_repair.proofs.Runs.Paid.{ahead-more}
use Rattle.std.proofs.Common.{◌+◌}
use Rattle.ceal_repair.proofs.Runs.Nearness.{came-put}
use Rattle.ceal_repair.proofs.repair.Repair.begin.Goals as goal

pub step-requires-clause-here : goal.step-requires-clause-here
step-requires-clause-here c = running-here c.requires.acts.0 c.requires.acts.1.stack c.args.self.now c.requires.acts.1.now

pub begin_read-requires-clause-here : goal.begin_read-requires-clause-here
begin_read-requires-clause-here c =
    let e = c.in_ok-step.ensures in
    let h : IsStepped c.args.self.now c.step.new.self = record { rest = e.rest; heap = e.heap; spent = e.spent; more = record { nodes = e.nodes; mods = e.mods; queue = e.queue; kept = e.kept } } in
    stepped-here c.requires.acts.0 c.requires.acts.1.stack c.args.self.now c.step.new.self c.requires.acts.1.now h

pub begin_read-requires-clause-late : goal.begin_read-requires-clause-late
begin_read-requires-clause-late c =
    let e = c.in_ok-step.ensures in
    let h : IsStepped c.args.self.now c.step.new.self = record { rest = e.rest; heap = e.heap; spent = e.spent; more = record { nodes = e.nodes; mods = e.mods; queue = e.queue; kept = e.kept } } in
    stepped-late c.requires.acts.0 c.requires.acts.1.stack c.args.self.now c.step.new.self c.requires.acts.1.now h

-- a new read begins: its unit runs with the content of the place, and the units below wait
pub returns-clause-runs : goal.returns-clause-runs
returns-clause-runs c = λ start a.
    let old : Repair = c.args.self.now in
    let new : Repair = c.step.new.self in
    let e = c.in_ok-step.ensures in
    let h : IsStepped old new = record { rest = e.rest; heap = e.heap; spent = e.spent; more = record { nodes = e.nodes; mods = e.mods; queue = e.queue; kept = e.kept } } in
    let read : Stamp = c.in_ok-begun.begun.read in
    let f = c.in_ok-begun.ensures in
    let p = c.args.reading.place in
    let word = c.in_ok-begun.begun.value in
    let node : Node = Read p word c.args.reading.unit c.args.reading.var c.args.self.now.args.now.items in
    let words = c.as_slice-args.result.now in
    let args-kept : words ≡ old.args.now.items = c.as_slice-args.ensures.value ∙ ap arguments_of h.rest in
    let put : NodeMore new.cursor.0 read.0 (Read p word c.args.reading.unit c.args.reading.var words) new.running.now.tables c.begin_read.new.self =
    record { nodes = f.nodes; inserted = f.inserted; bases = f.bases; behind = f.behind; kept = f.kept } in
    let k : NodeMore new.cursor.0 read.0 node new.running.now.tables c.begin_read.new.self =
    subst (λ ws. NodeMore new.cursor.0 read.0 (Read p word c.args.reading.unit c.args.reading.var ws) new.running.now.tables c.begin_read.new.self) args-kept put in
    let below : Stack = above_floor c.in_ok-below.below (aside_in c.set_aside.new.self) in
    let stack : stack_in old.stack.now ≡ below = sym (c.in_ok-below.ensures.above ∙ ap (λ (r : Repair). stack_in r.stack.now) h.rest) in
    let code : new.code.now ≡ old.code.now = ap code_of h.rest in
    runs-as (code_of old) (inputs_of old) start (resumed (code_of old) c.args.reading.unit c.args.reading.var c.args.self.now.args.now.items word) _
    (record (with_parts new (record new.running.now { tables = c.begin_read.new.self }) c.resume.new.self c.push.new.self) { cursor = read })
    (now-begin (code_of old) (inputs_of old) start a.stack
    (view old) a.now p c.args.reading.unit c.args.reading.var c.args.self.now.args.now.items below word new.running.now.tables c.begin_read.new.self read
    (none-entered old start a.stack a.now (key_in (closure_in c.args.reading c.args.self.now.args.now.items)) c.requires.absent)
    (a.does ∙ ap (λ (s : Stack). Reads p c.args.reading.unit c.args.reading.var c.args.self.now.args.now.items s) stack) h.more
    (rw (cursor-kept old new h) at f.value)
    (node-behind old new h read.0 node c.begin_read.new.self k) f.open)
    (ap code_of h.rest) (ap inputs_of h.rest)
    (resumed-as new.code.now old.code.now code c.args.reading.unit c.args.reading.var words word (stack_in c.resume.new.self)
    (stack_in c.set_aside.new.self) c.in_ok-below.ensures.empty c.in_ok-resume.ensures.resumed
    ∙ ap (λ ws. resumed old.code.now c.args.reading.unit c.args.reading.var ws word) args-kept)
    (begun-view old new h c.begin_read.new.self read.0 (Begun below read) _
    (begun-frames (aside_in new.stack.now) (aside_in c.set_aside.new.self) (aside_in c.resume.new.self) c.in_ok-below.below read new.frames.now.items c.push.new.self.items
    c.in_ok-resume.ensures.aside c.in_ok-below.ensures.under c.in_ok-push.ensures.items))

-- a step was counted and a node put in, and no more was looked at than that pays
pub returns-clause-pays : goal.returns-clause-pays
returns-clause-pays c =
    let a : Account = account c.args.self.now in
    let e = c.in_ok-step.ensures in
    let b : Account = record {
      tables = c.step.new.self.running.now.tables;
      cursor = c.step.new.self.cursor.0;
      spent = c.step.new.self.running.now.spent;
      ahead = a.ahead + 4;
      ends = a.ends + 2;
    } in
    let s = e.touched in
    let stepped = step-pays a b _ e.nodes e.mods e.queue e.spent s refl refl (ap (λ (r : Repair). r.cursor.0) e.rest) e.counts in
    let h = ap (λ (r : Repair). touched_ahead r.frames.now.items) e.rest in
    let i = ap (λ (r : Repair). ends_ahead r.frames.now.items) e.rest in
    let f = c.in_ok-begun.ensures in
    let d = due-put b.tables c.begin_read.new.self c.step.new.self.cursor.0 c.in_ok-begun.begun.read.0 _ 1 f.nodes f.looks in
    let t = f.touched in
    let p = ap touched_ahead c.in_ok-push.ensures.items ∙ ahead-more c.step.new.self.frames.now.items (Begun c.in_ok-below.below c.in_ok-begun.begun.read) in
    let q = ap ends_ahead c.in_ok-push.ensures.items ∙ ends-more c.step.new.self.frames.now.items (Begun c.in_ok-below.below c.in_ok-begun.begun.read) in
    spends 5 1 a b (record {
      tables = c.begin_read.new.self;
      cursor = c.in_ok-begun.begun.read.0;
      spent = b.spent;
      ahead = touched_ahead c.push.new.self.items;
      ends = ends_ahead c.push.new.self.items;
    }) stepped (omega (arith, d))
    (omega (arith, t, h, p)) refl f.differed f.counts (omega (arith, i, q))
    (λ o n d r. came-put o n d b.cursor c.in_ok-begun.begun.read.0 _ b.tables.trace.nodes c.begin_read.new.self.trace.nodes f.nodes f.inserted r)

pub returns-clause-anew : goal.returns-clause-anew
returns-clause-anew c = λ none.
    let e = c.in_ok-step.ensures in
    let f = c.in_ok-begun.ensures in
    (ap (λ (r : Repair). r.limit) e.rest ∙ none, f.differed ∙ ap (λ m. m.differed) e.mods)
