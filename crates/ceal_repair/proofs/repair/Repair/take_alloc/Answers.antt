use Rattle.std.proofs.Common.{◌≡◌, Some, sym, ap, ◌∙◌}
use Rattle.ceal_base.specs.declared.word.BlockId.{BlockId}
use Rattle.ceal_code.specs.Init.{arguments, pointer}
use Rattle.ceal_code.specs.Stacks.{stack_in, top_of, below_in}
use Rattle.ceal_code.specs.Step.{Run}
use Rattle.ceal_code.specs.Value.{set}
use Rattle.ceal_code.specs.declared.stack.Activation.{Activation}
use Rattle.ceal_repair.proofs.Nodes.NodeItems.{more}
use Rattle.ceal_repair.proofs.Reuse.AllocReuseInCode.{has-stepped, lies-code, until-code, matches-left, cut-result, found-there, cut-more-code, node-dropped}
use Rattle.ceal_repair.proofs.Reuse.AllocReuse.{the-match, node-there, now-take-alloc}
use Rattle.ceal_repair.proofs.Runs.RepairView.{running-here, runs-as, IsStepped, made-view, with_parts}
use Rattle.ceal_repair.specs.Moment.{through}
use Rattle.ceal_repair.specs.Repairs.{code_of, inputs_of, stack_of, view}
use Rattle.ceal_repair.specs.declared.repair.Repair.{Repair}
use Rattle.ceal_trace.specs.declared.node.Node.TheVariants.{Alloc}
use Rattle.std.proofs.Common.{arith}
use Rattle.ceal_repair.proofs.Runs.Paid.{step-pays, spends, due-steps, none-left, none-put}
use Rattle.ceal_repair.proofs.TableCalls.FewLooks.{counts-then}
use Rattle.ceal_repair.specs.Looks.{Account, touched_ahead, ends_ahead}
use Rattle.ceal_repair.specs.Repairs.{account}
use Rattle.std.proofs.Common.{◌+◌, refl}
use Rattle.ceal_repair.proofs.Runs.Nearness.{came-steps, came-cut-to}
use Rattle.ceal_repair.proofs.repair.Repair.take_alloc.Goals as goal

pub step-requires-clause-here : goal.step-requires-clause-here
step-requires-clause-here c = running-here c.requires.acts.0 c.requires.acts.1.stack c.args.self.now c.requires.acts.1.now

pub cut_until-requires-clause-has : goal.cut_until-requires-clause-has
cut_until-requires-clause-has c =
    let old : Repair = c.args.self.now in
    let e = c.in_ok-step.ensures in
    let h : IsStepped old c.step.new.self = record { rest = e.rest; heap = e.heap; spent = e.spent; more = record { nodes = e.nodes; mods = e.mods; queue = e.queue; kept = e.kept } } in
    let a = c.requires.acts.1 in
    (code_of old, inputs_of old, has-stepped old c.step.new.self h c.requires.acts.0 a.stack a.now)

-- the allocation lies in what is left over, so what will be revoked is between the cursor and it
pub cut_until-requires-clause-lies : goal.cut_until-requires-clause-lies
cut_until-requires-clause-lies c =
    let old : Repair = c.args.self.now in
    let e = c.in_ok-step.ensures in
    let h : IsStepped old c.step.new.self = record { rest = e.rest; heap = e.heap; spent = e.spent; more = record { nodes = e.nodes; mods = e.mods; queue = e.queue; kept = e.kept } } in
    let a = c.requires.acts.1 in (
      through a.now.placed.done (more a.now.placed.last),
      a.now.left,
      a.now.tail,
      lies-code old c.step.new.self h c.requires.acts.0 a.stack a.now,
      until-code old c.step.new.self h c.requires.acts.0 a.stack a.now c.args.key c.args.found c.requires.found,
    )

-- the allocation is still there, since only what stood before it was revoked
pub set_steps-requires-clause-here : goal.set_steps-requires-clause-here
set_steps-requires-clause-here c =
    let old : Repair = c.args.self.now in
    let e = c.in_ok-step.ensures in
    let h : IsStepped old c.step.new.self = record { rest = e.rest; heap = e.heap; spent = e.spent; more = record { nodes = e.nodes; mods = e.mods; queue = e.queue; kept = e.kept } } in
    let a = c.requires.acts.1 in
    let f = c.in_ok-cut_until.ensures in
    found-there old c.step.new.self h c.requires.acts.0 a.stack a.now c.args.key c.args.found c.requires.found c.cut_until.new.self.tables f.kept f.there

-- the node is an allocation, so it has a block
pub block_at-block-requires : goal.block_at-block-requires
block_at-block-requires c =
    let old : Repair = c.args.self.now in
    let new : Repair = c.step.new.self in
    let e = c.in_ok-step.ensures in
    let h : IsStepped old new = record { rest = e.rest; heap = e.heap; spent = e.spent; more = record { nodes = e.nodes; mods = e.mods; queue = e.queue; kept = e.kept } } in
    let start = c.requires.acts.0 in
    let a = c.requires.acts.1 in
    let f = c.in_ok-cut_until.ensures in
    let g = c.set_steps.ensures in
    let r = cut-result old new h start a.stack a.now c.args.key c.args.found c.requires.found c.cut_until.new.self.tables f.kept f.there in
    let cut = cut-more-code old new h start a.stack a.now c.args.key c.args.found c.requires.found c.cut_until.new.self.tables f.kept f.there
    c.cut_until.new.self.heap c.set_steps.new.self f.bases f.blocks f.has g.nodes g.mods g.queue g.kept in
    let matches = matches-left old new h start a.stack a.now c.args.key c.args.found c.requires.found in
    let m = the-match (code_of old) (inputs_of old) start a.stack
    (view old) a.now c.args.key c.args.found c.cut_until.new.self.heap new.running.now.tables c.cut_until.new.self.tables c.set_steps.new.self r.0 h.more cut matches in
    record {
      alloc = (
        m.block,
        m.own,
        node-dropped c.args.found.0 c.cut_until.new.self.tables c.set_steps.new.self g.nodes
            ∙ node-there (code_of old) (inputs_of old) start a.stack
            (view old) a.now c.args.key c.args.found c.cut_until.new.self.heap new.running.now.tables c.cut_until.new.self.tables c.set_steps.new.self r.0 h.more cut matches,
      );
    }

-- the earliest old allocation with the key is used again, and what stood before it is revoked
pub returns-clause-runs : goal.returns-clause-runs
returns-clause-runs c = λ start a.
    let old : Repair = c.args.self.now in
    let new : Repair = c.step.new.self in
    let e = c.in_ok-step.ensures in
    let h : IsStepped old new = record { rest = e.rest; heap = e.heap; spent = e.spent; more = record { nodes = e.nodes; mods = e.mods; queue = e.queue; kept = e.kept } } in
    let f = c.in_ok-cut_until.ensures in
    let g = c.set_steps.ensures in
    let r = cut-result old new h start a.stack a.now c.args.key c.args.found c.requires.found c.cut_until.new.self.tables f.kept f.there in
    let cut = cut-more-code old new h start a.stack a.now c.args.key c.args.found c.requires.found c.cut_until.new.self.tables f.kept f.there
    c.cut_until.new.self.heap c.set_steps.new.self f.bases f.blocks f.has g.nodes g.mods g.queue g.kept in
    let matches = matches-left old new h start a.stack a.now c.args.key c.args.found c.requires.found in
    let m = the-match (code_of old) (inputs_of old) start a.stack
    (view old) a.now c.args.key c.args.found c.cut_until.new.self.heap new.running.now.tables c.cut_until.new.self.tables c.set_steps.new.self r.0 h.more cut matches in
    let block : BlockId = c.block_at-block.result in
    let both : Some (Alloc block c.block_at-block.ensures.block.0) ≡ Some (Alloc m.block m.own) =
    sym c.block_at-block.ensures.block.1 ∙ (node-dropped c.args.found.0 c.cut_until.new.self.tables c.set_steps.new.self g.nodes
    ∙ node-there (code_of old) (inputs_of old) start a.stack
    (view old) a.now c.args.key c.args.found c.cut_until.new.self.heap new.running.now.tables c.cut_until.new.self.tables c.set_steps.new.self r.0 h.more cut matches) in
    let same : block ≡ m.block = cc in
    let unit : Activation = top_of (stack_of old) in
    let below = below_in (stack_of old) in
    let stack : stack_in c.set.new.self ≡ Run unit.unit unit.index (set (arguments unit.env.items) c.args.var (pointer c.args.key m.block)) below =
    c.in_ok-set.ensures.set ∙
    (ap (λ (r : Repair). Run (top_of (stack_of r)).unit (top_of (stack_of r)).index (set (arguments (top_of (stack_of r)).env.items) c.args.var c.pointer_to.result) (below_in (stack_of r))) h.rest
    ∙ ap (λ w. Run unit.unit unit.index (set (arguments unit.env.items) c.args.var w) below) (c.pointer_to.ensures.value ∙ ap (pointer c.args.key) same)) in
    runs-as (code_of old) (inputs_of old) start (Run unit.unit unit.index (set (arguments unit.env.items) c.args.var (pointer c.args.key m.block)) below) _
    (record (with_parts new (record { tables = c.set_steps.new.self; heap = c.cut_until.new.self.heap; spent = c.cut_until.new.self.spent }) c.set.new.self new.frames.now) { cursor = c.args.found })
    (now-take-alloc (code_of old) (inputs_of old) start a.stack
    (view old) a.now c.args.key c.args.found c.cut_until.new.self.heap new.running.now.tables c.cut_until.new.self.tables c.set_steps.new.self r.0 h.more cut matches
    c.args.var unit.unit unit.index (arguments unit.env.items) below a.does)
    (ap code_of h.rest) (ap inputs_of h.rest) stack
    (made-view old new h c.set_steps.new.self c.cut_until.new.self.heap c.cut_until.new.self.spent c.args.found.0 _ f.spent c.in_ok-set.ensures.aside)

-- a step was counted, and what was looked at is paid by that and by what was revoked
pub returns-clause-pays : goal.returns-clause-pays
returns-clause-pays c =
    let a : Account = account c.args.self.now in
    let e = c.in_ok-step.ensures in
    let b : Account = record {
      tables = c.step.new.self.running.now.tables;
      cursor = c.step.new.self.cursor.0;
      spent = c.step.new.self.running.now.spent;
      ahead = a.ahead + 4;
      ends = a.ends + 2;
    } in
    let s = e.touched in
    let stepped = step-pays a b _ e.nodes e.mods e.queue e.spent s refl refl (ap (λ (r : Repair). r.cursor.0) e.rest) e.counts in
    let h = ap (λ (r : Repair). touched_ahead r.frames.now.items) e.rest in
    let i = ap (λ (r : Repair). ends_ahead r.frames.now.items) e.rest in
    let f = c.in_ok-cut_until.ensures in
    let g = c.set_steps.ensures in
    let d = due-steps c.cut_until.new.self.tables c.set_steps.new.self _ _ g.nodes g.mods g.queue in
    let t = f.touched in
    let u = g.touched in
    let z : Account = record {
      tables = c.set_steps.new.self;
      cursor = c.args.found.0;
      spent = c.cut_until.new.self.spent;
      ahead = touched_ahead c.step.new.self.frames.now.items;
      ends = ends_ahead c.step.new.self.frames.now.items;
    } in
    spends 5 0 a b z stepped
    (let l = f.looks in omega (arith, d, l)) (omega (arith, t, u, h)) f.spent (ap (λ m. m.differed) g.mods ∙ f.differed)
    (counts-then b.tables c.cut_until.new.self.tables c.set_steps.new.self f.counts g.counts) (omega (arith, i))
    (none-put b z (λ o n m r. came-steps o n m c.args.found.0 0 c.cut_until.new.self.tables.trace.nodes c.set_steps.new.self.trace.nodes g.nodes
    (came-cut-to o n m b.cursor c.args.found.0 b.tables.trace.nodes c.cut_until.new.self.tables.trace.nodes f.cuts f.first f.kept.step.whole.order.distinct r)))

pub returns-clause-anew : goal.returns-clause-anew
returns-clause-anew c = λ none. none-left c.args.self.now _ c.args.found.0 none c.requires.found
