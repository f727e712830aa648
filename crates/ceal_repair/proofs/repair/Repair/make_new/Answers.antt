use Rattle.std.proofs.Common.{◌≡◌, ℕ, refl, sym, ap, subst, ◌∙◌}
use Rattle.ceal_base.specs.declared.word.BlockId.{BlockId}
use Rattle.ceal_base.specs.declared.word.BlockId.TheVariants.{Core}
use Rattle.ceal_code.specs.Init.{arguments, pointer}
use Rattle.ceal_code.specs.Stacks.{stack_in, top_of, below_in}
use Rattle.ceal_code.specs.Step.{Run}
use Rattle.ceal_code.specs.Value.{set}
use Rattle.ceal_code.specs.declared.stack.Activation.{Activation}
use Rattle.ceal_repair.proofs.Runs.NewBlock.{MadeBlock, block-as, alloc-behind, now-make}
use Rattle.ceal_repair.proofs.Reuse.AllocReuseInCode.{none-left}
use Rattle.ceal_repair.proofs.Runs.UnitSteps.{NodeMore}
use Rattle.ceal_repair.proofs.Runs.RepairView.{running-here, runs-as, IsStepped, stepped-here, made-view, with_parts}
use Rattle.ceal_repair.specs.Repairs.{code_of, inputs_of, stack_of, view}
use Rattle.ceal_repair.specs.declared.repair.Repair.{Repair}
use Rattle.ceal_trace.specs.Nodes.{has_node}
use Rattle.ceal_trace.specs.declared.node.Node.TheVariants.{Alloc}
use Rattle.std.proofs.Common.{arith}
use Rattle.ceal_repair.proofs.Runs.Paid.{step-pays, spends, due-put, due-made}
use Rattle.ceal_repair.proofs.TableCalls.FewLooks.{owed-same, counts-as, counts-then, touched-still}
use Rattle.ceal_repair.specs.Blocks.{HasBlocks}
use Rattle.ceal_repair.proofs.Reuse.AllocReuseInCode.{has-stepped}
use Rattle.ceal_repair.proofs.Runs.NewBlock.{none-made}
use Rattle.ceal_repair.specs.Looks.{Account, touched_ahead, ends_ahead}
use Rattle.ceal_repair.specs.Repairs.{account}
use Rattle.ceal_trace.specs.Nodes.{Timeline}
use Rattle.std.proofs.Common.{◌+◌}
use Rattle.ceal_repair.proofs.Runs.Nearness.{came-put, came-same}
use Rattle.std.proofs.Common.{List}
use Rattle.ceal_repair.specs.Distance.{CameTo}
use Rattle.ceal_trace.specs.Nodes.{Entry}
use Rattle.ceal_repair.proofs.repair.Repair.make_new.Goals as goal

pub step-requires-clause-here : goal.step-requires-clause-here
step-requires-clause-here c = running-here c.requires.acts.0 c.requires.acts.1.stack c.args.self.now c.requires.acts.1.now

-- the node of the cursor is still there, since the step only counts
pub put_alloc-requires-clause-here : goal.put_alloc-requires-clause-here
put_alloc-requires-clause-here c =
    let e = c.in_ok-step.ensures in
    let h : IsStepped c.args.self.now c.step.new.self = record { rest = e.rest; heap = e.heap; spent = e.spent; more = record { nodes = e.nodes; mods = e.mods; queue = e.queue; kept = e.kept } } in
    subst (λ (z : _). has_node c.step.new.self.cursor.0 z.nodes ≡ Rattle.std.proofs.Common.true) (sym c.in_ok-block.ensures.trace)
    (stepped-here c.requires.acts.0 c.requires.acts.1.stack c.args.self.now c.step.new.self c.requires.acts.1.now h)

-- no old allocation has the key, so a new block is made, and its node is put in
pub returns-clause-runs : goal.returns-clause-runs
returns-clause-runs c = λ start a.
    let old : Repair = c.args.self.now in
    let new : Repair = c.step.new.self in
    let e = c.in_ok-step.ensures in
    let h : IsStepped old new = record { rest = e.rest; heap = e.heap; spent = e.spent; more = record { nodes = e.nodes; mods = e.mods; queue = e.queue; kept = e.kept } } in
    let block : BlockId = c.in_ok-block.block in
    let f = c.in_ok-block.ensures in
    let b : ℕ = f.core.0 in
    let made : MadeBlock (code_of new) (inputs_of new) block c.args.key new.running.now.heap c.make.new.self.heap new.running.now.tables c.make.new.self.tables =
    record { unused = f.new; live = f.live; words = f.words; others = f.others; numbers = f.numbers; bases = f.bases; kept_bases = f.kept_bases; trace = f.trace; only = f.only; kept = f.kept } in
    let s : ℕ = c.in_ok-self.field-0.0 in
    let g = c.in_ok-self.ensures in
    let node : NodeMore new.cursor.0 s (Alloc block c.args.key) c.make.new.self.tables c.put_alloc.new.self =
    record { nodes = g.nodes; inserted = g.inserted; bases = λ p. rw g.mods refl; behind = g.behind; kept = g.kept } in
    let unit : Activation = top_of (stack_of old) in
    let below = below_in (stack_of old) in
    let stack : stack_in c.set.new.self ≡ Run unit.unit unit.index (set (arguments unit.env.items) c.args.var (pointer c.args.key (Core b))) below =
    c.in_ok-set.ensures.set ∙ (ap (λ (r : Repair). Run (top_of (stack_of r)).unit (top_of (stack_of r)).index (set (arguments (top_of (stack_of r)).env.items) c.args.var c.pointer_to-pointer.result)
    (below_in (stack_of r))) h.rest
    ∙ ap (λ w. Run unit.unit unit.index (set (arguments unit.env.items) c.args.var w) below) (c.pointer_to-pointer.ensures.value ∙ ap (pointer c.args.key) f.core.1)) in
    runs-as (code_of old) (inputs_of old) start (Run unit.unit unit.index (set (arguments unit.env.items) c.args.var (pointer c.args.key (Core b))) below) _
    (record (with_parts new (record { tables = c.put_alloc.new.self; heap = c.make.new.self.heap; spent = c.make.new.self.spent }) c.set.new.self new.frames.now) { cursor = c.in_ok-self.field-0 })
    (now-make (code_of old) (inputs_of old) start a.stack (view old) a.now b c.args.key c.make.new.self.heap new.running.now.tables c.make.new.self.tables c.put_alloc.new.self s h.more
    (block-as old new h block b f.core.1 c.args.key c.make.new.self.heap new.running.now.tables c.make.new.self.tables made)
    (alloc-behind old new h block b f.core.1 c.args.key s c.make.new.self.tables c.put_alloc.new.self node)
    (none-left old start a.stack a.now c.args.key c.requires.absent) c.args.var unit.unit unit.index (arguments unit.env.items) below a.does)
    (ap code_of h.rest) (ap inputs_of h.rest) stack
    (made-view old new h c.put_alloc.new.self c.make.new.self.heap c.make.new.self.spent s _ f.spent c.in_ok-set.ensures.aside)

-- a step was counted and a node put in, and no more was looked at than that pays
pub returns-clause-pays : goal.returns-clause-pays
returns-clause-pays c =
    let old : Repair = c.args.self.now in
    let new : Repair = c.step.new.self in
    let a : Account = account old in
    let e = c.in_ok-step.ensures in
    let b : Account = record {
      tables = c.step.new.self.running.now.tables;
      cursor = c.step.new.self.cursor.0;
      spent = c.step.new.self.running.now.spent;
      ahead = a.ahead + 4;
      ends = a.ends + 2;
    } in
    let s = e.touched in
    let stepped = step-pays a b _ e.nodes e.mods e.queue e.spent s refl refl (ap (λ (r : Repair). r.cursor.0) e.rest) e.counts in
    let k = ap (λ (r : Repair). touched_ahead r.frames.now.items) e.rest in
    let l = ap (λ (r : Repair). ends_ahead r.frames.now.items) e.rest in
    let h : IsStepped old new = record { rest = e.rest; heap = e.heap; spent = e.spent; more = record { nodes = e.nodes; mods = e.mods; queue = e.queue; kept = e.kept } } in
    let f = c.in_ok-block.ensures in
    let block : BlockId = c.in_ok-block.block in
    let made : MadeBlock (code_of new) (inputs_of new) block c.args.key new.running.now.heap c.make.new.self.heap new.running.now.tables c.make.new.self.tables =
    record { unused = f.new; live = f.live; words = f.words; others = f.others; numbers = f.numbers; bases = f.bases; kept_bases = f.kept_bases; trace = f.trace; only = f.only; kept = f.kept } in
    let start = c.requires.acts.0 in
    let acts = c.requires.acts.1 in
    let has = subst (λ z. HasBlocks (code_of old) (inputs_of old) z b.tables) e.heap (has-stepped old new h start acts.stack acts.now) in
    let none = none-made (code_of old) (inputs_of old) f.core.0 c.args.key old.running.now.heap c.make.new.self.heap b.tables c.make.new.self.tables
    (block-as old new h block f.core.0 f.core.1 c.args.key c.make.new.self.heap b.tables c.make.new.self.tables made) has e.kept in
    let d = due-made b.tables c.make.new.self.tables f.trace f.looked _ f.kept.step.stale none in
    let g = c.in_ok-self.ensures in
    let o = owed-same c.make.new.self.tables c.put_alloc.new.self g.mods g.queue in
    let n = due-put c.make.new.self.tables c.put_alloc.new.self new.cursor.0 c.in_ok-self.field-0.0 (Alloc block c.args.key) 0 g.nodes (omega (arith, o)) in
    let t = g.touched in
    let u = touched-still b.tables c.make.new.self.tables f.trace in
    let same : (o : List Entry) (n m : ℕ) → CameTo o n m b.cursor b.tables.trace.nodes → CameTo o n m b.cursor c.make.new.self.tables.trace.nodes = λ o n m r.
    came-same o n m b.cursor b.tables.trace c.make.new.self.tables.trace f.trace r in
    spends 5 1 a b (record {
      tables = c.put_alloc.new.self;
      cursor = c.in_ok-self.field-0.0;
      spent = c.make.new.self.spent;
      ahead = touched_ahead new.frames.now.items;
      ends = ends_ahead new.frames.now.items;
    }) stepped
    (omega (arith, d, n)) (omega (arith, t, u, k)) f.spent
    (ap (λ m. m.differed) g.mods ∙ f.differed)
    (counts-then b.tables c.make.new.self.tables c.put_alloc.new.self
    (counts-as b.tables c.make.new.self.tables f.looked f.differed f.trace f.memo) g.counts) (omega (arith, l))
    (λ o p q r. came-put o p q b.cursor c.in_ok-self.field-0.0 (Alloc block c.args.key) c.make.new.self.tables.trace.nodes c.put_alloc.new.self.trace.nodes g.nodes g.inserted (same o p q r))

pub returns-clause-anew : goal.returns-clause-anew
returns-clause-anew c = λ none.
    let e = c.in_ok-step.ensures in
    let f = c.in_ok-block.ensures in
    let g = c.in_ok-self.ensures in
    (ap (λ (r : Repair). r.limit) e.rest ∙ none, ap (λ m. m.differed) g.mods ∙ (f.differed ∙ ap (λ m. m.differed) e.mods))
