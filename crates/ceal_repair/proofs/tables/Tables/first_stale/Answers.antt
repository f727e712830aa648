use Rattle.std.proofs.Common.{◌∙◌, arith}
use Rattle.ceal_repair.proofs.TableCalls.BaseEdit.{looking-first, none-late, popped-step, popped-chained, popped-read, looked-more, stale-same, nodes-same, if-none}
use Rattle.ceal_repair.proofs.TableCalls.PutKeepsTables.{tables}
use Rattle.std.proofs.Common.{length, ap}
use Rattle.ceal_queue.specs.Queue.{Waiting}
use Rattle.ceal_repair.proofs.TableCalls.FewLooks.{touched-still, grows-then}
use Rattle.ceal_repair.proofs.tables.Tables.first_stale.Goals as goal

pub loop-looked-init : goal.loop-looked-init
loop-looked-init c = looking-first c.args.self.now c.requires.kept

pub pop_before-requires-clause-limit : goal.pop_before-requires-clause-limit
pop_before-requires-clause-limit c = λ x e. rw (c.order.ensures, c.loop-looked.invariant.trace) (c.requires.until x e)

pub pop_before-requires-clause-follows : goal.pop_before-requires-clause-follows
pop_before-requires-clause-follows c = rw c.order.ensures c.loop-looked.invariant.kept.step.stale

pub returns-in_err-read-clause-none : goal.returns-in_err-read-clause-none
returns-in_err-read-clause-none c = if-none c.from_residual.result c.loop-looked.invariant.trace

pub returns-in_err-read-clause-left : goal.returns-in_err-read-clause-left
returns-in_err-read-clause-left c = if-none c.from_residual.result
    (rw (c.in_err-read.ensures.unchanged) (rw (c.order.ensures, c.loop-looked.invariant.trace) at c.in_err-read.ensures.none))

pub returns-in_err-read-clause-cells : goal.returns-in_err-read-clause-cells
returns-in_err-read-clause-cells c = c.loop-looked.invariant.cells

pub returns-in_err-read-clause-memo : goal.returns-in_err-read-clause-memo
returns-in_err-read-clause-memo c = c.loop-looked.invariant.memo

pub returns-in_err-read-clause-kept : goal.returns-in_err-read-clause-kept
returns-in_err-read-clause-kept c = rw c.in_err-read.ensures.unchanged c.loop-looked.invariant.kept

pub settle-requires-clause-step : goal.settle-requires-clause-step
settle-requires-clause-step c =
    popped-step c.loop-looked.self c.loop-looked.invariant.kept c.in_ok-read.read.0 c.pop_before.new.self (rw c.order.ensures at c.in_ok-read.ensures.earliest) c.in_ok-read.ensures.without
    (rw c.order.ensures at c.pop_before.ensures.follows)

pub settle-requires-clause-chained : goal.settle-requires-clause-chained
settle-requires-clause-chained c =
    popped-chained c.loop-looked.self c.loop-looked.invariant.kept c.in_ok-read.read.0 c.pop_before.new.self (rw c.order.ensures at c.in_ok-read.ensures.earliest) c.in_ok-read.ensures.without

pub settle-requires-clause-here : goal.settle-requires-clause-here
settle-requires-clause-here c =
    popped-read c.loop-looked.self c.loop-looked.invariant.kept c.in_ok-read.read.0 c.pop_before.new.self (rw c.order.ensures at c.in_ok-read.ensures.earliest) c.in_ok-read.ensures.without

pub returns-then-settle-clause-stale : goal.returns-then-settle-clause-stale
returns-then-settle-clause-stale c =
    stale-same (tables c.loop-looked.self.trace c.loop-looked.self.mods c.pop_before.new.self c.loop-looked.self.memo) c.args.self.now c.in_ok-read.read.0 c.loop-looked.invariant.trace
    c.loop-looked.invariant.cells
    (c.settle.ensures.stale c.if-settle.true)

pub returns-then-settle-clause-nodes : goal.returns-then-settle-clause-nodes
returns-then-settle-clause-nodes c =
    nodes-same (tables c.loop-looked.self.trace c.loop-looked.self.mods c.pop_before.new.self c.loop-looked.self.memo) c.args.self.now c.in_ok-read.read.0 c.settle.new.self.trace.nodes
    c.loop-looked.invariant.trace c.loop-looked.invariant.cells
    (c.settle.ensures.nodes c.if-settle.true)

pub returns-then-settle-clause-limit : goal.returns-then-settle-clause-limit
returns-then-settle-clause-limit c = rw (c.order.ensures, c.loop-looked.invariant.trace) at c.in_ok-read.ensures.before

pub returns-then-settle-clause-cells : goal.returns-then-settle-clause-cells
returns-then-settle-clause-cells c = c.settle.ensures.cells ∙ c.loop-looked.invariant.cells

pub returns-then-settle-clause-memo : goal.returns-then-settle-clause-memo
returns-then-settle-clause-memo c = c.settle.ensures.memo ∙ c.loop-looked.invariant.memo

-- one read more was looked at, and it had the value of its moment
pub loop-looked-preserved : goal.loop-looked-preserved
loop-looked-preserved c =
    looked-more c.args.self.now c.loop-looked.self c.settle.new.self c.loop-looked._looked c.in_ok-read.read.0 c.loop-looked.invariant c.in_ok-read.ensures.earliest.there c.settle.ensures.kept
    (c.settle.ensures.same c.if-settle.false)
    c.settle.ensures.cells c.settle.ensures.memo c.settle.ensures.behind
    (let a = c.settle.ensures.idle c.if-settle.false in
    let b = c.in_ok-read.ensures.fewer in omega (arith, a, b))
    (let a = c.settle.ensures.idle c.if-settle.false in
    let b = c.in_ok-read.ensures.fewer in
    let d = ap (λ (q : Waiting). length q.stamps) (c.settle.ensures.queue c.if-settle.false) in omega (arith, a, b, d)) (c.settle.ensures.none_differs c.if-settle.false)
    (let k = c.settle.ensures.counts in record { looked = k.looked; differed = k.differed; touched = k.touched; grows = k.grows; seed = k.seed }) c.settle.ensures.marks

pub returns-clause-none : goal.returns-clause-none
returns-clause-none c = c.loop-looked.invariant.trace

pub returns-clause-left : goal.returns-clause-left
returns-clause-left c = λ s i b. absurd (none-late c.args.self.now c.loop-looked.self c.loop-looked._looked c.loop-looked.invariant (omega (arith, c.loop-looked-test.false)) s i)

pub returns-clause-cells : goal.returns-clause-cells
returns-clause-cells c = c.loop-looked.invariant.cells

pub returns-clause-memo : goal.returns-clause-memo
returns-clause-memo c = c.loop-looked.invariant.memo

pub returns-clause-kept : goal.returns-clause-kept
returns-clause-kept c = c.loop-looked.invariant.kept

pub returns-in_err-read-clause-looks : goal.returns-in_err-read-clause-looks
returns-in_err-read-clause-looks c =
    let a = ap (λ (q : Waiting). length q.stamps) c.in_err-read.ensures.unchanged in
    let b = c.loop-looked.invariant.looks in omega (arith, a, b)

pub returns-in_err-read-clause-idle : goal.returns-in_err-read-clause-idle
returns-in_err-read-clause-idle c = if-none c.from_residual.result
    (let a = ap (λ (q : Waiting). length q.stamps) c.in_err-read.ensures.unchanged in
    let b = c.loop-looked.invariant.looks in omega (arith, a, b))

pub returns-then-settle-clause-looks : goal.returns-then-settle-clause-looks
returns-then-settle-clause-looks c =
    let a = c.settle.ensures.looks in
    let b = c.in_ok-read.ensures.fewer in
    let d = c.loop-looked.invariant.looks in omega (arith, a, b, d)

pub returns-clause-looks : goal.returns-clause-looks
returns-clause-looks c = let d = c.loop-looked.invariant.looks in omega (arith, d)

pub returns-clause-idle : goal.returns-clause-idle
returns-clause-idle c = c.loop-looked.invariant.looks

pub returns-in_err-read-clause-none_differs : goal.returns-in_err-read-clause-none_differs
returns-in_err-read-clause-none_differs c = if-none c.from_residual.result c.loop-looked.invariant.differed

pub returns-then-settle-clause-differs : goal.returns-then-settle-clause-differs
returns-then-settle-clause-differs c = rw (← c.loop-looked.invariant.differed) (c.settle.ensures.differs c.if-settle.true)

pub returns-clause-none_differs : goal.returns-clause-none_differs
returns-clause-none_differs c = c.loop-looked.invariant.differed

pub returns-in_err-read-clause-marks : goal.returns-in_err-read-clause-marks
returns-in_err-read-clause-marks c = c.loop-looked.invariant.marks

pub returns-then-settle-clause-marks : goal.returns-then-settle-clause-marks
returns-then-settle-clause-marks c = c.settle.ensures.marks ∙ c.loop-looked.invariant.marks

pub returns-clause-marks : goal.returns-clause-marks
returns-clause-marks c = c.loop-looked.invariant.marks

pub returns-in_err-read-clause-counts : goal.returns-in_err-read-clause-counts
returns-in_err-read-clause-counts c =
    let k = c.loop-looked.invariant.counts in record { looked = k.looked; differed = k.differed; touched = k.touched; grows = k.grows; seed = k.seed }

pub returns-in_err-read-clause-queued : goal.returns-in_err-read-clause-queued
returns-in_err-read-clause-queued c = if-none c.from_residual.result
    (let a = ap (λ (q : Waiting). length q.stamps) c.in_err-read.ensures.unchanged in
    let b = c.loop-looked.invariant.queued in record { looked = omega (arith, a, b); differed = c.loop-looked.invariant.differed })

pub returns-then-settle-clause-counts : goal.returns-then-settle-clause-counts
returns-then-settle-clause-counts c =
    let k = c.loop-looked.invariant.counts in
    let s = c.settle.ensures.counts in
    let few = s.touched in
    record {
      looked = (let a = k.looked in let b = s.looked in omega (arith, a, b));
      differed = (let a = k.differed in let b = s.differed in omega (arith, a, b));
      touched = (let a = k.touched in omega (arith, a, few));
      grows = λ most. grows-then c.args.self.now.trace c.loop-looked.self.trace c.settle.new.self.trace k.touched few (k.grows (omega (arith, most, few))) (s.grows most);
      seed = s.seed ∙ k.seed;
    }

pub returns-clause-counts : goal.returns-clause-counts
returns-clause-counts c = c.loop-looked.invariant.counts

pub returns-clause-queued : goal.returns-clause-queued
returns-clause-queued c = record { looked = c.loop-looked.invariant.queued; differed = c.loop-looked.invariant.differed }

pub returns-in_err-read-clause-touched : goal.returns-in_err-read-clause-touched
returns-in_err-read-clause-touched c = let t = touched-still c.args.self.now c.loop-looked.self c.loop-looked.invariant.trace in omega (arith, t)

pub returns-then-settle-clause-touched : goal.returns-then-settle-clause-touched
returns-then-settle-clause-touched c =
    let t = touched-still c.args.self.now c.loop-looked.self c.loop-looked.invariant.trace in
    let s = c.settle.ensures.touched in omega (arith, t, s)

pub returns-clause-touched : goal.returns-clause-touched
returns-clause-touched c = let t = touched-still c.args.self.now c.loop-looked.self c.loop-looked.invariant.trace in omega (arith, t)
