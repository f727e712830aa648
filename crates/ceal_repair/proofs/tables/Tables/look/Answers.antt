use Rattle.std.proofs.Common.{sym, ap, ◌∙◌}
use Rattle.ceal_order.specs.Stamps.{is_in}
use Rattle.ceal_repair.specs.Kept.{base_in}
use Rattle.ceal_trace.specs.Nodes.{stamps_in}
use Rattle.ceal_repair.proofs.QueueCover.NodeChanges.{read-has, chained-and}
use Rattle.ceal_repair.proofs.TableCalls.CutKeepsTables.{behind-own, still-first, unqueued-honest, same-queue, as-tables}
use Rattle.ceal_repair.proofs.TableCalls.BaseEdit.{honest-same}
use Rattle.ceal_repair.proofs.Lists.PartedLists.{false-of}
use Rattle.std.proofs.Common.{arith}
use Rattle.ceal_mods.specs.Mods.{Contents}
use Rattle.ceal_repair.proofs.TableCalls.FewLooks.{owed-same, counts-still, counts-then, touched-still}
use Rattle.ceal_repair.proofs.tables.Tables.look.Goals as goal

pub unqueue-requires-clause-here : goal.unqueue-requires-clause-here
unqueue-requires-clause-here c = read-has c.args.read.0 c.args.self.now.trace.nodes c.requires.here

pub settle-requires-clause-chained : goal.settle-requires-clause-chained
settle-requires-clause-chained c = rw (c.unqueue.ensures.trace, c.unqueue.ensures.mods)
    (chained-and c.args.read.0 c.args.self.now.stale.stamps c.unqueue.new.self.stale.stamps
    (base_in c.args.self.now.mods) c.args.self.now.trace.nodes c.unqueue.ensures.without.others c.requires.kept.chained)

pub returns-then-unqueue-clause-honest : goal.returns-then-unqueue-clause-honest
returns-then-unqueue-clause-honest c = λ told.
    honest-same c.unqueue.new.self c.args.self.now c.args.read.0 c.unqueue.ensures.trace (ap (λ m. m.cells) c.unqueue.ensures.mods) (c.settle.ensures.honest told)

pub returns-else-unqueue-clause-honest : goal.returns-else-unqueue-clause-honest
returns-else-unqueue-clause-honest c = λ told.
    unqueued-honest c.args.self.now c.requires.kept c.args.read.0
    (false-of (is_in c.args.read.0 c.args.self.now.stale.stamps) (λ i. sym (c.unqueue.ensures.was.1 i) ∙ c.if-unqueue.false)) c.requires.first

-- the read is honest and leaves the queue, and what is left is after it
pub returns-else-unqueue-clause-behind : goal.returns-else-unqueue-clause-behind
returns-else-unqueue-clause-behind c = λ r i. rw c.unqueue.ensures.trace
    (behind-own (stamps_in c.args.self.now.trace.nodes) c.unqueue.new.self.stale.stamps c.args.read.0 (rw c.unqueue.ensures.trace at c.unqueue.ensures.stale)
    (read-has c.args.read.0 c.args.self.now.trace.nodes c.requires.here)
    c.unqueue.ensures.without.gone
    (still-first (stamps_in c.args.self.now.trace.nodes) c.args.self.now.stale.stamps c.unqueue.new.self.stale.stamps c.args.read.0 c.unqueue.ensures.without c.requires.first) r i)

-- only the queue has changed, and it has fewer stamps of the order
pub returns-else-unqueue-clause-kept : goal.returns-else-unqueue-clause-kept
returns-else-unqueue-clause-kept c =
    as-tables c.unqueue.new.self c.args.self.now.trace c.args.self.now.mods c.args.self.now.memo c.unqueue.ensures.trace c.unqueue.ensures.mods c.unqueue.ensures.memo
    (same-queue c.args.self.now c.requires.kept c.args.read.0
    (false-of (is_in c.args.read.0 c.args.self.now.stale.stamps) (λ i. sym (c.unqueue.ensures.was.1 i) ∙ c.if-unqueue.false)) c.unqueue.new.self.stale c.unqueue.ensures.without
    (rw c.unqueue.ensures.trace at c.unqueue.ensures.stale))

pub returns-then-unqueue-clause-looks : goal.returns-then-unqueue-clause-looks
returns-then-unqueue-clause-looks c =
    let a = c.settle.ensures.looks in
    let b = ap (λ (m : Contents). m.looked) c.unqueue.ensures.mods in
    let d = c.unqueue.ensures.fewer c.if-unqueue.true in omega (arith, a, b, d)

pub returns-then-unqueue-clause-idle : goal.returns-then-unqueue-clause-idle
returns-then-unqueue-clause-idle c = λ told.
    let a = c.settle.ensures.idle told in
    let b = ap (λ (m : Contents). m.looked) c.unqueue.ensures.mods in
    let d = c.unqueue.ensures.fewer c.if-unqueue.true in omega (arith, a, b, d)

pub returns-else-unqueue-clause-looks : goal.returns-else-unqueue-clause-looks
returns-else-unqueue-clause-looks c = let a = owed-same c.args.self.now c.unqueue.new.self c.unqueue.ensures.mods (c.unqueue.ensures.absent c.if-unqueue.false) in omega (arith, a)

pub returns-else-unqueue-clause-idle : goal.returns-else-unqueue-clause-idle
returns-else-unqueue-clause-idle c = λ told. owed-same c.args.self.now c.unqueue.new.self c.unqueue.ensures.mods (c.unqueue.ensures.absent c.if-unqueue.false)

pub returns-then-unqueue-clause-differs : goal.returns-then-unqueue-clause-differs
returns-then-unqueue-clause-differs c = λ told. rw (← ap (λ (m : Contents). m.differed) c.unqueue.ensures.mods) (c.settle.ensures.differs told)

pub returns-then-unqueue-clause-none_differs : goal.returns-then-unqueue-clause-none_differs
returns-then-unqueue-clause-none_differs c = λ told. c.settle.ensures.none_differs told ∙ ap (λ (m : Contents). m.differed) c.unqueue.ensures.mods

pub returns-else-unqueue-clause-none_differs : goal.returns-else-unqueue-clause-none_differs
returns-else-unqueue-clause-none_differs c = λ told. ap (λ (m : Contents). m.differed) c.unqueue.ensures.mods

pub returns-then-unqueue-clause-marks : goal.returns-then-unqueue-clause-marks
returns-then-unqueue-clause-marks c = c.settle.ensures.marks ∙ ap (λ (m : Contents). m.marked) c.unqueue.ensures.mods

pub returns-else-unqueue-clause-marks : goal.returns-else-unqueue-clause-marks
returns-else-unqueue-clause-marks c = ap (λ (m : Contents). m.marked) c.unqueue.ensures.mods

pub returns-then-unqueue-clause-counts : goal.returns-then-unqueue-clause-counts
returns-then-unqueue-clause-counts c =
    counts-then c.args.self.now c.unqueue.new.self c.settle.new.self (counts-still c.args.self.now c.unqueue.new.self c.unqueue.ensures.mods c.unqueue.ensures.trace c.unqueue.ensures.memo)
    c.settle.ensures.counts

pub returns-else-unqueue-clause-counts : goal.returns-else-unqueue-clause-counts
returns-else-unqueue-clause-counts c = counts-still c.args.self.now c.unqueue.new.self c.unqueue.ensures.mods c.unqueue.ensures.trace c.unqueue.ensures.memo

pub returns-then-unqueue-clause-touched : goal.returns-then-unqueue-clause-touched
returns-then-unqueue-clause-touched c =
    let a = c.settle.ensures.touched in
    let b = touched-still c.args.self.now c.unqueue.new.self c.unqueue.ensures.trace in omega (arith, a, b)

pub returns-else-unqueue-clause-touched : goal.returns-else-unqueue-clause-touched
returns-else-unqueue-clause-touched c = let b = touched-still c.args.self.now c.unqueue.new.self c.unqueue.ensures.trace in omega (arith, b)
