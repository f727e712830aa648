use Rattle.ceal_trace.specs.Nodes.{stamps_in}
use Rattle.ceal_repair.proofs.TableCalls.CutKeepsTables.{by-queue, behind-own, still-first}
use Rattle.std.proofs.Common.{length, ap, arith}
use Rattle.ceal_queue.specs.Queue.{Waiting}
use Rattle.ceal_repair.proofs.tables.Tables.hand_on.Goals as goal

-- the read is taken out of the queue, and the next one of its place, which is after it, is queued
pub returns-then-unqueue-clause-ahead : goal.returns-then-unqueue-clause-ahead
returns-then-unqueue-clause-ahead c = λ r i. rw (c.wake.ensures.trace, c.unqueue.ensures.trace)
    (by-queue r c.unqueue.new.self.stale.stamps
    (λ j. behind-own (stamps_in c.args.self.now.trace.nodes) c.unqueue.new.self.stale.stamps c.args.read.0
    (rw c.unqueue.ensures.trace at c.unqueue.ensures.stale) c.requires.here c.unqueue.ensures.without.gone
    (still-first (stamps_in c.args.self.now.trace.nodes) c.args.self.now.stale.stamps c.unqueue.new.self.stale.stamps c.args.read.0 c.unqueue.ensures.without c.requires.first) r j)
    (λ j. rw c.unqueue.ensures.trace at c.wake.ensures.ahead r j i))

pub returns-else-unqueue-clause-ahead : goal.returns-else-unqueue-clause-ahead
returns-else-unqueue-clause-ahead c = λ r i. rw c.unqueue.ensures.trace
    (behind-own (stamps_in c.args.self.now.trace.nodes) c.unqueue.new.self.stale.stamps c.args.read.0
    (rw c.unqueue.ensures.trace at c.unqueue.ensures.stale) c.requires.here c.unqueue.ensures.without.gone
    (still-first (stamps_in c.args.self.now.trace.nodes) c.args.self.now.stale.stamps c.unqueue.new.self.stale.stamps c.args.read.0 c.unqueue.ensures.without c.requires.first) r i)

pub returns-then-unqueue-clause-most : goal.returns-then-unqueue-clause-most
returns-then-unqueue-clause-most c =
    let a = c.unqueue.ensures.fewer c.if-unqueue.true in
    let b = c.wake.ensures.one in omega (arith, a, b)

pub returns-else-unqueue-clause-most : goal.returns-else-unqueue-clause-most
returns-else-unqueue-clause-most c = let e = ap (λ (q : Waiting). length q.stamps) (c.unqueue.ensures.absent c.if-unqueue.false) in omega (arith, e)
