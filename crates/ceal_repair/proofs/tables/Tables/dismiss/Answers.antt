use Rattle.ceal_trace.specs.Nodes.{stamps_in}
use Rattle.ceal_repair.proofs.QueueCover.NodeChanges.{read-has}
use Rattle.ceal_repair.proofs.TableCalls.CutKeepsTables.{behind-own, still-first, dismissed-kept, as-tables}
use Rattle.ceal_repair.proofs.tables.Tables.dismiss.Goals as goal

pub unqueue-was-requires-clause-here : goal.unqueue-was-requires-clause-here
unqueue-was-requires-clause-here c = read-has c.args.read.0 c.args.self.now.trace.nodes c.requires.here

-- the first read of the queue is taken out, so what is left is after it
pub returns-clause-behind : goal.returns-clause-behind
returns-clause-behind c = λ r i. rw c.unqueue-was.ensures.trace
    (behind-own (stamps_in c.args.self.now.trace.nodes) c.unqueue-was.new.self.stale.stamps c.args.read.0 (rw c.unqueue-was.ensures.trace at c.unqueue-was.ensures.stale)
    (read-has c.args.read.0 c.args.self.now.trace.nodes c.requires.here)
    c.unqueue-was.ensures.without.gone
    (still-first (stamps_in c.args.self.now.trace.nodes) c.args.self.now.stale.stamps c.unqueue-was.new.self.stale.stamps c.args.read.0 c.unqueue-was.ensures.without c.requires.first) r i)

pub returns-clause-kept : goal.returns-clause-kept
returns-clause-kept c =
    as-tables c.unqueue-was.new.self c.args.self.now.trace c.args.self.now.mods c.args.self.now.memo c.unqueue-was.ensures.trace c.unqueue-was.ensures.mods c.unqueue-was.ensures.memo
    (dismissed-kept c.args.self.now c.requires.kept c.args.read.0 c.requires.here c.requires.first c.requires.honest c.unqueue-was.new.self.stale c.unqueue-was.ensures.without
    (rw c.unqueue-was.ensures.trace at c.unqueue-was.ensures.stale))

pub returns-clause-fewer : goal.returns-clause-fewer
returns-clause-fewer c = λ i. c.unqueue-was.ensures.fewer (c.unqueue-was.ensures.was.1 i)
