use Rattle.std.proofs.Common.{◌<◌, length, arith}
use Rattle.ceal_queue.proofs.QueueLemmas.{head_at}
use Rattle.ceal_queue.proofs.stamps.Stamps.first.Goals as goal

pub returns-else-len-eq0-clause-first : goal.returns-else-len-eq0-clause-first
returns-else-len-eq0-clause-first c =
    let some : 0 < length c.args.self.now.items = omega (arith, c.if-len-eq0.false, c.len.ensures) in
    head_at c.args.self.now.items c.get.result some c.get.ensures
