use Rattle.ceal_flow.proofs.BitFacts.{members-ascend}
use Rattle.ceal_flow.proofs.live_set.LiveSet.variables.Goals as goal

pub returns-clause-ascending : goal.returns-clause-ascending
returns-clause-ascending c = rw c.self.view_is at (members-ascend c.self.inside.chunks.items)
