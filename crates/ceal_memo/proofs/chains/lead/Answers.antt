use Rattle.ceal_memo.proofs.Grouping.{lists_linked}
use Rattle.ceal_memo.proofs.chains.lead.Goals as goal

pub returns-clause-lists : goal.returns-clause-lists
returns-clause-lists c = lists_linked c.args.groups.now _ _ _
