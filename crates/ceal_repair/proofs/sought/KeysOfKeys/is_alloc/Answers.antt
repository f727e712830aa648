use Rattle.ceal_repair.proofs.Lists.KeyedNodes.{entry-there}
use Rattle.ceal_repair.proofs.sought.KeysOfKeys.is_alloc.Goals as goal

pub node-requires : goal.node-requires
node-requires c = record { here = entry-there c.args.stamp.0 c.args.self.now.trace.now.nodes c.requires.there }
