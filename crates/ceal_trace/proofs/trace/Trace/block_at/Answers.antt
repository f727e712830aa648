use Rattle.ceal_trace.specs.declared.node.Node.TheVariants.{Alloc}
use Rattle.ceal_trace.proofs.Entries.{has-held}
use Rattle.ceal_trace.proofs.trace.Trace.block_at.Goals as goal

pub node-requires : goal.node-requires
node-requires c = record { here = has-held c.args.alloc.0 (Alloc c.requires.alloc.0 c.requires.alloc.1) c.args.self.now.nodes c.requires.alloc.2 }
