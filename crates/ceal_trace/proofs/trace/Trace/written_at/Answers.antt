use Rattle.ceal_trace.specs.declared.node.Node.TheVariants.{Write}
use Rattle.ceal_trace.proofs.Entries.{has-held}
use Rattle.ceal_trace.proofs.trace.Trace.written_at.Goals as goal

pub node-requires : goal.node-requires
node-requires c = record { here = has-held c.args.write.0 (Write c.requires.write.0 c.requires.write.1) c.args.self.now.nodes c.requires.write.2 }
