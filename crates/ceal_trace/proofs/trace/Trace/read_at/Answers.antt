use Rattle.ceal_trace.proofs.Entries.{has-read}
use Rattle.ceal_trace.proofs.trace.Trace.read_at.Goals as goal

pub node-requires : goal.node-requires
node-requires c = record { here = has-read c.args.read.0 c.args.self.now.nodes c.requires.read }
