use Rattle.ceal_trace.proofs.Parting.{put-in, plain-nests, read-nests, parts}
use Rattle.ceal_trace.proofs.laws.nodes_nest.Goals as goal

pub returns : goal.returns
returns c = record { parted = parts; put = put-in; plain = plain-nests; read = read-nests }
