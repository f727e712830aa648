use Rattle.ceal_theory.proofs.QueueCover.NodeChangesKeepCover.{node-changes-law}
use Rattle.ceal_theory.proofs.queue.node_changes_law.Goals as goal

pub returns : goal.returns
returns c = record { law = node-changes-law }
