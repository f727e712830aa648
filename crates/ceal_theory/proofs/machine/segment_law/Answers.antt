use Rattle.ceal_theory.proofs.MoveMachine.Segments.{segment-law}
use Rattle.ceal_theory.proofs.machine.segment_law.Goals as goal

pub returns : goal.returns
returns c = record { law = segment-law }
