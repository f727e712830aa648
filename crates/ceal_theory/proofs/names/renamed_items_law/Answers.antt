use Rattle.ceal_theory.proofs.MoveMachine.Segments.{renamed-items-law}
use Rattle.ceal_theory.proofs.names.renamed_items_law.Goals as goal

pub returns : goal.returns
returns c = record { law = renamed-items-law }
