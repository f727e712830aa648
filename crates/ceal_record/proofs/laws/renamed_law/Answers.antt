use Rattle.ceal_record.proofs.InOrder.{renamed-law}
use Rattle.ceal_record.proofs.laws.renamed_law.Goals as goal

pub returns : goal.returns
returns c = record { law = renamed-law }
