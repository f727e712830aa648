use Rattle.ceal_dump.proofs.Records.{read-back}
use Rattle.ceal_dump.proofs.laws.read_back_law.Goals as goal

pub returns : goal.returns
returns c = record { law = read-back }
