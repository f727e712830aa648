use Rattle.ceal_dump.proofs.Records.{one-record}
use Rattle.ceal_dump.proofs.laws.one_record_law.Goals as goal

pub returns : goal.returns
returns c = record { law = one-record }
