use Rattle.ceal_record.proofs.InOrder.{one-record}
use Rattle.ceal_record.proofs.laws.one_record_law.Goals as goal

pub returns : goal.returns
returns c = record { law = one-record }
