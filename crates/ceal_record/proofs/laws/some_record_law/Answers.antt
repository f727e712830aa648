use Rattle.ceal_record.proofs.SomeRecord.{some-record}
use Rattle.ceal_record.proofs.laws.some_record_law.Goals as goal

pub returns : goal.returns
returns c = record { law = some-record }
