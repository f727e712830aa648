use Rattle.ceal_record.proofs.Certified.{some-certificate}
use Rattle.ceal_record.proofs.laws.some_certificate_law.Goals as goal

pub returns : goal.returns
returns c = record { law = some-certificate c.first_law.ensures.law c.some_record_law.ensures.law c.renaming_law.ensures.law }
