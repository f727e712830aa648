use Rattle.ceal_record.proofs.Certified.{one-run-law}
use Rattle.ceal_record.proofs.laws.one_run_law.Goals as goal

pub returns : goal.returns
returns c = record { law = one-run-law c.sound_law.ensures.law c.unique_law.ensures.law }
