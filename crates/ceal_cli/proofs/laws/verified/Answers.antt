use Rattle.ceal_cli.proofs.Outputs.VerifiedRun.{verified-law}
use Rattle.ceal_cli.proofs.laws.verified.Goals as goal

pub returns : goal.returns
returns c = record { law = verified-law c.one_answer.ensures.law c.one_code.ensures.law c.sound_law.ensures.law }
