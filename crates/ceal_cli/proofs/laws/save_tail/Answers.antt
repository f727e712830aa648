use Rattle.ceal_cli.proofs.Outputs.DumpBesideSave.{tail-law}
use Rattle.ceal_cli.proofs.laws.save_tail.Goals as goal

pub returns : goal.returns
returns c = record { law = tail-law }
