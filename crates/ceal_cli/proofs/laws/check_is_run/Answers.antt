use Rattle.ceal_cli.proofs.Inputs.AnswerOrRefusal.{check-is-run}
use Rattle.ceal_cli.proofs.laws.check_is_run.Goals as goal

pub returns : goal.returns
returns c = record { law = check-is-run }
