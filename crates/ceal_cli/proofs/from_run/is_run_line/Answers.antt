use Rattle.ceal_cli.proofs.Sessions.RepliesFromFirstRun.{run_line}
use Rattle.ceal_cli.proofs.from_run.is_run_line.Goals as goal

pub returns : goal.returns
returns c = run_line c.args.line.now c.starts_with.result c.starts_with.ensures.value
