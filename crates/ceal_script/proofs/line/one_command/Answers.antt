use Rattle.ceal_script.proofs.CommandLaws.{one_line}
use Rattle.ceal_script.proofs.line.one_command.Goals as goal

pub returns : goal.returns
returns c = one_line
