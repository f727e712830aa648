use Rattle.ceal_script.proofs.Either.{command_or_none}
use Rattle.ceal_script.proofs.line.command_or_none.Goals as goal

pub returns : goal.returns
returns c = command_or_none
