use Rattle.ceal_dump.proofs.Decided.{dump-or-none}
use Rattle.ceal_dump.proofs.laws.dump_or_none.Goals as goal

pub returns : goal.returns
returns c = record { law = dump-or-none }
