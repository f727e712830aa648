use Rattle.ceal_types.proofs.Resolution.ProgramResolved.{answered-resolves}
use Rattle.ceal_types.proofs.laws.resolved_law.Goals as goal

pub returns : goal.returns
returns c = record { law = answered-resolves }
