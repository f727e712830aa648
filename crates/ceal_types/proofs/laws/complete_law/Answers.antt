use Rattle.ceal_types.proofs.Completeness.ProgramComplete.{answered-complete}
use Rattle.ceal_types.proofs.laws.complete_law.Goals as goal

pub returns : goal.returns
returns c = record { law = answered-complete }
