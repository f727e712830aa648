use Rattle.ceal_theory.proofs.SlicedRepair.CarriedLaws.{carried-trace-law}
use Rattle.ceal_theory.proofs.carried.carried_trace_law.Goals as goal

pub returns : goal.returns
returns c = record { law = carried-trace-law }
