use Rattle.ceal_flow.proofs.SameRun.{runs-as}
use Rattle.ceal_flow.proofs.laws.run_law.Goals as goal

pub returns : goal.returns
returns c = record { law = runs-as }
