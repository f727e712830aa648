use Rattle.ceal_serve.proofs.AsRun.{served-as-run, turned-away-as-run}
use Rattle.ceal_serve.proofs.Places.FirstPlace.{first-place}
use Rattle.ceal_serve.proofs.laws.as_run.Goals as goal

pub returns : goal.returns
returns c =
    let placed = first-place c.first_fault_law.ensures.law c.resolved_law.ensures.law in
    record { served = served-as-run c.one_split.ensures; refused = turned-away-as-run c.one_split.ensures placed; placed = placed }
