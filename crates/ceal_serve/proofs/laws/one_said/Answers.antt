use Rattle.ceal_serve.proofs.AsRun.{one-said, said-begins}
use Rattle.ceal_serve.proofs.laws.one_said.Goals as goal

pub returns : goal.returns
returns c = record {
  one = one-said c.as_run.ensures.served c.as_run.ensures.refused c.one_output.ensures.law;
  beginning = said-begins c.as_run.ensures.served c.as_run.ensures.refused c.one_output.ensures.law;
}
