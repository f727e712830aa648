use Rattle.ceal_base.proofs.TraceLemmas.{trace-flat, steps-flat}
use Rattle.ceal_base.proofs.laws.flat_form.Goals as goal

pub returns : goal.returns
returns c = record {
  trace = λ f. trace-flat f;
  steps = λ f. steps-flat f;
}
