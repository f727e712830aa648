use Rattle.ceal_norm.proofs.Jumps.ForwardJumps.{graph-forward}
use Rattle.ceal_norm.proofs.Validity.ValidCode.{code-valid}
use Rattle.ceal_norm.proofs.laws.valid_law.Goals as goal

pub returns : goal.returns
returns c = record { law = λ p sets typed kept live. code-valid p typed kept sets live (graph-forward p) }
