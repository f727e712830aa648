use Rattle.ceal_mean.proofs.FuelLemmas.{fresh-at-most, fresh-enough}
use Rattle.ceal_mean.proofs.laws.enough_fuel.Goals as goal

pub returns : goal.returns
returns c = record {
  law = λ p f args inputs fuel n r h. ((λ short. fresh-at-most p f args inputs n r short), fresh-enough p f args inputs fuel r h n);
}
