use Rattle.std.proofs.Common.{arith}
use Rattle.ceal_mean.proofs.FuelLemmas.{fresh-at-most, fresh-enough}
use Rattle.ceal_mean.proofs.laws.more_fuel.Goals as goal

pub returns : goal.returns
returns c = record {
  law = λ p f args inputs fuel more r h l. fresh-enough p f args inputs fuel r h more (omega (arith, fresh-at-most p f args inputs fuel r h, l));
}
