use Rattle.std.proofs.Common.{arith}
use Rattle.ceal_base.proofs.Equality.{words-Decides}
use Rattle.ceal_base.proofs.forest.Key.same_as.Goals as goal

pub returns : goal.returns
returns c = grind (arith, words-Decides)
