use Rattle.ceal_code.specs.Tables.{plain_in}
use Rattle.ceal_adjust.proofs.Knowing.{Below}
use Rattle.ceal_adjust.proofs.known.known_below.Given as goal

abbrev pub invariant-loop-number : goal.invariant-loop-number
invariant-loop-number l = Below (plain_in l.memory) l.number l.known
