use Rattle.std.proofs.Common.{◌≡◌, length}
use Rattle.ceal_code.specs.Tables.{code_in, plain_in, store_in}
use Rattle.ceal_adjust.specs.KnownBlocks.{knowing, defaulting}
use Rattle.ceal_adjust.proofs.known.learn_known.Given as goal

abbrev pub invariant-loop-first : goal.invariant-loop-first
invariant-loop-first l = record {
  code : code_in l.memory ≡ code_in l.fn.memory;
  plain : knowing (plain_in l.memory) l.known ≡ knowing (plain_in l.fn.memory) l.fn.known;
  store : defaulting (code_in l.memory) (store_in l.memory) l.known ≡ defaulting (code_in l.fn.memory) (store_in l.fn.memory) l.fn.known;
}

abbrev pub decreases-loop-first : goal.decreases-loop-first
decreases-loop-first l = length l.known
