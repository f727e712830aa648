use Rattle.std.proofs.Common.{◌≡◌, take}
use Rattle.ceal_flow.specs.Blocks.{sizes}
use Rattle.ceal_flow.proofs.size.+size.Given as goal

abbrev pub invariant-sizes_of-loop-s : goal.invariant-sizes_of-loop-s
invariant-sizes_of-loop-s l = l.total ≡ sizes (take l.s-index l.stmts)
