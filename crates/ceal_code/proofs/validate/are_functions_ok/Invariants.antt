use Rattle.std.proofs.Common.{◌≡◌, ◌+◌, length}
use Rattle.ceal_code.specs.Valid.{functions_ok}
use Rattle.ceal_code.proofs.validate.are_functions_ok.Given as goal

abbrev pub invariant-loop-function : goal.invariant-loop-function
invariant-loop-function l = record {
  at : l.f + length l.functions ≡ length l.fn.functions;
  same : functions_ok l.code l.f l.functions l.kinds ≡ functions_ok l.code 0 l.fn.functions l.fn.kinds;
}

abbrev pub decreases-loop-function : goal.decreases-loop-function
decreases-loop-function l = length l.functions
