use Rattle.std.proofs.Common.{◌≡◌, ◌++◌, length}
use Rattle.ceal_code.specs.Listing.{functions_text}
use Rattle.ceal_code.proofs.listing.put_functions.Given as goal

abbrev pub invariant-loop-function : goal.invariant-loop-function
invariant-loop-function l =
    l.out ++ functions_text l.code l.functions l.groups ≡ l.initial.out ++ functions_text l.code l.fn.functions l.fn.groups

abbrev pub decreases-loop-function : goal.decreases-loop-function
decreases-loop-function l = length l.functions
