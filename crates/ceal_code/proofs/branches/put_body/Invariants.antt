use Rattle.std.proofs.Common.{◌≡◌, ◌++◌, length}
use Rattle.ceal_code.specs.Branches.{branches_text, branch_weights}
use Rattle.ceal_code.specs.Listing.{commands}
use Rattle.ceal_code.proofs.branches.put_body.Given as goal

abbrev pub invariant-loop-branch : goal.invariant-loop-branch
invariant-loop-branch l =
    l.out ++ branches_text l.code l.body l.branches.items ≡ l.initial.out ++ commands l.code l.body (length l.body) 0 1

abbrev pub decreases-loop-branch : goal.decreases-loop-branch
decreases-loop-branch l = branch_weights l.branches.items
