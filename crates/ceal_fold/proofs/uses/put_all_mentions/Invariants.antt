use Rattle.std.proofs.Common.{◌≡◌, ◌||◌, ℕ, length}
use Rattle.ceal_fold.specs.Folding.{all_mention}
use Rattle.ceal_fold.specs.States.{has}
use Rattle.ceal_fold.proofs.uses.put_all_mentions.Given as goal

abbrev pub invariant-loop-e : goal.invariant-loop-e
invariant-loop-e l = (u : ℕ) → (has l.vars u || all_mention l.rest u) ≡ (has l.initial.vars u || all_mention l.es u)

abbrev pub decreases-loop-e : goal.decreases-loop-e
decreases-loop-e l = length l.rest
