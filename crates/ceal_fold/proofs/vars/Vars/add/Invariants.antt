use Rattle.std.proofs.Common.{◌≡◌, ◌||◌, ℕ, length}
use Rattle.ceal_fold.specs.States.{has}
use Rattle.ceal_fold.proofs.vars.Vars.add.Given as goal

abbrev pub invariant-loop-v : goal.invariant-loop-v
invariant-loop-v l = (u : ℕ) → (has l.self-inside.set.keys u || has l.rest-inside.set.keys u) ≡ (has l.initial.self-inside.set.keys u || has l.initial.rest-inside.set.keys u)

abbrev pub decreases-loop-v : goal.decreases-loop-v
decreases-loop-v l = length l.rest-inside.set.keys
