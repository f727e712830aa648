use Rattle.std.proofs.Common.{◌≡◌, drop}
use Rattle.ceal_show.specs.Search.{with_targets}
use Rattle.ceal_show.specs.Shown.{words_at}
use Rattle.ceal_show.proofs.reach.with_targets.Given as goal

-- with the words that are left it reaches all of them
abbrev pub invariant-loop-field : goal.invariant-loop-field
invariant-loop-field g l =
    with_targets l.met (drop l.field (words_at (g.V.View.memory l.view) l.block)) ≡ with_targets l.fn.met (words_at (g.V.View.memory l.view) l.block)
