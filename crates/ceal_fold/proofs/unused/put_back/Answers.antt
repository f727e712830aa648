use Rattle.std.proofs.Common.{ap, ◌∙◌}
use Rattle.ceal_fold.specs.States.{has_at}
use Rattle.ceal_fold.proofs.UnusedSteps.{sets-same, sets-other}
use Rattle.ceal_fold.proofs.unused.put_back.Goals as goal

pub returns-clause-here : goal.returns-clause-here
returns-clause-here c u =
    ap (λ s. has_at s c.args.index u) c.put_set.ensures ∙ sets-same c.args.sets.now.items c.args.index c.pass_back.new.vars u c.requires.there
    ∙ c.in_ok-pass_back.ensures.value u

pub returns-clause-left : goal.returns-clause-left
returns-clause-left c j u other =
    ap (λ s. has_at s j u) c.put_set.ensures ∙ sets-other c.args.sets.now.items c.args.index c.pass_back.new.vars j u other
