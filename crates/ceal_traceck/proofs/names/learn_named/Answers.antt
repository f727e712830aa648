use Rattle.std.proofs.Common.{sym, ◌∙◌}
use Rattle.ceal_code.specs.Tables.{code_in, plain_in}
use Rattle.ceal_traceck.proofs.ItemSteps.{named-end, plain-end}
use Rattle.ceal_traceck.proofs.names.learn_named.Goals as goal

pub returns-clause-answer : goal.returns-clause-answer
returns-clause-answer c =
    sym (named-end (code_in c.loop-item.memory) (plain_in c.loop-item.memory) c.loop-item.items.now c.in_default.ensures.cases) ∙ c.loop-item.invariant.named

pub returns-clause-plain : goal.returns-clause-plain
returns-clause-plain c =
    λ e. sym (plain-end (code_in c.loop-item.memory) (plain_in c.loop-item.memory) c.loop-item.items.now c.in_default.ensures.cases) ∙ c.loop-item.invariant.plain
