use Rattle.std.proofs.Common.{sym, ◌∙◌}
use Rattle.ceal_code.specs.Tables.{code_in, store_in}
use Rattle.ceal_traceck.proofs.ItemSteps.{honest-end, store-end}
use Rattle.ceal_traceck.proofs.honesty.store_honest.Goals as goal

pub returns-clause-answer : goal.returns-clause-answer
returns-clause-answer c =
    sym (honest-end (code_in c.loop-item.memory) (store_in c.loop-item.memory) c.loop-item.items.now c.in_default.ensures.cases) ∙ c.loop-item.invariant.honest

pub returns-clause-store : goal.returns-clause-store
returns-clause-store c =
    λ e. sym (store-end (code_in c.loop-item.memory) (store_in c.loop-item.memory) c.loop-item.items.now c.in_default.ensures.cases) ∙ c.loop-item.invariant.store
