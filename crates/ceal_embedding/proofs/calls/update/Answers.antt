use Rattle.std.proofs.Common.{◌∙◌}
use Rattle.ceal_embedding.proofs.Paid.{paid-update}
use Rattle.ceal_engine.proofs.Advanced.{end-keeps}
use Rattle.ceal_embedding.proofs.calls.update.Goals as goal

-- one edit and one repair
pub returns-clause-cost : goal.returns-clause-cost
returns-clause-cost c = λ whole.
    paid-update c.cost_law.ensures.law c.args.engine.now c.edit.new.self c.propagate.new.self c.edit.ensures.cost c.in_ok-edit.ensures.phase whole c.in_ok-propagate.ensures.advances

pub returns-clause-kept : goal.returns-clause-kept
returns-clause-kept c =
    let k = end-keeps c.edit.new.self c.propagate.new.self c.propagate.result c.propagate.ensures.advances in
    record { code = k.code ∙ c.edit.ensures.code; fuel = k.fuel ∙ c.edit.ensures.fuel }

pub returns-clause-call : goal.returns-clause-call
returns-clause-call c = (end-keeps c.edit.new.self c.propagate.new.self c.propagate.result c.propagate.ensures.advances).call ∙ c.edit.ensures.call

pub returns-clause-inputs : goal.returns-clause-inputs
returns-clause-inputs c = (end-keeps c.edit.new.self c.propagate.new.self c.propagate.result c.propagate.ensures.advances).inputs ∙ c.in_ok-edit.ensures.inputs

-- the same, where the repair ended with an error
pub returns-in_err-propagate-clause-kept : goal.returns-in_err-propagate-clause-kept
returns-in_err-propagate-clause-kept c =
    let k = end-keeps c.edit.new.self c.propagate.new.self c.propagate.result c.propagate.ensures.advances in
    record { code = k.code ∙ c.edit.ensures.code; fuel = k.fuel ∙ c.edit.ensures.fuel }

pub returns-in_err-propagate-clause-call : goal.returns-in_err-propagate-clause-call
returns-in_err-propagate-clause-call c = (end-keeps c.edit.new.self c.propagate.new.self c.propagate.result c.propagate.ensures.advances).call ∙ c.edit.ensures.call
