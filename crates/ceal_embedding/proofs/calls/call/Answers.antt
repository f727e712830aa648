use Rattle.ceal_engine.proofs.Advanced.{end-keeps}
use Rattle.ceal_engine.specs.Calls.{called}
use Rattle.ceal_embedding.proofs.calls.call.Goals as goal

-- code, fuel and inputs stay, and the call is the one that was made
pub returns-clause-kept : goal.returns-clause-kept
returns-clause-kept c =
    let k = end-keeps (called c.args.engine.now c.args.function c.args.args.now) c.run.new.self c.run.result c.run.ensures.advances in
    record { code = k.code; fuel = k.fuel }

pub returns-clause-inputs : goal.returns-clause-inputs
returns-clause-inputs c = (end-keeps (called c.args.engine.now c.args.function c.args.args.now) c.run.new.self c.run.result c.run.ensures.advances).inputs

pub returns-clause-called : goal.returns-clause-called
returns-clause-called c = (end-keeps (called c.args.engine.now c.args.function c.args.args.now) c.run.new.self c.run.result c.run.ensures.advances).call

pub returns-in_err-run-clause-kept : goal.returns-in_err-run-clause-kept
returns-in_err-run-clause-kept c =
    let k = end-keeps (called c.args.engine.now c.args.function c.args.args.now) c.run.new.self c.run.result c.run.ensures.advances in
    record { code = k.code; fuel = k.fuel }

pub returns-in_err-run-clause-inputs : goal.returns-in_err-run-clause-inputs
returns-in_err-run-clause-inputs c = (end-keeps (called c.args.engine.now c.args.function c.args.args.now) c.run.new.self c.run.result c.run.ensures.advances).inputs
