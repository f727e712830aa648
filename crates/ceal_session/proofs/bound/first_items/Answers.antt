use Rattle.ceal_session.proofs.Engine.CostOfFirstTraces.{has-items, no-items}
use Rattle.ceal_session.proofs.bound.first_items.Goals as goal

pub returns-in-Done : goal.returns-in-Done
returns-in-Done c = record {
  first = has-items c.args.engine.now.code c.args.inputs.now c.args.function c.args.args.now c.requires.fits c.args.engine.now.fuel c.in-Done.forest c.in-Done.work
      (rw (c.code.ensures.value, c.fuel.ensures.value, c.in-Done.is) at c.in_ok-first.ensures.answer);
}

pub returns-in-OutOfFuel : goal.returns-in-OutOfFuel
returns-in-OutOfFuel c = record {
  first = no-items c.args.engine.now.code c.args.inputs.now c.args.function c.args.args.now c.requires.fits c.args.engine.now.fuel
      (rw (c.code.ensures.value, c.fuel.ensures.value, c.in-OutOfFuel.is) at c.in_ok-first.ensures.answer);
}
