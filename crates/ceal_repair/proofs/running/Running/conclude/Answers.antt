use Rattle.std.proofs.Common.{refl, arith}
use Rattle.ceal_repair.proofs.running.Running.conclude.Goals as goal

pub returns-then-steps-from : goal.returns-then-steps-from
returns-then-steps-from c = (refl, omega (arith, c.if-steps-from.true, c.steps.ensures.items, c.from.ensures))

pub returns-else-steps-from : goal.returns-else-steps-from
returns-else-steps-from c = record {
  tables = refl;
  spent = refl;
  few = omega (arith, c.if-steps-from.false, c.steps.ensures.items, c.from.ensures);
  released = c.release_revoked.ensures.released;
  slots = c.release_revoked.ensures.slots;
}
