use Rattle.std.proofs.Common.{length, ap, arith}
use Rattle.ceal_adjust.proofs.Spotting.{skip-ends, skip-past}
use Rattle.ceal_adjust.proofs.old.Old.skip.Goals as goal

pub returns-then-from-self : goal.returns-then-from-self
returns-then-from-self c = record { rest = skip-past c.args.self.now c.args.from c.args.levels (omega (arith, ap length c.self.view_is)) }

pub returns : goal.returns
returns c = record { rest = skip-ends c.args.self.now c.args.from c.args.levels c.end.result c.end.ensures }
