use Rattle.ceal_code.proofs.Equations.TableSteps.{plain-end}
use Rattle.ceal_code.specs.Tables.{code_in, plain_in, plain_flat}
use Rattle.ceal_code.proofs.trace_memory.TraceMemory.learn_items.Goals as goal

pub returns-clause-plain : goal.returns-clause-plain
returns-clause-plain c =
    plain-end (code_in c.loop-item.self) (plain_in c.loop-item.self) (plain_flat (code_in c.args.self.now) (plain_in c.args.self.now) c.args.items.now) c.loop-item.items.now
    c.in_default.ensures.cases c.loop-item.invariant.plain
