use Rattle.std.proofs.Common.{refl}
use Rattle.ceal_code.proofs.Equations.TableSteps.{contents-clear}
use Rattle.ceal_code.specs.Tables.{plain_in}
use Rattle.ceal_code.proofs.trace_memory.TraceMemory.clear.Goals as goal

pub returns-clause-plain : goal.returns-clause-plain
unfolding plain_in
returns-clause-plain c = refl

pub returns-clause-store : goal.returns-clause-store
returns-clause-store c =
    contents-clear c.args.self.now _ c.new.result c.args.id c.made_shape-shape.result c.args.key.now refl refl
    c.new.ensures.word c.in_ok-insert.ensures.updates.0 c.made_shape-shape.ensures.value
