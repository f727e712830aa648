use Rattle.ceal_code.proofs.Equations.TableSteps.{plain-new, store-new}
use Rattle.ceal_code.proofs.trace_memory.TraceMemory.new.Goals as goal

pub returns-clause-plain : goal.returns-clause-plain
returns-clause-plain c = plain-new _ c.new.ensures.empty

pub returns-clause-store : goal.returns-clause-store
returns-clause-store c = store-new _ c.new-2.ensures.empty
