use Rattle.ceal_code.proofs.Equations.TableSteps.{store-end}
use Rattle.ceal_code.specs.Tables.{code_in, store_in, store_flat}
use Rattle.ceal_code.proofs.trace_memory.TraceMemory.store_items.Goals as goal

pub returns-clause-store : goal.returns-clause-store
returns-clause-store c =
    store-end (code_in c.loop-item.self) (store_in c.loop-item.self) (store_flat (code_in c.args.self.now) (store_in c.args.self.now) c.args.items.now) c.loop-item.items.now
    c.in_default.ensures.cases c.loop-item.invariant.store
