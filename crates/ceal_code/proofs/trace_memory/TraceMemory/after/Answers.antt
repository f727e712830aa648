use Rattle.std.proofs.Common.{◌∙◌}
use Rattle.ceal_code.proofs.Equations.TableSteps.{plain-done, store-done, memory-done}
use Rattle.ceal_code.specs.After.{store_after}
use Rattle.ceal_code.specs.Replay.{bases, plain_of}
use Rattle.ceal_code.specs.Tables.{code_in, plain_in, store_in}
use Rattle.ceal_code.proofs.trace_memory.TraceMemory.after.Goals as goal

-- the blocks of the inputs and those that the items allocate are learnt, in this order
pub returns-clause-plain : goal.returns-clause-plain
returns-clause-plain c = λ l f.
    plain-done c.args.code.now (code_in c.new-memory.result) c.args.inputs.now (plain_in c.new-memory.result) (plain_in c.learn_items.new.self) (plain_in c.store_items.new.self) c.args.items.now
    c.new-memory.ensures.code c.new-memory.ensures.plain c.in_ok-learn_items.ensures.plain c.in_ok-store_items.ensures.plain l f

-- the content of each place is the last that an item gave it
pub returns-clause-store : goal.returns-clause-store
returns-clause-store c = λ l f.
    store-done c.args.code.now (code_in c.learn_items.new.self) (bases c.args.code.now c.args.inputs.now) (store_in c.learn_items.new.self) (store_in c.store_items.new.self) c.args.items.now
    (c.in_ok-learn_items.ensures.code ∙ c.new-memory.ensures.code) (c.in_ok-learn_items.ensures.store ∙ c.new-memory.ensures.store) c.in_ok-store_items.ensures.store l f

-- both together are the memory after the items
pub returns-clause-memory : goal.returns-clause-memory
returns-clause-memory c = λ l f b.
    memory-done c.args.code.now (code_in c.store_items.new.self) (plain_of c.args.code.now c.args.inputs.now l) (plain_in c.store_items.new.self)
    (store_after c.args.code.now (bases c.args.code.now c.args.inputs.now) l) (store_in c.store_items.new.self) b
    (c.in_ok-store_items.ensures.code ∙ (c.in_ok-learn_items.ensures.code ∙ c.new-memory.ensures.code))
    (plain-done c.args.code.now (code_in c.new-memory.result) c.args.inputs.now (plain_in c.new-memory.result) (plain_in c.learn_items.new.self) (plain_in c.store_items.new.self) c.args.items.now
    c.new-memory.ensures.code c.new-memory.ensures.plain c.in_ok-learn_items.ensures.plain c.in_ok-store_items.ensures.plain l f)
    (store-done c.args.code.now (code_in c.learn_items.new.self) (bases c.args.code.now c.args.inputs.now) (store_in c.learn_items.new.self) (store_in c.store_items.new.self) c.args.items.now
    (c.in_ok-learn_items.ensures.code ∙ c.new-memory.ensures.code) (c.in_ok-learn_items.ensures.store ∙ c.new-memory.ensures.store) c.in_ok-store_items.ensures.store l f)
