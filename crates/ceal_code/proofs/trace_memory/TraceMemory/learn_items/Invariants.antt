use Rattle.std.proofs.Common.{◌≡◌, length}
use Rattle.ceal_code.specs.Tables.{code_in, plain_in, store_in, plain_flat}
use Rattle.ceal_code.proofs.trace_memory.TraceMemory.learn_items.Given as goal

abbrev pub invariant-loop-item : goal.invariant-loop-item
invariant-loop-item l = record {
  code : code_in l.self ≡ code_in l.fn.self;
  plain : plain_flat (code_in l.self) (plain_in l.self) l.items ≡ plain_flat (code_in l.fn.self) (plain_in l.fn.self) l.fn.items;
  store : store_in l.self ≡ store_in l.fn.self;
}

abbrev pub decreases-loop-item : goal.decreases-loop-item
decreases-loop-item l = length l.items
