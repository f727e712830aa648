use Rattle.std.proofs.Common.{◌≡◌, length}
use Rattle.ceal_code.specs.Tables.{code_in, plain_in, store_in, store_flat}
use Rattle.ceal_code.proofs.trace_memory.TraceMemory.store_items.Given as goal

abbrev pub invariant-loop-item : goal.invariant-loop-item
invariant-loop-item l = record {
  code : code_in l.self ≡ code_in l.fn.self;
  store : store_flat (code_in l.self) (store_in l.self) l.items ≡ store_flat (code_in l.fn.self) (store_in l.fn.self) l.fn.items;
  plain : plain_in l.self ≡ plain_in l.fn.self;
}

abbrev pub decreases-loop-item : goal.decreases-loop-item
decreases-loop-item l = length l.items
