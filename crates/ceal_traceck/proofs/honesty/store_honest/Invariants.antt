use Rattle.std.proofs.Common.{◌≡◌, length}
use Rattle.ceal_code.specs.Tables.{code_in, plain_in, store_in, store_flat}
use Rattle.ceal_traceck.specs.Items.{all_honest}
use Rattle.ceal_traceck.proofs.honesty.store_honest.Given as goal

abbrev pub invariant-loop-item : goal.invariant-loop-item
invariant-loop-item l = record {
  honest : all_honest (code_in l.memory) (store_in l.memory) l.items ≡ all_honest (code_in l.fn.memory) (store_in l.fn.memory) l.fn.items;
  code : code_in l.memory ≡ code_in l.fn.memory;
  plain : plain_in l.memory ≡ plain_in l.fn.memory;
  store : store_flat (code_in l.memory) (store_in l.memory) l.items ≡ store_flat (code_in l.fn.memory) (store_in l.fn.memory) l.fn.items;
}

abbrev pub decreases-loop-item : goal.decreases-loop-item
decreases-loop-item l = length l.items
