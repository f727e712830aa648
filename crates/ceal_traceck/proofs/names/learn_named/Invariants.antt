use Rattle.std.proofs.Common.{◌≡◌, length}
use Rattle.ceal_code.specs.Tables.{code_in, plain_in, store_in, plain_flat}
use Rattle.ceal_traceck.specs.Items.{all_named}
use Rattle.ceal_traceck.proofs.names.learn_named.Given as goal

abbrev pub invariant-loop-item : goal.invariant-loop-item
invariant-loop-item l = record {
  named : all_named (code_in l.memory) (plain_in l.memory) l.items ≡ all_named (code_in l.fn.memory) (plain_in l.fn.memory) l.fn.items;
  code : code_in l.memory ≡ code_in l.fn.memory;
  plain : plain_flat (code_in l.memory) (plain_in l.memory) l.items ≡ plain_flat (code_in l.fn.memory) (plain_in l.fn.memory) l.fn.items;
  store : store_in l.memory ≡ store_in l.fn.memory;
}

abbrev pub decreases-loop-item : goal.decreases-loop-item
decreases-loop-item l = length l.items
