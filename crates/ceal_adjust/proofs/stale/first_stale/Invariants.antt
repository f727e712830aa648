use Rattle.std.proofs.Common.{◌≡◌, take}
use Rattle.ceal_code.specs.Tables.{code_in, plain_in, store_in}
use Rattle.ceal_theory.specs.Walk.{store_after, AgreesAll}
use Rattle.ceal_adjust.proofs.stale.first_stale.Given as goal

abbrev pub invariant-loop-item : goal.invariant-loop-item
invariant-loop-item l = record {
  counted : l.at ≡ l.item-index;
  code : code_in l.memory ≡ code_in l.fn.memory;
  plain : plain_in l.memory ≡ plain_in l.fn.memory;
  agrees : AgreesAll (code_in l.fn.memory) (store_in l.fn.memory) (take l.item-index l.items);
  store : store_in l.memory ≡ store_after (code_in l.fn.memory) (store_in l.fn.memory) (take l.item-index l.items);
}
