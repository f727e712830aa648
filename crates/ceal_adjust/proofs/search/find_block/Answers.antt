use Rattle.std.proofs.Common.{◌+◌, drop}
use Rattle.ceal_adjust.proofs.Spotting.{found-some, alloc-absent, alloc-found}
use Rattle.ceal_adjust.specs.declared.mark.Mark.TheVariants.{Made}
use Rattle.ceal_adjust.proofs.search.find_block.Goals as goal

pub returns-in_default : goal.returns-in_default
returns-in_default c = record { value = alloc-absent c.args.old.now c.args.rest c.args.levels c.args.key.now (rw c.in_default.is at c.in_ok-spot.ensures.found) }

-- the place that was found is one of the items, so this does not happen
pub returns-in_default-item : goal.returns-in_default-item
returns-in_default-item c = record {
  value = found-some c.args.old.now c.args.rest c.args.levels
      (Made c.args.key.now) c.in-Some.spot.at c.in-Some.spot.levels
      (rw c.in-Some.is at c.in_ok-spot.ensures.found) c.in_default-item.ensures.value;
}

-- the item that was found is an allocation of the key, so this does not happen
pub returns-in-None : goal.returns-in-None
returns-in-None c = record {
  value = rw c.in-None.is at (alloc-found c.args.old.now c.args.rest c.args.levels c.args.key.now c.in-Some.spot.at c.in-Some.spot.levels (rw c.in-Some.is at c.in_ok-spot.ensures.found)
      c.in-Some-item.item.now (drop (c.in-Some.spot.at + 1) c.args.old.now) c.in-Some-item.ensures.value c.allocated.result c.allocated.ensures);
}

-- the earliest item with the mark of the key is the earliest allocation of it
pub returns-in-Some-allocated : goal.returns-in-Some-allocated
returns-in-Some-allocated c = record {
  value = rw c.in-Some-allocated.is at (alloc-found c.args.old.now c.args.rest c.args.levels c.args.key.now c.in-Some.spot.at c.in-Some.spot.levels (rw c.in-Some.is at c.in_ok-spot.ensures.found)
      c.in-Some-item.item.now (drop (c.in-Some.spot.at + 1) c.args.old.now) c.in-Some-item.ensures.value c.allocated.result c.allocated.ensures);
}
