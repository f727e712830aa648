use Rattle.std.proofs.Common.{◌+◌, drop}
use Rattle.ceal_adjust.proofs.Spotting.{found-some, read-absent, read-found}
use Rattle.ceal_adjust.specs.Closures.{mark_of_read}
use Rattle.ceal_adjust.proofs.search.find_value.Goals as goal

-- no item has the mark of the closure, so no read is one of it
pub returns-in_default : goal.returns-in_default
returns-in_default c = record {
  value =
      read-absent c.args.old.now c.args.rest c.args.levels c.args.closure.now.place c.args.closure.now.unit c.args.closure.now.var c.args.closure.now.args
      (rw c.in_default.is at c.in_ok-spot.ensures.found);
}

-- the place that was found is one of the items, so this does not happen
pub returns-in_default-item : goal.returns-in_default-item
returns-in_default-item c = record {
  value = found-some c.args.old.now c.args.rest c.args.levels
      (mark_of_read c.args.closure.now) c.in-Some.spot.at c.in-Some.spot.levels
      (rw c.in-Some.is at c.in_ok-spot.ensures.found) c.in_default-item.ensures.value;
}

-- the item that was found is a read of the closure, so this does not happen
pub returns-in-None : goal.returns-in-None
returns-in-None c = record {
  value = rw c.in-None.is at (read-found c.args.old.now c.args.rest c.args.levels c.args.closure.now.place
      c.args.closure.now.unit c.args.closure.now.var c.args.closure.now.args c.in-Some.spot.at c.in-Some.spot.levels
      (rw c.in-Some.is at c.in_ok-spot.ensures.found)
      c.in-Some-item.item.now (drop (c.in-Some.spot.at + 1) c.args.old.now) c.in-Some-item.ensures.value c.was_read.result c.was_read.ensures);
}

-- the earliest item with the mark of the closure is the earliest read of it
pub returns-in-Some-was_read : goal.returns-in-Some-was_read
returns-in-Some-was_read c = record {
  value = rw c.in-Some-was_read.is at
      (read-found c.args.old.now c.args.rest c.args.levels c.args.closure.now.place c.args.closure.now.unit c.args.closure.now.var c.args.closure.now.args c.in-Some.spot.at c.in-Some.spot.levels
      (rw c.in-Some.is at c.in_ok-spot.ensures.found)
      c.in-Some-item.item.now (drop (c.in-Some.spot.at + 1) c.args.old.now) c.in-Some-item.ensures.value c.was_read.result c.was_read.ensures);
}
