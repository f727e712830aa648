use Rattle.ceal_adjust.proofs.MarkSteps.{lists-in, searched-ok, searched-err}
use Rattle.ceal_adjust.specs.Places.{listed}
use Rattle.ceal_adjust.proofs.old.Old.next.Goals as goal

-- the place itself is in the ascending list of the mark
pub returns-in-Ok : goal.returns-in-Ok
returns-in-Ok c = record {
  next = searched-ok c.args.self.now c.args.mark.now c.args.from c.of-places.result.now
      (lists-in c.args.self.now c.self.inside.items.now c.args.mark.now c.of-places.result.now
      (listed c.self.inside.table c.args.mark.now) c.self.view_is c.of-places.ensures.value
      (c.self.invariant.1 c.args.mark.now))
      c.in-Ok.field-0 c.binary_search.result c.binary_search.ensures.position c.in-Ok.is;
}

-- the place is not in the list: the next one in it is the first after the place
pub returns-in-Err : goal.returns-in-Err
returns-in-Err c = record {
  next = searched-err c.args.self.now c.args.mark.now c.args.from c.of-places.result.now
      (lists-in c.args.self.now c.self.inside.items.now c.args.mark.now c.of-places.result.now
      (listed c.self.inside.table c.args.mark.now) c.self.view_is c.of-places.ensures.value
      (c.self.invariant.1 c.args.mark.now))
      c.in-Err.i c.binary_search.result c.binary_search.ensures.position c.in-Err.is c.place_at.result c.place_at.ensures;
}
