use Rattle.ceal_adjust.proofs.MarkSteps.{places-add}
use Rattle.ceal_adjust.proofs.places.Places.add.Goals as goal

-- the list of this mark gets the place at its end, and other marks keep theirs
pub returns : goal.returns
returns c = record {
  added = places-add c.args.self.now c.take-places.new.self (record { table = c.insert.new.self }) c.args.mark c.take-places.result c.push.new.self c.args.at
      c.take-places.ensures.taken c.in_ok-push.ensures.ok c.take-places.ensures.others c.in_ok-insert.ensures.updates.0;
}
