use Rattle.std.proofs.Common.{◌≡◌, arith}
use Rattle.ceal_order.specs.Rising.{numbers}
use Rattle.ceal_order.specs.Stamps.{without}
use Rattle.ceal_order.proofs.Editing.{numbers-remove, remove_place, rising_without}
use Rattle.ceal_queue.proofs.QueueLemmas.{is_without, length-without}
use Rattle.ceal_queue.proofs.stale.Stale.remove.Goals as goal

left : (c : goal.After-self-1) → numbers c.remove.new.self.items ≡ without c.args.stamp.0 (numbers c.self.inside.stamps.items)
left c = rw (c.remove.ensures.items, numbers-remove, c.in-Ok.ensures.place) (remove_place c.args.stamp.0 (numbers c.self.inside.stamps.items) c.in-Ok.ensures.there)

pub returns-in-Ok-clause-without : goal.returns-in-Ok-clause-without
returns-in-Ok-clause-without c =
    rw (left c, ← c.self.view_is) (is_without c.args.order.now.stamps _ _ (rw (← c.self.view_is) at c.requires.follows))

pub returns-in-Ok-clause-follows : goal.returns-in-Ok-clause-follows
returns-in-Ok-clause-follows c =
    rw (left c) (rising_without _ _ _ (rw (← c.self.view_is) at c.requires.follows))

pub returns-in-Ok-clause-fewer : goal.returns-in-Ok-clause-fewer
returns-in-Ok-clause-fewer c = λ i.
    let long = length-without c.args.stamp.0 (numbers c.self.inside.stamps.items) c.in-Ok.ensures.there in
    rw (left c, ← c.self.view_is) (omega (arith, long))
