use Rattle.std.proofs.Common.{arith}
use Rattle.std.proofs.lemmas.List.Edits.{length-insert}
use Rattle.ceal_order.specs.Rising.{numbers}
use Rattle.ceal_order.proofs.Searching.{length-numbers}
use Rattle.ceal_order.proofs.Editing.{numbers-insert, rising_insert}
use Rattle.ceal_queue.proofs.QueueLemmas.{is_with}
use Rattle.ceal_queue.proofs.stale.Stale.push.Goals as goal

pub returns-in-Err-clause-with : goal.returns-in-Err-clause-with
returns-in-Err-clause-with c = rw (c.insert.ensures.items, numbers-insert, ← c.self.view_is) (is_with _ _ _)

pub returns-in-Err-clause-more : goal.returns-in-Err-clause-more
returns-in-Err-clause-more c = λ absent.
    let long = length-insert (numbers c.self.inside.stamps.items) c.in-Err.at c.args.stamp.0 (omega (arith, c.in-Err.ensures.within, length-numbers c.self.inside.stamps.items)) in
    rw (c.insert.ensures.items, numbers-insert, ← c.self.view_is) long

pub returns-in-Err-clause-follows : goal.returns-in-Err-clause-follows
returns-in-Err-clause-follows c =
    let rising = rw (← c.self.view_is) at c.requires.follows in
    rw (c.insert.ensures.items, numbers-insert, c.in-Err.ensures.before) (rising_insert _ _ _ c.requires.here rising c.in-Err.ensures.absent)
