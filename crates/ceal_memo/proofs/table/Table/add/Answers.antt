use Rattle.ceal_memo.proofs.Adding.{kept_same, added, follows_more, still_none, kept_more}
use Rattle.ceal_memo.proofs.table.Table.add.Goals as goal

pub put-requires-clause-rising : goal.put-requires-clause-rising
put-requires-clause-rising c = (rw (← c.self.view_is) at c.requires.follows).rising c.args.hash

pub put-requires-clause-absent : goal.put-requires-clause-absent
put-requires-clause-absent c = (rw (← c.self.view_is) at c.requires.absent).none c.args.hash

pub invariant_of-self-2 : goal.invariant_of-self-2
invariant_of-self-2 c =
    kept_more c.args.order.now.stamps c.args.stamp.0 c.self.inside.lists c.make_room.new.self c.requires.here (rw (← c.self.view_is) at c.requires.follows)
    (rw (← c.self.view_is) at c.requires.absent) (kept_same (record { lists = c.self.inside.lists }) c.self.inside.homes c.make_room.new.self c.make_room.ensures.same c.self.invariant)
    c.put.new.self c.args.hash c.in_ok-number.number c.in_ok-number.ensures.ok
    c.settle.new.self c.settle.ensures

pub returns-clause-ok : goal.returns-clause-ok
returns-clause-ok c =
    rw (← c.self.view_is) (added c.args.order.now.stamps c.args.stamp.0 c.self.inside.lists c.make_room.new.self c.requires.here (rw (← c.self.view_is) at c.requires.follows)
    (rw (← c.self.view_is) at c.requires.absent) (kept_same (record { lists = c.self.inside.lists }) c.self.inside.homes c.make_room.new.self c.make_room.ensures.same c.self.invariant)
    c.put.new.self c.args.hash c.in_ok-number.number c.in_ok-number.ensures.ok)

pub returns-clause-follows : goal.returns-clause-follows
returns-clause-follows c =
    follows_more c.args.order.now.stamps c.args.stamp.0 c.self.inside.lists c.make_room.new.self c.requires.here (rw (← c.self.view_is) at c.requires.follows)
    (rw (← c.self.view_is) at c.requires.absent) (kept_same (record { lists = c.self.inside.lists }) c.self.inside.homes c.make_room.new.self c.make_room.ensures.same c.self.invariant)
    c.put.new.self c.args.hash c.in_ok-number.number c.in_ok-number.ensures.ok

pub returns-clause-others : goal.returns-clause-others
returns-clause-others c = λ t other absent.
    still_none c.args.order.now.stamps c.args.stamp.0 c.self.inside.lists c.make_room.new.self c.requires.here (rw (← c.self.view_is) at c.requires.follows)
    (rw (← c.self.view_is) at c.requires.absent) (kept_same (record { lists = c.self.inside.lists }) c.self.inside.homes c.make_room.new.self c.make_room.ensures.same c.self.invariant)
    c.put.new.self c.args.hash c.in_ok-number.number c.in_ok-number.ensures.ok
    t other (rw (← c.self.view_is) at absent)
