use Rattle.ceal_memo.proofs.Taking.{stamps_less, follows_less, none_still, none_less, memo_unchanged, kept_less}
use Rattle.ceal_memo.proofs.Looking.{rising_list}
use Rattle.ceal_memo.proofs.table.Table.remove.Goals as goal

pub forget-requires-clause-rising : goal.forget-requires-clause-rising
forget-requires-clause-rising c =
    let follows = rw (← c.self.view_is) at c.requires.follows in
    rising_list c.self.inside.lists c.self.invariant.unique c.args.order.now.stamps follows.rising

pub invariant_of-self : goal.invariant_of-self
invariant_of-self c =
    kept_less c.args.stamp.0 (record { lists = c.self.inside.lists }) (record { lists = c.forget.new.lists }) c.forget.ensures
    c.self.inside.homes c.self.invariant c.take-home.new.self c.take-home.ensures.gone

pub returns-clause-stamps : goal.returns-clause-stamps
returns-clause-stamps c = rw (← c.self.view_is)
    (stamps_less c.args.stamp.0 (record { lists = c.self.inside.lists }) (record { lists = c.forget.new.lists }) c.forget.ensures c.self.inside.homes c.self.invariant)

pub returns-clause-gone : goal.returns-clause-gone
returns-clause-gone c =
    none_less c.args.stamp.0 (record { lists = c.self.inside.lists }) (record { lists = c.forget.new.lists }) c.forget.ensures
    c.self.inside.homes c.self.invariant

pub returns-clause-absent : goal.returns-clause-absent
returns-clause-absent c = λ none. rw (← c.self.view_is) (
    memo_unchanged c.args.stamp.0 (record { lists = c.self.inside.lists }) (record { lists = c.forget.new.lists }) c.forget.ensures
    c.self.inside.homes c.self.invariant (rw (← c.self.view_is) at none))

pub returns-clause-others : goal.returns-clause-others
returns-clause-others c = λ t absent.
    none_still c.args.stamp.0 (record { lists = c.self.inside.lists }) (record { lists = c.forget.new.lists }) c.forget.ensures
    c.self.inside.homes c.self.invariant t (rw (← c.self.view_is) at absent)

pub returns-clause-follows : goal.returns-clause-follows
returns-clause-follows c = λ order follows.
    follows_less c.args.stamp.0 (record { lists = c.self.inside.lists }) (record { lists = c.forget.new.lists }) c.forget.ensures
    c.self.inside.homes c.self.invariant order (rw (← c.self.view_is) at follows)
