use Rattle.std.proofs.Common.{arith, length-append}
use Rattle.ceal_order.specs.Rising.{numbers}
use Rattle.ceal_order.specs.Tree.{items_of}
use Rattle.ceal_order.proofs.Searching.{length-numbers, count_append, count_all, rising_front, rising_back}
use Rattle.ceal_order.proofs.Editing.{numbers-append}
use Rattle.ceal_order.proofs.sequence.Sequence+Stamp.count_before.Goals as goal

pub before_in_chunk-last-requires-clause-rising : goal.before_in_chunk-last-requires-clause-rising
before_in_chunk-last-requires-clause-rising c =
    let apart = numbers-append (items_of c.self.inside.front) c.self.inside.last.items in
    let rising = rw apart at (rw (← c.self.view_is) at c.requires.rising) in
    rw c.deref.ensures.value (rising_back c.args.order.now.stamps (numbers (items_of c.self.inside.front)) (numbers c.self.inside.last.items) rising)

pub returns-then-last-gt0 : goal.returns-then-last-gt0
returns-then-last-gt0 c =
    let apart = numbers-append (items_of c.self.inside.front) c.self.inside.last.items in
    let rising = rw apart at (rw (← c.self.view_is) at c.requires.rising) in
    let here = rw c.deref.ensures.value at c.before_in_chunk-last.ensures.count in
    let sum = count_append c.args.order.now.stamps c.args.stamp.0 (numbers (items_of c.self.inside.front)) (numbers c.self.inside.last.items) in
    let all = count_all c.args.order.now.stamps c.args.stamp.0 (numbers (items_of c.self.inside.front)) (numbers c.self.inside.last.items) rising (omega (arith, here, c.if-last-gt0.true)) in
    let long = length-append (items_of c.self.inside.front) c.self.inside.last.items in
    rw (← c.self.view_is, apart) (omega (arith, sum, here, all, c.count.ensures, c.self.invariant.few, long, length-numbers (items_of c.self.inside.front)))

pub before_in_tree-requires-clause-rising : goal.before_in_tree-requires-clause-rising
before_in_tree-requires-clause-rising c =
    let apart = numbers-append (items_of c.self.inside.front) c.self.inside.last.items in
    let rising = rw apart at (rw (← c.self.view_is) at c.requires.rising) in
    rising_front c.args.order.now.stamps (numbers (items_of c.self.inside.front)) (numbers c.self.inside.last.items) rising

pub returns : goal.returns
returns c =
    let apart = numbers-append (items_of c.self.inside.front) c.self.inside.last.items in
    let here = rw c.deref.ensures.value at c.before_in_chunk-last.ensures.count in
    let sum = count_append c.args.order.now.stamps c.args.stamp.0 (numbers (items_of c.self.inside.front)) (numbers c.self.inside.last.items) in
    rw (← c.self.view_is, apart) (omega (arith, sum, here, c.before_in_tree.ensures, c.if-last-gt0.false))
