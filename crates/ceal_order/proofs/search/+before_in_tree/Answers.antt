use Rattle.std.proofs.Common.{arith}
use Rattle.ceal_order.specs.Tree.{items_of}
use Rattle.ceal_order.proofs.TreeLemmas.{length-parts}
use Rattle.ceal_order.proofs.Searching.{count_within}
use Rattle.ceal_order.proofs.Parts.{rise_earlier, rise_here, rise_later, count_parts, all_earlier, none_later}
use Rattle.ceal_order.proofs.search.+before_in_tree.Goals as goal

pub before_in_chunk-here-requires-clause-rising : goal.before_in_chunk-here-requires-clause-rising
before_in_chunk-here-requires-clause-rising t c =
    let rising = rw c.in-Fork.is at c.requires.rising in
    rw (c.deref-in-Fork.ensures.value, c.deref.ensures) (rise_here _ _ _ _ rising)

pub before_in_tree-requires : goal.before_in_tree-requires
before_in_tree-requires t c =
    let size = rw c.in-Fork.is at c.decreases in
    let counted = rw c.in-Fork.is at c.requires.counted in
    let balanced = rw c.in-Fork.is at c.requires.balanced in
    let rising = rw c.in-Fork.is at c.requires.rising in
    let few = rw c.in-Fork.is at c.requires.few in
    let long = length-parts (items_of c.in-Fork.fork.value.earlier) c.in-Fork.fork.value.items.items (items_of c.in-Fork.fork.value.later) in
    rw c.deref-then-here-eq0.ensures (omega (arith, size), (c.requires.here, (rise_earlier _ _ _ _ rising, (counted.1, (balanced.3, omega (arith, few, long))))))

pub returns-then-here-eq0 : goal.returns-then-here-eq0
returns-then-here-eq0 t c =
    let balanced = rw c.in-Fork.is at c.requires.balanced in
    let rising = rw c.in-Fork.is at c.requires.rising in
    let sum = count_parts c.args.order.now.stamps (items_of c.in-Fork.fork.value.earlier) c.in-Fork.fork.value.items.items (items_of c.in-Fork.fork.value.later) c.args.stamp.0 in
    let here = rw (c.deref-in-Fork.ensures.value, c.deref.ensures) at c.before_in_chunk-here.ensures.count in
    let none = none_later c.args.order.now.stamps
    (items_of c.in-Fork.fork.value.earlier) c.in-Fork.fork.value.items.items
    (items_of c.in-Fork.fork.value.later) rising c.args.stamp.0
    (omega (arith, here, balanced.0.0, c.if-here-eq0.true)) in
    let found = rw c.deref-then-here-eq0.ensures at c.before_in_tree.ensures in
    rw c.in-Fork.is (omega (arith, sum, here, none, found, c.if-here-eq0.true))

pub returns-then-here-len : goal.returns-then-here-len
returns-then-here-len t c =
    let rising = rw c.in-Fork.is at c.requires.rising in
    let few = rw c.in-Fork.is at c.requires.few in
    let long = length-parts (items_of c.in-Fork.fork.value.earlier) c.in-Fork.fork.value.items.items (items_of c.in-Fork.fork.value.later) in
    let sum = count_parts c.args.order.now.stamps (items_of c.in-Fork.fork.value.earlier) c.in-Fork.fork.value.items.items (items_of c.in-Fork.fork.value.later) c.args.stamp.0 in
    let here = rw (c.deref-in-Fork.ensures.value, c.deref.ensures) at c.before_in_chunk-here.ensures.count in
    let size = rw c.deref-in-Fork-3.ensures at c.len.ensures in
    let ok = c.in-Fork.fork.value.items.ok.0 in
    let none = none_later c.args.order.now.stamps
    (items_of c.in-Fork.fork.value.earlier) c.in-Fork.fork.value.items.items
    (items_of c.in-Fork.fork.value.later) rising c.args.stamp.0
    (omega (arith, here, size, ok, c.if-here-len.true)) in
    let all = all_earlier c.args.order.now.stamps
    (items_of c.in-Fork.fork.value.earlier) c.in-Fork.fork.value.items.items
    (items_of c.in-Fork.fork.value.later) rising c.args.stamp.0 (omega (arith, here, c.if-here-eq0.false)) in
    let found = rw c.deref-in-Fork-2.ensures at c.count.ensures in
    rw c.in-Fork.is (omega (arith, sum, here, none, all, found, few, long))

pub before_in_tree-requires-in-Fork : goal.before_in_tree-requires-in-Fork
before_in_tree-requires-in-Fork t c =
    let size = rw c.in-Fork.is at c.decreases in
    let counted = rw c.in-Fork.is at c.requires.counted in
    let balanced = rw c.in-Fork.is at c.requires.balanced in
    let rising = rw c.in-Fork.is at c.requires.rising in
    let few = rw c.in-Fork.is at c.requires.few in
    let long = length-parts (items_of c.in-Fork.fork.value.earlier) c.in-Fork.fork.value.items.items (items_of c.in-Fork.fork.value.later) in
    rw c.deref-in-Fork-4.ensures (
      omega (arith, size),
      (
        c.requires.here,
        (
          rise_later c.args.order.now.stamps
              (items_of c.in-Fork.fork.value.earlier) c.in-Fork.fork.value.items.items _ rising,
          (counted.2, (balanced.4, omega (arith, few, long))),
        ),
      ),
    )

pub overflow_add-result : goal.overflow_add-result
overflow_add-result t c =
    let few = rw c.in-Fork.is at c.requires.few in
    let long = length-parts (items_of c.in-Fork.fork.value.earlier) c.in-Fork.fork.value.items.items (items_of c.in-Fork.fork.value.later) in
    let here = rw (c.deref-in-Fork.ensures.value, c.deref.ensures) at c.before_in_chunk-here.ensures.count in
    let behind = rw c.deref-in-Fork-4.ensures at c.before_in_tree-in-Fork.ensures in
    let in_later = count_within c.args.order.now.stamps c.args.stamp.0 (items_of c.in-Fork.fork.value.later) in
    let in_here = count_within c.args.order.now.stamps c.args.stamp.0 c.in-Fork.fork.value.items.items in
    let found = rw c.deref-in-Fork-2.ensures at c.count.ensures in
    omega (arith, found, here, behind, in_here, in_later, few, long)

pub returns-else-here-len : goal.returns-else-here-len
returns-else-here-len t c =
    let rising = rw c.in-Fork.is at c.requires.rising in
    let few = rw c.in-Fork.is at c.requires.few in
    let long = length-parts (items_of c.in-Fork.fork.value.earlier) c.in-Fork.fork.value.items.items (items_of c.in-Fork.fork.value.later) in
    let sum = count_parts c.args.order.now.stamps (items_of c.in-Fork.fork.value.earlier) c.in-Fork.fork.value.items.items (items_of c.in-Fork.fork.value.later) c.args.stamp.0 in
    let here = rw (c.deref-in-Fork.ensures.value, c.deref.ensures) at c.before_in_chunk-here.ensures.count in
    let behind = rw c.deref-in-Fork-4.ensures at c.before_in_tree-in-Fork.ensures in
    let all = all_earlier c.args.order.now.stamps
    (items_of c.in-Fork.fork.value.earlier) c.in-Fork.fork.value.items.items
    (items_of c.in-Fork.fork.value.later) rising c.args.stamp.0 (omega (arith, here, c.if-here-eq0.false)) in
    let found = rw c.deref-in-Fork-2.ensures at c.count.ensures in
    rw c.in-Fork.is (omega (arith, sum, here, found, behind, all, few, long))
