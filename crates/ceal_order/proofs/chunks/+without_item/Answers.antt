use Rattle.std.proofs.Common.{◌≡◌, ◌<◌, ◌+◌, ◌-◌, ◌++◌, length, sym, ap, ◌∙◌, arith}
use Rattle.ceal_order.specs.Tree.{items_of}
use Rattle.ceal_order.proofs.TreeLemmas.{length-parts, remove-early, remove-middle, remove-last, remove-fork}
use Rattle.ceal_order.proofs.Balance.{few_forks}
use Rattle.ceal_order.proofs.chunks.+without_item.Goals as goal

pub returns-then-here-eq1-clause-items : goal.returns-then-here-eq1-clause-items
returns-then-here-eq1-clause-items g t c =
    let before = rw (c.replace-earlier.ensures.value, c.deref_mut.ensures.value) at c.count-before.ensures in
    let here = rw (c.deref.ensures, c.deref_mut-in-Fork.ensures.value, c.deref_mut.ensures.value) at c.len-here.ensures in
    let few = rw c.in-Fork.is at c.requires.few in
    let long = length-parts (items_of c.in-Fork.fork.value.earlier) c.in-Fork.fork.value.items.items (items_of c.in-Fork.fork.value.later) in
    let at : c.args.index ≡ length (items_of c.in-Fork.fork.value.earlier) + (c.args.index - c.count-before.result) = omega (arith, before, few, long, c.if-index-before.false) in
    let made = rw (c.replace-earlier.ensures.value, c.replace-later.ensures.value, c.deref_mut-in-Fork.ensures.value, c.deref_mut.ensures.value) at c.merged.ensures.items in
    rw c.in-Fork.is (made ∙ sym (remove-fork _ c.in-Fork.fork.value.items.items _ _ _ at
    (omega (arith, here, c.if-index-before-2.true, c.in-Fork.fork.value.items.ok.0))
    (omega (arith, here, c.if-here-eq1.true, c.in-Fork.fork.value.items.ok.0))))

pub returns-then-index-before-2-clause-items : goal.returns-then-index-before-2-clause-items
returns-then-index-before-2-clause-items g t c =
    let before = rw (c.replace-earlier.ensures.value, c.deref_mut.ensures.value) at c.count-before.ensures in
    let here = rw (c.deref.ensures, c.deref_mut-in-Fork.ensures.value, c.deref_mut.ensures.value) at c.len-here.ensures in
    let few = rw c.in-Fork.is at c.requires.few in
    let long = length-parts (items_of c.in-Fork.fork.value.earlier) c.in-Fork.fork.value.items.items (items_of c.in-Fork.fork.value.later) in
    let at : c.args.index ≡ length (items_of c.in-Fork.fork.value.earlier) + (c.args.index - c.count-before.result) = omega (arith, before, few, long, c.if-index-before.false) in
    let less = rw c.remove.ensures.items at c.filled.ensures.items in
    let made = rw (
      c.deref_mut-then-index-before-2.ensures.value,
      c.replace-earlier.ensures.value,
      c.replace-later.ensures.value,
      c.deref_mut-in-Fork.ensures.value,
      c.deref_mut.ensures.value,
    ) at less in
    rw c.in-Fork.is (made ∙ sym (remove-middle _ _ _ _ _ at (omega (arith, here, c.if-index-before-2.true, c.in-Fork.fork.value.items.ok.0))))

pub returns-clause-items : goal.returns-clause-items
returns-clause-items g t c =
    let before = rw (c.replace-earlier.ensures.value, c.deref_mut.ensures.value) at c.count-before.ensures in
    let here = rw (c.deref.ensures, c.deref_mut-in-Fork.ensures.value, c.deref_mut.ensures.value) at c.len-here.ensures in
    let few = rw c.in-Fork.is at c.requires.few in
    let long = length-parts (items_of c.in-Fork.fork.value.earlier) c.in-Fork.fork.value.items.items (items_of c.in-Fork.fork.value.later) in
    let at : c.args.index ≡ length (items_of c.in-Fork.fork.value.earlier) + length c.in-Fork.fork.value.items.items + (c.args.index - c.count-before.result - c.len-here.result)
    = omega (arith, before, here, few, long, c.if-index-before.false, c.if-index-before-2.false, c.in-Fork.fork.value.items.ok.0) in
    let told = rw (c.replace-later.ensures.value, c.deref_mut-in-Fork.ensures.value, c.deref_mut.ensures.value) at c.without_item-later.ensures.items in
    let made = rw (c.replace-earlier.ensures.value, c.deref_mut-in-Fork.ensures.value, c.deref_mut.ensures.value) at c.joined-in-Fork.ensures.items in
    rw c.in-Fork.is (made ∙ (ap (λ l. items_of c.in-Fork.fork.value.earlier ++ c.in-Fork.fork.value.items.items ++ l) told ∙ sym (remove-last _ _ _ _ _ at)))

pub returns-then-index-before-clause-items : goal.returns-then-index-before-clause-items
returns-then-index-before-clause-items g t c =
    let before = rw (c.replace-earlier.ensures.value, c.deref_mut.ensures.value) at c.count-before.ensures in
    let at : c.args.index < length (items_of c.in-Fork.fork.value.earlier) = omega (arith, before, c.if-index-before.true) in
    let told = rw (c.replace-earlier.ensures.value, c.deref_mut.ensures.value) at c.without_item-earlier.ensures.items in
    let made = rw (c.replace-later.ensures.value, c.deref_mut-in-Fork.ensures.value, c.deref_mut.ensures.value) at c.joined.ensures.items in
    rw c.in-Fork.is (made ∙ (ap (λ l. l ++ c.in-Fork.fork.value.items.items ++ items_of c.in-Fork.fork.value.later) told ∙ sym (remove-early _ _ _ _ at)))

pub joined-requires-clause-few : goal.joined-requires-clause-few
joined-requires-clause-few g t c =
    let forks = rw c.in-Fork.is at (few_forks c.args.tree c.requires.balanced) in
    let few = rw c.in-Fork.is at c.requires.few in
    let less = rw (c.replace-earlier.ensures.value, c.deref_mut.ensures.value) at c.without_item-earlier.ensures.forks in
    rw (c.replace-later.ensures.value, c.deref_mut-in-Fork.ensures.value, c.deref_mut.ensures.value) (omega (arith, forks, few, less))

pub merged-requires-clause-few : goal.merged-requires-clause-few
merged-requires-clause-few g t c =
    let forks = rw c.in-Fork.is at (few_forks c.args.tree c.requires.balanced) in
    let few = rw c.in-Fork.is at c.requires.few in
    rw (c.replace-earlier.ensures.value, c.replace-later.ensures.value, c.deref_mut-in-Fork.ensures.value, c.deref_mut.ensures.value) (omega (arith, forks, few))

pub filled-requires-clause-few : goal.filled-requires-clause-few
filled-requires-clause-few g t c =
    let forks = rw c.in-Fork.is at (few_forks c.args.tree c.requires.balanced) in
    let few = rw c.in-Fork.is at c.requires.few in
    rw (c.replace-earlier.ensures.value, c.replace-later.ensures.value, c.deref_mut-in-Fork.ensures.value, c.deref_mut.ensures.value) (omega (arith, forks, few))

pub returns-then-in_next-clause-items : goal.returns-then-in_next-clause-items
returns-then-in_next-clause-items g t c =
    let before = rw (c.replace-earlier.ensures.value, c.deref_mut.ensures.value) at c.count-before.ensures in
    let here = rw (c.deref.ensures, c.deref_mut-in-Fork.ensures.value, c.deref_mut.ensures.value) at c.len-here.ensures in
    let few = rw c.in-Fork.is at c.requires.few in
    let long = length-parts (items_of c.in-Fork.fork.value.earlier) c.in-Fork.fork.value.items.items (items_of c.in-Fork.fork.value.later) in
    let at : c.args.index ≡ length (items_of c.in-Fork.fork.value.earlier) + length c.in-Fork.fork.value.items.items + (c.args.index - c.count-before.result - c.len-here.result)
    = omega (arith, before, here, few, long, c.if-index-before.false, c.if-index-before-2.false, c.in-Fork.fork.value.items.ok.0) in
    let told = rw (c.replace-later.ensures.value, c.deref_mut-in-Fork.ensures.value, c.deref_mut.ensures.value) at c.without_item-later.ensures.items in
    let made = rw (c.replace-earlier.ensures.value, c.deref_mut-in-Fork.ensures.value, c.deref_mut.ensures.value) at c.filled-then-in_next.ensures.items in
    rw c.in-Fork.is (made ∙ (ap (λ l. items_of c.in-Fork.fork.value.earlier ++ c.in-Fork.fork.value.items.items ++ l) told ∙ sym (remove-last _ _ _ _ _ at)))

pub filled-requires-then-in_next-clause-few : goal.filled-requires-then-in_next-clause-few
filled-requires-then-in_next-clause-few g t c =
    let forks = rw c.in-Fork.is at (few_forks c.args.tree c.requires.balanced) in
    let few = rw c.in-Fork.is at c.requires.few in
    let less = rw (c.replace-later.ensures.value, c.deref_mut-in-Fork.ensures.value, c.deref_mut.ensures.value) at c.without_item-later.ensures.forks in
    rw (c.replace-earlier.ensures.value, c.deref_mut.ensures.value) (omega (arith, forks, few, less))

pub joined-requires-in-Fork-clause-few : goal.joined-requires-in-Fork-clause-few
joined-requires-in-Fork-clause-few g t c =
    let forks = rw c.in-Fork.is at (few_forks c.args.tree c.requires.balanced) in
    let few = rw c.in-Fork.is at c.requires.few in
    let less = rw (c.replace-later.ensures.value, c.deref_mut-in-Fork.ensures.value, c.deref_mut.ensures.value) at c.without_item-later.ensures.forks in
    rw (c.replace-earlier.ensures.value, c.deref_mut.ensures.value) (omega (arith, forks, few, less))
