use Rattle.std.proofs.Common.{◌≡◌, ◌≤◌, ◌+◌, ◌-◌, length, insert, refl, arith}
use Rattle.std.proofs.lemmas.Result.{on_ok_weaker}
use Rattle.ceal_order.specs.Tree.{items_of}
use Rattle.ceal_order.proofs.TreeLemmas.{length-parts, insert-middle, insert-last}
use Rattle.ceal_order.proofs.Balance.{few_forks}
use Rattle.ceal_order.proofs.chunks.+with_item.Goals as goal

pub returns-then-index-before-2-clause-ok : goal.returns-then-index-before-2-clause-ok
returns-then-index-before-2-clause-ok g t c =
    let before = rw (c.replace-earlier.ensures.value, c.deref_mut.ensures.value) at c.count-before.ensures in
    let here = rw (c.deref.ensures, c.deref_mut-in-Fork.ensures.value, c.deref_mut.ensures.value) at c.len-here.ensures in
    let few = rw c.in-Fork.is at c.requires.few in
    let long = length-parts (items_of c.in-Fork.fork.value.earlier) c.in-Fork.fork.value.items.items (items_of c.in-Fork.fork.value.later) in
    let at : c.args.index ≡ length (items_of c.in-Fork.fork.value.earlier) + (c.args.index - c.count-before.result) = omega (arith, before, few, long, c.if-index-before.false) in
    let told = rw (c.replace-earlier.ensures.value, c.replace-later.ensures.value, c.deref_mut-in-Fork.ensures.value, c.deref_mut.ensures.value) at c.with_item_here.ensures.ok in
    let within : c.args.index - c.count-before.result ≤ length c.in-Fork.fork.value.items.items = omega (arith, here, c.if-index-before-2.true, c.in-Fork.fork.value.items.ok.0) in
    rw (c.in-Fork.is, insert-middle _ c.in-Fork.fork.value.items.items _ _ _ c.args.item at within) told

pub returns-clause-ok : goal.returns-clause-ok
returns-clause-ok g t c =
    let before = rw (c.replace-earlier.ensures.value, c.deref_mut.ensures.value) at c.count-before.ensures in
    let here = rw (c.deref.ensures, c.deref_mut-in-Fork.ensures.value, c.deref_mut.ensures.value) at c.len-here.ensures in
    let few = rw c.in-Fork.is at c.requires.few in
    let long = length-parts (items_of c.in-Fork.fork.value.earlier) c.in-Fork.fork.value.items.items (items_of c.in-Fork.fork.value.later) in
    let at : c.args.index ≡ length (items_of c.in-Fork.fork.value.earlier) + length c.in-Fork.fork.value.items.items + (c.args.index - c.count-before.result - c.len-here.result)
    = omega (arith, before, here, few, long, c.if-index-before.false, c.if-index-before-2.false, c.in-Fork.fork.value.items.ok.0) in
    let told = rw (c.replace-later.ensures.value, c.deref_mut-in-Fork.ensures.value, c.deref_mut.ensures.value) at c.with_item-later.ensures.ok in
    let made = rw (c.replace-earlier.ensures.value, c.deref_mut-in-Fork.ensures.value, c.deref_mut.ensures.value) at c.joined-in-Fork.ensures.items in
    rw (c.in-Fork.is, made, insert-last _ c.in-Fork.fork.value.items.items _ _ _ c.args.item at)
    (on_ok_weaker {P = items_of c.with_item-later.result.0 ≡ insert (items_of c.in-Fork.fork.value.later)
    (c.args.index - c.count-before.result - c.len-here.result) c.args.item} c.with_item-later.result.1
    (λ same. rw same refl) told)

pub joined-requires-clause-few : goal.joined-requires-clause-few
joined-requires-clause-few g t c =
    let forks = rw c.in-Fork.is at (few_forks c.args.tree c.requires.balanced) in
    let few = rw c.in-Fork.is at c.requires.few in
    let more = rw (c.replace-earlier.ensures.value, c.deref_mut.ensures.value) at c.with_item-earlier.ensures.forks in
    rw (c.replace-later.ensures.value, c.deref_mut-in-Fork.ensures.value, c.deref_mut.ensures.value) (omega (arith, forks, few, more))

pub with_item_here-requires-clause-few : goal.with_item_here-requires-clause-few
with_item_here-requires-clause-few g t c =
    let forks = rw c.in-Fork.is at (few_forks c.args.tree c.requires.balanced) in
    let few = rw c.in-Fork.is at c.requires.few in
    rw (c.replace-earlier.ensures.value, c.replace-later.ensures.value, c.deref_mut-in-Fork.ensures.value, c.deref_mut.ensures.value) (omega (arith, forks, few))

pub joined-requires-in-Fork-clause-few : goal.joined-requires-in-Fork-clause-few
joined-requires-in-Fork-clause-few g t c =
    let forks = rw c.in-Fork.is at (few_forks c.args.tree c.requires.balanced) in
    let few = rw c.in-Fork.is at c.requires.few in
    let more = rw (c.replace-later.ensures.value, c.deref_mut-in-Fork.ensures.value, c.deref_mut.ensures.value) at c.with_item-later.ensures.forks in
    rw (c.replace-earlier.ensures.value, c.deref_mut.ensures.value) (omega (arith, forks, few, more))
