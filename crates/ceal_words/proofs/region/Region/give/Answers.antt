use Rattle.std.proofs.Common.{◌≡◌, ◌+◌, List, IsSome, set, sym, subst}
use Rattle.ceal_words.specs.SizeClass.{SizeClass, given}
use Rattle.ceal_words.specs.Region.{words_of, spare, slot_len, KeepsOthers, KeepsOtherSpares}
use Rattle.ceal_words.proofs.RegionLemmas.{class_of_slot, given_out, given_words, given_raises, given_others}
use Rattle.ceal_words.proofs.region.Region.give.Goals as goal

pub returns-clause-out : goal.returns-clause-out
returns-clause-out c =
    let region = c.self.inside.pools.items in let some = subst (λ (r : List SizeClass). IsSome (words_of r c.args.slot)) (sym c.self.view_is) c.requires in
    rw c.give.ensures.given (given_out region c.args.slot some c.index_mut-pool.result.now c.index_mut-pool.ensures.value)

pub returns-clause-words : goal.returns-clause-words
returns-clause-words c =
    let region = c.self.inside.pools.items in let some = subst (λ (r : List SizeClass). IsSome (words_of r c.args.slot)) (sym c.self.view_is) c.requires in
    rw c.give.ensures.given (subst (λ (r : List SizeClass). KeepsOthers c.args.slot r (set region c.args.slot.chunk (given c.args.slot.at c.index_mut-pool.result.now))) c.self.view_is
    (given_words region c.args.slot some c.index_mut-pool.result.now c.index_mut-pool.ensures.value))

pub returns-clause-raises : goal.returns-clause-raises
returns-clause-raises c =
    let region = c.self.inside.pools.items in let some = subst (λ (r : List SizeClass). IsSome (words_of r c.args.slot)) (sym c.self.view_is) c.requires in
    let class = c.index_mut-pool.result.now in
    let e = class_of_slot region c.args.slot some class c.index_mut-pool.ensures.value c.self.invariant c.give.ensures.length in
    rw c.give.ensures.given (subst (λ (r : List SizeClass). spare (set region c.args.slot.chunk (given c.args.slot.at c.index_mut-pool.result.now)) (slot_len c.args.slot)
    ≡ spare r (slot_len c.args.slot) + 1) c.self.view_is
    (given_raises region c.args.slot some class c.index_mut-pool.ensures.value e))

pub returns-clause-others : goal.returns-clause-others
returns-clause-others c =
    let region = c.self.inside.pools.items in let some = subst (λ (r : List SizeClass). IsSome (words_of r c.args.slot)) (sym c.self.view_is) c.requires in
    let class = c.index_mut-pool.result.now in
    let e = class_of_slot region c.args.slot some class c.index_mut-pool.ensures.value c.self.invariant c.give.ensures.length in
    rw c.give.ensures.given (subst (λ (r : List SizeClass). KeepsOtherSpares (slot_len c.args.slot) r (set region c.args.slot.chunk (given c.args.slot.at c.index_mut-pool.result.now))) c.self.view_is
    (given_others region c.args.slot some class c.index_mut-pool.ensures.value e))
