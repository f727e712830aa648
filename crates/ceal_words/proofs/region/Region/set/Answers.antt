use Rattle.std.proofs.Common.{◌≡◌, List, IsSome, set, sym, subst}
use Rattle.ceal_words.specs.SizeClass.{SizeClass, changed, with_word}
use Rattle.ceal_words.specs.Region.{words_of, KeepsOthers, KeepsSpares}
use Rattle.ceal_words.proofs.RegionLemmas.{has_words, set_word, set_words, set_spares}
use Rattle.ceal_words.proofs.region.Region.set.Goals as goal

pub returns-clause-word : goal.returns-clause-word
returns-clause-word c =
    let region = c.self.inside.pools.items in let slot = c.args.slot.now in
    let some = subst (λ (r : List SizeClass). IsSome (words_of r slot)) (sym c.self.view_is) (has_words c.args.self.now slot c.args.index c.requires) in
    rw c.set.ensures (subst (λ (r : List SizeClass). words_of (set region slot.chunk (with_word slot.at c.args.index c.args.value c.index_mut-pool.result.now)) slot
    ≡ changed (words_of r slot) c.args.index c.args.value) c.self.view_is
    (set_word region slot some c.index_mut-pool.result.now c.index_mut-pool.ensures.value c.args.index c.args.value))

pub returns-clause-words : goal.returns-clause-words
returns-clause-words c =
    let region = c.self.inside.pools.items in let slot = c.args.slot.now in
    let some = subst (λ (r : List SizeClass). IsSome (words_of r slot)) (sym c.self.view_is) (has_words c.args.self.now slot c.args.index c.requires) in
    rw c.set.ensures (subst (λ (r : List SizeClass). KeepsOthers slot r (set region slot.chunk (with_word slot.at c.args.index c.args.value c.index_mut-pool.result.now))) c.self.view_is
    (set_words region slot some c.index_mut-pool.result.now c.index_mut-pool.ensures.value c.args.index c.args.value))

pub returns-clause-spare : goal.returns-clause-spare
returns-clause-spare c =
    let region = c.self.inside.pools.items in let slot = c.args.slot.now in
    let some = subst (λ (r : List SizeClass). IsSome (words_of r slot)) (sym c.self.view_is) (has_words c.args.self.now slot c.args.index c.requires) in
    rw c.set.ensures (subst (λ (r : List SizeClass). KeepsSpares r (set region slot.chunk (with_word slot.at c.args.index c.args.value c.index_mut-pool.result.now))) c.self.view_is
    (set_spares region slot some c.index_mut-pool.result.now c.index_mut-pool.ensures.value c.args.index c.args.value))
