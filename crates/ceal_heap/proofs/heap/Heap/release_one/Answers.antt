use Rattle.std.proofs.Common.{◌≡◌, sym, subst, List, IsSome, None}
use Rattle.ceal_words.specs.Region.{words_of, KeepsOthers}
use Rattle.ceal_words.specs.declared.slot.Slot.{Slot}
use Rattle.ceal_heap.specs.Heap.{Contents, HasSlots, standing, released}
use Rattle.ceal_heap.specs.Table.{NoneRevoked}
use Rattle.ceal_heap.specs.declared.number.Number.{Number}
use Rattle.ceal_heap.proofs.HeapLemmas.{slots_of, all_stay, release_slot, release_kept, release_each, release_fewer, release_count}
use Rattle.ceal_heap.proofs.heap.Heap.release_one.Goals as goal

pub give-requires : goal.give-requires
give-requires c =
    let v = c.self.inside in
    subst (λ (s : Slot). IsSome (words_of v.pieces s)) (sym c.into_slot.ensures)
    (release_slot v.table.numbers c.release_one.new.self.numbers v.pieces v.pieces c.in-Some.held c.in-Some.ensures.some c.self.invariant)

pub invariant_of-self-in-Some : goal.invariant_of-self-in-Some
invariant_of-self-in-Some c =
    let v = c.self.inside in
    release_kept v.table.numbers c.release_one.new.self.numbers v.pieces c.give.new.self c.in-Some.held c.in-Some.ensures.some c.self.invariant
    (subst (λ (s : Slot). words_of c.give.new.self s ≡ None) c.into_slot.ensures c.give.ensures.out)
    (subst (λ (s : Slot). KeepsOthers s v.pieces c.give.new.self) c.into_slot.ensures c.give.ensures.others)

pub returns-in-None-clause-none : goal.returns-in-None-clause-none
returns-in-None-clause-none c = λ _.
    all_stay (record { numbers = c.release_one.new.self.numbers; region = c.self.inside.pieces })
    (subst NoneRevoked (sym c.in-None.ensures.unchanged) c.in-None.ensures.none)

pub returns-in-None-clause-slots : goal.returns-in-None-clause-slots
returns-in-None-clause-slots c =
    let v = c.self.inside in
    subst (λ (ns : List Number). HasSlots (record { numbers = ns; region = v.pieces })) (sym c.in-None.ensures.unchanged)
    (slots_of (record { numbers = v.table.numbers; region = v.pieces }) c.self.invariant)

pub returns-in-Some-clause-alike : goal.returns-in-Some-clause-alike
returns-in-Some-clause-alike c = λ block.
    let v = c.self.inside in
    let after : Contents = record { numbers = c.release_one.new.self.numbers; region = c.give.new.self } in
    subst (λ (heap : Contents). released (standing after block) ≡ released (standing heap block)) c.self.view_is
    (release_each v.table.numbers c.release_one.new.self.numbers v.pieces c.give.new.self c.in-Some.held c.in-Some.ensures.some c.self.invariant
    (subst (λ (s : Slot). words_of c.give.new.self s ≡ None) c.into_slot.ensures c.give.ensures.out)
    (subst (λ (s : Slot). KeepsOthers s v.pieces c.give.new.self) c.into_slot.ensures c.give.ensures.others) block)

pub returns-in-Some-clause-fewer : goal.returns-in-Some-clause-fewer
returns-in-Some-clause-fewer c = λ _.
    let v = c.self.inside in
    rw (← c.self.view_is) (release_fewer v.table.numbers c.release_one.new.self.numbers v.pieces c.give.new.self c.in-Some.held c.in-Some.ensures.some)

pub returns-in-Some-clause-count : goal.returns-in-Some-clause-count
returns-in-Some-clause-count c =
    let v = c.self.inside in
    rw (← c.self.view_is) (release_count v.table.numbers c.release_one.new.self.numbers v.pieces c.give.new.self c.in-Some.held c.in-Some.ensures.some)

pub returns-in-Some-clause-slots : goal.returns-in-Some-clause-slots
returns-in-Some-clause-slots c =
    let v = c.self.inside in
    slots_of (record { numbers = c.release_one.new.self.numbers; region = c.give.new.self })
    (release_kept v.table.numbers c.release_one.new.self.numbers v.pieces c.give.new.self c.in-Some.held c.in-Some.ensures.some c.self.invariant
    (subst (λ (s : Slot). words_of c.give.new.self s ≡ None) c.into_slot.ensures c.give.ensures.out)
    (subst (λ (s : Slot). KeepsOthers s v.pieces c.give.new.self) c.into_slot.ensures c.give.ensures.others))
