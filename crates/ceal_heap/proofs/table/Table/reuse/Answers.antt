use Rattle.std.proofs.Common.{◌∙◌, ap, set, arith, Some}
use Rattle.std.proofs.lemmas.Option.{slice_get_within}
use Rattle.ceal_heap.specs.Table.{Ledger, state_is_live}
use Rattle.ceal_heap.specs.declared.number.Number.{Number}
use Rattle.ceal_heap.proofs.TableLemmas.{top_free, reused, few_live, entry_of}
use Rattle.ceal_heap.proofs.table.Table.reuse.Goals as goal

pub index_mut-entry-requires : goal.index_mut-entry-requires
index_mut-entry-requires c =
    let v = c.self.inside in
    let t : Ledger = record { numbers = v.numbers.items; room = v.numbers.cap; limbo = v.limbo; free = v.free; live = v.live } in
    let top = top_free t c.self.invariant c.pop.new.self.items c.in-Some.number c.in-Some.ensures.items in
    let h = slice_get_within v.numbers.items c.in-Some.number top.0 top.1 in omega (arith, h, v.numbers.ok)

pub overflow_add-self : goal.overflow_add-self
overflow_add-self c =
    let v = c.self.inside in
    let t : Ledger = record { numbers = v.numbers.items; room = v.numbers.cap; limbo = v.limbo; free = v.free; live = v.live } in
    let top = top_free t c.self.invariant c.pop.new.self.items c.in-Some.number c.in-Some.ensures.items in
    let few = few_live t c.self.invariant c.in-Some.number top.0 top.0 top.1 (ap state_is_live top.2) in record { fits = omega (arith, few) }

pub invariant_of-self : goal.invariant_of-self
invariant_of-self c =
    let v = c.self.inside in
    let t : Ledger = record { numbers = v.numbers.items; room = v.numbers.cap; limbo = v.limbo; free = v.free; live = v.live } in
    let n = c.in-Some.number in let entry = c.index_mut-entry.result.now in
    let top = top_free t c.self.invariant c.pop.new.self.items n c.in-Some.ensures.items in
    let e = entry_of v.numbers.items v.numbers.len n entry top.0 v.numbers.ok.0 top.1 c.index_mut-entry.ensures.value in
    reused t c.self.invariant n entry c.give.new.self e.0 c.pop.new.self c.args.held c.in-Some.ensures.items c.in-Some.ensures.room
    (ap (λ (x : Number). x.state) e.1 ∙ top.2) c.give.ensures.state

pub returns : goal.returns
returns c =
    let v = c.self.inside in
    let t : Ledger = record { numbers = v.numbers.items; room = v.numbers.cap; limbo = v.limbo; free = v.free; live = v.live } in
    let n = c.in-Some.number in let entry = c.index_mut-entry.result.now in
    let top = top_free t c.self.invariant c.pop.new.self.items n c.in-Some.ensures.items in
    let e = entry_of v.numbers.items v.numbers.len n entry top.0 v.numbers.ok.0 top.1 c.index_mut-entry.ensures.value in
    let state = ap (λ (x : Number). x.state) e.1 ∙ top.2 in
    rw (← c.self.view_is) (record {
      was = e.0 ∙ ap Some (λ i. record { shape = entry.shape; state = state i });
      now = ap (set v.numbers.items n) (λ i. record { shape = c.give.ensures.shape i; state = c.give.ensures.state i });
    })
