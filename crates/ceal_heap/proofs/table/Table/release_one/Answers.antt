use Rattle.std.proofs.Common.{◌≡◌, ◌∙◌, ap, set, arith, Some}
use Rattle.std.proofs.lemmas.Option.{slice_get_within}
use Rattle.ceal_heap.specs.Table.{Ledger, held_in, state_is_released}
use Rattle.ceal_heap.specs.declared.number.Number.{Number}
use Rattle.ceal_heap.proofs.TableLemmas.{top_revoked, room_in_free, released, entry_of}
use Rattle.ceal_heap.proofs.table.Table.release_one.Goals as goal

pub index_mut-requires : goal.index_mut-requires
index_mut-requires c =
    let v = c.self.inside in
    let t : Ledger = record { numbers = v.numbers.items; room = v.numbers.cap; limbo = v.limbo; free = v.free; live = v.live } in
    let top = top_revoked t c.self.invariant c.pop.new.self.items c.in_ok-number.number c.in_ok-number.ensures.items in
    let h = slice_get_within v.numbers.items c.in_ok-number.number top.0 top.2 in omega (arith, h, v.numbers.ok)

pub push-requires : goal.push-requires
push-requires c =
    let v = c.self.inside in
    let t : Ledger = record { numbers = v.numbers.items; room = v.numbers.cap; limbo = v.limbo; free = v.free; live = v.live } in
    let top = top_revoked t c.self.invariant c.pop.new.self.items c.in_ok-number.number c.in_ok-number.ensures.items in
    record { room = room_in_free t c.self.invariant c.in_ok-number.number top.0 top.0 top.2 (ap state_is_released top.3) }

pub invariant_of-self-2 : goal.invariant_of-self-2
invariant_of-self-2 c =
    let v = c.self.inside in
    let t : Ledger = record { numbers = v.numbers.items; room = v.numbers.cap; limbo = v.limbo; free = v.free; live = v.live } in
    let n = c.in_ok-number.number in let entry = c.index_mut.result.now in
    let top = top_revoked t c.self.invariant c.pop.new.self.items n c.in_ok-number.ensures.items in
    let e = entry_of v.numbers.items v.numbers.len n entry top.0 v.numbers.ok.0 top.2 c.index_mut.ensures.value in
    released t c.self.invariant n entry c.release-held.new.self e.0 c.pop.new.self c.push.new.self top.1 c.in_ok-number.ensures.items c.in_ok-number.ensures.room
    c.push.ensures.items c.push.ensures.raises (ap (λ (x : Number). x.state) e.1 ∙ top.3) c.release-held.ensures.state

pub returns-clause-some : goal.returns-clause-some
returns-clause-some c =
    let v = c.self.inside in
    let t : Ledger = record { numbers = v.numbers.items; room = v.numbers.cap; limbo = v.limbo; free = v.free; live = v.live } in
    let n = c.in_ok-number.number in let entry = c.index_mut.result.now in
    let top = top_revoked t c.self.invariant c.pop.new.self.items n c.in_ok-number.ensures.items in
    let e = entry_of v.numbers.items v.numbers.len n entry top.0 v.numbers.ok.0 top.2 c.index_mut.ensures.value in
    let state = ap (λ (x : Number). x.state) e.1 ∙ top.3 in
    let gave : c.release-held.result ≡ Some top.1 = c.release-held.ensures.held ∙ ap held_in state in
    rw (gave, ← c.self.view_is) (
      n,
      entry.shape,
      e.0 ∙ ap Some (λ i. record { shape = entry.shape; state = state i }),
      ap (set v.numbers.items n) (λ i. record { shape = c.release-held.ensures.shape i; state = c.release-held.ensures.state i }),
    )

pub returns-clause-none : goal.returns-clause-none
returns-clause-none c =
    let v = c.self.inside in
    let t : Ledger = record { numbers = v.numbers.items; room = v.numbers.cap; limbo = v.limbo; free = v.free; live = v.live } in
    let n = c.in_ok-number.number in let entry = c.index_mut.result.now in
    let top = top_revoked t c.self.invariant c.pop.new.self.items n c.in_ok-number.ensures.items in
    let e = entry_of v.numbers.items v.numbers.len n entry top.0 v.numbers.ok.0 top.2 c.index_mut.ensures.value in
    let state = ap (λ (x : Number). x.state) e.1 ∙ top.3 in
    let gave : c.release-held.result ≡ Some top.1 = c.release-held.ensures.held ∙ ap held_in state in rw gave tt

pub returns-clause-unchanged : goal.returns-clause-unchanged
returns-clause-unchanged c =
    let v = c.self.inside in
    let t : Ledger = record { numbers = v.numbers.items; room = v.numbers.cap; limbo = v.limbo; free = v.free; live = v.live } in
    let n = c.in_ok-number.number in let entry = c.index_mut.result.now in
    let top = top_revoked t c.self.invariant c.pop.new.self.items n c.in_ok-number.ensures.items in
    let e = entry_of v.numbers.items v.numbers.len n entry top.0 v.numbers.ok.0 top.2 c.index_mut.ensures.value in
    let state = ap (λ (x : Number). x.state) e.1 ∙ top.3 in
    let gave : c.release-held.result ≡ Some top.1 = c.release-held.ensures.held ∙ ap held_in state in rw gave tt
