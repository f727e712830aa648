use Rattle.std.proofs.Common.{◌≡◌, ◌∙◌, ap, set, sym, arith, refl}
use Rattle.std.proofs.lemmas.Option.{slice_get_within, slice_get_read, same_Some}
use Rattle.ceal_heap.specs.Table.{Ledger, revoked_state}
use Rattle.ceal_heap.specs.declared.number.Number.{Number}
use Rattle.ceal_heap.specs.declared.number.State.TheVariants.{Live}
use Rattle.ceal_heap.proofs.TableLemmas.{room_in_limbo, some_live, revoked}
use Rattle.ceal_heap.proofs.table.Table.revoke.Goals as goal

pub push-requires : goal.push-requires
push-requires c =
    let v = c.self.inside in
    let t : Ledger = record { numbers = v.numbers.items; room = v.numbers.cap; limbo = v.limbo; free = v.free; live = v.live } in
    let live = rw (← c.self.view_is) at c.requires in
    let x : Number = record { shape = live.0; state = Live live.1 } in
    record { room = room_in_limbo t c.self.invariant c.args.number x x live.2 refl }

pub index_mut-requires : goal.index_mut-requires
index_mut-requires c =
    let v = c.self.inside in
    let live = rw (← c.self.view_is) at c.requires in
    let h = slice_get_within v.numbers.items c.args.number (record { shape = live.0; state = Live live.1 }) live.2 in omega (arith, h, v.numbers.ok)

pub overflow_sub-self : goal.overflow_sub-self
overflow_sub-self c =
    let v = c.self.inside in
    let t : Ledger = record { numbers = v.numbers.items; room = v.numbers.cap; limbo = v.limbo; free = v.free; live = v.live } in
    let live = rw (← c.self.view_is) at c.requires in
    let x : Number = record { shape = live.0; state = Live live.1 } in
    let h = some_live t c.self.invariant c.args.number x x live.2 refl in omega (arith, h)

pub invariant_of-self : goal.invariant_of-self
invariant_of-self c =
    let v = c.self.inside in
    let t : Ledger = record { numbers = v.numbers.items; room = v.numbers.cap; limbo = v.limbo; free = v.free; live = v.live } in
    let live = rw (← c.self.view_is) at c.requires in
    let x : Number = record { shape = live.0; state = Live live.1 } in
    let found = slice_get_read v.numbers.items v.numbers.len c.args.number c.index_mut.result.now v.numbers.ok.0
    (let h = slice_get_within v.numbers.items c.args.number x live.2 in omega (arith, h, v.numbers.ok)) c.index_mut.ensures.value in
    let same : c.index_mut.result.now ≡ x = same_Some c.index_mut.result.now x (sym found ∙ live.2) in
    revoked t c.self.invariant c.args.number x c.revoke.new.self live.2 c.push.new.self live.1
    c.push.ensures.items c.push.ensures.raises refl (c.revoke.ensures.state ∙ ap (λ (y : Number). revoked_state y.state) same)

pub returns : goal.returns
returns c =
    let v = c.self.inside in
    let live = rw (← c.self.view_is) at c.requires in
    let x : Number = record { shape = live.0; state = Live live.1 } in
    let found = slice_get_read v.numbers.items v.numbers.len c.args.number c.index_mut.result.now v.numbers.ok.0
    (let h = slice_get_within v.numbers.items c.args.number x live.2 in omega (arith, h, v.numbers.ok)) c.index_mut.ensures.value in
    let same : c.index_mut.result.now ≡ x = same_Some c.index_mut.result.now x (sym found ∙ live.2) in
    let shape = c.revoke.ensures.shape ∙ ap (λ (y : Number). y.shape) same in
    let state = c.revoke.ensures.state ∙ ap (λ (y : Number). revoked_state y.state) same in
    rw (← c.self.view_is) (live.0, live.1, live.2, ap (set v.numbers.items c.args.number) (λ i. record { shape = shape i; state = state i }))
