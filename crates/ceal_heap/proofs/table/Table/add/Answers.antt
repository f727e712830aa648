use Rattle.std.proofs.Common.{◌∙◌, arith, refl}
use Rattle.ceal_heap.specs.Table.{Ledger, HasRoom}
use Rattle.ceal_heap.specs.declared.number.Number.{Number}
use Rattle.ceal_heap.specs.declared.number.State.TheVariants.{Live}
use Rattle.ceal_heap.proofs.TableLemmas.{added, few_alive, none_free}
use Rattle.ceal_heap.proofs.table.Table.add.Goals as goal

pub overflow_add-self : goal.overflow_add-self
overflow_add-self c =
    let v = c.self.inside in
    let t : Ledger = record { numbers = v.numbers.items; room = v.numbers.cap; limbo = v.limbo; free = v.free; live = v.live } in
    let ready : HasRoom t = rw (← c.self.view_is) at c.requires in
    let few = few_alive t c.self.invariant ready.few in record { fits = omega (arith, few) }

pub invariant_of-self : goal.invariant_of-self
invariant_of-self c =
    let v = c.self.inside in
    let t : Ledger = record { numbers = v.numbers.items; room = v.numbers.cap; limbo = v.limbo; free = v.free; live = v.live } in
    let ready : HasRoom t = rw (← c.self.view_is) at c.requires in
    let number : Number = record { shape = c.args.shape; state = Live c.args.held } in
    rw c.append.ensures (added t c.self.invariant number c.args.held c.append.new.numbers.cap ready refl)

pub returns : goal.returns
returns c =
    let v = c.self.inside in
    let t : Ledger = record { numbers = v.numbers.items; room = v.numbers.cap; limbo = v.limbo; free = v.free; live = v.live } in
    let ready : HasRoom t = rw (← c.self.view_is) at c.requires in
    rw (← c.self.view_is) (record {
      next = c.len-number.ensures ∙ v.numbers.ok.0;
      none_free = none_free t c.self.invariant ready.none_free;
      now = c.append.ensures;
    })
