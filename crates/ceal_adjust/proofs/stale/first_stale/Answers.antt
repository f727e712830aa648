use Rattle.std.proofs.Common.{◌≡◌, Some, length, slice_get, ◌+◌, ap, refl, ◌∙◌, arith}
use Rattle.std.proofs.lemmas.Option.{slice_get_read}
use Rattle.ceal_code.specs.Tables.{code_in, store_in, store_flat}
use Rattle.ceal_adjust.proofs.Fronts.{front-stored, front-agrees}
use Rattle.ceal_adjust.proofs.stale.first_stale.Goals as goal

-- this item is no stale read, and the walk has its writes
pub loop-item-preserved : goal.loop-item-preserved
loop-item-preserved c =
    let at : slice_get c.args.items.now c.loop-item.item-index ≡ Some c.item-item.result =
    slice_get_read c.args.items.now (length c.args.items.now) c.loop-item.item-index _ refl
    (omega arith) c.item-item.is in
    record {
      counted = ap (λ n. n + 1) c.loop-item.invariant.counted;
      code = c.in_ok-store_items.ensures.code ∙ c.loop-item.invariant.code;
      plain = c.in_ok-store_items.ensures.plain ∙ c.loop-item.invariant.plain;
      agrees = front-agrees (code_in c.args.memory.now) (code_in c.loop-item.memory) (store_in c.args.memory.now)
          (store_in c.loop-item.memory) (store_in c.store_items.new.self) c.args.items.now c.loop-item.item-index _
          c.loop-item.invariant.code at c.loop-item.invariant.store c.loop-item.invariant.agrees (rw c.in_default.is at c.in_ok-closure.ensures);
      store = front-stored (code_in c.args.memory.now) (code_in c.loop-item.memory) (store_in c.args.memory.now)
          (store_in c.loop-item.memory) (store_in c.store_items.new.self) c.args.items.now c.loop-item.item-index _
          c.loop-item.invariant.code at c.loop-item.invariant.store
          (c.in_ok-store_items.ensures.store ∙ ap (store_flat (code_in c.loop-item.memory)
          (store_in c.loop-item.memory)) c.from_ref.ensures.value);
    }
