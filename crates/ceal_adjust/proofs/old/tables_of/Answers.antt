use Rattle.std.proofs.Common.{◌≡◌, Some, slice_get, length, refl, ◌∙◌, arith}
use Rattle.std.proofs.lemmas.Option.{slice_get_read}
use Rattle.ceal_adjust.proofs.MarkSteps.{depth-zero, depths-zero, depth-next, depths-next, places-zero, places-next}
use Rattle.ceal_adjust.specs.Places.{listed}
use Rattle.ceal_adjust.proofs.old.tables_of.Goals as goal

-- no item was entered
pub loop-item-init : goal.loop-item-init
loop-item-init c = record {
  counted = refl;
  nested = depth-zero c.args.items.now _ refl;
  depths = depths-zero c.args.items.now _ c.new-nesting.ensures.items;
  places = λ m. places-zero c.args.items.now m _ (c.new-table.ensures.nothing m);
}

-- this item is entered with its depth, under its mark
pub loop-item-preserved : goal.loop-item-preserved
loop-item-preserved c =
    let at : slice_get c.args.items.now c.loop-item.item-index ≡ Some c.item-item.result =
    slice_get_read c.args.items.now (length c.args.items.now) c.loop-item.item-index _ refl
    (omega arith) c.item-item.is in
    record {
      counted = omega (arith, c.loop-item.invariant.counted);
      nested = depth-next c.args.items.now c.loop-item.item-index c.loop-item.depth c.in_ok-depth.depth _ at c.loop-item.invariant.nested c.in_ok-depth.ensures;
      depths = depths-next c.args.items.now c.loop-item.item-index c.loop-item.depth c.loop-item.nesting.items _ c.loop-item.invariant.depths c.loop-item.invariant.nested c.in_ok-push.ensures.items;
      places = λ m. c.in_ok-add.ensures m
          ∙ places-next c.args.items.now c.loop-item.item-index c.loop-item.depth _ at c.loop-item.invariant.nested m c.loop-item.at (listed c.loop-item.table m)
          c.loop-item.invariant.counted (c.loop-item.invariant.places m);
    }
