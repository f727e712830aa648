use Rattle.std.proofs.Common.{◌∙◌, refl}
use Rattle.ceal_record.proofs.Left.{forest-in-order, replays-in-order}
use Rattle.ceal_record.specs.Recorded.{in_order}
use Rattle.ceal_record.proofs.record.record.Goals as goal

-- renamed by first occurrence, the items are those of a trace, which replays and is honest as the given one is
pub returns : goal.returns
returns c = λ l e t.
    let items = forest-in-order c.renamed_items_law.ensures.law c.in_ok-new.field-0 c.args.items.now c.in_ok-forest.forest c.in_ok-new.ensures c.in_ok-forest.ensures l e in
    let replays = replays-in-order c.renaming_law.ensures.law c.args.code.now c.args.inputs.now c.args.function c.args.args.now t.fits l t.replays in
    record {
      blocks = c.in_ok-copy.ensures.equal;
      function = refl;
      args = c.in_ok-args.ensures.equal;
      items = items;
      memory = rw c.in_ok-copy.ensures.equal (record {
        inputs = c.in_ok-memory.ensures.inputs (in_order l) c.args.function c.args.args.now (c.items.ensures.value ∙ items) replays;
        made = c.in_ok-memory.ensures.made (in_order l) (c.items.ensures.value ∙ items);
      });
    }
