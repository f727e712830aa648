use Rattle.std.proofs.Common.{◌++◌}
use Rattle.ceal_dump.proofs.Ranges.{items-in, items-out}
use Rattle.ceal_dump.proofs.Steps.{items-more, items-end}
use Rattle.ceal_dump.specs.DumpText.{item_lines}
use Rattle.ceal_dump.proofs.text.put_items.Goals as goal

-- the line of this item, after those of the items before it; all are in range if these are
pub loop-item-preserved : goal.loop-item-preserved
loop-item-preserved c = record {
  text = items-more c.loop-item.out c.put_item.new.out (c.args.out.now ++ item_lines c.args.items.now) c.loop-item.items.now c.in-Some.more.now c.in-Some.item.now
      c.in_ok-put_item.ensures.text c.in-Some.ensures.cases.0 c.loop-item.invariant.text;
  range = λ h. c.loop-item.invariant.range (items-in c.loop-item.items.now c.in-Some.more.now c.in-Some.item.now c.in-Some.ensures.cases.0 c.in_ok-put_item.ensures.range h);
}

pub returns-clause-text : goal.returns-clause-text
returns-clause-text c = items-end c.loop-item.out (c.args.out.now ++ item_lines c.args.items.now) c.loop-item.items.now c.in_default.ensures.cases c.loop-item.invariant.text

pub returns-clause-range : goal.returns-clause-range
returns-clause-range c = c.loop-item.invariant.range (items-out c.loop-item.items.now c.in_default.ensures.cases)
