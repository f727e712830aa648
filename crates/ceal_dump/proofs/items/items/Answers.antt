use Rattle.std.proofs.Common.{◌-◌, ◌∙◌, sym, arith}
use Rattle.ceal_dump.proofs.Loops.{many-first, many-none, many-out, more-same, more-rest, done-same, done-rest}
use Rattle.ceal_dump.specs.Reading.{item_at, items_from}
use Rattle.ceal_dump.proofs.items.items.Goals as goal
use Rattle.ceal_dump.proofs.items.items.Goals.{then-loop-left-test+else-not-is_empty, else-loop-left-test}

-- the text goes one item further, and the items to come are those of the rest
pub loop-left-preserved : goal.loop-left-preserved
loop-left-preserved c =
    let l = c.loop-left in
    let now = items_from l.left l.reader in
    let next = items_from (l.left - 1) c.item.new.reader in
    let all = items_from c.args.count c.args.reader.now in
    let first = many-first item_at l.left l.reader c.item.new.reader c.in_ok-item.item
    (omega (arith, c.loop-left-test.true)) (sym c.is_empty.ensures.value
    ∙ c.if-not-is_empty.true) c.in_ok-item.ensures.value c.in_ok-item.ensures.rest in
    record {
      same = more-same l.items.items now next all l.invariant.same l.invariant.rest c.in_ok-item.item c.push.new.self.items first c.in_ok-push.ensures.items;
      rest = more-rest l.items.items now next all l.invariant.same l.invariant.rest c.in_ok-item.item first;
    }

-- the loop ends at the last item or at the end of the text, and no item is to come at either
pub returns-clause-value : goal.returns-clause-value
returns-clause-value c =
    let l = c.loop-left in
    let now = items_from l.left l.reader in
    let all = items_from c.args.count c.args.reader.now in
    elim c.loop-left-test.branch [
      | then-loop-left-test+else-not-is_empty w ↦ done-same l.items.items now all all l.invariant.same l.invariant.rest l.reader
          (many-out item_at l.left l.reader (sym w.is_empty.ensures.value ∙ w.if-not-is_empty.false))
      | else-loop-left-test w ↦ done-same l.items.items now all all l.invariant.same l.invariant.rest l.reader (many-none item_at l.left l.reader (omega (arith, w.loop-left-test.false)))
    ]

-- the same, for what is left of the text
pub returns-clause-rest : goal.returns-clause-rest
returns-clause-rest c =
    let l = c.loop-left in
    let now = items_from l.left l.reader in
    let all = items_from c.args.count c.args.reader.now in
    elim c.loop-left-test.branch [
      | then-loop-left-test+else-not-is_empty w ↦ done-rest l.items.items now all all l.invariant.same l.invariant.rest l.reader
          (many-out item_at l.left l.reader (sym w.is_empty.ensures.value ∙ w.if-not-is_empty.false))
      | else-loop-left-test w ↦ done-rest l.items.items now all all l.invariant.same l.invariant.rest l.reader (many-none item_at l.left l.reader (omega (arith, w.loop-left-test.false)))
    ]
