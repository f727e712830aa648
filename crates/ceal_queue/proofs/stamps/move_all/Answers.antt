use Rattle.std.proofs.Common.{◌<◌, length, ap, arith, rules}
use Rattle.std.proofs.lemmas.List.{take_more}
use Rattle.ceal_order.proofs.Searching.{blank}
use Rattle.ceal_queue.proofs.stamps.move_all.Goals as goal

pub loop-at-preserved : goal.loop-at-preserved
loop-at-preserved c =
    let within : c.loop-at.at < length c.args.sequence.now = omega (arith, c.loop-at-test.true, c.loop-at.auto.at-end, c.len-at-end.ensures) in
    let long = ap length c.loop-at.invariant.moved in
    record {
      moved = rw (take_more c.args.sequence.now c.loop-at.at blank within, c.get.ensures blank, ← c.loop-at.invariant.moved) (search rules);
      raises = omega (arith, c.loop-at.invariant.raises, c.push.ensures.capacity);
      within = omega (arith, within);
    }
