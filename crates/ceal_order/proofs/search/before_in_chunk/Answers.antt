use Rattle.std.proofs.Common.{◌<◌, ◌+◌, ◌-◌, ◌/◌, length, arith}
use Rattle.ceal_order.proofs.Searching.{order_of, front_of, back_of, count_within, not_less}
use Rattle.ceal_order.proofs.search.before_in_chunk.Goals as goal

pub before-requires-clause-a_in : goal.before-requires-clause-a_in
before-requires-clause-a_in c = order_of _ _ _ _ c.requires.rising (omega (arith, c.if-high-gt0.true)) c.stamp_at.ensures

pub returns-then-before : goal.returns-then-before
returns-then-before c =
    let last = c.args.stamps.now in
    let all = front_of _ _ last _ _ c.requires.rising (omega (arith, c.if-high-gt0.true)) c.stamp_at.ensures (c.before-then-high-gt0.ensures.before.0 c.if-before.true) in
    omega (arith, all, c.if-high-gt0.true, count_within c.args.order.now.stamps c.args.stamp.0 last)

pub loop-low-init : goal.loop-low-init
loop-low-init c = record {
  front = omega arith;
  back = omega (arith, count_within c.args.order.now.stamps c.args.stamp.0 c.args.stamps.now);
  within = omega (arith);
}

pub before-requires-in-loop-low-clause-a_in : goal.before-requires-in-loop-low-clause-a_in
before-requires-in-loop-low-clause-a_in c =
    let within : c.loop-low.low + (c.loop-low.high - c.loop-low.low) / 2 < length c.args.stamps.now = omega arith in
    order_of _ _ _ _ c.requires.rising within c.stamp_at-in-loop-low.ensures

pub loop-low-preserved-then-before-2 : goal.loop-low-preserved-then-before-2
loop-low-preserved-then-before-2 c =
    let within : c.loop-low.low + (c.loop-low.high - c.loop-low.low) / 2 < length c.args.stamps.now = omega arith in
    let front = front_of _ _ _ _ _ c.requires.rising within c.stamp_at-in-loop-low.ensures (c.before-in-loop-low.ensures.before.0 c.if-before-2.true) in
    record { front = omega (arith, front); back = c.loop-low.invariant.back; within = c.loop-low.invariant.within }

pub loop-low-preserved : goal.loop-low-preserved
loop-low-preserved c =
    let within : c.loop-low.low + (c.loop-low.high - c.loop-low.low) / 2 < length c.args.stamps.now = omega arith in
    record {
      front = c.loop-low.invariant.front;
      back = back_of _ _ _ _ _ c.requires.rising within c.stamp_at-in-loop-low.ensures (not_less _ _ _ c.before-in-loop-low.ensures.before c.if-before-2.false);
      within = omega arith;
    }
