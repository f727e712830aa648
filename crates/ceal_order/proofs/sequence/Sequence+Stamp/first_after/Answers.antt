use Rattle.std.proofs.Common.{◌≤◌, ◌<◌, length, arith}
use Rattle.ceal_order.proofs.Searching.{count_within, order_of, parted_end, parted_here, parted_past, not_less, next_of_parted, none_of_parted}
use Rattle.ceal_order.proofs.sequence.Sequence+Stamp.first_after.Goals as goal

pub returns-then-at-len-clause-none : goal.returns-then-at-len-clause-none
returns-then-at-len-clause-none c =
    let le : length c.args.self.now ≤ c.count_before-at.result = omega (arith, c.if-at-len.true, c.len-len.ensures) in
    none_of_parted _ _ _ _ le (parted_end _ _ _ _ c.requires.rising c.count_before-at.ensures le)

pub get-here-requires : goal.get-here-requires
get-here-requires c =
    omega (arith, c.count_before-at.ensures, count_within c.args.order.now.stamps c.args.stamp.0 c.args.self.now, c.if-at-len.false, c.len-len.ensures)

pub before-requires-clause-b_in : goal.before-requires-clause-b_in
before-requires-clause-b_in c =
    let within : c.count_before-at.result < length c.args.self.now = omega (
      arith,
      c.count_before-at.ensures,
      count_within c.args.order.now.stamps c.args.stamp.0 c.args.self.now,
      c.if-at-len.false,
      c.len-len.ensures,
    ) in
    order_of _ _ _ _ c.requires.rising within c.get-here.ensures

pub returns-then-before-clause-some : goal.returns-then-before-clause-some
returns-then-before-clause-some c =
    let within : c.count_before-at.result < length c.args.self.now = omega (
      arith,
      c.count_before-at.ensures,
      count_within c.args.order.now.stamps c.args.stamp.0 c.args.self.now,
      c.if-at-len.false,
      c.len-len.ensures,
    ) in
    next_of_parted _ _ _ _ _ c.requires.rising within c.get-here.ensures
    (parted_here _ _ _ _ _ c.requires.rising c.count_before-at.ensures within c.get-here.ensures (c.before-2.ensures.before.0 c.if-before.true))

pub returns-then-before-clause-here : goal.returns-then-before-clause-here
returns-then-before-clause-here c =
    let within : c.count_before-at.result < length c.args.self.now = omega (
      arith,
      c.count_before-at.ensures,
      count_within c.args.order.now.stamps c.args.stamp.0 c.args.self.now,
      c.if-at-len.false,
      c.len-len.ensures,
    ) in
    order_of _ _ _ _ c.requires.rising within c.get-here.ensures

pub overflow_add-next : goal.overflow_add-next
overflow_add-next c =
    let within : c.count_before-at.result < length c.args.self.now = omega (
      arith,
      c.count_before-at.ensures,
      count_within c.args.order.now.stamps c.args.stamp.0 c.args.self.now,
      c.if-at-len.false,
      c.len-len.ensures,
    ) in
    omega (arith, within, c.len-len.type_inv)

pub returns-then-next-len-clause-none : goal.returns-then-next-len-clause-none
returns-then-next-len-clause-none c =
    let within : c.count_before-at.result < length c.args.self.now = omega (
      arith,
      c.count_before-at.ensures,
      count_within c.args.order.now.stamps c.args.stamp.0 c.args.self.now,
      c.if-at-len.false,
      c.len-len.ensures,
    ) in
    none_of_parted _ _ _ _ (omega (arith, c.if-next-len.true, c.len-len.ensures))
    (parted_past _ _ _ _ _ c.requires.rising c.count_before-at.ensures within c.get-here.ensures (not_less _ _ _ c.before-2.ensures.before c.if-before.false))

pub get-requires : goal.get-requires
get-requires c =
    let within : c.count_before-at.result < length c.args.self.now = omega (
      arith,
      c.count_before-at.ensures,
      count_within c.args.order.now.stamps c.args.stamp.0 c.args.self.now,
      c.if-at-len.false,
      c.len-len.ensures,
    ) in
    omega (arith, within, c.if-next-len.false, c.len-len.ensures)

pub returns-clause-some : goal.returns-clause-some
returns-clause-some c =
    let within : c.count_before-at.result < length c.args.self.now = omega (
      arith,
      c.count_before-at.ensures,
      count_within c.args.order.now.stamps c.args.stamp.0 c.args.self.now,
      c.if-at-len.false,
      c.len-len.ensures,
    ) in
    next_of_parted _ _ _ _ _ c.requires.rising (omega (arith, within, c.if-next-len.false, c.len-len.ensures)) c.get.ensures
    (parted_past _ _ _ _ _ c.requires.rising c.count_before-at.ensures within c.get-here.ensures (not_less _ _ _ c.before-2.ensures.before c.if-before.false))

pub returns-clause-here : goal.returns-clause-here
returns-clause-here c =
    let within : c.count_before-at.result < length c.args.self.now = omega (
      arith,
      c.count_before-at.ensures,
      count_within c.args.order.now.stamps c.args.stamp.0 c.args.self.now,
      c.if-at-len.false,
      c.len-len.ensures,
    ) in
    order_of _ _ _ _ c.requires.rising (omega (arith, within, c.if-next-len.false, c.len-len.ensures)) c.get.ensures
