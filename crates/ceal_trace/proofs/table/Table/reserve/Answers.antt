use Rattle.std.proofs.Common.{arith}
use Rattle.ceal_trace.proofs.Tabling.{wider, room_kept}
use Rattle.ceal_trace.proofs.table.Table.reserve.Goals as goal

pub returns-clause-kept : goal.returns-clause-kept
returns-clause-kept c =
    let r = c.in_ok-reserve.ensures in
    let s = r.same in
    let held = s.held_room in
    let apart = s.apart_room in
    let old_held = c.self.invariant.held_room in
    let old_apart = c.self.invariant.apart_room in
    let new_held = r.held in
    let new_apart = r.apart in
    rw (← c.self.view_is) (wider _ _ _ _ c.self.invariant s c.lengthen.ensures.longer
    (room_kept _ _ _ _ c.lengthen.ensures.most (omega arith) new_held)
    (room_kept _ _ _ _ c.lengthen.ensures.most (omega arith) new_apart))
