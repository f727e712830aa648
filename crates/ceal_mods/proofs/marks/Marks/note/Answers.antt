use Rattle.std.proofs.Common.{◌≡◌, ◌<◌, false, get_or, length, sym, arith}
use Rattle.std.specs.Prelude.{vec_capacity}
use Rattle.ceal_mods.proofs.RenewedMarks.{has-room, listed-more}
use Rattle.ceal_mods.proofs.marks.Marks.note.Goals as goal

pub push_reserved-requires : goal.push_reserved-requires
push_reserved-requires c =
    let v = c.self.inside in
    let off : get_or v.listed.items c.args.slot false ≡ false = sym (rw c.if-index.false at c.index.ensures) in
    let within : c.args.slot < length v.listed.items = omega (arith, c.if-at-len.false, c.len.ensures, v.listed.ok.0) in
    let room = has-room v.ends.items v.listed.items v.slots.items (vec_capacity v.slots) c.args.slot c.self.invariant within off in
    omega (arith, room, v.slots.ok.0)

pub invariant_of-self : goal.invariant_of-self
invariant_of-self c =
    let v = c.self.inside in
    let off : get_or v.listed.items c.args.slot false ≡ false = sym (rw c.if-index.false at c.index.ensures) in
    let within : c.args.slot < length v.listed.items = omega (arith, c.if-at-len.false, c.len.ensures, v.listed.ok.0) in
    rw (c.push_reserved.ensures.items, c.push_reserved.ensures.capacity) (listed-more v.ends.items v.listed.items v.slots.items (vec_capacity v.slots) c.args.slot c.self.invariant within off)
