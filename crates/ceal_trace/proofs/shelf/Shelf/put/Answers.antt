use Rattle.std.proofs.Common.{arith}
use Rattle.ceal_trace.proofs.Shelving.{apart_less, put_fits, put_fresh, put_there, put_others}
use Rattle.ceal_trace.proofs.shelf.Shelf.put.Goals as goal

pub split-held-requires : goal.split-held-requires
split-held-requires g c =
    let least = apart_less c.args.self.now.held c.args.self.now.apart c.requires.fit in
    let held = c.requires.held in
    let apart = c.requires.apart in
    omega arith

pub returns : goal.returns
returns g c =
    let s = c.split-held.ensures in
    let i = c.insert_reserved-key.ensures in
    record {
      fit = put_fits _ _ _ _ _ _ _ c.requires.fit s i.was_vacant i.updates;
      fresh = put_fresh _ _ _ _ _ _ _ c.requires.fit s i.was_vacant i.updates;
      low = omega (arith, i.key_in_range, c.capacity-room.ensures.value, c.capacity-room.type_inv);
      there = put_there _ _ _ _ _ _ _ c.requires.fit s i.was_vacant i.updates;
      others = put_others _ _ _ _ _ _ _ c.requires.fit s i.was_vacant i.updates;
      count = i.len;
      rooms = record { held_room = i.capacity; apart_room = s.room };
    }
