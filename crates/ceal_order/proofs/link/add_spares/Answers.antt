use Rattle.std.proofs.Common.{◌≡◌, ◌+◌, ◌<◌, ◌^◌, arith, length, refl, ◌∙◌}
use Rattle.ceal_order.proofs.Growing.{grown_none, grown_one}
use Rattle.ceal_order.proofs.link.add_spares.Goals as goal

pub loop-added-init : goal.loop-added-init
loop-added-init c = record {
  grown = rw c.in_ok-make_room.ensures.same (grown_none c.args.links.now.items c.args.free);
  room = omega (arith, c.in_ok-make_room.ensures.room);
}

pub loop-added-preserved : goal.loop-added-preserved
loop-added-preserved c =
    let mid = c.loop-added.links in
    let grown = c.loop-added.invariant.grown in
    let at_is : c.len-at.result ≡ length mid.items = c.len-at.ensures ∙ mid.ok.0 in
    let room : length mid.items + 1 < 2 ^ 32 = omega (arith, grown.long, c.requires, c.loop-added-test.true) in
    record {
      grown = rw (c.push_reserved.ensures.items, at_is)
          (grown_one c.args.links.now.items mid.items (record { label = 0; prev = 4294967295; next = c.loop-added.first }) c.args.free c.loop-added.first c.loop-added.added grown refl room);
      room = omega (arith, c.push_reserved.ensures.len, c.push_reserved.ensures.capacity, c.loop-added.invariant.room, c.loop-added-test.true);
    }
