use Rattle.std.proofs.Common.{◌≡◌, ◌≤◌, ◌++◌, ◌∙◌, false, drop, take, length, replicate, refl, ap, sym, arith}
use Rattle.std.proofs.lemmas.List.{length-replicate, with_items_is}
use Rattle.std.specs.Prelude.{vec_capacity}
use Rattle.ceal_mods.specs.Marks.{Watches, ends_of}
use Rattle.ceal_mods.proofs.MarksLemmas.{fewer}
use Rattle.ceal_mods.proofs.RenewedMarks.{ends-split, length-first-ends, none-listed-of-all}
use Rattle.ceal_mods.proofs.ToldCells.{told-from}
use Rattle.ceal_mods.proofs.marks.Marks.renew.Goals as goal

pub overflow_sub-more : goal.overflow_sub-more
overflow_sub-more g c =
    let v = c.self.inside in
    let w = rw (← c.self.view_is) at c.requires.watched in
    let few = fewer v.ends.items c.args.cells.now w.places in
    omega (arith, few, c.len-marked.ensures, v.ends.ok.0)

pub invariant_of-self : goal.invariant_of-self
invariant_of-self g c = rw c.in_err-make_room.ensures.same c.self.invariant

pub renew_ends-requires-clause-watched : goal.renew_ends-requires-clause-watched
renew_ends-requires-clause-watched g c =
    let v = c.self.inside in
    let w : Watches (record { ends = v.ends.items; slots = v.slots.items }) c.args.cells.now = rw (← c.self.view_is) at c.requires.watched in
    rw (c.deref.ensures.value, c.in_ok-make_room-3.ensures.same, c.deref_mut.ensures.value, c.in_ok-make_room.ensures.same) w

pub renew_ends-requires-clause-long : goal.renew_ends-requires-clause-long
renew_ends-requires-clause-long g c =
    rw (c.deref_mut.ensures.value, c.in_ok-make_room.ensures.same, c.deref_mut-2.ensures.value, c.in_ok-make_room-2.ensures.same) c.self.invariant.long

pub renew_ends-requires-clause-flags : goal.renew_ends-requires-clause-flags
renew_ends-requires-clause-flags g c =
    rw (c.deref.ensures.value, c.in_ok-make_room-3.ensures.same, c.deref_mut-2.ensures.value, c.in_ok-make_room-2.ensures.same) c.self.invariant.flags

pub cells_from-requires : goal.cells_from-requires
cells_from-requires g c =
    let v = c.self.inside in
    let w = rw (← c.self.view_is) at c.requires.watched in
    let few = fewer v.ends.items c.args.cells.now w.places in
    omega (arith, few, c.len-marked.ensures, v.ends.ok.0)

pub add_ends-requires-clause-values : goal.add_ends-requires-clause-values
add_ends-requires-clause-values g c = rw c.cells_from.ensures (told-from (g.W.Written.tells c.args.written.now) _ c.args.cells.now c.requires.values)

pub invariant_of-self-2 : goal.invariant_of-self-2
invariant_of-self-2 g c =
    let v = c.self.inside in
    let cells = c.args.cells.now in
    let n = length v.ends.items in
    let w = rw (← c.self.view_is) at c.requires.watched in
    let few = fewer v.ends.items cells w.places in
    let same_ends : c.deref_mut.result.now ≡ v.ends.items = rw (c.deref_mut.ensures.value, c.in_ok-make_room.ensures.same) refl in
    let same_listed : c.deref_mut-2.result.now ≡ v.listed.items = rw (c.deref_mut-2.ensures.value, c.in_ok-make_room-2.ensures.same) refl in
    let ws : c.renew_ends.new.ends ≡ ends_of (take n cells) = c.renew_ends.ensures.ends ∙ rw same_ends refl in
    let ls : c.renew_ends.new.listed ≡ replicate n false = c.renew_ends.ensures.listed ∙ rw (same_listed, c.self.invariant.long) refl in
    let long : length c.renew_ends.new.ends ≡ n = ap length ws ∙ length-first-ends n cells few in
    let listed_long : length c.renew_ends.new.listed ≡ length v.listed.items = ap length ls ∙ (length-replicate n false ∙ sym c.self.invariant.long) in
    let back = with_items_is c.make_room.new.items c.renew_ends.new.ends (long ∙ (sym (ap length c.in_ok-make_room.ensures.same) ∙ sym c.make_room.new.items.ok.0)) in
    let listed_back = with_items_is c.make_room-2.new.items c.renew_ends.new.listed (listed_long ∙ (sym (ap length c.in_ok-make_room-2.ensures.same) ∙ sym c.make_room-2.new.items.ok.0)) in
    let is : c.len-marked.result ≡ n = omega (arith, c.len-marked.ensures, v.ends.ok.0) in
    let ends : c.add_ends.new.ends.items ≡ ends_of (take n cells) ++ ends_of (drop n cells) = c.add_ends.ensures.ends ∙ rw (back, ws, c.cells_from.ensures, is) refl in
    let listed : c.add_ends.new.listed.items ≡ replicate n false ++ replicate (length (drop n cells)) false =
    c.add_ends.ensures.listed ∙ rw (listed_back, ls, c.cells_from.ensures, is) refl in
    let enough : length cells ≤ vec_capacity c.make_room-3.new.items =
    (let same = ap length c.in_ok-make_room-3.ensures.same in
    omega (arith, c.in_ok-make_room-3.ensures.room, c.saturating_sub-room.ensures, c.len.ensures, same, v.slots.ok.0, c.make_room-3.new.items.ok.0)) in
    rw (ends, listed, c.clear.ensures.items, c.clear.ensures.capacity) (none-listed-of-all cells n (vec_capacity c.make_room-3.new.items) few enough)

pub returns : goal.returns
returns g c =
    let v = c.self.inside in
    let cells = c.args.cells.now in
    let n = length v.ends.items in
    let w = rw (← c.self.view_is) at c.requires.watched in
    let same_ends : c.deref_mut.result.now ≡ v.ends.items = rw (c.deref_mut.ensures.value, c.in_ok-make_room.ensures.same) refl in
    let ws : c.renew_ends.new.ends ≡ ends_of (take n cells) = c.renew_ends.ensures.ends ∙ rw same_ends refl in
    let long : length c.renew_ends.new.ends ≡ n = ap length ws ∙ length-first-ends n cells (fewer v.ends.items cells w.places) in
    let back = with_items_is c.make_room.new.items c.renew_ends.new.ends (long ∙ (sym (ap length c.in_ok-make_room.ensures.same) ∙ sym c.make_room.new.items.ok.0)) in
    let is : c.len-marked.result ≡ n = omega (arith, c.len-marked.ensures, v.ends.ok.0) in
    let ends : c.add_ends.new.ends.items ≡ ends_of cells = c.add_ends.ensures.ends ∙ (rw (back, ws, c.cells_from.ensures, is) refl ∙ ends-split n cells) in
    record { ok = rw (ends, c.clear.ensures.items) refl; err = tt }
