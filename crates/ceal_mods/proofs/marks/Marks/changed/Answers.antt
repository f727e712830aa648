use Rattle.std.proofs.Common.{◌≡◌, ◌∙◌, length, refl, arith}
use Rattle.ceal_order.proofs.Places.{AllBelow-more}
use Rattle.ceal_mods.specs.Marks.{told}
use Rattle.ceal_mods.proofs.MarksLemmas.{fewer}
use Rattle.ceal_mods.proofs.ToldCells.{told-from}
use Rattle.ceal_mods.proofs.marks.Marks.changed.Goals as goal

pub tell_listed-requires : goal.tell_listed-requires
tell_listed-requires g c =
    let v = c.self.inside in
    let w = rw (← c.self.view_is) at c.requires.watched in
    rw (c.deref.ensures.value, c.deref-2.ensures.value) (record {
      ends = w.within;
      values = c.requires.values;
      cells = AllBelow-more (length v.ends.items) (length c.args.cells.now) v.slots.items (fewer v.ends.items c.args.cells.now w.places) w.within;
    })

pub cells_from-requires : goal.cells_from-requires
cells_from-requires g c =
    let v = c.self.inside in
    let w = rw (← c.self.view_is) at c.requires.watched in
    let few = fewer v.ends.items c.args.cells.now w.places in
    omega (arith, few, c.len.ensures, v.ends.ok.0)

pub tell_new-requires : goal.tell_new-requires
tell_new-requires g c = record { values = rw c.cells_from.ensures (told-from (g.W.Written.tells c.args.written.now) _ c.args.cells.now c.requires.values) }

pub returns : goal.returns
returns g c =
    let v = c.self.inside in
    let is : c.len.result ≡ length v.ends.items = omega (arith, c.len.ensures, v.ends.ok.0) in
    let first : c.tell_listed.new.places.items ≡ told v.ends.items c.args.cells.now v.slots.items =
    c.in_ok-tell_listed.ensures ∙ rw (c.new-places.ensures.items, c.deref.ensures.value, c.deref-2.ensures.value) refl in
    rw (← c.self.view_is) (c.in_ok-tell_new.ensures ∙ rw (first, c.cells_from.ensures, is) refl)
