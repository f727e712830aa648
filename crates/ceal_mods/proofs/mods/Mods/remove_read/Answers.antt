use Rattle.std.proofs.Common.{◌≡◌, length, refl, sym, ◌∙◌}
use Rattle.std.proofs.lemmas.List.{with_items_is}
use Rattle.ceal_mods.proofs.IndexLemmas.{length-with, cell_with}
use Rattle.ceal_mods.proofs.ModsLemmas.{places-with, at, cell_here, rises_here, changed, follow, cell_none}
use Rattle.ceal_mods.proofs.MarksLemmas.{whole-same}
use Rattle.ceal_mods.proofs.mods.Mods.remove_read.Goals as goal

pub remove_read_at-requires-clause-there : goal.remove_read_at-requires-clause-there
remove_read_at-requires-clause-there c = rw c.deref_mut.ensures.value
    (at c.self.inside.index c.self.inside.cells.items c.args.place c.find-slot.result c.self.invariant.indexes c.find-slot.ensures c.if-slot.true).within

pub remove_read_at-requires-clause-rising : goal.remove_read_at-requires-clause-rising
remove_read_at-requires-clause-rising c = rw c.deref_mut.ensures.value
    (rises_here c.self.inside.index c.self.inside.cells.items c.args.place c.find-slot.result c.self.invariant.indexes c.find-slot.ensures c.if-slot.true c.args.order.now.stamps
    (rw (← c.self.view_is) at c.requires.follows)).reads

pub remove_read_at-requires-clause-has : goal.remove_read_at-requires-clause-has
remove_read_at-requires-clause-has c = rw c.deref_mut.ensures.value
    (rw (cell_here c.self.inside.index c.self.inside.cells.items c.args.place c.find-slot.result c.self.invariant.indexes c.find-slot.ensures c.if-slot.true) at
    (rw (← c.self.view_is) at c.requires.there))

pub invariant_of-self : goal.invariant_of-self
invariant_of-self c =
    let cell = rw c.deref_mut.ensures.value at c.remove_read_at.ensures.cell in
    let long : length c.remove_read_at.new.cells ≡ length c.self.inside.cells.items = rw cell (length-with _ _ _) in
    let back = with_items_is c.self.inside.cells c.remove_read_at.new.cells (long ∙ sym c.self.inside.cells.ok.0) in
    whole-same c.self.inside.index c.self.inside.cells.items c.self.inside.marks c.self.invariant c.find-slot.result _ _ (back ∙ cell) refl

pub returns-then-slot-clause-cell : goal.returns-then-slot-clause-cell
returns-then-slot-clause-cell c =
    let cell = rw c.deref_mut.ensures.value at c.remove_read_at.ensures.cell in
    let long : length c.remove_read_at.new.cells ≡ length c.self.inside.cells.items = rw cell (length-with _ _ _) in
    let back = with_items_is c.self.inside.cells c.remove_read_at.new.cells (long ∙ sym c.self.inside.cells.ok.0) in
    rw (← c.self.view_is, cell_here c.self.inside.index c.self.inside.cells.items c.args.place c.find-slot.result c.self.invariant.indexes c.find-slot.ensures c.if-slot.true)
    (changed c.self.inside.index c.self.inside.cells.items c.args.place c.find-slot.result c.self.invariant.indexes c.find-slot.ensures c.if-slot.true c.self.inside.looked
    c.self.inside.differed _ _ _ _ refl (back ∙ cell))

pub returns-then-slot-clause-follows : goal.returns-then-slot-clause-follows
returns-then-slot-clause-follows c =
    let cell = rw c.deref_mut.ensures.value at c.remove_read_at.ensures.cell in
    let long : length c.remove_read_at.new.cells ≡ length c.self.inside.cells.items = rw cell (length-with _ _ _) in
    let back = with_items_is c.self.inside.cells c.remove_read_at.new.cells (long ∙ sym c.self.inside.cells.ok.0) in
    let rise = rw (← c.self.view_is) at c.requires.follows in
    let within = (at c.self.inside.index c.self.inside.cells.items c.args.place c.find-slot.result c.self.invariant.indexes c.find-slot.ensures c.if-slot.true).within in
    let rising = rw (cell, cell_with c.self.inside.cells.items c.find-slot.result _ within) at c.remove_read_at.ensures.rising in
    follow c.self.inside.index c.self.inside.cells.items c.args.place c.find-slot.result c.self.invariant.indexes c.find-slot.ensures c.if-slot.true c.args.order.now.stamps _ _ rise (back ∙ cell)
    (record {
      reads = rising;
      writes =
          (rises_here c.self.inside.index c.self.inside.cells.items c.args.place c.find-slot.result c.self.invariant.indexes c.find-slot.ensures c.if-slot.true c.args.order.now.stamps rise).writes;
    })

pub returns-else-slot-clause-cell : goal.returns-else-slot-clause-cell
returns-else-slot-clause-cell c =
    let no = rw (cell_none c.self.inside.index c.self.inside.cells.items c.args.place c.find-slot.result c.self.invariant.indexes c.find-slot.ensures c.if-slot.false) at
    (rw (← c.self.view_is) at c.requires.there) in
    absurd (cc)

-- and no other comes
pub returns-then-slot-clause-places : goal.returns-then-slot-clause-places
returns-then-slot-clause-places c =
    let cell = rw c.deref_mut.ensures.value at c.remove_read_at.ensures.cell in
    let long : length c.remove_read_at.new.cells ≡ length c.self.inside.cells.items = rw cell (length-with _ _ _) in
    let back = with_items_is c.self.inside.cells c.remove_read_at.new.cells (long ∙ sym c.self.inside.cells.ok.0) in
    rw (← c.self.view_is, back ∙ cell) (places-with c.find-slot.result _ c.self.inside.cells.items)
