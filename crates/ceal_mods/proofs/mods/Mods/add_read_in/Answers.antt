use Rattle.std.proofs.Common.{◌≡◌, length, refl, sym, ◌∙◌}
use Rattle.std.proofs.lemmas.List.{with_items_is}
use Rattle.ceal_mods.proofs.IndexLemmas.{leads, length-with, cell_with}
use Rattle.ceal_mods.proofs.ModsLemmas.{at, cell_here, rises_here, changed, follow, cell_none, no_cell, added, follow_added}
use Rattle.ceal_mods.proofs.MarksLemmas.{whole-same, whole-added}
use Rattle.ceal_mods.proofs.mods.Mods.add_read_in.Goals as goal

pub add_read_at-requires-clause-there : goal.add_read_at-requires-clause-there
add_read_at-requires-clause-there c =
    let is = leads c.self.inside.index c.self.inside.cells.items c.args.place c.args.slot c.self.invariant.indexes (rw (← c.self.view_is) at c.requires.slot) in
    rw c.deref_mut.ensures.value
    (at c.self.inside.index c.self.inside.cells.items c.args.place c.args.slot c.self.invariant.indexes is c.if-slot-ne-NO_SLOT.true).within

pub add_read_at-requires-clause-rising : goal.add_read_at-requires-clause-rising
add_read_at-requires-clause-rising c =
    let is = leads c.self.inside.index c.self.inside.cells.items c.args.place c.args.slot c.self.invariant.indexes (rw (← c.self.view_is) at c.requires.slot) in
    rw c.deref_mut.ensures.value
    (rises_here c.self.inside.index c.self.inside.cells.items c.args.place c.args.slot c.self.invariant.indexes is c.if-slot-ne-NO_SLOT.true c.args.order.now.stamps
    (rw (← c.self.view_is) at c.requires.follows)).reads

pub add_read_at-requires-clause-absent : goal.add_read_at-requires-clause-absent
add_read_at-requires-clause-absent c =
    let is = leads c.self.inside.index c.self.inside.cells.items c.args.place c.args.slot c.self.invariant.indexes (rw (← c.self.view_is) at c.requires.slot) in
    rw c.deref_mut.ensures.value
    (rw (cell_here c.self.inside.index c.self.inside.cells.items c.args.place c.args.slot c.self.invariant.indexes is c.if-slot-ne-NO_SLOT.true) at
    (rw (← c.self.view_is) at c.requires.absent))

pub invariant_of-self-then-slot-ne-NO_SLOT : goal.invariant_of-self-then-slot-ne-NO_SLOT
invariant_of-self-then-slot-ne-NO_SLOT c =
    let cell = rw c.deref_mut.ensures.value at c.in_ok-add_read_at.ensures.ok in
    let long : length c.add_read_at.new.cells ≡ length c.self.inside.cells.items = rw cell (length-with _ _ _) in
    let back = with_items_is c.self.inside.cells c.add_read_at.new.cells (long ∙ sym c.self.inside.cells.ok.0) in
    whole-same c.self.inside.index c.self.inside.cells.items c.self.inside.marks c.self.invariant c.args.slot _ _ (back ∙ cell) refl

pub returns-then-slot-ne-NO_SLOT-clause-ok : goal.returns-then-slot-ne-NO_SLOT-clause-ok
returns-then-slot-ne-NO_SLOT-clause-ok c =
    let is = leads c.self.inside.index c.self.inside.cells.items c.args.place c.args.slot c.self.invariant.indexes (rw (← c.self.view_is) at c.requires.slot) in
    let cell = rw c.deref_mut.ensures.value at c.in_ok-add_read_at.ensures.ok in
    let long : length c.add_read_at.new.cells ≡ length c.self.inside.cells.items = rw cell (length-with _ _ _) in
    let back = with_items_is c.self.inside.cells c.add_read_at.new.cells (long ∙ sym c.self.inside.cells.ok.0) in
    rw (← c.self.view_is, cell_here c.self.inside.index c.self.inside.cells.items c.args.place c.args.slot c.self.invariant.indexes is c.if-slot-ne-NO_SLOT.true)
    (changed c.self.inside.index c.self.inside.cells.items c.args.place c.args.slot c.self.invariant.indexes is c.if-slot-ne-NO_SLOT.true c.self.inside.looked
    c.self.inside.differed _ _ _ _ refl (back ∙ cell))

pub returns-then-slot-ne-NO_SLOT-clause-follows : goal.returns-then-slot-ne-NO_SLOT-clause-follows
returns-then-slot-ne-NO_SLOT-clause-follows c =
    let is = leads c.self.inside.index c.self.inside.cells.items c.args.place c.args.slot c.self.invariant.indexes (rw (← c.self.view_is) at c.requires.slot) in
    let cell = rw c.deref_mut.ensures.value at c.in_ok-add_read_at.ensures.ok in
    let long : length c.add_read_at.new.cells ≡ length c.self.inside.cells.items = rw cell (length-with _ _ _) in
    let back = with_items_is c.self.inside.cells c.add_read_at.new.cells (long ∙ sym c.self.inside.cells.ok.0) in
    let rise = rw (← c.self.view_is) at c.requires.follows in
    let within = (at c.self.inside.index c.self.inside.cells.items c.args.place c.args.slot c.self.invariant.indexes is c.if-slot-ne-NO_SLOT.true).within in
    let rising = rw (cell, cell_with c.self.inside.cells.items c.args.slot _ within) at c.add_read_at.ensures.rising in
    follow c.self.inside.index c.self.inside.cells.items c.args.place c.args.slot c.self.invariant.indexes is c.if-slot-ne-NO_SLOT.true c.args.order.now.stamps _ _ rise (back ∙ cell)
    (record {
      reads = rising;
      writes =
          (rises_here c.self.inside.index c.self.inside.cells.items c.args.place c.args.slot c.self.invariant.indexes is c.if-slot-ne-NO_SLOT.true c.args.order.now.stamps rise).writes;
    })

pub returns-clause-ok : goal.returns-clause-ok
returns-clause-ok c =
    let is = leads c.self.inside.index c.self.inside.cells.items c.args.place c.args.slot c.self.invariant.indexes (rw (← c.self.view_is) at c.requires.slot) in
    rw (
      ← c.self.view_is,
      cell_none c.self.inside.index c.self.inside.cells.items c.args.place c.args.slot c.self.invariant.indexes is c.if-slot-ne-NO_SLOT.false,
      ← c.in_ok-cell.ensures.cell,
    ) (added c.self.inside.index c.self.inside.cells.items c.args.place c.args.slot c.self.invariant.indexes is c.if-slot-ne-NO_SLOT.false
    c.self.inside.looked c.self.inside.differed _ _ _ c.in_ok-enter.ensures.ok)

pub returns-clause-follows : goal.returns-clause-follows
returns-clause-follows c =
    let is = leads c.self.inside.index c.self.inside.cells.items c.args.place c.args.slot c.self.invariant.indexes (rw (← c.self.view_is) at c.requires.slot) in
    follow_added c.self.inside.index c.self.inside.cells.items c.args.place c.args.slot c.self.invariant.indexes is c.if-slot-ne-NO_SLOT.false c.args.order.now.stamps _ _
    (rw (← c.self.view_is) at c.requires.follows) c.in_ok-enter.ensures.ok c.in_ok-cell.ensures.rises

pub invariant_of-self-2 : goal.invariant_of-self-2
invariant_of-self-2 c =
    let is = leads c.self.inside.index c.self.inside.cells.items c.args.place c.args.slot c.self.invariant.indexes (rw (← c.self.view_is) at c.requires.slot) in
    whole-added c.self.inside.index c.self.inside.cells.items c.self.inside.marks c.self.invariant c.enter.new.index c.args.place _ c.enter.new.cells.items
    (no_cell c.self.inside.index c.self.inside.cells.items c.args.place c.args.slot c.self.invariant.indexes is c.if-slot-ne-NO_SLOT.false) c.in_ok-enter.ensures.ok
    c.enter.ensures.indexed
