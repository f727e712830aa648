use Rattle.std.proofs.Common.{◌≡◌, length, ap, sym, ◌∙◌, arith}
use Rattle.std.proofs.lemmas.List.{with_items_is}
use Rattle.ceal_mods.proofs.IndexLemmas.{length-with, cell_with, where_with, where_pushed, none_held}
use Rattle.ceal_mods.proofs.ModsLemmas.{at, cell_here, rises_here, changed, follow, cell_none, no_cell, added, follow_added}
use Rattle.ceal_mods.proofs.MarksLemmas.{whole-changed, whole-noted, ends-noted, whole-added}
use Rattle.ceal_mods.proofs.mods.Mods.add_write.Goals as goal

pub add_write_at-requires-clause-there : goal.add_write_at-requires-clause-there
add_write_at-requires-clause-there c = rw c.deref_mut.ensures.value
    (at c.self.inside.index c.self.inside.cells.items c.args.place c.find-slot.result c.self.invariant.indexes c.find-slot.ensures c.if-slot.true).within

pub add_write_at-requires-clause-rising : goal.add_write_at-requires-clause-rising
add_write_at-requires-clause-rising c = rw c.deref_mut.ensures.value
    (rises_here c.self.inside.index c.self.inside.cells.items c.args.place c.find-slot.result c.self.invariant.indexes c.find-slot.ensures c.if-slot.true c.args.order.now.stamps
    (rw (← c.self.view_is) at c.requires.follows)).writes

pub add_write_at-requires-clause-absent : goal.add_write_at-requires-clause-absent
add_write_at-requires-clause-absent c = rw c.deref_mut.ensures.value
    (rw (cell_here c.self.inside.index c.self.inside.cells.items c.args.place c.find-slot.result c.self.invariant.indexes c.find-slot.ensures c.if-slot.true) at
    (rw (← c.self.view_is) at c.requires.absent))

pub invariant_of-self-then-slot : goal.invariant_of-self-then-slot
invariant_of-self-then-slot c =
    let cell = rw c.deref_mut.ensures.value at c.in_ok-add_write_at.ensures.ok in
    let long : length c.add_write_at.new.cells ≡ length c.self.inside.cells.items = rw cell (length-with _ _ _) in
    let back = with_items_is c.self.inside.cells c.add_write_at.new.cells (long ∙ sym c.self.inside.cells.ok.0) in
    whole-changed c.self.inside.index c.self.inside.cells.items c.self.inside.marks c.self.invariant c.find-slot.result _ _ _ (back ∙ cell) c.note.ensures

pub returns-then-slot-clause-ok : goal.returns-then-slot-clause-ok
returns-then-slot-clause-ok c =
    let cell = rw c.deref_mut.ensures.value at c.in_ok-add_write_at.ensures.ok in
    let long : length c.add_write_at.new.cells ≡ length c.self.inside.cells.items = rw cell (length-with _ _ _) in
    let back = with_items_is c.self.inside.cells c.add_write_at.new.cells (long ∙ sym c.self.inside.cells.ok.0) in
    rw (← c.self.view_is, cell_here c.self.inside.index c.self.inside.cells.items c.args.place c.find-slot.result c.self.invariant.indexes c.find-slot.ensures c.if-slot.true)
    (changed c.self.inside.index c.self.inside.cells.items c.args.place c.find-slot.result c.self.invariant.indexes c.find-slot.ensures c.if-slot.true c.self.inside.looked
    c.self.inside.differed _ _ _ _ (rw c.note.ensures (ends-noted c.find-slot.result c.self.inside.marks)) (back ∙ cell))

pub returns-then-slot-clause-follows : goal.returns-then-slot-clause-follows
returns-then-slot-clause-follows c =
    let cell = rw c.deref_mut.ensures.value at c.in_ok-add_write_at.ensures.ok in
    let long : length c.add_write_at.new.cells ≡ length c.self.inside.cells.items = rw cell (length-with _ _ _) in
    let back = with_items_is c.self.inside.cells c.add_write_at.new.cells (long ∙ sym c.self.inside.cells.ok.0) in
    let rise = rw (← c.self.view_is) at c.requires.follows in
    let within = (at c.self.inside.index c.self.inside.cells.items c.args.place c.find-slot.result c.self.invariant.indexes c.find-slot.ensures c.if-slot.true).within in
    let rising = rw (cell, cell_with c.self.inside.cells.items c.find-slot.result _ within) at c.add_write_at.ensures.rising in
    follow c.self.inside.index c.self.inside.cells.items c.args.place c.find-slot.result c.self.invariant.indexes c.find-slot.ensures c.if-slot.true c.args.order.now.stamps _ _ rise (back ∙ cell)
    (record {
      writes = rising;
      reads =
          (rises_here c.self.inside.index c.self.inside.cells.items c.args.place c.find-slot.result c.self.invariant.indexes c.find-slot.ensures c.if-slot.true c.args.order.now.stamps rise).reads;
    })

pub returns-clause-ok : goal.returns-clause-ok
returns-clause-ok c =
    rw (
      ← c.self.view_is,
      cell_none c.self.inside.index c.self.inside.cells.items c.args.place c.find-slot.result c.self.invariant.indexes c.find-slot.ensures c.if-slot.false,
      ← c.in_ok-cell.ensures.cell,
    ) (added c.self.inside.index c.self.inside.cells.items c.args.place c.find-slot.result c.self.invariant.indexes c.find-slot.ensures c.if-slot.false
    c.self.inside.looked c.self.inside.differed _ _ _ c.in_ok-enter.ensures.ok)

pub returns-clause-follows : goal.returns-clause-follows
returns-clause-follows c =
    follow_added c.self.inside.index c.self.inside.cells.items c.args.place c.find-slot.result c.self.invariant.indexes c.find-slot.ensures c.if-slot.false c.args.order.now.stamps _ _
    (rw (← c.self.view_is) at c.requires.follows) c.in_ok-enter.ensures.ok c.in_ok-cell.ensures.rises

pub invariant_of-self : goal.invariant_of-self
invariant_of-self c =
    let same = rw c.deref_mut.ensures.value at c.in_err-add_write_at.ensures.err in
    let long : length c.add_write_at.new.cells ≡ length c.self.inside.cells.items = ap length same in
    let back = with_items_is c.self.inside.cells c.add_write_at.new.cells (long ∙ sym c.self.inside.cells.ok.0) in
    whole-noted c.self.inside.index c.self.inside.cells.items c.self.inside.marks c.self.invariant c.find-slot.result _ _ (back ∙ same) c.note.ensures

pub invariant_of-self-2 : goal.invariant_of-self-2
invariant_of-self-2 c =
    whole-added c.self.inside.index c.self.inside.cells.items c.self.inside.marks c.self.invariant c.enter.new.index c.args.place _ c.enter.new.cells.items
    (no_cell c.self.inside.index c.self.inside.cells.items c.args.place c.find-slot.result c.self.invariant.indexes c.find-slot.ensures c.if-slot.false) c.in_ok-enter.ensures.ok
    c.enter.ensures.indexed

-- the cell stays where it is
pub returns-then-slot-clause-slot : goal.returns-then-slot-clause-slot
returns-then-slot-clause-slot c =
    let cell = rw c.deref_mut.ensures.value at c.in_ok-add_write_at.ensures.ok in
    let long : length c.add_write_at.new.cells ≡ length c.self.inside.cells.items = rw cell (length-with _ _ _) in
    let back = with_items_is c.self.inside.cells c.add_write_at.new.cells (long ∙ sym c.self.inside.cells.ok.0) in
    rw (back ∙ cell)
    (c.find-slot.ensures ∙ c.self.invariant.indexes.slots c.args.place ∙ sym (where_with 0 c.args.place c.find-slot.result _ c.self.inside.cells.items))

-- a new cell comes after the others
pub returns-clause-slot : goal.returns-clause-slot
returns-clause-slot c =
    let few = c.self.invariant.indexes.few in
    let none = none_held c.self.inside.index c.self.inside.cells.items c.args.place c.find-slot.result c.self.invariant.indexes c.find-slot.ensures c.if-slot.false in
    let last = where_pushed 0 c.args.place c.in_ok-cell.cell c.self.inside.cells.items (omega (arith, few)) none in
    rw c.in_ok-enter.ensures.ok (omega (arith, last, few))
