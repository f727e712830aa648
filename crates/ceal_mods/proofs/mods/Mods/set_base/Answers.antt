use Rattle.std.proofs.Common.{◌≡◌, length, sym, ◌∙◌, arith}
use Rattle.std.proofs.lemmas.List.{with_items_is}
use Rattle.ceal_mods.proofs.IndexLemmas.{length-with}
use Rattle.ceal_mods.proofs.ModsLemmas.{rise_same, at, cell_here, rises_here, changed, follow, cell_none, no_cell, touched, touched_too, added, added_touched, added_too, follow_added}
use Rattle.ceal_mods.proofs.MarksLemmas.{whole-changed, ends-noted, whole-added}
use Rattle.ceal_mods.proofs.mods.Mods.set_base.Goals as goal

pub set_base_at-requires : goal.set_base_at-requires
set_base_at-requires c = rw c.deref_mut.ensures.value
    (at c.self.inside.index c.self.inside.cells.items c.args.place c.find-slot.result c.self.invariant.indexes c.find-slot.ensures c.if-slot.true).within

pub invariant_of-self : goal.invariant_of-self
invariant_of-self c =
    let cell = rw c.deref_mut.ensures.value at c.set_base_at.ensures in
    let long : length c.set_base_at.new.cells ≡ length c.self.inside.cells.items = rw cell (length-with _ _ _) in
    let back = with_items_is c.self.inside.cells c.set_base_at.new.cells (long ∙ sym c.self.inside.cells.ok.0) in
    whole-changed c.self.inside.index c.self.inside.cells.items c.self.inside.marks c.self.invariant c.find-slot.result _ _ _ (back ∙ cell) c.note.ensures

pub returns-then-slot-clause-ok : goal.returns-then-slot-clause-ok
returns-then-slot-clause-ok c =
    let cell = rw c.deref_mut.ensures.value at c.set_base_at.ensures in
    let long : length c.set_base_at.new.cells ≡ length c.self.inside.cells.items = rw cell (length-with _ _ _) in
    let back = with_items_is c.self.inside.cells c.set_base_at.new.cells (long ∙ sym c.self.inside.cells.ok.0) in
    rw (← c.self.view_is, cell_here c.self.inside.index c.self.inside.cells.items c.args.place c.find-slot.result c.self.invariant.indexes c.find-slot.ensures c.if-slot.true)
    (changed c.self.inside.index c.self.inside.cells.items c.args.place c.find-slot.result c.self.invariant.indexes c.find-slot.ensures c.if-slot.true c.self.inside.looked
    c.self.inside.differed _ _ _ _ (rw c.note.ensures (ends-noted c.find-slot.result c.self.inside.marks)) (back ∙ cell))

pub returns-then-slot-clause-follows : goal.returns-then-slot-clause-follows
returns-then-slot-clause-follows c = λ order follows.
    let cell = rw c.deref_mut.ensures.value at c.set_base_at.ensures in
    let long : length c.set_base_at.new.cells ≡ length c.self.inside.cells.items = rw cell (length-with _ _ _) in
    let back = with_items_is c.self.inside.cells c.set_base_at.new.cells (long ∙ sym c.self.inside.cells.ok.0) in
    let rise = rw (← c.self.view_is) at follows in
    let rises = rises_here c.self.inside.index c.self.inside.cells.items c.args.place c.find-slot.result c.self.invariant.indexes c.find-slot.ensures c.if-slot.true order rise in
    follow c.self.inside.index c.self.inside.cells.items c.args.place c.find-slot.result c.self.invariant.indexes c.find-slot.ensures c.if-slot.true order _ _ rise (back ∙ cell)
    (record { writes = rises.writes; reads = rises.reads })

pub returns-in_err-enter_base-clause-follows : goal.returns-in_err-enter_base-clause-follows
returns-in_err-enter_base-clause-follows c = λ order follows.
    let rise = rw (← c.self.view_is) at follows in
    rise_same order c.self.inside.cells.items c.enter_base.new.cells.items rise c.in_err-enter_base.ensures.err

pub returns-clause-ok : goal.returns-clause-ok
returns-clause-ok c =
    rw (← c.self.view_is, cell_none c.self.inside.index c.self.inside.cells.items c.args.place c.find-slot.result c.self.invariant.indexes c.find-slot.ensures c.if-slot.false)
    (added c.self.inside.index c.self.inside.cells.items c.args.place c.find-slot.result c.self.invariant.indexes c.find-slot.ensures c.if-slot.false c.self.inside.looked
    c.self.inside.differed _ _ _ c.in_ok-enter_base.ensures.ok)

pub returns-clause-follows : goal.returns-clause-follows
returns-clause-follows c = λ order follows.
    let rise = rw (← c.self.view_is) at follows in
    follow_added c.self.inside.index c.self.inside.cells.items c.args.place c.find-slot.result c.self.invariant.indexes c.find-slot.ensures c.if-slot.false order _ _ rise c.in_ok-enter_base.ensures.ok
    (record { writes = tt; reads = tt })

pub returns-then-slot-clause-touched : goal.returns-then-slot-clause-touched
returns-then-slot-clause-touched c =
    let cell = rw c.deref_mut.ensures.value at c.set_base_at.ensures in
    let long : length c.set_base_at.new.cells ≡ length c.self.inside.cells.items = rw cell (length-with _ _ _) in
    let back = with_items_is c.self.inside.cells c.set_base_at.new.cells (long ∙ sym c.self.inside.cells.ok.0) in
    touched c.self.inside.index c.self.inside.cells.items c.args.place c.find-slot.result c.self.invariant.indexes c.find-slot.ensures c.if-slot.true _ _ (back ∙ cell)

pub returns-then-slot-clause-others_touched : goal.returns-then-slot-clause-others_touched
returns-then-slot-clause-others_touched c = λ p h.
    let cell = rw c.deref_mut.ensures.value at c.set_base_at.ensures in
    let long : length c.set_base_at.new.cells ≡ length c.self.inside.cells.items = rw cell (length-with _ _ _) in
    let back = with_items_is c.self.inside.cells c.set_base_at.new.cells (long ∙ sym c.self.inside.cells.ok.0) in
    touched_too c.self.inside.index c.self.inside.cells.items c.args.place c.find-slot.result c.self.invariant.indexes c.find-slot.ensures c.if-slot.true _ _ (back ∙ cell) p
    (rw (← c.self.view_is) at h)

pub returns-in_err-enter_base-clause-sure : goal.returns-in_err-enter_base-clause-sure
returns-in_err-enter_base-clause-sure c = λ h.
    let none = no_cell c.self.inside.index c.self.inside.cells.items c.args.place c.find-slot.result c.self.invariant.indexes c.find-slot.ensures c.if-slot.false in
    let there = rw (← c.self.view_is) at h in
    absurd (grind (arith, rw none at there))

pub returns-clause-touched : goal.returns-clause-touched
returns-clause-touched c =
    added_touched c.self.inside.index c.self.inside.cells.items c.args.place c.find-slot.result c.self.invariant.indexes c.find-slot.ensures c.if-slot.false _ _ c.in_ok-enter_base.ensures.ok

pub returns-clause-others_touched : goal.returns-clause-others_touched
returns-clause-others_touched c = λ p h.
    added_too c.self.inside.index c.self.inside.cells.items c.args.place c.find-slot.result c.self.invariant.indexes c.find-slot.ensures c.if-slot.false _ _ c.in_ok-enter_base.ensures.ok p
    (rw (← c.self.view_is) at h)

pub invariant_of-self-2 : goal.invariant_of-self-2
invariant_of-self-2 c =
    whole-added c.self.inside.index c.self.inside.cells.items c.self.inside.marks c.self.invariant c.enter_base.new.index c.args.place _ c.enter_base.new.cells.items
    (no_cell c.self.inside.index c.self.inside.cells.items c.args.place c.find-slot.result c.self.invariant.indexes c.find-slot.ensures c.if-slot.false) c.in_ok-enter_base.ensures.ok
    c.enter_base.ensures.indexed
