use Rattle.std.proofs.Common.{arith}
use Rattle.ceal_mods.proofs.ModsLemmas.{rise_same, has_cell, no_cell, cell_none, added, added_touched, added_too, follow_added}
use Rattle.ceal_mods.proofs.MarksLemmas.{whole-added}
use Rattle.ceal_mods.proofs.mods.Mods.begin.Goals as goal

pub returns-in_err-enter_base-clause-follows : goal.returns-in_err-enter_base-clause-follows
returns-in_err-enter_base-clause-follows c = λ order follows.
    let rise = rw (← c.self.view_is) at follows in
    rise_same order c.self.inside.cells.items c.enter_base.new.cells.items rise c.in_err-enter_base.ensures.err

pub returns-then-slot-clause-known : goal.returns-then-slot-clause-known
returns-then-slot-clause-known c = λ _.
    rw (← c.self.view_is) (has_cell c.self.inside.index c.self.inside.cells.items c.args.place c.find-slot.result c.self.invariant.indexes c.find-slot.ensures c.if-slot.true)

pub returns-then-slot-clause-touched : goal.returns-then-slot-clause-touched
returns-then-slot-clause-touched c =
    rw (← c.self.view_is) (has_cell c.self.inside.index c.self.inside.cells.items c.args.place c.find-slot.result c.self.invariant.indexes c.find-slot.ensures c.if-slot.true)

pub returns-in_err-enter_base-clause-sure : goal.returns-in_err-enter_base-clause-sure
returns-in_err-enter_base-clause-sure c = λ h.
    let none = no_cell c.self.inside.index c.self.inside.cells.items c.args.place c.find-slot.result c.self.invariant.indexes c.find-slot.ensures c.if-slot.false in
    let there = rw (← c.self.view_is) at h in
    absurd (grind (arith, rw none at there))

pub returns-clause-touched : goal.returns-clause-touched
returns-clause-touched c =
    added_touched c.self.inside.index c.self.inside.cells.items c.args.place c.find-slot.result c.self.invariant.indexes c.find-slot.ensures c.if-slot.false _ _ c.in_ok-enter_base.ensures.ok

pub returns-clause-others_touched : goal.returns-clause-others_touched
returns-clause-others_touched c = λ p h.
    added_too c.self.inside.index c.self.inside.cells.items c.args.place c.find-slot.result c.self.invariant.indexes c.find-slot.ensures c.if-slot.false _ _ c.in_ok-enter_base.ensures.ok p
    (rw (← c.self.view_is) at h)

pub returns-clause-untouched : goal.returns-clause-untouched
returns-clause-untouched c = λ _.
    rw (← c.self.view_is) (cell_none c.self.inside.index c.self.inside.cells.items c.args.place c.find-slot.result c.self.invariant.indexes c.find-slot.ensures c.if-slot.false)

pub returns-clause-begun : goal.returns-clause-begun
returns-clause-begun c = λ _.
    rw (← c.self.view_is, cell_none c.self.inside.index c.self.inside.cells.items c.args.place c.find-slot.result c.self.invariant.indexes c.find-slot.ensures c.if-slot.false)
    (added c.self.inside.index c.self.inside.cells.items c.args.place c.find-slot.result c.self.invariant.indexes c.find-slot.ensures c.if-slot.false c.self.inside.looked
    c.self.inside.differed _ _ _ c.in_ok-enter_base.ensures.ok)

pub returns-clause-follows : goal.returns-clause-follows
returns-clause-follows c = λ order follows.
    let rise = rw (← c.self.view_is) at follows in
    follow_added c.self.inside.index c.self.inside.cells.items c.args.place c.find-slot.result c.self.invariant.indexes c.find-slot.ensures c.if-slot.false order _ _ rise c.in_ok-enter_base.ensures.ok
    (record { writes = tt; reads = tt })

pub invariant_of-self-2 : goal.invariant_of-self-2
invariant_of-self-2 c =
    whole-added c.self.inside.index c.self.inside.cells.items c.self.inside.marks c.self.invariant c.enter_base.new.index c.args.place _ c.enter_base.new.cells.items
    (no_cell c.self.inside.index c.self.inside.cells.items c.args.place c.find-slot.result c.self.invariant.indexes c.find-slot.ensures c.if-slot.false) c.in_ok-enter_base.ensures.ok
    c.enter_base.ensures.indexed
