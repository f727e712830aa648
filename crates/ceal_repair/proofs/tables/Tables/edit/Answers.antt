use Rattle.std.proofs.Common.{◌≡◌, true, false, sym, ap, ◌∙◌}
use Rattle.ceal_mods.specs.declared.cell.Cell.{Cell}
use Rattle.ceal_order.specs.Stamps.{is_in}
use Rattle.ceal_repair.proofs.TableCalls.CutKeepsTables.{as-tables}
use Rattle.ceal_repair.proofs.TableCalls.BaseEdit.{edit-base, edit-kept, zero-base}
use Rattle.ceal_trace.specs.Nodes.{stamps_in}
use Rattle.std.proofs.Common.{arith, length}
use Rattle.ceal_mods.specs.Mods.{Contents}
use Rattle.std.proofs.Common.{inl, inr}
use Rattle.ceal_mods.specs.Mods.{places_of}
use Rattle.ceal_repair.proofs.tables.Tables.edit.Goals as goal

pub returns-then-begun-clause-base : goal.returns-then-begun-clause-base
returns-then-begun-clause-base c = edit-base c.args.self.now c.requires.kept c.args.place c.args.value c.begin.new.self (c.in_ok-begun.ensures.begun c.if-begun.true)

-- the place was not there before, so nothing has read it
pub returns-then-begun-clause-kept : goal.returns-then-begun-clause-kept
returns-then-begun-clause-kept c =
    let old = c.args.self.now in
    let change = c.in_ok-begun.ensures.begun c.if-begun.true in
    edit-kept old c.requires.kept c.args.place c.args.value c.begin.new.self change c.root-root.result.0 c.root-root.ensures.first c.root-root.ensures.node old.stale
    (λ t i. i) (λ t n i. absurd (let no : true ≡ false = sym i ∙ n in cc))
    (λ r sees least.
    let none = ap (λ (cell : Cell). is_in r cell.reads) (c.in_ok-begun.ensures.untouched c.if-begun.true) in
    let here = ap (λ (cell : Cell). is_in r cell.reads) change.here in
    absurd (let no : true ≡ false = sym sees.there ∙ (here ∙ none) in cc))
    (c.begin.ensures.follows (stamps_in old.trace.nodes) c.requires.kept.step.mods) c.requires.kept.step.stale

pub returns-clause-base : goal.returns-clause-base
returns-clause-base c = λ p.
    let change = rw (c.in_ok-begun.ensures.left c.if-begun.false) at c.in_ok-set_base.ensures.ok in
    rw c.wake.ensures.mods (edit-base c.args.self.now c.requires.kept c.args.place c.args.value c.set_base.new.self change p)

-- the read that this affects is queued, and the other tables lie along the order as before
pub returns-clause-kept : goal.returns-clause-kept
returns-clause-kept c =
    let old = c.args.self.now in
    let left = c.in_ok-begun.ensures.left c.if-begun.false in
    let change = rw left at c.in_ok-set_base.ensures.ok in
    as-tables c.wake.new.self old.trace c.set_base.new.self old.memo c.wake.ensures.trace c.wake.ensures.mods c.wake.ensures.memo
    (edit-kept old c.requires.kept c.args.place c.args.value c.set_base.new.self change c.root-root.result.0 c.root-root.ensures.first c.root-root.ensures.node c.wake.new.self.stale
    (λ t i. c.wake.ensures.more t (rw c.reserve.ensures.stamps i)) (λ t i. c.wake.ensures.only t (rw c.reserve.ensures.stamps i)) c.wake.ensures.woken
    (c.set_base.ensures.follows (stamps_in old.trace.nodes) (rw left c.requires.kept.step.mods)) (rw c.wake.ensures.trace at c.wake.ensures.stale))

pub returns-clause-queued : goal.returns-clause-queued
returns-clause-queued c =
    let d = c.wake.ensures.one in
    let e = ap length c.reserve.ensures.stamps in omega (arith, d, e)

pub returns-then-begun-clause-differed : goal.returns-then-begun-clause-differed
returns-then-begun-clause-differed c = let change = c.in_ok-begun.ensures.begun c.if-begun.true in change.differed

pub returns-clause-differed : goal.returns-clause-differed
returns-clause-differed c =
    let change = rw (c.in_ok-begun.ensures.left c.if-begun.false) at c.in_ok-set_base.ensures.ok in
    ap (λ (m : Contents). m.differed) c.wake.ensures.mods ∙ change.differed

pub returns-then-begun-clause-looked : goal.returns-then-begun-clause-looked
returns-then-begun-clause-looked c = let change = c.in_ok-begun.ensures.begun c.if-begun.true in change.looked

pub returns-clause-looked : goal.returns-clause-looked
returns-clause-looked c =
    let change = rw (c.in_ok-begun.ensures.left c.if-begun.false) at c.in_ok-set_base.ensures.ok in
    ap (λ (m : Contents). m.looked) c.wake.ensures.mods ∙ change.looked

pub returns-then-begun-clause-marks : goal.returns-then-begun-clause-marks
returns-then-begun-clause-marks c = let change = c.in_ok-begun.ensures.begun c.if-begun.true in change.marked

pub returns-clause-marks : goal.returns-clause-marks
returns-clause-marks c =
    let change = rw (c.in_ok-begun.ensures.left c.if-begun.false) at c.in_ok-set_base.ensures.ok in
    ap (λ (m : Contents). m.marked) c.wake.ensures.mods ∙ change.marked

-- a place that was never touched holds 0
pub returns-then-holds_anyway-clause-base : goal.returns-then-holds_anyway-clause-base
returns-then-holds_anyway-clause-base c =
    let told = c.holds_anyway.ensures.yes c.if-holds_anyway.true in
    zero-base c.args.self.now.mods c.args.place c.args.value told.0 told.1

pub returns-then-begun-clause-bare : goal.returns-then-begun-clause-bare
returns-then-begun-clause-bare c = λ zero none. absurd (none (c.holds_anyway.ensures.no c.if-holds_anyway.false zero))

pub returns-clause-bare : goal.returns-clause-bare
returns-clause-bare c = λ zero none. absurd (none (c.holds_anyway.ensures.no c.if-holds_anyway.false zero))

-- the place has a cell, and no other one comes
pub returns-then-begun-clause-cells : goal.returns-then-begun-clause-cells
returns-then-begun-clause-cells c = let change = c.in_ok-begun.ensures.begun c.if-begun.true in inr change.places

pub returns-clause-cells : goal.returns-clause-cells
returns-clause-cells c =
    let change = rw (c.in_ok-begun.ensures.left c.if-begun.false) at c.in_ok-set_base.ensures.ok in
    inr (ap (λ (m : Contents). places_of m.cells) c.wake.ensures.mods ∙ change.places)
