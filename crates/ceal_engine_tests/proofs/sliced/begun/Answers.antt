use Rattle.std.proofs.Common.{refl}
use Rattle.ceal_engine_tests.proofs.FirstEdit.{first-edited}
use Rattle.ceal_engine_tests.proofs.sliced.begun.Goals as goal

pub begin_repair-requires : goal.begin_repair-requires
begin_repair-requires c =
    let edited =
    first-edited c.args.call.code.now c.args.inputs.now c.args.call.function c.args.call.args.now c.first_law.ensures.law c.args.inputs.now 1000 c.in-Done.forest c.in-Done.work
    (c.if-not-fits.ensures refl) (c.if-not-is_edit.ensures.fit refl) (c.if-not-is_edit.ensures.extended refl) (rw c.in-Done.is at c.in_ok-first.ensures.answer) in
    record { trace = (c.args.inputs.now, c.args.call.function, c.args.call.args.now, edited.0, edited.1, edited.2) }

pub returns : goal.returns
returns c =
    let edited =
    first-edited c.args.call.code.now c.args.inputs.now c.args.call.function c.args.call.args.now c.first_law.ensures.law c.args.inputs.now 1000 c.in-Done.forest c.in-Done.work
    (c.if-not-fits.ensures refl) (c.if-not-is_edit.ensures.fit refl) (c.if-not-is_edit.ensures.extended refl) (rw c.in-Done.is at c.in_ok-first.ensures.answer) in
    record { holds = c.in_ok-repair.ensures.holds c.args.inputs.now c.args.call.function c.args.call.args.now edited.0 edited.1 edited.2 }
