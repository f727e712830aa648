use Rattle.std.proofs.Common.{refl}
use Rattle.ceal_engine_tests.proofs.FirstEdit.{first-edited}
use Rattle.ceal_engine_tests.proofs.edits.repaired.Goals as goal

pub adjust-requires-clause-trace : goal.adjust-requires-clause-trace
adjust-requires-clause-trace c =
    let edited =
    first-edited c.args.code.now c.args.before.now c.args.function c.args.args.now c.first_law.ensures.law c.args.after.now c.args.fuel c.in-Done.forest c.in-Done.work
    (c.if-not-fits.ensures refl) (c.if-not-is_edit.ensures.fit refl) (c.if-not-is_edit.ensures.extended refl) (rw c.in-Done.is at c.in_ok-first.ensures.answer) in
    (c.args.before.now, c.args.function, c.args.args.now, edited.0, edited.1, edited.2)
