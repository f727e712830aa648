use Rattle.std.proofs.Common.{sym, ap, ◌∙◌}
use Rattle.ceal_session.specs.UndoneEdits.{undone}
use Rattle.ceal_session.proofs.Inputs.UndoneEdits.{undone-more}
use Rattle.ceal_session.proofs.journal.undo.Goals as goal

pub loop-edit-preserved : goal.loop-edit-preserved
loop-edit-preserved c =
    ap (undone c.in-Some.before.now) c.set_base.ensures
    ∙ (sym (undone-more c.in-Some.before.now c.in-Some.edit.now c.loop-edit.inputs) ∙ (ap (λ r. undone r c.loop-edit.inputs) (sym c.in-Some.ensures.cases.0) ∙ c.loop-edit.invariant))
