use Rattle.std.proofs.Common.{◌++◌, ◌∷◌, [], ◌∙◌, ap₂, sym}
use Rattle.ceal_session.proofs.Inputs.NamesInTable.{take-next}
use Rattle.ceal_session.proofs.saving.names_of.Goals as goal

pub loop-number-preserved : goal.loop-number-preserved
loop-number-preserved c =
    let l = c.loop-number in
    c.in_ok-push-in-Some.ensures.items
    ∙ (ap₂ (λ xs x. xs ++ x ∷ []) l.invariant c.in_ok-copy-in-Some.ensures.equal ∙ sym (take-next c.args.names.now l.number c.in-Some.name.now (sym c.in-Some.ensures.name)))
