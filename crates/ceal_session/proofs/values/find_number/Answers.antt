use Rattle.std.proofs.Common.{◌∙◌, Err, refl, sym, subst}
use Rattle.ceal_session.proofs.Replies.NumberAsPrinted.{number-by-handle, error-by-handle}
use Rattle.ceal_session.specs.Values.{Gives}
use Rattle.ceal_session.proofs.values.find_number.Goals as goal

pub returns-in-Ok : goal.returns-in-Ok
returns-in-Ok c = λ command reads.
    subst (λ wanted. Gives c.answer_of.result wanted)
    (c.number_at.ensures ∙ sym (number-by-handle c.args.state.now.state command c.in-Ok.handle (c.in-Ok.ensures command reads))) c.answer_of.ensures

pub returns-in-Err : goal.returns-in-Err
returns-in-Err c = λ command reads. error-by-handle c.args.state.now.state command c.in-Err.error (Err c.in-Err.error) (Err c.in-Err.error) refl refl (c.in-Err.ensures command reads)
