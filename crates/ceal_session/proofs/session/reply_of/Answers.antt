use Rattle.std.proofs.Common.{inl, inr, None, Some, Err, ap, refl}
use Rattle.ceal_engine.specs.Cost.{CostOfCall}
use Rattle.ceal_session.proofs.Replies.QuestionsAnswered.{has-reads}
use Rattle.ceal_session.proofs.Engine.WorkWithinBound.{line-bounded}
use Rattle.ceal_session.proofs.Replies.TextOfReply.{told, if-ok, on-ok-of, on-err}
use Rattle.ceal_session.proofs.Inputs.ShapesOfInputs.{makes-named}
use Rattle.ceal_session.specs.SessionState.{situation}
use Rattle.ceal_session.specs.Steps.{Step}
use Rattle.ceal_theory.specs.Pasts.{goes}
use Rattle.ceal_session.proofs.session.reply_of.Goals as goal

pub reply_to-reply-requires : goal.reply_to-reply-requires
reply_to-reply-requires c = record {
  some = has-reads c.in-Ok.command c.args.line.now c.in-Ok.ensures.found;
  named = makes-named c.in-Ok.command c.args.line.now c.in-Ok.ensures.found;
}

pub returns-in-Ok-clause-reply : goal.returns-in-Ok-clause-reply
returns-in-Ok-clause-reply c =
    if-ok c.reply_to-reply.result
    (λ reply h. record { command = Some c.in-Ok.command; reads = c.in-Ok.ensures.found; told = ap (λ (step : Step). step.reply) h; state = ap (λ (step : Step). step.state) h })
    c.reply_to-reply.ensures.ok

pub returns-in-Ok-clause-tells : goal.returns-in-Ok-clause-tells
returns-in-Ok-clause-tells c =
    let after = c.reply_to-reply.new.state in
    told c.args.state.now after (goes (situation after).past) c.in-Ok.command c.names-names.ensures.counted c.reply_to-reply.result c.reply_to-reply.ensures.ok c.reply_to-reply.ensures.quiet

pub returns-in-Ok-clause-trace : goal.returns-in-Ok-clause-trace
returns-in-Ok-clause-trace c =
    on-ok-of c.reply_to-reply.result (λ h. record { command = Some c.in-Ok.command; reads = c.in-Ok.ensures.found; goes = h }) c.reply_to-reply.ensures.trace

pub returns-in-Ok-clause-bounded : goal.returns-in-Ok-clause-bounded
returns-in-Ok-clause-bounded c =
    on-ok-of c.reply_to-reply.result
    (λ h. record {
      command = Some c.in-Ok.command;
      reads = c.in-Ok.ensures.found;
      bounded =
          line-bounded (situation c.args.state.now) (situation c.reply_to-reply.new.state) c.in-Ok.command c.traced.ensures h;
    })
    c.reply_to-reply.ensures.trace

pub returns-in-Ok-clause-left : goal.returns-in-Ok-clause-left
returns-in-Ok-clause-left c =
    on-err c.reply_to-reply.result
    (λ h. elim h [ inl same ↦ inl same | inr d ↦ inr (record { command = c.in-Ok.command; reads = c.in-Ok.ensures.found; call = d.0; runs = d.1; left = d.2 }) ])
    c.reply_to-reply.ensures.err

pub returns-in-Err-Unreadable-clause-reply : goal.returns-in-Err-Unreadable-clause-reply
returns-in-Err-Unreadable-clause-reply c =
    record { command = None; reads = c.in-Err-Unreadable.ensures.unreadable (ap Err c.in-Err-Unreadable.field-0-is); told = refl; state = refl }

pub returns-in-Err-Unreadable-clause-trace : goal.returns-in-Err-Unreadable-clause-trace
returns-in-Err-Unreadable-clause-trace c =
    record { command = None; reads = c.in-Err-Unreadable.ensures.unreadable (ap Err c.in-Err-Unreadable.field-0-is); goes = record { code = refl; past = refl; bound = refl } }

pub returns-in-Err-Unreadable-clause-bounded : goal.returns-in-Err-Unreadable-clause-bounded
returns-in-Err-Unreadable-clause-bounded c =
    record { command = None; reads = c.in-Err-Unreadable.ensures.unreadable (ap Err c.in-Err-Unreadable.field-0-is); bounded = tt }

-- what cannot be read leaves the engine as it is
pub returns-in-Err-Unreadable-clause-cost : goal.returns-in-Err-Unreadable-clause-cost
returns-in-Err-Unreadable-clause-cost c = CostOfCall.same
