use Rattle.std.proofs.Common.{inl, inr, refl}
use Rattle.ceal_serve.proofs.Hearing.{nothing-said, prefix-said, says-as}
use Rattle.ceal_serve.proofs.Steps.{owed-known}
use Rattle.ceal_serve.proofs.replies.reply.Goals as goal

pub say-requires : goal.say-requires
say-requires g c = record {
  step = rw c.items.ensures.value
      (owed-known _ _ _ _ _ (record { answers = c.in_ok-answer.ensures.reply; repairs = c.in_ok-answer.ensures.trace }) c.requires.owed);
}

pub returns-in_err-answer-clause-part : goal.returns-in_err-answer-clause-part
returns-in_err-answer-clause-part g c = nothing-said _ _ (inl refl)

pub returns-in_err-say-clause-part : goal.returns-in_err-say-clause-part
returns-in_err-say-clause-part g c =
    says-as _ _ _ _ (λ out p. inr (_, _, record { answers = c.in_ok-answer.ensures.reply; repairs = c.in_ok-answer.ensures.trace }, p))
    (rw (← c.items.ensures.value) (prefix-said _ _ _ c.say.ensures.prefix))
