use Rattle.ceal_session.specs.SessionState.{situation}
use Rattle.ceal_cli.proofs.Sessions.GrowingReplies.{puts_reply}
use Rattle.ceal_cli.proofs.replies.reply.Goals as goal

-- the output is the reply, or as much of it as the sink took
pub returns : goal.returns
returns g c = record {
  writes = puts_reply _ _ _ _ _ (situation c.args.session.now) (situation c.answer.new.self) c.args.line.now c.in_ok-answer.answer
      (record { answers = c.in_ok-answer.ensures.reply; repairs = c.in_ok-answer.ensures.trace })
      (rw (← c.items.ensures.value) c.write_all.ensures.all) (rw (← c.items.ensures.value) c.write_all.ensures.prefix) c.write_all.ensures.fault c.write_all.ensures.later;
  memory = λ is own. absurd (own (c.write_all.ensures.memory is));
}
