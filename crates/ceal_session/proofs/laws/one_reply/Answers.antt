use Rattle.ceal_session.proofs.Replies.OneReply.{same-command, one-answer, one-state, one-reply}
use Rattle.ceal_session.proofs.laws.one_reply.Goals as goal

pub returns : goal.returns
returns c =
    let command = same-command c.one_command.ensures in
    record {
      command = command;
      answer = one-answer command c.one_text.ensures.law;
      state = one-state command;
      reply = one-reply command c.one_text.ensures.law;
    }
