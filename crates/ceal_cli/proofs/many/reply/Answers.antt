use Rattle.ceal_cli.proofs.Sessions.GrowingReplies.{writes_text}
use Rattle.ceal_cli.specs.Members.{first_situation, Answered}
use Rattle.ceal_cli.proofs.many.reply.Goals as goal

-- the output is the reply to the line, or as much of it as the sink took
pub returns-clause-writes : goal.returns-clause-writes
returns-clause-writes g c =
    writes_text _ _ _ _ _ (Answered (first_situation c.args.many.now.maker) c.args.many.now.sessions c.args.line.now c.command.new.self.sessions) c.items.result.now
    (rw c.items.ensures.value c.in_ok-text.ensures.reply)
    c.write_all.ensures.all c.write_all.ensures.prefix c.write_all.ensures.fault c.write_all.ensures.later
