use Rattle.ceal_session.specs.SessionState.{situation}
use Rattle.ceal_cli.proofs.Sessions.SessionInSituation.{answered-in, lost-in}
use Rattle.ceal_cli.proofs.members.MemberAnswerer.command.Goals as goal

pub returns-clause-reply : goal.returns-clause-reply
returns-clause-reply c =
    answered-in c.command.result (situation c.args.self.now.session) (situation c.command.new.self) c.args.line.now c.kept_line.ensures.law c.command.ensures.reply c.command.ensures.trace

pub returns-clause-left : goal.returns-clause-left
returns-clause-left c = lost-in c.command.result (situation c.args.self.now.session) (situation c.command.new.self) c.args.line.now c.some_reply.ensures.dropped c.command.ensures.left
