use Rattle.ceal_many.proofs.Answering.{wrote, lost}
use Rattle.ceal_many.proofs.entry.answer.Goals as goal

-- the session answered its line, and each line of the reply gets the session's name
pub returns-clause-reply : goal.returns-clause-reply
returns-clause-reply g c =
    wrote g.A.Answerer.stands g.A.Answerer.answers g.A.Answerer.leaves c.args.entry.now.name c.args.line.now c.in_ok-reply.reply c.items-2.result.now
    c.args.entry.now.answerer c.command.new.self c.items-2.ensures.value c.in_ok-reply.ensures.reply c.prefixed.result
    (rw (← c.items.ensures.value) c.prefixed.ensures)

-- there was no memory for the prefixed lines, but the session has its answer
pub returns-clause-left : goal.returns-clause-left
returns-clause-left g c =
    lost g.A.Answerer.stands g.A.Answerer.answers g.A.Answerer.leaves c.args.entry.now.name c.args.line.now c.in_ok-reply.reply c.items-2.result.now
    c.args.entry.now.answerer c.command.new.self c.items-2.ensures.value c.in_ok-reply.ensures.reply c.prefixed.result
