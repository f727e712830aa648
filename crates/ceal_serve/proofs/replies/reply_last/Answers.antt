use Rattle.ceal_serve.proofs.Following.{last-begins, last-done}
use Rattle.ceal_serve.proofs.Steps.{last-owed}
use Rattle.ceal_serve.proofs.replies.reply_last.Goals as goal

pub reply-requires : goal.reply-requires
reply-requires g c = record { owed = last-owed c.kept_line.ensures.law _ _ _ c.requires.one c.requires.last }

pub returns-in_err-reply-clause-beginning : goal.returns-in_err-reply-clause-beginning
returns-in_err-reply-clause-beginning g c = last-begins c.kept_line.ensures.law _ _ _ _ c.requires.one c.requires.last c.some_reply.ensures.script c.reply.ensures.part

pub returns-clause-done : goal.returns-clause-done
returns-clause-done g c = last-done c.kept_line.ensures.law _ _ _ _ c.requires.one c.requires.last _ c.in_ok-reply.ensures.all

pub returns-clause-beginning : goal.returns-clause-beginning
returns-clause-beginning g c = last-begins c.kept_line.ensures.law _ _ _ _ c.requires.one c.requires.last c.some_reply.ensures.script c.reply.ensures.part
