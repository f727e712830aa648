use Rattle.std.proofs.Common.{◌∙◌, ap, take}
use Rattle.ceal_cli.specs.Lines.{without_return}
use Rattle.ceal_serve.proofs.Following.{first-begins, first-next}
use Rattle.ceal_serve.proofs.Steps.{first-owed}
use Rattle.ceal_serve.proofs.replies.reply_first.Goals as goal

pub reply-requires : goal.reply-requires
reply-requires g c = record {
  owed =
      first-owed c.kept_line.ensures.law _ _ _ _ _ c.requires.line c.requires.at
      (c.without_return.ensures ∙ ap (λ t. without_return (take c.args.end t)) c.rest.ensures.rest);
}

pub returns-in_err-reply-clause-beginning : goal.returns-in_err-reply-clause-beginning
returns-in_err-reply-clause-beginning g c =
    first-begins _ c.some_reply.ensures.script c.kept_line.ensures.law _ _ _ _ _ _ c.requires.line c.requires.at
    (c.without_return.ensures ∙ ap (λ t. without_return (take c.args.end t)) c.rest.ensures.rest) c.reply.ensures.part

pub returns-clause-at : goal.returns-clause-at
returns-clause-at g c =
    first-next c.kept_line.ensures.law _ _ _ _ _ _ _ _ c.requires.line c.requires.at
    (c.without_return.ensures ∙ ap (λ t. without_return (take c.args.end t)) c.rest.ensures.rest) c.take.ensures c.in_ok-reply.ensures.all
