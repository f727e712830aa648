use Rattle.ceal_cli.proofs.Outputs.OneRecord.{determined}
use Rattle.ceal_cli.proofs.Sessions.ManyIsRun.{many-is-run}
use Rattle.ceal_cli.proofs.laws.own_replies.Goals as goal

pub returns : goal.returns
returns c = record {
  own = c.own_replies.ensures.own;
  refused = c.own_replies.ensures.refused;
  once = determined c.one_reply-2.ensures.reply;
  alone = c.one_reply.ensures.alone;
  run = many-is-run c.one_split.ensures c.one_script.ensures.joined c.own_replies.ensures.own;
}
