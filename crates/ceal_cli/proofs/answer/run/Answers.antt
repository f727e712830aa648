use Rattle.std.proofs.Common.{inl, refl}
use Rattle.ceal_cli.proofs.Outputs.OutputByMode.{first_replies, replied}
use Rattle.ceal_cli.proofs.Sessions.GrowingReplies.{nothing}
use Rattle.ceal_cli.proofs.answer.run.Goals as goal

-- a new session replies to the lines of the script
pub returns : goal.returns
returns g c = record {
  writes = replied c.args.input.bytes.now c.args.input.part c.requires.split c.args.program c.args.fuel c.requires.opens c.some_reply.ensures.begun c.kept_line.ensures.law
      c.reply_all-told.result _ _ _ _ c.some_reply.ensures.script
      (rw (← c.script.ensures, ← c.new-lines.ensures, ← c.in_ok-session.ensures.state) c.reply_all-told.ensures.writes);
  cut = λ is own.
      first_replies c.args.input.bytes.now c.args.input.part c.requires.split c.args.program c.args.fuel c.requires.opens c.some_reply.ensures.begun c.kept_line.ensures.law _ _
      (rw (← c.script.ensures, ← c.new-lines.ensures, ← c.in_ok-session.ensures.state) (c.reply_all-told.ensures.cut is own));
}

-- without memory for a session nothing is written
pub returns-in_err-session-clause-cut : goal.returns-in_err-session-clause-cut
returns-in_err-session-clause-cut g c = λ _ _. nothing (g.K.Sink.written c.args.sink.now) _ (inl refl)
