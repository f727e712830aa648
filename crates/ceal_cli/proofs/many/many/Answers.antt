use Rattle.std.proofs.Common.{◌∙◌, inl, refl, rules, sym, ap, subst}
use Rattle.ceal_session.specs.Consistency.{IsConsistent}
use Rattle.ceal_cli.specs.Members.{first_situation}
use Rattle.ceal_cli.proofs.Sessions.GrowingReplies.{nothing, writes_as}
use Rattle.ceal_cli.proofs.Outputs.OutputByMode.{many_told}
use Rattle.ceal_cli.proofs.many.many.Goals as goal

-- a maker with a new session replies to the lines
pub returns : goal.returns
returns g c = record {
  writes = writes_as c.reply_all.result _ _ _ _ _ _
      (many_told c.args.input.bytes.now c.args.input.part c.requires.split c.args.program c.args.fuel c.requires.opens)
      (rw (← c.script.ensures, ← c.new-lines.ensures, ← ap first_situation (c.in_ok-many.ensures.maker ∙ c.new.ensures)) c.reply_all.ensures.writes);
}

pub reply_all-requires-clause-sound : goal.reply_all-requires-clause-sound
reply_all-requires-clause-sound g c =
    subst IsConsistent (sym (ap first_situation (c.in_ok-many.ensures.maker ∙ c.new.ensures))) (c.some_reply.ensures.begun c.args.program c.args.fuel c.requires.opens.compiled).sound

-- without memory nothing is written
pub returns-in_err-many : goal.returns-in_err-many
returns-in_err-many g c = record {
  writes = record {
    all = search rules;
    part = nothing (g.K.Sink.written c.args.sink.now) _ (inl refl);
    fault = search rules;
    later = search rules;
  };
}
