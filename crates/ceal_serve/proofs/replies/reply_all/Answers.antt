use Rattle.std.proofs.Common.{refl}
use Rattle.ceal_serve.proofs.Following.{at-heard, begins-known, caught-up-known, last-heard, line-too-long, lost-heard}
use Rattle.ceal_serve.proofs.HeardLines.{end-case, handed-on, line-case}
use Rattle.ceal_serve.proofs.replies.reply_all.Goals as goal

pub hear_line-requires-clause-caught_up : goal.hear_line-requires-clause-caught_up
hear_line-requires-clause-caught_up g c = caught-up-known _ _ _ c.loop.invariant.at

pub returns-in_err-end-clause-beginning : goal.returns-in_err-end-clause-beginning
returns-in_err-end-clause-beginning g c = lost-heard c.some_reply.ensures.script _ _ _ _ c.in_err-end.ensures.lost c.loop.invariant.at

pub returns-in_err-end-clause-long : goal.returns-in_err-end-clause-long
returns-in_err-end-clause-long g c = λ e.
    let h = c.in_err-end.ensures.long (handed-on _ _ _ _ c.from_residual.ensures.1 refl e) in
    line-too-long _ _ _ _ _ h.0 h.1 c.loop.invariant.at

pub reply_first-requires-clause-at : goal.reply_first-requires-clause-at
reply_first-requires-clause-at g c = at-heard _ _ _ _ _ (line-case _ _ _ _ _ _ _ c.in-Some.is c.in_ok-end.ensures.heard).0 c.loop.invariant.at

pub reply_last-requires-clause-last : goal.reply_last-requires-clause-last
reply_last-requires-clause-last g c =
    rw c.rest.ensures.rest (last-heard _ _ _ _ _ (end-case _ _ _ _ _ _ c.in-None.is c.in_ok-end.ensures.heard).0 c.loop.invariant.at)

pub returns-clause-beginning : goal.returns-clause-beginning
returns-clause-beginning g c = begins-known c.some_reply.ensures.script _ _ _ c.loop.invariant.at
