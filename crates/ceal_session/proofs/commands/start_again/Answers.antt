use Rattle.std.proofs.Common.{arith}
use Rattle.ceal_engine.specs.Cost.{CostOfCall}
use Rattle.ceal_session.proofs.Replies.ReplyAfterRun.{again-not-quiet}
use Rattle.ceal_session.proofs.Replies.TextOfReply.{if-ok}
use Rattle.ceal_session.specs.SessionState.{situation}
use Rattle.ceal_theory.specs.Pasts.{goes}
use Rattle.ceal_session.proofs.commands.start_again.Goals as goal

pub returns-clause-quiet : goal.returns-clause-quiet
returns-clause-quiet c =
    if-ok c.propagate.result
    (λ reply e q. absurd (again-not-quiet c.args.state.now.state c.propagate.new.self.state c.args.reads (goes (situation c.propagate.new.self).past) c.args.state.now.state.call
    (let h = c.if-not-has_call.false in let e = c.has_call.ensures in grind (arith, h, e)) reply e q))
    c.propagate.ensures.ok

-- what is refused leaves the engine as it was
pub returns-then-not-has_call-clause-cost : goal.returns-then-not-has_call-clause-cost
returns-then-not-has_call-clause-cost c = CostOfCall.same
