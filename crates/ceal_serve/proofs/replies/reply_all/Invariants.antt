use Rattle.std.proofs.Common.{◌≡◌, ◌≤◌}
use Rattle.std.specs.Prelude.{IfSome}
use Rattle.ceal_session.specs.SessionState.{situation}
use Rattle.ceal_serve.specs.Exchange.{given}
use Rattle.ceal_serve.specs.Replying.{IsAt}
use Rattle.ceal_serve.proofs.replies.reply_all.Given as goal

-- all was said to the lines that were taken
abbrev pub invariant-loop : goal.invariant-loop
invariant-loop g l = record {
  at : IfSome (g.C.Conversation.exchange l.talk) (IsAt l.lines (situation l.session));
  given : given (g.C.Conversation.exchange l.talk) ≡ given (g.C.Conversation.exchange l.fn.talk);
  reads : g.C.Conversation.read_faults l.fn.talk ≤ g.C.Conversation.read_faults l.talk;
  writes : g.C.Conversation.write_faults l.fn.talk ≤ g.C.Conversation.write_faults l.talk;
}
