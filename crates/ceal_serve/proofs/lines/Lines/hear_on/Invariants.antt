use Rattle.std.proofs.Common.{◌≡◌, ◌≤◌, ◌+◌, ◌-◌, length}
use Rattle.ceal_serve.specs.Exchange.{given}
use Rattle.ceal_serve.specs.Listening.{Hears}
use Rattle.ceal_serve.specs.Turns.{IsOneLine}
use Rattle.ceal_serve.proofs.lines.Lines.hear_on.Given as goal

-- what was heard so far is one line
abbrev pub invariant-loop-self : goal.invariant-loop-self
invariant-loop-self g l = record {
  so_far : Hears (g.C.Conversation.exchange l.fn.talk) (g.C.Conversation.exchange l.talk) l.fn.self l.self;
  one : IsOneLine l.self;
  given : given (g.C.Conversation.exchange l.talk) ≡ given (g.C.Conversation.exchange l.fn.talk);
  reads : g.C.Conversation.read_faults l.fn.talk ≤ g.C.Conversation.read_faults l.talk;
  writes : g.C.Conversation.write_faults l.fn.talk ≤ g.C.Conversation.write_faults l.talk;
}

abbrev pub decreases-loop-self : goal.decreases-loop-self
decreases-loop-self g l = l.limit + 1 - length l.self
