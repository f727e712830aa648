use Rattle.std.proofs.Common.{◌≡◌, ◌≤◌, ◌-◌, length, take, option_map}
use Rattle.ceal_serve.specs.Exchange.{given, saying}
use Rattle.ceal_serve.proofs.conversation.say.Given as goal

-- what was done so far was said
abbrev pub invariant-loop-done : goal.invariant-loop-done
invariant-loop-done g l = record {
  within : l.done ≤ length l.bytes;
  said : g.C.Conversation.exchange l.talk ≡ option_map (saying (take l.done l.bytes)) (g.C.Conversation.exchange l.fn.talk);
  given : given (g.C.Conversation.exchange l.talk) ≡ given (g.C.Conversation.exchange l.fn.talk);
  later : g.C.Conversation.write_faults l.fn.talk ≤ g.C.Conversation.write_faults l.talk;
  reads : g.C.Conversation.read_faults l.talk ≡ g.C.Conversation.read_faults l.fn.talk;
}

abbrev pub decreases-loop-done : goal.decreases-loop-done
decreases-loop-done g l = length l.bytes - l.done
