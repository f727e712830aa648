use Rattle.std.proofs.Common.{◌≡◌, ◌≤◌, ◌-◌, vec_len}
use Rattle.std.specs.Prelude.{IfSome}
use Rattle.ceal_lex.specs.Parts.{IsBeforeLine}
use Rattle.ceal_serve.specs.Exchange.{given}
use Rattle.ceal_serve.specs.Listening.{IsListening}
use Rattle.ceal_serve.specs.Turns.{HasNoMark, LIMIT}
use Rattle.ceal_serve.proofs.source.hear_source.Given as goal

-- the text is complete lines without the mark
abbrev pub invariant-loop-text : goal.invariant-loop-text
invariant-loop-text g l = record {
  listening : IfSome (g.C.Conversation.exchange l.talk) (IsListening l.fuel l.text.items l.lines);
  none : HasNoMark l.text.items;
  complete : IsBeforeLine l.text.items;
  within : vec_len l.text ≤ LIMIT;
  given : given (g.C.Conversation.exchange l.talk) ≡ given (g.C.Conversation.exchange l.fn.talk);
  reads : g.C.Conversation.read_faults l.fn.talk ≤ g.C.Conversation.read_faults l.talk;
  writes : g.C.Conversation.write_faults l.fn.talk ≤ g.C.Conversation.write_faults l.talk;
}

abbrev pub decreases-loop-text : goal.decreases-loop-text
decreases-loop-text g l = LIMIT - vec_len l.text
