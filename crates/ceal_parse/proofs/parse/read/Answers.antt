use Rattle.std.proofs.Common.{arith, ◌<◌, ◌+◌, ◌∙◌, get_or, sym}
use Rattle.std.proofs.lemmas.List.{drop-set-lt}
use Rattle.ceal_parse.proofs.Outcomes.{loop_fault, loop_on, kept, at_end, has_entries, has_none}
use Rattle.ceal_parse.proofs.parse.read.Goals as goal

pub returns-in-Err : goal.returns-in-Err
returns-in-Err c = record {
  value = loop_fault c.loop-token.parser.state c.loop-token.tokens c.loop-token.token-index c.token-item.result (omega arith) _ c.loop-token.invariant.same c.in-Err.error
      c.in-Err.ensures.value;
}

-- the state after one token more is that of the machine, and keeps the limits
pub loop-token-preserved : goal.loop-token-preserved
loop-token-preserved c =
    let next = c.advance.new.self.state in
    let behind : c.loop-token.token-index < c.loop-token.token-index + 1 = omega arith in
    let token = get_or c.loop-token.tokens c.loop-token.token-index c.token-item.result in
    let keeps = kept c.loop-token.parser.state token next c.loop-token.invariant.room c.in-Ok.ensures.value in
    record {
      same = rw drop-set-lt (loop_on c.loop-token.parser.state c.loop-token.tokens c.loop-token.token-index c.token-item.result (omega arith) _
          c.loop-token.invariant.same next c.in-Ok.ensures.value);
      shallow = keeps.0;
      few = keeps.1;
      room = keeps.2;
    }

pub returns-in-Some : goal.returns-in-Some
returns-in-Some c = record {
  value = at_end c.loop-token.parser.state c.loop-token.tokens c.loop-token.token-index _ (omega arith) c.loop-token.invariant.same
      ∙ has_entries c.loop-token.parser.state c.in-Some.entries (sym c.in-Some.ensures.value);
}

pub returns-in-None : goal.returns-in-None
returns-in-None c = record {
  value = at_end c.loop-token.parser.state c.loop-token.tokens c.loop-token.token-index _ (omega arith) c.loop-token.invariant.same
      ∙ has_none c.loop-token.parser.state (sym c.in-None.ensures.value);
}
