use Rattle.std.proofs.Common.{◌∙◌, sym, rules}
use Rattle.ceal_mean.specs.Jumps.{ready}
use Rattle.ceal_mean.specs.Todo.{joined}
use Rattle.ceal_mean.proofs.TodoLemmas.{turn-behind, body-next, body-behind}
use Rattle.ceal_mean.proofs.todo.take_turn.Goals as goal

pub returns-in-Turn-clause-behind : goal.returns-in-Turn-clause-behind
returns-in-Turn-clause-behind c =
    sym (turn-behind _ _ c.in-Some.part c.in-Turn.w c.in-Some.ensures.items c.in-Turn.is) ∙ c.loop-part.invariant.behind

-- this part is no loop, so the innermost loop is in the parts below it
pub loop-part-preserved : goal.loop-part-preserved
loop-part-preserved c = record {
  turn = sym (body-next _ _ c.in-Some.part c.in-Body.field-0 c.in-Some.ensures.items c.in-Body.is) ∙ c.loop-part.invariant.turn;
  behind = sym (body-behind _ _ c.in-Some.part c.in-Body.field-0 c.in-Some.ensures.items c.in-Body.is) ∙ c.loop-part.invariant.behind;
  fewer = search rules;
}

pub returns-clause-behind : goal.returns-clause-behind
unfolding joined ready
returns-clause-behind c = search rules
