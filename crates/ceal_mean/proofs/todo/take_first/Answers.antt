use Rattle.std.proofs.Common.{sym, ap, ◌∙◌, refl, rules}
use Rattle.ceal_mean.specs.Jumps.{ready}
use Rattle.ceal_mean.specs.Todo.{joined}
use Rattle.ceal_mean.proofs.TodoLemmas.{turn-ready, joined-drop, return-ready, break-ready, continue-ready, step-ready}
use Rattle.ceal_mean.proofs.todo.take_first.Goals as goal

pub returns-in-Turn : goal.returns-in-Turn
returns-in-Turn c = record {
  taken = rw (← c.loop-part.invariant, turn-ready _ _ c.in-Some.part c.in-Turn.w c.in-Some.ensures.items c.in-Turn.is) refl;
}

pub returns-in-Return : goal.returns-in-Return
returns-in-Return c = record {
  taken = sym c.loop-part.invariant
      ∙ return-ready _ _ c.in-Some.part c.in-Body.body c.in-Some.ensures.items c.in-Body.is _ _ c.in-Some-split_first.ensures.cases.0 c.in-Return.field-0 c.in-Return.is;
}

-- `break` leaves the innermost loop, and what follows that is looked at next
pub loop-part-preserved-in-Break : goal.loop-part-preserved-in-Break
loop-part-preserved-in-Break c =
    c.take_turn.ensures.behind
    ∙ sym (break-ready _ _ c.in-Some.part c.in-Body.body c.in-Some.ensures.items c.in-Body.is _ _ c.in-Some-split_first.ensures.cases.0 c.in-Break.field-0 c.in-Break.is)
    ∙ c.loop-part.invariant

-- `continue` goes to the test of the innermost loop
pub returns-in-Continue : goal.returns-in-Continue
returns-in-Continue c = record {
  taken = rw (
    ← c.loop-part.invariant,
    continue-ready _ _ c.in-Some.part c.in-Body.body c.in-Some.ensures.items c.in-Body.is _ _ c.in-Some-split_first.ensures.cases.0 c.in-Continue.field-0 c.in-Continue.is,
  )
      c.take_turn-in-Continue.ensures.taken;
}

-- any other statement is the first one itself, and its row keeps the rest
pub returns-in_default-first : goal.returns-in_default-first
returns-in_default-first c = record {
  taken = rw (
    ← c.loop-part.invariant,
    step-ready _ _ c.in-Some.part c.in-Body.body c.in-Some.ensures.items c.in-Body.is _ _ c.in-Some-split_first.ensures.cases.0
        (λ at e. c.in_default-first.not-Return at e) (λ at e. c.in_default-first.not-Break at e) (λ at e. c.in_default-first.not-Continue at e),
    c.in_ok-put_first-in_default-first.ensures.state,
  ) refl;
}

pub loop-part-preserved : goal.loop-part-preserved
loop-part-preserved c = ap ready (joined-drop _ _ c.in-Body.body (rw c.in-Body.is at c.in-Some.ensures.items) c.in-None.ensures.cases) ∙ c.loop-part.invariant

pub returns : goal.returns
unfolding joined ready
returns c = search rules
