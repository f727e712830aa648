use Rattle.std.proofs.Common.{refl, sym, ◌∙◌}
use Rattle.ceal_code.proofs.Equations.TableSteps.{plain-done}
use Rattle.ceal_code.specs.Tables.{code_in, plain_in}
use Rattle.ceal_adjust.proofs.Sliced.{begun-holds, begun-for}
use Rattle.ceal_adjust.proofs.slices.begin_repair.Goals as goal

-- the items are those of the trace, and the known blocks those that it allocates
pub returns-clause-begins : goal.returns-clause-begins
returns-clause-begins c = λ l e.
    begun-for c.args.code.now c.args.inputs.now l c.args.next _ (c.in_ok-copy.ensures.equal ∙ e) refl refl (plain_in c.learn_items.new.self)
    (plain-done c.args.code.now (code_in c.new-memory.result) c.args.inputs.now (plain_in c.new-memory.result) (plain_in c.learn_items.new.self) (plain_in c.learn_items.new.self) c.items.result.now
    c.new-memory.ensures.code c.new-memory.ensures.plain c.in_ok-learn_items.ensures.plain refl l (c.items.ensures.value ∙ e))
    c.in_ok-known.ensures.below c.in_ok-known.ensures.others c.requires.trace.0 c.requires.trace.1 c.requires.trace.2 c.requires.trace.3 (sym e ∙ c.requires.trace.4) c.requires.trace.5

-- the trace was one of the call on the old inputs, so it may be repaired on the new ones
pub returns-clause-holds : goal.returns-clause-holds
returns-clause-holds c = λ old f args l e edited.
    begun-holds c.args.code.now c.args.inputs.now l c.args.next _ (c.in_ok-copy.ensures.equal ∙ e) refl refl (plain_in c.learn_items.new.self)
    (plain-done c.args.code.now (code_in c.new-memory.result) c.args.inputs.now (plain_in c.new-memory.result) (plain_in c.learn_items.new.self) (plain_in c.learn_items.new.self) c.items.result.now
    c.new-memory.ensures.code c.new-memory.ensures.plain c.in_ok-learn_items.ensures.plain refl l (c.items.ensures.value ∙ e))
    c.in_ok-known.ensures.below c.in_ok-known.ensures.others old f args edited
