use Rattle.std.proofs.Common.{◌∷◌, [], ◌++◌, map, take, ap, sym, ◌∙◌}
use Rattle.ceal_norm.specs.Units.{function_code}
use Rattle.ceal_norm.proofs.Equations.UnitSteps.{map-more}
use Rattle.ceal_norm.proofs.functions.functions_of.Goals as goal

-- the code of this function, after that of the functions before it
pub loop-f-preserved : goal.loop-f-preserved
loop-f-preserved c =
    c.in_ok-push.ensures.items
    ∙ ap (λ xs. xs ++ c.in_ok-function_of.field-0 ∷ []) c.loop-f.invariant
    ∙ ap (λ x. map (function_code c.args.plan.now) (take c.loop-f.f c.args.plan.now.graph.functions) ++ x ∷ []) c.in_ok-function_of.ensures
    ∙ sym (map-more (function_code c.args.plan.now) c.args.plan.now.graph.functions c.loop-f.f c.function.result.now c.function.ensures.value)
