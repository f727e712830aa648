use Rattle.std.proofs.Common.{◌∷◌, [], ◌++◌, ◌∙◌, sym, ap, append_assoc}
use Rattle.ceal_base.specs.declared.forest.Item.TheVariants.{Step}
use Rattle.ceal_repair.proofs.Nodes.NodeItems.{ticks-more}
use Rattle.ceal_trace.specs.Items.{ticks}
use Rattle.ceal_engine.proofs.items.push_steps.Goals as goal

pub loop-step-preserved : goal.loop-step-preserved
loop-step-preserved c =
    c.in_ok-push.ensures.items
    ∙ (ap (λ is. is ++ Step ∷ []) c.loop-step.invariant
    ∙ (append_assoc c.args.items.now.items (ticks c.loop-step._step) (Step ∷ []) ∙ ap (λ is. c.args.items.now.items ++ is) (sym (ticks-more c.loop-step._step))))
