use Rattle.std.proofs.Common.{◌∙◌, subst}
use Rattle.ceal_engine.proofs.Flattening.{Walking, walk-first, walk-there, walk-more, walk-last}
use Rattle.ceal_trace.specs.Nodes.{seen}
use Rattle.ceal_engine.proofs.items.flat_items.Goals as goal

pub loop-node-init : goal.loop-node-init
loop-node-init c = rw c.new-items.ensures.items (walk-first c.args.trace.now.nodes c.root.result c.root.ensures.first)

pub node-requires : goal.node-requires
node-requires c = record {
  here = walk-there c.args.trace.now.nodes c.loop-node.items.items c.in-Some.stamp (subst (λ n. Walking c.args.trace.now.nodes c.loop-node.items.items n) c.in-Some.is c.loop-node.invariant);
}

pub steps_at-requires : goal.steps_at-requires
steps_at-requires c = record {
  here = walk-there c.args.trace.now.nodes c.loop-node.items.items c.in-Some.stamp (subst (λ n. Walking c.args.trace.now.nodes c.loop-node.items.items n) c.in-Some.is c.loop-node.invariant);
}

pub next-next-requires : goal.next-next-requires
next-next-requires c =
    rw c.order.ensures
    (walk-there c.args.trace.now.nodes c.loop-node.items.items c.in-Some.stamp (subst (λ n. Walking c.args.trace.now.nodes c.loop-node.items.items n) c.in-Some.is c.loop-node.invariant))

-- one node more, with the steps after it
pub loop-node-preserved : goal.loop-node-preserved
loop-node-preserved c =
    walk-more c.args.trace.now.nodes c.root.ensures.whole.order.distinct c.loop-node.items.items c.in-Some.stamp
    (subst (λ n. Walking c.args.trace.now.nodes c.loop-node.items.items n) c.in-Some.is c.loop-node.invariant)
    (seen c.node.result) c.node.ensures.node c.steps_at.result c.steps_at.ensures c.next-next.result
    (rw c.order.ensures at c.next-next.ensures.next) (rw c.order.ensures at c.next-next.ensures.last) c.push_node.new.items.items c.push_steps.new.items.items c.in_ok-push_node-in-Some.ensures
    c.in_ok-push_steps-in-Some.ensures

pub returns-in-None : goal.returns-in-None
returns-in-None c =
    c.new.ensures.value ∙ walk-last c.args.trace.now.nodes c.loop-node.items.items (subst (λ n. Walking c.args.trace.now.nodes c.loop-node.items.items n) c.in-None.is c.loop-node.invariant)
