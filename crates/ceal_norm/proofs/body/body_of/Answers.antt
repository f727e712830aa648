use Rattle.std.proofs.Common.{◌≡◌, ◌+◌, ◌++◌, ◌∷◌, [], length, reverse, refl, ap, sym, ◌∙◌, arith, rules}
use Rattle.ceal_norm.specs.Body.{whole_body}
use Rattle.ceal_norm.specs.Units.{tree}
use Rattle.ceal_norm.proofs.Equations.BodySteps.{finished-none, finished-length, reverse-push}
use Rattle.ceal_norm.proofs.body.body_of.Goals as goal

-- the whole body follows from its first tree, before any tree that waits
pub loop-next-init : goal.loop-next-init
loop-next-init c = record {
  same = c.in_ok-put_tree.ensures.same
      ∙ (rw (c.new-body.ensures.items, c.new-pending.ensures.items)
      (finished-none c.args.plan.now (tree c.args.plan.now (length c.args.plan.now.graph.blocks) c.args.b 0)));
  below = c.in_ok-put_tree.ensures.below;
}

-- the body gets longer, and it is never longer than the tree of the unit's first block
pub loop-next-smaller : goal.loop-next-smaller
loop-next-smaller c =
    let popped : c.loop-next.out.pending.items ≡ c.pop.new.self.items ++ c.in-Some.next ∷ [] = c.pop.ensures.items ∙ (rw c.in-Some.is refl) in
    let turned : reverse c.loop-next.out.pending.items ≡ c.in-Some.next ∷ reverse c.pop.new.self.items =
    ap reverse popped ∙ reverse-push c.pop.new.self.items c.in-Some.next in
    let whole : whole_body c.args.plan.now c.put_pending.new.out.body.items (reverse c.put_pending.new.out.pending.items)
    ≡ tree c.args.plan.now (length c.args.plan.now.graph.blocks) c.args.b 0 =
    c.in_ok-put_pending.ensures.same ∙ ap (whole_body c.args.plan.now c.loop-next.out.body.items) (sym turned) ∙ c.loop-next.invariant.same in
    let long = ap length whole in
    let within = finished-length c.args.plan.now c.put_pending.new.out.body.items (reverse c.put_pending.new.out.pending.items) in
    let more : length c.put_pending.new.out.body.items ≡ length c.loop-next.out.body.items + 1 = c.in_ok-put_pending.ensures.longer in
    omega (arith, long, within, more)

-- no tree waits, so the body is whole
pub returns : goal.returns
returns c =
    let empty : c.loop-next.out.pending.items ≡ [] = search rules in
    record {
      value = sym (finished-none c.args.plan.now c.loop-next.out.body.items)
          ∙ ap (λ ps. whole_body c.args.plan.now c.loop-next.out.body.items (reverse ps)) (sym empty) ∙ c.loop-next.invariant.same;
    }
