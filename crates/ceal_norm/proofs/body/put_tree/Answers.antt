use Rattle.std.proofs.Common.{◌++◌, length, reverse, ap, sym, ◌∙◌}
use Rattle.ceal_norm.specs.Body.{whole_body}
use Rattle.ceal_norm.proofs.body.put_tree.Goals as goal

-- the commands of the block are those with which the tree begins
pub returns-clause-same : goal.returns-clause-same
returns-clause-same c =
    c.in_ok-put_block.ensures.same
    ∙ ap (λ xs. whole_body c.args.plan.now (c.args.out.now.body.items ++ xs) (reverse c.args.out.now.pending.items))
    (sym (c.block.ensures.tree (length c.args.out.now.body.items)))
