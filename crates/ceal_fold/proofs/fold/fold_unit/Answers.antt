use Rattle.std.proofs.Common.{ap, ◌∙◌}
use Rattle.ceal_code.specs.Valid.{is_tree}
use Rattle.ceal_fold.specs.Folding.{at_root, folded_commands}
use Rattle.ceal_fold.proofs.UnitTrees.{tree-replaced}
use Rattle.ceal_fold.proofs.fold.fold_unit.Goals as goal

-- replacing variables leaves a tree a tree
pub tick_all-requires : goal.tick_all-requires
tick_all-requires c = record {
  tree = ap is_tree c.in_ok-body.ensures.value ∙ ap (λ b. is_tree (folded_commands c.args.structs.now at_root 0 b)) c.body.ensures.value
      ∙ tree-replaced c.args.structs.now c.args.unit.now.body c.requires.tree;
}
