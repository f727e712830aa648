-- The bodies of valid code are trees.
use Rattle.std.proofs.Common.{◌≡◌, true, List, [], ◌∷◌, refl, ◌∙◌}
use Rattle.ceal_base.specs.declared.typed.StructInfo.{StructInfo}
use Rattle.ceal_code.proofs.Words.SameIsEqual.{both, both-true}
use Rattle.ceal_code.proofs.TypedCode.TypedBlocks.{units-valid}
use Rattle.ceal_code.specs.Program.{Unit as CodeUnit, Code}
use Rattle.ceal_code.specs.Valid.{is_tree, unit_ok, units_ok, valid}
use Rattle.ceal_code.specs.declared.command.Cmd.{Cmd}
use Rattle.ceal_fold.proofs.Bodies.{replaced-tree}
use Rattle.ceal_fold.proofs.Runs.{unit-tree}
use Rattle.ceal_fold.specs.Folding.{at_root, folded_commands}
use Rattle.ceal_fold.specs.Trees.{are_trees}

units-trees : (code : Code) (units : List CodeUnit) → units_ok code units ≡ true → are_trees units ≡ true
unfolding units_ok are_trees
units-trees code [] h = refl
units-trees code (unit ∷ units) h =
    let p = both (unit_ok code unit) (units_ok code units) h in
    both-true (is_tree unit.body) (are_trees units) (unit-tree code unit p.0) (units-trees code units p.1)

pub valid-trees : (code : Code) → valid code ≡ true → are_trees code.units ≡ true
valid-trees code ok = units-trees code code.units (units-valid code ok)

pub tree-replaced : (structs : List StructInfo) (body : List Cmd) → is_tree body ≡ true → is_tree (folded_commands structs at_root 0 body) ≡ true
tree-replaced structs body h = replaced-tree structs body ∙ h
