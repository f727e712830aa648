-- Laws of names and types.
use Rattle.std.specs.Prelude.{◌≡◌, ◌↔◌, Ok, Err, Some, [], IsOk, slice_get}
use Rattle.ceal_base.specs.declared.fault.Fault.{Fault}
use Rattle.ceal_base.specs.WellTyped.{WellTyped}
use Rattle.ceal_base.specs.declared.syntax.Tree.{Tree}
use Rattle.ceal_base.specs.declared.typed.Typed.{Typed}
use Rattle.ceal_types.specs.Checked.{checked}
use Rattle.ceal_types.specs.Faults.{tree_faults}
use Rattle.ceal_types.specs.Limits.{HasShortLists}
use Rattle.ceal_types.specs.Resolves.{Resolves}

-- the program of a tree with short lists is well typed
abbrev pub TypedLaw : Type 0
TypedLaw = (tree : Tree) (p : Typed) → HasShortLists tree → checked tree ≡ Ok p → WellTyped p

-- in the program of a tree each name has the number of what it stands for
abbrev pub ResolvedLaw : Type 0
ResolvedLaw = (tree : Tree) (p : Typed) → checked tree ≡ Ok p → Resolves tree p

-- nothing well typed is refused: a well typed program with which a tree agrees is the program of the tree
abbrev pub CompleteLaw : Type 0
CompleteLaw = (tree : Tree) (p : Typed) → Resolves tree p → WellTyped p → checked tree ≡ Ok p

-- the fault that is answered is the first of all faults of the tree
abbrev pub FirstFaultLaw : Type 0
FirstFaultLaw = (tree : Tree) (f : Fault) → (checked tree ≡ Err f) ↔ (slice_get (tree_faults tree) 0 ≡ Some f)

-- a tree has a program exactly when it has no faults
abbrev pub NoFaultLaw : Type 0
NoFaultLaw = (tree : Tree) → IsOk (checked tree) ↔ (tree_faults tree ≡ [])
