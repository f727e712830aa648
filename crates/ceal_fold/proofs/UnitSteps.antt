-- Unit by unit.
use Rattle.std.proofs.Common.{◌≡◌, true, List, [], ◌∷◌, refl, sym, ap, ◌∙◌, ◌++◌, length, arith, append_assoc}
use Rattle.std.proofs.lemmas.List.{append-nil}
use Rattle.ceal_base.specs.declared.typed.StructInfo.{StructInfo}
use Rattle.ceal_code.proofs.Words.SameIsEqual.{both}
use Rattle.ceal_code.specs.Program.{Unit as CodeUnit}
use Rattle.ceal_code.specs.Valid.{is_tree}
use Rattle.ceal_fold.specs.Folding.{folded_unit, folded_units}
use Rattle.ceal_fold.specs.Trees.{are_trees}

pub units-end : (structs : List StructInfo) (units : List CodeUnit) → length units ≡ 0 → folded_units structs units ≡ []
unfolding folded_units
units-end structs [] h = refl
units-end structs (unit ∷ units) h = absurd (omega (arith, h))

pub trees-cons : (unit : CodeUnit) (units : List CodeUnit) → are_trees (unit ∷ units) ≡ true → (is_tree unit.body ≡ true) × (are_trees units ≡ true)
unfolding are_trees
trees-cons unit units h = both (is_tree unit.body) (are_trees units) h

pub units-on : (structs : List StructInfo) (unit after : CodeUnit) (more rest done done' whole : List CodeUnit)
    → rest ≡ unit ∷ more → done' ≡ done ++ after ∷ [] → after ≡ folded_unit structs unit
    → (done ++ folded_units structs rest) ≡ whole → (done' ++ folded_units structs more) ≡ whole
unfolding folded_units
units-on structs unit after more rest done done' whole r p e w =
    ap (λ ds. ds ++ folded_units structs more) p ∙ append_assoc done (after ∷ []) (folded_units structs more)
    ∙ ap (λ d. done ++ d ∷ folded_units structs more) e ∙ ap (λ rest. done ++ folded_units structs rest) (sym r) ∙ w

pub ruleset unit_steps = (units-end, append-nil)
