use Rattle.std.proofs.Common.{◌≡◌, true, ◌++◌, ◌∷◌, [], refl, reverse, subst, ap, ◌∙◌}
use Rattle.std.proofs.lemmas.List.{reverse-append}
use Rattle.ceal_fold.specs.Trees.{are_trees}
use Rattle.ceal_fold.proofs.UnitSteps.{trees-cons, units-on}
use Rattle.ceal_fold.proofs.fold.fold_units.Goals as goal

-- the unit that is taken is the next one of the code, whose body is a tree
pub refold_unit-requires : goal.refold_unit-requires
refold_unit-requires c =
    let popped : c.loop-unit.units.items ≡ c.pop.new.self.items ++ c.in-Some.unit ∷ [] = c.pop.ensures.items ∙ (rw c.in-Some.is refl) in
    let turned : reverse c.loop-unit.units.items ≡ c.in-Some.unit ∷ reverse c.pop.new.self.items =
    ap reverse popped ∙ reverse-append c.pop.new.self.items (c.in-Some.unit ∷ []) in
    record { tree = (trees-cons c.in-Some.unit (reverse c.pop.new.self.items) (subst (λ us. are_trees us ≡ true) turned c.loop-unit.invariant.trees)).0 }

-- the units that were folded, and this one
pub loop-unit-preserved : goal.loop-unit-preserved
loop-unit-preserved c =
    let popped : c.loop-unit.units.items ≡ c.pop.new.self.items ++ c.in-Some.unit ∷ [] = c.pop.ensures.items ∙ (rw c.in-Some.is refl) in
    let turned : reverse c.loop-unit.units.items ≡ c.in-Some.unit ∷ reverse c.pop.new.self.items =
    ap reverse popped ∙ reverse-append c.pop.new.self.items (c.in-Some.unit ∷ []) in
    record {
      whole = units-on c.args.structs.now c.in-Some.unit c.in_ok-after.after (reverse c.pop.new.self.items) (reverse c.loop-unit.units.items) c.loop-unit.folded.items c.push.new.self.items _
          turned c.in_ok-push.ensures.items c.in_ok-after.ensures.value c.loop-unit.invariant.whole;
      trees = (trees-cons c.in-Some.unit (reverse c.pop.new.self.items) (subst (λ us. are_trees us ≡ true) turned c.loop-unit.invariant.trees)).1;
    }
