-- The steps among the items of a trace.
use Rattle.std.proofs.Common.{◌≡◌, ℕ, zero, suc, ◌+◌, List, [], ◌∷◌, ◌++◌, refl, ◌∙◌, arith}
use Rattle.ceal_base.specs.Trace.{steps_in}
use Rattle.ceal_base.specs.declared.forest.Item.{Item}
use Rattle.ceal_base.specs.declared.forest.Item.TheVariants as item
use Rattle.ceal_trace.specs.declared.node.Node.{Node}
use Rattle.ceal_trace.specs.declared.node.Node.TheVariants.{Root, Alloc, Write, Read, End}
use Rattle.ceal_trace.specs.Nodes.{Entry, steps_sum}
use Rattle.ceal_trace.specs.Items.{ticks, item_of, forest_of}

steps-append : (xs ys : List Item) → steps_in (xs ++ ys) ≡ steps_in xs + steps_in ys
steps-append [] ys = omega arith
steps-append (item.Step ∷ xs) ys = let rest = steps-append xs ys in omega arith
steps-append (item.Alloc block key ∷ xs) ys = steps-append xs ys
steps-append (item.Write place value ∷ xs) ys = steps-append xs ys
steps-append (item.Read place value unit var args ∷ xs) ys = steps-append xs ys
steps-append (item.End ∷ xs) ys = steps-append xs ys

steps-ticks : (n : ℕ) → steps_in (ticks n) ≡ n
steps-ticks zero = refl
steps-ticks (suc n) = let rest = steps-ticks n in omega arith

steps-item : (n : Node) → steps_in (item_of n) ≡ 0
steps-item Root = refl
steps-item (Alloc block key) = refl
steps-item (Write place value) = refl
steps-item (Read place value unit var args) = refl
steps-item (End read) = refl

pub steps-forest : (es : List Entry) → steps_in (forest_of es) ≡ steps_sum es
steps-forest [] = refl
steps-forest (e ∷ es) =
    let own = steps-item e.node in
    let after = steps-ticks e.steps in
    let rest = steps-forest es in
    let both = steps-append (ticks e.steps) (forest_of es) in
    steps-append (item_of e.node) (ticks e.steps ++ forest_of es) ∙ omega arith
