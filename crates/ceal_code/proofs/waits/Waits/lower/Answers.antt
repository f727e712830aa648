use Rattle.std.proofs.Common.{◌≡◌, [], drop, ap, ap₂, ◌∙◌}
use Rattle.ceal_code.proofs.Equations.FloorSteps.{down-drop}
use Rattle.ceal_code.specs.Piles.{Pile, Piles}
use Rattle.ceal_code.specs.Stacks.{above_floor, waiting, waits_in}
use Rattle.ceal_code.proofs.waits.Waits.lower.Goals as goal

-- those that waited are cleared, and what is set aside from the floor on waits in their place
pub returns-clause-waits : goal.returns-clause-waits
unfolding above_floor waits_in
returns-clause-waits c =
    let p = c.self.inside in
    let units : drop p.floor.units p.units.items ≡ [] = ap (λ (w : Piles). w.waits.units) c.self.view_is ∙ ap (λ (q : Pile). q.units) c.clear.ensures.none in
    let words : drop p.floor.words p.words.items ≡ [] = ap (λ (w : Piles). w.waits.words) c.self.view_is ∙ ap (λ (q : Pile). q.words) c.clear.ensures.none in
    ap₂ waiting
    (ap (λ n. drop n p.units.items) c.smaller.ensures ∙ down-drop c.args.below.units p.floor.units p.units.items c.self.invariant.0 units)
    (ap (λ n. drop n p.words.items) c.smaller-2.ensures ∙ down-drop c.args.below.words p.floor.words p.words.items c.self.invariant.1 words)
    ∙ ap (λ (q : Pile). waiting (drop c.args.below.units q.units) (drop c.args.below.words q.words)) (ap (λ (w : Piles). w.aside) c.self.view_is ∙ c.clear.ensures.aside)
