use Rattle.std.proofs.Common.{List, drop, ap, ap₂, ◌∙◌, arith}
use Rattle.std.proofs.lemmas.List.{drop_all, take_all}
use Rattle.ceal_base.specs.declared.word.Word.{Word}
use Rattle.ceal_code.proofs.Equations.FloorSteps.{waiting-none}
use Rattle.ceal_code.specs.Piles.{Piles}
use Rattle.ceal_code.specs.Stacks.{above_floor, waiting, waits_in}
use Rattle.ceal_code.specs.declared.waits.Waiting.{Waiting}
use Rattle.ceal_code.proofs.waits.Waits.raise.Goals as goal

-- what waited is what is set aside above the floor that is answered
pub returns-clause-above : goal.returns-clause-above
unfolding above_floor waits_in
returns-clause-above c =
    let p = c.self.inside in
    ap₂ (λ (us : List Waiting) (ws : List Word). waiting (drop p.floor.units us) (drop p.floor.words ws))
    (take_all c.len.result p.units.items (omega (arith, c.len.ensures))) (take_all c.len-2.result p.words.items (omega (arith, c.len-2.ensures)))
    ∙ ap (λ (w : Piles). waiting w.waits.units w.waits.words) c.self.view_is

pub returns-clause-none : goal.returns-clause-none
unfolding waits_in
returns-clause-none c = waiting-none _ _ (drop_all c.len.result c.self.inside.units.items (omega (arith, c.len.ensures)))
