use Rattle.std.proofs.Common.{List, length, drop, refl, ap, ap₂, ◌∙◌}
use Rattle.ceal_base.specs.declared.word.Word.{Word}
use Rattle.ceal_code.proofs.Equations.FloorSteps.{over-floor}
use Rattle.ceal_code.specs.Init.{arguments}
use Rattle.ceal_code.specs.Piles.{Piles}
use Rattle.ceal_code.specs.Stacks.{waiting, waits_in}
use Rattle.ceal_code.specs.Step.{Run}
use Rattle.ceal_code.specs.declared.waits.Waiting.{Waiting}
use Rattle.ceal_code.proofs.waits.Waits.push.Goals as goal

-- the unit and its words are put on those that wait
pub returns-clause-pushed : goal.returns-clause-pushed
unfolding waits_in
returns-clause-pushed c =
    let p = c.self.inside in
    ap₂ (λ (us : List Waiting) (ws : List Word). waiting (drop p.floor.units us) (drop p.floor.words ws)) c.in_ok-push.ensures.items c.in_ok-append.ensures.appended
    ∙ (over-floor p.units.items c.args.unit c.args.index (length c.args.env.now) p.words.items c.args.env.now p.floor.units p.floor.words c.self.invariant.0 c.self.invariant.1 refl
    ∙ ap (λ (w : Piles). Run c.args.unit c.args.index (arguments c.args.env.now) (waiting w.waits.units w.waits.words)) c.self.view_is)
