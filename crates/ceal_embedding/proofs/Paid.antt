-- An edit and the repair after it are paid by the law of costs.
use Rattle.std.proofs.Common.{◌≡◌, ◌⊎◌, inl, inr, ◌≤◌, ◌+◌, ℕ, Ok, None, ap, subst, arith}
use Rattle.ceal_engine.specs.Advance.{IsAdvanced}
use Rattle.ceal_engine.specs.Cost.{CostLaw, CostOfEdit, CostOfRepair, IsPaid, Updates, revalued}
use Rattle.ceal_engine.specs.Engine.{EngineState, IsWhole, phase_after_edit}
use Rattle.ceal_engine.specs.Partial.{spent_in}
use Rattle.ceal_engine.specs.declared.phase.Came.TheVariants as came
use Rattle.ceal_engine.specs.declared.phase.Phase.{Phase}
use Rattle.ceal_engine.specs.declared.phase.Phase.TheVariants.{New, Finished, Pending, Partial, Dropped}

paid-repair : CostLaw → (s e n : EngineState) → CostOfEdit s e → CostOfRepair e n → IsPaid s n 1 n.work (revalued s n)
paid-repair law s e n edit repair =
    let most : n.work ≤ spent_in e.phase e.work + n.work = omega arith in
    let p = law s n _ _ _ (Updates.repair (Updates.edit Updates.none edit) repair n.work most) in
    let same : revalued e n ≡ revalued s n = ap (λ t. revalued (record s { timeline = t }) n) edit.nodes in
    record { looks = let l = p.looks in omega (arith, l, same); touches = let t = p.touches in omega (arith, t, same) }

-- after an edit of a run there is a run
whole-edited : (phase : Phase) → IsWhole phase → (phase_after_edit phase ≡ Partial) ⊎ (phase_after_edit phase ≡ Dropped) → ⊥
whole-edited New w h = absurd (grind (arith, w))
whole-edited Finished w (inl h) = absurd (grind (arith, h))
whole-edited Finished w (inr h) = absurd (grind (arith, h))
whole-edited Pending w (inl h) = absurd (grind (arith, h))
whole-edited Pending w (inr h) = absurd (grind (arith, h))
whole-edited Partial w h = absurd (grind (arith, w))
whole-edited Dropped w h = absurd (grind (arith, w))

-- the run of a whole one is repaired, and not run from nothing
pub paid-update : CostLaw → (s e n : EngineState) → CostOfEdit s e → e.phase ≡ phase_after_edit s.phase → IsWhole s.phase
    → IsAdvanced e n None (Ok came.Done) ⊎ IsAdvanced e n None (Ok came.Anew) → IsPaid s n 1 n.work (revalued s n)
paid-update law s e n edit phase whole (inl a) = paid-repair law s e n edit a.outcome.repairs.cost
paid-update law s e n edit phase whole (inr a) = absurd (whole-edited s.phase whole (subst (λ p. (p ≡ Partial) ⊎ (p ≡ Dropped)) phase a.outcome.from))
