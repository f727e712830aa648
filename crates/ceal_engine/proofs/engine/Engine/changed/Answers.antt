use Rattle.std.proofs.Common.{◌≡◌, ◌∙◌, ap, refl, sym, subst, arith}
use Rattle.std.proofs.lemmas.Bool.{false≢true}
use Rattle.std.specs.Prelude.{IsSome, IfSome}
use Rattle.ceal_engine.proofs.Keeping.{run-kept}
use Rattle.ceal_engine.proofs.MarkedEnds.{all-told, as-held, modifiable-told, modifiables, other-passed, times-modifiable, times-other}
use Rattle.ceal_engine.specs.Engine.{EngineState}
use Rattle.ceal_engine.specs.Keeping.{marked_kept}
use Rattle.ceal_engine.specs.Marks.{IsModifiable, held_at_end, held_at_mark}
use Rattle.ceal_engine.specs.declared.phase.Phase.TheVariants.{Finished}
use Rattle.ceal_mods.specs.Marks.{times}
use Rattle.ceal_repair.specs.Kept.{Kept}
use Rattle.ceal_engine.proofs.engine.Engine.changed.Goals as goal
use Rattle.ceal_engine.proofs.engine.Engine.changed.Goals.{then-has_value+in_ok-push, else-has_value}

pub finished-requires : goal.finished-requires
finished-requires c = subst (λ (e : EngineState). e.phase ≡ Finished) (sym c.self.view_is) c.requires.finished

pub changed-requires : goal.changed-requires
changed-requires c =
    let v = c.self.inside in
    record {
      kept = subst (λ o. IfSome o (λ r. Kept r.tables)) c.finished.ensures (run-kept v.code v.fuel v.inputs v.call.call v.run c.self.invariant.keeps);
      marked = subst (λ o. IsSome (marked_kept o)) c.finished.ensures (subst (λ (e : EngineState). IsSome e.marked) (sym c.self.view_is) c.requires.marked);
    }

pub loop-place-init : goal.loop-place-init
loop-place-init c = rw c.new-places.ensures.items refl

pub loop-place-preserved : goal.loop-place-preserved
loop-place-preserved c = elim c.if-has_value.branch [
  | then-has_value+in_ok-push w ↦
      rw w.places-is
      (modifiable-told c.args.self.now c.as_slice-place-items.result.now c.loop-place.place-index _ c.loop-place.places.items _ _ c.loop-place-test.true
      (c.has_value.ensures.there w.if-has_value.true) c.loop-place.invariant w.in_ok-push.ensures.items)
  | else-has_value w ↦
      rw w.places-is
      (other-passed c.args.self.now c.as_slice-place-items.result.now c.loop-place.place-index _ c.loop-place.places.items _ c.loop-place-test.true
      (λ one. false≢true (sym w.if-has_value.false ∙ c.has_value.ensures.only c.requires.finished one)) c.loop-place.invariant)
]

pub returns-clause-told : goal.returns-clause-told
returns-clause-told c =
    let v = c.self.inside in
    let all = all-told c.args.self.now c.as_slice-place-items.result.now c.loop-place.place-index c.loop-place.places.items _ (omega arith) c.loop-place.invariant
    ∙ ap (modifiables c.args.self.now) c.as_slice-place-items.ensures.value in
    λ p m differs.
    let fin = subst (λ (e : EngineState). e.phase ≡ Finished) (sym c.self.view_is) c.requires.finished in
    let held = as-held v.code v.inputs v.fuel v.call v.run c.self.invariant fin c.finished.result.now c.finished.ensures p (subst (λ (e : EngineState). IsModifiable e p) (sym c.self.view_is) m) in
    ap (times p) all
    ∙ (times-modifiable c.args.self.now p c.in_ok-told.told.items m
    ∙ c.in_ok-told.ensures.told p (λ same. differs (subst (λ (e : EngineState). held_at_end e p ≡ held_at_mark e p) c.self.view_is (sym held.0 ∙ (same ∙ held.1)))))

pub returns-clause-only : goal.returns-clause-only
returns-clause-only c =
    let v = c.self.inside in
    let all = all-told c.args.self.now c.as_slice-place-items.result.now c.loop-place.place-index c.loop-place.places.items _ (omega arith) c.loop-place.invariant
    ∙ ap (modifiables c.args.self.now) c.as_slice-place-items.ensures.value in
    λ p m same.
    let fin = subst (λ (e : EngineState). e.phase ≡ Finished) (sym c.self.view_is) c.requires.finished in
    let held = as-held v.code v.inputs v.fuel v.call v.run c.self.invariant fin c.finished.result.now c.finished.ensures p (subst (λ (e : EngineState). IsModifiable e p) (sym c.self.view_is) m) in
    ap (times p) all
    ∙ (times-modifiable c.args.self.now p c.in_ok-told.told.items m
    ∙ c.in_ok-told.ensures.only p (held.0 ∙ (subst (λ (e : EngineState). held_at_end e p ≡ held_at_mark e p) (sym c.self.view_is) same ∙ sym held.1)))

pub returns-clause-modifiables : goal.returns-clause-modifiables
returns-clause-modifiables c =
    let all = all-told c.args.self.now c.as_slice-place-items.result.now c.loop-place.place-index c.loop-place.places.items _ (omega arith) c.loop-place.invariant
    ∙ ap (modifiables c.args.self.now) c.as_slice-place-items.ensures.value in
    λ p other. ap (times p) all ∙ times-other c.args.self.now p c.in_ok-told.told.items other
