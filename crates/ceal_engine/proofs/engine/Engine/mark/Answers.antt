use Rattle.std.proofs.Common.{◌≡◌, ◌∙◌, ◌≤◌, List, Option, length, ap, refl, subst, sym}
use Rattle.ceal_base.specs.declared.word.Place.{Place}
use Rattle.ceal_base.specs.declared.word.Word.{Word}
use Rattle.ceal_engine.proofs.Keeping.{run-kept, sound-left}
use Rattle.ceal_engine.proofs.MarkedEnds.{AbsentCores, map-ok, map-err, marked-core, marked-held, marked-input, marked-run, there-marked}
use Rattle.ceal_engine.specs.Engine.{EngineState}
use Rattle.ceal_engine.specs.Keeping.{marked_kept, running_in, state_of}
use Rattle.ceal_engine.specs.Marks.{IsModifiable, held_at_end}
use Rattle.ceal_engine.proofs.engine.Engine.mark.Goals as goal

pub mark-requires : goal.mark-requires
mark-requires c = let v = c.self.inside in record { kept = run-kept v.code v.fuel v.inputs v.call.call v.run c.self.invariant.keeps }

pub invariant_of-self : goal.invariant_of-self
invariant_of-self c = let v = c.self.inside in sound-left v.code v.fuel v.inputs v.call v.run c.mark.new.self c.mark.ensures.same c.self.invariant

pub returns-clause-same : goal.returns-clause-same
returns-clause-same c =
    let v = c.self.inside in
    (marked-run v.code v.fuel v.inputs v.call v.run c.mark.new.self c.args.self.now c.mark.ensures.same c.self.invariant c.self.view_is c.requires).same

pub returns-clause-err : goal.returns-clause-err
returns-clause-err c =
    let v = c.self.inside in
    map-err c.mark.result _ _ (λ same. ap (state_of v.code v.fuel v.inputs v.call.call) same ∙ c.self.view_is) c.mark.ensures.err

-- a modifiable of the engine is one of the engine that is marked
still : (e n : EngineState) (m : Option (List (Place × Word))) → n ≡ record e { marked = m } → (p : Place) → IsModifiable e p → (IsModifiable n p) × (held_at_end n p ≡ held_at_end e p)
still e n m is p h = rw is (h, refl)

pub returns-clause-marked : goal.returns-clause-marked
returns-clause-marked c =
    let v = c.self.inside in
    let run = marked-run v.code v.fuel v.inputs v.call v.run c.mark.new.self c.args.self.now c.mark.ensures.same c.self.invariant c.self.view_is c.requires in
    map-ok c.mark.result _ _ (λ there. there-marked c.mark.new.self run.finished there) c.mark.ensures.marked

pub returns-clause-held : goal.returns-clause-held
returns-clause-held c =
    let v = c.self.inside in
    let run = marked-run v.code v.fuel v.inputs v.call v.run c.mark.new.self c.args.self.now c.mark.ensures.same c.self.invariant c.self.view_is c.requires in
    map-ok c.mark.result _ _
    (λ held p modifiable.
    let there = still c.args.self.now (state_of v.code v.fuel v.inputs v.call.call c.mark.new.self) (marked_kept (running_in c.mark.new.self)) run.same p modifiable in
    marked-held v.code v.inputs v.fuel v.call c.mark.new.self
    run.sound run.finished held p there.0 ∙ there.1)
    c.mark.ensures.held

pub returns-clause-no_input : goal.returns-clause-no_input
returns-clause-no_input c =
    let v = c.self.inside in
    let run = marked-run v.code v.fuel v.inputs v.call v.run c.mark.new.self c.args.self.now c.mark.ensures.same c.self.invariant c.self.view_is c.requires in
    map-ok c.mark.result _ _
    (λ held i field out.
    marked-input v.code v.inputs v.fuel v.call c.mark.new.self
    run.sound run.finished held i field
    (subst (λ (e : EngineState). length e.inputs ≤ i) (sym c.self.view_is) out))
    c.mark.ensures.held

pub returns-clause-no_core : goal.returns-clause-no_core
returns-clause-no_core c =
    let v = c.self.inside in
    let run = marked-run v.code v.fuel v.inputs v.call v.run c.mark.new.self c.args.self.now c.mark.ensures.same c.self.invariant c.self.view_is c.requires in
    map-ok c.mark.result _ _
    (λ held.
    subst (λ (e : EngineState). AbsentCores e (state_of v.code v.fuel v.inputs v.call.call c.mark.new.self)) run.same
    (marked-core v.code v.inputs v.fuel v.call c.mark.new.self
    run.sound run.finished held))
    c.mark.ensures.held
