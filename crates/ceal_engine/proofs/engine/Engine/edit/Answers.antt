use Rattle.std.proofs.Common.{◌≡◌, ◌∙◌, true, sym, subst}
use Rattle.ceal_base.specs.Block.{alone}
use Rattle.ceal_engine.proofs.Keeping.{run-kept, on-err, sound-edited, sound-left, state-left}
use Rattle.ceal_base.specs.Fitting.{kind_at}
use Rattle.ceal_code.proofs.Words.SameIsEqual.{both}
use Rattle.ceal_code.specs.Value.{is_cell}
use Rattle.ceal_engine.proofs.EngineLaws.{carries-still, same-base}
use Rattle.ceal_engine.proofs.Inputs.{extended-edit}
use Rattle.ceal_engine.proofs.CostOfCalls.{cost-edit, cost-same, spent-edited}
use Rattle.ceal_engine.specs.Engine.{fits_in, takes, with_base}
use Rattle.ceal_engine.specs.Keeping.{state_of}
use Rattle.ceal_engine.specs.Cost.{CostOfEdit}
use Rattle.ceal_engine.specs.Partial.{CarriesRepair}
use Rattle.ceal_engine.specs.Runs.{edited_at}
use Rattle.ceal_engine.proofs.engine.Engine.edit.Goals as goal

pub edit-requires : goal.edit-requires
edit-requires c = let v = c.self.inside in record { kept = run-kept v.code v.fuel v.inputs v.call.call v.run c.self.invariant.keeps }

pub invariant_of-self : goal.invariant_of-self
invariant_of-self c = let v = c.self.inside in sound-left v.code v.fuel v.inputs v.call v.run c.edit.new.self c.in_err-edit.ensures.err c.self.invariant

-- the run has the new base, and the reads that may be stale are queued
pub invariant_of-self-2 : goal.invariant_of-self-2
invariant_of-self-2 c =
    let v = c.self.inside in
    rw c.set_base.ensures
    (sound-edited v.code v.inputs c.args.place c.args.value c.self.invariant.fit
    (subst (λ e. takes e c.args.place c.args.value ≡ true) (sym c.self.view_is) c.requires) v.fuel v.call v.run c.edit.new.self c.in_ok-edit.ensures.ok c.self.invariant)

pub returns-in_err-edit-clause-err : goal.returns-in_err-edit-clause-err
returns-in_err-edit-clause-err c =
    let v = c.self.inside in
    on-err c.from_residual.result _ (state-left v.code v.fuel v.inputs v.call.call v.run c.edit.new.self c.in_err-edit.ensures.err c.edit.ensures.marks ∙ c.self.view_is)

pub returns-in_err-edit-clause-cost : goal.returns-in_err-edit-clause-cost
returns-in_err-edit-clause-cost c =
    let v = c.self.inside in
    cost-same c.args.self.now _ (state-left v.code v.fuel v.inputs v.call.call v.run c.edit.new.self c.in_err-edit.ensures.err c.edit.ensures.marks ∙ c.self.view_is)

-- no read was looked at, and at most the reads of one place can differ now
pub returns-clause-cost : goal.returns-clause-cost
returns-clause-cost c =
    let v = c.self.inside in
    rw c.set_base.ensures
    (subst (λ e. CostOfEdit e (state_of v.code v.fuel (with_base v.inputs c.args.place c.args.value) v.call.call c.edit.new.self)) c.self.view_is
    (cost-edit v.code v.fuel v.inputs v.call.call c.args.place c.args.value (with_base v.inputs c.args.place c.args.value) v.run c.edit.new.self c.in_ok-edit.ensures.ok))

-- the repair that continues is one on the edited inputs
pub returns-clause-carries : goal.returns-clause-carries
returns-clause-carries c = λ next r carries.
    let v = c.self.inside in
    let takes-it = subst (λ e. takes e c.args.place c.args.value ≡ true) (sym c.self.view_is) c.requires in
    let more = with_base v.inputs c.args.place c.args.value in
    let sound = sound-edited v.code v.inputs c.args.place c.args.value c.self.invariant.fit takes-it v.fuel v.call v.run c.edit.new.self c.in_ok-edit.ensures.ok c.self.invariant in
    let cell = (both (is_cell (kind_at v.code.structs (alone v.inputs) c.args.place))
    (fits_in v.code.structs (alone v.inputs) (kind_at v.code.structs (alone v.inputs) c.args.place) c.args.value) takes-it).0 in
    rw c.set_base.ensures
    (carries-still v.code v.fuel v.inputs more v.call (extended-edit v.code v.inputs c.args.place c.args.value cell) edited_at spent-edited v.run c.edit.new.self c.self.invariant sound
    (same-base c.args.place c.args.value v.run c.edit.new.self c.in_ok-edit.ensures.ok) next r (subst (λ e. CarriesRepair e next r) (sym c.self.view_is) carries))
