use Rattle.std.proofs.Common.{refl, [], ◌∷◌, ◌++◌, ◌≡◌, ◌∙◌, ◌+◌, ◌<◌, ◌^◌, true, length, ap, sym, subst}
use Rattle.ceal_base.specs.Block.{Block, alone}
use Rattle.ceal_base.specs.Fitting.{block_fits}
use Rattle.ceal_engine.proofs.Keeping.{on-err, sound-left, state-left}
use Rattle.ceal_engine.proofs.NewInput.{run-unread, sound-longer}
use Rattle.ceal_engine.proofs.EngineLaws.{carries-still, same-input}
use Rattle.ceal_engine.proofs.Inputs.{extended-longer}
use Rattle.ceal_engine.proofs.CostOfCalls.{cost-input, input-same}
use Rattle.ceal_engine.specs.Keeping.{state_of}
use Rattle.ceal_engine.specs.Cost.{CostOfInput}
use Rattle.ceal_engine.specs.Partial.{CarriesRepair}
use Rattle.ceal_engine.specs.Runs.{OfRuns, SetsInput, same_stage}
use Rattle.ceal_engine.proofs.engine.Engine.add_input.Goals as goal

pub invariant_of-self : goal.invariant_of-self
invariant_of-self c = let v = c.self.inside in sound-left v.code v.fuel v.inputs v.call v.run c.touch.new.self c.touch.ensures.same c.self.invariant

pub returns-in_err-touch-clause-err : goal.returns-in_err-touch-clause-err
returns-in_err-touch-clause-err c =
    let v = c.self.inside in
    on-err c.from_residual-in_err-touch.result _ (state-left v.code v.fuel v.inputs v.call.call v.run c.touch.new.self c.touch.ensures.same c.touch.ensures.marks ∙ c.self.view_is)

pub invariant_of-self-in_err-push : goal.invariant_of-self-in_err-push
invariant_of-self-in_err-push c =
    let v = c.self.inside in
    rw c.in_err-push.ensures.err (sound-left v.code v.fuel v.inputs v.call v.run c.touch.new.self c.touch.ensures.same c.self.invariant)

pub returns-in_err-push-clause-err : goal.returns-in_err-push-clause-err
returns-in_err-push-clause-err c =
    let v = c.self.inside in
    on-err c.from_residual-in_err-push.result _
    (rw c.in_err-push.ensures.err (state-left v.code v.fuel v.inputs v.call.call v.run c.touch.new.self c.touch.ensures.same c.touch.ensures.marks ∙ c.self.view_is))

pub add-requires-clause-unread : goal.add-requires-clause-unread
add-requires-clause-unread c =
    let v = c.self.inside in
    rw c.items.ensures.value
    (run-unread v.code v.fuel v.inputs v.call.call c.touch.new.self (sound-left v.code v.fuel v.inputs v.call v.run c.touch.new.self c.touch.ensures.same c.self.invariant).keeps)

-- the run has the places of the new input too, with what they start as
pub invariant_of-self-2 : goal.invariant_of-self-2
invariant_of-self-2 c =
    let v = c.self.inside in
    let b : Block = record { shape = c.args.shape; words = c.args.words.now } in
    let is = c.new-block.ensures.value ∙ ap (λ ws. record { shape = c.args.shape; words = ws }) c.in_ok-from_slice.ensures.items in
    let set : OfRuns (SetsInput v.code.structs (length v.inputs) c.args.shape c.args.words.now) same_stage c.touch.new.self c.add.new.self = rw c.items.ensures.value at c.add.ensures.sets in
    let sound = sound-left v.code v.fuel v.inputs v.call v.run c.touch.new.self c.touch.ensures.same c.self.invariant in
    rw (c.in_ok-push.ensures.ok, is)
    (sound-longer v.code v.fuel v.inputs b
    (subst (λ e. block_fits e.code.structs (alone e.inputs) b ≡ true) (sym c.self.view_is) c.requires.fits) c.self.invariant.fit v.call c.touch.new.self c.add.new.self set
    (subst (λ e. length e.inputs + 1 < 2 ^ 32) (sym c.self.view_is) c.requires.room) sound)

pub returns-in_err-from_slice-clause-cost : goal.returns-in_err-from_slice-clause-cost
returns-in_err-from_slice-clause-cost c = input-same c.args.self.now _ refl

pub returns-in_err-touch-clause-cost : goal.returns-in_err-touch-clause-cost
returns-in_err-touch-clause-cost c =
    let v = c.self.inside in
    input-same c.args.self.now _ (state-left v.code v.fuel v.inputs v.call.call v.run c.touch.new.self c.touch.ensures.same c.touch.ensures.marks ∙ c.self.view_is)

pub returns-in_err-push-clause-cost : goal.returns-in_err-push-clause-cost
returns-in_err-push-clause-cost c =
    let v = c.self.inside in
    input-same c.args.self.now _ (rw c.in_err-push.ensures.err (state-left v.code v.fuel v.inputs v.call.call v.run c.touch.new.self c.touch.ensures.same c.touch.ensures.marks ∙ c.self.view_is))

-- no read was looked at
pub returns-clause-cost : goal.returns-clause-cost
returns-clause-cost c =
    let v = c.self.inside in
    let b : Block = record { shape = c.args.shape; words = c.args.words.now } in
    let is = c.new-block.ensures.value ∙ ap (λ ws. record { shape = c.args.shape; words = ws }) c.in_ok-from_slice.ensures.items in
    let set : OfRuns (SetsInput v.code.structs (length v.inputs) c.args.shape c.args.words.now) same_stage c.touch.new.self c.add.new.self = rw c.items.ensures.value at c.add.ensures.sets in
    rw (c.in_ok-push.ensures.ok, is)
    (subst (λ e. CostOfInput e (state_of v.code v.fuel (v.inputs ++ b ∷ []) v.call.call c.add.new.self))
    (state-left v.code v.fuel v.inputs v.call.call v.run c.touch.new.self c.touch.ensures.same c.touch.ensures.marks ∙ c.self.view_is)
    (cost-input v.code v.fuel v.inputs v.call.call v.code.structs (length v.inputs) c.args.shape c.args.words.now (v.inputs ++ b ∷ []) c.touch.new.self c.add.new.self set))

-- the repair that continues has one input more, which its items do not name
pub returns-clause-carries : goal.returns-clause-carries
returns-clause-carries c = λ next r carries.
    let v = c.self.inside in
    let b : Block = record { shape = c.args.shape; words = c.args.words.now } in
    let is = c.new-block.ensures.value ∙ ap (λ ws. record { shape = c.args.shape; words = ws }) c.in_ok-from_slice.ensures.items in
    let set : OfRuns (SetsInput v.code.structs (length v.inputs) c.args.shape c.args.words.now) same_stage c.touch.new.self c.add.new.self = rw c.items.ensures.value at c.add.ensures.sets in
    let left = sound-left v.code v.fuel v.inputs v.call v.run c.touch.new.self c.touch.ensures.same c.self.invariant in
    let longer = sound-longer v.code v.fuel v.inputs b (subst (λ e. block_fits e.code.structs (alone e.inputs) b ≡ true) (sym c.self.view_is) c.requires.fits) c.self.invariant.fit
    v.call c.touch.new.self c.add.new.self set (subst (λ e. length e.inputs + 1 < 2 ^ 32) (sym c.self.view_is) c.requires.room) left in
    let same = state-left v.code v.fuel v.inputs v.call.call v.run c.touch.new.self c.touch.ensures.same c.touch.ensures.marks ∙ c.self.view_is in
    rw (c.in_ok-push.ensures.ok, is)
    (carries-still v.code v.fuel v.inputs (v.inputs ++ b ∷ []) v.call (extended-longer v.code v.inputs b) same_stage (λ g work. refl) c.touch.new.self c.add.new.self left longer
    (same-input v.code.structs (length v.inputs) c.args.shape c.args.words.now c.touch.new.self c.add.new.self set) next r (subst (λ e. CarriesRepair e next r) (sym same) carries))
