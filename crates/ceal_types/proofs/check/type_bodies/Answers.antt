use Rattle.std.proofs.Common.{◌≡◌, ◌++◌, ◌∷◌, [], ap, refl, ◌∙◌, rules}
use Rattle.std.proofs.lemmas.List.{reverse-reverse}
use Rattle.std.proofs.lemmas.Result.{err_from_is_err_and}
use Rattle.ceal_types.specs.Checked.{with_body}
use Rattle.ceal_types.specs.Walk.{in_turn}
use Rattle.ceal_types.proofs.Walks.WalkFromItem.{taken-passed, taken-failed, taken-over}
use Rattle.ceal_types.proofs.check.type_bodies.Goals as goal

pub loop-entry-init : goal.loop-entry-init
loop-entry-init c =
    rw (c.reverse.ensures.items, c.empty-functions.ensures.value) (ap (λ es. in_turn (with_body c.args.program.now) es []) (reverse-reverse c.args.entries.now.items))

-- the first body with a fault has the first fault of the list
pub returns-in_err-take_body : goal.returns-in_err-take_body
returns-in_err-take_body c =
    let popped : c.loop-entry.entries.items ≡ c.pop.new.self.items ++ c.in-Some.entry ∷ [] = c.pop.ensures.items ∙ (rw c.in-Some.is refl) in
    let p = err_from_is_err_and c.from_residual.result c.from_residual.ensures.1 in
    rw (p.1, p.2) (taken-failed (with_body c.args.program.now) c.loop-entry.entries.items c.pop.new.self.items c.in-Some.entry _ _ _
    popped c.loop-entry.invariant c.in_err-take_body.ensures)

-- one function more has a body without a fault
pub loop-entry-preserved : goal.loop-entry-preserved
loop-entry-preserved c =
    let popped : c.loop-entry.entries.items ≡ c.pop.new.self.items ++ c.in-Some.entry ∷ [] = c.pop.ensures.items ∙ (rw c.in-Some.is refl) in
    taken-passed (with_body c.args.program.now) c.loop-entry.entries.items c.pop.new.self.items c.in-Some.entry _ _ _
    popped c.loop-entry.invariant c.in_ok-take_body.ensures

pub returns : goal.returns
returns c =
    let empty : c.loop-entry.entries.items ≡ [] = search rules in
    taken-over (with_body c.args.program.now) c.loop-entry.entries.items _ _ empty c.loop-entry.invariant
