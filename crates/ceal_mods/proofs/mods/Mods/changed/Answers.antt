use Rattle.std.proofs.Common.{◌∙◌, ap}
use Rattle.ceal_mods.specs.Marks.{times}
use Rattle.ceal_mods.proofs.ChangedPlaces.{if-listed, told-not, told-once}
use Rattle.ceal_mods.proofs.ToldCells.{told-all}
use Rattle.ceal_mods.proofs.mods.Mods.changed.Goals as goal

pub changed-requires-clause-values : goal.changed-requires-clause-values
changed-requires-clause-values g c =
    rw c.deref.ensures.value (told-all (g.W.Written.tells c.args.written.now) c.self.inside.cells.items c.self.invariant.apart (rw (← c.self.view_is) at c.requires.values))

pub returns-clause-told : goal.returns-clause-told
returns-clause-told g c =
    let v = c.self.inside in
    let whole = rw c.in-Some.is at c.self.invariant in
    rw (← c.self.view_is, c.in-Some.is)
    (if-listed c.changed.result (λ places. places.items) _ _ (rw c.deref.ensures.value at c.changed.ensures)
    (λ places is p differs. ap (times p) is ∙ told-once c.in-Some.marks v.cells.items whole.watched whole.apart p differs))

pub returns-clause-only : goal.returns-clause-only
returns-clause-only g c =
    let v = c.self.inside in
    let whole = rw c.in-Some.is at c.self.invariant in
    rw (← c.self.view_is, c.in-Some.is)
    (if-listed c.changed.result (λ places. places.items) _ _ (rw c.deref.ensures.value at c.changed.ensures)
    (λ places is p same. ap (times p) is ∙ told-not c.in-Some.marks v.cells.items whole.watched whole.apart p same))
