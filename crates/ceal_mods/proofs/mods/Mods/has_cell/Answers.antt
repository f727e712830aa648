use Rattle.std.proofs.Common.{◌∙◌, arith}
use Rattle.ceal_mods.proofs.IndexLemmas.{cell_told}
use Rattle.ceal_mods.proofs.mods.Mods.has_cell.Goals as goal

pub returns : goal.returns
returns c =
    let told = cell_told c.self.inside.index c.self.inside.cells.items c.args.place c.self.invariant.indexes in
    let is = c.find.ensures ∙ c.self.invariant.indexes.slots c.args.place in
    rw (is, ← c.self.view_is)
    ((λ some. told.0 (λ none. absurd (let no = rw none at some in cc))), (λ has. let some = told.1 has in grind (arith, some)))
