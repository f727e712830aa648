use Rattle.std.proofs.Common.{◌∙◌, ap, sym, Some}
use Rattle.ceal_words.specs.Region.{words_of}
use Rattle.ceal_heap.proofs.CellsLemmas.{read}
use Rattle.ceal_heap.proofs.pieces.Pieces.word.Goals as goal

pub returns : goal.returns
returns c =
    let slot = c.args.slot.now in
    rw (← c.self.view_is) (read (words_of c.self.inside.region slot) c.args.index c.get-sort.result c.get-cell.result c.get-sort.ensures c.get-cell.ensures
    ∙ ap Some (sym c.word.ensures))
