use Rattle.std.proofs.Common.{◌∙◌, ap, set}
use Rattle.ceal_base.specs.declared.word.Word.{Word}
use Rattle.ceal_words.specs.Region.{words_of}
use Rattle.ceal_heap.specs.Cells.{words_read}
use Rattle.ceal_heap.proofs.CellsLemmas.{written}
use Rattle.ceal_heap.proofs.pieces.Pieces.write.Goals as goal

pub returns-clause-words : goal.returns-clause-words
returns-clause-words c =
    let slot = c.args.slot.now in
    rw (← c.self.view_is) (written (words_of c.self.inside.region slot) (words_of c.set.new.self slot) (words_of c.set-2.new.self slot) c.args.index
    c.of-cells.result.sort c.of-cells.result.cell c.set.ensures.word c.set-2.ensures.word
    ∙ ap (λ (w : Word). set (words_read (words_of c.self.inside.region slot)) c.args.index w) c.of-cells.ensures)
