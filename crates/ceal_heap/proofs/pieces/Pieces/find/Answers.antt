use Rattle.std.proofs.Common.{◌∙◌, sym}
use Rattle.ceal_words.specs.Region.{words_of}
use Rattle.ceal_heap.specs.Cells.{read_at}
use Rattle.ceal_heap.proofs.CellsLemmas.{length_read}
use Rattle.ceal_heap.proofs.PartsLemmas.{kept_word, word_after}
use Rattle.ceal_heap.proofs.pieces.Pieces.find.Goals as goal

pub returns-then-index-count : goal.returns-then-index-count
returns-then-index-count c =
    let held = c.args.held.now in
    kept_word (read_at c.args.self.now held.slot) held.parts c.args.index c.word.result c.word.ensures

pub returns-else-index-count : goal.returns-else-index-count
returns-else-index-count c =
    let held = c.args.held.now in
    let long = length_read (words_of c.args.self.now held.slot) held.parts.kept c.requires.cells ∙ sym c.count-count.ensures.value in
    c.filled.ensures ∙ word_after (read_at c.args.self.now held.slot) held.parts c.args.index c.count-count.result long c.if-index-count.false
