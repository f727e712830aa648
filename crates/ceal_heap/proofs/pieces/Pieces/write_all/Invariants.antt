use Rattle.std.proofs.Common.{◌≡◌, take, length}
use Rattle.ceal_words.specs.Region.{words_of, KeepsOthers}
use Rattle.ceal_heap.specs.Cells.{words_read, cells_held, cell_count}
use Rattle.ceal_heap.proofs.pieces.Pieces.write_all.Given as goal

abbrev pub invariant-loop-index : goal.invariant-loop-index
invariant-loop-index l = record {
  cells : cells_held (words_of l.self l.slot) ≡ cell_count (length l.words);
  same : take l.index (words_read (words_of l.self l.slot)) ≡ take l.index l.words;
  others : KeepsOthers l.slot l.fn.self l.self;
}
