use Rattle.std.proofs.Common.{◌∙◌, arith, length, pos}
use Rattle.ceal_base.specs.declared.word.Word.TheVariants.{Num}
use Rattle.ceal_words.specs.Region.{words_of}
use Rattle.ceal_heap.specs.Cells.{words_read}
use Rattle.ceal_heap.proofs.CellsLemmas.{inside, length_read, one_more, all_written, others_then}
use Rattle.ceal_heap.proofs.pieces.Pieces.write_all.Goals as goal

pub write-requires-clause-cells : goal.write-requires-clause-cells
write-requires-clause-cells c =
    let e = c.loop-index.invariant.cells in
    let h = inside (length c.args.words.now) c.loop-index.index c.loop-index-test.true in omega (arith, e, h)

pub loop-index-preserved : goal.loop-index-preserved
loop-index-preserved c =
    let before = words_of c.loop-index.self c.args.slot.now in
    let long = length_read before (length c.args.words.now) c.loop-index.invariant.cells in
    record {
      cells = c.write.ensures.cells ∙ c.loop-index.invariant.cells;
      same = one_more (words_read before) c.args.words.now (words_read (words_of c.write.new.self c.args.slot.now)) c.loop-index.index (Num (pos 0))
          c.write.ensures.words long c.loop-index-test.true c.loop-index.invariant.same;
      others = others_then c.args.slot.now c.args.self.now c.loop-index.self c.write.new.self c.loop-index.invariant.others c.write.ensures.others;
    }

pub returns-clause-words : goal.returns-clause-words
returns-clause-words c =
    let now = words_of c.loop-index.self c.args.slot.now in
    let long = length_read now (length c.args.words.now) c.loop-index.invariant.cells in
    all_written (words_read now) c.args.words.now c.loop-index.index long c.loop-index-test.false c.loop-index.invariant.same
