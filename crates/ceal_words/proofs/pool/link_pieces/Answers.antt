use Rattle.std.proofs.lemmas.List.{length-set}
use Rattle.std.proofs.Common.{◌∙◌, ◌≤◌, ◌+◌, ◌*◌, length, sym, subst}
use Rattle.ceal_words.proofs.PoolLemmas.{room_for, laid_one, class_one}
use Rattle.ceal_words.specs.Layout.{class_of}
use Rattle.ceal_words.proofs.pool.link_pieces.Goals as goal

pub loop-i-preserved : goal.loop-i-preserved
loop-i-preserved c =
    let l = c.loop-i in
    let a = c.args in
    let room : (a.pieces.made + a.more) * a.pieces.size ≤ length l.chunk = subst (λ n. (a.pieces.made + a.more) * a.pieces.size ≤ n) (sym l.invariant.long) c.requires.room in
    let enough = room_for a.pieces.size a.pieces.made l.i a.more (length l.chunk) c.loop-i-test.true room in
    rw (c.add.ensures, c.set.ensures) (record {
      long = length-set l.chunk ((a.pieces.made + l.i) * a.pieces.size) l.head ∙ l.invariant.long;
      laid = λ spare h. laid_one a.pieces.size a.pieces.made l.head spare l.i l.chunk l.marks.lens (class_of a.pieces.size a.chunk.now a.marks.now.lens spare) (l.invariant.laid spare h) enough
          (l.invariant.class spare h);
      class = λ spare h. class_one a.pieces.size a.pieces.made l.head spare l.i l.chunk l.marks.lens (class_of a.pieces.size a.chunk.now a.marks.now.lens spare) (l.invariant.laid spare h) enough
          (l.invariant.class spare h);
    })
