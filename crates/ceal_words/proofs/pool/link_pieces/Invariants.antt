use Rattle.std.proofs.Common.{◌≡◌, ℕ, ◌+◌, length}
use Rattle.ceal_words.specs.SizeClass.{grown}
use Rattle.ceal_words.specs.Layout.{IsLaidOut, class_of}
use Rattle.ceal_words.proofs.pool.link_pieces.Given as goal

abbrev pub invariant-loop-i : goal.invariant-loop-i
invariant-loop-i l = record {
  long : length l.chunk ≡ length l.initial.chunk;
  laid : (spare : ℕ) → IsLaidOut l.pieces.size l.initial.chunk l.initial.marks.lens l.pieces.made l.initial.head spare
      → IsLaidOut l.pieces.size l.chunk l.marks.lens (l.pieces.made + l.i) l.head (spare + l.i);
  class : (spare : ℕ) → IsLaidOut l.pieces.size l.initial.chunk l.initial.marks.lens l.pieces.made l.initial.head spare
      → class_of l.pieces.size l.chunk l.marks.lens (spare + l.i) ≡ grown l.i (class_of l.pieces.size l.initial.chunk l.initial.marks.lens spare);
}
