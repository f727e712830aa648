use Rattle.std.proofs.Common.{ap, sym, ◌∙◌, subst, IsSome, arith}
use Rattle.ceal_words.specs.SizeClass.{SizeClass, words_at, word_in, with_word}
use Rattle.ceal_words.proofs.PoolLemmas.{word_of, stands, fits, place, laid_set, view_set}
use Rattle.ceal_words.proofs.pool.Pool.set.Goals as goal

pub set-requires : goal.set-requires
set-requires c =
    let p = c.self.inside in let laid = c.self.invariant in
    let found = word_of p.size c.args.at c.args.index p.marks.lens p.chunk (subst (λ (s : SizeClass). IsSome (word_in (words_at s.pieces c.args.at) c.args.index)) (sym c.self.view_is) c.requires) in
    let below = stands p.marks.lens c.args.at (omega (arith, found.0)) in
    place p.size p.made p.head p.spare p.chunk p.marks.lens laid c.args.at c.args.index (omega (arith, below, laid.counted))
    (omega (arith, found.0, fits p.size p.made p.head p.spare p.chunk p.marks.lens laid c.args.at))

pub invariant_of-self : goal.invariant_of-self
invariant_of-self c =
    let p = c.self.inside in let laid = c.self.invariant in
    let found = word_of p.size c.args.at c.args.index p.marks.lens p.chunk (subst (λ (s : SizeClass). IsSome (word_in (words_at s.pieces c.args.at) c.args.index)) (sym c.self.view_is) c.requires) in
    rw c.set.ensures (laid_set p.size p.made p.head p.spare p.chunk p.marks.lens laid c.args.at c.args.index c.args.value (omega (arith, found.0))
    (omega (arith, found.0, fits p.size p.made p.head p.spare p.chunk p.marks.lens laid c.args.at)))

pub returns : goal.returns
returns c =
    let p = c.self.inside in let laid = c.self.invariant in
    let found = word_of p.size c.args.at c.args.index p.marks.lens p.chunk (subst (λ (s : SizeClass). IsSome (word_in (words_at s.pieces c.args.at) c.args.index)) (sym c.self.view_is) c.requires) in
    rw c.set.ensures (view_set p.size p.made p.head p.spare p.chunk p.marks.lens laid c.args.at c.args.index c.args.value (omega (arith, found.0))
    (omega (arith, found.0, fits p.size p.made p.head p.spare p.chunk p.marks.lens laid c.args.at)))
    ∙ ap (with_word c.args.at c.args.index c.args.value) c.self.view_is
