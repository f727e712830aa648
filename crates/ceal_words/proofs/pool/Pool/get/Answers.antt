use Rattle.std.proofs.Common.{◌≡◌, ap, sym, ◌∙◌, subst, IsSome, Some, arith}
use Rattle.ceal_words.specs.SizeClass.{SizeClass, words_at, word_in}
use Rattle.ceal_words.proofs.PoolLemmas.{word_of, stands, fits, place}
use Rattle.ceal_words.proofs.pool.Pool.get.Goals as goal

pub get-requires : goal.get-requires
get-requires c =
    let p = c.self.inside in let laid = c.self.invariant in
    let found = word_of p.size c.args.at c.args.index p.marks.lens p.chunk (subst (λ (s : SizeClass). IsSome (word_in (words_at s.pieces c.args.at) c.args.index)) (sym c.self.view_is) c.requires) in
    let below = stands p.marks.lens c.args.at (omega (arith, found.0)) in
    place p.size p.made p.head p.spare p.chunk p.marks.lens laid c.args.at c.args.index (omega (arith, below, laid.counted))
    (omega (arith, found.0, fits p.size p.made p.head p.spare p.chunk p.marks.lens laid c.args.at))

pub returns : goal.returns
returns c =
    let p = c.self.inside in
    let found = word_of p.size c.args.at c.args.index p.marks.lens p.chunk (subst (λ (s : SizeClass). IsSome (word_in (words_at s.pieces c.args.at) c.args.index)) (sym c.self.view_is) c.requires) in
    subst (λ (s : SizeClass). word_in (words_at s.pieces c.args.at) c.args.index ≡ Some c.get.result) c.self.view_is (found.1 ∙ ap Some (sym c.get.ensures))
