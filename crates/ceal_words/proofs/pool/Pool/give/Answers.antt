use Rattle.std.proofs.Common.{ap, sym, ◌∙◌, subst, IsSome, IfSome, length, arith}
use Rattle.ceal_words.specs.Lengths.{RoundsTo}
use Rattle.ceal_words.specs.SizeClass.{SizeClass, words_at, given}
use Rattle.ceal_words.proofs.PoolLemmas.{marked, stands, place, has_taken, laid_given, view_given, taken_length}
use Rattle.ceal_words.proofs.pool.Pool.give.Goals as goal

pub set-requires : goal.set-requires
set-requires c =
    let p = c.self.inside in let laid = c.self.invariant in
    let busy = marked p.size c.args.at p.marks.lens p.chunk (subst (λ (s : SizeClass). IsSome (words_at s.pieces c.args.at)) (sym c.self.view_is) c.requires) in
    let below = stands p.marks.lens c.args.at busy in
    let h = place p.size p.made p.head p.spare p.chunk p.marks.lens laid c.args.at 0 (omega (arith, below, laid.counted)) laid.some in omega (arith, h)

pub overflow_add-self : goal.overflow_add-self
overflow_add-self c =
    let p = c.self.inside in let laid = c.self.invariant in
    let busy = marked p.size c.args.at p.marks.lens p.chunk (subst (λ (s : SizeClass). IsSome (words_at s.pieces c.args.at)) (sym c.self.view_is) c.requires) in
    let few = has_taken p.size p.made p.head p.spare p.chunk p.marks.lens laid c.args.at busy in record { fits = omega (arith, few, c.self.ranges) }

pub mark-requires : goal.mark-requires
mark-requires c =
    let p = c.self.inside in let laid = c.self.invariant in
    let busy = marked p.size c.args.at p.marks.lens p.chunk (subst (λ (s : SizeClass). IsSome (words_at s.pieces c.args.at)) (sym c.self.view_is) c.requires) in
    stands p.marks.lens c.args.at busy

pub invariant_of-self : goal.invariant_of-self
invariant_of-self c =
    let p = c.self.inside in let laid = c.self.invariant in
    let busy = marked p.size c.args.at p.marks.lens p.chunk (subst (λ (s : SizeClass). IsSome (words_at s.pieces c.args.at)) (sym c.self.view_is) c.requires) in
    rw (c.mark.ensures, c.set.ensures) (laid_given p.size p.made p.head p.spare p.chunk p.marks.lens laid c.args.at busy)

pub returns-clause-length : goal.returns-clause-length
returns-clause-length c =
    let p = c.self.inside in
    subst (λ (s : SizeClass). IfSome (words_at s.pieces c.args.at) (λ words. RoundsTo (length words) s.size)) c.self.view_is
    (taken_length p.size p.made p.head p.spare p.chunk p.marks.lens c.self.invariant c.args.at)

pub returns-clause-given : goal.returns-clause-given
returns-clause-given c =
    let p = c.self.inside in let laid = c.self.invariant in
    let busy = marked p.size c.args.at p.marks.lens p.chunk (subst (λ (s : SizeClass). IsSome (words_at s.pieces c.args.at)) (sym c.self.view_is) c.requires) in
    rw (c.mark.ensures, c.set.ensures) (view_given p.size p.made p.head p.spare p.chunk p.marks.lens laid c.args.at busy)
    ∙ ap (given c.args.at) c.self.view_is
