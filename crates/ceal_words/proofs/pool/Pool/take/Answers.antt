use Rattle.std.proofs.Common.{ap, sym, ◌∙◌, subst, None, IsSome, arith}
use Rattle.std.proofs.lemmas.Option.{slice_get_within}
use Rattle.ceal_words.specs.SizeClass.{SizeClass, words_at, word_in, with_word}
use Rattle.ceal_words.proofs.PoolLemmas.{zeroed_more, zeroed_all, zeroed_within}
use Rattle.ceal_words.proofs.pool.Pool.take.Goals as goal

pub loop-index-init : goal.loop-index-init
loop-index-init c =
    let found = c.pop-at.ensures.taken in
    (found.0, found.1, slice_get_within c.args.self.now.pieces c.pop-at.result None c.pop-at.ensures.was_free, found.2)

pub set-requires : goal.set-requires
set-requires c =
    let now = c.loop-index.invariant in
    subst (λ (s : SizeClass). IsSome (word_in (words_at s.pieces c.pop-at.result) c.loop-index.index)) (sym now.3)
    (zeroed_within c.args.self.now c.pop-at.result c.loop-index.index now.0 now.2 (omega (arith, now.1, c.loop-index-test.true)))

pub loop-index-preserved : goal.loop-index-preserved
loop-index-preserved c =
    let now = c.loop-index.invariant in (
      now.0,
      now.1,
      now.2,
      c.set.ensures ∙ ap (with_word c.pop-at.result c.loop-index.index 0) now.3
          ∙ zeroed_more c.args.self.now c.pop-at.result c.loop-index.index now.0 now.2 (omega (arith, now.1, c.loop-index-test.true)),
    )

pub returns-clause-taken : goal.returns-clause-taken
returns-clause-taken c =
    let now = c.loop-index.invariant in
    now.3 ∙ zeroed_all c.args.self.now c.pop-at.result c.args.len c.loop-index.index now.0 now.1 (omega (arith, c.loop-index-test.false, c.loop-index.auto))
