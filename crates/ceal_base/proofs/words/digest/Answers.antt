use Rattle.std.proofs.Common.{◌≡◌, ◌<◌, ◌+◌, ℕ, pos, drop, get_or, sym, ap, ◌∙◌, length, arith}
use Rattle.std.proofs.lemmas.List.{at_drop_more, at_drop_all}
use Rattle.ceal_base.specs.Hashing.{digest_after, mixed, word_digest}
use Rattle.ceal_base.specs.declared.word.Word.{Word}
use Rattle.ceal_base.specs.declared.word.Word.TheVariants.{Num}
use Rattle.ceal_base.proofs.words.digest.Goals as goal

pub loop-word-preserved : goal.loop-word-preserved
unfolding digest_after
loop-word-preserved c =
    let words = c.args.words.now in
    let at = c.loop-word.word-index in
    let before = c.loop-word.digest in
    let h : at < length words = omega arith in
    let none : Word = Num (pos 0) in
    let e : c.mixed-digest.result ≡ mixed before (word_digest (get_or words at none)) = c.mixed-digest.ensures.mixed ∙ ap (mixed before) c.digest.ensures.digest in
    record {
      same = ap (λ (v : ℕ). digest_after v (drop (at + 1) words)) e
          ∙ sym (at_drop_more (digest_after before) words at none h)
          ∙ c.loop-word.invariant.same;
    }

pub returns : goal.returns
unfolding digest_after
returns c = record {
  digest = sym (at_drop_all (digest_after c.loop-word.digest) c.args.words.now c.loop-word.word-index (omega arith))
      ∙ c.loop-word.invariant.same;
}
