use Rattle.std.proofs.Common.{◌≡◌, ◌<◌, ◌+◌, pos, drop, get_or, sym, ap, ◌∙◌, length, arith}
use Rattle.std.proofs.lemmas.List.{at_drop_more, at_drop_all}
use Rattle.ceal_base.specs.declared.word.Word.{Word}
use Rattle.ceal_base.specs.declared.word.Word.TheVariants.{Num}
use Rattle.ceal_memo.specs.declared.digest.Digest.{Digest}
use Rattle.ceal_memo.specs.Hashes.{word_number, with_wide, with_words}
use Rattle.ceal_memo.proofs.digest.with_words.Goals as goal

pub loop-word-preserved : goal.loop-word-preserved
unfolding with_words
loop-word-preserved c =
    let words = c.args.words.now in
    let seed = c.args.seed.now in
    let at = c.loop-word.word-index in
    let h : at < length words = omega arith in
    let none : Word = Num (pos 0) in
    let e : c.with_word-all.result ≡ with_wide seed c.loop-word.all (word_number (get_or words at none)) = c.with_word-all.ensures in
    ap (λ (d : Digest). with_words seed d (drop (at + 1) words)) e
    ∙ sym (at_drop_more (with_words seed c.loop-word.all) words at none h)
    ∙ c.loop-word.invariant

pub returns : goal.returns
unfolding with_words
returns c =
    sym (at_drop_all (with_words c.args.seed.now c.loop-word.all) c.args.words.now c.loop-word.word-index (omega arith))
    ∙ c.loop-word.invariant
