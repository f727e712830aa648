use Rattle.std.proofs.Common.{[], ◌∷◌, length, length-append, ap, ◌∙◌, sym, arith}
use Rattle.ceal_dump.proofs.Loops.{differs, space-shorter, words-same, words-rest, words-all, rest-all}
use Rattle.ceal_dump.specs.Reading.{first_byte, word_at}
use Rattle.ceal_dump.proofs.words.words.Goals as goal

pub loop-reader-smaller : goal.loop-reader-smaller
loop-reader-smaller c =
    let bs = c.loop-reader.reader in
    omega (arith, space-shorter bs (sym c.first.ensures.value ∙ c.loop-reader-test.true), ap length (c.word.ensures.rest ∙ ap (λ bs. (word_at bs).1) c.skip.ensures.rest))

-- after a space there is one word more, and each word makes the text shorter
pub loop-reader-preserved : goal.loop-reader-preserved
loop-reader-preserved c =
    let bs = c.loop-reader.reader in
    let words = c.loop-reader.words.items in
    let space = sym c.first.ensures.value ∙ c.loop-reader-test.true in
    let next = c.word.ensures.rest ∙ ap (λ bs. (word_at bs).1) c.skip.ensures.rest in
    let word = c.word.ensures.value ∙ ap (λ bs. (word_at bs).0) c.skip.ensures.rest in
    record {
      few = omega (arith, space-shorter bs space, ap length next, ap length c.in_ok-push.ensures.items, length-append words (c.word.result ∷ []), c.loop-reader.invariant.few);
      same = words-same c.args.reader.now bs words c.loop-reader.invariant.same c.loop-reader.invariant.rest
          c.word.result c.push.new.self.items c.word.new.reader space word next c.in_ok-push.ensures.items;
      rest = words-rest c.args.reader.now bs words c.loop-reader.invariant.same c.loop-reader.invariant.rest
          c.word.result c.push.new.self.items c.word.new.reader space next c.in_ok-push.ensures.items;
    }

-- no space follows, so there is no further word
pub returns-clause-value : goal.returns-clause-value
returns-clause-value c =
    words-all c.args.reader.now c.loop-reader.reader c.loop-reader.words.items c.loop-reader.invariant.same c.loop-reader.invariant.rest
    (differs (first_byte c.loop-reader.reader) 32 (λ e. c.loop-reader-test.false (c.first.ensures.value ∙ e))) (omega (arith, c.loop-reader.invariant.few))

-- no space follows, so the rest begins here
pub returns-clause-rest : goal.returns-clause-rest
returns-clause-rest c =
    rest-all c.args.reader.now c.loop-reader.reader c.loop-reader.words.items c.loop-reader.invariant.same c.loop-reader.invariant.rest
    (differs (first_byte c.loop-reader.reader) 32 (λ e. c.loop-reader-test.false (c.first.ensures.value ∙ e))) (omega (arith, c.loop-reader.invariant.few))
